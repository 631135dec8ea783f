-- A written list, read: what stands at the place of each array.
use Prim.Native.Nat.{ℕ, zero, suc, ◌+◌, ◌-◌, ◌*◌, ◌<◌, ◌≤◌}
use mathlib.Core.Bool.{true}
use mathlib.Core.List.{List, [], ◌∷◌, ◌++◌, append_assoc}
use mathlib.Core.Path.{◌≡◌, sym, ap, ◌∙◌}
use native.Mathlib.Omega.{arith}
use native.Mathlib.Nat.{mul-suc, add_comm, add-zero, mul-zero}
use native.Mathlib.Numerals.{add-one}
use lib.ListN.{length, get_or, take, drop, length-append, length-drop}
use lib.Seq.{take_at, drop-drop, get_or-drop, drop-append-add, drop-append_seam}
use borrow.Author.Tests.{le-leb}
use Rattle.octets.specs.Buffer.{part_at}
use Rattle.fields.specs.BigEndian.{number_of, bytes_of, number_at}
use Rattle.fields.proofs.NumberLaws.{number-of-bytes}
use Rattle.records.specs.Arrays.{kind_at, size_at, count_at, length_at, next_at, stands_at, filled_from, arrays_from, behind}
use Rattle.records.specs.Written.{RecordArray, no_records, Sound, AllSound, joined, written_array, written}
use Rattle.records.proofs.HeaderLaws.{stands, stands-within}
use Rattle.records.proofs.RunLaws.{filled-end, filled-turn, arrays-turn, arrays-none, end_none}

-- a field of two bytes that has its place
pub number-field : (at : ℕ) (s : List ℕ) → at + 2 ≤ length s → number_at 2 at s ≡ number_of (part_at at 2 s)
unfolding number_at
number-field at s h = rw (le-leb (at + 2) (length s) h)

-- Records back to back

abbrev Each : ℕ → List (List ℕ) → Type 0
Each size records = (k : ℕ) → k < length records → length (get_or records k []) ≡ size

pub length-joined : (size : ℕ) (records : List (List ℕ)) → Each size records → length (joined records) ≡ size * length records
unfolding joined
length-joined size [] e = sym (mul-zero size)
length-joined size (r ∷ records) e =
    let h : length r ≡ size = e 0 (omega arith) in
    let t = length-joined size records (λ k l. e (suc k) (omega arith)) in
    length-append r (joined records) ∙ rw (t, h) (add_comm size (size * length records) ∙ sym (mul-suc size (length records)))

pub joined-record : (size : ℕ) (records : List (List ℕ)) (rest : List ℕ) → Each size records → (k : ℕ) → k < length records
    → part_at (size * k) size (joined records ++ rest) ≡ get_or records k []
unfolding joined
joined-record size [] rest e k h = absurd (omega arith)
joined-record size (r ∷ records) rest e zero h = rw (append_assoc, mul-zero) (take_at r (joined records ++ rest) size (e 0 h))
joined-record size (r ∷ records) rest e (suc k) h =
    let l : length r ≡ size = e 0 (omega arith) in
    let t : size * suc k ≡ length r + size * k = mul-suc size k ∙ omega arith in
    rw (t, append_assoc, drop-append-add r (joined records ++ rest) (size * k))
    (joined-record size records rest (λ j q. e (suc j) (omega arith)) k (omega arith))

-- An array, where it is written

pub length-array : (a : RecordArray) → length (written_array a) ≡ 5 + length (joined a.records)
unfolding written_array
length-array a = omega arith

module _ (at : ℕ) (s : List ℕ) (a : RecordArray) (rest : List ℕ) (sound : Sound a) (here : drop at s ≡ written_array a ++ rest) where
  room : length s - at ≡ 5 + (length (joined a.records) + length rest)
  room = sym (length-drop at s) ∙ ap length here ∙ length-append (written_array a) rest ∙ omega (arith, length-array a)

  parts : drop at s ≡ a.kind ∷ (bytes_of 2 a.size ++ (bytes_of 2 (length a.records) ++ (joined a.records ++ rest)))
  unfolding written_array
  parts = here ∙ simp append_assoc

  pub kind-here : kind_at at s ≡ a.kind
  kind-here = rw add-zero at (sym (get_or-drop at s 0 0)) ∙ rw parts

  size-part : drop (at + 1) s ≡ bytes_of 2 a.size ++ (bytes_of 2 (length a.records) ++ (joined a.records ++ rest))
  size-part = sym (drop-drop 1 at s) ∙ rw parts

  count-part : drop (at + 3) s ≡ bytes_of 2 (length a.records) ++ (joined a.records ++ rest)
  count-part = sym (drop-drop 3 at s) ∙ rw parts

  pub records-part : drop (at + 5) s ≡ joined a.records ++ rest
  records-part = sym (drop-drop 5 at s) ∙ rw parts

  pub size-here : size_at at s ≡ a.size
  size-here = number-field (at + 1) s (omega (arith, room)) ∙ rw size-part (number-of-bytes 2 a.size sound.size)

  pub count-here : count_at at s ≡ length a.records
  count-here = number-field (at + 3) s (omega (arith, room)) ∙ rw count-part (number-of-bytes 2 (length a.records) sound.count)

  pub length-here : length_at at s ≡ length (joined a.records)
  length-here = rw (size-here, count-here) (sym (length-joined a.size a.records sound.each))

  pub next_here : next_at at s ≡ at + length (written_array a)
  next_here = omega (arith, length-here, length-array a)

  pub stands_here : stands_at at s ≡ true
  stands_here = stands at s (omega (arith, size-here, sound.some)) (omega (arith, length-here, room))

  pub rest-here : drop (next_at at s) s ≡ rest
  rest-here = rw length-here (sym (drop-drop (length (joined a.records)) (at + 5) s) ∙ rw records-part (drop-append_seam (joined a.records) rest))

-- A list of them

tail-sound : (a : RecordArray) (l : List RecordArray) → AllSound (a ∷ l) → AllSound l
tail-sound a l w i h = w (suc i) (omega arith)

at-end : (at : ℕ) (s : List ℕ) → at ≤ length s → drop at s ≡ [] → at ≡ length s
at-end at s h e = omega (arith, length-drop at s, ap length e)

pub length-list : (l : List RecordArray) → length l ≤ length (written l)
unfolding written
length-list [] = omega arith
length-list (a ∷ l) = omega (arith, length-append (written_array a) (written l), length-array a, length-list l)

pub filled-written : (l : List RecordArray) (most at : ℕ) (s : List ℕ) → AllSound l → length l ≤ most → at ≤ length s → drop at s ≡ written l
    → (filled_from most at s ≡ true) × (arrays_from most at s ≡ length l)
unfolding written
filled-written [] most at s w m h e =
    let t = at-end at s h e in
    (rw t (filled-end most s), rw t (arrays-none most (length s) s (end_none s)))
filled-written (a ∷ l) zero at s w m h e = absurd (omega arith)
filled-written (a ∷ l) (suc most) at s w m h e =
    let sound = w 0 (omega arith) in
    let t = stands_here at s a (written l) sound e in
    let q = filled-written l most (next_at at s) s (tail-sound a l w) (omega arith) (stands-within at s t) (rest-here at s a (written l) sound e) in
    let inside : at < length s = omega (arith, stands-within at s t) in
    (filled-turn most at s inside ∙ rw (t, q.0), arrays-turn most at s t ∙ rw q.1 (add-one (length l)))

-- behind the first i of them stands the next
pub behind-written : (l : List RecordArray) (i at : ℕ) (s : List ℕ) → AllSound l → i < length l → drop at s ≡ written l
    → (drop (behind i at s) s ≡ written_array (get_or l i no_records) ++ written (drop (suc i) l)) × (behind i at s ≡ at + length (written (take i l)))
unfolding written behind
behind-written [] i at s w h e = absurd (omega arith)
behind-written (a ∷ l) zero at s w h e = (e, omega arith)
behind-written (a ∷ l) (suc i) at s w h e =
    let sound = w 0 (omega arith) in
    let t = stands_here at s a (written l) sound e in
    let q = behind-written l i (next_at at s) s (tail-sound a l w) (omega arith) (rest-here at s a (written l) sound e) in
    rw t (q.0, q.1 ∙ omega (arith, next_here at s a (written l) sound e, length-append (written_array a) (written (take i l))))
