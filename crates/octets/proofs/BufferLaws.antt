-- What lent buffers hold after writes, and the loops that write, a turn at a time.
use Rattle.std.proofs.Common.{◌≡◌, ℕ, suc, ◌+◌, ◌-◌, ◌<◌, ◌≤◌, true, eqb, List, [], ◌∷◌, ◌++◌, length, get_or, take, drop, set, sym, refl, ap, ◌∙◌, append_assoc, append-nil, suc-add, zero-add, add-one, arith, length-append, length-drop, take-append-drop, drop_of_length-le, length-take, length-take-le, take_all, get_or-take, take-suc, drop-drop, take_at, eq-eqb, eqb-true, le-leb}
use lib.ListN.{get_or-append}
use lib.ListN.{get_or-eq_default}
use lib.Seq.{take-append_seam, drop-append-add, take-length, take-nil, paste}
use lib.Seq.{paste-suc, set_at, sets, sets-eq, slice, slice_empty, slice-cons, append_snoc}
use borrow.Author.Tests.{lt-leb}
use Rattle.octets.specs.Buffer.{part_at, same_bytes, front, put, copied, moved, shifted}
use Rattle.octets.proofs.Tests.{and_left, and_right}

-- Parts

module _ (s : List ℕ) (start n : ℕ) where
  -- a part that starts behind the end is empty
  pub part-behind : length s < start → take (length s - length s) (drop (length s) s) ≡ part_at start n s
  part-behind h = rw (drop_of_length-le s {i = length s} (omega arith), drop_of_length-le s {i = start} (omega arith), take-nil, take-nil)

  -- one that ends behind it is cut there
  pub part_cut : length s - start < n → take (length s - start) (drop start s) ≡ part_at start n s
  part_cut h =
      let m : length (drop start s) ≡ length s - start = length-drop start s in
      take_all (length s - start) (drop start s) (omega arith) ∙ sym (take_all n (drop start s) (omega arith))

  pub part-whole : take (start + n - start) (drop start s) ≡ part_at start n s
  part-whole = let e : start + n - start ≡ n = omega arith in rw e

  pub length_part : start + n ≤ length s → length (part_at start n s) ≡ n
  length_part h = simp (length-take, length-drop) (omega arith)

-- behind the end stands 0
pub byte-behind : (s : List ℕ) (i : ℕ) → length s ≤ i → 0 ≡ get_or s i 0
byte-behind s i h = sym (get_or-eq_default s 0 h)

-- The same bytes

pub same_self : (s : List ℕ) → same_bytes s s ≡ true
same_self [] = refl
same_self (x ∷ s) = rw (eq-eqb x x refl) (same_self s)

pub same-is : (a b : List ℕ) → same_bytes a b ≡ true → a ≡ b
same-is [] [] h = refl
same-is [] (y ∷ b) h = cc
same-is (x ∷ a) [] h = cc
same-is (x ∷ a) (y ∷ b) h =
    let e : x ≡ y = eqb-true x y (and_left (eqb x y) _ h) in
    let t : a ≡ b = same-is a b (and_right (eqb x y) _ h) in
    cc

-- Fronts and puts

pub length_front : (p o : List ℕ) → length p ≤ length o → length (front p o) ≡ length o
unfolding front
length_front p o h = simp (length-append, length-drop) (omega arith)

pub length-put : (at : ℕ) (p o : List ℕ) → at + length p ≤ length o → length (put at p o) ≡ length o
unfolding put
length-put at p o h = simp (length-append, length-take, length-drop) (omega arith)

-- behind a front of at bytes, the next
pub put_front : (at : ℕ) (p v o : List ℕ) → length p ≡ at → put at v (front p o) ≡ front (p ++ v) o
unfolding front put
put_front at p v o e = rw (← e, take-append_seam, drop-append-add, drop-drop, length-append)

-- two puts one behind the other are one
pub put-put : (h : ℕ) (v w o : List ℕ) → h + length v ≤ length o → put (h + length v) w (put h v o) ≡ put h (v ++ w) o
unfolding put
put-put h v w o m =
    let p : length (take h o ++ v) ≡ h + length v = simp (length-append, length-take) (omega arith) in
    let q : h + length v + length w ≡ h + length (v ++ w) = omega (arith, length-append v w) in
    let r : drop (h + length v + length w) ((take h o ++ v) ++ drop (h + length v) o) ≡ drop (h + length (v ++ w)) o =
    rw (← p, drop-append-add, drop-drop, p, q) in
    rw (r, take_at (take h o ++ v) (drop (h + length v) o) (h + length v) p)
    (ap (λ (l : List ℕ). l ++ drop (h + length (v ++ w)) o) (append_assoc (take h o) v w))

-- what was put at the front is its front
pub take-front : (at : ℕ) (p o : List ℕ) → length p ≡ at → take at (front p o) ≡ p
unfolding front
take-front at p o e = take_at p (drop (length p) o) at e

-- stores one behind the other are a put
pub stores-put : (at : ℕ) (v o : List ℕ) → at + length v ≤ length o → sets o at v ≡ put at v o
unfolding put
stores-put at v o h = sets-eq v o at h

pub stores-front : (v o : List ℕ) → length v ≤ length o → sets o 0 v ≡ front v o
unfolding front
stores-front v o h = let h' : 0 + length v ≤ length o = omega arith in rw zero-add at (sets-eq v o 0 h')

-- Copying to the front

pub copy_more : (i : ℕ) (v o o' : List ℕ) → length v ≤ length o → i < length v → o' ≡ paste o 0 v i → set o' i (get_or v i 0) ≡ paste o 0 v (i + 1)
copy_more i v o o' b h e =
    let z : set (paste o 0 v i) (0 + i) (get_or v i 0) ≡ paste o 0 v (suc i) = paste-suc o 0 v i 0 (omega arith) h in
    rw (e, add-one) (ap (λ (n : ℕ). set (paste o 0 v i) n (get_or v i 0)) (sym (zero-add i)) ∙ z)

pub copied_all : (i : ℕ) (v o o' : List ℕ) → length v ≤ length o → i ≤ length v → length v ≤ i → o' ≡ paste o 0 v i → o' ≡ copied v o
unfolding copied front
copied_all i v o o' b p q e =
    let t : i ≡ length v = omega arith in
    simp (le-leb _ _ b) (rw (e, t, take-length, zero-add))

pub copied_none : (v o : List ℕ) → length o < length v → o ≡ copied v o
unfolding copied
copied_none v o h = simp (lt-leb _ _ h)

-- a copy that fits
pub copied-fits : (v o : List ℕ) → length v ≤ length o → copied v o ≡ front v o
unfolding copied
copied-fits v o h = simp (le-leb _ _ h)

-- A tail lent on

-- a slice after its tail from a on was lent to a function that leaves f of what it is handed
pub lent : (f : List ℕ → List ℕ) (a : ℕ) (xs ys : List ℕ) → ys ≡ f (take (length xs - a) (drop a xs))
    → take a xs ++ (ys ++ drop (length xs - a) (drop a xs)) ≡ take a xs ++ f (drop a xs)
lent f a xs ys e =
    let t : take (length xs - a) (drop a xs) ≡ drop a xs = take_all (length xs - a) (drop a xs) (simp length-drop (omega arith)) in
    let d : drop (length xs - a) (drop a xs) ≡ [] = drop_of_length-le (drop a xs) {i = length xs - a} (simp length-drop (omega arith)) in
    rw (d, append-nil, e, t)

-- bytes copied to the front of the tail from at on are put at at
pub front-of-tail : (at : ℕ) (v o : List ℕ) → take at o ++ front v (drop at o) ≡ put at v o
unfolding front put
front-of-tail at v o = rw drop-drop (sym (append_assoc (take at o) v (drop (at + length v) o)))

pub lent-copy : (at : ℕ) (v o o' : List ℕ) → at + length v ≤ length o → o' ≡ copied v (take (length o - at) (drop at o))
    → take at o ++ (o' ++ drop (length o - at) (drop at o)) ≡ put at v o
lent-copy at v o o' h e =
    lent (copied v) at o o' e ∙ ap (λ (l : List ℕ). take at o ++ l) (copied-fits v (drop at o) (simp length-drop (omega arith))) ∙ front-of-tail at v o

-- Shifting up

pub shift_none : (start end by : ℕ) (b : List ℕ) → b ≡ moved end end by b
unfolding moved
shift_none start end by b = rw (slice_empty, take-append-drop)

moved_more : (b : List ℕ) (i end by : ℕ) → i < end → end + by ≤ length b →
    set (moved (suc i) end by b) (i + by) (get_or (moved (suc i) end by b) i 0) ≡ moved i end by b
unfolding moved
moved_more b i end by h k =
    let r : List ℕ = slice (suc i) end b ++ drop (end + by) b in
    let e : take (suc i + by) b ≡ take (i + by) b ++ (get_or b (i + by) 0 ∷ []) = rw suc-add (take-suc b (i + by) 0 (omega arith)) in
    let v : get_or (take (suc i + by) b ++ r) i 0 ≡ get_or b i 0 =
    get_or-append (take (suc i + by) b) r 0 i (simp length-take (omega arith)) ∙ get_or-take (suc i + by) b i 0 (omega arith) in
    ap (λ (n : ℕ). set (take (suc i + by) b ++ r) (i + by) n) v
    ∙ ap (λ (l : List ℕ). set (l ++ r) (i + by) (get_or b i 0)) e
    ∙ ap (λ (l : List ℕ). set l (i + by) (get_or b i 0)) (append_snoc (take (i + by) b) (get_or b (i + by) 0) r)
    ∙ set_at (take (i + by) b) (get_or b (i + by) 0) r (get_or b i 0) (i + by) (length-take-le (i + by) b (omega arith))
    ∙ ap (λ (l : List ℕ). take (i + by) b ++ (l ++ drop (end + by) b)) (sym (slice-cons i end b 0 h (omega arith)))

-- a turn of the loop, from the back: i is the index before it is lowered
pub shift-more : (b b' : List ℕ) (start i end by : ℕ) → start < i → i ≤ end → end ≤ length b → by ≤ length b - end → b' ≡ moved i end by b →
    set b' (i - 1 + by) (get_or b' (i - 1) 0) ≡ moved (i - 1) end by b
shift-more b b' start i end by l h m k e =
    let j : ℕ = i - 1 in
    let t : i ≡ suc j = omega arith in
    let d : b' ≡ moved (suc j) end by b = rw t at e in
    ap (λ (s : List ℕ). set s (j + by) (get_or s j 0)) d ∙ moved_more b j end by (omega arith) (omega arith)

pub shift-done : (b b' : List ℕ) (start i end by : ℕ) → start ≤ end → end ≤ length b → by ≤ length b - end → start ≤ i → i ≤ start → b' ≡ moved i end by b
    → b' ≡ shifted start end by b
unfolding shifted
shift-done b b' start i end by s n k p q e =
    let t : i ≡ start = omega arith in
    simp (le-leb start end s, le-leb (end + by) (length b) (omega arith)) (rw t at e)

pub shift-refused-order : (b : List ℕ) (start end by : ℕ) → end < start → b ≡ shifted start end by b
unfolding shifted
shift-refused-order b start end by h = simp (lt-leb start end h)

pub shift-refused-room : (b : List ℕ) (start end by : ℕ) → start ≤ end → length b - end < by → b ≡ shifted start end by b
unfolding shifted
shift-refused-room b start end by s h = simp (le-leb start end s, lt-leb (end + by) (length b) (omega arith))

pub shift-refused-end : (b : List ℕ) (start end by : ℕ) → start ≤ end → length b < end → b ≡ shifted start end by b
unfolding shifted
shift-refused-end b start end by s h = simp (le-leb start end s, lt-leb (end + by) (length b) (omega arith))

-- a shift that fits
pub shifted_fits : (start end by : ℕ) (b : List ℕ) → start ≤ end → end + by ≤ length b → shifted start end by b ≡ moved start end by b
unfolding shifted
shifted_fits start end by b s h = simp (le-leb start end s, le-leb (end + by) (length b) h)
