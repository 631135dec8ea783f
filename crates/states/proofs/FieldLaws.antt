-- Lists of bytes spelled out, and the fields in them.
use Prim.Native.Nat.{ℕ, zero, suc, ◌+◌, ◌<◌, ◌≤◌}
use mathlib.Core.Bool.{true}
use mathlib.Core.List.{List, [], ◌∷◌}
use mathlib.Core.Path.{◌≡◌, refl, sym, ap, ◌∙◌}
use native.Mathlib.Omega.{arith}
use lib.ListN.{length, get_or, take, drop, length-drop}
use lib.Seq.{drop-cons, take_all, get_or-drop}
use borrow.Author.Tests.{le-leb}
use Rattle.fields.specs.BigEndian.{number_of, bytes_of, field_width, number_at}
use Rattle.octets.specs.Buffer.{part_at}
use Rattle.fields.proofs.NumberLaws.{bytes-of-number, read-two}

-- n bytes from index i on
abbrev pub bytes_from : ℕ → ℕ → List ℕ → List ℕ
bytes_from zero i b = []
bytes_from (suc n) i b = get_or b i 0 ∷ bytes_from n (suc i) b

pub part-spelled : (n i : ℕ) (b : List ℕ) → i + n ≤ length b → part_at i n b ≡ bytes_from n i b
part-spelled zero i b h = refl
part-spelled (suc n) i b h =
    ap (take (suc n)) (drop-cons b i 0 (omega arith)) ∙ ap (λ (l : List ℕ). get_or b i 0 ∷ l) (part-spelled n (suc i) b (omega arith))

pub spelled : (n : ℕ) (b : List ℕ) → length b ≡ n → bytes_from n 0 b ≡ b
spelled n b h = sym (part-spelled n 0 b (omega arith)) ∙ take_all n b (omega arith)

-- the number in a field of two, from its bytes
pub field-two : (at n x y : ℕ) (b : List ℕ) → at + 2 ≤ length b → n ≡ number_of (x ∷ y ∷ []) → x ≡ get_or b at 0 → y ≡ get_or b (at + 1) 0 → n ≡ number_at 2 at b
field-two at n x y b h e p q = read-two at b n 2 (omega arith) (omega arith) refl (e ∙ rw (p, q))

-- a field is what its number is written as
pub field_back : (width at : ℕ) (b : List ℕ) → ((i : ℕ) → get_or b i 0 < 256) → field_width width ≡ true → at + width ≤ length b
    → bytes_of width (number_at width at b) ≡ bytes_from width at b
unfolding number_at
field_back width at b bytes f h =
    rw (f, le-leb (at + width) (length b) h)
    (bytes-of-number 0 (drop at b) (λ i. rw get_or-drop (bytes (at + i))) width (simp length-drop (omega arith)) ∙ part-spelled width at b h)
