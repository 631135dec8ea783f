-- The string at the addresses b that a string at the addresses a is: with it the claims say that an end at b is the end
-- at a with other addresses in its frames (document 02, Req 05: "proved once"). A string with a wrong CS gets another
-- wrong one.
use Rattle.std.specs.Prelude.{ℕ, ◌+◌, ◌-◌, ◌%◌, Bool, cond, List, [], ◌∷◌, ◌++◌, length, get_or, take, drop, leb, eqb}
use Rattle.octets.specs.Order.{unless}
use Rattle.octets.specs.Sum.{checksum_of}
use Rattle.frame.specs.declared.End.{End}
use Rattle.frame.specs.declared.Addresses.{Addresses}
use Rattle.frame.specs.Frame.{target, source, checksum_right}

-- p and q change places, every other byte stays: so a wrong address stays wrong
unfoldable pub exchanged : ℕ → ℕ → ℕ → ℕ
exchanged p q x = cond (eqb x p) q (cond (eqb x q) p x)

-- the body with a right CS or with a wrong one
unfoldable pub closed_as : Bool → List ℕ → List ℕ
closed_as right body = body ++ (cond right (checksum_of body) ((checksum_of body + 1) % 256) ∷ [])

-- target and source of a become those of b, and CS is right where it was; under five bytes there is no frame
unfoldable pub readdressed : Addresses → Addresses → End → List ℕ → List ℕ
readdressed a b end s =
    unless (leb 5 (length s)) s
    (closed_as (checksum_right s)
    (get_or s 0 0
    ∷ exchanged (target a end) (target b end) (get_or s 1 0)
    ∷ exchanged (source a end) (source b end) (get_or s 2 0)
    ∷ drop 3 (take (length s - 1) s)))
