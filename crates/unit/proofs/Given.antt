-- The unit's call at other addresses: the frame's number and data stay, so what it asks for does, and the reply is written at these.
use Prim.Native.Nat.{ℕ}
use mathlib.Core.Bool.{Bool, true, false, cond}
use mathlib.Core.List.{List, [], ◌∷◌}
use mathlib.Core.Path.{◌≡◌, sym, ap, ◌∙◌}
use lib.Dec.{eqb}
use lib.ListN.{length}
use Rattle.octets.specs.Buffer.{front}
use Rattle.frame.specs.declared.Addresses.{Addresses}
use Rattle.frame.specs.declared.End.TheVariants as ends
use Rattle.frame.specs.Readdressed.{readdressed}
use Rattle.frame.proofs.GivenLaws.{equal-ones, different-ones, at-equal, at-different}
use Rattle.frame.proofs.Readdressed.{readdressed-number, readdressed-data, readdressed-first, readdressed-length, readdressed-none, readdressed-frame}
use Rattle.services.specs.declared.UnitState.{UnitState}
use Rattle.unit.specs.Call.{reaction_at, reaction_to, reply_data, reply_to, unit_number, unit_state, unit_reply, unit_result, unit_out}
use Rattle.unit.specs.Call.{unit_result_given, unit_out_given}
use Rattle.unit.specs.Given.{UnitGivenClaims}

module _ (a b : Addresses) (store : List ℕ) (out_len : ℕ) (u : UnitState) (f : List ℕ) where
  same-reaction : reaction_to b store u (readdressed a b ends.Unit f) ≡ reaction_to a store u f
  unfolding reaction_to reaction_at
  same-reaction = rw (readdressed-data a b ends.Unit f, readdressed-first a b ends.Unit f)

  same_number : unit_number b store out_len u (readdressed a b ends.Unit f) ≡ unit_number a store out_len u f
  unfolding unit_number
  same_number = rw (readdressed-number a b ends.Unit f)

  same-state : unit_state b store out_len u (readdressed a b ends.Unit f) ≡ unit_state a store out_len u f
  unfolding unit_state
  same-state = rw (same_number, same-reaction)

  other-data : (d : List ℕ) → reply_to b d ≡ readdressed a b ends.Tool (reply_to a d)
  unfolding reply_to
  other-data [] = sym (readdressed-none a b ends.Tool)
  other-data (x ∷ d) = sym (readdressed-frame a b ends.Tool (x ∷ d))

  held_back : (t : Bool) (d : List ℕ) → cond t (reply_to b d) [] ≡ readdressed a b ends.Tool (cond t (reply_to a d) [])
  held_back true d = other-data d
  held_back false d = sym (readdressed-none a b ends.Tool)

  pub other-reply : unit_reply b store out_len u (readdressed a b ends.Unit f) ≡ readdressed a b ends.Tool (unit_reply a store out_len u f)
  unfolding unit_reply
  other-reply = rw (same_number, same-reaction) (held_back (eqb (unit_number a store out_len u f) 0) (reply_data store (reaction_to a store u f)))

  pub same-result : unit_result b store out_len u (readdressed a b ends.Unit f) ≡ unit_result a store out_len u f
  unfolding unit_result
  same-result = rw (same_number, same-state, other-reply, readdressed-length a b ends.Tool (unit_reply a store out_len u f))

-- the reply buffer
other-out : (a b : Addresses) (store : List ℕ) (u : UnitState) (f out : List ℕ)
    → unit_out b store u (readdressed a b ends.Unit f) out ≡ front (readdressed a b ends.Tool (unit_reply a store (length out) u f)) out
unfolding unit_out
other-out a b store u f out = ap (λ (r : List ℕ). front r out) (other-reply a b store (length out) u f)

pub claims : UnitGivenClaims
unfolding unit_result_given unit_out_given
claims =
    record {
      equal = λ a e store out_len u f. at-equal a _ _ (equal-ones a e);
      equal_out = λ a e store u f out. at-equal a _ _ (equal-ones a e);
      different = λ a n store out_len u f. at-different a _ _ (different-ones a n);
      different_out = λ a n store u f out. at-different a _ _ (different-ones a n);
      readdressed_result = λ a b n m store out_len u f.
          at-different b _ _ (different-ones b m) ∙ same-result a b store out_len u f ∙ sym (at-different a _ _ (different-ones a n));
      readdressed_reply = other-reply;
      readdressed_out = λ a b n store u f out. at-different b _ _ (different-ones b n) ∙ other-out a b store u f out;
    }
