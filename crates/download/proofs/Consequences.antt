-- What follows from demand 3 and its proof for the cable ends.
use Prim.Native.Nat.{ℕ, zero, suc}
use mathlib.Core.Bool.{Bool, true, false, cond}
use mathlib.Core.List.{List, [], ◌∷◌}
use mathlib.Core.Path.{◌≡◌, refl, sym, ◌∙◌}
use lib.ListN.{length, get_or}
use Rattle.frame.specs.declared.Addresses.{Addresses}
use Rattle.frame.specs.declared.End.TheVariants as ends
use Rattle.frame.specs.Frame.{data_of}
use Rattle.frame.proofs.GivenLaws.{different-ones}
use Rattle.split.specs.Codes.{sub}
use Rattle.split.specs.Split.{is_split, sub_field}
use Rattle.split.proofs.Theorems.{sub-reads-back}
use Rattle.services.specs.declared.Phase.{Phase}
use Rattle.services.specs.declared.Phase.TheVariants.{Closed, Started, Session, Granted, Sending}
use Rattle.services.specs.State.{phase_possible}
use Rattle.unit.specs.State.{place_sent}
use Rattle.progress.specs.declared.Outcome.TheVariants.{NoRoom, Refused}
use Rattle.line.specs.Line.{tool_end, Event}
use Rattle.line.specs.Book as books
use Rattle.line.specs.Book.{Run, run, start}
use Rattle.line.specs.Premises.{AllAllowed}
use Rattle.line.specs.Claims.{Within, no_number, is_number, Every, unnumbered}
use Rattle.line.proofs.Cases.{never}
use Rattle.line.proofs.Laws.{after-allowed}
use Rattle.download.specs.CableEnds.{cable_ends, refused}
use Rattle.download.specs.Demand.{Premises, SendingUnchanged, StorePremise, answer_data, transfer, outcome_of}
use Rattle.download.proofs.ServiceFacts.{ranges, sending-held}
use Rattle.download.proofs.UnitFacts.{unit_after}
use Rattle.download.proofs.Theorem.{facts, demand3}

every_map : {S : Type 0} {P Q : S → Type 0} → ((x : S) → P x → Q x) → (xs : List S) → Every P xs → Every Q xs
every_map f [] t = tt
every_map f (x ∷ xs) t = (f x t.0, every_map f xs t.1)

-- The strings on the way to the tool
module _ (a : Addresses) (n : a.unit ≡ a.tool → ⊥) (g : Premises) (es : List (Event cable_ends))
    (o : AllAllowed cable_ends (transfer a g) es (start cable_ends (transfer a g)).system) where
  abbrev after : Run cable_ends
  after = run cable_ends (transfer a g) es (start cable_ends (transfer a g))

  -- Numbers above the expected one, p + 1, never arrive: what the tool's frame rules let pass is one of the frames 1 to p + 1.
  pub none_above_lem : Every (Within (unnumbered cable_ends (transfer a g)) (transfer a g).frame 1 (suc after.book.taken)) after.system.to_tool
  none_above_lem = (after-allowed cable_ends (transfer a g) (facts a (different-ones a n) g) es o).none_above

  -- The unit never answers these requests by 12, 22 or FA: all that it replies joins this queue, and what passes the frame rules there begins with 76, not with
  -- 7F.
  begins-76 : (x : List ℕ) → Within (unnumbered cable_ends (transfer a g)) (transfer a g).frame 1 (suc after.book.taken) x → refused a tool_end x ≡ false
      → get_or (data_of a ends.Tool x) 0 0 ≡ 0x76
  unfolding sub_field
  begins-76 x (no_number r) i = never (cc (rw i at r))
  begins-76 x (is_number k l h) i = rw (sub-reads-back a g.name.trep (suc k) (answer_data g))

  pub no-refusal : Every (λ (x : List ℕ). refused a tool_end x ≡ false → get_or (data_of a ends.Tool x) 0 0 ≡ 0x76) after.system.to_tool
  no-refusal = every_map begins-76 after.system.to_tool none_above_lem

  -- So the tool ends neither by a wire code nor by "no room".
  no_code : (b : books.Outcome) (code : ℕ) → outcome_of b ≡ Refused code → ⊥
  no_code books.waiting code e = never (cc)
  no_code books.done code e = never (cc)
  no_code books.no_answer code e = never (cc)
  no_code books.held_off code e = never (cc)

  pub never-refused : (code : ℕ) → after.system.tool.state.outcome ≡ Refused code → ⊥
  never-refused code e = no_code after.book.outcome code (sym ((demand3 a n g es).allowed o).outcome ∙ e)

  room-left : (b : books.Outcome) → outcome_of b ≡ NoRoom → ⊥
  room-left books.waiting e = never (cc)
  room-left books.done e = never (cc)
  room-left books.no_answer e = never (cc)
  room-left books.held_off e = never (cc)

  pub never-no-room : after.system.tool.state.outcome ≡ NoRoom → ⊥
  never-no-room e = room-left after.book.outcome (sym ((demand3 a n g es).allowed o).outcome ∙ e)

-- A store that stays as it is meets the premise at every call, in each state that the unit comes to.
module _ (g : Premises) where
  at-begin : (p : Phase) → phase_possible (place_sent g.store p) p ≡ true → SendingUnchanged p g.store g.store
  at-begin Closed h = tt
  at-begin Started h = tt
  at-begin Session h = tt
  at-begin Granted h = tt
  at-begin (Sending name last) h = record { held = sending-held g.store name last h; bytes = refl }

  while-sending : (k : ℕ) (b : Bool) → SendingUnchanged (cond b (Sending g.name (sub k)) Granted) g.store g.store
  while-sending k true = record { held = g.holds.held; bytes = refl }
  while-sending k false = tt

  pub steady : (n : ℕ) → StorePremise g (unit_after g n) g.store
  steady zero = record { this = g.holds; sending = at-begin g.unit.phase (ranges g.store g.unit g.possible).phase }
  steady (suc k) = record { this = g.holds; sending = while-sending (suc k) (is_split (length (answer_data g))) }
