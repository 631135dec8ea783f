-- Demand 3 over the packed ends: the facts hold of them, so the line's laws do; and what they say of the packed states, the unpacked ones are.
use mathlib.Core.Bool.{true}
use mathlib.Core.List.{List}
use mathlib.Core.Path.{◌≡◌, refl, ap, ◌∙◌}
use Rattle.frame.specs.declared.Addresses.{Addresses}
use Rattle.frame.specs.Given.{different}
use Rattle.frame.proofs.GivenLaws.{different-ones}
use Rattle.tool.proofs.BoundLaws as tool_bounds
use Rattle.states.specs.Packed.{packed_unit, unpacked_unit, packed_tool, unpacked_tool}
use Rattle.line.specs.Line.{Event}
use Rattle.line.specs.Book as books
use Rattle.line.specs.Book.{Run}
use Rattle.line.specs.Premises.{AllAllowed, AllClean}
use Rattle.line.specs.Claims.{AfterAllowed, AfterClean, ToolAs}
use Rattle.line.specs.Claims as claims
use Rattle.line.proofs.Laws as laws
use Rattle.line.proofs.Clean as clean_laws
use Rattle.download.specs.CableEnds.{ToolRoom, cable_ends}
use Rattle.download.specs.Demand.{Premises, transfer, Agrees, AgreesClean}
use Rattle.download.proofs.UnitFacts as units
use Rattle.download.proofs.ToolFacts as tools
use Rattle.download.proofs.Theorem as theorem
use Rattle.packed.specs.PackedEnds.{ToolBytes, packed_ends}
use Rattle.packed.specs.PackedDemand.{StateBytes, packed_transfer, unpacked_run, Packs, packed_start, packed_run, PackedDemand3}
use Rattle.packed.proofs.Calls.{tool_bytes, tool-returns}
use Rattle.packed.proofs.Facts.{unit-after-returns, waiting-fits, done-fits, no-answer-fits, packed_facts}

abbrev unpacked_tools : ToolBytes → ToolRoom
unpacked_tools t = record { state = unpacked_tool t.state; room = t.room }

-- bytes that are a state packed are read as it
read : (b : ToolBytes) (t : ToolRoom) → tool_bounds.Fits t.state → b ≡ tool_bytes t → unpacked_tools b ≡ t
read b t f e = rw (e, tool-returns t.state f)

module _ (a : Addresses) (two : different a ≡ true) (g : Premises) (bytes : StateBytes g) (es : List (Event packed_ends))
    (o : AllAllowed packed_ends (packed_transfer a g bytes) es (packed_start a g bytes).system) where
  abbrev after : Run packed_ends
  after = packed_run a g bytes es

  claimed : AfterAllowed packed_ends (packed_transfer a g bytes) after
  claimed = laws.after-allowed packed_ends (packed_transfer a g bytes) (packed_facts a two g bytes) es o

  agreed : claims.EndsAgree packed_ends (packed_transfer a g bytes) (packed_facts a two g bytes) after
  agreed = laws.agrees packed_ends (packed_transfer a g bytes) (packed_facts a two g bytes) es o

  -- book, counts and queues are those of the unpacked run
  claimed-unpacked : AfterAllowed cable_ends (transfer a g) (unpacked_run after)
  claimed-unpacked =
      record {
        taken_at_most = claimed.taken_at_most;
        failed_at_most = claimed.failed_at_most;
        time_asked_at_most = claimed.time_asked_at_most;
        done_at_q = claimed.done_at_q;
        no_answer_at_three = claimed.no_answer_at_three;
        held_off_behind_most = claimed.held_off_behind_most;
        held_off_some = claimed.held_off_some;
        time_before_first = claimed.time_before_first;
        sent_waiting = claimed.sent_waiting;
        sent_no_answer = claimed.sent_no_answer;
        sent_held_off = claimed.sent_held_off;
        put_out_at_most = claimed.put_out_at_most;
        none_above = claimed.none_above;
      }

  -- and the tool's bytes are read as the tool that the book has
  tool-unpacked : (outcome : books.Outcome)
      → ToolAs packed_ends (packed_transfer a g bytes) (packed_facts a two g bytes) after.system.tool after.system.put_out after.put_out_before
      after.book.taken
      after.book.failed after.book.time_asked outcome
      → ToolAs cable_ends (transfer a g) (theorem.facts a two g) (unpacked_run after).system.tool after.system.put_out after.put_out_before
      after.book.taken
      after.book.failed after.book.time_asked outcome
  unfolding packed_facts theorem.facts
  tool-unpacked books.waiting t =
      read after.system.tool (tools.waiting_tool g after.book.taken after.book.failed)
      (waiting-fits g bytes after.book.taken after.book.failed claimed.taken_at_most) t
  tool-unpacked books.done t =
      record {
        taken = t.taken;
        failed = t.failed;
        time_asked = t.time_asked;
        waits = record { more = t.waits.more; failed = t.waits.failed; time_asked = t.waits.time_asked };
        last = t.last;
        is = read after.system.tool (tools.done_tool g t.failed) (done-fits g bytes t.failed) t.is;
        sent = t.sent;
      }
  tool-unpacked books.no_answer t =
      read after.system.tool (tools.no_answer_tool g after.book.taken) (no-answer-fits g bytes after.book.taken claimed.taken_at_most) t
  tool-unpacked books.held_off t =
      read after.system.tool (tools.no_answer_tool g after.book.taken) (no-answer-fits g bytes after.book.taken claimed.taken_at_most) t

  -- so are the unit's
  unit-unpacked : theorem.UnitAt a two g (unpacked_run after)
  unfolding packed_facts
  unit-unpacked =
      let u : after.system.unit ≡ packed_unit (units.unit_after g agreed.last) = agreed.unit in
      record { last = agreed.last; most = agreed.bounds.sent; is = ap unpacked_unit u ∙ unit-after-returns g bytes agreed.last agreed.bounds.sent }

  pub allowed : Agrees a g (unpacked_run after)
  allowed =
      theorem.agrees_at a two g (unpacked_run after)
      (theorem.tool-at a two g (unpacked_run after) after.book.outcome refl (tool-unpacked after.book.outcome agreed.tool) claimed-unpacked)
      unit-unpacked
      claimed-unpacked

  -- the state bytes are what the states are packed as
  unit-packs : after.system.unit ≡ packed_unit (unpacked_unit after.system.unit)
  unfolding packed_facts
  unit-packs =
      let u : after.system.unit ≡ packed_unit (units.unit_after g agreed.last) = agreed.unit in
      rw (u, unit-after-returns g bytes agreed.last agreed.bounds.sent)

  packs-again : (b : ToolBytes) (t : ToolRoom) → tool_bounds.Fits t.state → b ≡ tool_bytes t → b.state ≡ packed_tool (unpacked_tool b.state)
  packs-again b t f e = rw (e, tool-returns t.state f)

  tool-packs : (outcome : books.Outcome)
      → ToolAs packed_ends (packed_transfer a g bytes) (packed_facts a two g bytes) after.system.tool after.system.put_out after.put_out_before
      after.book.taken
      after.book.failed after.book.time_asked outcome
      → after.system.tool.state ≡ packed_tool (unpacked_tool after.system.tool.state)
  unfolding packed_facts
  tool-packs books.waiting t =
      packs-again after.system.tool (tools.waiting_tool g after.book.taken after.book.failed)
      (waiting-fits g bytes after.book.taken after.book.failed claimed.taken_at_most) t
  tool-packs books.done t = packs-again after.system.tool (tools.done_tool g t.failed) (done-fits g bytes t.failed) t.is
  tool-packs books.no_answer t =
      packs-again after.system.tool (tools.no_answer_tool g after.book.taken) (no-answer-fits g bytes after.book.taken claimed.taken_at_most) t
  tool-packs books.held_off t =
      packs-again after.system.tool (tools.no_answer_tool g after.book.taken) (no-answer-fits g bytes after.book.taken claimed.taken_at_most) t

  pub packs : Packs after.system
  packs = record { unit = unit-packs; tool = tool-packs after.book.outcome agreed.tool }

module _ (a : Addresses) (two : different a ≡ true) (g : Premises) (bytes : StateBytes g) (es : List (Event packed_ends))
    (o : AllClean packed_ends (packed_transfer a g bytes) es (packed_start a g bytes).system) where
  clean_after : AfterClean packed_ends (packed_transfer a g bytes) (packed_run a g bytes es)
  clean_after = clean_laws.after-clean packed_ends (packed_transfer a g bytes) (packed_facts a two g bytes) es o

  clean : AgreesClean a g (unpacked_run (packed_run a g bytes es))
  clean =
      theorem.clean_at a two g (unpacked_run (packed_run a g bytes es))
      (allowed a two g bytes es (clean_laws.all-clean-allowed packed_ends (packed_transfer a g bytes) es (packed_start a g bytes).system o))
      (record {
        done_at_arrival = clean_after.done_at_arrival;
        never_no_answer = clean_after.never_no_answer;
        never_held_off = clean_after.never_held_off;
        one_string = clean_after.one_string;
        in_time = clean_after.in_time;
        put_out_at_done = clean_after.put_out_at_done;
      })

-- one claim about every list of calls that a C host makes
pub packed_demand3 : PackedDemand3
packed_demand3 a n g bytes es =
    let two = different-ones a n in
    record { allowed = allowed a two g bytes es; clean = clean a two g bytes es; packs = packs a two g bytes es }
