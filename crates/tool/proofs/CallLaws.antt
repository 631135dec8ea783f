-- The calls: their numbers from the tests of the code, and what they hand back.
use Prim.Native.Nat.{ℕ, ◌+◌, ◌<◌, ◌≤◌}
use mathlib.Core.Bool.{Bool, true, false, not, ◌&&◌}
use mathlib.Core.List.{List, []}
use mathlib.Core.Path.{◌≡◌, refl, sym, ap, ◌∙◌}
use native.Mathlib.Omega.{arith}
use lib.Dec.{leb}
use lib.ListN.{length}
use borrow.Author.Tests.{le-leb, lt-leb, eq-eqb, ne_eqb, leb-true}
use Rattle.octets.specs.Numbers.{changed_by}
use Rattle.octets.specs.Buffer.{front, part_at}
use Rattle.octets.proofs.OrderLaws.{unless-is, or-zero}
use Rattle.octets.proofs.CallLaws.{kept_by, changed-by}
use Rattle.frame.proofs.CheckLaws.{found-data}
use Rattle.octets.proofs.Tests.{and_left, and_right}
use Rattle.frame.specs.declared.Addresses.{Addresses}
use Rattle.frame.specs.declared.End.TheVariants as ends
use Rattle.frame.specs.Frame.{data_of, data_place}
use Rattle.frame.specs.Given.{different}
use Rattle.catalog.specs.Name.{name_number}
use Rattle.catalog.specs.declared.AnswerName.{AnswerName}
use Rattle.progress.specs.declared.Request.{Request}
use Rattle.progress.specs.declared.ToolState.{ToolState}
use Rattle.tool.specs.Call.{ToolStep}
use Rattle.arrival.specs.declared.Meaning.{Meaning}
use Rattle.arrival.specs.Meaning.{Incoming}
use Rattle.progress.specs.State.{held_most, is_transfer, is_waiting, possible}
use Rattle.arrival.specs.Meaning.{new_bytes, arrival_bytes, arrival_of}
use Rattle.arrival.specs.Meaning.{takes}
use Rattle.tool.specs.After.{room_after}
use Rattle.tool.specs.Call.{request_number, begin_number, event_number, event_result, event_room, event_result_given, event_room_given, event_out_given}
use Rattle.tool.specs.Call.{arrival_result_given, arrival_room_given, arrival_out_given}
use Rattle.progress.proofs.StateLaws.{waiting-transfer}
use Rattle.arrival.proofs.RoomLaws.{fits-in-room, fits-in-most}
use Rattle.tool.proofs.TakenLaws.{Taken, taken}

-- The number of a begin

module _ (request : Request) (name : AnswerName) where
  pub request-transfer : (r : ℕ) → is_transfer request ≡ true → r ≡ name_number name → r ≡ request_number request name
  unfolding request_number
  request-transfer r f e = rw f e

  pub request-trep : is_transfer request ≡ false → (name.trep ≡ 0 → ⊥) → 12 ≡ request_number request name
  unfolding request_number
  request-trep f h = rw (f, ne_eqb name.trep 0 h)

  pub request-day : is_transfer request ≡ false → name.trep ≡ 0 → (name.day ≡ 0 → ⊥) → 12 ≡ request_number request name
  unfolding request_number
  request-day f z h = rw (f, eq-eqb name.trep 0 z, ne_eqb name.day 0 h)

  pub request-fixed : is_transfer request ≡ false → name.trep ≡ 0 → name.day ≡ 0 → 0 ≡ request_number request name
  unfolding request_number
  request-fixed f z h = rw (f, eq-eqb name.trep 0 z, eq-eqb name.day 0 h)

module _ (t : ToolState) (request : Request) (name : AnswerName) (out_len r : ℕ) (e : r ≡ request_number request name) where
  pub begin-request : (r ≡ 0 → ⊥) → r ≡ begin_number t request name out_len
  unfolding begin_number
  begin-request h = rw (← e, ne_eqb r 0 h)

  pub begin-waiting : r ≡ 0 → is_waiting t.outcome ≡ true → 11 ≡ begin_number t request name out_len
  unfolding begin_number
  begin-waiting z w = rw (← e, eq-eqb r 0 z, w)

  pub begin-short : r ≡ 0 → is_waiting t.outcome ≡ false → out_len < 260 → 4 ≡ begin_number t request name out_len
  unfolding begin_number
  begin-short z w h = rw (← e, eq-eqb r 0 z, w, lt-leb 260 out_len h)

  pub begin-right : r ≡ 0 → is_waiting t.outcome ≡ false → 260 ≤ out_len → 0 ≡ begin_number t request name out_len
  unfolding begin_number
  begin-right z w h = rw (← e, eq-eqb r 0 z, w, le-leb 260 out_len h)

-- a begin that is not refused has room for its frame; r is its number
pub begin-room : (t : ToolState) (request : Request) (name : AnswerName) (out_len r : ℕ) → r ≡ begin_number t request name out_len → r ≡ 0 → 260 ≤ out_len
unfolding begin_number
begin-room t request name out_len r e z =
    let q = or-zero (request_number request name) _ (sym e ∙ z) in
    let w = unless-is (not (is_waiting t.outcome)) 11 _ 0 refl q.rest in
    leb-true 260 out_len (unless-is (leb 260 out_len) 4 0 0 refl w.rest).first

-- The number of an event

module _ (t : ToolState) (room_len out_len : ℕ) where
  pub event-still : is_waiting t.outcome ≡ false → 11 ≡ event_number t room_len out_len
  unfolding event_number
  event-still w = rw w

  pub event-impossible : is_waiting t.outcome ≡ true → possible room_len t ≡ false → 11 ≡ event_number t room_len out_len
  unfolding event_number
  event-impossible w p = rw (w, p)

  pub event-short : is_waiting t.outcome ≡ true → possible room_len t ≡ true → out_len < 260 → 4 ≡ event_number t room_len out_len
  unfolding event_number
  event-short w p h = rw (w, p, lt-leb 260 out_len h)

  pub event-right : is_waiting t.outcome ≡ true → possible room_len t ≡ true → 260 ≤ out_len → 0 ≡ event_number t room_len out_len
  unfolding event_number
  event-right w p h = rw (w, p, le-leb 260 out_len h)

-- what number 0 says of an event
pub record Heard (t : ToolState) (room_len out_len : ℕ) : Type 0 where
  pub waiting : is_waiting t.outcome ≡ true
  pub possibly : possible room_len t ≡ true
  pub out_room : 260 ≤ out_len

pub heard : (t : ToolState) (room_len out_len : ℕ) → event_number t room_len out_len ≡ 0 → Heard t room_len out_len
unfolding event_number
heard t room_len out_len e =
    let q = unless-is (is_waiting t.outcome && possible room_len t) 11 _ 0 refl e in
    record {
      waiting = and_left (is_waiting t.outcome) _ q.first;
      possibly = and_right (is_waiting t.outcome) _ q.first;
      out_room = leb-true 260 out_len (unless-is (leb 260 out_len) 4 0 0 refl q.rest).first;
    }

pub event-room : (t : ToolState) (room_len out_len r : ℕ) → r ≡ event_number t room_len out_len → r ≡ 0 → 260 ≤ out_len
event-room t room_len out_len r e z = (heard t room_len out_len (sym e ∙ z)).out_room

-- where an event's bytes are taken, their sum with those held and the next number fit

pub step-most : (m : Meaning) (sum : ℕ) → (takes m ≡ true → sum ≤ held_most) → takes m ≡ true → sum ≤ held_most
step-most m sum f k = f k

pub step-next : (t : ToolState) (m : Meaning) (room_len out_len r : ℕ) → (takes m ≡ true → is_transfer t.request ≡ true) → r ≡ event_number t room_len out_len
    → r ≡ 0 → takes m ≡ true → t.expected.0 < 65535
step-next t m room_len out_len r f e z k =
    let h = heard t room_len out_len (sym e ∙ z) in
    let w = waiting-transfer room_len t h.waiting h.possibly (f k) in
    omega (arith, w.expected_most)

-- An arrival x: what the step needs of it, and what the step gives
module _ (a : Addresses) (t : ToolState) (b : List ℕ) (room_len : ℕ) (x : Incoming) (is : x ≡ arrival_of a room_len t b) where
  taken-by : takes x.meaning ≡ true → Taken room_len t (length (arrival_bytes a t b))
  unfolding arrival_of
  taken-by k = taken a room_len t b (rw is at k)

  pub arrival-transfer : takes x.meaning ≡ true → is_transfer t.request ≡ true
  arrival-transfer k = (taken-by k).transfer

  pub arrival-most : takes x.meaning ≡ true → t.held + x.new ≤ held_most
  unfolding arrival_of
  arrival-most k = rw is (fits-in-most room_len t _ (taken-by k).fit)

  pub arrival-result : (out_len : ℕ) (r : ToolStep) → r ≡ event_result_given a t x.meaning x.new room_len out_len → r ≡ arrival_result_given a t b room_len out_len
  unfolding arrival_of
  arrival-result out_len r e = e ∙ ap (λ (y : Incoming). event_result_given a t y.meaning y.new room_len out_len) is

  pub arrival-out : (o o' : List ℕ) → o' ≡ event_out_given a t x.meaning room_len o → o' ≡ arrival_out_given a t b room_len o
  unfolding arrival_of
  arrival-out o o' e = e ∙ ap (λ (y : Incoming). event_out_given a t y.meaning room_len o) is

  -- where its data lies
  pub arrival-place : x.place ≡ data_place a ends.Tool b
  unfolding arrival_of
  arrival-place = ap (λ (y : Incoming). y.place) is

  -- the part that the code finds is its data
  pub arrival-data : (d : List ℕ) → d ≡ part_at x.place.start x.place.len b → d ≡ data_of a ends.Tool b
  unfolding arrival_of
  arrival-data = found-data a ends.Tool b x.place (ap (λ (y : Incoming). y.place) is)

  -- d is its data
  module _ (d : List ℕ) (data_is : d ≡ data_of a ends.Tool b) where
    bytes-are : new_bytes t x.received d ≡ arrival_bytes a t b
    unfolding arrival_of arrival_bytes
    bytes-are = rw (data_is, is)

    pub arrival-room : takes x.meaning ≡ true → t.held + length (new_bytes t x.received d) ≤ room_len
    arrival-room k = rw bytes-are (fits-in-room room_len t _ (taken-by k).fit)

-- the room after a step s: kept where it is refused, by 2 or by the event's number
module _ (a : Addresses) (t : ToolState) (b o : List ℕ) (out_len : ℕ) (x : Incoming) (is : x ≡ arrival_of a (length o) t b) (s : ToolStep)
    (e : s ≡ event_result_given a t x.meaning x.new (length o) out_len) where
  step-number : different a ≡ true → s.number ≡ event_number t (length o) out_len
  unfolding event_result_given event_result
  step-number d = ap (λ (r : ToolStep). r.number) (rw d at e)

  equal-number : different a ≡ false → s.number ≡ 2
  unfolding event_result_given
  equal-number d = ap (λ (r : ToolStep). r.number) (rw d at e)

  pub arrived-kept : (s.number ≡ 0 → ⊥) → o ≡ arrival_room_given a t b out_len o
  unfolding event_room_given event_room
  arrived-kept h = go (different a) refl
    where
      go : (d : Bool) → different a ≡ d → o ≡ arrival_room_given a t b out_len o
      go true q = rw q (kept_by s.number _ _ o (step-number q) h)
      go false q = rw q

  pub arrived-taken : (d o' : List ℕ) → s.number ≡ 0 → d ≡ data_of a ends.Tool b
      → o' ≡ room_after t x.meaning (new_bytes t x.received d) o → o' ≡ arrival_room_given a t b out_len o
  unfolding event_room_given event_room arrival_of
  arrived-taken d o' z data_is q = go (different a) refl
    where
      go : (y : Bool) → different a ≡ y → o' ≡ arrival_room_given a t b out_len o
      go true p =
          rw p
          (changed-by s.number _ o' _ o (step-number p) z
          (q ∙ ap (λ (v : List ℕ). room_after t x.meaning v o) (bytes-are a t b (length o) x is d data_is)
          ∙ ap (λ (y : Incoming). room_after t y.meaning (arrival_bytes a t b) o) is))
      go false p = absurd (omega (arith, equal-number p))

-- What a call hands back

pub step_is : (k n number len : ℕ) (s state : ToolState) → k ≡ number → s ≡ state → n ≡ len
    → ◌≡◌ {A = ToolStep} (record { number = k; state = s; len = n }) (record { number = number; state = state; len = len })
step_is k n number len s state e p q = cc

-- f is the frame that goes out where number is 0; r is the number that the call gave
module _ (r number : ℕ) (f : List ℕ) (e : r ≡ number) where
  pub none-sent : (r ≡ 0 → ⊥) → 0 ≡ length (changed_by number f [])
  none-sent h = ap length (kept_by r number f [] e h)

  pub none_written : (o : List ℕ) → (r ≡ 0 → ⊥) → o ≡ front (changed_by number f []) o
  unfolding front
  none_written o h = rw (← kept_by r number f [] e h)

  pub some-sent : (n : ℕ) → r ≡ 0 → n ≡ length f → n ≡ length (changed_by number f [])
  some-sent n z q = rw (← changed-by r number f f [] e z refl) q

  pub some_written : (o o' : List ℕ) → r ≡ 0 → o' ≡ front f o → o' ≡ front (changed_by number f []) o
  some_written o o' z q = rw (← changed-by r number f f [] e z refl) q
