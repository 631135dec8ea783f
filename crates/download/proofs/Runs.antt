-- What concrete stores and runs compute with: to unfold `lookups` or `calls` is to unfold every definition that its line names.
use Prim.Native.Nat.{ℕ}
use Rattle.frame.specs.Frame.{lab}
use Rattle.fields.specs.BigEndian.{number_at}
use Rattle.octets.specs.Buffer.{front, put}
use Rattle.frame.specs.Frame.{closed, frame_of, count_right, start_right, addressed, checksum_right, judged, data_place, data_of}
use Rattle.frame.specs.Given.{different}
use Rattle.catalog.specs.Table.{known_to, listed, is_activities}
use Rattle.catalog.specs.Name.{first_second, day_named, name_number, day_stored, rounded, same_answer}
use Rattle.split.specs.Split.{count_of, carries, sub_field, sub_frame}
use Rattle.split.specs.Join.{is_answer, received_as, carried_by}
use Rattle.octets.specs.Search.{first_from}
use Rattle.store.specs.Layout.{header_size, entry_size, entries_size, name_at}
use Rattle.store.specs.Check.{header_fits, counts_fit, filled_to, place_right, places_right, answer_right, answers_right, repeats, names_differ}
use Rattle.store.specs.Check.{store_fault, store_number}
use Rattle.store.specs.Read.{lookup_number, lookup_place, lookup_part}
use Rattle.services.specs.State.{sendable, phase_possible, possible_at}
use Rattle.unit.specs.State.{possible}
use Rattle.services.specs.Services.{request_name, answer_from, on_transfer, on_code, on_sending, on_acknowledge}
use Rattle.services.specs.Services.{on_data}
use Rattle.services.specs.After.{state_after as unit_after}
use Rattle.unit.specs.Call.{reaction_at, reaction_to, reply_data, reply_to, number_before, unit_number, unit_state, unit_reply, unit_result, unit_result_given}
use Rattle.progress.specs.State.{held_right, transfer_possible, possible as tool_possible}
use Rattle.requests.specs.Sent.{transfer_request, acknowledgement, transfer_data, frame_sent}
use Rattle.arrival.specs.Replies.{sid_sent}
use Rattle.arrival.specs.Meaning.{header, fits, meaning_of, transfer_meaning, is_refusal, refusal_meaning, data_meaning, arrival_meaning, arrival_bytes}
use Rattle.arrival.specs.Meaning.{takes}
use Rattle.progress.specs.Next.{after_failed_wait}
use Rattle.tool.specs.After.{state_after, sent_after, room_after}
use Rattle.tool.specs.Call.{request_number, begin_number, begin_state, begin_sent, begin_result, event_number, event_state, event_sent, event_room, event_result}
use Rattle.tool.specs.Call.{begin_result_given, event_result_given, event_room_given}
use Rattle.download.specs.CableEnds.{ToolGiven}

-- a lookup in a store
unfoldable pub lookups : Unit {0}
unfolding number_at first_from header_size entry_size entries_size name_at header_fits counts_fit filled_to place_right places_right answer_right answers_right
    repeats names_differ store_fault store_number lookup_number lookup_place lookup_part known_to listed is_activities first_second day_named name_number
    day_stored rounded same_answer
lookups = tt

-- calls of both ends
unfoldable pub calls : Unit {0}
unfolding lookups closed frame_of count_right start_right addressed checksum_right judged data_place data_of count_of carries sub_field sub_frame possible
    possible_at sendable phase_possible request_name answer_from on_transfer on_code on_sending on_acknowledge on_data reaction_at reaction_to unit_after
    reply_data reply_to number_before unit_number unit_state unit_reply unit_result transfer_request acknowledgement transfer_data frame_sent sid_sent held_right
    transfer_possible tool_possible request_number begin_number begin_state begin_sent begin_result is_answer received_as carried_by header fits meaning_of
    transfer_meaning is_refusal refusal_meaning data_meaning arrival_meaning arrival_bytes takes after_failed_wait state_after sent_after room_after event_number
    event_state event_sent event_room event_result front put different unit_result_given begin_result_given event_result_given event_room_given
calls = tt

-- what an event at the lab's addresses is given
abbrev pub lent : ℕ → ToolGiven
lent output = record { addresses = lab; output = output }
