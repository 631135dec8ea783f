-- The claims of specs/Days.antt.
use Rattle.catalog.proofs.Claims.{claims}
use Rattle.progress.specs.State.{transfer_possible}
use Rattle.tool.specs.Call.{request_number, begin_state}
use Rattle.tool.specs.Days.{request_number_before, transfer_possible_before, DayClaims}

pub day-claims : DayClaims
unfolding request_number request_number_before transfer_possible transfer_possible_before begin_state
day-claims =
    record {
      as_given = λ t request name out_len e. rw e;
      whole_begin = λ request name e. rw (claims.whole_days.number name e);
      whole_state = λ room_len t e. rw (claims.whole_days.number t.name e);
    }
