-- The claims of specs/Claims.antt, each from its theorem.
use mathlib.Core.Logic.{⊎_elim}
use Rattle.records.specs.Claims.{RecordsClaims}
use Rattle.records.proofs.Theorems.{written_count, written-array, written-records, written-number, written-record, read-written}
use Rattle.records.proofs.Theorems.{empty-body, one-reading, read-sound, written_read, nine-exactly}
use Rattle.records.proofs.ViewTheorems.{refused-zero, ten-in-odd, view-record, view-number}

pub claims : RecordsClaims
claims =
    record {
      list_back = read-written;
      count_back = written_count;
      array_back = written-array;
      records_back = written-records;
      record_there = written-number;
      record_back = written-record;
      read_sound = read-sound;
      written_back = written_read;
      nine_exactly = nine-exactly;
      one_reading = one-reading;
      empty_body = empty-body;
      view_record_is = view-record;
      view_number_is = view-number;
      refused_zero = refused-zero;
      odd_view = λ view k odd. ten-in-odd view k (λ some whole. ⊎_elim (λ other. other whole) some odd);
    }
