-- The claims of specs/Claims.antt, each from its theorem.
use Rattle.std.proofs.Common.{◌≡◌, ℕ, List, length, arith}
use Rattle.frame.specs.declared.Addresses.{Addresses}
use Rattle.frame.specs.declared.End.TheVariants as ends
use Rattle.frame.specs.Readdressed.{readdressed}
use Rattle.frame.proofs.GivenLaws.{equal-ones, different-ones, at-equal, at-different}
use Rattle.frame.proofs.Readdressed.{readdressed-frame}
use Rattle.split.specs.Split.{sub_field, sub_frame, sub_result_given, sub_out_given}
use Rattle.split.specs.Claims.{SplitClaims, SubGivenClaims}
use Rattle.split.proofs.Theorems.{sub-good, sub-reads-back, count-one, count-split, length-one, length-full, length_last_lem}
use Rattle.split.proofs.Theorems.{number-reads-back, joined-is-answer, most-data}

pub claims : SplitClaims
claims =
    record {
      good = sub-good;
      field_back = sub-reads-back;
      count_one = count-one;
      length_one = length-one;
      count_split = count-split;
      length_full = λ trep d k h f l. length-full trep d h k f (omega (arith, count-split (length d) h));
      length_last = λ trep d h. rw (count-split (length d) h) (length_last_lem trep d h);
      last_bounds = λ trep d h. rw (count-split (length d) h, length_last_lem trep d h) (omega arith, omega arith);
      number_back = λ trep d k h. number-reads-back trep d h k;
      joined_back = joined-is-answer;
      most_data = most-data.0;
      one_more = most-data.1;
    }

same-frame : (a b : Addresses) (trep k : ℕ) (d : List ℕ) → readdressed a b ends.Tool (sub_frame a trep k d) ≡ sub_frame b trep k d
unfolding sub_frame
same-frame a b trep k d = readdressed-frame a b ends.Tool (sub_field trep k d)

pub given-claims : SubGivenClaims
unfolding sub_result_given sub_out_given
given-claims =
    record {
      equal = λ a e trep k d out_len. at-equal a _ _ (equal-ones a e);
      equal_out = λ a e trep k d out. at-equal a _ _ (equal-ones a e);
      different = λ a n trep k d out_len. at-different a _ _ (different-ones a n);
      different_out = λ a n trep k d out. at-different a _ _ (different-ones a n);
      same_frame = same-frame;
    }
