-- Each return is the first check that fails.
use Rattle.split.proofs.SplitLaws.{number-long, number-zero, number_past, number-such}
use Rattle.std.proofs.Common.{rules}
use Rattle.split.proofs.pieces.check_piece.Goals as goal

ruleset all = (rules, number-long, number-zero, number_past, number-such)

pub returns-then-len-gt-DATA_MOST : goal.returns-then-len-gt-DATA_MOST
returns-then-len-gt-DATA_MOST c = search all

pub returns-then-message-lt1 : goal.returns-then-message-lt1
returns-then-message-lt1 c = search all

pub returns-then-count_of-message : goal.returns-then-count_of-message
returns-then-count_of-message c = search all

pub returns : goal.returns
returns c = search all
