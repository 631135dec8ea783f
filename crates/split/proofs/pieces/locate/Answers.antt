-- Refused, one frame, a last or a full sub message.
use Rattle.octets.proofs.CallLaws.{refused-number}
use Rattle.split.proofs.SplitLaws.{single-length, split-length, place_none, place-one, place-last, place-full, piece-first, piece-start}
use Rattle.std.proofs.Common.{rules}
use Rattle.split.proofs.pieces.locate.Goals as goal

ruleset all = (rules, single-length, split-length, place_none, place-one, place-last, place-full, piece-first, piece-start, refused-number)

pub returns-in_err-check_piece : goal.returns-in_err-check_piece
returns-in_err-check_piece c = search all

pub returns-then-not-is_split : goal.returns-then-not-is_split
returns-then-not-is_split c = search all

pub overflow_sub-start : goal.overflow_sub-start
overflow_sub-start c = search all

pub overflow_sub-len : goal.overflow_sub-len
overflow_sub-len c = search all

pub overflow_sub-result : goal.overflow_sub-result
overflow_sub-result c = search all

pub returns-then-len-start-lt-PIECE : goal.returns-then-len-start-lt-PIECE
returns-then-len-start-lt-PIECE c = search all

pub returns : goal.returns
returns c = search all
