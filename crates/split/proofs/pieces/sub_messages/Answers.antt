-- 8 over the bound, else the count.
use Rattle.split.proofs.SplitLaws.{messages-long, messages-such}
use Rattle.std.proofs.Common.{rules}
use Rattle.split.proofs.pieces.sub_messages.Goals as goal

ruleset all = (rules, messages-long, messages-such)

pub returns-then-len-gt-DATA_MOST : goal.returns-then-len-gt-DATA_MOST
returns-then-len-gt-DATA_MOST c = search all

pub returns : goal.returns
returns c = search all
