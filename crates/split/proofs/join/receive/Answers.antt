-- Each return is one case of the rule.
use Rattle.octets.proofs.Tests.{flag-t, flag-f, flag-nt, flag-nf}
use Rattle.split.proofs.JoinLaws.{other-answer, whole-answer, other-short, other-below, above, last, full}
use Rattle.std.proofs.Common.{rules}
use Rattle.split.proofs.join.receive.Goals as goal

ruleset all = (rules, flag-t, flag-f, flag-nt, flag-nf, other-answer, whole-answer, other-short, other-below, above, last, full)

pub returns-then-not-is_answer : goal.returns-then-not-is_answer
returns-then-not-is_answer c = search all

pub returns-then-is_whole : goal.returns-then-is_whole
returns-then-is_whole c = search all

pub returns-then-n-lt4 : goal.returns-then-n-lt4
returns-then-n-lt4 c = search all

pub returns-then-k-e : goal.returns-then-k-e
returns-then-k-e c = search all

pub returns-then-e-k : goal.returns-then-e-k
returns-then-e-k c = search all

pub returns-then-n-lt255 : goal.returns-then-n-lt255
returns-then-n-lt255 c = search all

pub returns-else-n-lt255 : goal.returns-else-n-lt255
returns-else-n-lt255 c = search all
