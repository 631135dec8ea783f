-- Two reads.
use Rattle.services.proofs.ServiceLaws.{name-read}
use Rattle.std.proofs.Common.{rules}
use Rattle.services.proofs.transfer.request_name.Goals as goal

ruleset all = (rules, name-read)

pub returns : goal.returns
returns c = search all
