-- Each return is the first check that fails.
use Rattle.services.proofs.ServiceLaws.{transfer-short, transfer-unknown, transfer-long, transfer-turn, transfer-answer}
use Rattle.std.proofs.Common.{rules}
use Rattle.services.proofs.transfer.on_transfer.Goals as goal

ruleset all = (rules, transfer-short, transfer-unknown, transfer-long, transfer-turn, transfer-answer)

pub returns-then-data-lt2 : goal.returns-then-data-lt2
returns-then-data-lt2 c = search all

pub returns-then-not-known_to : goal.returns-then-not-known_to
returns-then-not-known_to c = search all

pub returns-then-data-request_length : goal.returns-then-data-request_length
returns-then-data-request_length c = search all

pub returns-then-not-is_granted : goal.returns-then-not-is_granted
returns-then-not-is_granted c = search all

pub returns : goal.returns
returns c = search all
