-- Broken, or behind the entries.
use Rattle.store.proofs.ReadLaws.{stream-broken, stream-found}
use Rattle.std.proofs.Common.{rules}
use Rattle.store.proofs.read.locate_stream.Goals as goal

ruleset all = (rules, stream-broken, stream-found)

pub returns-in_err-check : goal.returns-in_err-check
returns-in_err-check c = search all

pub returns : goal.returns
returns c = search all
