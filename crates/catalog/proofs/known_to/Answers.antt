-- FF is known to none; another byte is, where it stands in its row.
use Rattle.catalog.proofs.TableLaws.{known_is, absent-unknown}
use Rattle.std.proofs.Common.{rules}
use Rattle.catalog.proofs.known_to.Goals as goal

ruleset all = (rules, known_is, absent-unknown)

pub returns-then-byte-eq-ABSENT : goal.returns-then-byte-eq-ABSENT
returns-then-byte-eq-ABSENT c = search all

pub returns : goal.returns
returns c = search all
