-- FF is no TRTP; another byte is listed where it stands in a row.
use Rattle.catalog.proofs.TableLaws.{listed-is, absent-unlisted}
use Rattle.std.proofs.Common.{rules}
use Rattle.catalog.proofs.is_listed.Goals as goal

ruleset all = (rules, listed-is, absent-unlisted)

pub returns-then-byte-eq-ABSENT : goal.returns-then-byte-eq-ABSENT
returns-then-byte-eq-ABSENT c = search all

pub returns : goal.returns
returns c = search all
