-- FF, or the third row.
use Rattle.catalog.proofs.TableLaws.{absent-no-activities, activities-is}
use Rattle.std.proofs.Common.{rules}
use Rattle.catalog.proofs.is_activities.Goals as goal

ruleset all = (rules, absent-no-activities, activities-is)

pub returns-then-byte-eq-ABSENT : goal.returns-then-byte-eq-ABSENT
returns-then-byte-eq-ABSENT c = search all

pub returns : goal.returns
returns c = search all
