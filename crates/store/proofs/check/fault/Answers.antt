-- Each return is the first check that fails; each answer has the one law of its check, so that the search for a wrong program ends soon.
use Rattle.octets.proofs.Tests.{flag-nt, flag-nf}
use Rattle.octets.proofs.CallLaws.{refused-number}
use Rattle.std.proofs.Common.{rules}
use Rattle.store.proofs.CheckLaws.{header-start, fault-short, fault-bounds, fault-entry, fault-answer, fault-twice, fault-none}
use Rattle.store.proofs.check.fault.Goals as goal

ruleset flags = (flag-nt, flag-nf)

pub returns-then-not-header_fits : goal.returns-then-not-header_fits
returns-then-not-header_fits c = search (flags, fault-short)

pub returns-then-not-counts_fit : goal.returns-then-not-counts_fit
returns-then-not-counts_fit c = search (flags, fault-bounds)

pub invariant_of-entries : goal.invariant_of-entries
invariant_of-entries c = record { inside = search (flags, header-start) }

pub returns-in_err-check_places : goal.returns-in_err-check_places
returns-in_err-check_places c = search (rules, flags, fault-entry, refused-number)

pub returns-then-wrong-count : goal.returns-then-wrong-count
returns-then-wrong-count c = search (rules, flags, fault-answer)

pub returns-then-repeat-count : goal.returns-then-repeat-count
returns-then-repeat-count c = search (rules, flags, fault-twice)

pub returns : goal.returns
returns c = search (rules, flags, fault-none)
