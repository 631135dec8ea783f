-- The search for a name that repeats an earlier one; every name passed ranks below `above`.
use Rattle.std.proofs.Common.{arith, rules}
use Rattle.octets.proofs.SearchLaws.{search-start, search-hit, search-miss, search-end, found-by}
use Rattle.store.specs.Layout.{narrow}
use Rattle.store.proofs.CheckLaws.{ranked-none, ranked-more, new-above, repeats-earlier, new-here}
use Rattle.store.proofs.layout.Entries.first_repeat.Goals as goal
use Rattle.store.proofs.layout.Entries.first_repeat.Goals.{then-above-here, else-above-here+else-earlier-i}

ruleset ends = (rules, search-hit, search-end, found-by, repeats-earlier)

pub loop-i-init : goal.loop-i-init
loop-i-init c = search (rules, search-start, ranked-none)

pub returns-then-earlier-i : goal.returns-then-earlier-i
returns-then-earlier-i c = let named = rw (c.at.ensures.0, c.at.ensures.1) at c.name-name.ensures in search ends

-- a name above all passed is new and raises the bound; another was looked for, and the bound stays
pub loop-i-preserved : goal.loop-i-preserved
loop-i-preserved c =
    let named = rw (c.at.ensures.0, c.at.ensures.1) at c.name-name.ensures in
    elim c.if-above-here.branch [
      | then-above-here w ↦ (
        search-miss _ _ _ c.loop-i.invariant.0 (search rules)
            (new-above narrow _ _ _ _ named c.loop-i.invariant.1 _ c.rank-here.ensures.0 w.if-above-here.true),
        ranked-more narrow _ _ _ _ named c.loop-i.invariant.1 _ (search rules) (search rules),
      )
      | else-above-here+else-earlier-i w ↦ (
        search-miss _ _ _ c.loop-i.invariant.0 (search rules)
            (new-here narrow _ _ _ _ named c.loop-i.invariant.1 _ w.first_named-earlier.ensures (omega (arith, w.if-earlier-i.false))),
        ranked-more narrow _ _ _ _ named c.loop-i.invariant.1 _ (search rules) (search rules),
      )
    ]

pub returns : goal.returns
returns c = search ends
