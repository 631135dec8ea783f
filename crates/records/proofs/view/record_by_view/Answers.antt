-- The record is that of the view, and the view that of the array.
use Rattle.std.proofs.Common.{ap, ◌∙◌}
use Rattle.records.specs.View.{Shown, view_record}
use Rattle.records.proofs.ViewTheorems.{view-record}
use Rattle.records.proofs.view.record_by_view.Goals as goal

pub returns : goal.returns
returns c =
    c.record.ensures
    ∙ ap (λ (shown : Shown). view_record shown c.args.record) c.view.ensures
    ∙ view-record c.args.array c.args.record c.args.body.now
