-- The ranges, and the phase.
use Rattle.std.proofs.Common.{◌∙◌}
use Rattle.catalog.proofs.TableLaws.{is-kind}
use Rattle.services.proofs.StateLaws.{possible-is}
use Rattle.services.proofs.state.possible_at.Goals as goal

pub returns : goal.returns
returns c = possible-is c.args.state _ _ _ (c.is_ok.ensures.value ∙ is-kind c.args.state.kind _ c.try_from.ensures) c.phase_possible.ensures
