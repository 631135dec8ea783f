-- One frame for each request.
use Rattle.requests.specs.Sent.{frame_sent}
use Rattle.requests.proofs.SentLaws.{result-request, out-request}
use Rattle.std.proofs.Common.{rules}
use Rattle.requests.proofs.sent.write_request.Goals as goal

ruleset all = (rules, result-request, out-request)

pub returns-in-Start-clause-value : goal.returns-in-Start-clause-value
unfolding frame_sent
returns-in-Start-clause-value c = search all

pub returns-in-Start-clause-out_after : goal.returns-in-Start-clause-out_after
unfolding frame_sent
returns-in-Start-clause-out_after c = search all

pub returns-in-Session-clause-value : goal.returns-in-Session-clause-value
unfolding frame_sent
returns-in-Session-clause-value c = search all

pub returns-in-Session-clause-out_after : goal.returns-in-Session-clause-out_after
unfolding frame_sent
returns-in-Session-clause-out_after c = search all

pub returns-in-Upload-clause-value : goal.returns-in-Upload-clause-value
unfolding frame_sent
returns-in-Upload-clause-value c = search all

pub returns-in-Upload-clause-out_after : goal.returns-in-Upload-clause-out_after
unfolding frame_sent
returns-in-Upload-clause-out_after c = search all

pub returns-in-Exit-clause-value : goal.returns-in-Exit-clause-value
unfolding frame_sent
returns-in-Exit-clause-value c = search all

pub returns-in-Exit-clause-out_after : goal.returns-in-Exit-clause-out_after
unfolding frame_sent
returns-in-Exit-clause-out_after c = search all

pub returns-in-Stop-clause-value : goal.returns-in-Stop-clause-value
unfolding frame_sent
returns-in-Stop-clause-value c = search all

pub returns-in-Stop-clause-out_after : goal.returns-in-Stop-clause-out_after
unfolding frame_sent
returns-in-Stop-clause-out_after c = search all

pub returns-in-Transfer-clause-value : goal.returns-in-Transfer-clause-value
unfolding frame_sent
returns-in-Transfer-clause-value c = search all

pub returns-in-Transfer-clause-out_after : goal.returns-in-Transfer-clause-out_after
unfolding frame_sent
returns-in-Transfer-clause-out_after c = search all
