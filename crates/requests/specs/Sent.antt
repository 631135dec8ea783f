-- The frames that the tool sends.
use Rattle.std.specs.Prelude.{ℕ, ◌-◌, cond, List, [], ◌∷◌, eqb}
use Rattle.fields.specs.BigEndian.{bytes_of}
use Rattle.frame.specs.declared.Addresses.{Addresses}
use Rattle.frame.specs.declared.End.TheVariants as ends
use Rattle.frame.specs.Frame.{frame_of}
use Rattle.frame.specs.Messages.{start_frame, session_request, upload_request, exit_request, stop_request}
use Rattle.catalog.specs.Table.{is_activities}
use Rattle.catalog.specs.declared.AnswerName.{AnswerName}
use Rattle.split.specs.Codes.{sub, acknowledge_of}
use Rattle.split.specs.declared.AckCode.{AckCode}
use Rattle.progress.specs.declared.Request.{Request}
use Rattle.progress.specs.declared.Request.TheVariants as requests

-- "36 TRTP (day)": "Activities carry a day, four bytes"
unfoldable pub transfer_request : AnswerName → List ℕ
transfer_request name = 0x36 ∷ name.trep ∷ cond (is_activities name.trep) (bytes_of 4 name.day) []

-- "83 76 and a code"
unfoldable pub acknowledgement : AckCode → List ℕ
acknowledgement code = 0x83 ∷ 0x76 ∷ bytes_of 2 code.0

-- the data of a transfer's frame with number e expected: the request, or the acknowledgement of the sub message before
unfoldable pub transfer_data : AnswerName → ℕ → List ℕ
transfer_data name e = cond (eqb e 1) (transfer_request name) (acknowledgement (acknowledge_of (sub (e - 1))))

-- the frame that is out
unfoldable pub frame_sent : Addresses → Request → AnswerName → ℕ → List ℕ
frame_sent a requests.Start name e = start_frame a
frame_sent a requests.Session name e = frame_of a ends.Unit session_request
frame_sent a requests.Upload name e = frame_of a ends.Unit upload_request
frame_sent a requests.Exit name e = frame_of a ends.Unit exit_request
frame_sent a requests.Stop name e = frame_of a ends.Unit stop_request
frame_sent a requests.Transfer name e = frame_of a ends.Unit (transfer_data name e)
