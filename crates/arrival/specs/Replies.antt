-- The SID that a refusal names, and the replies that the tool waits for.
use Rattle.std.specs.Prelude.{ℕ, cond, List, [], eqb}
use Rattle.frame.specs.Messages.{start_reply, session_reply, upload_reply, exit_reply, stop_reply}
use Rattle.progress.specs.declared.Request.{Request}
use Rattle.progress.specs.declared.Request.TheVariants as requests

-- "the SID last sent (36 or 83)"
unfoldable pub sid_sent : Request → ℕ → ℕ
sid_sent requests.Start e = 0x81
sid_sent requests.Session e = 0x10
sid_sent requests.Upload e = 0x35
sid_sent requests.Exit e = 0x37
sid_sent requests.Stop e = 0x82
sid_sent requests.Transfer e = cond (eqb e 1) 0x36 0x83

-- "Fixed requests end done at exactly the reply in the table"
unfoldable pub reply_wanted : Request → List ℕ
reply_wanted requests.Start = start_reply
reply_wanted requests.Session = session_reply
reply_wanted requests.Upload = upload_reply
reply_wanted requests.Exit = exit_reply
reply_wanted requests.Stop = stop_reply
reply_wanted requests.Transfer = []
