-- Requests as numbers, in the calls for hosts and in packed states.
use Rattle.std.specs.Prelude.{◌≡◌, ℕ, ◌<◌, Result, MatchResult}
use Rattle.progress.specs.declared.Request.{Request}
use Rattle.progress.specs.declared.Request.TheVariants as requests
use Rattle.progress.specs.declared.codes.UnknownRequest.{UnknownRequest}

-- 0 start, 1 session, 2 upload, 3 exit, 4 stop, 5 transfer
abbrev pub request_byte : Request → ℕ
request_byte requests.Start = 0
request_byte requests.Session = 1
request_byte requests.Upload = 2
request_byte requests.Exit = 3
request_byte requests.Stop = 4
request_byte requests.Transfer = 5

-- what a byte gives: the request of that number, or, where it is above 5, none
abbrev pub Requests : ℕ → Result Request UnknownRequest → Type 0
Requests byte r = MatchResult r (λ request. request_byte request ≡ byte) (λ e. (e.0 ≡ byte) × (5 < byte))
