-- The states that follow one.
use Rattle.std.specs.Prelude.{ℕ, ◌+◌, cond, leb}
use Rattle.split.specs.Codes.{sub}
use Rattle.progress.specs.declared.Outcome.{Outcome}
use Rattle.progress.specs.declared.Outcome.TheVariants.{Waiting, NoAnswer}
use Rattle.progress.specs.declared.ToolState.{ToolState}

-- "An ended state keeps all as at its last wait but outcome and held length"
abbrev pub ended : ToolState → Outcome → ℕ → ToolState
ended t outcome held =
    record {
      request = t.request;
      outcome = outcome;
      name = t.name;
      sendings = t.sendings;
      expected = t.expected;
      held = held;
    }

abbrev pub waits : ToolState → ℕ → ℕ → ℕ → ToolState
waits t sendings e held =
    record {
      request = t.request;
      outcome = Waiting;
      name = t.name;
      sendings = sendings;
      expected = sub e;
      held = held;
    }

-- "After a failed wait the same frame goes out again; after the third sending the request ends 'no answer' (DDP_027)"
unfoldable pub after_failed_wait : ToolState → ToolState
after_failed_wait t =
    cond (leb 3 t.sendings) (ended t NoAnswer t.held) (waits t (t.sendings + 1) t.expected.0 t.held)
