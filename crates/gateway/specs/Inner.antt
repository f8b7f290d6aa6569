-- What the contracts of the inner functions cite.
use Rattle.std.specs.Prelude.{List, ◌≡◌, ℕ, ◌≤◌}
use Rattle.records.specs.Outcome.{taken, refused}
use Rattle.records.specs.Sheet.{SheetValue}
use Rattle.tesl.specs.Run.{Instant}
use Rattle.tesl.specs.Answer.{Answer}
use Rattle.tesl.specs.Machine.{LogResult}
use Rattle.logs.specs.declared.log.LastMonitor.{LastMonitor}
use Rattle.judge.specs.Answer.{reply_of}
use Rattle.logs.specs.Entry.{live_code}
use Rattle.judge.specs.Promises.{Follows}
use Rattle.gateway.specs.Result.{unless_refused, owing_in}

-- what has room in a result
pub record Packable (r : LogResult) : Type 0 where
  pub live : unless_refused live_code r.outcome ≤ 32
  pub count : r.instants ≤ 4000

-- ---- after a log

-- after an answer: how many of the run's distinct remainders owe the clock
pub record OwingAfter (r : LastMonitor) (clock n : ℕ) : Type 0 where
  pub none : (k : ℕ) → reply_of r.reply ≡ refused k → n ≡ 0
  pub owing : (a : Answer) → reply_of r.reply ≡ taken a → (s : SheetValue) (run : List Instant) → Follows s run r.monitor → n ≡ owing_in clock s run
