use Rattle.std.proofs.Common.{◌≡◌, take}
use Rattle.ckpt_records.specs.Runs.{pages_of_runs}
use Rattle.ckpt_records.proofs.runs.pages_of_runs.Given as goal

abbrev pub invariant-loop-run : goal.invariant-loop-run
invariant-loop-run l = l.pages.items ≡ pages_of_runs (take l.run-index l.runs)
