use Rattle.std.proofs.Common.{◌≡◌, ◌≤◌, ◌+◌, ◌++◌, drop}
use Rattle.ckpt_records.specs.Runs.{runs_from}
use Rattle.ckpt_records.proofs.runs.runs_of.Given as goal

abbrev pub invariant-loop-page : goal.invariant-loop-page
invariant-loop-page l = record { few : l.run.count ≤ l.page-index + 1; whole : l.found.items ++ runs_from l.run (drop l.page-index l.others) ≡ runs_from l.initial.run l.others }
