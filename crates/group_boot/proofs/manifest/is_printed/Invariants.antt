use Rattle.std.proofs.Common.{◌≤◌, take}
use Rattle.std.specs.List.{AllByRecursion}
use Rattle.group_boot.proofs.manifest.is_printed.Given as goal

abbrev pub invariant-loop-b : goal.invariant-loop-b
invariant-loop-b l = AllByRecursion (λ b. (33 ≤ b) × (b ≤ 126)) (take l.b-index l.name)
