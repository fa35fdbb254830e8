use Rattle.std.proofs.Common.{◌≡◌, ◌++◌, map}
use Rattle.std.specs.List.{range_with_len}
use Rattle.ckpt_records.specs.Runs.{page_at}
use Rattle.ckpt_records.proofs.runs.put_pages.Given as goal

abbrev pub invariant-loop-i : goal.invariant-loop-i
invariant-loop-i l = l.pages.items ≡ l.fn.pages.items ++ map (page_at l.run) (range_with_len 0 l.i)
