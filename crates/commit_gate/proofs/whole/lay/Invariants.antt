use Rattle.std.proofs.Common.{◌≡◌, take}
use Rattle.dev_traits.specs.Commits.{nothing_written}
use Rattle.commit_gate.specs.Commit.{IsBeforeLaid}
use Rattle.commit_gate.specs.Whole.{numbers, with_blocks, Reads}
use Rattle.commit_gate.specs.Phases.{Goes, Within, gathered, stays}
use Rattle.commit_gate.proofs.whole.lay.Given as goal

abbrev pub invariant-loop-block : goal.invariant-loop-block
invariant-loop-block g l = record {
  start : l.closed.start ≡ l.initial.closed.start;
  target : l.closed.target ≡ l.initial.closed.target;
  close : l.closed.close ≡ l.initial.closed.close;
  works : l.closed.failed ≡ l.initial.closed.failed;
  within : Within (numbers l.blocks) l.closed.written;
  laid : Reads (with_blocks (take l.block-index l.blocks)) (g.D.Disk.view l.initial.closed.disk) (g.D.Disk.view l.closed.disk);
  goes : Goes (IsBeforeLaid (g.D.Disk.view l.initial.closed.start.value).reading l.initial.closed.target l.initial.closed.close (numbers l.blocks)) l.block-index nothing_written stays (gathered (take l.block-index l.blocks)) (g.D.Disk.view l.initial.closed.disk) (g.D.Disk.view l.closed.disk);
}
