use Rattle.std.proofs.Common.{◌≡◌, ◌-◌, ◌++◌, List, ℕ, Some, length}
use Rattle.std.specs.List.{flat_map}
use Rattle.ckpt_chain.specs.Chain.{chain_at, payload, InDisk}
use Rattle.ckpt_chain.specs.Reads.{OnlyReads}
use Rattle.ckpt_chain.proofs.Walk.{with_chain}
use Rattle.ckpt_chain.proofs.stream.walk.Given as goal

abbrev pub invariant-loop : goal.invariant-loop
invariant-loop g l = record {
  bytes : (image : List ℕ) → (g.D.Disk.view l.fn.disk).reading ≡ Some image → l.bytes.items ≡ flat_map (payload image) l.blocks.items;
  chain : (image : List ℕ) → (g.D.Disk.view l.fn.disk).reading ≡ Some image → with_chain l.blocks.items (chain_at image l.count (l.links - l.counter) l.at) ≡ chain_at image l.count l.links l.first;
  links : length l.blocks.items ≡ l.counter;
  range : InDisk l.count l.blocks.items;
  disk : OnlyReads (g.D.Disk.view l.fn.disk) (g.D.Disk.view l.disk);
}
