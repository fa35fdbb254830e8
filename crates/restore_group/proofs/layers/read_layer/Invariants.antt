use Rattle.std.proofs.Common.{◌≡◌, List, ℕ, Some, take}
use Rattle.ckpt_chain.specs.Reads.{OnlyReads}
use Rattle.restore_group.specs.Layers.{IsLayerOf, layer_in}
use Rattle.restore_group.proofs.layers.read_layer.Given as goal

abbrev pub invariant-loop-p : goal.invariant-loop-p
invariant-loop-p g l = record {
  layer : IsLayerOf (take l.p-index l.own) l.slots.items;
  found : (image : List ℕ) → (g.D.Disk.view l.fn.disk).reading ≡ Some image → l.slots.items ≡ layer_in image (take l.p-index l.own);
  disk : OnlyReads (g.D.Disk.view l.fn.disk) (g.D.Disk.view l.disk);
}
