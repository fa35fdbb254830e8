use Rattle.std.proofs.Common.{◌≡◌, List, ℕ, Some, take}
use Rattle.ckpt_chain.specs.Reads.{OnlyReads}
use Rattle.restore_group.specs.Layers.{AreLayersOf, layers_in, shared_out}
use Rattle.restore_group.proofs.ReadLaws.{rest_after}
use Rattle.restore_group.proofs.layers.read_layers.Given as goal

abbrev pub invariant-loop-o : goal.invariant-loop-o
invariant-loop-o g l = record {
  rest : l.rest ≡ rest_after (take l.o-index l.objects) l.pages;
  layers : AreLayersOf (shared_out (take l.o-index l.objects) l.pages) l.layers.items;
  found : (image : List ℕ) → (g.D.Disk.view l.fn.disk).reading ≡ Some image → l.layers.items ≡ layers_in image (shared_out (take l.o-index l.objects) l.pages);
  disk : OnlyReads (g.D.Disk.view l.fn.disk) (g.D.Disk.view l.disk);
}
