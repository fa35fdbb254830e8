use Rattle.group_boot.proofs.ImagePages.{HasPages}
use Rattle.group_boot.proofs.flat.image_layer.Given as goal

abbrev pub invariant-loop-number : goal.invariant-loop-number
invariant-loop-number l = HasPages l.image l.layer l.number
