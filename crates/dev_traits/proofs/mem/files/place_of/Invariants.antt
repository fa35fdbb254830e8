use Rattle.std.proofs.Common.{◌≡◌, drop}
use Rattle.dev_traits.specs.MemFiles.{contents_in}
use Rattle.dev_traits.proofs.mem.files.place_of.Given as goal

abbrev pub invariant-loop-i : goal.invariant-loop-i
invariant-loop-i l = contents_in l.list l.name ≡ contents_in (drop l.i l.list) l.name
