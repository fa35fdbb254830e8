use Rattle.std.proofs.Common.{◌≡◌, []}
use Rattle.group_kernel.proofs.starting.file_faces_of.Given as goal

abbrev pub invariant-loop-file : goal.invariant-loop-file
invariant-loop-file l = record {
  none : l.faces.entries ≡ [];
  left : l.all.entries ≡ l.initial.all.entries;
}
