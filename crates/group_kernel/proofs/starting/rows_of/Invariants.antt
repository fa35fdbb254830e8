use Rattle.std.proofs.Common.{◌≡◌, [], map, take}
use Rattle.std.specs.List.{AllZip}
use Rattle.descriptors.specs.Opens.{descriptions}
use Rattle.descriptors.specs.Owners.{OwnersAre}
use Rattle.group_defs.specs.declared.frame.Proc.{Proc}
use Rattle.group_kernel.specs.Starting.{IsRowOf, faces_but, take_face}
use Rattle.group_kernel.proofs.starting.rows_of.Given as goal

abbrev pub invariant-loop-proc : goal.invariant-loop-proc
invariant-loop-proc l = record {
  rows : AllZip (IsRowOf l.initial.all.entries) (take l.proc-index l.procs) l.rows.items;
  left : l.all.entries ≡ faces_but (take_face (take l.proc-index l.procs)) l.initial.all.entries;
  same : descriptions l.opens.entries ≡ descriptions l.initial.opens.entries;
  exact : OwnersAre [] [] l.initial.opens.entries → OwnersAre (map (λ (p : Proc). p.fds) (take l.proc-index l.procs)) [] l.opens.entries;
}
