use Rattle.std.proofs.Common.{[], ◌∷◌, map, refl, subst, sym, take, ap, ◌∙◌}
use Rattle.descriptors.specs.Opens.{descriptions}
use Rattle.descriptors.specs.Owners.{OwnersAre}
use Rattle.group_defs.specs.declared.frame.Proc.{Proc}
use Rattle.shadow_chains.specs.Entries.{number_of}
use Rattle.group_kernel.specs.Starting.{HasFaces, HasTables, IsRowOf, faces_but, take_face, takes_face}
use Rattle.group_kernel.proofs.FacesTaken.{but_none}
use Rattle.group_kernel.proofs.RowsMade.{faces_next, left_next, owners_next, rises_left, rows_next, tables_next}
use Rattle.group_kernel.proofs.starting.rows_of.Goals as goal

pub loop-proc-init : goal.loop-proc-init
loop-proc-init c = record {
  rows = rw c.new-rows.ensures.items tt;
  left = sym (but_none number_of (take_face []) (λ n. refl) c.args.all.now.entries);
  same = refl;
  exact = λ are. are;
}

pub row_of-requires-clause-rise : goal.row_of-requires-clause-rise
row_of-requires-clause-rise c = rises_left _ c.args.all.now.entries c.loop-proc.all.entries c.requires.rise c.loop-proc.invariant.left

pub row_of-requires-clause-tables : goal.row_of-requires-clause-tables
row_of-requires-clause-tables c =
    let opens = descriptions c.loop-proc.opens.entries in
    subst (HasTables opens) (sym c.proc-item.is)
    (tables_next c.args.procs.now c.loop-proc.proc-index c.proc-item.result (descriptions c.args.opens.now.entries) opens c.loop-proc-test.true c.loop-proc.invariant.same c.requires.tables)

pub row_of-requires-clause-fits : goal.row_of-requires-clause-fits
row_of-requires-clause-fits c =
    subst (HasFaces c.loop-proc.all.entries) (sym c.proc-item.is)
    (faces_next c.args.procs.now c.loop-proc.proc-index c.proc-item.result c.args.all.now.entries c.loop-proc.all.entries c.loop-proc-test.true c.requires.apart c.loop-proc.invariant.left c.requires.fits)

pub loop-proc-preserved : goal.loop-proc-preserved
loop-proc-preserved c =
    let procs = c.args.procs.now in
    let k = c.loop-proc.proc-index in
    let d = c.proc-item.result in
    let all = c.args.all.now.entries in
    let left = c.loop-proc.all.entries in
    let lt = c.loop-proc-test.true in
    let before = c.loop-proc.invariant in
    let made = c.in_ok-row_of.ensures in
    record {
      rows = rows_next procs k d all left c.loop-proc.rows.items c.push.new.self.items c.in_ok-row_of.field-0 lt c.requires.apart before.left before.rows
          (subst (λ (p : Proc). IsRowOf left p c.in_ok-row_of.field-0) c.proc-item.is made.row) c.in_ok-push.ensures.items;
      left = left_next procs k d all left c.row_of.new.all.entries lt before.left
          (made.left ∙ ap (λ (p : Proc). faces_but (takes_face p) left) c.proc-item.is);
      same = made.same ∙ before.same;
      exact = λ are. owners_next procs k d c.row_of.new.opens.entries lt
          (subst (λ (p : Proc). OwnersAre (p.fds ∷ map (λ (q : Proc). q.fds) (take k procs)) [] c.row_of.new.opens.entries) c.proc-item.is
          (made.exact (map (λ (q : Proc). q.fds) (take k procs)) (before.exact are)));
    }
