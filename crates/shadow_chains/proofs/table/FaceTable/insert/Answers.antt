use Rattle.std.proofs.Common.{refl}
use Rattle.tables.proofs.Numbers.{rise_set, changed_at}
use Rattle.shadow_chains.specs.Entries.{number_of, entry_with}
use Rattle.shadow_chains.proofs.table.FaceTable.insert.Goals as goal

pub invariant_of-self : goal.invariant_of-self
invariant_of-self c =
    let here = rw c.deref.ensures.value at c.in-Some.ensures.some in
    rise_set number_of c.self.inside.entries.items c.self.invariant c.args.number c.in-Some.place (entry_with c.args.number c.args.face) here refl

pub returns-in-Some-clause-ok : goal.returns-in-Some-clause-ok
returns-in-Some-clause-ok c =
    let here = rw c.deref.ensures.value at c.in-Some.ensures.some in
    rw (← c.self.view_is, here.entry (entry_with c.args.number c.args.face)) (changed_at number_of c.self.inside.entries.items c.self.invariant c.args.number c.in-Some.place (λ _. entry_with c.args.number c.args.face) (entry_with c.args.number c.args.face) here)
