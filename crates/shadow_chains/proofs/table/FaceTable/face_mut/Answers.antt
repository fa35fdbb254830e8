use Rattle.std.proofs.Common.{◌-◌, vec_len, vec_capacity}
use Rattle.tables.proofs.Numbers.{rise_set}
use Rattle.shadow_chains.specs.Entries.{number_of}
use Rattle.shadow_chains.proofs.Lent.{number_at, face_at, lent_same, lent_face}
use Rattle.shadow_chains.proofs.table.FaceTable.face_mut.Goals as goal

pub invariant_of-self-lent : goal.invariant_of-self-lent
invariant_of-self-lent c w =
    let here = rw c.deref.ensures.value at c.in-Some.ensures.some in
    rise_set number_of c.self.inside.entries.items c.self.invariant c.args.number c.in-Some.place _ here (number_at c.self.inside.entries.items c.args.number c.in-Some.place c.index_mut-entry.result.now here c.index_mut-entry.ensures.value)

pub returns-in-Some : goal.returns-in-Some
returns-in-Some c =
    let here = rw c.deref.ensures.value at c.in-Some.ensures.some in
    let x = c.index_mut-entry.result.now in
    rw (← c.self.view_is) (
      lent_same _ _ _ (λ w i. record { entries = lent_face c.self.inside.entries.items c.self.invariant c.args.number c.in-Some.place x here c.index_mut-entry.ensures.value w i; spare = vec_capacity c.self.inside.entries - vec_len c.self.inside.entries }),
      record { lends = tt; value = face_at c.self.inside.entries.items c.args.number c.in-Some.place x here c.index_mut-entry.ensures.value },
    )
