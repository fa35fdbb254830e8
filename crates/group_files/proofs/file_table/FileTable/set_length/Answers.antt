use Rattle.std.proofs.Common.{sym}
use Rattle.tables.proofs.Only.{on_first_no}
use Rattle.group_files.proofs.Changed.{length_at, files_set}
use Rattle.group_files.proofs.file_table.FileTable.set_length.Goals as goal

pub invariant_of-self : goal.invariant_of-self
invariant_of-self c =
    let here = rw c.deref.ensures.value at c.in-Some.ensures.some in
    rw (c.set_length.ensures, c.index_mut.ensures.value) (files_set _ c.self.invariant c.args.object c.in-Some.place here c.args.length c.index_mut.result.now c.if-length-gt1048576.false)

pub returns-in-Some-clause-ok : goal.returns-in-Some-clause-ok
returns-in-Some-clause-ok c =
    let here = rw c.deref.ensures.value at c.in-Some.ensures.some in
    rw (c.set_length.ensures, c.index_mut.ensures.value, ← c.self.view_is) (length_at _ c.self.invariant c.args.object c.in-Some.place here c.args.length c.index_mut.result.now)

pub returns-in_default-clause-ok : goal.returns-in_default-clause-ok
returns-in_default-clause-ok c =
    let none = rw c.deref.ensures.value at c.in_default.ensures.none in
    rw (← c.self.view_is) (sym (on_first_no _ (λ f. record f { length = c.args.length }) _ none))
