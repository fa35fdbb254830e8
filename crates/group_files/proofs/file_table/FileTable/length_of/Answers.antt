use Rattle.std.proofs.Common.{refl, sym, ap}
use Rattle.std.specs.Option.{option_map}
use Rattle.group_files.specs.declared.named_files.FileRec.{FileRec}
use Rattle.tables.proofs.Only.{find_no}
use Rattle.group_files.proofs.Changed.{with_at}
use Rattle.group_files.proofs.file_table.FileTable.length_of.Goals as goal

pub returns-in-Some : goal.returns-in-Some
returns-in-Some c =
    let here = rw c.deref.ensures.value at c.in-Some.ensures.some in
    let found = with_at _ c.self.invariant c.args.object c.in-Some.place here c.index.result.now in
    let there = rw (← c.index.ensures) at found in
    rw (c.file_ref.ensures, ← c.self.view_is, there) refl

pub returns-in-None : goal.returns-in-None
returns-in-None c =
    let none = rw c.deref.ensures.value at c.in-None.ensures.none in
    rw (← c.self.view_is) (sym (ap (option_map (λ (f : FileRec). f.length)) (find_no _ _ none)))
