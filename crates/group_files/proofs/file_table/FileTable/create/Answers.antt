use Rattle.std.proofs.Common.{◌≡◌, ◌<◌, length, false, Option, Some, None, refl, sym, ◌∙◌, arith}
use Rattle.std.specs.Prelude.{is_some}
use Rattle.std.specs.Option.{option_map}
use Rattle.std.proofs.lemmas.Bool.{true≢false}
use Rattle.group_files.specs.Names.{IsName}
use Rattle.group_files.proofs.Changed.{files_inserted}
use Rattle.group_files.proofs.file_table.FileTable.create.Goals as goal

none_mapped : {A B : Type 0} (f : A → B) (o : Option A) → is_some o ≡ false → option_map f o ≡ None
none_mapped f None off = refl
none_mapped f (Some x) off = absurd (true≢false off)

pub new-requires : goal.new-requires
unfolding IsName
new-requires c = c.requires.name.1

pub invariant_of-self-2 : goal.invariant_of-self-2
invariant_of-self-2 c =
    let new = rw (← c.self.view_is) at c.requires.object in
    let none = rw c.deref.ensures.value at (sym c.find_named.ensures ∙ none_mapped (λ r. r.now) c.find_named.result (sym c.is_some.ensures ∙ c.if-is_some.false)) in
    let room : length c.self.inside.files.items < 64 = omega (arith, c.self.inside.files.ok.0, c.len.ensures, c.if-len-ge64.false) in
    rw (c.in_ok-insert.ensures.ok, c.place_of-place.ensures.place, c.deref-2.ensures.value, c.new.ensures) (files_inserted _ c.self.invariant c.args.name.now c.args.object c.requires.name new none room)
