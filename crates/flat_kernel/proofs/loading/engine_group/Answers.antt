use Rattle.std.proofs.Common.{◌≡◌, ◌≤◌, ℕ, List, ◌∷◌, [], sym, ap₂, ◌∙◌, subst}
use Rattle.std.specs.Prelude.{All}
use Rattle.std.proofs.lemmas.Result.{IfOk-weaker}
use Rattle.group_defs.specs.declared.frame.ObjectRec.{ObjectRec}
use Rattle.group_defs.specs.Valid.{valid_frame}
use Rattle.ckpt_records.specs.Parts.{group_of, memory_of}
use Rattle.flat_kernel.specs.Memory.{TableFits}
use Rattle.flat_kernel.proofs.MemoryLaws.{fits_of}
use Rattle.flat_kernel.proofs.PartsLaws.{group_of_none, group_of_one, none_popped, only_one, small_objects}
use Rattle.flat_kernel.proofs.loading.engine_group.Goals as goal

pub objects_of-requires-clause-small : goal.objects_of-requires-clause-small
objects_of-requires-clause-small c =
    subst (λ (os : List ObjectRec). All (λ o. o.pages ≤ 16384) os) (sym c.as_slice.ensures) (small_objects (group_of c.args.parts) c.requires.group.valid)

pub with_process-requires : goal.with_process-requires
with_process-requires c =
    let p = c.args.parts in
    let one : p.frame.procs ≡ c.in-Some.process ∷ [] = only_one p.frame.procs c.pop.new.self.items c.in-Some.process c.requires.group.built.one (sym c.into_vec-procs.ensures ∙ c.in-Some.ensures.items) in
    let memory = c.in_ok-memory.ensures ∙ ap₂ memory_of c.as_slice.ensures c.as_slice-2.ensures in
    subst (λ (m : List (ℕ × List ℕ)). TableFits m c.in-Some.process.maps) (sym memory) (fits_of (group_of p) c.in-Some.process c.requires.group.valid c.requires.group.built.alone one)

pub returns-in-Some-clause-group : goal.returns-in-Some-clause-group
returns-in-Some-clause-group c =
    let p = c.args.parts in
    let one : p.frame.procs ≡ c.in-Some.process ∷ [] = only_one p.frame.procs c.pop.new.self.items c.in-Some.process c.requires.group.built.one (sym c.into_vec-procs.ensures ∙ c.in-Some.ensures.items) in
    let memory = c.in_ok-memory.ensures ∙ ap₂ memory_of c.as_slice.ensures c.as_slice-2.ensures in
    IfOk-weaker c.with_process.result _ _ (λ g h. h ∙ group_of_one p.frame c.in-Some.process (memory_of p.frame.objects p.layers) _ (valid_frame (group_of p) c.requires.group.valid) c.requires.group.built one memory) c.with_process.ensures.group

pub returns-clause-group : goal.returns-clause-group
returns-clause-group c =
    let p = c.args.parts in
    let none : p.frame.procs ≡ [] = sym c.into_vec-procs.ensures ∙ none_popped c.into_vec-procs.result.items c.pop.new.self.items _ c.in-None.ensures.cases.0 c.in-None.ensures.items c.in-None.ensures.rest in
    IfOk-weaker c.without_process.result _ _ (λ g h. h ∙ group_of_none p.frame p.layers (valid_frame (group_of p) c.requires.group.valid) c.requires.group.built none) c.without_process.ensures.group
