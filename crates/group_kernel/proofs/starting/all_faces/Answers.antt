use Rattle.std.proofs.Common.{◌∙◌, List, arith, subst, sym}
use Rattle.shadow_chains.specs.declared.entry.Entry.{Entry}
use Rattle.group_kernel.proofs.FirstTables.{AreFacesUpTo, all_first, in_objects, next_at, no_faces}
use Rattle.group_kernel.proofs.starting.all_faces.Goals as goal

pub loop-numbered-init : goal.loop-numbered-init
loop-numbered-init c =
    let rest = c.into_iter-numbered-iterator.ensures.into_iter_gives.0 ∙ c.into_vec-numbered-items.ensures in
    subst (λ (l : List _). AreFacesUpTo c.args.epoch c.args.objects.now c.args.layers l 0 c.new-faces.result.entries) (sym rest)
    (subst (λ (l : List Entry). AreFacesUpTo c.args.epoch c.args.objects.now c.args.layers c.args.layers 0 l) (sym c.new-faces.ensures) (no_faces c.args.epoch c.args.objects.now c.args.layers))

pub bounds-objects-place : goal.bounds-objects-place
bounds-objects-place c = in_objects c.args.epoch c.args.objects.now c.args.layers c.loop-numbered.numbered-iterator.rest.items c.loop-numbered.place c.loop-numbered.faces.entries c.requires.layers c.loop-numbered.invariant c.in-Some.numbered c.next.new.self.rest.items c.in-Some.ensures.steps.0

pub loop-numbered-preserved : goal.loop-numbered-preserved
loop-numbered-preserved c =
    next_at c.args.epoch c.args.objects.now c.args.layers c.loop-numbered.numbered-iterator.rest.items c.loop-numbered.place c.loop-numbered.faces.entries c.requires.layers c.loop-numbered.invariant c.in-Some.numbered c.next.new.self.rest.items c.in-Some.ensures.steps.0
    _ c.in_ok-face.face c.insert.new.self.entries c.requires.rise c.in_ok-face.ensures c.in_ok-insert.ensures.ok

pub returns-clause-first : goal.returns-clause-first
returns-clause-first c =
    all_first c.args.epoch c.args.objects.now c.args.layers c.loop-numbered.numbered-iterator.rest.items c.loop-numbered.place c.loop-numbered.faces.entries c.requires.layers c.loop-numbered.invariant
    (omega (arith, c.in-None.ensures.steps.0, c.loop-numbered.numbered-iterator.rest.ok.0))
