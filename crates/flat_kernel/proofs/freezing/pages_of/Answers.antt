use Rattle.std.proofs.Common.{◌∙◌, ap, sym, subst}
use Rattle.flat_kernel.specs.Engine.{group_in}
use Rattle.flat_kernel.specs.Memory.{memory_in}
use Rattle.ckpt_records.specs.Pages.{ArePagesOf}
use Rattle.group_defs.specs.Group.{Group}
use Rattle.flat_kernel.proofs.EngineLaws.{ended_in, running_in}
use Rattle.flat_kernel.proofs.PlaceLaws.{gathered_pages, gathered_whole, no_gathered}
use Rattle.flat_kernel.proofs.freezing.pages_of.Goals as goal

pub returns-then-g-clause-pages : goal.returns-then-g-clause-pages
returns-then-g-clause-pages c =
    gathered_pages c.pages_in_objects.result (group_in c.args.g.now) (memory_in c.deref.result.now) (ap (λ (g : Group). g.memory) (running_in c.args.g.now c.if-g.true) ∙ ap memory_in (sym c.deref.ensures.value)) c.requires c.pages_in_objects.ensures

pub returns-then-g-clause-whole : goal.returns-then-g-clause-whole
returns-then-g-clause-whole c =
    gathered_whole c.pages_in_objects.result (group_in c.args.g.now) (memory_in c.deref.result.now) (ap (λ (g : Group). g.memory) (running_in c.args.g.now c.if-g.true) ∙ ap memory_in (sym c.deref.ensures.value)) c.requires c.pages_in_objects.ensures

pub returns-else-g-clause-pages : goal.returns-else-g-clause-pages
returns-else-g-clause-pages c = subst (ArePagesOf (group_in c.args.g.now)) (sym c.new.ensures.items) (no_gathered (group_in c.args.g.now) (ap (λ (g : Group). g.memory) (ended_in c.args.g.now c.if-g.false)) c.requires)
