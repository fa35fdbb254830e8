use Rattle.std.proofs.Common.{◌≡◌, ℕ, List, map, ap, subst, ◌∙◌}
use Rattle.ckpt_records.specs.Cost.{blocks_for}
use Rattle.ckpt_records.specs.Pages.{ArePagesOf, written_page}
use Rattle.ckpt_records.specs.declared.meta.Page.{Page}
use Rattle.group_defs.specs.Group.{Group}
use Rattle.group_defs.specs.declared.frame.Frame.{Frame}
use Rattle.flat_kernel.specs.Engine.{group_in}
use Rattle.page_flusher.specs.Plans.{IsPlanRefused}
use Rattle.page_flusher.specs.declared.kept.KeptBlocks.{KeptBlocks}
use Rattle.page_flusher.specs.declared.plan.PlanRefused.{PlanRefused}
use Rattle.page_flusher.specs.declared.plan.PlanRefused.TheVariants.{Full}
use Rattle.solo_engine.specs.Interval.{NeedsMore}
use Rattle.solo_engine.proofs.interval.planned_commit.Goals as goal

-- a plan that is refused for want of blocks
full_needs : (count : ℕ) (g : Group) (k : KeptBlocks) (f : Frame) (pages : List Page) (need free : ℕ) → f ≡ g.frame → ArePagesOf g pages → IsPlanRefused count k.used f pages (Full need free) → NeedsMore count g k need free
full_needs count g k f pages need free same are full = record {
  free_is = full.free_is;
  need_is = full.need_is ∙ ap (λ (x : Frame). blocks_for x (map written_page pages)) same ∙ ap (blocks_for g.frame) are.which;
  too_few = full.too_few;
}

pub returns-in-Err-Full-clause-refused : goal.returns-in-Err-Full-clause-refused
returns-in-Err-Full-clause-refused c =
    let g = group_in c.args.engine.now.group in
    full_needs c.args.count g c.args.engine.now.kept c.in-Ok.frozen.0 c.in-Ok.frozen.1.items c.in-Err-Full.need c.in-Err-Full.free c.in-Ok.ensures.frame c.in-Ok.ensures.pages
    (subst (λ (r : PlanRefused). IsPlanRefused c.args.count c.args.engine.now.kept.used c.in-Ok.frozen.0 c.in-Ok.frozen.1.items r) c.in-Err-Full.field-0-is c.in-Err-Full.ensures.refused)
