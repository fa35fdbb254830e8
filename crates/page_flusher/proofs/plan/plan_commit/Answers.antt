use Rattle.std.proofs.Common.{◌≡◌, ◌≤◌, ◌∙◌, List, ℕ, ap, arith, map, subst, sym}
use Rattle.ckpt_records.specs.Cost.{blocks_for}
use Rattle.ckpt_records.specs.Pages.{written_page}
use Rattle.ckpt_records.specs.declared.meta.Page.{Page}
use Rattle.page_flusher.specs.Plans.{IsFreeCount, placed}
use Rattle.page_flusher.specs.Taking.{IsLaidIn, IsSpelledBy}
use Rattle.page_flusher.proofs.FreeLaws.{free_count_is}
use Rattle.page_flusher.proofs.Laying.{laid_out}
use Rattle.page_flusher.proofs.LayoutLaws.{laid_avoids, laid_plan}
use Rattle.page_flusher.proofs.plan.plan_commit.Goals as goal

pub returns-then-need-free-clause-refused : goal.returns-then-need-free-clause-refused
returns-then-need-free-clause-refused c = record {
  need_is = c.in-Ok-blocks_needed.ensures ∙ ap (λ (l : List Page). blocks_for c.args.frame.now (map written_page l)) c.deref.ensures.value;
  free_is = λ blocks same. c.free_count-free.ensures ∙ free_count_is c.args.count c.args.used.now blocks same c.in-Ok.unused c.in-Ok.ensures.count (omega (arith, c.requires.least)) c.in-Ok.ensures.free;
  too_few = omega (arith, c.if-need-free.true);
}

pub returns-in-Ok-plan_in : goal.returns-in-Ok-plan_in
returns-in-Ok-plan_in c =
    let plan = c.in-Ok-plan_in.plan in
    let layout = c.in-Ok-lay_out.layout in
    let pages = c.args.pages.items in
    let f = c.args.frame.now in
    let lies = subst (λ (l : List Page). IsLaidIn c.in-Ok.unused f l layout c.lay_out.new.free) c.deref-2.ensures.value c.in-Ok-lay_out.ensures.laid in
    let spelled = subst (λ (l : List Page). IsSpelledBy layout.bytes.items f (placed l layout.places.items)) c.deref-2.ensures.value c.in-Ok-lay_out.ensures.spelled in
    let own : IsFreeCount c.args.count c.args.used.now c.free_count-free.result = λ blocks same. c.free_count-free.ensures ∙ free_count_is c.args.count c.args.used.now blocks same c.in-Ok.unused c.in-Ok.ensures.count (omega (arith, c.requires.least)) c.in-Ok.ensures.free in
    let need = c.in-Ok-blocks_needed.ensures ∙ ap (λ (l : List Page). blocks_for f (map written_page l)) c.deref.ensures.value in
    let out = laid_out c.args.count c.args.used.now c.in-Ok.unused c.lay_out.new.free c.args.epoch f pages layout plan.blocks plan.body c.in-Ok.ensures.free lies c.in-Ok-plan_in.ensures in
    record {
      laid = out;
      fits = λ free is. omega (arith, c.if-need-free.false, need, own c.args.used.now (λ b. (λ h. h, λ h. h)), is c.args.used.now (λ b. (λ h. h, λ h. h)));
      refused = tt;
      avoids = λ kept covers. laid_avoids c.args.count c.args.used.now c.args.epoch f pages plan.blocks plan.body c.requires.whole out kept covers;
      plan = λ g same checkpointed are. laid_plan c.args.count c.args.used.now c.args.epoch f pages plan.blocks plan.body c.requires.whole out
          (subst (λ (bytes : List ℕ). IsSpelledBy bytes f (placed pages layout.places.items)) lies.record_is spelled) c.written_is_held.ensures c.kept_is_held.ensures c.metas_suffice.ensures c.requires.least c.requires.most g same checkpointed are c.ranges.epoch.fits;
    }
