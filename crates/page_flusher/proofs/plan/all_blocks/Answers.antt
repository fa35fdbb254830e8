use Rattle.std.proofs.Common.{◌≡◌, ◌∙◌, List, ℕ, length, map, sym, ap, ap₂, subst}
use Rattle.ckpt_chain.specs.Chain.{laid}
use Rattle.page_flusher.specs.Taking.{Carry}
use Rattle.ckpt_records.specs.declared.meta.Page.{Page}
use Rattle.page_flusher.proofs.Laying.{carry_both, laid_length}
use Rattle.page_flusher.proofs.plan.all_blocks.Goals as goal

pub meta_blocks-requires : goal.meta_blocks-requires
meta_blocks-requires c =
    ap length c.deref-4.ensures.value
    ∙ sym (ap length (c.deref-5.ensures.value ∙ c.in_ok-stream.ensures ∙ ap₂ laid c.deref-2.ensures.value c.deref-3.ensures.value) ∙ laid_length c.args.layout.now.bytes.items c.args.layout.now.metas.items)

pub returns : goal.returns
returns c =
    let layout = c.args.layout.now in
    let contents = map (λ (p : Page). p.bytes) c.args.pages.items in
    let blocks = c.in_ok-blocks.blocks.items in
    let behind = c.in_ok-behind.behind.items in
    let stream : c.deref-5.result.now ≡ laid layout.bytes.items layout.metas.items = c.deref-5.ensures.value ∙ c.in_ok-stream.ensures ∙ ap₂ laid c.deref-2.ensures.value c.deref-3.ensures.value in
    let first = subst (λ (l : List ℕ). Carry l contents blocks) c.deref.ensures.value c.in_ok-blocks.ensures in
    let second = subst (λ (l : List (List ℕ)). Carry layout.metas.items l behind) stream (subst (λ (l : List ℕ). Carry l c.deref-5.result.now behind) c.deref-4.ensures.value c.in_ok-behind.ensures) in
    carry_both layout.places.items layout.metas.items contents (laid layout.bytes.items layout.metas.items) blocks behind c.append.new.self.items first second c.in_ok-append.ensures.items
