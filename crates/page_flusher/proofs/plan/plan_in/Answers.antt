use Rattle.std.proofs.Common.{◌++◌, ◌∙◌, List, ap, ap₂, map, subst, sym}
use Rattle.ckpt_chain.specs.Chain.{first_of, laid}
use Rattle.commit_gate.specs.declared.whole.Block.{Block}
use Rattle.ckpt_records.specs.declared.meta.Page.{Page}
use Rattle.page_flusher.specs.Taking.{Carry}
use Rattle.page_flusher.proofs.Laying.{body_of}
use Rattle.page_flusher.proofs.plan.plan_in.Goals as goal

pub returns : goal.returns
returns c =
    let layout = c.args.layout.now in
    record {
      carry = subst (λ (l : List Block). Carry (layout.places.items ++ layout.metas.items) (map (λ (p : Page). p.bytes) c.args.pages.items ++ laid layout.bytes.items layout.metas.items) l) (sym c.of.ensures) c.in_ok-blocks.ensures;
      body_is = ap₂ (body_of c.args.epoch) (c.first_block.ensures ∙ ap first_of c.deref.ensures.value) (c.len.ensures ∙ layout.bytes.ok.0);
    }
