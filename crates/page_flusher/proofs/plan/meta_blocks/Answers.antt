use Rattle.std.proofs.Common.{◌≡◌, ◌+◌, ◌<◌, ◌∙◌, ◌++◌, ◌∷◌, [], List, ℕ, length, sym, ap, subst, take, arith}
use Rattle.std.proofs.lemmas.List.{take_all, take_more}
use Rattle.commit_gate.specs.declared.whole.Block.{Block}
use Rattle.page_flusher.specs.Taking.{Carry}
use Rattle.page_flusher.proofs.Laying.{carry_none, carry_more}
use Rattle.page_flusher.proofs.plan.meta_blocks.Goals as goal

pub loop-i-init : goal.loop-i-init
loop-i-init c = subst (λ (l : List Block). Carry [] [] l) (sym c.new-blocks.ensures.items) carry_none

pub loop-i-preserved : goal.loop-i-preserved
loop-i-preserved c =
    let i = c.loop-i.i in
    let metas = c.args.metas.now in
    let same : c.of.result ≡ c.index-metas-i.result = c.of.ensures ∙ c.in_ok-from_slice.ensures.items ∙ c.as_slice.ensures.bytes in
    let more : take i metas ++ c.of.result ∷ [] ≡ take (i + 1) metas = ap (λ (x : List ℕ). take i metas ++ x ∷ []) (same ∙ c.index-metas-i.is) ∙ sym (take_more metas i c.index-metas-i.result c.loop-i-test.true) in
    let low : i < length c.args.numbers.now = omega (arith, c.requires, c.loop-i-test.true) in
    carry_more c.args.numbers.now i (take i metas) (take (i + 1) metas) c.of.result c.loop-i.blocks.items c.push.new.self.items low c.loop-i.invariant c.in_ok-push.ensures.items more

pub returns : goal.returns
returns c = record {
  numbers_are = c.loop-i.invariant.numbers_are ∙ take_all c.loop-i.i c.args.numbers.now (omega (arith, c.requires, c.loop-i-test.false));
  bytes_are = c.loop-i.invariant.bytes_are ∙ take_all c.loop-i.i c.args.metas.now c.loop-i-test.false;
}
