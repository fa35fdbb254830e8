use Rattle.std.proofs.Common.{◌+◌, ◌∙◌, ℕ, ap, refl, subst, sym}
use Rattle.std.proofs.lemmas.List.{take_all}
use Rattle.ckpt_chain.specs.declared.slot.Slot.{Slot}
use Rattle.commit_gate.specs.Whole.{numbers}
use Rattle.page_flusher.specs.declared.kept.KeptBlocks.{KeptBlocks}
use Rattle.page_flusher.proofs.CommitLaws.{Opens, gates_after}
use Rattle.page_flusher.proofs.kept.KeptBlocks.after.Goals as goal
use Rattle.page_flusher.proofs.kept.KeptBlocks.after.Goals.{in-A, in-B}

pub returns : goal.returns
returns c =
    let k = c.args.self.now in
    let k' : KeptBlocks = record { epoch = k.epoch + 1; used = c.of.result; target = c.other_slot.result; gate_a = c.match-self.gate_a.0; gate_b = c.match-self.gate_a.1 } in
    let opens : Opens k.target k k' = elim c.match-self.branch [
      | in-A w ↦ subst (λ (t : Slot). Opens t k k') (sym w.in-A.is) (ap (λ (x : ℕ × ℕ). x.0) w.gate_a-is, ap (λ (x : ℕ × ℕ). x.1) w.gate_a-is)
      | in-B w ↦ subst (λ (t : Slot). Opens t k k') (sym w.in-B.is) (ap (λ (x : ℕ × ℕ). x.1) w.gate_a-is, ap (λ (x : ℕ × ℕ). x.0) w.gate_a-is)
    ] in
    record {
      epoch = refl;
      used = c.of.ensures ∙ c.loop-block.invariant ∙ ap numbers (take_all c.loop-block.block-index c.args.blocks.now c.loop-block-test.false);
      target = c.other_slot.ensures;
      opened = opens.0;
      stays = opens.1;
      gates = gates_after k k' c.args.blocks.now opens;
    }
