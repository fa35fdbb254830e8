use Rattle.std.proofs.Common.{◌≡◌, ◌∙◌, sym, refl}
use Rattle.std.proofs.lemmas.Bool.{false≢true, ne_eqb}
use Rattle.ckpt_records.proofs.WalkLaws.{misplaced, listed_where}
use Rattle.ckpt_records.proofs.listed.runs_valid.Goals as goal

pub returns-then-not-runs_rise : goal.returns-then-not-runs_rise
returns-then-not-runs_rise c = (λ never. absurd (false≢true never), λ listed. absurd (false≢true (sym c.if-not-runs_rise.true ∙ c.runs_rise.ensures.1 listed.rising)))

pub returns-then-not-are_placed : goal.returns-then-not-are_placed
returns-then-not-are_placed c = (
  λ never. absurd (false≢true never),
  λ listed. absurd (misplaced c.args.format c.args.blocks c.args.objects.now c.args.runs.now c.requires (sym c.are_placed.ensures ∙ c.if-not-are_placed.true) listed),
)

pub returns-then-format-ne2 : goal.returns-then-format-ne2
returns-then-format-ne2 c = (
  λ _. listed_where c.args.format c.args.blocks c.args.objects.now c.args.runs.now c.requires (c.runs_rise.ensures.0 c.if-not-runs_rise.false) (sym c.are_placed.ensures ∙ c.if-not-are_placed.false) (λ is. absurd (c.if-format-ne2.true is)),
  λ _. rw (ne_eqb c.args.format 2 c.if-format-ne2.true) refl,
)

pub returns-else-format-ne2 : goal.returns-else-format-ne2
returns-else-format-ne2 c = (
  λ apart. listed_where c.args.format c.args.blocks c.args.objects.now c.args.runs.now c.requires (c.runs_rise.ensures.0 c.if-not-runs_rise.false) (sym c.are_placed.ensures ∙ c.if-not-are_placed.false) (λ _. c.are_apart.ensures.0 apart),
  λ listed. c.are_apart.ensures.1 (listed.apart c.if-format-ne2.false),
)
