-- Steps, one after another.
use Rattle.std.proofs.Common.{◌≡◌, ℕ, ◌+◌, List, refl, sym, subst, add-one}
use Rattle.rv64_isa.specs.declared.regs.Regs.{Regs}
use Rattle.rv64_isa.specs.Instruction.{instruction}
use Rattle.rv64_isa.specs.Memory.{Cells}
use Rattle.rv64_core.specs.Step.{IsAfterStep, after_landing}
use Rattle.rv64_core.specs.Steps.{AreAfterSteps}

module _ {T : Type 0} (landed : T → ℕ → List ℕ → T) (r : Regs) (cells : Cells) (table : T) where
  -- after no step all is as it was
  pub none_made : AreAfterSteps landed 0 r cells table r cells table
  unfolding AreAfterSteps
  none_made = (refl, refl, refl)

  -- one more step
  pub one_more_made : (n : ℕ) (s : Regs) (d : Cells) (t : T) (r' : Regs) (cells' : Cells) (table' : T) → AreAfterSteps landed n r cells table s d t →
      IsAfterStep (instruction d s) d r' cells' → table' ≡ after_landing landed (instruction d s) t → AreAfterSteps landed (n + 1) r cells table r' cells' table'
  unfolding AreAfterSteps
  one_more_made n s d t r' cells' table' before after landing = rw add-one (s, (d, (t, (before, after, landing))))

  -- what is equal to them stands after the steps too
  pub the_same_made : (n : ℕ) (s : Regs) (d : Cells) (t : T) (s' : Regs) (d' : Cells) (t' : T) → AreAfterSteps landed n r cells table s d t →
      s' ≡ s → d' ≡ d → t' ≡ t → AreAfterSteps landed n r cells table s' d' t'
  the_same_made n s d t s' d' t' before same_regs same_cells same_table =
      let at_table : T → Type 0 = λ x. AreAfterSteps landed n r cells table s d x in
      let at_cells : Cells → Type 0 = λ x. AreAfterSteps landed n r cells table s x t' in
      let at_regs : Regs → Type 0 = λ x. AreAfterSteps landed n r cells table x d' t' in
      subst at_regs (sym same_regs) (subst at_cells (sym same_cells) (subst at_table (sym same_table) before))

  -- their number by another name
  pub as_many_made : (n m : ℕ) (s : Regs) (d : Cells) (t : T) → n ≡ m → AreAfterSteps landed n r cells table s d t → AreAfterSteps landed m r cells table s d t
  as_many_made n m s d t e before = let P : ℕ → Type 0 = λ k. AreAfterSteps landed k r cells table s d t in subst P e before
