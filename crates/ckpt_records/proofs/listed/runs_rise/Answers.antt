use Rattle.std.proofs.Common.{rules, tests, Bool, arith, ◌<◌, ◌+◌, ◌≡◌, inl, inr, ◌⊎◌, ◌∙◌, sym, subst}
use Rattle.std.specs.Prelude.{nat_lt, nat_le, ◌||◌, ◌&&◌, ◌==◌}
use Rattle.std.specs.Bool.{Decides}
use Rattle.std.proofs.lemmas.Bool.Decides.{nat_tests}
use Rattle.std.proofs.lemmas.List.Sorted.{answers_always}
use Rattle.tables.proofs.Adjacent.{pairs_answered}
use Rattle.ckpt_records.specs.declared.meta.PageRun.{PageRun}
use Rattle.ckpt_records.specs.Listed.{IsRunBefore}
use Rattle.ckpt_records.proofs.listed.runs_rise.Goals as goal

carries : (x y z : PageRun) → IsRunBefore x y → IsRunBefore y z → IsRunBefore x z
unfolding IsRunBefore
carries x y z (inl a) (inl b) = inl (omega arith)
carries x y z (inl a) (inr b) = inl (omega (arith, b.0))
carries x y z (inr a) (inl b) = inl (omega (arith, a.0))
carries x y z (inr a) (inr b) = inr (a.0 ∙ b.0, omega arith)

is_before : PageRun → PageRun → Bool
is_before r q = nat_lt r.object q.object || ((r.object == q.object) && nat_le (r.first + r.count) q.first)

says : (r q : PageRun) → Decides (is_before r q) (IsRunBefore r q)
unfolding is_before IsRunBefore
says r q = grind (arith, nat_tests)

pub returns : goal.returns
unfolding is_before
returns c =
    pairs_answered IsRunBefore carries is_before says c.args.runs.now _ (c.is_sorted_by.ensures.cases is_before (answers_always _ _ _ (λ f a r h called. search (rules, tests))))
