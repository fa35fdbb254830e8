use Rattle.std.proofs.Common.{List, ℕ, ◌<◌, length, replicate, sym, ap, ◌∙◌, subst, arith}
use Rattle.std.proofs.lemmas.List.{length-replicate}
use Rattle.std.proofs.lemmas.List.Elements.{All-replicate}
use Rattle.std.proofs.lemmas.Result.{IfOk-weaker}
use Rattle.lists.specs.Bytes.{AreBytes}
use Rattle.flat_tests.proofs.tests.loading.sevens.Goals as goal

sevens : AreBytes (replicate 4096 7)
unfolding AreBytes
sevens = All-replicate (λ (b : ℕ). b < 256) 4096 7 (omega arith)

pub returns : goal.returns
returns c = IfOk-weaker c.of.result _ _ (λ p h. (ap (λ (bytes : List ℕ). length bytes) h ∙ length-replicate {A = ℕ} 4096 7, subst AreBytes (sym h) sevens)) c.of.ensures
