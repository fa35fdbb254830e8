use Rattle.std.proofs.Common.{◌∙◌, List, subst}
use Rattle.std.specs.Prelude.{IfOk}
use Rattle.ckpt_records.specs.declared.meta.PagePlace.{PagePlace}
use Rattle.page_flusher.specs.Taking.{IsSpelledBy}
use Rattle.page_flusher.proofs.plan.record_of.Goals as goal

pub returns-clause-spelled : goal.returns-clause-spelled
returns-clause-spelled c = subst (λ (l : List PagePlace). IfOk c.write_meta.result (λ bytes. IsSpelledBy bytes.items c.args.frame.now l)) (c.deref.ensures.value ∙ c.in_ok-places.ensures) c.write_meta.ensures.spelled
