use Rattle.std.proofs.Common.{rules, tests, Bool}
use Rattle.std.specs.Prelude.{not}
use Rattle.std.proofs.lemmas.List.Sorted.{answers_always}
use Rattle.ckpt_records.specs.declared.meta.PageRun.{PageRun}
use Rattle.ckpt_records.specs.Listed.{first_page}
use Rattle.ckpt_records.specs.Runs.{continues}
use Rattle.ckpt_records.proofs.RunLaws.{apart_answered}
use Rattle.ckpt_records.proofs.listed.are_apart.Goals as goal

pub returns : goal.returns
returns c = apart_answered c.args.runs.now _ (c.is_sorted_by.ensures.cases (λ r q. not (continues r (first_page q))) (answers_always _ _ _ (λ f a r h called. search (rules, tests))))
