use Rattle.ckpt_records.specs.Runs.{pages_of_runs}
use Rattle.ckpt_records.specs.Spells.{Spells}
use Rattle.restore_group.proofs.FewPages.{pages_few}
use Rattle.restore_group.proofs.record.meta_of.Goals as goal

pub listed_in-requires-clause-few : goal.listed_in-requires-clause-few
listed_in-requires-clause-few g c = λ whole.
    let listing = c.in-Ok-Some.listing in
    let spelled : Spells c.args.body.format _ _ listing.frame (pages_of_runs listing.runs) = rw c.in-Ok-Some.field-0-is at c.in-Ok-Some.ensures.found in
    pages_few listing.frame _ _ whole.valid.sound spelled.orderly
