use Rattle.mem_objects.proofs.Places.{page_at, page_in_gap}
use Rattle.shadow_chains.proofs.Faces.{ok_from}
use Rattle.shadow_chains.proofs.Joins.{joins_found, joins_put}
use Rattle.shadow_chains.proofs.flattening.move_one.Goals as goal

pub returns-in-Ok-clause-joins : goal.returns-in-Ok-clause-joins
returns-in-Ok-clause-joins c = joins_found _ _ _ _ (page_at _ c.requires.rise _ _ (rw c.deref.ensures.value at c.in-Ok.ensures.found))

pub returns-in-Err-clause-joins : goal.returns-in-Err-clause-joins
returns-in-Err-clause-joins c =
    joins_put _ _ _ _ (page_in_gap _ _ _ (rw c.deref.ensures.value at c.in-Err.ensures.absent)) (ok_from c.add.result _ c.add.ensures.puts (c.add.ensures.succeeds c.requires.room))
