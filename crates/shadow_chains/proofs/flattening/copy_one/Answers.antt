use Rattle.mem_objects.proofs.Places.{page_at, page_in_gap}
use Rattle.shadow_chains.proofs.Faces.{ok_map}
use Rattle.shadow_chains.proofs.Joins.{joins_found, joins_put}
use Rattle.shadow_chains.proofs.flattening.copy_one.Goals as goal

pub returns-in-Ok-clause-ok : goal.returns-in-Ok-clause-ok
returns-in-Ok-clause-ok c = joins_found _ _ _ _ (page_at _ c.requires _ _ (rw c.deref.ensures.value at c.in-Ok.ensures.found))

pub returns-in_ok-copy-in-Err-clause-ok : goal.returns-in_ok-copy-in-Err-clause-ok
returns-in_ok-copy-in-Err-clause-ok c =
    ok_map c.add.result _ _ (λ puts. joins_put _ _ _ _ (page_in_gap _ _ _ (rw c.deref.ensures.value at c.in-Err.ensures.absent)) (rw (c.in_ok-copy-in-Err.ensures, c.as_array.ensures.bytes) at puts)) c.add.ensures.puts
