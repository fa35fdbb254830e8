use Rattle.std.proofs.Common.{refl}
use Rattle.mem_objects.proofs.Places.{page_at, page_in_gap}
use Rattle.shadow_chains.proofs.Removed.{rise_remove, same_remove, same_but_itself}
use Rattle.shadow_chains.proofs.own.take_out.Goals as goal

pub returns-in-Ok-clause-rise : goal.returns-in-Ok-clause-rise
returns-in-Ok-clause-rise c = rw c.remove-slot.ensures.items (rise_remove _ _ _ (rw c.deref.ensures.value at c.in-Ok.ensures.found) c.requires)

pub returns-in-Ok-clause-found : goal.returns-in-Ok-clause-found
returns-in-Ok-clause-found c =
    let value = page_at _ c.requires _ _ (rw c.deref.ensures.value at c.in-Ok.ensures.found) in
    (λ yes. rw value refl, λ some. refl)

pub returns-in-Ok-clause-others : goal.returns-in-Ok-clause-others
returns-in-Ok-clause-others c = rw c.remove-slot.ensures.items (same_remove _ _ _ (rw c.deref.ensures.value at c.in-Ok.ensures.found))

pub returns-in-Err-clause-found : goal.returns-in-Err-clause-found
returns-in-Err-clause-found c =
    let none = page_in_gap _ _ _ (rw c.deref.ensures.value at c.in-Err.ensures.absent) in
    (λ no. cc, λ some. rw none at some)

pub returns-in-Err-clause-others : goal.returns-in-Err-clause-others
returns-in-Err-clause-others c = same_but_itself c.args.page c.args.slots.now.items
