-- What a lease is stays while it runs on.
use Rattle.std.proofs.Common.{List, Some, ap, append_assoc, append-nil, arith, refl, subst, suc, sym, zero, ℕ, ◌++◌, ◌+◌, ◌∙◌, ◌≡◌}
use Rattle.group_defs.specs.Group.{Group}
use Rattle.group_parts.specs.Leases.{IsLeaseOf}
use Rattle.group_parts.specs.Local.{AllLocalPart, is_local_part, step_of_part, steps_of_part, pages_of_step, pages_of_steps}
use Rattle.group_parts.specs.Parts.{PrivatePart, part_of}

-- so many steps, and n more
pub steps_more : (s : PrivatePart) (done n : ℕ) → steps_of_part s (done + n) ≡ steps_of_part (steps_of_part s done) n
unfolding steps_of_part
steps_more s done zero = let e : done + 0 ≡ done = omega arith in ap (steps_of_part s) e
steps_more s done (suc n) = let e : done + suc n ≡ suc (done + n) = omega arith in ap (steps_of_part s) e ∙ ap step_of_part (steps_more s done n)

pub local_more : (s : PrivatePart) (done n : ℕ) → AllLocalPart s done → AllLocalPart (steps_of_part s done) n → AllLocalPart s (done + n)
unfolding AllLocalPart
local_more s done zero all more = let e : done ≡ done + 0 = omega arith in subst (AllLocalPart s) e all
local_more s done (suc n) all more =
    let e : suc (done + n) ≡ done + suc n = omega arith in
    subst (AllLocalPart s) e (local_more s done n all more.0, ap is_local_part (steps_more s done n) ∙ more.1)

pub pages_more : (s : PrivatePart) (done n : ℕ) → pages_of_steps s (done + n) ≡ pages_of_steps s done ++ pages_of_steps (steps_of_part s done) n
unfolding pages_of_steps
pages_more s done zero = let e : done + 0 ≡ done = omega arith in ap (pages_of_steps s) e ∙ sym (append-nil (pages_of_steps s done))
pages_more s done (suc n) =
    let e : done + suc n ≡ suc (done + n) = omega arith in
    ap (pages_of_steps s) e
    ∙ ap (λ (l : List (ℕ × ℕ)). l ++ pages_of_step (steps_of_part s (done + n))) (pages_more s done n)
    ∙ ap (λ (t : PrivatePart). (pages_of_steps s done ++ pages_of_steps (steps_of_part s done) n) ++ pages_of_step t) (steps_more s done n)
    ∙ append_assoc (pages_of_steps s done) (pages_of_steps (steps_of_part s done) n) (pages_of_step (steps_of_part (steps_of_part s done) n))

pub lease_begins : (g : Group) (pid : ℕ) (part : PrivatePart) → part_of g pid ≡ Some part → IsLeaseOf g pid 0 part
unfolding AllLocalPart steps_of_part
lease_begins g pid part is = record { taken = part; taken_is = is; all_local = tt; part_is = refl }

pub lease_runs : (g : Group) (pid done n : ℕ) (part : PrivatePart) → IsLeaseOf g pid done part → AllLocalPart part n → IsLeaseOf g pid (done + n) (steps_of_part part n)
lease_runs g pid done n part lease all = record {
  taken = lease.taken;
  taken_is = lease.taken_is;
  all_local = local_more lease.taken done n lease.all_local (subst (λ (t : PrivatePart). AllLocalPart t n) lease.part_is all);
  part_is = ap (λ (t : PrivatePart). steps_of_part t n) lease.part_is ∙ sym (steps_more lease.taken done n);
}
