-- Which processes have a lease after a Take and after a Turn.
use Rattle.std.proofs.Common.{Bool, List, [], ap, false, not, refl, subst, sym, true, ℕ, ◌++◌, ◌&&◌, ◌==◌, ◌||◌, ◌∙◌, ◌∷◌, ◌≡◌}
use Rattle.std.proofs.lemmas.Bool.{eqb-true, false≢true}
use Rattle.std.proofs.lemmas.List.Folds.{list_any-append}
use Rattle.std.specs.List.{list_any}
use Rattle.std.specs.Prelude.{if◌then◌else◌}
use Rattle.group_parts.proofs.LeaseLists.{alike, has_pid, left, not_true, still_unleased}
use Rattle.group_parts.specs.Leases.{LeasedOnce}
use Rattle.run_defs.specs.Legal.{is_unleased}
use Rattle.run_defs.specs.Progress.{Lease, is_lease, leases_after_turn}

pub unleased_taken : (leases : List Lease) (lease : Lease) (q : ℕ) → is_unleased (leases ++ lease ∷ []) q ≡ (if lease.pid == q then false else is_unleased leases q)
unleased_taken leases lease q = ap not (list_any-append (λ l. l.pid == q) leases (lease ∷ [])) ∙ by_tests (list_any (λ l. l.pid == q) leases) (lease.pid == q)
  where
    by_tests : (a t : Bool) → not (a || (t || false)) ≡ (if t then false else not a)
    by_tests true true = refl
    by_tests true false = refl
    by_tests false true = refl
    by_tests false false = refl

-- another process's lease
others_left : (leases : List Lease) (worker pid q : ℕ) → (pid == q) ≡ false → list_any (λ l. l.pid == q) (left worker pid leases) ≡ list_any (λ l. l.pid == q) leases
others_left [] worker pid q differ = refl
others_left (l ∷ ls) worker pid q differ = by_lease (l.worker == worker) (l.pid == pid) refl (others_left ls worker pid q differ)
  where
    by_lease : (a b : Bool) → (l.pid == pid) ≡ b → list_any (λ x. x.pid == q) (left worker pid ls) ≡ list_any (λ x. x.pid == q) ls
        → list_any (λ x. x.pid == q) (if not (a && b) then l ∷ left worker pid ls else left worker pid ls) ≡ ((l.pid == q) || list_any (λ x. x.pid == q) ls)
    by_lease true true e ih =
        let miss : (l.pid == q) ≡ false = ap (λ (n : ℕ). n == q) (eqb-true l.pid pid e) ∙ differ in
        ih ∙ sym (ap (λ (b : Bool). b || list_any (λ x. x.pid == q) ls) miss)
    by_lease true false e ih = ap (λ (b : Bool). (l.pid == q) || b) ih
    by_lease false b e ih = ap (λ (b : Bool). (l.pid == q) || b) ih

-- its own
pub its_left : (leases : List Lease) (worker pid : ℕ) → LeasedOnce leases → list_any (is_lease worker pid) leases ≡ true → is_unleased (left worker pid leases) pid ≡ true
its_left [] worker pid once e = refl
its_left (l ∷ ls) worker pid once e = by_test (l.worker == worker) (l.pid == pid) refl e (its_left ls worker pid once.1)
  where
    none : (l.pid == pid) ≡ true → is_unleased ls pid ≡ true
    none h = subst (λ (n : ℕ). is_unleased ls n ≡ true) (eqb-true l.pid pid h) once.0

    by_test : (a b : Bool) → (l.pid == pid) ≡ b → ((a && b) || list_any (is_lease worker pid) ls) ≡ true → (list_any (is_lease worker pid) ls ≡ true → is_unleased (left worker pid ls) pid ≡ true) → is_unleased (if not (a && b) then l ∷ left worker pid ls else left worker pid ls) pid ≡ true
    by_test true true h e rest = still_unleased ls worker pid pid (none h)
    by_test true false h e rest = ap (λ (b : Bool). not (b || list_any (λ x. x.pid == pid) (left worker pid ls))) h ∙ rest e
    by_test false true h e rest = absurd (false≢true (sym (not_true _ (none h)) ∙ has_pid ls worker pid e))
    by_test false false h e rest = ap (λ (b : Bool). not (b || list_any (λ x. x.pid == pid) (left worker pid ls))) h ∙ rest e

pub unleased_turned : (leases : List Lease) (worker pid : ℕ) (did : Bool) (q : ℕ) → LeasedOnce leases → list_any (is_lease worker pid) leases ≡ true → is_unleased (leases_after_turn worker pid did leases) q ≡ (if pid == q then true else is_unleased leases q)
unleased_turned leases worker pid did q once out = ap not (alike (λ l. l.pid == q) did (left worker pid leases) (λ l. refl)) ∙ by_pid (pid == q) refl
  where
    by_pid : (t : Bool) → (pid == q) ≡ t → is_unleased (left worker pid leases) q ≡ (if t then true else is_unleased leases q)
    by_pid true e = subst (λ (n : ℕ). is_unleased (left worker pid leases) n ≡ true) (eqb-true pid q e) (its_left leases worker pid once out)
    by_pid false e = ap not (others_left leases worker pid q e)
