-- Who is ready, and whose turn is next.
use Rattle.std.proofs.Common.{◌≡◌, ℕ, ◌&&◌, ◌||◌, not, Bool, true, false, List, [], ◌∷◌, map, Option, Some, None, refl, ap, subst, ◌∙◌}
use Rattle.std.specs.Prelude.{if◌then◌else◌, nat_lt}
use Rattle.std.specs.List.{AllByRecursion, filter, find, list_any}
use Rattle.group_defs.specs.Group.{is_running}
use Rattle.group_defs.specs.Standing.{State}
use Rattle.group_defs.specs.Step.{is_waiting}
use Rattle.group_defs.specs.declared.frame.Proc.{Proc}
use Rattle.run_defs.specs.Ends.{IsDone}
use Rattle.run_defs.specs.Legal.{is_unleased, next_pid, ready}

each_found : (P : ℕ → Type 0) (t : ℕ → Bool) (xs : List ℕ) (y : ℕ) → AllByRecursion P xs → find t xs ≡ Some y → P y
each_found P t [] y all e = absurd (cc)
each_found P t (x ∷ xs) y all e = by_test (t x) (each_found P t xs y all.1) e
  where
    by_test : (b : Bool) → (find t xs ≡ Some y → P y) → (if b then Some x else find t xs) ≡ Some y → P y
    by_test true rest e = let same : x ≡ y = cc in subst P same all.0
    by_test false rest e = rest e

pub each_next : (P : ℕ → Type 0) (last : ℕ) (xs : List ℕ) (y : ℕ) → AllByRecursion P xs → next_pid last xs ≡ Some y → P y
each_next P last [] y all e = absurd (cc)
each_next P last (x ∷ xs) y all e = by_found (find (nat_lt last) (x ∷ xs)) refl e
  where
    by_found : (o : Option ℕ) → find (nat_lt last) (x ∷ xs) ≡ o → (elim o [ Some pid ↦ Some pid | None ↦ Some x ]) ≡ Some y → P y
    by_found (Some pid) is e = each_found P (nat_lt last) (x ∷ xs) y all (is ∙ e)
    by_found None is e = let same : x ≡ y = cc in subst P same all.0

pub next_some : (last x : ℕ) (xs : List ℕ) → (pid : ℕ) × (next_pid last (x ∷ xs) ≡ Some pid)
next_some last x xs = by_found (find (nat_lt last) (x ∷ xs))
  where
    by_found : (o : Option ℕ) → (pid : ℕ) × ((elim o [ Some p ↦ Some p | None ↦ Some x ]) ≡ Some pid)
    by_found (Some p) = (p, refl)
    by_found None = (x, refl)

Acts : State → ℕ → Type 0
Acts s pid = is_waiting s pid ≡ false

all_act : (s : State) (ps : List Proc) → AllByRecursion (Acts s) (map (λ (p : Proc). p.pid) (filter (λ p. is_running p && not (is_waiting s p.pid)) ps))
unfolding Acts
all_act s [] = tt
all_act s (p ∷ ps) = by_test (is_running p) (is_waiting s p.pid) refl (all_act s ps)
  where
    by_test : (b w : Bool) → is_waiting s p.pid ≡ w → AllByRecursion (Acts s) (map (λ (p : Proc). p.pid) (filter (λ p. is_running p && not (is_waiting s p.pid)) ps)) → AllByRecursion (Acts s) (map (λ (p : Proc). p.pid) (if b && not w then p ∷ filter (λ p. is_running p && not (is_waiting s p.pid)) ps else filter (λ p. is_running p && not (is_waiting s p.pid)) ps))
    by_test true true e rest = rest
    by_test true false e rest = (e, rest)
    by_test false w e rest = rest

-- a process whose turn is next doesn't wait
pub next_acts : (s : State) (last pid : ℕ) → next_pid last (ready s) ≡ Some pid → is_waiting s pid ≡ false
unfolding ready Acts
next_acts s last pid next = each_next (Acts s) last _ pid (all_act s s.group.frame.procs) next

none_ready : (s : State) (ps : List Proc) → list_any is_running ps ≡ false → filter (λ p. is_running p && not (is_waiting s p.pid)) ps ≡ []
none_ready s [] none = refl
none_ready s (p ∷ ps) none = by_test (is_running p) none (none_ready s ps)
  where
    by_test : (b : Bool) → (b || list_any is_running ps) ≡ false → (list_any is_running ps ≡ false → filter (λ p. is_running p && not (is_waiting s p.pid)) ps ≡ []) → (if b && not (is_waiting s p.pid) then p ∷ filter (λ p. is_running p && not (is_waiting s p.pid)) ps else filter (λ p. is_running p && not (is_waiting s p.pid)) ps) ≡ []
    by_test true e rest = absurd (cc)
    by_test false e rest = rest e

-- a group that is done has nobody ready
pub done_ready : (s : State) → IsDone s.group → ready s ≡ []
unfolding ready
done_ready s done = ap (map (λ (p : Proc). p.pid)) (none_ready s s.group.frame.procs done)

pub all_free : (xs : List ℕ) → filter (is_unleased []) xs ≡ xs
all_free [] = refl
all_free (x ∷ xs) = ap (λ (l : List ℕ). x ∷ l) (all_free xs)
