-- A running process is found by its pid, and an ended one maps nothing.
use Rattle.std.proofs.Common.{Bool, List, Some, [], ap, false, get_or, refl, sym, true, ◌&&◌, ◌==◌, ◌||◌, ◌∙◌, ◌∷◌, ◌≡◌}
use Rattle.std.proofs.lemmas.Bool.{eq-eqb, false≢true}
use Rattle.std.specs.List.{list_any}
use Rattle.std.specs.Prelude.{All, Any, find, if◌then◌else◌}
use Rattle.group_defs.specs.Group.{Group, is_runner, is_running}
use Rattle.group_defs.specs.Processes.{EndedValid, IsCleared, ProcValid, StateValid}
use Rattle.group_defs.specs.Valid.{GroupIsValid}
use Rattle.group_defs.specs.declared.frame.Proc.{Proc}
use Rattle.group_defs.specs.declared.frame.ProcState.{ProcState}
use Rattle.group_defs.specs.declared.frame.ProcState.TheVariants.{Running, Ended}
use Rattle.group_laws.proofs.Lists.{any_weaker, found_is, true_any}
use Rattle.group_laws.proofs.ReplyLaws.{found_pid}
use Rattle.group_laws.proofs.SettledLaws.{rise_unique}
use Rattle.tables.specs.Rising.{Rise}

pub some_found : {X : Type 0} (t : X → Bool) (xs : List X) → list_any t xs ≡ true → (y : X) × (find t xs ≡ Some y)
some_found t [] e = absurd (false≢true e)
some_found t (x ∷ xs) e = by_test (t x) e (some_found t xs)
  where
    by_test : (b : Bool) → (b || list_any t xs) ≡ true → (list_any t xs ≡ true → (y : _) × (find t xs ≡ Some y)) → (y : _) × ((if b then Some x else find t xs) ≡ Some y)
    by_test true e rest = (x, refl)
    by_test false e rest = rest e

pub runner_found : (procs : List Proc) (p : Proc) → Rise (λ q. q.pid) procs → Any (λ q. q ≡ p) procs → is_running p ≡ true → find (is_runner p.pid) procs ≡ Some p
runner_found procs p rise there runs =
    let own : is_runner p.pid p ≡ true = ap (λ (b : Bool). b && (p.pid == p.pid)) runs ∙ eq-eqb p.pid p.pid refl in
    let found = some_found (is_runner p.pid) procs (true_any (is_runner p.pid) procs (any_weaker (λ q. q ≡ p) (λ q. is_runner p.pid q ≡ true) procs (λ q same. ap (is_runner p.pid) same ∙ own) there)) in
    let its : found.0.pid ≡ p.pid = found_pid procs p.pid found.0 found.1 in
    let same : found.0 ≡ p = rise_unique (λ q. q.pid) procs found.0 p rise (any_weaker (λ q. (q ≡ found.0) × (is_runner p.pid q ≡ true)) (λ q. q ≡ found.0) procs (λ q both. both.0) (found_is (is_runner p.pid) procs found.0 found.1)) there its in
    found.1 ∙ ap (λ (q : Proc). Some q) same

cleared : (procs : List Proc) (q : Proc) (s : ProcState) → StateValid procs q s → (elim s [ Running ↦ true | Ended status ↦ false ]) ≡ false → q.maps ≡ []
unfolding EndedValid IsCleared
cleared procs q Running valid e = absurd (false≢true (sym e))
cleared procs q (Ended status) valid e = valid.2.4

pub ended_maps : (g : Group) → GroupIsValid g → All (λ q. is_running q ≡ false → q.maps ≡ []) g.frame.procs
unfolding ProcValid
ended_maps g valid k d lt e = cleared g.frame.procs (get_or g.frame.procs k d) (get_or g.frame.procs k d).state (valid.sound.frame.procs.states k d lt) e
