-- When a barrier is due and how a run has ended, by the log's numbers and by what the tables tell of the processes.
use Rattle.std.proofs.Common.{◌≡◌, ◌⊎◌, inl, inr, ℕ, zero, suc, ◌+◌, ◌<◌, ◌≤◌, ◌==◌, ◌&&◌, ◌||◌, Bool, true, false, not, List, [], ◌∷◌, length, Option, Some, None, refl, sym, ap, ◌∙◌, arith, subst}
use Rattle.std.proofs.lemmas.Bool.{and_from, and_parts, eq-eqb, eqb-true, false≢true, or_parts}
use Rattle.std.specs.Prelude.{◌↔◌, if◌then◌else◌, IsTrue, is_some, nat_lt, slice_get}
use Rattle.std.specs.List.{filter, find, list_any}
use Rattle.std.specs.Option.{option_map}
use Rattle.group_defs.specs.Group.{is_running}
use Rattle.group_defs.specs.Output.{last_position}
use Rattle.group_defs.specs.declared.frame.Out.{Out}
use Rattle.group_kernel.specs.Resting.{HasNothingNew}
use Rattle.group_kernel.specs.Standing.{IsCountOf}
use Rattle.group_kernel.specs.declared.log.Log.{Log}
use Rattle.run_defs.specs.Ends.{HasEnded, IsDone, IsSettled, IsSpent, IsStuck}
use Rattle.run_defs.specs.Legal.{BarrierAllowed, HasBarrierCause, IsAtRest, is_unleased, next_pid, ready}
use Rattle.run_defs.specs.Progress.{Lease, Progress}
use Rattle.run_defs.specs.declared.run.Limits.{Limits}

none_there : {A : Type 0} (xs : List A) → length xs ≡ 0 → xs ≡ []
none_there [] e = refl
none_there (x ∷ xs) e = absurd (omega (arith, e))

-- ---- rest

pub rests : (r : Progress) (log : Log) → IsCountOf r log → ((log.leases == 0) && (log.acked == log.last)) ≡ true → IsAtRest r
rests r log counts e =
    let both = and_parts (log.leases == 0) (log.acked == log.last) e in
    record {
      no_lease = none_there r.leases (sym counts.leases ∙ eqb-true log.leases 0 both.0);
      acked = sym counts.acked ∙ eqb-true log.acked log.last both.1 ∙ counts.last;
    }

pub rest_is_told : (r : Progress) (log : Log) → IsCountOf r log → IsAtRest r → ((log.leases == 0) && (log.acked == log.last)) ≡ true
rest_is_told r log counts at = and_from (log.leases == 0) (log.acked == log.last) (eq-eqb log.leases 0 (counts.leases ∙ ap (λ (l : List Lease). length l) at.no_lease)) (eq-eqb log.acked log.last (counts.acked ∙ at.acked ∙ sym counts.last))

-- ---- no process is ready

all_unleased : (pids : List ℕ) → filter (is_unleased []) pids ≡ pids
all_unleased [] = refl
all_unleased (p ∷ ps) = ap (λ l. p ∷ l) (all_unleased ps)

none_next : (taken : ℕ) (pids : List ℕ) → next_pid taken pids ≡ None → pids ≡ []
none_next taken [] e = refl
none_next taken (p ∷ ps) e = absurd (by_found (find (nat_lt taken) (p ∷ ps)) e)
  where
    next_of_found : Option ℕ → Option ℕ
    next_of_found o = elim o [ Some pid ↦ Some pid | None ↦ slice_get (p ∷ ps) 0 ]

    by_found : (o : Option ℕ) → next_of_found o ≡ None → ⊥
    by_found (Some q) f = cc
    by_found None f = cc

-- which the tables tell where no lease is out
module _ (r : Progress) (taken : ℕ) (found : Option ℕ) (pid : ℕ → ℕ) (told : next_pid taken (filter (is_unleased r.leases) (ready r.state)) ≡ option_map pid found) (free : r.leases ≡ []) where
  next_of : next_pid taken (ready r.state) ≡ option_map pid found
  next_of = ap (next_pid taken) (sym (all_unleased (ready r.state)) ∙ ap (λ (l : List Lease). filter (is_unleased l) (ready r.state)) (sym free)) ∙ told

  pub none_ready : found ≡ None → ready r.state ≡ []
  none_ready none = none_next taken (ready r.state) (next_of ∙ ap (option_map pid) none)

  pub none_found : ready r.state ≡ [] → found ≡ None
  none_found none = by_found found (sym next_of ∙ ap (next_pid taken) none)
    where
      by_found : (o : Option ℕ) → option_map pid o ≡ None → o ≡ None
      by_found None e = refl
      by_found (Some q) e = absurd (cc)

-- ---- the end

pub not_settled : (limits : Limits) (r : Progress) (log : Log) → IsCountOf r log → ((log.leases == 0) && (log.acked == log.last)) ≡ false → HasEnded limits r → ⊥
not_settled limits r log counts e ended = false≢true (sym e ∙ rest_is_told r log counts ended.0.rests)

pub turns_left : (limits : Limits) (r : Progress) (log : Log) → IsCountOf r log → 0 < log.turns_since → HasEnded limits r → ⊥
turns_left limits r log counts more ended = let none = ended.0.no_turn in let since = counts.turns_since in omega (arith, more, none, since)

pub settled : (r : Progress) (log : Log) → IsCountOf r log → ((log.leases == 0) && (log.acked == log.last)) ≡ true → log.turns_since ≤ 0 → IsSettled r
settled r log counts e none = record { rests = rests r log counts e; no_turn = let since = counts.turns_since in omega (arith, none, since) }

pub stuck : (r : Progress) → list_any is_running r.state.group.frame.procs ≡ true → HasNothingNew r.state → IsStuck r.state
stuck r runs nothing = record { runs = runs; all_wait = nothing.all_wait; nothing_new = nothing.nothing_new }

pub spent : (limits : Limits) (r : Progress) (log : Log) → IsCountOf r log → log.turns ≡ limits.turns → list_any is_running r.state.group.frame.procs ≡ true → (HasNothingNew r.state → ⊥) → IsSpent limits r
spent limits r log counts all runs goes = record {
  turns = sym counts.turns ∙ all;
  not_done = λ done. false≢true (sym done ∙ runs);
  not_stuck = λ s. goes (record { all_wait = s.all_wait; nothing_new = s.nothing_new });
}

pub goes_on : (limits : Limits) (r : Progress) (log : Log) → IsCountOf r log → list_any is_running r.state.group.frame.procs ≡ true → (HasNothingNew r.state → ⊥) → (log.turns ≡ limits.turns → ⊥) → HasEnded limits r → ⊥
goes_on limits r log counts runs goes more (_, inl done) = false≢true (sym done ∙ runs)
goes_on limits r log counts runs goes more (_, inr (inl s)) = goes (record { all_wait = s.all_wait; nothing_new = s.nothing_new })
goes_on limits r log counts runs goes more (_, inr (inr s)) = more (counts.turns ∙ s.turns)

-- ---- the barrier

abbrev pub IsDueNow : Limits → Progress → Type 0
IsDueNow limits r = BarrierAllowed limits r (r.state.standing.last + 1)

pub due_where_none_ready : (limits : Limits) (r : Progress) (log : Log) → IsCountOf r log → ((log.leases == 0) && (log.acked == log.last)) ≡ true → 0 < log.turns_since
    → (log.turns_since ≡ limits.every → ⊥) → (log.turns ≡ limits.turns → ⊥) → (b : Bool) → (b ≡ true → ready r.state ≡ []) → (ready r.state ≡ [] → b ≡ true) → (b ≡ true → IsDueNow limits r) × (IsDueNow limits r → b ≡ true)
due_where_none_ready limits r log counts at some every all b none back = (
  λ e. record { rises = refl; rests = rests r log counts at; cause = record { turn = (let since = counts.turns_since in omega (arith, some, since)); cause = inr (inr (none e)) } },
  λ due. by_cause due.cause.cause,
)
  where
    by_cause : ((r.turns_since ≡ limits.every) ⊎ ((r.turns ≡ limits.turns) ⊎ (ready r.state ≡ []))) → b ≡ true
    by_cause (inl e) = absurd (every (counts.turns_since ∙ e))
    by_cause (inr (inl e)) = absurd (all (counts.turns ∙ e))
    by_cause (inr (inr e)) = back e

pub none_some : {A : Type 0} (o : Option A) (b : Bool) → is_some o ≡ not b → b ≡ true → o ≡ None
none_some None b e f = refl
none_some (Some x) true e f = absurd (false≢true (sym e))
none_some (Some x) false e f = absurd (false≢true f)

some_none : {A : Type 0} (o : Option A) (b : Bool) → is_some o ≡ not b → o ≡ None → b ≡ true
some_none None true e f = refl
some_none None false e f = absurd (false≢true e)
some_none (Some x) b e f = absurd (cc)

-- as the tables tell it
pub due_told : (limits : Limits) (r : Progress) (log : Log) → IsCountOf r log → ((log.leases == 0) && (log.acked == log.last)) ≡ true → 0 < log.turns_since
    → (log.turns_since ≡ limits.every → ⊥) → (log.turns ≡ limits.turns → ⊥) → (taken : ℕ) (found : Option ℕ) (pid : ℕ → ℕ) (b : Bool) → is_some found ≡ not b
    → next_pid taken (filter (is_unleased r.leases) (ready r.state)) ≡ option_map pid found → (b ≡ true → IsDueNow limits r) × (IsDueNow limits r → b ≡ true)
due_told limits r log counts at some every all taken found pid b is told =
    let free = (rests r log counts at).no_lease in
    due_where_none_ready limits r log counts at some every all b (λ e. none_ready r taken found pid told free (none_some found b is e)) (λ none. some_none found b is (none_found r taken found pid told free none))

-- and where no process is ready
pub nothing_told : (r : Progress) (out : Out) (taken : ℕ) (found : Option ℕ) (pid : ℕ → ℕ) (last : ℕ) → IsAtRest r → out ≡ r.state.group.frame.out → next_pid taken (filter (is_unleased r.leases) (ready r.state)) ≡ option_map pid found
    → found ≡ None → last ≡ last_position out → ((out.mark == last) ≡ true → HasNothingNew r.state) × (HasNothingNew r.state → (out.mark == last) ≡ true)
nothing_told r out taken found pid last at same told none is = (
  λ e. record { all_wait = none_ready r taken found pid told at.no_lease none; nothing_new = ap (λ (o : Out). o.mark) (sym same) ∙ eqb-true out.mark last e ∙ is ∙ ap last_position same },
  λ nothing. eq-eqb out.mark last (ap (λ (o : Out). o.mark) same ∙ nothing.nothing_new ∙ ap last_position (sym same) ∙ sym is),
)

pub ready_told : (r : Progress) (taken place : ℕ) (found : Option ℕ) (pid : ℕ → ℕ) → IsAtRest r → next_pid taken (filter (is_unleased r.leases) (ready r.state)) ≡ option_map pid found → is_some found ≡ true → HasNothingNew r.state → ⊥
ready_told r taken place found pid at told some nothing = false≢true (sym (ap is_some (none_found r taken found pid told at.no_lease nothing.all_wait)) ∙ some)
