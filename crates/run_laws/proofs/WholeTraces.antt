-- What a run on one thread has logged can always be ended.
use Rattle.std.proofs.Common.{◌≡◌, ◌⊎◌, inl, inr, ℕ, zero, suc, ◌+◌, ◌-◌, ◌<◌, ◌≤◌, ◌==◌, Bool, true, false, List, [], ◌∷◌, refl, ap, sym, ◌∙◌, subst, arith}
use Rattle.std.specs.Prelude.{nat_lt}
use Rattle.std.specs.List.{list_any}
use Rattle.std.proofs.lemmas.Bool.{ltb-false, ltb-true}
use Rattle.group_defs.specs.Group.{Group, is_running}
use Rattle.group_defs.specs.Output.{last_position}
use Rattle.group_defs.specs.Standing.{State}
use Rattle.group_defs.specs.Step.{is_local}
use Rattle.run_laws.proofs.LegalLaws.{begins_in_order, order_kept}
use Rattle.run_laws.proofs.MachineLaws.{each_join, each_keeps, each_split, progress_more}
use Rattle.run_laws.proofs.OutputLaws.{Holds, barrier_last, held_at, held_mark}
use Rattle.run_laws.proofs.ReadyLaws.{done_ready, next_some}
use Rattle.run_laws.proofs.RestLaws.{ack_mark, barrier_mark, commit_done, fetch_mark, turn_done, turn_mark}
use Rattle.run_laws.proofs.SoloLaws.{Phase, committing, phase_kept, resting, take_next, turn_next, turn_rests, turning}
use Rattle.run_laws.specs.Rests.{IsNextTurn}
use Rattle.run_defs.specs.Ends.{HasEnded, IsDone, IsSpent, IsStuck}
use Rattle.run_defs.specs.Legal.{IsAtRest, HasBarrierCause, next_pid, ready}
use Rattle.run_defs.specs.Progress.{EachMark, Progress, after_mark, progress_after, progress_at}
use Rattle.run_defs.specs.Solo.{IsSoloMark, IsSoloPrefix, IsSoloSoFar}
use Rattle.run_defs.specs.Turns.{AllLocal, IsTurn, steps_of}
use Rattle.run_laws.specs.Order.{IsInOrder}
use Rattle.run_defs.specs.declared.run.Limits.{Limits}
use Rattle.run_defs.specs.declared.run.Mark.{Mark}
use Rattle.run_defs.specs.declared.run.Mark.TheVariants.{Take, Turn, Barrier, Fetch, Ack}

-- ---- a turn has its length

turn_length : (quantum : ℕ) (s : State) (pid k left : ℕ) → AllLocal s pid k → k + left ≡ quantum → (n : ℕ) × IsTurn quantum s pid n
unfolding AllLocal
turn_length quantum s pid k zero all e = (k, record { within = omega (arith, e); all_local = all; no_more = λ lt. absurd (omega (arith, e, lt)) })
turn_length quantum s pid k (suc left) all e = by_next (is_local (steps_of s pid k).group pid) refl (λ next. turn_length quantum s pid (suc k) left (all, next) (omega (arith, e)))
  where
    by_next : (t : Bool) → is_local (steps_of s pid k).group pid ≡ t → (is_local (steps_of s pid k).group pid ≡ true → (n : ℕ) × IsTurn quantum s pid n) → (n : ℕ) × IsTurn quantum s pid n
    by_next true is next = next is
    by_next false is next = (k, record { within = omega (arith, e); all_local = all; no_more = λ lt. is })

whole_turn : (quantum : ℕ) (s : State) (pid : ℕ) → (n : ℕ) × IsTurn quantum s pid n
unfolding AllLocal
whole_turn quantum s pid = turn_length quantum s pid 0 quantum tt (omega arith)

-- a place that a run on one thread comes to, where its start has nothing new behind its mark
record IsGood (limits : Limits) (origin first : ℕ) (r : Progress) : Type 0 where
  order : IsInOrder limits origin r
  phase : Phase r
  held : Holds first r.output r.state.group.frame.out
  nothing_new : r.turns_since ≡ 0 → r.state.group.frame.out.mark ≡ last_position r.state.group.frame.out

module _ (limits : Limits) (origin first : ℕ) (every : 0 < limits.every) where
  abbrev Good : Progress → Type 0
  Good r = IsGood limits origin first r

  abbrev next_to : Progress → Mark → Progress
  next_to r m = after_mark limits.quantum r m

  good_kept : (r : Progress) (m : Mark) → IsSoloMark limits r m → Good r → Good (next_to r m)
  good_kept r m a good = record {
    order = order_kept limits origin r m a.0 good.order;
    phase = phase_kept limits origin r good.order m a good.phase;
    held = held_mark first limits.quantum r m good.held;
    nothing_new = new_after m;
  }
    where
      new_after : (m : Mark) → (next_to r m).turns_since ≡ 0 → (next_to r m).state.group.frame.out.mark ≡ last_position (next_to r m).state.group.frame.out
      new_after (Take worker pid) none = good.nothing_new none
      new_after (Turn worker pid n) none = absurd (omega (arith, none))
      new_after (Barrier epoch) none = sym (barrier_last r.state.group.frame.out good.held.mark_above good.held.mark_below)
      new_after (Fetch epoch) none = good.nothing_new none
      new_after (Ack epoch) none = good.nothing_new none

  -- marks up to an end
  abbrev Whole : Progress → Type 0
  Whole r = (more : List Mark) × EachMark (IsSoloMark limits) limits.quantum r more × HasEnded limits (progress_after limits.quantum r more)

  step : (r : Progress) (m : Mark) → IsSoloMark limits r m → Whole (next_to r m) → Whole r
  unfolding EachMark
  step r m a (more, each, ended) = (m ∷ more, (a, each), ended)

  -- at rest a barrier is due, a process's turn is next, or the run has ended
  choice : (r : Progress) → Good r → IsAtRest r → HasBarrierCause limits r ⊎ (((pid : ℕ) × IsNextTurn limits r pid) ⊎ HasEnded limits r)
  choice r good at = by_case (r.turns_since == 0) refl (ready r.state) refl (r.turns == limits.turns) refl (r.turns_since == limits.every) refl
    where
      over : r.turns_since ≡ 0 → IsDone r.state.group ⊎ (IsStuck r.state ⊎ IsSpent limits r) → HasEnded limits r
      over none end = (record { rests = at; no_turn = none }, end)

      done_or_stuck : ready r.state ≡ [] → r.turns_since ≡ 0 → (b : Bool) → list_any is_running r.state.group.frame.procs ≡ b → HasEnded limits r
      done_or_stuck is none true runs = over none (inr (inl (record { runs = runs; all_wait = is; nothing_new = good.nothing_new none })))
      done_or_stuck is none false done = over none (inl done)

      some : (x : ℕ) (xs : List ℕ) → ready r.state ≡ x ∷ xs → ready r.state ≡ [] → ⊥
      some x xs is none = let wrong : [] ≡ x ∷ xs = sym none ∙ is in cc

      turn : (x : ℕ) (xs : List ℕ) → ready r.state ≡ x ∷ xs → r.turns_since < limits.every → (r.turns == limits.turns) ≡ false → (pid : ℕ) × IsNextTurn limits r pid
      turn x xs is short f =
          let pid = next_some r.taken x xs in let other : r.turns ≡ limits.turns → ⊥ = λ same. grind (arith, f, same) in
          (pid.0, record { next = ap (next_pid r.taken) is ∙ pid.1; interval = short; turns = omega (arith, good.order.turns, other) })

      due : (r.turns_since == 0) ≡ false → (r.turns_since ≡ limits.every) ⊎ ((r.turns ≡ limits.turns) ⊎ (ready r.state ≡ [])) → HasBarrierCause limits r
      due e cause = let not_none : r.turns_since ≡ 0 → ⊥ = λ none. grind (arith, e, none) in record { turn = omega (arith, not_none); cause = cause }

      by_case : (a : Bool) → (r.turns_since == 0) ≡ a → (pids : List ℕ) → ready r.state ≡ pids → (b : Bool) → (r.turns == limits.turns) ≡ b → (c : Bool) → (r.turns_since == limits.every) ≡ c
          → HasBarrierCause limits r ⊎ (((pid : ℕ) × IsNextTurn limits r pid) ⊎ HasEnded limits r)
      by_case true e [] is b f c h = inr (inr (done_or_stuck is (grind (arith, e)) _ refl))
      by_case true e (x ∷ xs) is true f c h =
          inr (inr (over (grind (arith, e)) (inr (inr (record { turns = grind (arith, f); not_done = λ done. some x xs is (done_ready r.state done); not_stuck = λ stuck. some x xs is stuck.all_wait })))))
      by_case true e (x ∷ xs) is false f c h = let none : r.turns_since ≡ 0 = grind (arith, e) in inr (inl (turn x xs is (omega (arith, none, every)) f))
      by_case false e [] is b f c h = inl (due e (inr (inr is)))
      by_case false e (x ∷ xs) is true f c h = inl (due e (inr (inl (grind (arith, f)))))
      by_case false e (x ∷ xs) is false f true h = inl (due e (inl (grind (arith, h))))
      by_case false e (x ∷ xs) is false f false h =
          let other : r.turns_since ≡ limits.every → ⊥ = λ same. grind (arith, h, same) in inr (inl (turn x xs is (omega (arith, good.order.interval, other)) f))

  -- rests from which one turn more was made lead to an end
  abbrev TurnsEnd : ℕ → Type 0
  TurnsEnd turns = (r : Progress) → Good r → IsAtRest r → r.turns ≡ turns + 1 → Whole r

  stop : (r : Progress) → HasEnded limits r → Whole r
  unfolding EachMark
  stop r ended = ([], tt, ended)

  go_on : (r : Progress) → Good r → IsAtRest r → TurnsEnd r.turns → (pid : ℕ) → IsNextTurn limits r pid → Whole r
  go_on r good at next pid there =
      let n = whole_turn limits.quantum r.state pid in
      let take = take_next limits origin r good.order at pid there in
      let turn = turn_mark limits origin r good.order at pid n.0 there n.1 in
      step r (Take 0 pid) take (step (next_to r (Take 0 pid)) (Turn 0 pid n.0) turn
      (next _ (good_kept _ (Turn 0 pid n.0) turn (good_kept r (Take 0 pid) take good)) (turn_done limits origin r good.order at pid n.0 there n.1) refl))

  abbrev committed : Progress → Progress
  committed r = let e = r.state.standing.last + 1 in progress_after limits.quantum r (Barrier e ∷ Fetch e ∷ Ack e ∷ [])

  commit : (r : Progress) → Good r → IsAtRest r → HasBarrierCause limits r → (Good (committed r) → IsAtRest (committed r) → Whole (committed r)) → Whole r
  commit r good at due rest =
      let e = r.state.standing.last + 1 in let made = next_to r (Barrier e) in let fetched = next_to made (Fetch e) in
      let b = barrier_mark limits origin r good.order at e due refl in
      let f = fetch_mark limits origin r good.order at e due refl in
      let a = ack_mark limits origin r good.order at e due refl in
      step r (Barrier e) b (step made (Fetch e) f (step fetched (Ack e) a
      (rest (good_kept fetched (Ack e) a (good_kept made (Fetch e) f (good_kept r (Barrier e) b good))) (commit_done limits origin r good.order at e due refl))))

  from_rest : (r : Progress) → Good r → IsAtRest r → TurnsEnd r.turns → Whole r
  from_rest r good at next = by_choice (choice r good at)
    where
      by_choice : HasBarrierCause limits r ⊎ (((pid : ℕ) × IsNextTurn limits r pid) ⊎ HasEnded limits r) → Whole r
      by_choice (inr (inl (pid, turn))) = go_on r good at next pid turn
      by_choice (inr (inr ended)) = stop r ended
      by_choice (inl due) = commit r good at due (λ good' at'. again good' at' (choice _ good' at'))
        where
          again : Good (committed r) → IsAtRest (committed r) → HasBarrierCause limits (committed r) ⊎ (((pid : ℕ) × IsNextTurn limits (committed r) pid) ⊎ HasEnded limits (committed r)) → Whole (committed r)
          again good' at' (inl due') = absurd (omega (arith, due'.turn))
          again good' at' (inr (inl (pid, turn))) = go_on (committed r) good' at' next pid turn
          again good' at' (inr (inr ended)) = stop (committed r) ended

  by_turns : (left : ℕ) (r : Progress) → Good r → IsAtRest r → r.turns + left ≡ limits.turns → Whole r
  by_turns zero r good at e = from_rest r good at (λ r' good' at' more. absurd (omega (arith, e, more, good'.order.turns)))
  by_turns (suc left) r good at e = from_rest r good at (λ r' good' at' more. by_turns left r' good' at' (omega (arith, e, more)))

  to_end : (r : Progress) → Good r → IsAtRest r → Whole r
  to_end r good at = by_turns (limits.turns - r.turns) r good at (omega (arith, good.order.turns))

  from_phase : (r : Progress) → Good r → Phase r → Whole r
  from_phase r good (resting at) = to_end r good at
  from_phase r good (turning pid is acked acts) =
      let n = whole_turn limits.quantum r.state pid in
      let turn = turn_next limits origin r good.order pid n.0 is acts n.1 in
      step r (Turn 0 pid n.0) turn (to_end _ (good_kept r (Turn 0 pid n.0) turn good) (turn_rests limits origin r good.order 0 pid n.0 pid is acked turn.0.leased))
  from_phase r good (committing none one) = by_fetch (nat_lt r.fetched r.state.standing.last) refl
    where
      end : (x : Progress) → Good x → x.leases ≡ [] → r.state.standing.last ≤ x.fetched → x.state.standing.last ≡ r.state.standing.last → x.state.standing.acked < r.state.standing.last → Whole x
      end x good' none' fetched last acked =
          let ack : IsSoloMark limits x (Ack r.state.standing.last) = (record { fetched = fetched; first = acked }, tt) in
          step x (Ack r.state.standing.last) ack (to_end _ (good_kept x (Ack r.state.standing.last) ack good') (record { no_lease = none'; acked = sym last }))

      by_fetch : (t : Bool) → nat_lt r.fetched r.state.standing.last ≡ t → Whole r
      by_fetch true lt =
          let fetch : IsSoloMark limits r (Fetch r.state.standing.last) = (record { made = omega arith; first = ltb-true r.fetched r.state.standing.last lt }, tt) in
          step r (Fetch r.state.standing.last) fetch (end (next_to r (Fetch r.state.standing.last)) (good_kept r (Fetch r.state.standing.last) fetch good) none (omega arith) refl (omega (arith, one)))
      by_fetch false ge = end r good none (ltb-false r.fetched r.state.standing.last ge) refl (omega (arith, one))

  good_after : (r : Progress) (marks : List Mark) → EachMark (IsSoloMark limits) limits.quantum r marks → Good r → Good (progress_after limits.quantum r marks)
  good_after r marks each good = each_keeps (IsSoloMark limits) limits.quantum Good good_kept r marks each good

-- what a run has logged so far is the beginning of a whole trace
pub is_prefix : (start : Group) (origin : ℕ) (limits : Limits) (ms : List Mark) → start.frame.out.from ≤ start.frame.out.mark → start.frame.out.mark ≡ last_position start.frame.out → 0 < limits.every → IsSoloSoFar start origin limits ms → IsSoloPrefix start origin limits ms
is_prefix start origin limits ms above last every s =
    let first = start.frame.out.from in
    let run = progress_at origin start in
    let good : IsGood limits origin first run = record { order = begins_in_order limits origin start; phase = resting (record { no_lease = refl; acked = refl }); held = held_at origin start above (omega (arith, last)); nothing_new = λ none. last } in
    let there = good_after limits origin first every run ms s good in
    let whole = from_phase limits origin first every (progress_after limits.quantum run ms) there there.phase in
    (whole.0, record { so_far = each_join (IsSoloMark limits) limits.quantum run ms whole.0 s whole.1; ended = subst (HasEnded limits) (sym (progress_more limits.quantum run ms whole.0)) whole.2 })

pub so_far_of : (start : Group) (origin : ℕ) (limits : Limits) (ms : List Mark) → IsSoloPrefix start origin limits ms → IsSoloSoFar start origin limits ms
so_far_of start origin limits ms (more, whole) = (each_split (IsSoloMark limits) limits.quantum (progress_at origin start) ms more whole.so_far).0
