-- Turns since a barrier, and the barrier that they come to.
use Rattle.std.proofs.Common.{◌≡◌, ◌⊎◌, inl, inr, ⊎_elim, Bool, true, false, ℕ, zero, suc, ◌+◌, ◌<◌, ◌≤◌, List, [], ◌∷◌, ◌++◌, Some, refl, sym, ap, subst, ◌∙◌, arith, append-nil, append_assoc}
use Rattle.std.specs.Prelude.{nat_lt}
use Rattle.std.specs.List.{AllByRecursion, filter_map}
use Rattle.std.proofs.lemmas.List.Sums.{fold-append}
use Rattle.group_defs.specs.Group.{Group}
use Rattle.group_defs.specs.Output.{last_position}
use Rattle.group_defs.specs.Standing.{Standing, State}
use Rattle.run_defs.specs.Legal.{next_pid, ready}
use Rattle.run_defs.specs.Marks.{acked_epoch}
use Rattle.run_defs.specs.Progress.{Progress, after_mark, progress_after}
use Rattle.run_defs.specs.Solo.{IsSoloSoFar}
use Rattle.run_defs.specs.Turns.{IsTurn, turned}
use Rattle.run_defs.specs.declared.run.Limits.{Limits}
use Rattle.run_defs.specs.declared.run.Mark.{Mark}
use Rattle.run_defs.specs.declared.run.Mark.TheVariants.{Take, Turn, Barrier, Fetch, Ack}
use Rattle.run_laws.proofs.TurnLaws.{turn_epochs}
use Rattle.run_laws.specs.Rests.{IsNextTurn, IsTraceAtRest, RestsFollow, with_turn}
use Rattle.solo_engine.specs.Interval.{ComesToBarrier, HasProgress, HasTurned, IsNoneReady, IsOfTurn, IsOneReady, StopsTurning}
use Rattle.tables.proofs.Ordered.{each_append}

-- ---- what turns leave

pub record KeepsEpochs (r r' : Progress) : Type 0 where
  pub checkpoints : r'.checkpoints ≡ r.checkpoints
  pub fetched : r'.fetched ≡ r.fetched
  pub last : r'.state.standing.last ≡ r.state.standing.last
  pub acked : r'.state.standing.acked ≡ r.state.standing.acked

pub turns_keep : (quantum : ℕ) (r : Progress) (marks : List Mark) → AllByRecursion IsOfTurn marks → KeepsEpochs r (progress_after quantum r marks)
turns_keep quantum r [] all = record { checkpoints = refl; fetched = refl; last = refl; acked = refl }
turns_keep quantum r (Take worker pid ∷ ms) all = let k = turns_keep quantum (after_mark quantum r (Take worker pid)) ms all.1 in record { checkpoints = k.checkpoints; fetched = k.fetched; last = k.last; acked = k.acked }
turns_keep quantum r (Turn worker pid n ∷ ms) all =
    let k = turns_keep quantum (after_mark quantum r (Turn worker pid n)) ms all.1 in
    let one = turn_epochs quantum r.state pid n in
    record { checkpoints = k.checkpoints; fetched = k.fetched; last = k.last ∙ one.0; acked = k.acked ∙ one.1 }
turns_keep quantum r (Barrier epoch ∷ ms) all = absurd all.0
turns_keep quantum r (Fetch epoch ∷ ms) all = absurd all.0
turns_keep quantum r (Ack epoch ∷ ms) all = absurd all.0

pub turns_unacked : (marks : List Mark) → AllByRecursion IsOfTurn marks → filter_map acked_epoch marks ≡ []
turns_unacked [] all = refl
turns_unacked (Take worker pid ∷ ms) all = turns_unacked ms all.1
turns_unacked (Turn worker pid n ∷ ms) all = turns_unacked ms all.1
turns_unacked (Barrier epoch ∷ ms) all = absurd all.0
turns_unacked (Fetch epoch ∷ ms) all = absurd all.0
turns_unacked (Ack epoch ∷ ms) all = absurd all.0

-- what holds of a group with every standing holds of a run's state
pub at_group : (P : State → Type 0) (g : Group) (r : Progress) → r.state.group ≡ g → ((standing : Standing) → P (record { group = g; standing = standing })) → P r.state
at_group P g r is all = subst (λ (x : Group). P (record { group = x; standing = r.state.standing })) (sym is) (all r.state.standing)

-- ---- turns

pub no_turns : (limits : Limits) (trace : List Mark) (g : Group) (made : ℕ) → made ≤ limits.turns → HasTurned limits trace trace g g made 0
no_turns limits trace g made le = record {
  more = [];
  trace_is = sym (append-nil trace);
  turns = tt;
  within = omega (arith, le);
  goes_on = λ start origin r at has. (at, record { group = has.group; made_is = omega (arith, has.made_is); since_is = has.since_is });
  grown = omega arith;
  mark_is = refl;
}

-- the only ready process is next
next_by : (last pid : ℕ) (t : Bool) → nat_lt last pid ≡ t → next_pid last (pid ∷ []) ≡ Some pid
next_by last pid true e = rw (e, next_pid) refl
next_by last pid false e = rw (e, next_pid) refl

module _ (rests : (start : Group) (origin : ℕ) (limits : Limits) → RestsFollow start origin limits) (limits : Limits) (trace now : List Mark) (g h : Group) (made since : ℕ) (t : HasTurned limits trace now g h made since) where
  -- memory ran out here
  pub stops_here : StopsTurning limits trace now g made
  stops_here = record { more = t.more; trace_is = t.trace_is; turns = t.turns; so_far = λ start origin r at has. (t.goes_on start origin r at has).0.so_far }

  module _ (pid : ℕ) (short : since < limits.every) (few : made + since < limits.turns) (one : IsOneReady h pid) where
    is_next : (r : Progress) → HasProgress h (made + since) since r → IsNextTurn limits r pid
    is_next r has = record {
      next = ap (next_pid r.taken) (at_group (λ s. ready s ≡ pid ∷ []) h r has.group one) ∙ next_by r.taken pid (nat_lt r.taken pid) refl;
      interval = omega (arith, short, has.since_is);
      turns = omega (arith, few, has.made_is);
    }

    -- memory ran out behind a Take
    pub stops_behind_take : (took : List Mark) → took ≡ now ++ Take 0 pid ∷ [] → StopsTurning limits trace took g made
    stops_behind_take took is = record {
      more = t.more ++ Take 0 pid ∷ [];
      trace_is = is ∙ ap (λ (l : List Mark). l ++ Take 0 pid ∷ []) t.trace_is ∙ append_assoc trace t.more (Take 0 pid ∷ []);
      turns = each_append IsOfTurn t.more (Take 0 pid ∷ []) t.turns (tt, tt);
      so_far = λ start origin r at has.
          let on = t.goes_on start origin r at has in
          subst (IsSoloSoFar start origin limits) (sym is) ((rests start origin limits).take now (progress_after limits.quantum r t.more) pid on.0 (is_next (progress_after limits.quantum r t.more) on.1));
    }

    module _ (n : ℕ) (next : Group) (turn : (standing : Standing) → IsTurn limits.quantum (record { group = h; standing = standing }) pid n)
        (next_is : (standing : Standing) → next ≡ (turned limits.quantum (record { group = h; standing = standing }) pid n).group) where
      abbrev marks : List Mark
      marks = Take 0 pid ∷ Turn 0 pid n ∷ []

      then : (start : Group) (origin : ℕ) (r : Progress) → IsTraceAtRest start origin limits now r → HasProgress h (made + since) since r
          → IsTraceAtRest start origin limits (with_turn now pid n) (progress_after limits.quantum r marks) × HasProgress next (made + (since + 1)) (since + 1) (progress_after limits.quantum r marks)
      then start origin r at has = (
        (rests start origin limits).turn now r pid n at (is_next r has) (at_group (λ s. IsTurn limits.quantum s pid n) h r has.group turn),
        record {
          group = sym (at_group (λ s. next ≡ (turned limits.quantum s pid n).group) h r has.group next_is);
          made_is = omega (arith, has.made_is);
          since_is = omega (arith, has.since_is);
        },
      )

      pub turns_more : (logged : List Mark) → logged ≡ (now ++ Take 0 pid ∷ []) ++ Turn 0 pid n ∷ [] → last_position next.frame.out ≤ last_position h.frame.out + 1048576 → next.frame.out.mark ≡ h.frame.out.mark → HasTurned limits trace logged g next made (since + 1)
      turns_more logged is grown same = record {
        more = t.more ++ marks;
        trace_is = is ∙ append_assoc now (Take 0 pid ∷ []) (Turn 0 pid n ∷ []) ∙ ap (λ (l : List Mark). l ++ marks) t.trace_is ∙ append_assoc trace t.more marks;
        turns = each_append IsOfTurn t.more marks t.turns (tt, (tt, tt));
        within = omega (arith, few);
        goes_on = λ start origin r at has.
            let on = t.goes_on start origin r at has in
            let P : List Mark → Progress → Type 0 = λ l x. IsTraceAtRest start origin limits l x × HasProgress next (made + (since + 1)) (since + 1) x in
            subst (λ (x : Progress). P logged x) (sym (fold-append (after_mark limits.quantum) r t.more marks))
            (subst (λ (l : List Mark). P l (progress_after limits.quantum (progress_after limits.quantum r t.more) marks)) (sym is) (then start origin (progress_after limits.quantum r t.more) on.0 on.1));
        grown = omega (arith, t.grown, grown);
        mark_is = same ∙ t.mark_is;
      }

-- a barrier is due
pub comes : (limits : Limits) (trace now : List Mark) (g h : Group) (made n since : ℕ) → HasTurned limits trace now g h made since → n ≡ made + since → 0 < since → (since ≡ limits.every) ⊎ ((n ≡ limits.turns) ⊎ IsNoneReady h) → ComesToBarrier limits trace now g h made n
comes limits trace now g h made n since t is some cause = record {
  since = since;
  some = some;
  made_is = is;
  turned = t;
  due = λ r has. record { turn = omega (arith, some, has.since_is); cause = why r has cause };
}
  where
    why : (r : Progress) → HasProgress h (made + since) since r → (since ≡ limits.every) ⊎ ((n ≡ limits.turns) ⊎ IsNoneReady h) → (r.turns_since ≡ limits.every) ⊎ ((r.turns ≡ limits.turns) ⊎ (ready r.state ≡ []))
    why r has (inl every) = inl (has.since_is ∙ every)
    why r has (inr (inl all)) = inr (inl (has.made_is ∙ sym is ∙ all))
    why r has (inr (inr none)) = inr (inr (at_group (λ s. ready s ≡ []) h r has.group none))

-- a process that was ready made a turn before it was not
pub some_turn : (limits : Limits) (trace now : List Mark) (g h : Group) (made n since pid : ℕ) → HasTurned limits trace now g h made since → n ≡ made + since → (since ≡ 0 → h ≡ g) → IsOneReady g pid → made < limits.turns → (limits.turns ≤ n) ⊎ IsNoneReady h → 0 < since
some_turn limits trace now g h made n zero pid t is first one few (inl all) = absurd (omega (arith, all, few, is))
some_turn limits trace now g h made n zero pid t is first one few (inr none) = absurd (some_none (sym (one beside) ∙ ap (λ (x : Group). ready (record { group = x; standing = beside })) (sym (first refl)) ∙ none beside))
  where
    beside : Standing
    beside = record { last = 0; acked = 0; since = [] }

    some_none : {pid : ℕ} → pid ∷ [] ≡ [] → ⊥
    some_none e = cc
some_turn limits trace now g h made n (suc since) pid t is first one few over = omega arith

-- no turn is left
pub comes_over : (limits : Limits) (trace now : List Mark) (g h : Group) (made n since pid : ℕ) → HasTurned limits trace now g h made since → n ≡ made + since → (since ≡ 0 → h ≡ g) → IsOneReady g pid → made < limits.turns → (limits.turns ≤ n) ⊎ IsNoneReady h → ComesToBarrier limits trace now g h made n
comes_over limits trace now g h made n since pid t is first one few over =
    comes limits trace now g h made n since t is (some_turn limits trace now g h made n since pid t is first one few over) (inr (⊎_elim (λ all. inl (omega (arith, all, is, t.within))) (λ none. inr none) over))

-- memory ran out at the barrier
pub come_so_far : (limits : Limits) (trace now : List Mark) (g h : Group) (made n : ℕ) → ComesToBarrier limits trace now g h made n → StopsTurning limits trace now g made
come_so_far limits trace now g h made n c = let t = c.turned in record { more = t.more; trace_is = t.trace_is; turns = t.turns; so_far = λ start origin r at has. (t.goes_on start origin r at has).0.so_far }
