-- A run on one thread comes from one rest to the next by a turn, or by a barrier with its fetch and its acknowledgement.
use Rattle.std.proofs.Common.{◌≡◌, ℕ, ◌+◌, List, [], ◌∷◌, ◌++◌, refl, ap, sym, ◌∙◌, subst, arith}
use Rattle.group_defs.specs.Group.{Group}
use Rattle.run_laws.proofs.LegalLaws.{in_order, order_kept}
use Rattle.run_laws.proofs.MachineLaws.{each_more, each_none, each_weaker, progress_more}
use Rattle.run_laws.proofs.ReadyLaws.{next_acts}
use Rattle.run_laws.proofs.SoloLaws.{barrier_next, lease_of, take_next, turn_next, turn_rests}
use Rattle.run_laws.specs.Rests.{IsNextTurn, IsTraceAtRest, RestsFollow, with_ack, with_fetched, with_turn}
use Rattle.run_defs.specs.Legal.{Allowed, IsAtRest, HasBarrierCause, Legal}
use Rattle.run_defs.specs.Progress.{Progress, after_mark, progress_after, progress_at}
use Rattle.run_defs.specs.Solo.{IsSoloMark, IsSoloSoFar}
use Rattle.run_defs.specs.Turns.{IsTurn}
use Rattle.run_laws.specs.Order.{IsInOrder}
use Rattle.run_defs.specs.declared.run.Limits.{Limits}
use Rattle.run_defs.specs.declared.run.Mark.{Mark}
use Rattle.run_defs.specs.declared.run.Mark.TheVariants.{Take, Turn, Barrier, Fetch, Ack}

pub solo_legal : (start : Group) (origin : ℕ) (limits : Limits) (marks : List Mark) → IsSoloSoFar start origin limits marks → Legal start origin limits marks
solo_legal start origin limits marks s = each_weaker limits.quantum (IsSoloMark limits) (Allowed limits) (λ r m a. a.0) (progress_at origin start) marks s

-- the marks of a turn, and those of a commit, from a rest
module _ (limits : Limits) (origin : ℕ) (r : Progress) (o : IsInOrder limits origin r) (at : IsAtRest r) where
  module _ (pid n : ℕ) (next : IsNextTurn limits r pid) (turn : IsTurn limits.quantum r.state pid n) where
    abbrev pub taken : Progress
    taken = after_mark limits.quantum r (Take 0 pid)

    pub take_mark : IsSoloMark limits r (Take 0 pid)
    take_mark = take_next limits origin r o at pid next

    in_taken : IsInOrder limits origin taken
    in_taken = order_kept limits origin r (Take 0 pid) take_mark.0 o

    leased : taken.leases ≡ lease_of pid ∷ []
    leased = ap (λ l. l ++ lease_of pid ∷ []) at.no_lease

    pub turn_mark : IsSoloMark limits taken (Turn 0 pid n)
    turn_mark = turn_next limits origin taken in_taken pid n leased (next_acts r.state r.taken pid next.next) turn

    pub turn_done : IsAtRest (after_mark limits.quantum taken (Turn 0 pid n))
    turn_done = turn_rests limits origin taken in_taken 0 pid n pid leased at.acked turn_mark.0.leased

  module _ (epoch : ℕ) (due : HasBarrierCause limits r) (is : epoch ≡ r.state.standing.last + 1) where
    abbrev pub made : Progress
    made = after_mark limits.quantum r (Barrier epoch)

    pub barrier_mark : IsSoloMark limits r (Barrier epoch)
    barrier_mark = barrier_next limits origin r o at due epoch is

    pub fetch_mark : IsSoloMark limits made (Fetch epoch)
    fetch_mark = (record { made = omega arith; first = omega (arith, o.made, is) }, tt)

    pub ack_mark : IsSoloMark limits (after_mark limits.quantum made (Fetch epoch)) (Ack epoch)
    ack_mark = (record { fetched = omega arith; first = omega (arith, at.acked, is) }, tt)

    pub commit_done : IsAtRest (progress_after limits.quantum r (Barrier epoch ∷ Fetch epoch ∷ Ack epoch ∷ []))
    commit_done = record { no_lease = at.no_lease; acked = refl }

module _ (start : Group) (origin : ℕ) (limits : Limits) where
  abbrev origin_run : Progress
  origin_run = progress_at origin start

  abbrev Stands : List Mark → Progress → Type 0
  Stands marks r = IsSoloSoFar start origin limits marks × (progress_after limits.quantum origin_run marks ≡ r)

  one_more : (marks : List Mark) (r : Progress) (m : Mark) → Stands marks r → IsSoloMark limits r m → Stands (marks ++ m ∷ []) (after_mark limits.quantum r m)
  one_more marks r m (so_far, is) a =
      let P : Progress → Type 0 = λ x. IsSoloMark limits x m in
      (each_more (IsSoloMark limits) limits.quantum origin_run marks m so_far (subst P (sym is) a), progress_more limits.quantum origin_run marks (m ∷ []) ∙ ap (λ (x : Progress). after_mark limits.quantum x m) is)

  pub order_at : (marks : List Mark) (r : Progress) → IsTraceAtRest start origin limits marks r → IsInOrder limits origin r
  order_at marks r at = subst (IsInOrder limits origin) at.stands (in_order start origin limits marks (solo_legal start origin limits marks at.so_far))

  module _ (marks : List Mark) (r : Progress) (at : IsTraceAtRest start origin limits marks r) where
    begun : Stands marks r
    begun = (at.so_far, at.stands)

    o : IsInOrder limits origin r
    o = order_at marks r at

    take : (pid : ℕ) → IsNextTurn limits r pid → Stands (marks ++ Take 0 pid ∷ []) (after_mark limits.quantum r (Take 0 pid))
    take pid next = one_more marks r (Take 0 pid) begun (take_next limits origin r o at.rests pid next)

    turn : (pid n : ℕ) → IsNextTurn limits r pid → IsTurn limits.quantum r.state pid n → IsTraceAtRest start origin limits (with_turn marks pid n) (progress_after limits.quantum r (Take 0 pid ∷ Turn 0 pid n ∷ []))
    turn pid n next whole =
        let both = one_more (marks ++ Take 0 pid ∷ []) (after_mark limits.quantum r (Take 0 pid)) (Turn 0 pid n) (take pid next) (turn_mark limits origin r o at.rests pid n next whole) in
        record { so_far = both.0; stands = both.1; rests = turn_done limits origin r o at.rests pid n next whole }

    fetch : (epoch : ℕ) → HasBarrierCause limits r → epoch ≡ r.state.standing.last + 1 → Stands (with_fetched marks epoch) (progress_after limits.quantum r (Barrier epoch ∷ Fetch epoch ∷ []))
    fetch epoch due is =
        one_more (marks ++ Barrier epoch ∷ []) (after_mark limits.quantum r (Barrier epoch)) (Fetch epoch)
        (one_more marks r (Barrier epoch) begun (barrier_mark limits origin r o at.rests epoch due is)) (fetch_mark limits origin r o at.rests epoch due is)

    commit : (epoch : ℕ) → HasBarrierCause limits r → epoch ≡ r.state.standing.last + 1 → IsTraceAtRest start origin limits (with_ack marks epoch) (progress_after limits.quantum r (Barrier epoch ∷ Fetch epoch ∷ Ack epoch ∷ []))
    commit epoch due is =
        let all = one_more (with_fetched marks epoch) (progress_after limits.quantum r (Barrier epoch ∷ Fetch epoch ∷ [])) (Ack epoch) (fetch epoch due is) (ack_mark limits origin r o at.rests epoch due is) in
        record { so_far = all.0; stands = all.1; rests = commit_done limits origin r o at.rests epoch due is }

  pub rests_follow : RestsFollow start origin limits
  rests_follow = record {
    begin = record { so_far = each_none (IsSoloMark limits) limits.quantum origin_run; stands = refl; rests = record { no_lease = refl; acked = refl } };
    take = λ marks r pid at next. (take marks r at pid next).0;
    turn = λ marks r pid n at next whole. turn marks r at pid n next whole;
    fetch = λ marks r epoch at due is. (fetch marks r at epoch due is).0;
    commit = λ marks r epoch at due is. commit marks r at epoch due is;
  }
