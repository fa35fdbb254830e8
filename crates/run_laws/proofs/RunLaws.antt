-- Over a run the group stays valid, and its numbers far from their types' ends: at most 1,000,000 turns of at most 100,000 steps.
use Rattle.std.proofs.Common.{◌≡◌, ℕ, zero, suc, ◌+◌, ◌*◌, ◌^◌, ◌<◌, ◌≤◌, Bool, true, false, ◌==◌, List, ◌++◌, refl, arith}
use Rattle.std.specs.Prelude.{if◌then◌else◌}
use Rattle.std.proofs.lemmas.Bool.{eqb-false}
use Rattle.group_defs.specs.Group.{Group}
use Rattle.group_defs.specs.Numbers.{HasUnwornNumbers}
use Rattle.group_defs.specs.Output.{last_position}
use Rattle.group_defs.specs.Standing.{State}
use Rattle.group_defs.specs.Step.{do_step}
use Rattle.group_defs.specs.Valid.{GroupIsValid}
use Rattle.group_laws.proofs.BarrierLaws.{barrier_position, barrier_valid}
use Rattle.group_laws.proofs.RiseLaws.{step_rises}
use Rattle.group_laws.proofs.ValidSteps.{step_valid}
use Rattle.group_laws.specs.Fresh.{IsFresh}
use Rattle.run_laws.proofs.LegalLaws.{begins_in_order, order_kept}
use Rattle.run_laws.proofs.MachineLaws.{each_keeps, each_split, each_weaker, each_with}
use Rattle.run_defs.specs.Legal.{Allowed, Legal}
use Rattle.run_defs.specs.Limits.{LimitsFit}
use Rattle.run_defs.specs.Progress.{EachMark, Progress, after_mark, progress_after, progress_at}
use Rattle.run_defs.specs.Turns.{steps_in, steps_of}
use Rattle.run_laws.specs.Order.{IsInOrder}
use Rattle.run_defs.specs.declared.run.Limits.{Limits}
use Rattle.run_defs.specs.declared.run.Mark.{Mark}
use Rattle.run_defs.specs.declared.run.Mark.TheVariants.{Take, Turn, Barrier, Fetch, Ack}

-- valid, and at most k steps behind a place where a run may begin
pub record IsAfter (k : ℕ) (g : Group) : Type 0 where
  pub valid : GroupIsValid g
  pub object : g.frame.next.object ≤ 2 ^ 62 + 4096 * k
  pub descr : g.frame.next.descr ≤ 2 ^ 62 + 2 * k
  pub pipe : g.frame.next.pipe ≤ 2 ^ 62 + k
  pub pair : g.frame.next.pair ≤ 2 ^ 62 + k
  pub position : last_position g.frame.out ≤ 2 ^ 62 + 1048576 * k

pub origin_after : (g : Group) → GroupIsValid g → HasUnwornNumbers g.frame → IsAfter 0 g
origin_after g v o =
    let a = o.object in let b = o.descr in let c = o.pipe in let d = o.pair in let e = o.position in
    record { valid = v; object = omega (arith, a); descr = omega (arith, b); pipe = omega (arith, c); pair = omega (arith, d); position = omega (arith, e) }

later : (k j : ℕ) (g : Group) → k ≤ j → IsAfter k g → IsAfter j g
later k j g le s =
    let a = s.object in let b = s.descr in let c = s.pipe in let d = s.pair in let e = s.position in
    record { valid = s.valid; object = omega (arith, le, a); descr = omega (arith, le, b); pipe = omega (arith, le, c); pair = omega (arith, le, d); position = omega (arith, le, e) }

after_fresh : (k : ℕ) (g : Group) → k ≤ 200000000000 → IsAfter k g → IsFresh g
after_fresh k g few s =
    let a = s.object in let b = s.descr in let c = s.pipe in let d = s.pair in let e = s.position in
    record { object = omega (arith, few, a); descr = omega (arith, few, b); pipe = omega (arith, few, c); pair = omega (arith, few, d); position = omega (arith, few, e) }

step_after : (k : ℕ) (s : State) (pid : ℕ) → k < 200000000000 → IsAfter k s.group → IsAfter (k + 1) (do_step s pid).group
step_after k s pid few at =
    let up = step_rises s pid at.valid in
    let a = at.object in let b = at.descr in let c = at.pipe in let d = at.pair in let e = at.position in
    let a' = up.object in let b' = up.descr in let c' = up.pipe in let d' = up.pair in let e' = up.position in
    record {
      valid = step_valid s pid at.valid (after_fresh k s.group (omega (arith, few)) at);
      object = omega (arith, a, a');
      descr = omega (arith, b, b');
      pipe = omega (arith, c, c');
      pair = omega (arith, d, d');
      position = omega (arith, e, e');
    }

pub steps_after : (k : ℕ) (s : State) (pid n : ℕ) → k + n ≤ 200000000000 → IsAfter k s.group → IsAfter (k + n) (steps_of s pid n).group
unfolding steps_of
steps_after k s pid zero few at = later k (k + 0) s.group (omega arith) at
steps_after k s pid (suc n) few at =
    later (k + n + 1) (k + suc n) (do_step (steps_of s pid n) pid).group (omega arith)
    (step_after (k + n) (steps_of s pid n) pid (omega (arith, few)) (steps_after k s pid n (omega (arith, few)) at))

pub steps_few : (quantum n : ℕ) → n ≤ quantum → steps_in quantum n ≤ quantum
steps_few quantum n le = by_test (n == quantum) refl
  where
    by_test : (b : Bool) → (n == quantum) ≡ b → (if b then n else suc n) ≤ quantum
    by_test true e = le
    by_test false e = let other = eqb-false n quantum e in omega (arith, le, other)

-- The law over a legal run, each front of which is one.
module _ (limits : Limits) (origin : ℕ) (small : LimitsFit limits) where
  abbrev pub IsGood : Progress → Type 0
  IsGood r = IsInOrder limits origin r × IsAfter (100000 * r.turns) r.state.group

  pub few_turns : (r : Progress) → IsInOrder limits origin r → 100000 * r.turns ≤ 100000000000
  few_turns r o = let most = small.turns.1 in let turns = o.turns in omega (arith, most, turns)

  pub good_kept : (r : Progress) (m : Mark) → Allowed limits r m → IsGood r → IsGood (after_mark limits.quantum r m)
  good_kept r (Take worker pid) a (o, at) = (order_kept limits origin r (Take worker pid) a o, at)
  good_kept r (Turn worker pid n) a (o, at) =
      let few = few_turns r o in let quantum = small.quantum.1 in let less = steps_few limits.quantum n a.turn.within in
      let k = steps_in limits.quantum n in
      (order_kept limits origin r (Turn worker pid n) a o, later (100000 * r.turns + k) (100000 * (r.turns + 1)) _ (omega (arith, less, quantum)) (steps_after (100000 * r.turns) r.state pid k (omega (arith, few, less, quantum)) at))
  good_kept r (Barrier epoch) a (o, at) =
      let same = barrier_position r.state.group.frame.out at.valid.sound.frame.out in
      let x = at.object in let y = at.descr in let z = at.pipe in let u = at.pair in let w = at.position in
      (order_kept limits origin r (Barrier epoch) a o, record { valid = barrier_valid r.state epoch at.valid; object = x; descr = y; pipe = z; pair = u; position = omega (arith, w, same) })
  good_kept r (Fetch epoch) a (o, at) = (order_kept limits origin r (Fetch epoch) a o, at)
  good_kept r (Ack epoch) a (o, at) = (order_kept limits origin r (Ack epoch) a o, at)

  -- each further mark is allowed where it stands, and the group is valid there
  pub each_in_valid : (g : Group) (before marks : List Mark) → GroupIsValid g → HasUnwornNumbers g.frame → Legal g origin limits (before ++ marks) → EachMark (λ r m. GroupIsValid r.state.group × Allowed limits r m) limits.quantum (progress_after limits.quantum (progress_at origin g) before) marks
  each_in_valid g before marks v unworn legal =
      let halves = each_split (Allowed limits) limits.quantum (progress_at origin g) before marks legal in
      let here : IsGood (progress_after limits.quantum (progress_at origin g) before) = each_keeps (Allowed limits) limits.quantum IsGood good_kept (progress_at origin g) before halves.0 (begins_in_order limits origin g, origin_after g v unworn) in
      each_weaker limits.quantum (λ r m. IsGood r × Allowed limits r m) (λ r m. GroupIsValid r.state.group × Allowed limits r m) (λ r m both. (both.0.1.valid, both.1)) (progress_after limits.quantum (progress_at origin g) before) marks
      (each_with (Allowed limits) limits.quantum IsGood good_kept (progress_after limits.quantum (progress_at origin g) before) marks halves.1 here)

  module _ (g : Group) (v : GroupIsValid g) (unworn : HasUnwornNumbers g.frame) (marks : List Mark) (legal : Legal g origin limits marks) where
    abbrev here : Progress
    here = progress_after limits.quantum (progress_at origin g) marks

    all : IsGood here
    all = each_keeps (Allowed limits) limits.quantum IsGood good_kept (progress_at origin g) marks legal (begins_in_order limits origin g, origin_after g v unworn)

    pub run_valid : GroupIsValid here.state.group × IsFresh here.state.group
    run_valid = (all.1.valid, after_fresh (100000 * here.turns) here.state.group (let few = few_turns here all.0 in omega (arith, few)) all.1)

    -- within the turn that comes next, after each of its steps
    pub each_step_valid : (pid n : ℕ) → n ≤ limits.quantum → GroupIsValid (steps_of here.state pid n).group × IsFresh (steps_of here.state pid n).group
    each_step_valid pid n le =
        let few = few_turns here all.0 in let quantum = small.quantum.1 in
        let at = steps_after (100000 * here.turns) here.state pid n (omega (arith, few, le, quantum)) all.1 in
        (at.valid, after_fresh (100000 * here.turns + n) (steps_of here.state pid n).group (omega (arith, few, le, quantum)) at)
