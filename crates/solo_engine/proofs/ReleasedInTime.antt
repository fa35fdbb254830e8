-- What a barrier covers is out before a later one is fetched.
use Rattle.std.proofs.Common.{◌≡◌, ◌⊎◌, inl, inr, ℕ, ◌≤◌, ◌==◌, Bool, true, false, if◌then◌else◌, List, [], ◌∷◌, ◌++◌, Option, Some, None, refl, ap, sym, ◌∙◌, arith}
use Rattle.std.specs.List.{find}
use Rattle.std.specs.Option.{option_map}
use Rattle.std.proofs.lemmas.Bool.{eqb-true}
use Rattle.group_defs.specs.Group.{Group}
use Rattle.run_defs.specs.Progress.{Checkpoint, mark_of}
use Rattle.run_defs.specs.declared.run.Limits.{Limits}
use Rattle.run_defs.specs.declared.run.Mark.{Mark}
use Rattle.sls_core.specs.Safe.{IsReleasedInTime, RunSoFar, run_of}
use Rattle.solo_engine.proofs.SafeSoFar.{longer}

-- All that the barriers of a run at rest cover lies before a position.
pub record Covered (run : RunSoFar) (to : ℕ) : Type 0 where
  pub begun : run.start.frame.out.mark ≤ to
  pub marks : (epoch mark : ℕ) → mark_of run.now epoch ≡ Some mark → mark ≤ to

abbrev mark_in : List Checkpoint → ℕ → Option ℕ
mark_in cs epoch = option_map (λ h. h.frame.out.mark) (option_map (λ c. c.group) (find (λ c. c.epoch == epoch) cs))

-- an epoch's mark behind one checkpoint more: the one before, or of that checkpoint
mark_found : (cs : List Checkpoint) (c : Checkpoint) (epoch mark : ℕ) → mark_in (cs ++ c ∷ []) epoch ≡ Some mark → (mark_in cs epoch ≡ Some mark) ⊎ ((c.epoch ≡ epoch) × (c.group.frame.out.mark ≡ mark))
mark_found [] c epoch mark is = by_test (c.epoch == epoch) refl is
  where
    by_test : (t : Bool) → (c.epoch == epoch) ≡ t → option_map (λ h. h.frame.out.mark) (option_map (λ c. c.group) (if t then Some c else None)) ≡ Some mark → (None ≡ Some mark) ⊎ ((c.epoch ≡ epoch) × (c.group.frame.out.mark ≡ mark))
    by_test true same is = inr (eqb-true c.epoch epoch same, cc)
    by_test false same is = inl is
mark_found (x ∷ cs) c epoch mark is = by_test (x.epoch == epoch) (mark_found cs c epoch mark) is
  where
    by_test : (t : Bool) → (mark_in (cs ++ c ∷ []) epoch ≡ Some mark → (mark_in cs epoch ≡ Some mark) ⊎ ((c.epoch ≡ epoch) × (c.group.frame.out.mark ≡ mark)))
        → option_map (λ h. h.frame.out.mark) (option_map (λ c. c.group) (if t then Some x else find (λ c. c.epoch == epoch) (cs ++ c ∷ []))) ≡ Some mark
        → (option_map (λ h. h.frame.out.mark) (option_map (λ c. c.group) (if t then Some x else find (λ c. c.epoch == epoch) cs)) ≡ Some mark) ⊎ ((c.epoch ≡ epoch) × (c.group.frame.out.mark ≡ mark))
    by_test true rest is = inl is
    by_test false rest is = rest is

module _ (run : RunSoFar) (to : ℕ) (c : Covered run to) where
  -- where no checkpoint was added
  pub in_time_on : (more : List Mark) → (longer run more).now.checkpoints ≡ run.now.checkpoints → IsReleasedInTime (longer run more) to
  in_time_on more same = record { begun = inr c.begun; fetched = λ epoch mark below is. c.marks epoch mark (sym (ap (λ (cs : List Checkpoint). mark_in cs epoch) same) ∙ is) }

  module _ (more : List Mark) (one : Checkpoint) (adds : (longer run more).now.checkpoints ≡ run.now.checkpoints ++ one ∷ []) where
    found : (epoch mark : ℕ) → mark_of (longer run more).now epoch ≡ Some mark → (mark_of run.now epoch ≡ Some mark) ⊎ ((one.epoch ≡ epoch) × (one.group.frame.out.mark ≡ mark))
    found epoch mark is = mark_found run.now.checkpoints one epoch mark (sym (ap (λ (cs : List Checkpoint). mark_in cs epoch) adds) ∙ is)

    -- one more is fetched, and covers nothing yet
    pub in_time_fetched : (longer run more).now.fetched ≡ one.epoch → (to' : ℕ) → to ≤ to' → IsReleasedInTime (longer run more) to'
    in_time_fetched last to' up = record {
      begun = inr (omega (arith, c.begun, up));
      fetched = λ epoch mark below is. elim (found epoch mark is) [ inl old ↦ omega (arith, c.marks epoch mark old, up) | inr new ↦ absurd (omega (arith, below, last, new.0)) ];
    }

    -- what it covers is out
    pub covered_more : (to' : ℕ) → to ≤ to' → one.group.frame.out.mark ≤ to' → Covered (longer run more) to'
    covered_more to' up le = record {
      begun = omega (arith, c.begun, up);
      marks = λ epoch mark is. elim (found epoch mark is) [ inl old ↦ omega (arith, c.marks epoch mark old, up) | inr new ↦ omega (arith, le, new.1) ];
    }

-- nothing but the run's own checkpoint is covered at the start
pub covered_first : (limits : Limits) (start : Group) (origin : ℕ) → Covered (run_of limits start origin []) start.frame.out.mark
covered_first limits start origin = record { begun = omega arith; marks = λ epoch mark is. elim (mark_found [] (record { epoch = origin; group = start; touched = [] }) epoch mark is) [ inl none ↦ absurd (cc) | inr own ↦ omega (arith, own.1) ] }

pub in_time_at_start : (limits : Limits) (start : Group) (origin to : ℕ) → IsReleasedInTime (run_of limits start origin []) to
in_time_at_start limits start origin to = record { begun = inl refl; fetched = λ epoch mark below is. elim (mark_found [] (record { epoch = origin; group = start; touched = [] }) epoch mark is) [ inl none ↦ absurd (cc) | inr own ↦ absurd (omega (arith, below, own.0)) ] }
