-- Which groups the epochs of a run have.
use Rattle.std.proofs.Common.{◌≡◌, ℕ, ◌+◌, ◌≤◌, ◌==◌, Bool, true, false, List, [], ◌∷◌, ◌++◌, Option, Some, None, refl, ap, sym, ◌∙◌, arith, rules, append_assoc, append-nil}
use Rattle.std.specs.Prelude.{All, if◌then◌else◌}
use Rattle.std.specs.List.{find, list_any}
use Rattle.std.specs.Option.{option_map, option_or}
use Rattle.std.proofs.lemmas.List.Folds.{find-append}
use Rattle.std.proofs.lemmas.Bool.{ne_eqb}
use Rattle.std.proofs.lemmas.List.Elements.{All-head, All-tail}
use Rattle.group_defs.specs.Group.{Group}
use Rattle.run_laws.proofs.FileBytes.{or_both}
use Rattle.run_laws.proofs.LegalLaws.{in_order}
use Rattle.run_laws.proofs.MachineLaws.{each_before, each_split, progress_more}
use Rattle.run_laws.proofs.RestLaws.{order_at}
use Rattle.run_laws.specs.EpochGroups.{EpochsHaveGroups}
use Rattle.run_defs.specs.Legal.{Allowed, Legal}
use Rattle.run_defs.specs.Marks.{is_barrier, is_barrier_of}
use Rattle.run_defs.specs.Progress.{Checkpoint, Progress, after_barrier, after_mark, checkpoint, checkpoint_of, group_of_epoch, progress_after, progress_at}
use Rattle.run_defs.specs.declared.run.Limits.{Limits}
use Rattle.run_defs.specs.declared.run.Mark.{Mark}
use Rattle.run_defs.specs.declared.run.Mark.TheVariants.{Take, Turn, Barrier, Fetch, Ack}

itself : (n : ℕ) → (n == n) ≡ true
itself n = search rules

-- marks only add checkpoints, and only barriers do
one_adds : (quantum : ℕ) (r : Progress) (m : Mark) → (more : List Checkpoint) × ((after_mark quantum r m).checkpoints ≡ r.checkpoints ++ more)
one_adds quantum r (Take worker pid) = ([], sym (append-nil r.checkpoints))
one_adds quantum r (Turn worker pid n) = ([], sym (append-nil r.checkpoints))
one_adds quantum r (Barrier epoch) = (checkpoint r epoch ∷ [], refl)
one_adds quantum r (Fetch epoch) = ([], sym (append-nil r.checkpoints))
one_adds quantum r (Ack epoch) = ([], sym (append-nil r.checkpoints))

marks_add : (quantum : ℕ) (r : Progress) (marks : List Mark) → (more : List Checkpoint) × ((progress_after quantum r marks).checkpoints ≡ r.checkpoints ++ more)
marks_add quantum r [] = ([], sym (append-nil r.checkpoints))
marks_add quantum r (m ∷ ms) =
    let one = one_adds quantum r m in let rest = marks_add quantum (after_mark quantum r m) ms in
    (one.0 ++ rest.0, rest.1 ∙ ap (λ (l : List Checkpoint). l ++ rest.0) one.1 ∙ append_assoc r.checkpoints one.0 rest.0)

other : (quantum : ℕ) (r : Progress) (marks : List Mark) → list_any is_barrier marks ≡ false → (progress_after quantum r marks).checkpoints ≡ r.checkpoints
other quantum r [] none = refl
other quantum r (Take worker pid ∷ ms) none = other quantum (after_mark quantum r (Take worker pid)) ms none
other quantum r (Turn worker pid n ∷ ms) none = other quantum (after_mark quantum r (Turn worker pid n)) ms none
other quantum r (Barrier epoch ∷ ms) none = absurd (cc)
other quantum r (Fetch epoch ∷ ms) none = other quantum (after_mark quantum r (Fetch epoch)) ms none
other quantum r (Ack epoch ∷ ms) none = other quantum (after_mark quantum r (Ack epoch)) ms none

stays : (cs more : List Checkpoint) (e : ℕ) (h : Group) → option_map (λ c. c.group) (find (λ c. c.epoch == e) cs) ≡ Some h → option_map (λ c. c.group) (find (λ c. c.epoch == e) (cs ++ more)) ≡ Some h
stays [] more e h is = absurd (cc)
stays (c ∷ cs) more e h is = by_test (c.epoch == e) (stays cs more e h) is
  where
    of : Option Checkpoint → Option Group
    of o = option_map (λ x. x.group) o

    by_test : (t : Bool) → (of (find (λ x. x.epoch == e) cs) ≡ Some h → of (find (λ x. x.epoch == e) (cs ++ more)) ≡ Some h) → of (if t then Some c else find (λ x. x.epoch == e) cs) ≡ Some h → of (if t then Some c else find (λ x. x.epoch == e) (cs ++ more)) ≡ Some h
    by_test true rest is = is
    by_test false rest is = rest is

pub later : (quantum : ℕ) (r : Progress) (more : List Mark) (e : ℕ) (h : Group) → group_of_epoch r e ≡ Some h → group_of_epoch (progress_after quantum r more) e ≡ Some h
later quantum r more e h is = let adds = marks_add quantum r more in ap (λ (cs : List Checkpoint). option_map (λ c. c.group) (find (λ c. c.epoch == e) cs)) adds.1 ∙ stays r.checkpoints adds.0 e h is

new_last : (cs : List Checkpoint) (c : Checkpoint) (last : ℕ) → All (λ x. x.epoch ≤ last) cs → c.epoch ≡ last + 1 → find (λ x. x.epoch == c.epoch) (cs ++ c ∷ []) ≡ Some c
new_last [] c last all is = rw (itself c.epoch) refl
new_last (x ∷ xs) c last all is =
    let le = All-head (λ x. x.epoch ≤ last) x xs all in
    let miss : (x.epoch == c.epoch) ≡ false = ne_eqb x.epoch c.epoch (λ same. omega (arith, le, is, same)) in
    rw miss (new_last xs c last (All-tail (λ x. x.epoch ≤ last) x xs all) is)

module _ (start : Group) (origin : ℕ) (limits : Limits) where
  pub epochs_have_groups : EpochsHaveGroups start origin limits
  epochs_have_groups = record {
    first = λ marks. later limits.quantum (progress_at origin start) marks origin start (rw (itself origin) refl);
    later = later limits.quantum;
    other = other limits.quantum;
    made = λ marks r epoch at is. new_last r.checkpoints (checkpoint r epoch) r.state.standing.last (order_at start origin limits marks r at).epochs is;
  }

-- ---- the checkpoint of each barrier

pub barrier_makes : (start : Group) (origin : ℕ) (limits : Limits) (a : List Mark) (e : ℕ) (b : List Mark) → Legal start origin limits (a ++ Barrier e ∷ b) →
    checkpoint_of (progress_after limits.quantum (progress_at origin start) (a ++ Barrier e ∷ b)) e ≡ Some (checkpoint (progress_after limits.quantum (progress_at origin start) a) e)
barrier_makes start origin limits a e b legal =
    let q = limits.quantum in
    let r = progress_after q (progress_at origin start) a in
    let order = in_order start origin limits a (each_split (Allowed limits) q (progress_at origin start) a (Barrier e ∷ b) legal).0 in
    let allowed = each_before (Allowed limits) q (progress_at origin start) a (Barrier e) b legal in
    let adds = marks_add q (after_barrier r e) b in
    let is_its : Checkpoint → Bool = λ c. c.epoch == e in
    ap (λ (x : Progress). checkpoint_of x e) (progress_more q (progress_at origin start) a (Barrier e ∷ b)) ∙
    ap (find is_its) adds.1 ∙
    find-append is_its (r.checkpoints ++ checkpoint r e ∷ []) adds.0 ∙
    ap (λ (found : Option Checkpoint). option_or found (find is_its adds.0)) (new_last r.checkpoints (checkpoint r e) r.state.standing.last order.epochs allowed.rises)

or_none : (found : Option Checkpoint) → option_or found None ≡ found
or_none None = refl
or_none (Some c) = refl

pub others_make_none : (quantum : ℕ) (r : Progress) (marks : List Mark) (e : ℕ) → list_any (is_barrier_of e) marks ≡ false → checkpoint_of (progress_after quantum r marks) e ≡ checkpoint_of r e
others_make_none quantum r [] e none = refl
others_make_none quantum r (Take worker pid ∷ ms) e none = others_make_none quantum (after_mark quantum r (Take worker pid)) ms e none
others_make_none quantum r (Turn worker pid n ∷ ms) e none = others_make_none quantum (after_mark quantum r (Turn worker pid n)) ms e none
others_make_none quantum r (Barrier epoch ∷ ms) e none =
    let both = or_both (epoch == e) (list_any (is_barrier_of e) ms) none in
    let is_its : Checkpoint → Bool = λ c. c.epoch == e in
    let miss : find is_its (checkpoint r epoch ∷ []) ≡ None = rw both.0 refl in
    others_make_none quantum (after_barrier r epoch) ms e both.1 ∙
    find-append is_its r.checkpoints (checkpoint r epoch ∷ []) ∙
    ap (option_or (find is_its r.checkpoints)) miss ∙
    or_none (find is_its r.checkpoints)
others_make_none quantum r (Fetch epoch ∷ ms) e none = others_make_none quantum (after_mark quantum r (Fetch epoch)) ms e none
others_make_none quantum r (Ack epoch ∷ ms) e none = others_make_none quantum (after_mark quantum r (Ack epoch)) ms e none
