-- The output between two positions, and what a barrier lets out of it.
use Rattle.std.proofs.Common.{◌≡◌, ℕ, ◌+◌, ◌-◌, ◌≤◌, List, [], ◌∷◌, ◌++◌, length, take, drop, refl, sym, ap, subst, ◌∙◌, arith, append_assoc, append-nil, length-append, length-drop}
use Rattle.std.proofs.lemmas.List.{drop-drop, drop-take, length-take-le, take-append-le, take-take, take_all}
use Rattle.std.proofs.Math.Seq.{take-add}
use Rattle.group_defs.specs.Group.{Group}
use Rattle.group_defs.specs.Output.{last_position}
use Rattle.group_defs.specs.Standing.{barrier}
use Rattle.run_laws.proofs.OutputLaws.{Holds, barrier_last, held_last, output_held}
use Rattle.run_laws.specs.OutputBetween.{BarriersLetOut, OutputHasParts}
use Rattle.run_laws.specs.Rests.{IsTraceAtRest}
use Rattle.run_defs.specs.Progress.{Progress, after_mark, output_between, progress_after, progress_at}
use Rattle.run_defs.specs.declared.run.Limits.{Limits}
use Rattle.run_defs.specs.declared.run.Mark.{Mark}
use Rattle.run_defs.specs.declared.run.Mark.TheVariants.{Take, Turn, Barrier, Fetch, Ack}

joined : (xs : List ℕ) (i d m k : ℕ) → m ≤ k → drop i (take (i + d) xs) ++ take m (drop (i + d) (take (i + d + k) xs)) ≡ drop i (take (i + d + m) xs)
joined xs i d m k le =
    let sum : i + d + m ≡ i + (d + m) = omega arith in
    ap (λ (l : List ℕ). l ++ take m (drop (i + d) (take (i + d + k) xs))) (drop-take i d xs)
    ∙ ap (λ (l : List ℕ). take d (drop i xs) ++ take m l) (drop-take (i + d) k xs)
    ∙ ap (λ (l : List ℕ). take d (drop i xs) ++ l) (take-take m k (drop (i + d) xs) le)
    ∙ ap (λ (l : List ℕ). take d (drop i xs) ++ take m l) (sym (drop-drop d i xs))
    ∙ sym (take-add d m (drop i xs))
    ∙ sym (drop-take i (d + m) xs)
    ∙ ap (λ (n : ℕ). drop i (take n xs)) (sym sum)

-- marks only add to the output
one_adds : (quantum : ℕ) (r : Progress) (m : Mark) → (more : List ℕ) × ((after_mark quantum r m).output ≡ r.output ++ more)
one_adds quantum r (Take worker pid) = ([], sym (append-nil r.output))
one_adds quantum r (Turn worker pid n) = (_, refl)
one_adds quantum r (Barrier epoch) = ([], sym (append-nil r.output))
one_adds quantum r (Fetch epoch) = ([], sym (append-nil r.output))
one_adds quantum r (Ack epoch) = ([], sym (append-nil r.output))

pub marks_add : (quantum : ℕ) (r : Progress) (marks : List Mark) → (more : List ℕ) × ((progress_after quantum r marks).output ≡ r.output ++ more)
marks_add quantum r [] = ([], sym (append-nil r.output))
marks_add quantum r (m ∷ ms) =
    let one = one_adds quantum r m in let rest = marks_add quantum (after_mark quantum r m) ms in
    (one.0 ++ rest.0, rest.1 ∙ ap (λ (l : List ℕ). l ++ rest.0) one.1 ∙ append_assoc r.output one.0 rest.0)

module _ (start : Group) (limits : Limits) where
  abbrev first : ℕ
  first = start.frame.out.from

  none : (r : Progress) (at : ℕ) → output_between start r at at ≡ []
  none r at =
      let same : at - first ≡ (at - first) + 0 = omega arith in
      ap (λ (n : ℕ). drop (at - first) (take n r.output)) same ∙ drop-take (at - first) 0 r.output

  size : (r : Progress) (from to : ℕ) → first ≤ from → to ≤ first + length r.output → length (output_between start r from to) ≡ to - from
  size r from to above within =
      let taken : length (take (to - first) r.output) ≡ to - first = length-take-le (to - first) r.output (omega (arith, within)) in
      length-drop (from - first) (take (to - first) r.output) ∙ omega (arith, taken, above)

  stays : (r : Progress) (more : List Mark) (from to : ℕ) → to ≤ first + length r.output → output_between start (progress_after limits.quantum r more) from to ≡ output_between start r from to
  stays r more from to within =
      let adds = marks_add limits.quantum r more in
      ap (λ (l : List ℕ). drop (from - first) (take (to - first) l)) adds.1 ∙ ap (drop (from - first)) (take-append-le (to - first) r.output adds.0 (omega (arith, within)))

  longer : (r : Progress) (more : List Mark) → length r.output ≤ length (progress_after limits.quantum r more).output
  longer r more = let adds = marks_add limits.quantum r more in omega (arith, ap length adds.1, length-append r.output adds.0)

  joins : (r : Progress) (from mid to m : ℕ) → first ≤ from → from ≤ mid → mid + m ≤ to → output_between start r from mid ++ take m (output_between start r mid to) ≡ output_between start r from (mid + m)
  joins r from mid to m above low high =
      let i = from - first in
      let d = mid - from in
      let k = to - mid in
      let at_mid : mid - first ≡ i + d = omega (arith, above, low) in
      let at_end : to - first ≡ i + d + k = omega (arith, above, low, high) in
      let at_part : i + d + m ≡ mid + m - first = omega (arith, above, low) in
      ap (λ (n : ℕ). drop i (take n r.output) ++ take m (drop n (take (to - first) r.output))) at_mid
      ∙ ap (λ (n : ℕ). drop i (take (i + d) r.output) ++ take m (drop (i + d) (take n r.output))) at_end
      ∙ joined r.output i d m k (omega (arith, high))
      ∙ ap (λ (n : ℕ). drop i (take n r.output)) at_part

  begun : (origin : ℕ) (marks : List Mark) (from : ℕ) → output_between start (progress_after limits.quantum (progress_at origin start) marks) from (last_position start.frame.out) ≡ drop (from - first) start.frame.out.bytes
  begun origin marks from =
      let bytes = start.frame.out.bytes in
      let there : last_position start.frame.out - first ≡ length bytes = omega arith in
      stays (progress_at origin start) marks from (last_position start.frame.out) (omega arith)
      ∙ ap (λ (n : ℕ). drop (from - first) (take n bytes)) there ∙ ap (drop (from - first)) (take_all (length bytes) bytes (omega arith))

  pub output_has_parts : OutputHasParts start limits
  output_has_parts = record { none = none; size = size; stays = stays; longer = longer; joins = joins; begun = begun }

  module _ (origin : ℕ) (above : first ≤ start.frame.out.mark) (below : start.frame.out.mark ≤ last_position start.frame.out) where
    held : (marks : List Mark) (r : Progress) → IsTraceAtRest start origin limits marks r → Holds first r.output r.state.group.frame.out
    held marks r at = let P : Progress → Type 0 = λ x. Holds first x.output x.state.group.frame.out in subst P at.stands (output_held limits.quantum origin start marks above below)

    lets_out : (marks more : List Mark) (r : Progress) (epoch : ℕ) → IsTraceAtRest start origin limits marks r
        → output_between start (progress_after limits.quantum r more) r.state.group.frame.out.mark (last_position r.state.group.frame.out) ≡ (barrier r.state epoch).group.frame.out.bytes
    lets_out marks more r epoch at =
        let o = r.state.group.frame.out in
        let h = held marks r at in
        let end = held_last first r.output o h in
        let apart : o.mark - first ≡ (o.from - first) + (o.mark - o.from) = omega (arith, h.begins, h.mark_above) in
        stays r more o.mark (last_position o) (omega (arith, end))
        ∙ ap (drop (o.mark - first)) (take_all (last_position o - first) r.output (omega (arith, end)))
        ∙ ap (λ (n : ℕ). drop n r.output) apart
        ∙ sym (drop-drop (o.mark - o.from) (o.from - first) r.output)
        ∙ ap (drop (o.mark - o.from)) h.bytes

    pub barriers_let_out : BarriersLetOut start origin limits
    barriers_let_out = record {
      reaches = λ marks r at. held_last first r.output r.state.group.frame.out (held marks r at);
      stays = λ marks r epoch at. let h = held marks r at in barrier_last r.state.group.frame.out h.mark_above h.mark_below;
      lets_out = lets_out;
    }
