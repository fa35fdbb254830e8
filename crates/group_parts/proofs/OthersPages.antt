-- What others do touches no page of an object that a process maps privately.
use Rattle.std.proofs.Common.{Bool, List, None, Option, Some, [], ap, arith, false, refl, suc, sym, true, zero, ℕ, ◌&&◌, ◌++◌, ◌+◌, ◌<◌, ◌==◌, ◌||◌, ◌∙◌, ◌≡◌, ◌≤◌}
use Rattle.std.proofs.lemmas.Bool.{eqb-true, false≢true}
use Rattle.std.proofs.lemmas.List.Folds.{list_any-append}
use Rattle.std.specs.Prelude.{All, Any, find, if◌then◌else◌}
use Rattle.group_defs.specs.Fork.{maps_privately}
use Rattle.group_defs.specs.Group.{Group, is_runner, runner}
use Rattle.group_defs.specs.Mappings.{IsInside}
use Rattle.group_defs.specs.Objects.{is_of_file, maps_object}
use Rattle.group_defs.specs.Pages.{is_among, touched_by_effect, touched_with_step}
use Rattle.group_defs.specs.Standing.{State, is_durable}
use Rattle.group_defs.specs.Step.{effect_in}
use Rattle.group_defs.specs.Valid.{GroupIsValid}
use Rattle.group_defs.specs.declared.frame.Proc.{Proc}
use Rattle.group_laws.proofs.Elsewhere.{elsewhere_untouched}
use Rattle.group_laws.proofs.Lists.{any_all, any_true, found_all}
use Rattle.group_laws.proofs.OthersPrivate.{maps_none_of_file, some_map}
use Rattle.group_laws.proofs.ReplyLaws.{found_pid}
use Rattle.group_laws.proofs.UnmapLaws.{inside_known}
use Rattle.group_parts.proofs.Apart.{valid_apart}
use Rattle.group_parts.proofs.LocalValid.{local_steps_valid}
use Rattle.group_parts.proofs.MarksParts.{local_leaves}
use Rattle.group_parts.proofs.OthersParts.{behind}
use Rattle.group_parts.specs.Marks.{is_turn_of}
use Rattle.group_parts.specs.Parts.{IsApart, PrivatePart, part_of}
use Rattle.run_defs.specs.Legal.{Allowed}
use Rattle.run_defs.specs.Marks.{is_barrier}
use Rattle.run_defs.specs.Progress.{Progress, after_mark}
use Rattle.run_defs.specs.Touched.{touched_with_steps, touched_with_turn}
use Rattle.run_defs.specs.Turns.{AllLocal, steps_of}
use Rattle.run_defs.specs.declared.run.Limits.{Limits}
use Rattle.run_defs.specs.declared.run.Mark.{Mark}
use Rattle.run_defs.specs.declared.run.Mark.TheVariants.{Take, Turn, Barrier, Fetch, Ack}

-- In a valid group an object that a running process maps privately is no file's, and has a number below the next one.
module _ (g : Group) (p : ℕ) (x : Proc) (object : ℕ) (valid : GroupIsValid g) (there : find (is_runner p) g.frame.procs ≡ Some x) (own : maps_privately x.maps object ≡ true) where
  itself : find (is_runner x.pid) g.frame.procs ≡ Some x
  itself = ap (λ k. find (is_runner k) g.frame.procs) (found_pid g.frame.procs p x there) ∙ there

  no_file : is_of_file g.frame.files object ≡ false
  no_file = by_test (is_of_file g.frame.files object) refl
    where
      by_test : (b : Bool) → is_of_file g.frame.files object ≡ b → b ≡ false
      by_test false e = refl
      by_test true e = absurd (maps_none_of_file g x object valid itself (some_map x.maps object own) (record { number = object; pages = 0 }) refl e)

  below : object < g.frame.next.object
  below =
      of_mapping (any_all (λ m. (m.object == object) ≡ true) (λ m. (m.object < g.frame.next.object) × (m.first + m.pages ≤ 16384)) x.maps (any_true (λ m. m.object == object) x.maps (some_map x.maps object own))
      (inside_known g x itself valid x (found_all (is_runner p) (λ q. All (IsInside g.frame.objects) q.maps) g.frame.procs x there valid.sound.frame.maps.inside)))
    where
      of_mapping : Any (λ m. ((m.object == object) ≡ true) × ((m.object < g.frame.next.object) × (m.first + m.pages ≤ 16384))) x.maps → object < g.frame.next.object
      of_mapping (k, m, lt, at, both) = let same = eqb-true m.object object both.0 in let less = both.1.0 in omega (arith, same, less)

-- one step of another process
module _ (durable : Bool) (g : Group) (pid p : ℕ) (part : PrivatePart) (object page : ℕ) (valid : GroupIsValid g) (differ : (pid == p) ≡ false) (is : part_of g p ≡ Some part) (own : maps_privately part.maps object ≡ true) where
  untouched : (so_far : List (ℕ × ℕ)) → is_among so_far (object, page) ≡ false → is_among (touched_with_step durable g pid so_far) (object, page) ≡ false
  unfolding touched_with_step runner IsApart
  untouched so_far none = by_runner (find (is_runner pid) g.frame.procs) refl
    where
      unmapped : (q : Proc) → find (is_runner pid) g.frame.procs ≡ Some q → (b : Bool) → maps_object object q ≡ b → b ≡ false
      unmapped q e false maps = refl
      unmapped q e true maps =
          let (x, there, same) = behind g p part is in
          absurd (false≢true (sym (valid_apart g valid pid p q x differ e there object maps) ∙ ap (λ (t : PrivatePart). maps_privately t.maps object) same ∙ own))

      nothing : is_among (so_far ++ []) (object, page) ≡ false
      nothing = list_any-append (λ (x : ℕ × ℕ). (x.0 == object) && (x.1 == page)) so_far [] ∙ ap (λ (b : Bool). b || false) none

      by_runner : (o : Option Proc) → find (is_runner pid) g.frame.procs ≡ o → is_among (touched_with_step durable g pid so_far) (object, page) ≡ false
      by_runner None e = ap (λ (o : Option Proc). is_among (so_far ++ elim o [ None ↦ [] | Some q ↦ touched_by_effect durable g q so_far (effect_in g q) ]) (object, page)) e ∙ nothing
      by_runner (Some q) e =
          let (x, there, same) = behind g p part is in
          let its : maps_privately x.maps object ≡ true = ap (λ (t : PrivatePart). maps_privately t.maps object) same ∙ own in
          elsewhere_untouched durable g pid q so_far object page valid e (unmapped q e (maps_object object q) refl) (no_file g p x object valid there its) (below g p x object valid there its) none

  pub step_leaves_page : (so_far : List (ℕ × ℕ)) → is_among (touched_with_step durable g pid so_far) (object, page) ≡ is_among so_far (object, page)
  unfolding touched_with_step
  step_leaves_page so_far = by_test (is_among so_far (object, page)) refl
    where
      more : List (ℕ × ℕ)
      more = elim (runner g pid) [ None ↦ [] | Some q ↦ touched_by_effect durable g q so_far (effect_in g q) ]

      by_test : (b : Bool) → is_among so_far (object, page) ≡ b → is_among (touched_with_step durable g pid so_far) (object, page) ≡ b
      by_test true e = list_any-append (λ (x : ℕ × ℕ). (x.0 == object) && (x.1 == page)) so_far more ∙ ap (λ (b : Bool). b || is_among more (object, page)) e
      by_test false e = untouched so_far e

-- a turn of another process
module _ (s : State) (pid p : ℕ) (part : PrivatePart) (object page : ℕ) (valid : GroupIsValid s.group) (differ : (pid == p) ≡ false) (is : part_of s.group p ≡ Some part) (own : maps_privately part.maps object ≡ true) (so_far : List (ℕ × ℕ)) where
  one_more : (n : ℕ) → AllLocal s pid n → is_among (touched_with_steps s pid n so_far) (object, page) ≡ is_among so_far (object, page) → is_among (touched_with_steps s pid (suc n) so_far) (object, page) ≡ is_among so_far (object, page)
  unfolding touched_with_steps
  one_more n all before =
      step_leaves_page (is_durable (steps_of s pid n).standing pid) (steps_of s pid n).group pid p part object page (local_steps_valid s pid n valid all) differ (local_leaves s pid p part valid differ is n all) own (touched_with_steps s pid n so_far)
      ∙ before

  local_leave_page : (n : ℕ) → AllLocal s pid n → is_among (touched_with_steps s pid n so_far) (object, page) ≡ is_among so_far (object, page)
  unfolding touched_with_steps AllLocal
  local_leave_page zero all = refl
  local_leave_page (suc n) all = one_more n all.0 (local_leave_page n all.0)

  pub turn_leaves_page : (quantum n : ℕ) → AllLocal s pid n → is_among (touched_with_turn quantum s pid n so_far) (object, page) ≡ is_among so_far (object, page)
  turn_leaves_page quantum n all = by_end (n == quantum)
    where
      by_end : (b : Bool) → is_among (touched_with_steps s pid (if b then n else suc n) so_far) (object, page) ≡ is_among so_far (object, page)
      by_end true = local_leave_page n all
      by_end false = one_more n all (local_leave_page n all)

-- So does each mark that is no Turn of p and no Barrier, with which the next interval begins.
pub mark_leaves_page : (limits : Limits) (r : Progress) (m : Mark) (p : ℕ) (part : PrivatePart) (object page : ℕ) → GroupIsValid r.state.group → Allowed limits r m → is_turn_of p m ≡ false → is_barrier m ≡ false → part_of r.state.group p ≡ Some part → maps_privately part.maps object ≡ true
    → is_among (after_mark limits.quantum r m).touched (object, page) ≡ is_among r.touched (object, page)
mark_leaves_page limits r (Take worker pid) p part object page valid allowed none still is own = refl
mark_leaves_page limits r (Turn worker pid n) p part object page valid allowed none still is own = turn_leaves_page r.state pid p part object page valid none is own r.touched limits.quantum n allowed.turn.all_local
mark_leaves_page limits r (Barrier epoch) p part object page valid allowed none still is own = absurd (false≢true (sym still))
mark_leaves_page limits r (Fetch epoch) p part object page valid allowed none still is own = refl
mark_leaves_page limits r (Ack epoch) p part object page valid allowed none still is own = refl
