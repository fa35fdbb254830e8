-- What a turn leaves of the pages that it doesn't touch, and what is touched at a new disk's first barrier.
use Rattle.std.proofs.Common.{◌≡◌, ◌⊎◌, ℕ, zero, suc, ◌+◌, ◌*◌, ◌≤◌, ◌<◌, ◌==◌, ◌&&◌, ◌||◌, not, Bool, true, false, List, [], ◌∷◌, ◌++◌, take, drop, Option, Some, None, refl, ap, sym, ◌∙◌, subst, arith, inl, inr}
use Rattle.std.specs.Prelude.{if◌then◌else◌, map}
use Rattle.std.specs.List.{filter, flat_map, list_any, list_all, range_with_len, AllZip}
use Rattle.std.proofs.lemmas.Bool.{cases_lt, eq-eqb, eqb-true}
use Rattle.std.proofs.lemmas.List.{drop_all}
use Rattle.std.proofs.lemmas.List.Folds.{list_any-append}
use Rattle.group_laws.proofs.Lists.{found_all}
use Rattle.group_defs.specs.declared.frame.ObjectRec.{ObjectRec}
use Rattle.group_defs.specs.declared.frame.Proc.{Proc}
use Rattle.run_defs.specs.declared.run.Mark.{Mark}
use Rattle.run_defs.specs.declared.run.Mark.TheVariants.{Take, Turn, Barrier, Fetch, Ack}
use Rattle.group_defs.specs.Cells.{bytes_in}
use Rattle.group_defs.specs.Group.{Group, is_runner, runner}
use Rattle.group_defs.specs.Step.{after_effect, after_reply, call_in, do_step, effect_in, group_step}
use Rattle.group_defs.specs.Pages.{all_pages, page_bytes, is_zero_page, nonzero_pages, pages_of, touched_by_effect, touched_by_reply, touched_with_step, is_among}
use Rattle.group_defs.specs.Valid.{GroupIsValid, IsObject}
use Rattle.group_defs.specs.Standing.{State, is_durable}
use Rattle.run_defs.specs.Touched.{touched_with_steps, touched_with_turn}
use Rattle.run_defs.specs.Marks.{is_barrier}
use Rattle.run_defs.specs.Progress.{Progress, after_mark, checkpoint, progress_after, progress_at}
use Rattle.run_defs.specs.Turns.{steps_of, turned}
use Rattle.run_laws.specs.Untouched.{IsZeroOrCopy, LeavesUntouched}
use Rattle.run_laws.proofs.FileBytes.{not_between, or_both}
use Rattle.run_laws.proofs.FilesStand.{OfMemory, StandsIn, valid_stands}
use Rattle.run_laws.proofs.PageLaws.{Follows, Stays, StepLeaves, apart, by_effect, call_step, fewer_follow, none_left, nothing_leaves, stays_then, zero_page}
use Rattle.run_laws.proofs.TurnLaws.{step_cases}

-- a running process maps objects that are there and aren't files'
runner_maps : (g : Group) (pid : ℕ) (p : Proc) → StandsIn g → runner g pid ≡ Some p → OfMemory g.frame.next.object g.frame.files p.maps
unfolding runner
runner_maps g pid p s found = found_all (is_runner pid) (λ q. OfMemory g.frame.next.object g.frame.files q.maps) g.frame.procs p found s.unmapped

-- each call that is defined, in a valid group
pub calls_leave : (durable : Bool) (g : Group) (pid : ℕ) (p : Proc) (number : ℕ) (so_far : List (ℕ × ℕ)) → GroupIsValid g → runner g pid ≡ Some p → LeavesUntouched g so_far (touched_by_reply g p so_far number (call_in durable g p number)) (after_reply g p (call_in durable g p number))
calls_leave durable g pid p number so_far valid found =
    let s = valid_stands g valid in
    let l = call_step g p so_far s (runner_maps g pid p s found) durable number in
    record { stay = λ page lt e. l.1.old page e lt; new = λ page le e. l.1.new page e le }

-- what is touched stays touched
step_before : (durable : Bool) (g : Group) (pid : ℕ) (so_far : List (ℕ × ℕ)) (page : ℕ × ℕ) → is_among (touched_with_step durable g pid so_far) page ≡ false → is_among so_far page ≡ false
unfolding touched_with_step
step_before durable g pid so_far page e = (apart so_far _ page e).0

steps_before : (s : State) (pid n : ℕ) (so_far : List (ℕ × ℕ)) (page : ℕ × ℕ) → is_among (touched_with_steps s pid n so_far) page ≡ false → is_among so_far page ≡ false
unfolding touched_with_steps
steps_before s pid zero so_far page e = e
steps_before s pid (suc n) so_far page e = steps_before s pid n so_far page (step_before _ (steps_of s pid n).group pid (touched_with_steps s pid n so_far) page e)

pub turn_touches : (quantum : ℕ) (s : State) (pid n : ℕ) (so_far : List (ℕ × ℕ)) (page : ℕ × ℕ) → is_among so_far page ≡ true → is_among (touched_with_turn quantum s pid n so_far) page ≡ true
turn_touches quantum s pid n so_far page before = by_after (is_among (touched_with_turn quantum s pid n so_far) page) refl
  where
    by_after : (t : Bool) → is_among (touched_with_turn quantum s pid n so_far) page ≡ t → t ≡ true
    by_after true e = refl
    by_after false e = let over : is_among so_far page ≡ false = steps_before s pid _ so_far page e in cc

-- one step of a process
step_leaves : (durable : Bool) (g : Group) (pid : ℕ) (so_far : List (ℕ × ℕ)) → StandsIn g → StepLeaves g so_far (touched_with_step durable g pid so_far) (group_step durable g pid)
unfolding group_step touched_with_step
step_leaves durable g pid so_far s = by_runner (runner g pid) refl
  where
    touched : Option Proc → List (ℕ × ℕ)
    touched o = elim o [ None ↦ [] | Some p ↦ touched_by_effect durable g p so_far (effect_in g p) ]

    result : Option Proc → Group
    result o = elim o [ None ↦ g | Some p ↦ after_effect durable g p (effect_in g p) ]

    by_runner : (o : Option Proc) → runner g pid ≡ o → StepLeaves g so_far (so_far ++ touched o) (result o)
    by_runner None e = nothing_leaves g so_far (so_far ++ []) s
    by_runner (Some p) e =
        let l = by_effect g p so_far s (runner_maps g pid p s e) durable (effect_in g p) in
        let h = after_effect durable g p (effect_in g p) in
        let more = touched_by_effect durable g p so_far (effect_in g p) in
        (l.0, fewer_follow g so_far more (so_far ++ more) h.frame.next.object h.memory (λ page e. (apart so_far more page e).1) l.1, l.2)

-- The pages that aren't all zero are among those touched so far.
abbrev Covers : List (ℕ × ℕ) → List (ℕ × List ℕ) → Type 0
Covers so_far memory = (page : ℕ × ℕ) → is_zero_page memory page ≡ false → is_among so_far page ≡ true

-- a page that isn't all zero was so before, or is touched
covers_more : (g h : Group) (so_far touched : List (ℕ × ℕ)) → ((page : ℕ × ℕ) → is_among touched page ≡ false → is_among so_far page ≡ false) → Follows g so_far touched h.frame.next.object h.memory → Covers so_far g.memory → Covers touched h.memory
covers_more g h so_far touched more f covers page some = by_touch (is_among touched page) refl
  where
    was_touched : (k : ℕ) → page_bytes h.memory page ≡ page_bytes g.memory (k, page.1) → is_among so_far (k, page.1) ≡ true
    was_touched k same = covers (k, page.1) (ap (λ (bytes : List ℕ). list_all (λ b. b == 0) bytes) (sym same) ∙ some)

    of_old : is_among so_far page ≡ false → Stays g.memory h.memory page → ⊥
    of_old before (inl same) = let covered = was_touched page.0 same in absurd (cc)
    of_old before (inr gone) = let zeros = zero_page h.memory page gone in absurd (cc)

    of_new : IsZeroOrCopy g so_far h.memory page → ⊥
    of_new (inl zeros) = absurd (cc)
    of_new (inr (k, same, untouched)) = let covered = was_touched k same in absurd (cc)

    by_order : is_among touched page ≡ false → (page.0 < g.frame.next.object) ⊎ (g.frame.next.object ≤ page.0) → ⊥
    by_order e (inl lt) = of_old (more page e) (f.old page e lt)
    by_order e (inr le) = of_new (f.new page e le)

    by_touch : (t : Bool) → is_among touched page ≡ t → t ≡ true
    by_touch true e = refl
    by_touch false e = absurd (by_order e (cases_lt page.0 g.frame.next.object))

-- What some steps leave of a group.
record Leaves (g : Group) (so_far touched : List (ℕ × ℕ)) (h : Group) : Type 0 where
  pub stands : StandsIn h
  pub rises : g.frame.next.object ≤ h.frame.next.object
  pub stays : (page : ℕ × ℕ) → is_among touched page ≡ false → page.0 < g.frame.next.object → Stays g.memory h.memory page
  pub grows : (page : ℕ × ℕ) → is_among touched page ≡ false → is_among so_far page ≡ false
  pub new : (page : ℕ × ℕ) → is_among touched page ≡ false → g.frame.next.object ≤ page.0 → IsZeroOrCopy g so_far h.memory page
  pub covers : Covers so_far g.memory → Covers touched h.memory

-- ---- a new page stays zero or a copy

zero_as : (a b : List (ℕ × List ℕ)) (x y : ℕ × ℕ) → page_bytes b y ≡ page_bytes a x → is_zero_page a x ≡ true → is_zero_page b y ≡ true
zero_as a b x y same zeros = ap (λ (bytes : List ℕ). list_all (λ b. b == 0) bytes) same ∙ zeros

-- the same bytes in a later memory
copy_on : (g : Group) (so_far : List (ℕ × ℕ)) (a b : List (ℕ × List ℕ)) (object other page : ℕ) → page_bytes b (object, page) ≡ page_bytes a (other, page) → IsZeroOrCopy g so_far a (other, page) → IsZeroOrCopy g so_far b (object, page)
copy_on g so_far a b object other page same (inl zeros) = inl (zero_as a b (other, page) (object, page) same zeros)
copy_on g so_far a b object other page same (inr (k, copy, untouched)) = inr (k, same ∙ copy, untouched)

-- of an older page that nobody touched
copy_of : (g : Group) (so_far touched : List (ℕ × ℕ)) (h : Group) (first : Leaves g so_far touched h) (k page : ℕ) → is_among touched (k, page) ≡ false → IsZeroOrCopy g so_far h.memory (k, page)
copy_of g so_far touched h first k page untouched = by_order (cases_lt k g.frame.next.object)
  where
    by_old : Stays g.memory h.memory (k, page) → IsZeroOrCopy g so_far h.memory (k, page)
    by_old (inl same) = inr (k, same, first.grows (k, page) untouched)
    by_old (inr gone) = inl (zero_page h.memory (k, page) gone)

    by_order : (k < g.frame.next.object) ⊎ (g.frame.next.object ≤ k) → IsZeroOrCopy g so_far h.memory (k, page)
    by_order (inl lt) = by_old (first.stays (k, page) untouched lt)
    by_order (inr le) = first.new (k, page) untouched le

new_then : (g : Group) (so_far touched after_it : List (ℕ × ℕ)) (h h' : Group) (first : Leaves g so_far touched h) → Follows h touched after_it h'.frame.next.object h'.memory → ((page : ℕ × ℕ) → is_among after_it page ≡ false → is_among touched page ≡ false)
    → (page : ℕ × ℕ) → is_among after_it page ≡ false → g.frame.next.object ≤ page.0 → IsZeroOrCopy g so_far h'.memory page
new_then g so_far touched after_it h h' first f before page e le = by_order (cases_lt page.0 h.frame.next.object)
  where
    by_old : Stays h.memory h'.memory page → IsZeroOrCopy g so_far h'.memory page
    by_old (inl same) = copy_on g so_far h.memory h'.memory page.0 page.0 page.1 same (first.new page (before page e) le)
    by_old (inr gone) = inl (zero_page h'.memory page gone)

    by_new : IsZeroOrCopy h touched h'.memory page → IsZeroOrCopy g so_far h'.memory page
    by_new (inl zeros) = inl zeros
    by_new (inr (k, same, untouched)) = copy_on g so_far h.memory h'.memory page.0 k page.1 same (copy_of g so_far touched h first k page.1 untouched)

    by_order : (page.0 < h.frame.next.object) ⊎ (h.frame.next.object ≤ page.0) → IsZeroOrCopy g so_far h'.memory page
    by_order (inl lt) = by_old (f.old page e lt)
    by_order (inr over) = by_new (f.new page e over)

-- one more step
one_more : (g : Group) (s : State) (pid : ℕ) (so_far touched : List (ℕ × ℕ)) → Leaves g so_far touched s.group → Leaves g so_far (touched_with_step (is_durable s.standing pid) s.group pid touched) (do_step s pid).group
one_more g s pid so_far touched first = step_cases (λ t. Leaves g so_far after_it t.group) s pid still moved
  where
    after_it : List (ℕ × ℕ)
    after_it = touched_with_step (is_durable s.standing pid) s.group pid touched

    before : (page : ℕ × ℕ) → is_among after_it page ≡ false → is_among touched page ≡ false
    before page e = step_before (is_durable s.standing pid) s.group pid touched page e

    below : (n : ℕ) → n < g.frame.next.object → n < s.group.frame.next.object
    below n lt = let rises = first.rises in omega (arith, lt, rises)

    more : (h : Group) → StepLeaves s.group touched after_it h → Leaves g so_far after_it h
    more h l = record {
      stands = l.0;
      rises = (let first_rises = first.rises in let then_rises = l.1.rises in omega (arith, first_rises, then_rises));
      stays = λ page e lt. let still = below page.0 lt in stays_then g.memory s.group.memory h.memory page (l.1.gone page.0 still) (first.stays page (before page e) lt) (l.1.old page e still);
      grows = λ page e. first.grows page (before page e);
      new = new_then g so_far touched after_it s.group h first l.1 before;
      covers = λ c. covers_more s.group h touched after_it before l.1 (first.covers c);
    }

    still : Leaves g so_far after_it s.group
    still = more s.group (nothing_leaves s.group touched after_it first.stands)

    moved : Leaves g so_far after_it (group_step (is_durable s.standing pid) s.group pid)
    moved = more (group_step (is_durable s.standing pid) s.group pid) (step_leaves (is_durable s.standing pid) s.group pid touched first.stands)

steps_leave : (s : State) (pid n : ℕ) (so_far : List (ℕ × ℕ)) → StandsIn s.group → Leaves s.group so_far (touched_with_steps s pid n so_far) (steps_of s pid n).group
unfolding steps_of touched_with_steps
steps_leave s pid zero so_far stands = record { stands = stands; rises = omega arith; stays = λ page e lt. inl refl; grows = λ page e. e; new = (nothing_leaves s.group so_far so_far stands).1.new; covers = λ c. c }
steps_leave s pid (suc n) so_far stands = one_more s.group (steps_of s pid n) pid so_far (touched_with_steps s pid n so_far) (steps_leave s pid n so_far stands)

-- a turn in a valid group changes no page that it doesn't touch
pub turn_leaves : (quantum : ℕ) (s : State) (pid n : ℕ) (so_far : List (ℕ × ℕ)) → GroupIsValid s.group → LeavesUntouched s.group so_far (touched_with_turn quantum s pid n so_far) (turned quantum s pid n).group
turn_leaves quantum s pid n so_far valid = let l = steps_leave s pid _ so_far (valid_stands s.group valid) in record { stay = λ page lt e. l.stays page e lt; new = λ page le e. l.new page e le }

-- a place of a run before its first barrier
record IsCovered (r : Progress) : Type 0 where
  stands : StandsIn r.state.group
  covers : Covers r.touched r.state.group.memory

covered_mark : (quantum : ℕ) (r : Progress) (m : Mark) → is_barrier m ≡ false → IsCovered r → IsCovered (after_mark quantum r m)
covered_mark quantum r (Take worker pid) none c = record { stands = c.stands; covers = c.covers }
covered_mark quantum r (Turn worker pid n) none c = let l = steps_leave r.state pid _ r.touched c.stands in record { stands = l.stands; covers = l.covers c.covers }
covered_mark quantum r (Barrier epoch) none c = absurd (cc)
covered_mark quantum r (Fetch epoch) none c = record { stands = c.stands; covers = c.covers }
covered_mark quantum r (Ack epoch) none c = record { stands = c.stands; covers = c.covers }

covered_after : (quantum : ℕ) (r : Progress) (marks : List Mark) → list_any is_barrier marks ≡ false → IsCovered r → IsCovered (progress_after quantum r marks)
covered_after quantum r [] none c = c
covered_after quantum r (m ∷ ms) none c = let parts = or_both (is_barrier m) (list_any is_barrier ms) none in covered_after quantum (after_mark quantum r m) ms parts.1 (covered_mark quantum r m parts.0 c)

same_pair : (x y : ℕ × ℕ) → x.0 ≡ y.0 → x.1 ≡ y.1 → x ≡ y
same_pair x y first second = let pair : ℕ → ℕ → ℕ × ℕ = λ a b. (a, b) in ap (λ (a : ℕ). pair a x.1) first ∙ ap (pair y.0) second

not_true : (b : Bool) → not b ≡ true → b ≡ false
not_true true e = absurd (cc)
not_true false e = refl

among_filter : (t : ℕ × ℕ → Bool) (xs : List (ℕ × ℕ)) (page : ℕ × ℕ) → is_among (filter t xs) page ≡ true → (t page ≡ true) × (is_among xs page ≡ true)
among_filter t [] page e = absurd (cc)
among_filter t (x ∷ xs) page e = by_test (t x) ((x.0 == page.0) && (x.1 == page.1)) refl refl (among_filter t xs page) e
  where
    here : ((x.0 == page.0) && (x.1 == page.1)) ≡ true → x ≡ page
    here h = let first : x.0 ≡ page.0 = grind (arith, h) in let second : x.1 ≡ page.1 = grind (arith, h) in same_pair x page first second

    or_true : (b : Bool) → (b || true) ≡ true
    or_true true = refl
    or_true false = refl

    by_test : (b u : Bool) → t x ≡ b → ((x.0 == page.0) && (x.1 == page.1)) ≡ u → (is_among (filter t xs) page ≡ true → (t page ≡ true) × (is_among xs page ≡ true)) → is_among (if b then x ∷ filter t xs else filter t xs) page ≡ true → (t page ≡ true) × ((((x.0 == page.0) && (x.1 == page.1)) || is_among xs page) ≡ true)
    by_test true true k h rest e = (ap t (sym (here h)) ∙ k, ap (λ b. b || is_among xs page) h)
    by_test true false k h rest e = let r = rest (ap (λ b. b || is_among (filter t xs) page) (sym h) ∙ e) in (r.0, ap (λ b. b || is_among xs page) h ∙ r.1)
    by_test false u k h rest e = let r = rest e in (r.0, ap (λ b. ((x.0 == page.0) && (x.1 == page.1)) || b) r.1 ∙ or_true ((x.0 == page.0) && (x.1 == page.1)))

in_filter : (t : ℕ × ℕ → Bool) (xs : List (ℕ × ℕ)) (page : ℕ × ℕ) → t page ≡ true → is_among xs page ≡ true → is_among (filter t xs) page ≡ true
in_filter t [] page k e = absurd (cc)
in_filter t (x ∷ xs) page k e = by_test (t x) ((x.0 == page.0) && (x.1 == page.1)) refl refl (in_filter t xs page k) e
  where
    here : ((x.0 == page.0) && (x.1 == page.1)) ≡ true → x ≡ page
    here h = let first : x.0 ≡ page.0 = grind (arith, h) in let second : x.1 ≡ page.1 = grind (arith, h) in same_pair x page first second

    by_test : (b u : Bool) → t x ≡ b → ((x.0 == page.0) && (x.1 == page.1)) ≡ u → (is_among xs page ≡ true → is_among (filter t xs) page ≡ true) → (u || is_among xs page) ≡ true → is_among (if b then x ∷ filter t xs else filter t xs) page ≡ true
    by_test true true f h rest e = ap (λ b. b || is_among (filter t xs) page) h
    by_test true false f h rest e = ap (λ b. b || is_among (filter t xs) page) h ∙ rest e
    by_test false true f h rest e = let over : t x ≡ true = ap t (here h) ∙ k in absurd (cc)
    by_test false false f h rest e = rest e

or_true : (b : Bool) → (b || true) ≡ true
or_true true = refl
or_true false = refl

-- in a valid group each page that isn't all zero is one of its pages
in_object : (object page count : ℕ) → page < count → is_among (map (λ k. (object, k)) (range_with_len 0 count)) (object, page) ≡ true
in_object object page count lt = by_test (is_among (map (λ k. (object, k)) (range_with_len 0 count)) (object, page)) refl
  where
    nowhere : (page < 0) ⊎ (0 + count ≤ page) → ⊥
    nowhere (inl below) = omega (arith, below)
    nowhere (inr above) = omega (arith, above, lt)

    by_test : (b : Bool) → is_among (map (λ k. (object, k)) (range_with_len 0 count)) (object, page) ≡ b → b ≡ true
    by_test true is = refl
    by_test false is = absurd (nowhere (not_between object page 0 count is))

page_is_there : (objects : List ObjectRec) (memory : List (ℕ × List ℕ)) (page : ℕ × ℕ) → AllZip IsObject objects memory → is_zero_page memory page ≡ false → is_among (flat_map pages_of objects) page ≡ true
page_is_there [] [] page zip some = let zero_page : is_zero_page [] page ≡ true = ap (λ (bytes : List ℕ). list_all (λ b. b == 0) bytes) (none_left (4096 * page.1)) in absurd (cc)
page_is_there [] (e ∷ es) page zip some = absurd zip
page_is_there (o ∷ os) [] page zip some = absurd zip
page_is_there (o ∷ os) (e ∷ es) page zip some = joined ∙ by_test (e.0 == page.0) refl (page_is_there os es page zip.1)
  where
    joined : is_among (pages_of o ++ flat_map pages_of os) page ≡ (is_among (pages_of o) page || is_among (flat_map pages_of os) page)
    joined = list_any-append (λ p. (p.0 == page.0) && (p.1 == page.1)) (pages_of o) (flat_map pages_of os)

    inside : e.0 ≡ page.0 → (page.1 < o.pages) ⊎ (o.pages ≤ page.1) → is_among (pages_of o) page ≡ true
    inside same (inl lt) = let its : o.number ≡ page.0 = sym zip.0.0 ∙ same in let P : ℕ → Type 0 = λ n. is_among (pages_of o) (n, page.1) ≡ true in subst P its (in_object o.number page.1 o.pages lt)
    inside same (inr le) =
        let hit : (e.0 == page.0) ≡ true = eq-eqb e.0 page.0 same in
        let bytes : bytes_in (e ∷ es) page.0 ≡ e.1 = rw (bytes_in, hit) refl in
        let size = zip.0.1 in
        let none : drop (4096 * page.1) e.1 ≡ [] = drop_all (4096 * page.1) e.1 (omega (arith, size, le)) in
        let zero_page : is_zero_page (e ∷ es) page ≡ true = ap (λ (bs : List ℕ). list_all (λ b. b == 0) (take 4096 (drop (4096 * page.1) bs))) bytes ∙ ap (λ (bs : List ℕ). list_all (λ b. b == 0) (take 4096 bs)) none in
        absurd (cc)

    by_test : (b : Bool) → (e.0 == page.0) ≡ b → (is_zero_page es page ≡ false → is_among (flat_map pages_of os) page ≡ true) → (is_among (pages_of o) page || is_among (flat_map pages_of os) page) ≡ true
    by_test true hit rest = ap (λ t. t || is_among (flat_map pages_of os) page) (inside (eqb-true e.0 page.0 hit) (cases_lt page.1 o.pages))
    by_test false miss rest =
        let bytes : bytes_in (e ∷ es) page.0 ≡ bytes_in es page.0 = rw (bytes_in, miss) refl in
        let later = rest (ap (λ (bs : List ℕ). list_all (λ b. b == 0) (take 4096 (drop (4096 * page.1) bs))) (sym bytes) ∙ some) in
        ap (λ t. is_among (pages_of o) page || t) later ∙ or_true (is_among (pages_of o) page)

-- At a new disk's first barrier each page that isn't all zero is touched.
pub first_has_all : (quantum : ℕ) (start : Group) (marks : List Mark) (epoch : ℕ) → GroupIsValid start → list_any is_barrier marks ≡ false →
    (page : ℕ × ℕ) → let r = progress_after quantum (progress_at 0 start) marks in is_among (nonzero_pages r.state.group) page ≡ true → is_among (checkpoint r epoch).touched page ≡ true
unfolding nonzero_pages all_pages
first_has_all quantum start marks epoch valid none page e =
    let r = progress_after quantum (progress_at 0 start) marks in
    let at_start : Covers (nonzero_pages start) start.memory = λ page some. in_filter (λ page. not (is_zero_page start.memory page)) (all_pages start.frame) page (ap not some) (page_is_there start.frame.objects start.memory page valid.sound.memory.bytes some) in
    let c = covered_after quantum (progress_at 0 start) marks none (record { stands = valid_stands start valid; covers = at_start }) in
    let found = among_filter (λ page. not (is_zero_page r.state.group.memory page)) (all_pages r.state.group.frame) page e in
    in_filter (is_among r.touched) (all_pages r.state.group.frame) page (c.covers page (not_true (is_zero_page r.state.group.memory page) found.0)) found.1
