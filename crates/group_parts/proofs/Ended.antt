-- The end of a process while others are out: the public part goes on by its rows and the mappings of the process that ends.
use Rattle.std.proofs.Common.{Bool, List, None, Some, [], ap, false, get_or, inl, inr, map, not, refl, sym, true, ℕ, ◌&&◌, ◌==◌, ◌||◌, ◌∙◌, ◌∷◌, ◌≡◌, ◌⊎◌}
use Rattle.std.proofs.Math.Path.{fun_ext}
use Rattle.std.proofs.Math.Bool.{and-false, and-true}
use Rattle.std.proofs.lemmas.Bool.{cases_Bool, eq-eqb, eqb-true, false≢true}
use Rattle.std.proofs.lemmas.List.Elements.{All-head, All-tail, All-weaker}
use Rattle.std.specs.List.{filter_map, list_any}
use Rattle.std.specs.Option.{option_map}
use Rattle.std.specs.Prelude.{All, Any, filter, find, if◌then◌else◌}
use Rattle.address_maps.specs.declared.maps.Mapping.{Mapping}
use Rattle.descriptors.specs.declared.opens.Open.{Open}
use Rattle.group_defs.specs.Family.{after_end, ended}
use Rattle.group_defs.specs.Fork.{maps_privately}
use Rattle.group_defs.specs.Group.{Group, is_runner, is_running, runner}
use Rattle.group_defs.specs.Held.{held_pipes, is_at, is_end_held, is_held, is_kept, pair_carries, settled}
use Rattle.group_defs.specs.Objects.{is_of_file, maps_object}
use Rattle.group_defs.specs.Step.{group_step}
use Rattle.group_defs.specs.Streams.{is_pair_end}
use Rattle.group_defs.specs.Valid.{GroupIsValid}
use Rattle.group_defs.specs.declared.frame.ObjectRec.{ObjectRec}
use Rattle.group_defs.specs.declared.frame.Proc.{Proc}
use Rattle.group_laws.proofs.Inside.{found_has}
use Rattle.group_laws.proofs.Lists.{any_at}
use Rattle.group_laws.proofs.OthersPrivate.{maps_none_of_file, some_map, unmapped_by_others}
use Rattle.group_laws.proofs.ReplyLaws.{found_pid}
use Rattle.group_parts.proofs.Numbered.{zip_numbers}
use Rattle.group_parts.proofs.EndRows.{any_left, none_runs, rows_at, rows_map, rows_same, unmapped_all, unmapped_private}
use Rattle.group_parts.proofs.LocalSteps.{runner_private}
use Rattle.group_parts.proofs.Memory.{Memory, kept_in}
use Rattle.group_parts.proofs.NoneStarts.{end_rests, others_by}
use Rattle.group_parts.proofs.Runners.{ended_maps, runner_found}
use Rattle.group_parts.proofs.Served.{stands_on}
use Rattle.group_parts.specs.Kept.{KeptParts, StandsFor, TakesPart, kept_part}
use Rattle.group_parts.specs.Parts.{PrivatePart, is_private, is_public, part_in, part_of, public_part, public_process}
use Rattle.group_parts.specs.Served.{public_ended, stays_for}
use Rattle.pipes_socks.specs.declared.streams.Pair.{Pair}
use Rattle.run_defs.specs.Legal.{is_unleased}
use Rattle.run_defs.specs.Progress.{Lease}

same_filter : {X : Type 0} (t u : X → Bool) (xs : List X) → All (λ x. t x ≡ u x) xs → filter t xs ≡ filter u xs
same_filter t u [] all = refl
same_filter {X} t u (x ∷ xs) all = ap (λ (b : Bool). if b then x ∷ filter t xs else filter t xs) (All-head (λ y. t y ≡ u y) x xs all) ∙ ap (λ (l : List X). if u x then x ∷ l else l) (same_filter t u xs (All-tail (λ y. t y ≡ u y) x xs all))

same_any : {X : Type 0} (t u : X → Bool) (xs : List X) → All (λ x. t x ≡ u x) xs → list_any t xs ≡ list_any u xs
same_any t u [] all = refl
same_any t u (x ∷ xs) all = ap (λ (b : Bool). b || list_any t xs) (All-head (λ y. t y ≡ u y) x xs all) ∙ ap (λ (b : Bool). u x || b) (same_any t u xs (All-tail (λ y. t y ≡ u y) x xs all))

none_any : {X : Type 0} (t : X → Bool) (xs : List X) → All (λ x. t x ≡ false) xs → list_any t xs ≡ false
none_any t [] all = refl
none_any t (x ∷ xs) all = ap (λ (b : Bool). b || list_any t xs) (All-head (λ y. t y ≡ false) x xs all) ∙ none_any t xs (All-tail (λ y. t y ≡ false) x xs all)

-- two tests, one after the other, in either order
twice_same : (a b c d : ℕ → Bool) (memory : Memory) → All (λ o. (a o.0 && b o.0) ≡ (c o.0 && d o.0)) memory → kept_in b (kept_in a memory) ≡ kept_in d (kept_in c memory)
twice_same a b c d memory all = once a b memory ∙ same_filter (λ (o : ℕ × List ℕ). a o.0 && b o.0) (λ (o : ℕ × List ℕ). c o.0 && d o.0) memory all ∙ sym (once c d memory)
  where
    once : (a b : ℕ → Bool) (memory : Memory) → kept_in b (kept_in a memory) ≡ kept_in (λ n. a n && b n) memory
    once a b [] = refl
    once a b (o ∷ os) = by_test (a o.0) refl (once a b os)
      where
        by_test : (t : Bool) → a o.0 ≡ t → kept_in b (kept_in a os) ≡ kept_in (λ n. a n && b n) os → kept_in b (if t then o ∷ kept_in a os else kept_in a os) ≡ (if t && b o.0 then o ∷ kept_in (λ n. a n && b n) os else kept_in (λ n. a n && b n) os)
        by_test true e ih = ap (λ (l : Memory). if b o.0 then o ∷ l else l) ih
        by_test false e ih = ih

module _ (g : Group) (valid : GroupIsValid g) (pid : ℕ) (p : Proc) (is : runner g pid ≡ Some p) (status : ℕ) where
  abbrev procs : List Proc
  procs = g.frame.procs

  abbrev left : List Proc
  left = filter_map (after_end p status) g.frame.procs

  abbrev rows : List Proc
  rows = filter_map (after_end p status) (map public_process g.frame.procs)

  found : find (is_runner p.pid) procs ≡ Some p
  unfolding runner
  found = ap (λ (n : ℕ). find (is_runner n) g.frame.procs) (found_pid g.frame.procs pid p is) ∙ is

  -- each process is p, or runs under another pid, or maps nothing
  abbrev IsOne : Proc → Type 0
  IsOne q = (q ≡ p) ⊎ (((is_runner p.pid q ≡ false) × (find (is_runner q.pid) g.frame.procs ≡ Some q) × (p.pid ≡ q.pid → ⊥)) ⊎ ((is_runner p.pid q ≡ false) × (q.maps ≡ [])))

  each_one : All IsOne procs
  each_one k d lt = by_running (is_running q) refl
    where
      q : Proc
      q = get_or g.frame.procs k d

      there : Any (λ x. x ≡ q) g.frame.procs
      there = any_at (λ x. x ≡ q) g.frame.procs k d lt refl

      by_pid : is_running q ≡ true → find (is_runner q.pid) g.frame.procs ≡ Some q → (b : Bool) → (q.pid == p.pid) ≡ b → IsOne q
      by_pid runs its true e =
          let same : Some q ≡ Some p = sym its ∙ ap (λ (n : ℕ). find (is_runner n) g.frame.procs) (eqb-true q.pid p.pid e) ∙ found in
          let one : q ≡ p = cc in inl one
      by_pid runs its false e =
          inr (inl (ap (λ (b : Bool). b && (q.pid == p.pid)) runs ∙ e, its, λ same. false≢true (sym e ∙ eq-eqb q.pid p.pid (sym same))))

      by_running : (b : Bool) → is_running q ≡ b → IsOne q
      by_running true e = by_pid e (runner_found g.frame.procs q valid.sound.frame.procs.rise there e) (q.pid == p.pid) refl
      by_running false e = inr (inr (ap (λ (b : Bool). b && (q.pid == p.pid)) e, ended_maps g valid k d lt e))

  -- the same is mapped afterwards where p doesn't map it
  left_same : (test : List Mapping → Bool) → test [] ≡ false → test p.maps ≡ false → list_any (λ q. test q.maps) left ≡ list_any (λ q. test q.maps) procs
  left_same test none gone = any_left p status test none g.frame.procs (ended_maps g valid) ∙ same_any (λ q. test q.maps && not (is_runner p.pid q)) (λ q. test q.maps) g.frame.procs (All-weaker IsOne (λ q. (test q.maps && not (is_runner p.pid q)) ≡ test q.maps) by_one g.frame.procs each_one)
    where
      by_one : (q : Proc) → IsOne q → (test q.maps && not (is_runner p.pid q)) ≡ test q.maps
      by_one q (inl same) = let none_here : test q.maps ≡ false = ap (λ (x : Proc). test x.maps) same ∙ gone in ap (λ (b : Bool). b && not (is_runner p.pid q)) none_here ∙ sym none_here
      by_one q (inr (inl other)) = ap (λ (b : Bool). test q.maps && not b) other.0 ∙ and-true (test q.maps)
      by_one q (inr (inr ended)) = ap (λ (b : Bool). test q.maps && not b) ended.0 ∙ and-true (test q.maps)

  -- and nothing is where all others don't
  left_none : (test : List Mapping → Bool) → test [] ≡ false → ((q : Proc) → find (is_runner q.pid) g.frame.procs ≡ Some q → (p.pid ≡ q.pid → ⊥) → test q.maps ≡ false) → list_any (λ q. test q.maps) left ≡ false
  left_none test none others = any_left p status test none g.frame.procs (ended_maps g valid) ∙ none_any (λ q. test q.maps && not (is_runner p.pid q)) g.frame.procs (All-weaker IsOne (λ q. (test q.maps && not (is_runner p.pid q)) ≡ false) by_one g.frame.procs each_one)
    where
      by_one : (q : Proc) → IsOne q → (test q.maps && not (is_runner p.pid q)) ≡ false
      by_one q (inl same) = ap (λ (b : Bool). test q.maps && not b) (itself q same) ∙ and-false (test q.maps)
        where
          itself : (q : Proc) → q ≡ p → is_runner p.pid q ≡ true
          itself q same = ap (is_runner p.pid) same ∙ runs (is_runner p.pid p) refl
            where
              runs : (b : Bool) → is_runner p.pid p ≡ b → b ≡ true
              runs true e = refl
              runs false e = absurd (false≢true (sym e ∙ (found_has (λ x. Unit {0}) (is_runner p.pid) g.frame.procs p (λ k d lt. tt) found).1))
      by_one q (inr (inl other)) = ap (λ (b : Bool). b && not (is_runner p.pid q)) (others q other.1 other.2)
      by_one q (inr (inr ended)) = ap (λ (l : List Mapping). test l && not (is_runner p.pid q)) ended.1 ∙ ap (λ (b : Bool). b && not (is_runner p.pid q)) none

  module _ (n : ℕ) (kept : is_kept g.frame.files g.frame.procs n ≡ true) where
    abbrev mapped : List Proc → Bool
    mapped qs = list_any (maps_object n) qs

    abbrev maps_it : Bool
    maps_it = list_any (λ m. m.object == n) p.maps

    abbrev Agrees : Type 0
    Agrees = (is_kept g.frame.files left n ≡ stays_for rows p.maps n) × ((is_kept g.frame.files left n && is_public left n) ≡ (is_public procs n && stays_for rows p.maps n))

    not_file : maps_it ≡ true → is_of_file g.frame.files n ≡ false
    not_file maps = by_file (is_of_file g.frame.files n) refl
      where
        by_file : (b : Bool) → is_of_file g.frame.files n ≡ b → b ≡ false
        by_file false e = refl
        by_file true e = absurd (maps_none_of_file g p n valid found maps (record { number = n; pages = 0 }) refl e)

    rows_are : mapped rows ≡ mapped (map public_process left)
    rows_are = ap (list_any (maps_object n)) (sym (rows_same p status g.frame.procs))

    -- p alone maps it, and privately
    private_goes : maps_privately p.maps n ≡ true → Agrees
    unfolding is_kept maps_object
    private_goes own =
        let maps : list_any (λ m. m.object == n) p.maps ≡ true = some_map p.maps n own in
        let gone : list_any (maps_object n) left ≡ false = left_none (λ l. list_any (λ m. m.object == n) l) refl (λ q its differ. unmapped_by_others g q p n valid its found (λ same. differ (sym same)) own) in
        let hidden : is_private left n ≡ false = unmapped_all left n gone in
        let rows_none : list_any (maps_object n) rows ≡ false = rows_are ∙ rows_map left n hidden ∙ gone in
        let file = not_file maps in
        let kept_not : (is_of_file g.frame.files n || list_any (maps_object n) left) ≡ false = ap (λ (b : Bool). b || list_any (maps_object n) left) file ∙ gone in
        let stays_not : stays_for rows p.maps n ≡ false = ap (λ (b : Bool). not b || list_any (maps_object n) rows) maps ∙ rows_none in
        let not_public : is_public procs n ≡ false = ap not (runner_private g pid p n is own) in (
          kept_not ∙ sym stays_not,
          ap (λ (b : Bool). b && is_public left n) kept_not ∙ sym (ap (λ (b : Bool). b && stays_for rows p.maps n) not_public),
        )

    -- p shares it
    shared_stays : maps_privately p.maps n ≡ false → maps_it ≡ true → Agrees
    unfolding is_kept maps_object
    shared_stays own maps =
        let none_private : is_private procs n ≡ false = none_any (λ q. maps_privately q.maps n) g.frame.procs (All-weaker IsOne (λ q. maps_privately q.maps n ≡ false) by_one g.frame.procs each_one) in
        let none_left : is_private left n ≡ false = left_same (λ l. maps_privately l n) refl own ∙ none_private in
        let file = not_file maps in
        let agree : (is_of_file g.frame.files n || list_any (maps_object n) left) ≡ stays_for rows p.maps n = ap (λ (b : Bool). b || list_any (maps_object n) left) file ∙ sym (rows_are ∙ rows_map left n none_left) ∙ sym (ap (λ (b : Bool). not b || list_any (maps_object n) rows) maps) in (
          agree,
          ap (λ (b : Bool). (is_of_file g.frame.files n || list_any (maps_object n) left) && not b) none_left ∙ and-true (is_of_file g.frame.files n || list_any (maps_object n) left) ∙ agree ∙ sym (ap (λ (b : Bool). not b && stays_for rows p.maps n) none_private),
        )
      where
        by_one : (q : Proc) → IsOne q → maps_privately q.maps n ≡ false
        by_one q (inl same) = ap (λ (x : Proc). maps_privately x.maps n) same ∙ own
        by_one q (inr (inl other)) = by_test (maps_privately q.maps n) refl
          where
            by_test : (b : Bool) → maps_privately q.maps n ≡ b → b ≡ false
            by_test false e = refl
            by_test true e = absurd (false≢true (sym (unmapped_by_others g p q n valid found other.1 other.2 e) ∙ maps))
        by_one q (inr (inr ended)) = ap (λ (l : List Mapping). maps_privately l n) ended.1

    -- p doesn't map it
    other_stays : maps_it ≡ false → Agrees
    unfolding is_kept maps_object
    other_stays gone =
        let own = unmapped_private p.maps n gone in
        let same : list_any (maps_object n) left ≡ list_any (maps_object n) procs = left_same (λ l. list_any (λ m. m.object == n) l) refl gone in
        let here : (is_of_file g.frame.files n || list_any (maps_object n) left) ≡ true = ap (λ (b : Bool). is_of_file g.frame.files n || b) same ∙ kept in
        let stays : stays_for rows p.maps n ≡ true = ap (λ (b : Bool). not b || list_any (maps_object n) rows) gone in
        let public : is_public left n ≡ is_public procs n = ap not (left_same (λ l. maps_privately l n) refl own) in (
          here ∙ sym stays,
          ap (λ (b : Bool). b && is_public left n) here ∙ public ∙ sym (ap (λ (b : Bool). is_public procs n && b) stays ∙ and-true (is_public procs n)),
        )

    agrees : Agrees
    agrees = by_tests (cases_Bool (maps_privately p.maps n)) (cases_Bool maps_it)
      where
        by_tests : (maps_privately p.maps n ≡ true) ⊎ (maps_privately p.maps n ≡ false) → (maps_it ≡ true) ⊎ (maps_it ≡ false) → Agrees
        by_tests (inl own) either = private_goes own
        by_tests (inr own) (inl maps) = shared_stays own maps
        by_tests (inr own) (inr gone) = other_stays gone

  abbrev held_at : List Proc → ℕ → Bool
  held_at qs n = list_any (is_at n) qs

  -- What is held is told by the descriptors, which stand in the rows.
  abbrev ends_of : (ℕ → Bool) → List Open → ℕ → ℕ → Bool
  ends_of at opens number side = list_any (λ o. is_pair_end number side o.kind && at o.number) opens

  abbrev pairs_of : (ℕ → Bool) → List Open → List Pair → List Pair
  pairs_of at opens pairs = map {A = Pair} (λ x. record {
    number = x.number;
    to0 = if ends_of at opens x.number 0 then x.to0 else [];
    to1 = if ends_of at opens x.number 1 then x.to1 else [];
  }) (filter (λ x. ends_of at opens x.number 0 || ends_of at opens x.number 1) pairs)

  abbrev opens_of : (ℕ → Bool) → List Pair → List Open → List Open
  opens_of at pairs opens = filter (λ o. at o.number || list_any (pair_carries o.number) pairs) opens

  abbrev made : List Proc → (ℕ → Bool) → List ObjectRec → Memory → Group
  made l at objects memory = record {
    frame = record g.frame {
      procs = l;
      pairs = pairs_of at g.frame.opens g.frame.pairs;
      opens = opens_of at (pairs_of at g.frame.opens g.frame.pairs) g.frame.opens;
      pipes = held_pipes (opens_of at (pairs_of at g.frame.opens g.frame.pairs) g.frame.opens) g.frame.pipes;
      objects = objects;
    };
    memory = memory;
  }

  pub public_of_end : public_part (ended g p status) ≡ public_ended (public_part g) p status
  unfolding public_part ended settled public_ended is_end_held is_held
  public_of_end =
      ap (λ (l : List Proc). made l (held_at left) (filter (λ o. is_kept g.frame.files left o.number) g.frame.objects) (kept_in (is_public left) (kept_in (is_kept g.frame.files left) g.memory))) (rows_same p status g.frame.procs)
      ∙ ap (λ (at : ℕ → Bool). made rows at (filter (λ o. is_kept g.frame.files left o.number) g.frame.objects) (kept_in (is_public left) (kept_in (is_kept g.frame.files left) g.memory))) at_same
      ∙ ap (λ (l : List ObjectRec). made rows (held_at rows) l (kept_in (is_public left) (kept_in (is_kept g.frame.files left) g.memory)))
      (same_filter (λ (o : ObjectRec). is_kept g.frame.files left o.number) (λ (o : ObjectRec). stays_for rows p.maps o.number) g.frame.objects (λ k d lt. (agrees (get_or g.frame.objects k d).number (valid.held.objects k d lt)).0))
      ∙ ap (λ (m : Memory). made rows (held_at rows) (filter (λ o. stays_for rows p.maps o.number) g.frame.objects) m)
      (twice_same (is_kept g.frame.files left) (is_public left) (is_public procs) (stays_for rows p.maps) g.memory (λ k d lt. (agrees (get_or g.memory k d).0 (zip_numbers (is_kept g.frame.files procs) g.frame.objects g.memory valid.sound.memory.bytes valid.held.objects k d lt)).1))
    where
      at_same : held_at left ≡ held_at rows
      at_same = fun_ext (λ n. sym (rows_at left n) ∙ ap (list_any (is_at n)) (rows_same p status g.frame.procs))

  -- the process is gone
  pub part_of_end : part_of (ended g p status) pid ≡ None
  unfolding part_of runner ended settled
  part_of_end = ap (option_map (part_in (ended g p status))) (ap (λ (n : ℕ). find (is_runner n) (filter_map (after_end p status) g.frame.procs)) (sym (found_pid g.frame.procs pid p is)) ∙ none_runs p status g.frame.procs)

-- A STEP THAT ENDS THE PROCESS
pub end_served : (durable : Bool) (leases : List Lease) (k : KeptParts) (g : Group) (pid : ℕ) (p : Proc) → StandsFor leases k g → GroupIsValid g → runner g pid ≡ Some p → is_unleased leases pid ≡ true → (status : ℕ) (here : List (ℕ × PrivatePart))
    → group_step durable g pid ≡ ended g p status → TakesPart k.here here pid → StandsFor leases (record { public = public_ended k.public p status; here = here }) (group_step durable g pid)
unfolding runner
end_served durable leases k g pid p stands valid is free status here step takes =
    stands_on leases k (record { public = public_ended k.public p status; here = here }) g (group_step durable g pid) pid stands free others
    (ap (λ (x : Group). public_ended x p status) stands.public ∙ sym (public_of_end g valid pid p is status) ∙ ap public_part (sym step))
    (takes pid ∙ ap (λ (t : Bool). if t then None else kept_part k.here pid) (eq-eqb pid pid refl) ∙ sym (ap (λ (x : Group). part_of x pid) step ∙ part_of_end g valid pid p is status))
    (λ q differ. takes q ∙ ap (λ (t : Bool). if t then None else kept_part k.here q) differ)
  where
    others : (q : ℕ) → (pid == q) ≡ false → part_of (group_step durable g pid) q ≡ part_of g q
    others q differ = others_by durable g pid q valid differ (λ none. ap (λ (h : Group). runner h q) step ∙ end_rests durable g p q (ap (λ k. k == q) (found_pid g.frame.procs pid p is) ∙ differ) none status)
