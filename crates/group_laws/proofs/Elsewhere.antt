-- Which pages a step of a process can't touch.
use Rattle.std.proofs.Common.{Bool, List, None, Option, Some, [], ap, arith, false, get_or, length, map, refl, subst, sym, true, ℕ, ◌&&◌, ◌++◌, ◌+◌, ◌-◌, ◌/◌, ◌<◌, ◌==◌, ◌||◌, ◌∙◌, ◌∷◌, ◌≡◌, ◌≤◌}
use Rattle.std.proofs.lemmas.Bool.{eq-eqb, eqb-true, false≢true}
use Rattle.std.proofs.lemmas.List.Elements.{All-head, All-tail, All-weaker}
use Rattle.std.proofs.lemmas.List.Folds.{list_any-append, list_any-from_Any}
use Rattle.std.specs.List.{flat_map, list_any, range_with_len}
use Rattle.std.specs.Prelude.{All, Any, if◌then◌else◌, nat_lt}
use Rattle.address_maps.specs.Mappings.{mapping_at}
use Rattle.address_maps.specs.declared.maps.Mapping.{Mapping}
use Rattle.descriptors.specs.declared.opens.Open.{Open}
use Rattle.descriptors.specs.declared.opens.OpenKind.{OpenKind}
use Rattle.group_defs.specs.Calls.{Reply, answers, ends, fd_of, refuses, waits}
use Rattle.group_defs.specs.Cells.{object_place}
use Rattle.group_defs.specs.Changes.{open_at}
use Rattle.group_defs.specs.FileCalls.{write_place}
use Rattle.group_defs.specs.Fork.{Copy, copies_from, to_copy}
use Rattle.group_defs.specs.Group.{Group, regs_of, runner}
use Rattle.group_defs.specs.Objects.{is_of_file, maps_object}
use Rattle.group_defs.specs.Pages.{copied_page, handed_on, is_among, page_at, pages_at, pages_between, pages_emptied, pages_of_file_write, pages_of_writes, pages_written_to, touched_beside, touched_by_effect, touched_by_reply, touched_with_step}
use Rattle.group_defs.specs.Step.{call_in, effect_in, reply_in}
use Rattle.group_defs.specs.Valid.{GroupIsValid, TargetIsThere}
use Rattle.group_defs.specs.declared.frame.Proc.{Proc}
use Rattle.group_files.specs.Files.{length_of}
use Rattle.group_files.specs.declared.named_files.FileRec.{FileRec}
use Rattle.group_laws.proofs.ForkLists.{IsCopyOf, copies_all}
use Rattle.group_laws.proofs.Lists.{any_at}
use Rattle.group_laws.proofs.ObjectBytes.{unfound}
use Rattle.group_laws.proofs.OthersBytes.{open_has}
use Rattle.rv64_isa.specs.Instruction.{Effect, calls, list_of, steps, traps}
use Rattle.rv64_isa.specs.Memory.{Write, stored}
use Rattle.rv64_isa.specs.Numbers.{wrapped}
use Rattle.rv64_isa.specs.Registers.{call_number}
use Rattle.descriptors.specs.declared.opens.OpenKind.TheVariants as kinds

not_mapped : (object page a : ℕ) (maps : List Mapping) → list_any (λ m. m.object == object) maps ≡ false → is_among (page_at maps a) (object, page) ≡ false
not_mapped object page a maps none = by_mapping (mapping_at maps a) refl
  where
    by_mapping : (o : Option Mapping) → mapping_at maps a ≡ o → is_among (elim o [ None ↦ [] | Some m ↦ (m.object, object_place m a / 4096) ∷ [] ]) (object, page) ≡ false
    by_mapping None e = refl
    by_mapping (Some m) e = ap (λ b. (b && (object_place m a / 4096 == page)) || false) (unfound object a maps m none e)

joined : (xs ys : List (ℕ × ℕ)) (page : ℕ × ℕ) → is_among xs page ≡ false → is_among ys page ≡ false → is_among (xs ++ ys) page ≡ false
joined xs ys page e f = list_any-append (λ p. (p.0 == page.0) && (p.1 == page.1)) xs ys ∙ ap (λ b. b || is_among ys page) e ∙ f

bytes_elsewhere : (object page a : ℕ) (maps : List Mapping) (bytes : List ℕ) → list_any (λ m. m.object == object) maps ≡ false → is_among (pages_at maps a bytes) (object, page) ≡ false
unfolding pages_at
bytes_elsewhere object page a maps [] none = refl
bytes_elsewhere object page a maps (b ∷ bs) none = joined (page_at maps (wrapped a)) (pages_at maps (a + 1) bs) (object, page) (not_mapped object page (wrapped a) maps none) (bytes_elsewhere object page (a + 1) maps bs none)

writes_elsewhere : (object page : ℕ) (maps : List Mapping) (writes : List Write) → list_any (λ m. m.object == object) maps ≡ false → is_among (pages_of_writes maps writes) (object, page) ≡ false
writes_elsewhere object page maps [] none = refl
writes_elsewhere object page maps (w ∷ ws) none = joined (pages_at maps w.address w.bytes) (pages_of_writes maps ws) (object, page) (bytes_elsewhere object page w.address maps w.bytes none) (writes_elsewhere object page maps ws none)

not_there : (object other page : ℕ) (pages : List ℕ) → (other == object) ≡ false → is_among (map (λ k. (other, k)) pages) (object, page) ≡ false
not_there object other page [] differ = refl
not_there object other page (k ∷ ks) differ = ap (λ b. (b && (k == page)) || is_among (map (λ j. (other, j)) ks) (object, page)) differ ∙ not_there object other page ks differ

between_elsewhere : (object other page from to : ℕ) → (other == object) ≡ false → is_among (pages_between other from to) (object, page) ≡ false
between_elsewhere object other page from to differ = by_test (nat_lt from to)
  where
    pages : List ℕ
    pages = range_with_len (from / 4096) ((to - 1) / 4096 + 1 - from / 4096)

    by_test : (b : Bool) → is_among (if b then map (λ k. (other, k)) pages else []) (object, page) ≡ false
    by_test true = not_there object other page pages differ
    by_test false = refl

-- what a description is open at is there, so a file's object is a file's
file_object : (files : List FileRec) (object other : ℕ) → Any (λ f. f.object ≡ other) files → is_of_file files object ≡ false → (other == object) ≡ false
unfolding is_of_file
file_object files object other there none = by_test (other == object) refl
  where
    by_test : (b : Bool) → (other == object) ≡ b → b ≡ false
    by_test false e = refl
    by_test true e = let same : other ≡ object = eqb-true other object e in
        let found : list_any (λ f. f.object == object) files ≡ true = list_any-from_Any (λ f. f.object == object) files (there.0, there.1, there.2, there.3, eq-eqb (there.1).object object (there.4 ∙ same)) in
        absurd (false≢true (sym none ∙ found))

each_elsewhere : {X : Type 0} (f : X → List (ℕ × ℕ)) (xs : List X) (page : ℕ × ℕ) → All (λ x. is_among (f x) page ≡ false) xs → is_among (flat_map f xs) page ≡ false
each_elsewhere f [] page all = refl
each_elsewhere f (x ∷ xs) page all = joined (f x) (flat_map f xs) page (All-head (λ y. is_among (f y) page ≡ false) x xs all) (each_elsewhere f xs page (All-tail (λ y. is_among (f y) page ≡ false) x xs all))

module _ (g : Group) (p : Proc) (object page : ℕ) (valid : GroupIsValid g) (unmapped : list_any (λ m. m.object == object) p.maps ≡ false) (no_file : is_of_file g.frame.files object ≡ false) (below : object < g.frame.next.object) where
  of_kind : (o : Open) (count : ℕ) (kind : OpenKind) → TargetIsThere g.frame.files g.frame.pipes g.frame.pairs kind → is_among (pages_of_file_write g o count kind) (object, page) ≡ false
  of_kind o count kinds.Nothing there = refl
  of_kind o count kinds.Outside there = refl
  of_kind o count (kinds.File other) there = between_elsewhere object other page (write_place g o other) (write_place g o other + count) (file_object g.frame.files object other there no_file)
  of_kind o count (kinds.PipeRead pipe) there = refl
  of_kind o count (kinds.PipeWrite pipe) there = refl
  of_kind o count (kinds.PairEnd pair end) there = refl

  of_open : (count fd : ℕ) (x : Option Open) → open_at p.fds g.frame.opens fd ≡ x → is_among (pages_written_to g count x) (object, page) ≡ false
  of_open count fd None e = refl
  of_open count fd (Some o) e = of_kind o count o.kind (open_has (λ y. TargetIsThere g.frame.files g.frame.pipes g.frame.pairs y.kind) p.fds g.frame.opens fd o valid.sound.frame.opens.targets e)

  of_emptied : (after : List FileRec) (files : List FileRec) → All (λ f. (f.object == object) ≡ false) files → is_among (flat_map (pages_emptied after) files) (object, page) ≡ false
  of_emptied after files others = each_elsewhere (pages_emptied after) files (object, page) (All-weaker (λ f. (f.object == object) ≡ false) (λ f. is_among (pages_emptied after f) (object, page) ≡ false) (λ f differ. by_test f differ (nat_lt (length_of after f.object) f.length)) files others)
    where
      by_test : (f : FileRec) → (f.object == object) ≡ false → (b : Bool) → is_among (if b then pages_between f.object 0 f.length else []) (object, page) ≡ false
      by_test f differ true = between_elsewhere object f.object page 0 f.length differ
      by_test f differ false = refl

  -- copies have numbers of their own
  of_copy : (c : Copy) → (c.fresh == object) ≡ false → (so_far : List (ℕ × ℕ)) → is_among (flat_map (copied_page c) so_far) (object, page) ≡ false
  of_copy c differ so_far = each_elsewhere (copied_page c) so_far (object, page) (λ k d lt. by_test (get_or so_far k d) (c.old.number == (get_or so_far k d).0))
    where
      by_test : (old : ℕ × ℕ) (b : Bool) → is_among (if b then (c.fresh, old.1) ∷ [] else []) (object, page) ≡ false
      by_test old true = ap (λ b. (b && (old.1 == page)) || false) differ
      by_test old false = refl

  of_copies : (so_far : List (ℕ × ℕ)) → is_among (handed_on g p so_far) (object, page) ≡ false
  of_copies so_far = each_elsewhere (λ c. flat_map (copied_page c) so_far) copies (object, page) (All-weaker (IsCopyOf (λ o. Unit {0}) g.frame.next.object (length (to_copy g.frame p))) (λ c. is_among (flat_map (copied_page c) so_far) (object, page) ≡ false) (λ c is. of_copy c (by_test c is.from (c.fresh == object) refl) so_far) copies (copies_all (λ o. Unit {0}) g.frame.next.object (to_copy g.frame p) (λ k d lt. tt)))
    where
      copies : List Copy
      copies = copies_from g.frame.next.object (to_copy g.frame p)

      by_test : (c : Copy) → g.frame.next.object ≤ c.fresh → (b : Bool) → (c.fresh == object) ≡ b → b ≡ false
      by_test c from false e = refl
      by_test c from true e = let same = eqb-true c.fresh object e in absurd (omega (arith, same, from, below))

  of_beside : (so_far : List (ℕ × ℕ)) (number value : ℕ) (h : Group) → is_among (touched_beside g p so_far number value h) (object, page) ≡ false
  unfolding touched_beside
  of_beside so_far number value h = if_elsewhere (number == 64) _ _ (of_open value (fd_of (regs_of p)) (open_at p.fds g.frame.opens (fd_of (regs_of p))) refl) (if_elsewhere (number == 56) _ _ (of_emptied h.frame.files g.frame.files files_differ) (if_elsewhere (number == 220) _ _ (of_copies so_far) refl))
    where
      if_elsewhere : (b : Bool) (xs ys : List (ℕ × ℕ)) → is_among xs (object, page) ≡ false → is_among ys (object, page) ≡ false → is_among (if b then xs else ys) (object, page) ≡ false
      if_elsewhere true xs ys x y = x
      if_elsewhere false xs ys x y = y

      files_differ : All (λ f. (f.object == object) ≡ false) g.frame.files
      files_differ k d lt = file_object g.frame.files object (get_or g.frame.files k d).object (any_at (λ f. f.object ≡ (get_or g.frame.files k d).object) g.frame.files k d lt refl) no_file

  of_reply : (so_far : List (ℕ × ℕ)) (number : ℕ) (r : Reply Group) → is_among (touched_by_reply g p so_far number r) (object, page) ≡ false
  of_reply so_far number waits = refl
  of_reply so_far number (refuses errno) = refl
  of_reply so_far number (answers value h writes) = joined (pages_of_writes p.maps writes) (touched_beside g p so_far number value h) (object, page) (writes_elsewhere object page p.maps writes unmapped) (of_beside so_far number value h)
  of_reply so_far number (ends status) = refl

  by_effect : (durable : Bool) (so_far : List (ℕ × ℕ)) (e : Effect) → is_among (touched_by_effect durable g p so_far e) (object, page) ≡ false
  by_effect durable so_far (steps r stored) = writes_elsewhere object page p.maps (list_of stored) unmapped
  by_effect durable so_far calls = of_reply so_far (call_number (regs_of p)) (reply_in durable g p (call_number (regs_of p)))
  by_effect durable so_far (traps status) = refl

-- A call touches no page of an object of the group that the caller doesn't map and that isn't a file's.
pub untouched_by_calls : (durable : Bool) (g : Group) (pid number : ℕ) (p : Proc) (so_far : List (ℕ × ℕ)) (object page : ℕ) → GroupIsValid g → runner g pid ≡ Some p → maps_object object p ≡ false → is_of_file g.frame.files object ≡ false → object < g.frame.next.object
    → is_among (touched_by_reply g p so_far number (call_in durable g p number)) (object, page) ≡ false
unfolding maps_object
untouched_by_calls durable g pid number p so_far object page valid is none no_file below = of_reply g p object page valid none no_file below so_far number (call_in durable g p number)

-- A step touches no page of an object of the group that its process doesn't map and that isn't a file's.
pub elsewhere_untouched : (durable : Bool) (g : Group) (pid : ℕ) (p : Proc) (so_far : List (ℕ × ℕ)) (object page : ℕ) → GroupIsValid g → runner g pid ≡ Some p → maps_object object p ≡ false → is_of_file g.frame.files object ≡ false → object < g.frame.next.object
    → is_among so_far (object, page) ≡ false → is_among (touched_with_step durable g pid so_far) (object, page) ≡ false
unfolding touched_with_step maps_object
elsewhere_untouched durable g pid p so_far object page valid is none no_file below before =
    joined so_far _ (object, page) before
    (let P : Option Proc → Type 0 = λ o. is_among (elim o [ None ↦ [] | Some q ↦ touched_by_effect durable g q so_far (effect_in g q) ]) (object, page) ≡ false in
    subst P (sym is) (by_effect g p object page valid none no_file below durable so_far (effect_in g p)))
