-- What a step of one process leaves of what another sees of its private mappings, and which pages it can't touch.
use Rattle.std.proofs.Common.{Bool, List, None, Option, Some, ap, arith, false, get_or, inl, inr, not, refl, subst, sym, true, ℕ, ◌&&◌, ◌+◌, ◌==◌, ◌∙◌, ◌≡◌, ◌≤◌, ◌⊎◌}
use Rattle.std.proofs.Math.Path.{fun_ext}
use Rattle.std.proofs.lemmas.Bool.{and_parts, eq-eqb, eqb-true}
use Rattle.std.proofs.lemmas.List.{get_or_default}
use Rattle.std.proofs.lemmas.List.Sums.{length-filter}
use Rattle.std.specs.List.{list_any}
use Rattle.std.specs.Prelude.{All, Any, count_by, filter, find, if◌then◌else◌, slice_index}
use Rattle.address_maps.specs.Mappings.{has, mapping_at}
use Rattle.address_maps.specs.declared.maps.Mapping.{Mapping}
use Rattle.group_defs.specs.Cells.{bytes_in, cell_in, cells_of, object_place, sight}
use Rattle.group_defs.specs.Fork.{maps_privately}
use Rattle.group_defs.specs.Group.{Group, is_runner, runner}
use Rattle.group_defs.specs.Mappings.{IsInside}
use Rattle.group_defs.specs.Objects.{IsMappedAs, IsMemoryObject, IsPrivateObject, IsSharedObject, is_of_file, mappers, maps_object}
use Rattle.group_defs.specs.Step.{after_reply, call_in, group_step}
use Rattle.group_defs.specs.Valid.{GroupIsValid}
use Rattle.group_defs.specs.declared.frame.ObjectRec.{ObjectRec}
use Rattle.group_defs.specs.declared.frame.Proc.{Proc}
use Rattle.group_files.specs.declared.named_files.FileRec.{FileRec}
use Rattle.group_laws.proofs.Lists.{any_all, any_filter, any_true, any_weaker, found_all, found_is, true_any}
use Rattle.group_laws.proofs.OthersStay.{step_is}
use Rattle.group_laws.proofs.OthersBytes.{others_bytes, others_bytes_by_calls}
use Rattle.group_laws.proofs.ReplyLaws.{found_pid, maps_no_file}
use Rattle.group_laws.proofs.UnmapLaws.{own}
use Rattle.rv64_isa.specs.Memory.{private_cells, private_of}

-- Where at most one passes, two that pass are one.
one_passes : {X : Type 0} (t : X → Bool) (xs : List X) (a b : X) → count_by t xs ≤ 1 → Any (λ x. (x ≡ a) × (t x ≡ true)) xs → Any (λ x. (x ≡ b) × (t x ≡ true)) xs → a ≡ b
one_passes t xs a b few first second = by_places (any_filter (λ x. (x ≡ a) × (t x ≡ true)) t (λ x both. both.1) xs first) (any_filter (λ x. (x ≡ b) × (t x ≡ true)) t (λ x both. both.1) xs second)
  where
    by_places : Any (λ x. (x ≡ a) × (t x ≡ true)) (filter t xs) → Any (λ x. (x ≡ b) × (t x ≡ true)) (filter t xs) → a ≡ b
    by_places (i, x, lt, at, is) (j, y, lt', at', is') =
        let same : i ≡ j = omega (arith, lt, lt', few, length-filter t xs) in
        sym is.0 ∙ sym at ∙ get_or_default (filter t xs) i x y lt ∙ ap (λ k. get_or (filter t xs) k y) same ∙ at' ∙ is'.0

-- What some of a process's mappings show privately,
module _ (maps : List Mapping) (n : ℕ) (private : maps_privately maps n ≡ true) where
  pub some_private : Any (λ m. ((m.object == n) && not m.shared) ≡ true) maps
  some_private = any_true (λ m. (m.object == n) && not m.shared) maps private

  -- it maps,
  pub some_map : list_any (λ m. m.object == n) maps ≡ true
  some_map = true_any (λ m. m.object == n) maps (any_weaker (λ m. ((m.object == n) && not m.shared) ≡ true) (λ m. (m.object == n) ≡ true) maps (λ m e. (and_parts (m.object == n) (not m.shared) e).0) some_private)

  -- and not all of them share it.
  pub not_all_shared : All (λ m. m.object ≡ n → m.shared ≡ true) maps → ⊥
  not_all_shared shared = by_both (any_all (λ m. ((m.object == n) && not m.shared) ≡ true) (λ m. m.object ≡ n → m.shared ≡ true) maps some_private shared)
    where
      by_both : Any (λ m. (((m.object == n) && not m.shared) ≡ true) × (m.object ≡ n → m.shared ≡ true)) maps → ⊥
      by_both (k, m, lt, at, both) =
          let parts = and_parts (m.object == n) (not m.shared) both.0 in
          let over : not true ≡ true = ap not (sym (both.1 (eqb-true m.object n parts.0))) ∙ parts.1 in
          absurd (cc)

-- In a valid group no process maps a file's object.
pub maps_none_of_file : (g : Group) (p : Proc) (n : ℕ) → GroupIsValid g → find (is_runner p.pid) g.frame.procs ≡ Some p → list_any (λ m. m.object == n) p.maps ≡ true → (o : ObjectRec) → o.number ≡ n → is_of_file g.frame.files o.number ≡ true → ⊥
unfolding is_of_file
maps_none_of_file g p n valid found also o its file = by_parts (any_true (λ m. m.object == n) p.maps also) (any_true (λ f. f.object == o.number) g.frame.files file)
  where
    by_parts : Any (λ m. (m.object == n) ≡ true) p.maps → Any (λ f. (f.object == o.number) ≡ true) g.frame.files → ⊥
    by_parts (k, m, lt, at, hit) (j, f, lt', at', hit') = maps_no_file g p found valid k m lt j f lt' (ap (λ (y : Mapping). y.object) at ∙ eqb-true m.object n hit ∙ sym its ∙ sym (eqb-true f.object o.number hit') ∙ sym (ap (λ (y : FileRec). y.object) at'))

-- In a valid group nobody maps what another process maps privately.
module _ (g : Group) (p x : Proc) (n : ℕ) (valid : GroupIsValid g) (found : find (is_runner p.pid) g.frame.procs ≡ Some p) (there : find (is_runner x.pid) g.frame.procs ≡ Some x) (differ : p.pid ≡ x.pid → ⊥) (private : maps_privately x.maps n ≡ true) where
  pub maps_it : maps_object n x ≡ true
  unfolding maps_object
  maps_it = some_map x.maps n private

  no_file : maps_object n p ≡ true → (o : ObjectRec) → o.number ≡ n → is_of_file g.frame.files o.number ≡ true → ⊥
  unfolding maps_object
  no_file also = maps_none_of_file g p n valid found also

  pub unmapped_by_others : maps_object n p ≡ false
  unfolding IsInside IsMemoryObject IsSharedObject IsPrivateObject IsMappedAs mappers
  unmapped_by_others = by_test (maps_object n p) refl
    where
      procs : List Proc
      procs = g.frame.procs

      of_object : maps_object n p ≡ true → (o : ObjectRec) → o.number ≡ n → (is_of_file g.frame.files o.number ≡ true) ⊎ ((1 ≤ o.pages) × (All (λ q. All (λ m. m.object ≡ o.number → m.shared ≡ true) q.maps) procs ⊎ (All (λ q. All (λ m. m.object ≡ o.number → m.shared ≡ false) q.maps) procs × (count_by (maps_object o.number) procs ≤ 1)))) → ⊥
      of_object also o its (inl file) = no_file also o its file
      of_object also o its (inr (some, inl shared)) = not_all_shared x.maps n private (subst (λ k. All (λ m. m.object ≡ k → m.shared ≡ true) x.maps) its (found_all (is_runner x.pid) (λ q. All (λ m. m.object ≡ o.number → m.shared ≡ true) q.maps) procs x there shared))
      of_object also o its (inr (some, inr (all, few))) =
          let P : ℕ → Type 0 = λ k. count_by (maps_object k) procs ≤ 1 in
          differ (ap (λ (q : Proc). q.pid) (one_passes (maps_object n) procs p x (subst P its few)
          (any_weaker (λ q. (q ≡ p) × (is_runner p.pid q ≡ true)) (λ q. (q ≡ p) × (maps_object n q ≡ true)) procs (λ q both. (both.0, ap (maps_object n) both.0 ∙ also)) (found_is (is_runner p.pid) procs p found))
          (any_weaker (λ q. (q ≡ x) × (is_runner x.pid q ≡ true)) (λ q. (q ≡ x) × (maps_object n q ≡ true)) procs (λ q both. (both.0, ap (maps_object n) both.0 ∙ maps_it)) (found_is (is_runner x.pid) procs x there))))

      by_mapping : maps_object n p ≡ true → Any (λ m. (((m.object == n) && not m.shared) ≡ true) × IsInside g.frame.objects m) x.maps → ⊥
      by_mapping also (k, m, lt, at, both) = by_object (any_all (λ o. (o.number ≡ m.object) × (m.first + m.pages ≤ o.pages)) (λ o. (is_of_file g.frame.files o.number ≡ true) ⊎ IsMemoryObject procs o) g.frame.objects both.1 valid.sound.frame.maps.agree)
        where
          by_object : Any (λ o. ((o.number ≡ m.object) × (m.first + m.pages ≤ o.pages)) × ((is_of_file g.frame.files o.number ≡ true) ⊎ IsMemoryObject procs o)) g.frame.objects → ⊥
          by_object (j, o, less, is, facts) = of_object also o (facts.0.0 ∙ eqb-true m.object n (and_parts (m.object == n) (not m.shared) both.0).0) facts.1

      by_test : (b : Bool) → maps_object n p ≡ b → b ≡ false
      by_test false e = refl
      by_test true e = absurd (by_mapping e (any_all (λ m. ((m.object == n) && not m.shared) ≡ true) (IsInside g.frame.objects) x.maps (some_private x.maps n private) (found_all (is_runner x.pid) (λ q. All (IsInside g.frame.objects) q.maps) procs x there valid.sound.frame.maps.inside)))

-- A private mapping that is found shows its object privately.
pub found_privately : (maps : List Mapping) (a : ℕ) (m : Mapping) → mapping_at maps a ≡ Some m → m.shared ≡ false → maps_privately maps m.object ≡ true
found_privately maps a m e own =
    true_any (λ k. (k.object == m.object) && not k.shared) maps (any_weaker (λ k. (k ≡ m) × (has a k ≡ true)) (λ k. ((k.object == m.object) && not k.shared) ≡ true) maps (λ k is. ap (λ (y : Mapping). (y.object == m.object) && not y.shared) is.0 ∙ both m.object (eq-eqb m.object m.object refl) own) (found_is (has a) maps m e))
  where
    both : (k : ℕ) → (k == m.object) ≡ true → m.shared ≡ false → ((k == m.object) && not m.shared) ≡ true
    both k hit still = rw (hit, still) refl

-- What is seen of private mappings is told by the bytes of their objects.
pub private_same : (before after : List (ℕ × List ℕ)) (maps : List Mapping) → ((n : ℕ) → maps_privately maps n ≡ true → bytes_in after n ≡ bytes_in before n) → private_cells (cells_of after maps) ≡ private_cells (cells_of before maps)
unfolding cells_of
private_same before after maps same = fun_ext (λ a. at a (mapping_at maps a) refl)
  where
    by_shared : (a : ℕ) (m : Mapping) (b : Bool) → m.shared ≡ b → mapping_at maps a ≡ Some m → (if b then None else Some (cell_in after a m)) ≡ (if b then None else Some (cell_in before a m))
    by_shared a m true shared e = refl
    by_shared a m false own e =
        ap (λ (bytes : List ℕ). Some (record { byte = slice_index bytes (object_place m a); rights = m.prot; shared = m.shared; object = m.object; place = object_place m a })) (same m.object (found_privately maps a m e own))

    at : (a : ℕ) (o : Option Mapping) → mapping_at maps a ≡ o → private_of (elim o [ None ↦ None | Some m ↦ Some (cell_in after a m) ]) ≡ private_of (elim o [ None ↦ None | Some m ↦ Some (cell_in before a m) ])
    at a None e = refl
    at a (Some m) e = by_shared a m m.shared refl e

-- Where the bytes that another running process maps and p doesn't stay, so does what the other sees of its private mappings.
private_kept : (g : Group) (pid other : ℕ) (p x : Proc) (after : List (ℕ × List ℕ)) → GroupIsValid g → (pid == other) ≡ false → find (is_runner pid) g.frame.procs ≡ Some p → find (is_runner other) g.frame.procs ≡ Some x
    → ((n : ℕ) → maps_object n x ≡ true → maps_object n p ≡ false → bytes_in after n ≡ bytes_in g.memory n) → private_cells (cells_of after x.maps) ≡ private_cells (sight g x)
private_kept g pid other p x after valid differ e there stays =
    let mine : p.pid ≡ pid = found_pid g.frame.procs pid p e in
    let its : x.pid ≡ other = found_pid g.frame.procs other x there in
    let apart : p.pid ≡ x.pid → ⊥ = λ same. (let hit = eq-eqb pid other (sym mine ∙ same ∙ its) in absurd (cc)) in
    let found : find (is_runner p.pid) g.frame.procs ≡ Some p = ap (λ k. find (is_runner k) g.frame.procs) mine ∙ e in
    let found' : find (is_runner x.pid) g.frame.procs ≡ Some x = ap (λ k. find (is_runner k) g.frame.procs) its ∙ there in
    private_same g.memory after x.maps (λ n private. stays n (maps_it g p x n valid found found' apart private) (unmapped_by_others g p x n valid found found' apart private))

-- A call leaves what each other running process sees of its private mappings.
pub others_private_by_calls : (durable : Bool) (g : Group) (pid other number : ℕ) (p x : Proc) → GroupIsValid g → (pid == other) ≡ false → runner g pid ≡ Some p → runner g other ≡ Some x → private_cells (cells_of (after_reply g p (call_in durable g p number)).memory x.maps) ≡ private_cells (sight g x)
unfolding runner
others_private_by_calls durable g pid other number p x valid differ found there =
    private_kept g pid other p x (after_reply g p (call_in durable g p number)).memory valid differ found there (λ n maps none. others_bytes_by_calls durable g pid other number p x n valid differ found there maps none)

-- A step leaves what each other running process sees of its private mappings.
pub others_private : (durable : Bool) (g : Group) (pid other : ℕ) (x : Proc) → GroupIsValid g → (pid == other) ≡ false → runner g other ≡ Some x → private_cells (cells_of (group_step durable g pid).memory x.maps) ≡ private_cells (sight g x)
unfolding runner
others_private durable g pid other x valid differ there = by_runner (find (is_runner pid) g.frame.procs) refl
  where
    by_runner : (o : Option Proc) → find (is_runner pid) g.frame.procs ≡ o → private_cells (cells_of (group_step durable g pid).memory x.maps) ≡ private_cells (sight g x)
    by_runner None e = ap (λ (h : Group). private_cells (cells_of h.memory x.maps)) ((step_is durable g pid).0 e)
    by_runner (Some p) e = private_kept g pid other p x (group_step durable g pid).memory valid differ e there (λ n maps none. others_bytes durable g pid other p x n valid differ e there maps none)
