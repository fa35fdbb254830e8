-- What a valid group's processes are to the tables that are made of them.
use Rattle.std.proofs.Common.{◌≡◌, ℕ, ◌+◌, ◌*◌, ◌<◌, ◌≤◌, ◌==◌, ◌&&◌, Bool, true, false, not, List, [], ◌∷◌, length, get_or, Some, refl, sym, ap, ◌∙◌, arith, subst}
use Rattle.std.proofs.lemmas.Bool.{and_parts, eq-eqb, false≢true}
use Rattle.std.specs.Prelude.{All, Any}
use Rattle.std.specs.List.{AllZip, list_any}
use Rattle.address_maps.specs.Mappings.{AreMappings, IsMapping}
use Rattle.address_maps.specs.declared.maps.Mapping.{Mapping}
use Rattle.descriptors.specs.Descriptors.{AreDescriptors, AreSmall}
use Rattle.descriptors.specs.Opens.{descriptions, without_owners}
use Rattle.descriptors.specs.declared.opens.Open.{Open}
use Rattle.group_defs.specs.Cells.{bytes_in}
use Rattle.group_defs.specs.Fork.{maps_privately}
use Rattle.group_defs.specs.Group.{Group, is_running, runner}
use Rattle.group_defs.specs.Mappings.{IsInside, IsUserMapping}
use Rattle.group_defs.specs.Objects.{maps_object}
use Rattle.group_defs.specs.Order.{OwnListsRise}
use Rattle.group_defs.specs.Sizes.{ProcFits}
use Rattle.group_defs.specs.Valid.{GroupIsValid}
use Rattle.group_defs.specs.declared.frame.ObjectRec.{ObjectRec}
use Rattle.group_defs.specs.declared.frame.Proc.{Proc}
use Rattle.group_laws.proofs.Inside.{object_bytes}
use Rattle.group_laws.proofs.Lists.{any_all, any_at, any_true, any_weaker, rise_at, true_any}
use Rattle.group_laws.proofs.ObjectBytes.{kept_bytes}
use Rattle.group_parts.proofs.Apart.{valid_apart}
use Rattle.group_parts.proofs.Runners.{runner_found}
use Rattle.group_parts.specs.Parts.{IsApart}
use Rattle.proc_lease.specs.Private.{PrivateFits, memory_of, views_of}
use Rattle.shadow_chains.specs.declared.entry.Entry.{Entry}
use Rattle.tables.specs.Rising.{Rise}
use Rattle.group_kernel.specs.Starting.{HasFaces, HasTables, IsFirstFace, TakeApart, faces_that, takes_face}
use Rattle.group_kernel.proofs.FacesOfMemory.{memory_seen}
use Rattle.group_kernel.proofs.PublicMemory.{Memory}

-- ---- each takes its own faces
runs_at : (g : Group) → GroupIsValid g → (k : ℕ) (d : Proc) → k < length g.frame.procs → is_running (get_or g.frame.procs k d) ≡ true → runner g (get_or g.frame.procs k d).pid ≡ Some (get_or g.frame.procs k d)
unfolding runner
runs_at g valid k d lt runs =
    let p = get_or g.frame.procs k d in
    runner_found g.frame.procs p valid.sound.frame.procs.rise (any_at (λ q. q ≡ p) g.frame.procs k d lt refl) runs

mapped : (maps : List Mapping) (number : ℕ) → maps_privately maps number ≡ true → list_any (λ m. m.object == number) maps ≡ true
mapped maps number is =
    true_any (λ (m : Mapping). m.object == number) maps (any_weaker (λ (m : Mapping). ((m.object == number) && not m.shared) ≡ true) (λ m. (m.object == number) ≡ true) maps
    (λ m both. (and_parts (m.object == number) (not m.shared) both).0) (any_true (λ (m : Mapping). (m.object == number) && not m.shared) maps is))

pub valid_take_apart : (g : Group) (procs : List Proc) → GroupIsValid g → procs ≡ g.frame.procs → TakeApart procs
unfolding IsApart maps_object
valid_take_apart g procs valid same = rw same (λ i j d lt end number takes. by_test i j d lt end number takes (takes_face (get_or g.frame.procs j d) number) refl)
  where
    by_test : (i j : ℕ) (d : Proc) → i < j → j < length g.frame.procs → (number : ℕ) → takes_face (get_or g.frame.procs i d) number ≡ true → (t : Bool) → takes_face (get_or g.frame.procs j d) number ≡ t
        → takes_face (get_or g.frame.procs j d) number ≡ false
    by_test i j d lt end number takes false is = is
    by_test i j d lt end number takes true is =
        let p = get_or g.frame.procs i d in
        let q = get_or g.frame.procs j d in
        let mine = and_parts (is_running p) (maps_privately p.maps number) takes in
        let its = and_parts (is_running q) (maps_privately q.maps number) is in
        let below : p.pid < q.pid = rise_at (λ (x : Proc). x.pid) g.frame.procs i j d valid.sound.frame.procs.rise lt end in
        let differ : (p.pid == q.pid) ≡ false = grind (arith, below) in
        let none = valid_apart g valid p.pid q.pid p q differ (runs_at g valid i d (omega (arith, lt, end)) mine.0) (runs_at g valid j d end its.0) number (mapped p.maps number mine.1) in
        absurd (false≢true (sym none ∙ its.1))

-- ---- their lists
pub descriptions_without : (opens : List Open) → descriptions (without_owners opens) ≡ opens
descriptions_without [] = refl
descriptions_without (o ∷ os) = ap (λ (l : List Open). o ∷ l) (descriptions_without os)

inside_fits : (objects : List ObjectRec) (m : Mapping) → IsInside objects m → All (λ o. o.pages ≤ 16384) objects → m.first + m.pages ≤ 16384
unfolding IsInside
inside_fits objects m inside sizes = of_any (any_all (λ (o : ObjectRec). (o.number ≡ m.object) × (m.first + m.pages ≤ o.pages)) (λ o. o.pages ≤ 16384) objects inside sizes)
  where
    of_any : Any (λ (o : ObjectRec). ((o.number ≡ m.object) × (m.first + m.pages ≤ o.pages)) × (o.pages ≤ 16384)) objects → m.first + m.pages ≤ 16384
    of_any (k, o, lt, is, both) = let end = both.0.1 in let most = both.1 in omega (arith, end, most)

are_mappings : (g : Group) → GroupIsValid g → (k : ℕ) (d : Proc) → k < length g.frame.procs → AreMappings (get_or g.frame.procs k d).maps
unfolding IsUserMapping IsMapping ProcFits
are_mappings g valid k d lt = record {
  each = λ i m less.
      let placed = valid.sound.frame.procs.placed k d lt i m less in
      (placed.0, placed.1, placed.2, placed.3, inside_fits g.frame.objects (get_or (get_or g.frame.procs k d).maps i m) (valid.sound.frame.maps.inside k d lt i m less) valid.sound.frame.objects.sizes);
  apart = valid.sound.frame.procs.apart k d lt;
  count = (valid.sound.frame.procs.fits k d lt).1;
}

are_descriptors : (g : Group) → GroupIsValid g → (k : ℕ) (d : Proc) → k < length g.frame.procs → AreDescriptors (get_or g.frame.procs k d).fds
unfolding ProcFits OwnListsRise AreSmall
are_descriptors g valid k d lt = record { rise = (valid.sound.frame.procs.own k d lt).1; small = (valid.sound.frame.procs.fits k d lt).2 }

pub valid_tables : (g : Group) (procs : List Proc) (opens : List Open) → GroupIsValid g → procs ≡ g.frame.procs → opens ≡ g.frame.opens → All (HasTables opens) procs
valid_tables g procs opens valid same there = rw (same, there) (λ k d lt. record {
  maps = are_mappings g valid k d lt;
  fds = are_descriptors g valid k d lt;
  named = valid.sound.frame.names.fds k d lt;
})

-- ---- what they map privately
maps_at : (maps : List Mapping) (k : ℕ) (d : Mapping) → k < length maps → (get_or maps k d).shared ≡ false → maps_privately maps (get_or maps k d).object ≡ true
maps_at maps k d lt private =
    let m = get_or maps k d in
    true_any (λ (x : Mapping). (x.object == m.object) && not x.shared) maps
    (any_at (λ (x : Mapping). ((x.object == m.object) && not x.shared) ≡ true) maps k d lt (rw (eq-eqb m.object m.object refl, private) refl))

inside_bytes : (g : Group) (m : Mapping) → GroupIsValid g → IsInside g.frame.objects m → 4096 * (m.first + m.pages) ≤ length (bytes_in g.memory m.object)
unfolding IsInside Rise
inside_bytes g m valid (k, o, lt, at, holds) =
    let size : length (bytes_in g.memory m.object) ≡ 4096 * (get_or g.frame.objects k o).pages = object_bytes g.frame.objects g.memory m.object k o valid.sound.memory.bytes valid.sound.frame.objects.rise lt (ap (λ (x : ObjectRec). x.number) at ∙ holds.0) in
    let pages : (get_or g.frame.objects k o).pages ≡ o.pages = ap (λ (x : ObjectRec). x.pages) at in
    let most = holds.1 in
    omega (arith, size, pages, most)

pub valid_faces : (epoch : ℕ) (g : Group) (procs : List Proc) (all : List Entry) → GroupIsValid g → procs ≡ g.frame.procs → AllZip (IsFirstFace epoch) g.memory all → All (HasFaces all) procs
valid_faces epoch g procs all valid same firsts = rw same (λ k d lt runs. fits k d lt)
  where
    private : (k : ℕ) (d : Proc) → k < length g.frame.procs → (i : ℕ) (m : Mapping) → i < length (get_or g.frame.procs k d).maps → (get_or (get_or g.frame.procs k d).maps i m).shared ≡ false
        → 4096 * ((get_or (get_or g.frame.procs k d).maps i m).first + (get_or (get_or g.frame.procs k d).maps i m).pages)
        ≤ length (bytes_in (memory_of (views_of (faces_that (maps_privately (get_or g.frame.procs k d).maps) all))) (get_or (get_or g.frame.procs k d).maps i m).object)
    private k d lt i m less own =
        let maps = (get_or g.frame.procs k d).maps in
        let n = (get_or maps i m).object in
        let bytes : bytes_in (memory_of (views_of (faces_that (maps_privately maps) all))) n ≡ bytes_in g.memory n =
        ap (λ (l : Memory). bytes_in l n) (memory_seen epoch (maps_privately maps) g.memory all firsts) ∙ kept_bytes (maps_privately maps) n g.memory (maps_at maps i m less own) in
        subst (λ (l : List ℕ). 4096 * ((get_or maps i m).first + (get_or maps i m).pages) ≤ length l) (sym bytes) (inside_bytes g (get_or maps i m) valid (valid.sound.frame.maps.inside k d lt i m less))

    fits : (k : ℕ) (d : Proc) → k < length g.frame.procs → PrivateFits (views_of (faces_that (maps_privately (get_or g.frame.procs k d).maps) all)) (get_or g.frame.procs k d).maps
    fits k d lt = record {
      each = (are_mappings g valid k d lt).each;
      apart = (are_mappings g valid k d lt).apart;
      inside = private k d lt;
    }
