-- Faces are made ready one after another.
use Rattle.std.proofs.Common.{◌≡◌, ◌∙◌, ◌⊎◌, inl, inr, ℕ, ◌<◌, ◌≤◌, ◌==◌, ◌+◌, Bool, true, false, List, length, get_or, Option, OnOk, Ok, Err, Result, refl, sym, ap, subst, arith, is_err}
use Rattle.std.proofs.lemmas.Bool.{cases_lt, eq-eqb}
use Rattle.std.proofs.lemmas.List.{get_or_default}
use Rattle.std.specs.Prelude.{IfSome}
use Rattle.group_defs.specs.declared.frame.ObjectRec.{ObjectRec}
use Rattle.group_kernel.specs.FirstFaces.{PreparesFirst, TablesBy, first_face, tables_by}
use Rattle.group_kernel.specs.Held.{FacesStandOver, TablesView, kept_in}
use Rattle.group_kernel.specs.Standing.{AreReady, OwnersCounted}
use Rattle.group_kernel.proofs.TablesTold.{bytes_same, faces_same, kept_same, owners_same}
use Rattle.proc_lease.specs.Private.{ObjectView, view_of}
use Rattle.shadow_chains.specs.Faces.{FaceView}
use Rattle.shadow_chains.specs.declared.entry.Entry.{Entry}

pub objects_same : {V : Type 0} (v : Entry → V) (t new : TablesView) → tables_by v new ≡ tables_by v t → new.objects ≡ t.objects
unfolding tables_by
objects_same {V} v t new same = ap (λ (s : TablesBy V). s.objects) same

-- the first objects' faces are ready, and all shows as it did
pub record PreparesUpTo (t now : TablesView) (place : ℕ) : Type 0 where
  pub same : tables_by view_of now ≡ tables_by view_of t
  pub ready : (j : ℕ) (d : ObjectRec) → j < place → j < length t.objects → IfSome (first_face now (get_or t.objects j d).number) (λ f. f.prepared ≡ true)

pub none_prepared : (t : TablesView) → PreparesUpTo t t 0
none_prepared t = record { same = refl; ready = λ j d lt within. absurd (omega (arith, lt)) }

pub ok_of : {T E : Type 0} (r : Result T E) (P : Type 0) (b : Bool) → OnOk r P → b ≡ is_err r → b ≡ false → P
ok_of (Ok x) P b ok is fails = ok
ok_of (Err e) P b ok is fails = absurd cc

module _ {T E : Type 0} (t now new : TablesView) (place : ℕ) (o : ObjectRec) (r : Result T E) (before : PreparesUpTo t now place) (lt : place < length now.objects) (here : o ≡ get_or now.objects place o) (prepares : PreparesFirst now new o.number r) where
  pub same_so_far : tables_by view_of new ≡ tables_by view_of t
  same_so_far = prepares.same ∙ before.same

  pub prepares_next : (b : Bool) → b ≡ is_err r → b ≡ false → PreparesUpTo t new (place + 1)
  prepares_next b is fails = record { same = same_so_far; ready = λ j d less within. by_number j d less within (o.number == (get_or t.objects j d).number) refl }
    where
      objects : now.objects ≡ t.objects
      objects = objects_same view_of t now before.same

      its : IfSome (first_face new o.number) (λ f. f.prepared ≡ true)
      its = ok_of r (IfSome (first_face new o.number) (λ f. f.prepared ≡ true)) b prepares.ok is fails

      at_place : (j : ℕ) (d : ObjectRec) → j < length t.objects → j ≡ place → (o.number == (get_or t.objects j d).number) ≡ true
      at_place j d within e =
          let there : get_or t.objects j d ≡ o = ap (λ (k : ℕ). get_or t.objects k d) e ∙ ap (λ (l : List ObjectRec). get_or l place d) (sym objects) ∙ get_or_default now.objects place d o lt ∙ sym here in
          eq-eqb o.number (get_or t.objects j d).number (sym (ap (λ (x : ObjectRec). x.number) there))

      by_number : (j : ℕ) (d : ObjectRec) → j < place + 1 → j < length t.objects → (same : Bool) → (o.number == (get_or t.objects j d).number) ≡ same → IfSome (first_face new (get_or t.objects j d).number) (λ f. f.prepared ≡ true)
      by_number j d less within true e =
          let same : o.number ≡ (get_or t.objects j d).number = grind (arith, e) in
          subst (λ (n : ℕ). IfSome (first_face new n) (λ f. f.prepared ≡ true)) same its
      by_number j d less within false e = by_place (cases_lt j place)
        where
          by_place : (j < place) ⊎ (place ≤ j) → IfSome (first_face new (get_or t.objects j d).number) (λ f. f.prepared ≡ true)
          by_place (inl below) = subst (λ (x : Option FaceView). IfSome x (λ f. f.prepared ≡ true)) (sym (prepares.others (get_or t.objects j d).number e)) (before.ready j d below within)
          by_place (inr above) = absurd (let hit = at_place j d within (omega (arith, less, above)) in cc)

-- what a caller is told of it
pub kept_so : (t new : TablesView) → tables_by view_of new ≡ tables_by view_of t → kept_in new ≡ kept_in t
kept_so t new same = kept_same t new (bytes_same t new same)

pub all_ready : (t now : TablesView) (place : ℕ) → PreparesUpTo t now place → length now.objects ≤ place → AreReady now
all_ready t now place prepares past k d lt =
    let objects = objects_same view_of t now prepares.same in
    let within : k < length t.objects = subst (λ (l : List ObjectRec). k < length l) objects lt in
    subst (λ (l : List ObjectRec). IfSome (first_face now (get_or l k d).number) (λ f. f.prepared ≡ true)) (sym objects) (prepares.ready k d (omega (arith, lt, past)) within)
