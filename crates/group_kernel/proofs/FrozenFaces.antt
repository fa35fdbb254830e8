-- Objects are frozen one after another.
use Rattle.std.proofs.Common.{◌≡◌, ◌≢◌, ◌∙◌, ◌⊎◌, inl, inr, ℕ, ◌<◌, ◌≤◌, ◌==◌, ◌+◌, true, false, List, length, get_or, set, Option, Some, None, refl, sym, ap, subst, arith}
use Rattle.std.proofs.lemmas.Bool.{cases_lt, ne_eqb}
use Rattle.std.proofs.lemmas.List.{get_or-set_other, get_or-set_same, get_or_default, length-set}
use Rattle.std.specs.Prelude.{IfSome}
use Rattle.group_defs.specs.declared.frame.ObjectRec.{ObjectRec}
use Rattle.group_laws.proofs.Lists.{rise_at}
use Rattle.group_kernel.specs.FirstFaces.{FreezesFirst, FreezesOrNone, WasFrozen, bytes_of, first_face, tables_by}
use Rattle.group_kernel.specs.Held.{TablesView}
use Rattle.group_kernel.specs.Standing.{AreReady}
use Rattle.shadow_chains.specs.Faces.{FaceView}
use Rattle.shadow_chains.specs.declared.face.Frozen.{Frozen}
use Rattle.tables.specs.Rising.{Rise}

abbrev pub number_at : TablesView → ℕ → ObjectRec → ℕ
number_at t j o = (get_or t.objects j o).number

-- The first objects were frozen, each into its place, and the faces of the others are as they were.
pub record FreezesUpTo (t now : TablesView) (place : ℕ) (frozen : List Frozen) : Type 0 where
  pub same : tables_by bytes_of now ≡ tables_by bytes_of t
  pub size : length frozen ≡ length t.objects
  pub done : (j : ℕ) (o : ObjectRec) (d : Frozen) → j < place → j < length t.objects → IfSome (first_face t (number_at t j o)) (λ _. WasFrozen t now (number_at t j o) (get_or frozen j d))
  pub left : (j : ℕ) (o : ObjectRec) → place ≤ j → j < length t.objects → first_face now (number_at t j o) ≡ first_face t (number_at t j o)

pub none_frozen : (t : TablesView) (frozen : List Frozen) → length frozen ≡ length t.objects → FreezesUpTo t t 0 frozen
none_frozen t frozen size = record { same = refl; size = size; done = λ j o d lt within. absurd (omega (arith, lt)); left = λ j o le within. refl }

abbrev pub placed : List Frozen → ℕ → Option Frozen → List Frozen
placed frozen place None = frozen
placed frozen place (Some f) = set frozen place f

placed_size : (frozen : List Frozen) (place : ℕ) (r : Option Frozen) → length (placed frozen place r) ≡ length frozen
placed_size frozen place None = refl
placed_size frozen place (Some f) = length-set frozen place f

placed_other : (frozen : List Frozen) (place j : ℕ) (r : Option Frozen) (d : Frozen) → j ≢ place → get_or (placed frozen place r) j d ≡ get_or frozen j d
placed_other frozen place j None d apart = refl
placed_other frozen place j (Some f) d apart = get_or-set_other frozen place j f d apart

carried : {A B : Type 0} (x : Option FaceView) → (A → B) → IfSome x (λ _. A) → IfSome x (λ _. B)
carried None f a = a
carried (Some x) f a = f a

module _ (t now new : TablesView) (place : ℕ) (frozen : List Frozen) (o : ObjectRec) (r : Option Frozen) (once : Rise (λ (x : ObjectRec). x.number) t.objects) (before : FreezesUpTo t now place frozen) (lt : place < length t.objects)
    (here : o ≡ get_or t.objects place o) (freezes : FreezesFirst now new o.number r) where
  its_number : (d : ObjectRec) → number_at t place d ≡ o.number
  its_number d = ap (λ (x : ObjectRec). x.number) (get_or_default t.objects place d o lt ∙ sym here)

  others : (j : ℕ) (d : ObjectRec) → j ≢ place → j < length t.objects → (o.number == number_at t j d) ≡ false
  others j d apart within = ne_eqb o.number (number_at t j d) (by_order (cases_lt j place))
    where
      by_order : (j < place) ⊎ (place ≤ j) → o.number ≢ number_at t j d
      by_order (inl below) same = omega (arith, same, its_number d, rise_at (λ (x : ObjectRec). x.number) t.objects j place d once below lt)
      by_order (inr above) same =
          let further : place < j = by_next (cases_lt place j) in
          omega (arith, same, its_number d, rise_at (λ (x : ObjectRec). x.number) t.objects place j d once further within)
        where
          by_next : (place < j) ⊎ (j ≤ place) → place < j
          by_next (inl less) = less
          by_next (inr not_less) = absurd (apart (omega (arith, above, not_less)))

  stays : (j : ℕ) (d : ObjectRec) → j ≢ place → j < length t.objects → first_face new (number_at t j d) ≡ first_face now (number_at t j d)
  stays j d apart within = freezes.others (number_at t j d) (others j d apart within)

  still : (j : ℕ) (d : ObjectRec) (f : Frozen) → j < place → j < length t.objects → WasFrozen t now (number_at t j d) (get_or frozen j f) → WasFrozen t new (number_at t j d) (get_or (placed frozen place r) j f)
  still j d f less within was =
      let apart : j ≢ place = λ e. omega (arith, e, less) in
      subst (λ (x : Frozen). WasFrozen t new (number_at t j d) x) (sym (placed_other frozen place j r f apart)) (record { old = was.old; old_is = was.old_is; now = was.now; now_is = stays j d apart within ∙ was.now_is; freezes = was.freezes })

  -- the object at the place itself
  itself : (x : Option Frozen) (d : ObjectRec) (f : Frozen) → FreezesOrNone now new o.number x → IfSome (first_face t (number_at t place d)) (λ _. WasFrozen t new (number_at t place d) (get_or (placed frozen place x) place f))
  itself None d f none =
      let gone : None ≡ first_face t (number_at t place d) = sym (sym (before.left place d (omega arith) lt) ∙ ap (first_face now) (its_number d) ∙ none) in
      subst (λ (y : Option FaceView). IfSome y (λ _. WasFrozen t new (number_at t place d) (get_or frozen place f))) gone tt
  itself (Some x) d f was =
      let first : first_face t (number_at t place d) ≡ Some was.old = sym (before.left place d (omega arith) lt) ∙ ap (first_face now) (its_number d) ∙ was.old_is in
      let there : x ≡ get_or (set frozen place x) place f = sym (get_or-set_same frozen place x f (omega (arith, lt, before.size))) in
      let mine : WasFrozen t new o.number x = record { old = was.old; old_is = ap (first_face t) (sym (its_number d)) ∙ first; now = was.now; now_is = was.now_is; freezes = was.freezes } in
      let told : WasFrozen t new (number_at t place d) (get_or (set frozen place x) place f) =
      subst (λ (y : Frozen). WasFrozen t new (number_at t place d) y) there (subst (λ (n : ℕ). WasFrozen t new n x) (sym (its_number d)) mine) in
      subst (λ (y : Option FaceView). IfSome y (λ _. WasFrozen t new (number_at t place d) (get_or (set frozen place x) place f))) (sym first) told

  pub freezes_next : FreezesUpTo t new (place + 1) (placed frozen place r)
  freezes_next = record {
    same = freezes.same ∙ before.same;
    size = placed_size frozen place r ∙ before.size;
    done = λ j d f less within. by_place j d f less within (cases_lt j place);
    left = λ j d le within. let apart : j ≢ place = λ e. omega (arith, e, le) in
        stays j d apart within ∙ before.left j d (omega (arith, le)) within;
  }
    where
      by_place : (j : ℕ) (d : ObjectRec) (f : Frozen) → j < place + 1 → j < length t.objects → (j < place) ⊎ (place ≤ j) → IfSome (first_face t (number_at t j d)) (λ _. WasFrozen t new (number_at t j d) (get_or (placed frozen place r) j f))
      by_place j d f less within (inl below) = carried (first_face t (number_at t j d)) (still j d f below within) (before.done j d f below within)
      by_place j d f less within (inr above) =
          let same : place ≡ j = omega (arith, less, above) in
          subst (λ (k : ℕ). IfSome (first_face t (number_at t k d)) (λ _. WasFrozen t new (number_at t k d) (get_or (placed frozen place r) k f))) same (itself r d f freezes.frozen)

-- the next object's face is ready
pub next_ready : (t now : TablesView) (place : ℕ) (frozen : List Frozen) (o : ObjectRec) → FreezesUpTo t now place frozen → AreReady t → place < length t.objects → o ≡ get_or t.objects place o → IfSome (first_face now o.number) (λ f. f.prepared ≡ true)
next_ready t now place frozen o before ready lt here =
    let number : number_at t place o ≡ o.number = ap (λ (x : ObjectRec). x.number) (sym here) in
    subst (λ (x : Option FaceView). IfSome x (λ f. f.prepared ≡ true)) (sym (before.left place o (omega arith) lt) ∙ ap (first_face now) number) (ready place o lt)
