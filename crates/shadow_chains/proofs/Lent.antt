-- An entry that is lent, and what it leaves in its place.
use Rattle.std.proofs.Common.{◌≡◌, ◌∙◌, ◌⊎◌, inl, ℕ, List, get_or, set, Some, ap, sym}
use base.Fml.{GName}
use Rattle.std.specs.Option.{option_map}
use Rattle.tables.specs.Rising.{Rise, IsPlaceOf, replaced}
use Rattle.tables.specs.Rows.{Rows}
use Rattle.tables.proofs.Numbers.{changed_at}
use Rattle.shadow_chains.specs.declared.entry.Entry.{Entry}
use Rattle.shadow_chains.specs.Faces.{FaceView}
use Rattle.shadow_chains.specs.Entries.{number_of, entry_with, face_of}

module _ (entries : List Entry) (number place : ℕ) (x : Entry) (here : IsPlaceOf number_of entries number place) (is : x ≡ get_or entries place x) where
  pub number_at : x.number ≡ number
  number_at = ap (λ (e : Entry). e.number) is ∙ here.has x

  pub face_at : Some x.face ≡ face_of entries number
  face_at = sym (ap (option_map (λ (e : Entry). e.face)) (here.entry x ∙ ap Some (sym is)))

pub lent_face : (entries : List Entry) → Rise number_of entries → (number place : ℕ) (x : Entry) → IsPlaceOf number_of entries number place → x ≡ get_or entries place x → (w : FaceView) → set entries place (record x { face = w }) ≡ replaced number_of entries (entry_with number w)
lent_face entries rise number place x here is w =
    ap (λ (k : ℕ). set entries place (entry_with k w)) (number_at entries number place x here is) ∙ changed_at number_of entries rise number place (λ _. entry_with number w) x here

pub lent_same : (name : GName) (f h : FaceView → Rows Entry) → ((w : FaceView) → f w ≡ h w) → ◌≡◌ {A = (GName × (FaceView → Rows Entry)) ⊎ Rows Entry} (inl (name, f)) (inl (name, h))
lent_same name f h same = λ i. inl (name, λ w. same w i)
