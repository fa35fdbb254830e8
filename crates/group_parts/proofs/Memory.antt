-- Those objects of a table whose numbers pass a test, after stores, and after objects come and go.
use Rattle.std.proofs.Common.{Bool, List, None, Option, Some, [], ap, false, refl, sym, true, ℕ, ◌++◌, ◌+◌, ◌==◌, ◌∙◌, ◌∷◌, ◌≡◌, ◌⊎◌, inl, inr}
use Rattle.std.proofs.lemmas.Bool.{cases_Bool, eq-eqb, eqb-true}
use Rattle.std.proofs.lemmas.List.{append-nil}
use Rattle.std.proofs.lemmas.List.Elements.{filter-append}
use Rattle.std.specs.List.{list_any}
use Rattle.std.specs.Prelude.{All, filter, if◌then◌else◌, slice_set}
use Rattle.address_maps.specs.Mappings.{has, mapping_at}
use Rattle.address_maps.specs.declared.maps.Mapping.{Mapping}
use Rattle.group_defs.specs.Cells.{object_place, with_byte_at, with_stored, with_writes}
use Rattle.group_laws.proofs.Lists.{any_weaker, filter_none, found_is, true_any}
use Rattle.rv64_isa.specs.Memory.{Write}
use Rattle.rv64_isa.specs.Numbers.{wrapped}
use Rattle.tables.specs.Lists.{on_first}

abbrev pub Memory : Type 0
Memory = List (ℕ × List ℕ)

abbrev pub kept_in : (ℕ → Bool) → Memory → Memory
kept_in keep memory = filter (λ o. keep o.0) memory

-- One object is changed, and keeps its number.
module _ (keep : ℕ → Bool) (object : ℕ) (f : ℕ × List ℕ → ℕ × List ℕ) (numbered : (o : ℕ × List ℕ) → (o.0 == object) ≡ true → (f o).0 ≡ o.0) where
  abbrev changed : Memory → Memory
  changed memory = on_first {A = ℕ × List ℕ} (λ o. o.0 == object) f memory

  -- among those that are not kept
  pub missed_change : (memory : Memory) → keep object ≡ false → changed (kept_in keep memory) ≡ kept_in keep memory
  unfolding on_first
  missed_change [] gone = refl
  missed_change (o ∷ os) gone = by_keep (keep o.0) refl (missed_change os gone)
    where
      by_number : (u : Bool) → (o.0 == object) ≡ u → keep o.0 ≡ true → changed (kept_in keep os) ≡ kept_in keep os → (if u then f o ∷ kept_in keep os else o ∷ changed (kept_in keep os)) ≡ o ∷ kept_in keep os
      by_number true hit stays ih = let over : keep object ≡ true = ap keep (sym (eqb-true o.0 object hit)) ∙ stays in absurd (cc)
      by_number false miss stays ih = ap (λ (l : Memory). o ∷ l) ih

      by_keep : (t : Bool) → keep o.0 ≡ t → changed (kept_in keep os) ≡ kept_in keep os → changed (if t then o ∷ kept_in keep os else kept_in keep os) ≡ (if t then o ∷ kept_in keep os else kept_in keep os)
      by_keep false goes ih = ih
      by_keep true stays ih = by_number (o.0 == object) refl stays ih

  pub kept_change : (memory : Memory) → kept_in keep (changed memory) ≡ changed (kept_in keep memory)
  unfolding on_first
  kept_change [] = refl
  kept_change (o ∷ os) = by_both (keep o.0) (o.0 == object) refl refl (kept_change os)
    where
      by_both : (t u : Bool) → keep o.0 ≡ t → (o.0 == object) ≡ u → kept_in keep (changed os) ≡ changed (kept_in keep os) → kept_in keep (if u then f o ∷ os else o ∷ changed os) ≡ changed (if t then o ∷ kept_in keep os else kept_in keep os)
      by_both true true stays hit ih = ap (λ (t : Bool). if t then f o ∷ kept_in keep os else kept_in keep os) (ap keep (numbered o hit) ∙ stays) ∙ sym (ap (λ (u : Bool). if u then f o ∷ kept_in keep os else o ∷ changed (kept_in keep os)) hit)
      by_both true false stays miss ih =
          ap (λ (t : Bool). if t then o ∷ kept_in keep (changed os) else kept_in keep (changed os)) stays ∙ ap (λ (l : Memory). o ∷ l) ih
          ∙ sym (ap (λ (u : Bool). if u then f o ∷ kept_in keep os else o ∷ changed (kept_in keep os)) miss)
      by_both false true goes hit ih =
          ap (λ (t : Bool). if t then f o ∷ kept_in keep os else kept_in keep os) (ap keep (numbered o hit) ∙ goes)
          ∙ sym (missed_change os (ap keep (sym (eqb-true o.0 object hit)) ∙ goes))
      by_both false false goes miss ih = ap (λ (t : Bool). if t then o ∷ kept_in keep (changed os) else kept_in keep (changed os)) goes ∙ ih

  pub kept_without : (memory : Memory) → keep object ≡ false → kept_in keep (changed memory) ≡ kept_in keep memory
  kept_without memory gone = kept_change memory ∙ missed_change memory gone

-- Stores.
stored_number : (object place b : ℕ) (o : ℕ × List ℕ) → (o.0 == object) ≡ true → object ≡ o.0
stored_number object place b o hit = sym (eqb-true o.0 object hit)

kept_at : (keep : ℕ → Bool) (memory : Memory) (o : Option Mapping) (a b : ℕ) → kept_in keep (with_byte_at memory o a b) ≡ with_byte_at (kept_in keep memory) o a b
kept_at keep memory None a b = refl
kept_at keep memory (Some m) a b = kept_change keep m.object (λ o. (m.object, slice_set o.1 (object_place m a) b)) (stored_number m.object (object_place m a) b) memory

kept_stored : (keep : ℕ → Bool) (memory : Memory) (maps : List Mapping) (a : ℕ) (bytes : List ℕ) → kept_in keep (with_stored memory maps a bytes) ≡ with_stored (kept_in keep memory) maps a bytes
unfolding with_stored
kept_stored keep memory maps a [] = refl
kept_stored keep memory maps a (b ∷ bs) =
    kept_stored keep (with_byte_at memory (mapping_at maps (wrapped a)) (wrapped a) b) maps (a + 1) bs
    ∙ ap (λ (m : Memory). with_stored m maps (a + 1) bs) (kept_at keep memory (mapping_at maps (wrapped a)) (wrapped a) b)

-- what is stored to all objects is stored to those that are kept
pub kept_writes : (keep : ℕ → Bool) (memory : Memory) (maps : List Mapping) (writes : List Write) → kept_in keep (with_writes memory maps writes) ≡ with_writes (kept_in keep memory) maps writes
unfolding with_writes
kept_writes keep memory maps [] = refl
kept_writes keep memory maps (w ∷ ws) =
    kept_writes keep (with_stored memory maps w.address w.bytes) maps ws ∙ ap (λ (m : Memory). with_writes m maps ws) (kept_stored keep memory maps w.address w.bytes)

-- Each address that bytes go to lies in a mapping whose object passes a test, where it lies in one.
abbrev pub EachAt : (ℕ → Bool) → List Mapping → ℕ → List ℕ → Type 0
EachAt test maps a [] = Unit {0}
EachAt test maps a (b ∷ bs) = ((m : Mapping) → mapping_at maps (wrapped a) ≡ Some m → test m.object ≡ true) × EachAt test maps (a + 1) bs

abbrev pub EachOf : (ℕ → Bool) → List Mapping → List Write → Type 0
EachOf test maps [] = Unit {0}
EachOf test maps (w ∷ ws) = EachAt test maps w.address w.bytes × EachOf test maps ws

-- No object that passes it is kept.
module _ (keep test : ℕ → Bool) (apart : (n : ℕ) → test n ≡ true → keep n ≡ false) where
  missed_at : (memory : Memory) (o : Option Mapping) (a b : ℕ) → ((m : Mapping) → o ≡ Some m → test m.object ≡ true) → kept_in keep (with_byte_at memory o a b) ≡ kept_in keep memory
  missed_at memory None a b here = refl
  missed_at memory (Some m) a b here = kept_without keep m.object (λ o. (m.object, slice_set o.1 (object_place m a) b)) (stored_number m.object (object_place m a) b) memory (apart m.object (here m refl))

  missed_stored : (memory : Memory) (maps : List Mapping) (a : ℕ) (bytes : List ℕ) → EachAt test maps a bytes → kept_in keep (with_stored memory maps a bytes) ≡ kept_in keep memory
  unfolding with_stored
  missed_stored memory maps a [] each = refl
  missed_stored memory maps a (b ∷ bs) each =
      missed_stored (with_byte_at memory (mapping_at maps (wrapped a)) (wrapped a) b) maps (a + 1) bs each.1
      ∙ missed_at memory (mapping_at maps (wrapped a)) (wrapped a) b each.0

  pub missed_writes : (memory : Memory) (maps : List Mapping) (writes : List Write) → EachOf test maps writes → kept_in keep (with_writes memory maps writes) ≡ kept_in keep memory
  unfolding with_writes
  missed_writes memory maps [] each = refl
  missed_writes memory maps (w ∷ ws) each =
      missed_writes (with_stored memory maps w.address w.bytes) maps ws each.1 ∙ missed_stored memory maps w.address w.bytes each.0

-- Every store goes to what its process maps.
found_maps : (maps : List Mapping) (a : ℕ) (m : Mapping) → mapping_at maps a ≡ Some m → list_any (λ x. x.object == m.object) maps ≡ true
found_maps maps a m e = true_any (λ x. x.object == m.object) maps (any_weaker (λ x. (x ≡ m) × (has a x ≡ true)) (λ x. (x.object == m.object) ≡ true) maps (λ x is. ap (λ (y : Mapping). y.object == m.object) is.0 ∙ eq-eqb m.object m.object refl) (found_is (has a) maps m e))

mapped_at : (maps : List Mapping) (a : ℕ) (bytes : List ℕ) → EachAt (λ n. list_any (λ m. m.object == n) maps) maps a bytes
mapped_at maps a [] = tt
mapped_at maps a (b ∷ bs) = (found_maps maps (wrapped a), mapped_at maps (a + 1) bs)

pub all_mapped : (maps : List Mapping) (writes : List Write) → EachOf (λ n. list_any (λ m. m.object == n) maps) maps writes
all_mapped maps [] = tt
all_mapped maps (w ∷ ws) = (mapped_at maps w.address w.bytes, all_mapped maps ws)

-- Further objects, of which none is kept.
pub kept_further : (keep : ℕ → Bool) (memory more : Memory) → All (λ o. keep o.0 ≡ false) more → kept_in keep (memory ++ more) ≡ kept_in keep memory
kept_further keep memory more none =
    filter-append (λ (o : ℕ × List ℕ). keep o.0) memory more ∙ ap (λ (l : Memory). kept_in keep memory ++ l) (filter_none (λ (o : ℕ × List ℕ). keep o.0) more none) ∙ append-nil (kept_in keep memory)

-- Objects go, and all that are kept stay.
pub kept_twice : (keep stays : ℕ → Bool) (memory : Memory) → ((n : ℕ) → keep n ≡ true → stays n ≡ true) → kept_in keep (kept_in stays memory) ≡ kept_in keep memory
kept_twice keep stays [] weaker = refl
kept_twice keep stays (o ∷ os) weaker = by_both (cases_Bool (keep o.0)) (cases_Bool (stays o.0)) (kept_twice keep stays os weaker)
  where
    by_both : (keep o.0 ≡ true) ⊎ (keep o.0 ≡ false) → (stays o.0 ≡ true) ⊎ (stays o.0 ≡ false) → kept_in keep (kept_in stays os) ≡ kept_in keep os → kept_in keep (kept_in stays (o ∷ os)) ≡ kept_in keep (o ∷ os)
    by_both (inl hit) (inl here) ih = rw here (rw hit (ap (λ (l : Memory). o ∷ l) ih))
    by_both (inl hit) (inr gone) ih = let over = weaker o.0 hit in absurd (cc)
    by_both (inr miss) (inl here) ih = rw here (rw miss ih)
    by_both (inr miss) (inr gone) ih = rw gone (rw miss ih)
