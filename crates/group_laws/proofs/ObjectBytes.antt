-- What becomes of the bytes of one object where others are stored to, come and go.
use Rattle.std.proofs.Common.{Bool, List, None, Option, Some, [], ap, arith, false, inl, inr, refl, sym, true, ℕ, ◌++◌, ◌+◌, ◌==◌, ◌∙◌, ◌∷◌, ◌≡◌, ◌⊎◌}
use Rattle.std.proofs.lemmas.Bool.{eqb-true}
use Rattle.std.proofs.lemmas.List.Elements.{All-head, All-tail}
use Rattle.std.specs.List.{list_any}
use Rattle.std.specs.Prelude.{All, filter, find, if◌then◌else◌}
use Rattle.address_maps.specs.Mappings.{has, mapping_at}
use Rattle.address_maps.specs.declared.maps.Mapping.{Mapping}
use Rattle.group_defs.specs.Calls.{stores}
use Rattle.group_defs.specs.Cells.{bytes_in, object_place, with_byte_at, with_stored, with_writes}
use Rattle.group_laws.proofs.Lists.{any_weaker, found_is, true_any}
use Rattle.group_laws.proofs.SeenLaws.{bytes_other}
use Rattle.rv64_isa.specs.Memory.{Write, stored}
use Rattle.rv64_isa.specs.Numbers.{wrapped}
use Rattle.tables.specs.Lists.{on_first}

-- stores through mappings of other objects
pub unfound : (n a : ℕ) (maps : List Mapping) (m : Mapping) → list_any (λ m. m.object == n) maps ≡ false → find (has a) maps ≡ Some m → (m.object == n) ≡ false
unfound n a maps m none e = by_test (m.object == n) refl
  where
    by_test : (b : Bool) → (m.object == n) ≡ b → b ≡ false
    by_test false e = refl
    by_test true hit = let some = true_any (λ x. x.object == n) maps (any_weaker (λ x. (x ≡ m) × (has a x ≡ true)) (λ x. (x.object == n) ≡ true) maps (λ x is. ap (λ (y : Mapping). y.object == n) is.0 ∙ hit) (found_is (has a) maps m e)) in absurd (cc)

unstored : (memory : List (ℕ × List ℕ)) (maps : List Mapping) (n a : ℕ) (bytes : List ℕ) → list_any (λ m. m.object == n) maps ≡ false → bytes_in (with_stored memory maps a bytes) n ≡ bytes_in memory n
unfolding with_stored
unstored memory maps n a [] none = refl
unstored memory maps n a (b ∷ bs) none = unstored (with_byte_at memory (mapping_at maps (wrapped a)) (wrapped a) b) maps n (a + 1) bs none ∙ by_mapping (mapping_at maps (wrapped a)) refl
  where
    by_mapping : (o : Option Mapping) → mapping_at maps (wrapped a) ≡ o → bytes_in (with_byte_at memory o (wrapped a) b) n ≡ bytes_in memory n
    by_mapping None e = refl
    by_mapping (Some m) e = bytes_other memory m.object (object_place m (wrapped a)) b n (unfound n (wrapped a) maps m none e)

pub unwritten : (memory : List (ℕ × List ℕ)) (maps : List Mapping) (n : ℕ) (writes : List Write) → list_any (λ m. m.object == n) maps ≡ false → bytes_in (with_writes memory maps writes) n ≡ bytes_in memory n
unfolding with_writes
unwritten memory maps n [] none = refl
unwritten memory maps n (w ∷ ws) none = unwritten (with_stored memory maps w.address w.bytes) maps n ws none ∙ unstored memory maps n w.address w.bytes none

-- further objects
pub further_objects : (memory more : List (ℕ × List ℕ)) (n : ℕ) → All (λ o. (o.0 == n) ≡ false) more → bytes_in (memory ++ more) n ≡ bytes_in memory n
further_objects [] more n other = ap (λ (o : Option (ℕ × List ℕ)). elim o [ None ↦ [] | Some x ↦ x.1 ]) (none more other)
  where
    none : (more : List (ℕ × List ℕ)) → All (λ o. (o.0 == n) ≡ false) more → find (λ o. o.0 == n) more ≡ None
    none [] other = refl
    none (o ∷ os) other = ap (λ (b : Bool). if b then Some o else find (λ o. o.0 == n) os) (All-head (λ o. (o.0 == n) ≡ false) o os other) ∙ none os (All-tail (λ o. (o.0 == n) ≡ false) o os other)
further_objects (o ∷ os) more n other = by_test (o.0 == n) refl (further_objects os more n other)
  where
    by_test : (b : Bool) → (o.0 == n) ≡ b → bytes_in (os ++ more) n ≡ bytes_in os n → bytes_in (o ∷ os ++ more) n ≡ bytes_in (o ∷ os) n
    by_test true hit ih = rw (bytes_in, hit) refl
    by_test false miss ih = rw (bytes_in, miss) ih

-- objects that go
pub kept_bytes : (keep : ℕ → Bool) (n : ℕ) (memory : List (ℕ × List ℕ)) → keep n ≡ true → bytes_in (filter (λ o. keep o.0) memory) n ≡ bytes_in memory n
kept_bytes keep n [] hit = refl
kept_bytes keep n (o ∷ os) hit = by_both (keep o.0) (o.0 == n) refl refl (kept_bytes keep n os hit)
  where
    by_both : (t u : Bool) → keep o.0 ≡ t → (o.0 == n) ≡ u → bytes_in (filter (λ p. keep p.0) os) n ≡ bytes_in os n → bytes_in (if t then o ∷ filter (λ p. keep p.0) os else filter (λ p. keep p.0) os) n ≡ (elim (if u then Some o else find (λ p. p.0 == n) os) [ None ↦ [] | Some p ↦ p.1 ])
    by_both true true e f ih = rw (bytes_in, f) refl
    by_both true false e f ih = rw (bytes_in, f) ih
    by_both false false e f ih = ih
    by_both false true e f ih = let over : keep n ≡ false = sym (ap keep (eqb-true o.0 n f)) ∙ e in absurd (cc)

gone_bytes : (keep : ℕ → Bool) (n : ℕ) (memory : List (ℕ × List ℕ)) → keep n ≡ false → bytes_in (filter (λ o. keep o.0) memory) n ≡ []
gone_bytes keep n [] no_keep = refl
gone_bytes keep n (o ∷ os) no_keep = by_both (keep o.0) (o.0 == n) refl refl (gone_bytes keep n os no_keep)
  where
    by_both : (t u : Bool) → keep o.0 ≡ t → (o.0 == n) ≡ u → bytes_in (filter (λ p. keep p.0) os) n ≡ [] → bytes_in (if t then o ∷ filter (λ p. keep p.0) os else filter (λ p. keep p.0) os) n ≡ []
    by_both true true e f ih = let over : keep n ≡ true = sym (ap keep (eqb-true o.0 n f)) ∙ e in absurd (cc)
    by_both true false e f ih = rw (bytes_in, f) ih
    by_both false u e f ih = ih

pub left_or_gone : (keep : ℕ → Bool) (n : ℕ) (memory : List (ℕ × List ℕ)) → (bytes_in (filter (λ o. keep o.0) memory) n ≡ bytes_in memory n) ⊎ (bytes_in (filter (λ o. keep o.0) memory) n ≡ [])
left_or_gone keep n memory = by_keep (keep n) refl
  where
    by_keep : (t : Bool) → keep n ≡ t → (bytes_in (filter (λ o. keep o.0) memory) n ≡ bytes_in memory n) ⊎ (bytes_in (filter (λ o. keep o.0) memory) n ≡ [])
    by_keep true e = inl (kept_bytes keep n memory e)
    by_keep false e = inr (gone_bytes keep n memory e)

-- other bytes of another object
pub replaced_other : (memory : List (ℕ × List ℕ)) (object : ℕ) (bytes : List ℕ) (n : ℕ) → (object == n) ≡ false → bytes_in (on_first {A = ℕ × List ℕ} (λ o. o.0 == object) (λ o. (o.0, bytes)) memory) n ≡ bytes_in memory n
unfolding on_first
replaced_other [] object bytes n differ = refl
replaced_other (e ∷ es) object bytes n differ = by_test (e.0 == object) (e.0 == n) refl refl (replaced_other es object bytes n differ)
  where
    by_test : (t u : Bool) → (e.0 == object) ≡ t → (e.0 == n) ≡ u → bytes_in (on_first {A = ℕ × List ℕ} (λ o. o.0 == object) (λ o. (o.0, bytes)) es) n ≡ bytes_in es n → bytes_in (on_first {A = ℕ × List ℕ} (λ o. o.0 == object) (λ o. (o.0, bytes)) (e ∷ es)) n ≡ bytes_in (e ∷ es) n
    by_test true true hit here ih = absurd (grind (arith, hit, here, differ))
    by_test true false hit other ih = rw (bytes_in, hit) (rw (bytes_in, other) refl)
    by_test false true miss here ih = rw (bytes_in, miss) (rw (bytes_in, here) refl)
    by_test false false miss other ih = rw (bytes_in, miss) (rw (bytes_in, other) ih)
