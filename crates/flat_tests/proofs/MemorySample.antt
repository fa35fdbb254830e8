-- Three mappings of two objects fit.
use Rattle.std.proofs.Common.{◌≡◌, ℕ, zero, suc, ◌+◌, ◌*◌, ◌<◌, ◌≤◌, false, List, [], ◌∷◌, length, take, replicate, ◌++◌, refl, sym, subst, All, arith}
use Rattle.std.proofs.lemmas.List.Elements.{All-nil, All-cons, All-append, All-take, All-replicate}
use Rattle.address_maps.specs.declared.maps.Mapping.{Mapping}
use Rattle.group_defs.specs.Cells.{bytes_in}
use Rattle.address_maps.specs.Mappings.{AreApart}
use Rattle.group_defs.specs.Mappings.{IsUserMapping}
use Rattle.lists.specs.Bytes.{AreBytes}
use Rattle.tables.specs.Rising.{Rise}
use Rattle.flat_kernel.specs.Memory.{TableFits}

abbrev pub private : ℕ → ℕ → ℕ → ℕ → ℕ → Mapping
private start pages prot object first = record { start = start; pages = pages; prot = prot; shared = false; object = object; first = first }

abbrev pub sample_maps : List Mapping
sample_maps = private 4096 1 7 3 1 ∷ private 8192 1 3 7 0 ∷ private 16384 2 1 3 0 ∷ []

maps_apart : AreApart sample_maps
unfolding AreApart
maps_apart zero zero d less end = absurd (omega (arith, less))
maps_apart zero (suc zero) d less end = omega arith
maps_apart zero (suc (suc zero)) d less end = omega arith
maps_apart zero (suc (suc (suc j))) d less end = absurd (omega (arith, end))
maps_apart (suc zero) zero d less end = absurd (omega (arith, less))
maps_apart (suc zero) (suc zero) d less end = absurd (omega (arith, less))
maps_apart (suc zero) (suc (suc zero)) d less end = omega arith
maps_apart (suc zero) (suc (suc (suc j))) d less end = absurd (omega (arith, end))
maps_apart (suc (suc i)) j d less end = absurd (omega (arith, less, end))

placed : All IsUserMapping sample_maps
unfolding IsUserMapping
placed =
    All-cons IsUserMapping (private 4096 1 7 3 1) ((private 8192 1 3 7 0) ∷ (private 16384 2 1 3 0) ∷ []) (refl, omega arith, omega arith, omega arith, omega arith)
    (All-cons IsUserMapping (private 8192 1 3 7 0) ((private 16384 2 1 3 0) ∷ []) (refl, omega arith, omega arith, omega arith, omega arith) (All-cons IsUserMapping (private 16384 2 1 3 0) [] (refl, omega arith, omega arith, omega arith, omega arith) (All-nil IsUserMapping)))

all_private : All (λ m. m.shared ≡ false) sample_maps
all_private =
    All-cons (λ m. m.shared ≡ false) (private 4096 1 7 3 1) ((private 8192 1 3 7 0) ∷ (private 16384 2 1 3 0) ∷ []) refl
    (All-cons (λ m. m.shared ≡ false) (private 8192 1 3 7 0) ((private 16384 2 1 3 0) ∷ []) refl (All-cons (λ m. m.shared ≡ false) (private 16384 2 1 3 0) [] refl (All-nil (λ m. m.shared ≡ false))))

abbrev IsSmall : ℕ × List ℕ → Type 0
IsSmall o = length o.1 ≤ 4096 * 16384

module _ (three seven : List ℕ) (a : length three ≡ 8192) (b : length seven ≡ 8192) where
  abbrev table : List (ℕ × List ℕ)
  table = (3, three) ∷ (7, seven) ∷ []

  abbrev IsWithin : Mapping → Type 0
  IsWithin m = 4096 * (m.first + m.pages) ≤ length (bytes_in table m.object)

  numbers_rise : Rise (λ o. o.0) table
  unfolding Rise
  numbers_rise zero zero d less end = absurd (omega (arith, less))
  numbers_rise zero (suc zero) d less end = omega arith
  numbers_rise zero (suc (suc j)) d less end = absurd (omega (arith, end))
  numbers_rise (suc i) j d less end = absurd (omega (arith, less, end))

  pub sample_fits : AreBytes three → AreBytes seven → TableFits ((3, three) ∷ (7, seven) ∷ []) sample_maps
  sample_fits threes sevens = record {
    placed = placed;
    apart = maps_apart;
    unshared = all_private;
    inside =
        All-cons IsWithin (private 4096 1 7 3 1) ((private 8192 1 3 7 0) ∷ (private 16384 2 1 3 0) ∷ []) (omega (arith, a)) (All-cons IsWithin (private 8192 1 3 7 0) ((private 16384 2 1 3 0) ∷ []) (omega (arith, b)) (All-cons IsWithin (private 16384 2 1 3 0) [] (omega (arith, a)) (All-nil IsWithin)));
    rise = numbers_rise;
    bytes = All-cons (λ o. AreBytes o.1) (3, three) ((7, seven) ∷ []) threes (All-cons (λ o. AreBytes o.1) (7, seven) [] sevens (All-nil (λ o. AreBytes o.1)));
    sizes = All-cons IsSmall (3, three) ((7, seven) ∷ []) (omega (arith, a)) (All-cons IsSmall (7, seven) [] (omega (arith, b)) (All-nil IsSmall));
  }

-- bytes of an old list, and one byte many times
pub filled : (old new : List ℕ) (n k b : ℕ) → b < 256 → AreBytes old → new ≡ take n old ++ replicate k b → AreBytes new
unfolding AreBytes
filled old new n k b small all is = subst (All (λ x. x < 256)) (sym is) (All-append (λ x. x < 256) (take n old) (replicate k b) (All-take (λ x. x < 256) n old all) (All-replicate (λ x. x < 256) k b small))

pub none_filled : (old : List ℕ) → old ≡ [] → AreBytes old
unfolding AreBytes
none_filled old none = subst (All (λ x. x < 256)) (sym none) (All-nil (λ x. x < 256))
