-- Two mappings, each of both pages of an object, are ones that a process may have.
use Rattle.std.proofs.Common.{ℕ, ◌≤◌, Bool, false, [], ◌∷◌, refl, All, AllPairs, arith}
use Rattle.std.proofs.lemmas.List.Elements.{All-cons, All-nil}
use Rattle.std.proofs.lemmas.List.Kept.{AllPairs-cons}
use Rattle.address_maps.specs.declared.maps.Mapping.{Mapping}
use Rattle.address_maps.specs.Mappings.{end_of, IsMapping, AreApart, AreMappings}
use Rattle.lease_tests.specs.Samples.{both_maps, two_pages_of}

abbrev program_map : ℕ → Mapping
program_map of_program = two_pages_of 4096 of_program false 3

abbrev data_map : ℕ → Bool → Mapping
data_map of_data shared = two_pages_of 12288 of_data shared 7

placed : (program high : ℕ) (shared : Bool) → All IsMapping (both_maps program high shared)
unfolding IsMapping
placed program high shared =
    All-cons IsMapping (program_map program) (data_map high shared ∷ []) (refl, omega arith, omega arith, omega arith, omega arith)
    (All-cons IsMapping (data_map high shared) [] (refl, omega arith, omega arith, omega arith, omega arith) (All-nil IsMapping))

pairs_none : (R : Mapping → Mapping → Type 0) → AllPairs R []
pairs_none R i j d lt end = absurd (omega (arith, lt, end))

abbrev Before : Mapping → Mapping → Type 0
Before m n = end_of m ≤ n.start

maps_apart : (program high : ℕ) (shared : Bool) → AreApart (both_maps program high shared)
unfolding AreApart
maps_apart program high shared =
    AllPairs-cons Before (program_map program) (data_map high shared ∷ []) (All-cons (Before (program_map program)) (data_map high shared) [] (omega arith) (All-nil (Before (program_map program))))
    (AllPairs-cons Before (data_map high shared) [] (All-nil (Before (data_map high shared))) (pairs_none Before))

pub sample_maps : (program high : ℕ) (shared : Bool) → AreMappings (both_maps program high shared)
sample_maps program high shared = record { each = placed program high shared; apart = maps_apart program high shared; count = omega arith }
