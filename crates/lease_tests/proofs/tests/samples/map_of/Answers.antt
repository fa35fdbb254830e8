use Rattle.std.proofs.Common.{◌∷◌, [], sym, subst₂}
use Rattle.address_maps.specs.declared.maps.Mapping.{Mapping}
use Rattle.address_maps.specs.Mappings.{AreMappings}
use Rattle.lease_tests.proofs.LeaseSample.{sample_maps}
use Rattle.lease_tests.proofs.tests.samples.map_of.Goals as goal

pub of-requires : goal.of-requires
of-requires c =
    subst₂ (λ (m n : Mapping). AreMappings (m ∷ n ∷ [])) (sym c.two_pages.ensures) (sym c.two_pages-2.ensures)
    (sample_maps c.args.rights.of_program c.args.rights.of_data c.args.rights.shared)
