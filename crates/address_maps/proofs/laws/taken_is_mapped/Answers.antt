use Rattle.address_maps.specs.ShownLaws.{taken_from_address, address_from_taken}
use Rattle.address_maps.proofs.laws.taken_is_mapped.Goals as goal

pub returns : goal.returns
returns c maps m valid good = (
  (λ taken. address_from_taken maps m valid.each good taken),
  (λ shown. taken_from_address maps m shown.0 shown.1 shown.2),
)
