use Rattle.std.proofs.Common.{◌≡◌, ◌∙◌, Option, Some, sym, ap}
use Rattle.std.specs.Option.{option_copied, option_map}
use Rattle.descriptors.specs.Descriptors.{number_at}
use Rattle.descriptors.specs.declared.opens.Open.{Open}
use Rattle.rv64_isa.specs.Numbers.{low_word}
use Rattle.syscalls_io.proofs.DescriptionsFound.{open_is}
use Rattle.syscalls_io.proofs.outside.kind_at.Goals as goal

pub returns-in-Some-get : goal.returns-in-Some-get
returns-in-Some-get c =
    let number : number_at c.args.descs.now.entries (low_word c.args.register) ≡ Some c.in-Some.number = sym c.get.ensures.number ∙ c.in-Some.is in
    sym (ap (λ (o : Option Open). option_map (λ (x : Open). x.kind) o) (open_is c.args.descs.now.entries c.args.io.now.opens.entries (low_word c.args.register) (Some c.in-Some.number) number ∙ sym c.get-in-Some.ensures ∙ ap option_copied c.in-Some-get.is))

pub returns-in-None-get : goal.returns-in-None-get
returns-in-None-get c =
    let number : number_at c.args.descs.now.entries (low_word c.args.register) ≡ Some c.in-Some.number = sym c.get.ensures.number ∙ c.in-Some.is in
    sym (ap (λ (o : Option Open). option_map (λ (x : Open). x.kind) o) (open_is c.args.descs.now.entries c.args.io.now.opens.entries (low_word c.args.register) (Some c.in-Some.number) number ∙ sym c.get-in-Some.ensures ∙ ap option_copied c.in-None-get.is))
