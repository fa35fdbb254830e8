use Rattle.address_maps.specs.ShownLaws.{shown_where_added, shown_as_before}
use Rattle.address_maps.proofs.laws.additions_are_shown.Goals as goal

pub returns-clause-inside : goal.returns-clause-inside
returns-clause-inside c maps m address free hit = shown_where_added maps m free address hit

pub returns-clause-outside : goal.returns-clause-outside
returns-clause-outside c maps m address free miss = shown_as_before maps m free address miss
