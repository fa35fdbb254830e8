use Rattle.std.proofs.Common.{rules, tests, ◌≤◌, arith}
use Rattle.std.specs.Prelude.{nat_le}
use Rattle.std.proofs.lemmas.List.Sorted.{answers_always}
use Rattle.address_maps.specs.Mappings.{AreApart, end_of}
use Rattle.tables.proofs.Adjacent.{pairs_answered, Decides-leb}
use Rattle.group_valid.proofs.mappings.are_apart.Goals as goal

pub returns : goal.returns
unfolding AreApart
returns c =
    pairs_answered (λ m n. end_of m ≤ n.start) (λ x y z a b. omega arith) (λ m n. nat_le (end_of m) n.start) (λ m n. Decides-leb (end_of m) n.start) c.args.maps.now _ (c.is_sorted_by.ensures.cases (λ m n. nat_le (end_of m) n.start) (answers_always _ _ _ (λ f a r h called. search (rules, tests))))
