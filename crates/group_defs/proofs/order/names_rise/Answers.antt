use Rattle.std.proofs.Common.{rules, tests}
use Rattle.std.specs.Cmp.Lexicographic.{slice_cmp}
use Rattle.std.specs.Ordering.{nat_cmp, is_lt}
use Rattle.std.proofs.lemmas.List.Sorted.{answers_always}
use Rattle.std.proofs.lemmas.Cmp.{nat_list_cmp_total}
use Rattle.group_files.specs.Files.{NamesRise}
use Rattle.group_files.specs.Names.{IsBefore}
use Rattle.tables.proofs.Adjacent.{pairs_answered, Decides-lt}
use Rattle.group_defs.proofs.order.names_rise.Goals as goal

pub returns : goal.returns
unfolding NamesRise
returns c =
    pairs_answered (λ a b. IsBefore a.name b.name) (λ a b d. nat_list_cmp_total.trans a.name b.name d.name) (λ a b. is_lt (slice_cmp nat_cmp a.name b.name)) (λ a b. Decides-lt (slice_cmp nat_cmp a.name b.name)) c.args.files.now _ (c.is_sorted_by.ensures.cases (λ a b. is_lt (slice_cmp nat_cmp a.name b.name)) (answers_always _ _ _ (λ f a r h called. search (rules, tests))))
