use Rattle.std.proofs.Common.{◌≡◌, ◌++◌, take, map, length}
use Rattle.std.specs.Vec.Iter.{into_iter_items, into_iter_len}
use Rattle.page_flusher.specs.Taking.{Carry}
use Rattle.page_flusher.proofs.plan.page_blocks.Given as goal

abbrev pub invariant-loop-page : goal.invariant-loop-page
invariant-loop-page l = record {
  all : l.yielded ++ into_iter_items l.page-iterator ≡ into_iter_items l.initial.page-iterator;
  left : into_iter_len l.page-iterator ≡ length (into_iter_items l.page-iterator);
  count : length l.blocks.items ≡ length l.yielded;
  blocks : Carry (take (length l.yielded) l.numbers) (map (λ p. p.bytes) l.yielded) l.blocks.items;
}
