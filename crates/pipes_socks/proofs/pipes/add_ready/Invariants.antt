use Rattle.std.proofs.Common.{◌≡◌, ◌≤◌, vec_len}
use Rattle.pipes_socks.proofs.pipes.add_ready.Given as goal

abbrev pub invariant-loop : goal.invariant-loop
invariant-loop l = record {
  len : vec_len l.ready ≡ l.counter;
  enough : l.count ≤ vec_len l.initial.ready → l.counter ≡ vec_len l.initial.ready;
}
