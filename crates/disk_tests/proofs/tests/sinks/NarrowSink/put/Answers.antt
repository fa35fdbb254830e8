use Rattle.std.proofs.Common.{ℕ, ◌<◌, ◌≤◌, List, length, take, length-take, Result, Ok, Err, subst, arith}
use Rattle.std.specs.Prelude.{IfOk}
use Rattle.std.proofs.lemmas.List.{take-take}
use Rattle.dev_traits.specs.Outside.{SinkView, Takes}
use Rattle.disk_tests.proofs.tests.sinks.NarrowSink.put.Goals as goal

-- what was taken of the first two bytes was taken of all
of_all : {E : Type 0} (r : Result ℕ E) (bytes : List ℕ) (u v : SinkView) → IfOk r (λ n. (0 < n) × (n ≤ length (take 2 bytes)))
    → IfOk r (λ n. Takes (take n (take 2 bytes)) u v) → IfOk r (λ n. Takes (take n bytes) u v)
of_all (Ok n) bytes u v some ok =
    subst (λ (l : List ℕ). Takes l u v) (take-take n 2 bytes (omega (arith, some.1, length-take 2 bytes))) ok
of_all (Err e) bytes u v some ok = tt

pub returns-then-bytes-gt2-clause-ok : goal.returns-then-bytes-gt2-clause-ok
returns-then-bytes-gt2-clause-ok c = of_all c.put.result c.args.bytes.now _ _ c.put.ensures.some c.put.ensures.ok
