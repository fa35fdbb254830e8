use Rattle.std.proofs.Common.{◌≡◌, ◌+◌, ◌-◌, ◌*◌, ◌<◌, ◌≤◌, length, take}
use Rattle.shadow_chains.specs.Own.{StaysReady, Wrote}
use Rattle.shadow_chains.proofs.pieces.write_all.Given as goal

abbrev pub invariant-loop-done : goal.invariant-loop-done
invariant-loop-done l = record {
  in_range : l.done ≤ length l.bytes;
  in_page : l.at < 4096;
  here : l.done < length l.bytes → 4096 * l.page + l.at ≡ l.place + l.done;
  ready : StaysReady l.initial.top l.top;
  wrote : Wrote l.layers l.initial.top.pages l.top.pages l.place (take l.done l.bytes);
}

abbrev pub decreases-loop-done : goal.decreases-loop-done
decreases-loop-done l = length l.bytes - l.done
