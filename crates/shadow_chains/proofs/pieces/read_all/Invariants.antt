use Rattle.std.proofs.Common.{◌≡◌, ℕ, ◌+◌, ◌-◌, ◌*◌, ◌<◌, ◌≤◌, [], ◌∷◌, ◌++◌, length, get_or}
use Rattle.shadow_chains.specs.Chain.{byte_at}
use Rattle.shadow_chains.proofs.pieces.read_all.Given as goal

abbrev pub invariant-loop-done : goal.invariant-loop-done
invariant-loop-done l = record {
  in_range : l.done ≤ length l.initial.into;
  in_page : l.at < 4096;
  here : l.done < length l.initial.into → 4096 * l.page + l.at ≡ l.place + l.done;
  each : (k : ℕ) → k < l.done → get_or l.into k 0 ≡ byte_at (l.layers ++ l.top.pages ∷ []) (l.place + k);
}

abbrev pub decreases-loop-done : goal.decreases-loop-done
decreases-loop-done l = length l.initial.into - l.done
