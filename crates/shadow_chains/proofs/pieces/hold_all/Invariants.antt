use Rattle.std.proofs.Common.{◌≡◌, ℕ, ◌<◌, ◌≤◌}
use Rattle.shadow_chains.specs.Own.{StaysReady, IsReady}
use Rattle.shadow_chains.proofs.pieces.hold_all.Given as goal

abbrev pub invariant-loop-page : goal.invariant-loop-page
invariant-loop-page l = record {
  pages : l.top.pages ≡ l.initial.top.pages;
  ready : StaysReady l.initial.top l.top;
  each : (p : ℕ) → l.first ≤ p → p < l.page → IsReady l.top p;
}
