use Rattle.std.proofs.Common.{◌≡◌, ◌+◌, length, take, drop, ◌++◌, ℕ, List, ◌∙◌, ap, sym, ◌≤◌}
use Rattle.std.proofs.lemmas.List.{take_at}
use Rattle.lists.specs.Bytes.{put, length-put}
use Rattle.dev_traits.proofs.mem.disk_calls.overwrite.Goals as goal

whole : (old new was bytes rest : List ℕ) (place len : ℕ) → new ≡ put was place bytes → was ≡ old → length old ≡ len → place + length bytes ≤ length old → take len (new ++ rest) ≡ put old place bytes
whole old new was bytes rest place len is same sized fits =
    let e : new ≡ put old place bytes = is ∙ ap (λ (l : List ℕ). put l place bytes) same in
    take_at new rest len (ap length e ∙ length-put old place bytes fits ∙ sized) ∙ e

pub returns : goal.returns
returns c = whole c.args.bytes.now.items c.overlay.new.old c.deref_mut.result.now c.args.written.now (drop (length c.overlay.new.old) c.args.bytes.now.items) c.args.place c.args.bytes.now.len c.overlay.ensures c.deref_mut.ensures.value (sym c.args.bytes.now.ok.0) c.requires
