use Rattle.std.proofs.Common.{◌-◌, ◌∙◌, ℕ, List, [], length, drop, subst}
use Rattle.dev_traits.specs.Lost.{lost_ranges}
use Rattle.dev_traits.specs.Record.{IsStopOf, within_call}
use Rattle.dev_traits.proofs.Images.{left_within}
use Rattle.dev_traits.proofs.mem.disk.MemDisk.image.Goals as goal

pub returns-clause-left : goal.returns-clause-left
returns-clause-left c =
    let self = c.args.self.now in
    let image = c.in_ok-image.image.items in
    left_within self.blocks self.start.items (lost_ranges self.lost) image self.calls.events c.args.call c.requires.0 c.requires.1 (c.in_ok-image.ensures.size ∙ self.size, c.in_ok-image.ensures.bytes)
    (subst (λ (s : List ℕ). IsStopOf s [] (within_call (drop (length self.calls.events - c.args.call) self.calls.events)) image) c.deref.ensures.value c.in_ok-image.ensures.stop)
