use Rattle.std.proofs.Common.{◌∙◌, Bool, not, false, length, subst, sym}
use Rattle.dev_traits.specs.Lost.{lost_ranges}
use Rattle.dev_traits.specs.Record.{sync_call, Notes}
use Rattle.dev_traits.proofs.Stops.{noted_no_less, noted_only, free_if}
use Rattle.dev_traits.proofs.mem.disk_calls.MemDiskDisk.sync.Goals as goal

pub returns-then-refused-clause-no_less : goal.returns-then-refused-clause-no_less
returns-then-refused-clause-no_less c =
    let notes = subst (λ (b : Bool). Notes (sync_call (not b)) c.args.self.now.calls c.note_sync.new.calls) c.if-refused.true c.note_sync.ensures in
    noted_no_less c.args.self.now.blocks c.args.self.now.start.items c.args.self.now.calls c.note_sync.new.calls (lost_ranges c.args.self.now.lost) (sync_call false) notes (λ image here. here)

pub returns-clause-only : goal.returns-clause-only
returns-clause-only c =
    let self = c.args.self.now in
    let notes = subst (λ (b : Bool). Notes (sync_call (not b)) self.calls c.note_sync.new.calls) c.if-refused.false c.note_sync.ensures in
    let free = free_if self.calls.room self.failing.items (length self.calls.events) (sym c.refuses-refused.ensures ∙ c.if-refused.false) in
    λ r some. noted_only self.blocks self.start.items self.calls c.note_sync.new.calls (lost_ranges self.lost) self.bytes.items r notes free (self.unlost free) self.reads some
