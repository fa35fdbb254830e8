use Rattle.std.proofs.Common.{◌∙◌, ◌+◌, ◌≤◌, List, ℕ, Bool, not, length, subst, sym, ap, arith}
use Rattle.lists.specs.Bytes.{SameOutside, length-put, AreBytes, are_bytes}
use Rattle.dev_traits.specs.Lost.{lost_ranges}
use Rattle.dev_traits.specs.Record.{NotesWrite, settled_of, pending_of, ranges_of}
use Rattle.dev_traits.proofs.Stops.{noted_torn, free_if, put_bytes, wrote_events, wrote_reads, wrote_settled, wrote_apart}
use Rattle.dev_traits.proofs.mem.disk_calls.MemDiskDisk.write_at.Goals as goal

pub returns-then-refused-clause-torn : goal.returns-then-refused-clause-torn
returns-then-refused-clause-torn c =
    let self = c.args.self.now in
    noted_torn self.blocks self.start.items self.calls c.note_write.new.calls c.args.place c.args.bytes.now (not c.refuses-refused.result) (lost_ranges self.lost) (lost_ranges c.note_write.new.lost) self.unlost
    0 0 0 0 self.bytes.items self.bytes.items c.note_write.ensures (sym self.apart.size ∙ self.whole) self.settled_fits c.requires.within

pub invariant_of-self-2 : goal.invariant_of-self-2
invariant_of-self-2 c =
    let self = c.args.self.now in
    let new = c.note_write.new.calls in
    let written = c.args.bytes.now in
    let lost' = lost_ranges c.note_write.new.lost in
    let notes = subst (λ (b : Bool). NotesWrite c.args.place written (not b) self.calls new (lost_ranges self.lost) lost') c.if-refused.false c.note_write.ensures in
    let free = free_if self.calls.room self.failing.items (length self.calls.events) (sym c.refuses-refused.ensures ∙ c.if-refused.false) in
    let fits : c.args.place + length written ≤ length self.bytes.items = omega (arith, self.whole, c.requires.within) in
    let events = wrote_events self.blocks c.args.place self.start.items self.bytes.items written self.calls new (lost_ranges self.lost) lost' notes free self.unlost fits in
    let is = c.overwrite.ensures in
    record {
      size = events.0 ∙ self.size;
      start_whole = self.start_whole;
      whole = ap length is ∙ length-put self.bytes.items c.args.place written fits ∙ self.whole;
      fits = subst AreBytes (sym is) (put_bytes self.bytes.items c.args.place written fits self.fits (are_bytes written (λ i lt. omega (arith, c.type_inv.bytes i))));
      settled_fits = wrote_settled self.blocks c.args.place self.start.items self.bytes.items written self.calls new (lost_ranges self.lost) lost' notes free self.unlost fits self.settled_fits;
      reads = is ∙ wrote_reads self.blocks c.args.place self.start.items self.bytes.items written self.calls new (lost_ranges self.lost) lost' notes free self.unlost fits self.reads;
      apart = subst (λ (l : List ℕ). SameOutside (ranges_of (pending_of new.events)) (settled_of self.start.items new.events) l) (sym is)
          (wrote_apart self.blocks c.args.place self.start.items self.bytes.items written self.calls new (lost_ranges self.lost) lost' notes free self.unlost fits self.apart);
      unlost = λ lt. events.2;
    }

pub returns-clause-torn : goal.returns-clause-torn
returns-clause-torn c =
    let self = c.args.self.now in
    noted_torn self.blocks self.start.items self.calls c.note_write.new.calls c.args.place c.args.bytes.now (not c.refuses-refused.result) (lost_ranges self.lost) (lost_ranges c.note_write.new.lost) self.unlost
    0 0 0 0 self.bytes.items self.bytes.items c.note_write.ensures (sym self.apart.size ∙ self.whole) self.settled_fits c.requires.within
