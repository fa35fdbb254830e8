use Rattle.dev_traits.specs.Lost.{lost_ranges}
use Rattle.dev_traits.specs.Record.{read_call}
use Rattle.dev_traits.proofs.Stops.{noted_no_less}
use Rattle.dev_traits.proofs.mem.disk_calls.MemDiskDisk.read_at.Goals as goal

pub returns-then-refused-clause-no_less : goal.returns-then-refused-clause-no_less
returns-then-refused-clause-no_less c =
    noted_no_less c.args.self.now.blocks c.args.self.now.start.items c.args.self.now.calls c.note_read.new.calls (lost_ranges c.args.self.now.lost) read_call c.note_read.ensures (λ image here. here)

pub returns-clause-no_less : goal.returns-clause-no_less
returns-clause-no_less c =
    noted_no_less c.args.self.now.blocks c.args.self.now.start.items c.args.self.now.calls c.note_read.new.calls (lost_ranges c.args.self.now.lost) read_call c.note_read.ensures (λ image here. here)
