use Rattle.std.proofs.Common.{refl}
use Rattle.dev_traits.specs.Record.{read_call}
use Rattle.disk_tests.proofs.TellingLaws.{passes_told, read_told}
use Rattle.disk_tests.proofs.tests.telling_disk.TellingDiskDisk.read_at.Goals as goal

pub returns-clause-time : goal.returns-clause-time
returns-clause-time c = passes_told c.args.self.now.disk c.read_at.new.self c.read_at.ensures.time

pub returns-clause-commits : goal.returns-clause-commits
returns-clause-commits c = read_told c.args.self.now.disk c.read_at.new.self read_call (λ calls. refl) c.read_at.ensures.keeps c.read_at.ensures.recorded
