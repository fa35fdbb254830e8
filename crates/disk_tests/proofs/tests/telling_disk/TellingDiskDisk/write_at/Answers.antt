use Rattle.std.proofs.Common.{refl}
use Rattle.dev_traits.specs.Commits.{wrote}
use Rattle.dev_traits.specs.Record.{write_call}
use Rattle.disk_tests.proofs.TellingLaws.{passes_told, told_ok, told_err}
use Rattle.disk_tests.proofs.tests.telling_disk.TellingDiskDisk.write_at.Goals as goal

pub returns-clause-time : goal.returns-clause-time
returns-clause-time c = passes_told c.args.self.now.disk c.write_at.new.self c.write_at.ensures.time

pub returns-clause-commits : goal.returns-clause-commits
returns-clause-commits c =
    told_ok c.args.self.now.disk c.write_at.new.self (write_call c.args.place c.args.bytes.now) (wrote c.args.place c.args.bytes.now) (λ calls. refl) (λ calls. refl) c.write_at.result
    c.write_at.ensures.refused c.write_at.ensures.recorded

pub returns-clause-commits_err : goal.returns-clause-commits_err
returns-clause-commits_err c =
    told_err c.args.self.now.disk c.write_at.new.self (write_call c.args.place c.args.bytes.now) (wrote c.args.place c.args.bytes.now) (λ calls. refl) (λ calls. refl) c.write_at.result
    c.write_at.ensures.keeps c.write_at.ensures.recorded
