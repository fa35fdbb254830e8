use Rattle.std.proofs.Common.{refl}
use Rattle.dev_traits.specs.Commits.{synced}
use Rattle.dev_traits.specs.Record.{sync_call}
use Rattle.disk_tests.proofs.TellingLaws.{passes_told, told_ok, told_err}
use Rattle.disk_tests.proofs.tests.telling_disk.TellingDiskDisk.sync.Goals as goal

pub returns-clause-time : goal.returns-clause-time
returns-clause-time c = passes_told c.args.self.now.disk c.sync.new.self c.sync.ensures.time

pub returns-clause-commits : goal.returns-clause-commits
returns-clause-commits c = told_ok c.args.self.now.disk c.sync.new.self sync_call synced (λ calls. refl) (λ calls. refl) c.sync.result c.sync.ensures.refused c.sync.ensures.recorded

pub returns-clause-commits_err : goal.returns-clause-commits_err
returns-clause-commits_err c = told_err c.args.self.now.disk c.sync.new.self sync_call synced (λ calls. refl) (λ calls. refl) c.sync.result c.sync.ensures.keeps c.sync.ensures.recorded
