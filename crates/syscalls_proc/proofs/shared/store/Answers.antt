use Rattle.std.proofs.Common.{subst}
use Rattle.group_defs.specs.Reserved.{EachFrom}
use Rattle.syscalls_proc.proofs.Storing.{as_many, not_ok}
use Rattle.syscalls_proc.proofs.shared.store.Goals as goal

pub returns-in-Err-NoMemory-clause-wants : goal.returns-in-Err-NoMemory-clause-wants
returns-in-Err-NoMemory-clause-wants g c =
    λ each. not_ok _ _ c.in-Err-NoMemory.is (c.copy_out.ensures.ready (subst (λ k. EachFrom (g.M.UserMem.is_reserved c.args.mem.now) c.args.address k)
    (as_many _ _ _ _ c.requires c.from.ensures c.to_le_bytes-low_first.ensures) each))
