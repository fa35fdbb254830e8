use Rattle.std.proofs.Common.{◌≡◌, length, rules}
use Rattle.std.specs.Prelude.{IfOk, MatchBool}
use Rattle.rv64_isa.specs.Memory.{can_write}
use Rattle.rv64_isa.specs.Numbers.{bytes_of}
use Rattle.proc_lease.specs.Private.{private_in, stored_into, views_of}
use Rattle.proc_lease.proofs.Across.{seen_after}
use Rattle.proc_lease.proofs.process.ProcessSpace.store.Goals as goal

pub returns-clause-ok : goal.returns-clause-ok
returns-clause-ok c =
    let old = c.args.self.now in
    let new = c.store_bytes.new.self in
    let bytes = bytes_of c.args.n c.args.value in
    let able : IfOk c.store_bytes.result (λ able. able ≡ can_write (private_in (views_of old.faces.entries) old.map.entries) c.args.address (length bytes)) = search rules in
    let stored : IfOk c.store_bytes.result (λ able. MatchBool able (views_of new.faces.entries ≡ stored_into (views_of old.faces.entries) old.map.entries c.args.address bytes) (views_of new.faces.entries ≡ views_of old.faces.entries)) = search rules in
    seen_after c.store_bytes.result (views_of old.faces.entries) (views_of new.faces.entries) old.map.entries new.map.entries c.args.address bytes old.fits c.store_bytes.ensures.map able stored
