use Rattle.std.proofs.Common.{◌≡◌, ◌+◌, ◌-◌, ◌%◌, ◌^◌, ◌≤◌, ◌∙◌, ℕ, List, true, length, take, ap, rules, arith}
use Rattle.rv64_isa.specs.Memory.{can_write}
use Rattle.address_maps.specs.declared.maps.Mapping.{Mapping}
use Rattle.proc_lease.specs.Private.{ObjectView, private_in, stored_into, views_of}
use Rattle.proc_lease.proofs.Across.{both_stored, can_after, can_each}
use Rattle.proc_lease.proofs.Views.{page_still}
use Rattle.proc_lease.proofs.process.Process.store_across.Goals as goal

pub store_ready-requires-clause-able : goal.store_ready-requires-clause-able
store_ready-requires-clause-able c =
    let old = c.args.self.now in
    let size = length c.split_at.result.0.now in
    let cells = private_in (views_of old.faces.entries) old.map.entries in
    let whole : length c.args.new.now ≡ size + length c.split_at.result.1.now = omega (arith, c.split_at.ensures.front_len, c.split_at.ensures.back_len) in
    let can : can_write cells c.args.address (length c.args.new.now) ≡ true = search rules in
    let first = (can_each cells c.args.address size (length c.split_at.result.1.now) (length c.args.new.now) whole can).0 in
    let views : views_of c.reserve-2.new.self.faces.entries ≡ views_of old.faces.entries = c.in_ok-reserve-2.ensures.same ∙ c.in_ok-reserve.ensures.same in
    let maps : c.reserve-2.new.self.map.entries ≡ old.map.entries = c.in_ok-reserve-2.ensures.map ∙ c.in_ok-reserve.ensures.map in
    ap (λ (l : List ObjectView). can_write (private_in l c.reserve-2.new.self.map.entries) c.args.address size) views
    ∙ ap (λ (m : List Mapping). can_write (private_in (views_of old.faces.entries) m) c.args.address size) maps
    ∙ first

pub store_ready-requires-clause-ready : goal.store_ready-requires-clause-ready
store_ready-requires-clause-ready c =
    let old = c.args.self.now in
    let size = length c.split_at.result.0.now in
    let cells = private_in (views_of old.faces.entries) old.map.entries in
    let whole : length c.args.new.now ≡ size + length c.split_at.result.1.now = omega (arith, c.split_at.ensures.front_len, c.split_at.ensures.back_len) in
    let can : can_write cells c.args.address (length c.args.new.now) ≡ true = search rules in
    let first = (can_each cells c.args.address size (length c.split_at.result.1.now) (length c.args.new.now) whole can).0 in
    let maps : c.reserve-2.new.self.map.entries ≡ old.map.entries = c.in_ok-reserve-2.ensures.map ∙ c.in_ok-reserve.ensures.map in
    page_still c.reserve.new.self.faces.entries c.reserve-2.new.self.faces.entries old.map.entries c.reserve-2.new.self.map.entries c.args.address size c.in_ok-reserve-2.ensures.stays maps (c.in_ok-reserve.ensures.ready (c.in_ok-reserve.ensures.able ∙ first))

pub store_ready-requires-2-clause-able : goal.store_ready-requires-2-clause-able
store_ready-requires-2-clause-able c =
    let old = c.args.self.now in
    let front = c.split_at.result.0.now in
    let back = c.split_at.result.1.now in
    let a = c.args.address in
    let next = (a + (4096 - a % 4096)) % 2 ^ 64 in
    let cells = private_in (views_of old.faces.entries) old.map.entries in
    let size : length front ≡ 4096 - a % 4096 = omega (arith, c.split_at.ensures.front_len, c.split_at.ensures.back_len) in
    let whole : length c.args.new.now ≡ 4096 - a % 4096 + length back = omega (arith, c.split_at.ensures.front_len, c.split_at.ensures.back_len) in
    let can : can_write cells a (length c.args.new.now) ≡ true = search rules in
    let both = can_each cells a (4096 - a % 4096) (length back) (length c.args.new.now) whole can in
    let views : views_of c.reserve-2.new.self.faces.entries ≡ views_of old.faces.entries = c.in_ok-reserve-2.ensures.same ∙ c.in_ok-reserve.ensures.same in
    let maps : c.reserve-2.new.self.map.entries ≡ old.map.entries = c.in_ok-reserve-2.ensures.map ∙ c.in_ok-reserve.ensures.map in
    let after : views_of c.store_ready.new.self.faces.entries ≡ stored_into (views_of old.faces.entries) old.map.entries a front =
    c.store_ready.ensures.stored ∙ ap (λ (l : List ObjectView). stored_into l c.reserve-2.new.self.map.entries a front) views ∙ ap (λ (m : List Mapping). stored_into (views_of old.faces.entries) m a front) maps in
    let first : can_write cells a (length front) ≡ true = ap (can_write cells a) size ∙ both.0 in
    ap (λ (l : List ObjectView). can_write (private_in l c.store_ready.new.self.map.entries) next (length back)) after
    ∙ ap (λ (m : List Mapping). can_write (private_in (stored_into (views_of old.faces.entries) old.map.entries a front) m) next (length back)) (c.store_ready.ensures.map ∙ maps)
    ∙ can_after (views_of old.faces.entries) old.map.entries a front next (length back) old.fits first
    ∙ both.1

pub store_ready-requires-2-clause-ready : goal.store_ready-requires-2-clause-ready
store_ready-requires-2-clause-ready c =
    let old = c.args.self.now in
    let front = c.split_at.result.0.now in
    let back = c.split_at.result.1.now in
    let a = c.args.address in
    let next = (a + (4096 - a % 4096)) % 2 ^ 64 in
    let cells = private_in (views_of old.faces.entries) old.map.entries in
    let size : length front ≡ 4096 - a % 4096 = omega (arith, c.split_at.ensures.front_len, c.split_at.ensures.back_len) in
    let whole : length c.args.new.now ≡ 4096 - a % 4096 + length back = omega (arith, c.split_at.ensures.front_len, c.split_at.ensures.back_len) in
    let can : can_write cells a (length c.args.new.now) ≡ true = search rules in
    let both = can_each cells a (4096 - a % 4096) (length back) (length c.args.new.now) whole can in
    let able = c.in_ok-reserve-2.ensures.able
    ∙ ap (λ (l : List ObjectView). can_write (private_in l c.reserve.new.self.map.entries) next (length back)) c.in_ok-reserve.ensures.same
    ∙ ap (λ (m : List Mapping). can_write (private_in (views_of old.faces.entries) m) next (length back)) c.in_ok-reserve.ensures.map
    ∙ both.1 in
    page_still c.reserve-2.new.self.faces.entries c.store_ready.new.self.faces.entries c.reserve.new.self.map.entries c.store_ready.new.self.map.entries next (length back) c.store_ready.ensures.stays (c.store_ready.ensures.map ∙ c.in_ok-reserve-2.ensures.map) (c.in_ok-reserve-2.ensures.ready able)

pub returns-clause-stored : goal.returns-clause-stored
returns-clause-stored c =
    let old = c.args.self.now in
    let front = c.split_at.result.0.now in
    let back = c.split_at.result.1.now in
    let a = c.args.address in
    let size = 4096 - a % 4096 in
    let next = (a + (4096 - a % 4096)) % 2 ^ 64 in
    let views : views_of c.reserve-2.new.self.faces.entries ≡ views_of old.faces.entries = c.in_ok-reserve-2.ensures.same ∙ c.in_ok-reserve.ensures.same in
    let maps : c.reserve-2.new.self.map.entries ≡ old.map.entries = c.in_ok-reserve-2.ensures.map ∙ c.in_ok-reserve.ensures.map in
    let after : views_of c.store_ready.new.self.faces.entries ≡ stored_into (views_of old.faces.entries) old.map.entries a front =
    c.store_ready.ensures.stored ∙ ap (λ (l : List ObjectView). stored_into l c.reserve-2.new.self.map.entries a front) views ∙ ap (λ (m : List Mapping). stored_into (views_of old.faces.entries) m a front) maps in
    let le : size ≤ length c.args.new.now = omega (arith, c.split_at.ensures.front_len, c.split_at.ensures.back_len) in
    c.store_ready-2.ensures.stored
    ∙ ap (λ (l : List ObjectView). stored_into l c.store_ready.new.self.map.entries next back) after
    ∙ ap (λ (m : List Mapping). stored_into (stored_into (views_of old.faces.entries) old.map.entries a front) m next back) (c.store_ready.ensures.map ∙ maps)
    ∙ ap (λ (l : List ℕ). stored_into (stored_into (views_of old.faces.entries) old.map.entries a l) old.map.entries next back) c.split_at.ensures.front
    ∙ ap (stored_into (stored_into (views_of old.faces.entries) old.map.entries a (take size c.args.new.now)) old.map.entries next) c.split_at.ensures.back
    ∙ both_stored (views_of old.faces.entries) old.map.entries a size c.args.new.now le
