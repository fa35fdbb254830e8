use Rattle.std.proofs.Common.{◌++◌, [], ◌∷◌, arith, refl, sym}
use Rattle.std.proofs.lemmas.List.{append-nil}
use Rattle.std.specs.Vec.{vec_capacity}
use Rattle.dev_traits.specs.declared.mem.record.Call.TheVariants.{Sync}
use Rattle.dev_traits.specs.Record.{sync_call}
use Rattle.dev_traits.proofs.RecordLemmas.{free_calls, keeps, shows_more, made}
use Rattle.dev_traits.proofs.mem.record.Record.add_sync.Goals as goal

pub invariant_of-self : goal.invariant_of-self
invariant_of-self c =
    let r = c.self.inside in
    let call = Sync c.args.done in
    let lt = free_calls r.size r.room r.calls.items r.calls.items r.written.items r.written.items [] call (vec_capacity r.calls) (vec_capacity r.written) (vec_capacity r.calls) (vec_capacity r.written) c.self.invariant c.args.self.now c.self.view_is c.requires in
    let pushed = made c.push.result (r.calls.items ++ call ∷ []) r.calls.items c.push.new.self.items (c.push.ensures.succeeds (omega (arith, r.calls.ok.0, lt, c.self.invariant.room_for_calls))) c.push.ensures.items in
    keeps r.size r.room r.calls.items c.push.new.self.items r.written.items r.written.items [] call (vec_capacity r.calls) (vec_capacity r.written) (vec_capacity c.push.new.self) (vec_capacity r.written) c.self.invariant c.args.self.now c.self.view_is c.requires pushed (sym (append-nil r.written.items)) (omega arith) tt c.push.ensures.capacity (omega arith)

pub returns : goal.returns
returns c =
    let r = c.self.inside in
    let call = Sync c.args.done in
    let lt = free_calls r.size r.room r.calls.items r.calls.items r.written.items r.written.items [] call (vec_capacity r.calls) (vec_capacity r.written) (vec_capacity r.calls) (vec_capacity r.written) c.self.invariant c.args.self.now c.self.view_is c.requires in
    let pushed = made c.push.result (r.calls.items ++ call ∷ []) r.calls.items c.push.new.self.items (c.push.ensures.succeeds (omega (arith, r.calls.ok.0, lt, c.self.invariant.room_for_calls))) c.push.ensures.items in
    shows_more r.size r.room r.calls.items c.push.new.self.items r.written.items r.written.items [] call (vec_capacity r.calls) (vec_capacity r.written) (vec_capacity c.push.new.self) (vec_capacity r.written) c.self.invariant c.args.self.now c.self.view_is c.requires pushed (sym (append-nil r.written.items)) (sync_call c.args.done) refl
