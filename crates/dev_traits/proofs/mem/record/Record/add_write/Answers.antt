use Rattle.std.proofs.Common.{◌≡◌, ◌<◌, ◌++◌, [], ◌∷◌, length, arith, sym, ap, ◌∙◌, ◌+◌, ◌*◌, ◌≤◌, ℕ, List, slice_range}
use Rattle.std.specs.Vec.{vec_capacity}
use Rattle.dev_traits.specs.declared.mem.record.Call.TheVariants.{Write}
use Rattle.dev_traits.specs.Record.{write_call, RecordView}
use Rattle.dev_traits.proofs.RecordLemmas.{free_calls, keeps, shows_more, made, new_piece}
use Rattle.dev_traits.proofs.mem.record.Record.add_write.Goals as goal

-- room for the bytes of one call more
bytes_fit : (written calls room byte_room more : ℕ) → written ≤ 4096 * calls → calls < room → 4096 * room ≤ byte_room → more ≤ 4096 → written + more ≤ byte_room
bytes_fit written calls room byte_room more short lt le few = omega arith

at_end : (written bytes : List ℕ) (n : ℕ) → n ≡ length written → slice_range (written ++ bytes) n (n + length bytes) ≡ bytes
at_end written bytes n is = ap (λ (k : ℕ). slice_range (written ++ bytes) k (k + length bytes)) is ∙ new_piece written bytes

pub invariant_of-self : goal.invariant_of-self
invariant_of-self c =
    let r = c.self.inside in
    let bytes = c.args.bytes.now in
    let call = Write c.args.place c.len-from.result (length bytes) c.args.done in
    let lt = free_calls r.size r.room r.calls.items r.calls.items r.written.items r.written.items [] call (vec_capacity r.calls) (vec_capacity r.written) (vec_capacity r.calls) (vec_capacity r.written) c.self.invariant c.args.self.now c.self.view_is c.requires.free in
    let pushed = made c.push.result (r.calls.items ++ call ∷ []) r.calls.items c.push.new.self.items (c.push.ensures.succeeds (omega (arith, r.calls.ok.0, lt, c.self.invariant.room_for_calls))) c.push.ensures.items in
    let short = bytes_fit (length r.written.items) (length r.calls.items) r.room (vec_capacity r.written) (length bytes) c.self.invariant.short lt c.self.invariant.room_for_bytes c.requires.few in
    let extended = made c.extend_from_slice.result (r.written.items ++ bytes) r.written.items c.extend_from_slice.new.self.items (c.extend_from_slice.ensures.succeeds (omega (arith, r.written.ok.0, short))) c.extend_from_slice.ensures.items in
    let size : c.args.self.now.size ≡ r.size = sym (ap (λ (v : RecordView). v.size) c.self.view_is) in
    keeps r.size r.room r.calls.items c.push.new.self.items r.written.items c.extend_from_slice.new.self.items bytes call (vec_capacity r.calls) (vec_capacity r.written) (vec_capacity c.push.new.self) (vec_capacity c.extend_from_slice.new.self) c.self.invariant c.args.self.now c.self.view_is c.requires.free pushed extended
    c.requires.few (omega (arith, c.requires.within, size), omega (arith, c.len-from.ensures, r.written.ok.0)) c.push.ensures.capacity c.extend_from_slice.ensures.capacity

pub returns : goal.returns
returns c =
    let r = c.self.inside in
    let bytes = c.args.bytes.now in
    let call = Write c.args.place c.len-from.result (length bytes) c.args.done in
    let lt = free_calls r.size r.room r.calls.items r.calls.items r.written.items r.written.items [] call (vec_capacity r.calls) (vec_capacity r.written) (vec_capacity r.calls) (vec_capacity r.written) c.self.invariant c.args.self.now c.self.view_is c.requires.free in
    let pushed = made c.push.result (r.calls.items ++ call ∷ []) r.calls.items c.push.new.self.items (c.push.ensures.succeeds (omega (arith, r.calls.ok.0, lt, c.self.invariant.room_for_calls))) c.push.ensures.items in
    let short = bytes_fit (length r.written.items) (length r.calls.items) r.room (vec_capacity r.written) (length bytes) c.self.invariant.short lt c.self.invariant.room_for_bytes c.requires.few in
    let extended = made c.extend_from_slice.result (r.written.items ++ bytes) r.written.items c.extend_from_slice.new.self.items (c.extend_from_slice.ensures.succeeds (omega (arith, r.written.ok.0, short))) c.extend_from_slice.ensures.items in
    let at : c.len-from.result ≡ length r.written.items = omega (arith, c.len-from.ensures, r.written.ok.0) in
    shows_more r.size r.room r.calls.items c.push.new.self.items r.written.items c.extend_from_slice.new.self.items bytes call (vec_capacity r.calls) (vec_capacity r.written) (vec_capacity c.push.new.self) (vec_capacity c.extend_from_slice.new.self) c.self.invariant c.args.self.now c.self.view_is c.requires.free pushed extended
    (write_call c.args.place bytes c.args.done) (ap (λ (l : List ℕ). write_call c.args.place l c.args.done) (at_end r.written.items bytes c.len-from.result at))
