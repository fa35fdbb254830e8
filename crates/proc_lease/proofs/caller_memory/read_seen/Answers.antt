use Rattle.std.proofs.Common.{◌≡◌, ◌+◌, ◌-◌, ◌∙◌, List, ℕ, Some, true, false, length, take, drop, refl, sym, ap, rules, arith}
use borrow.Rule.Slice.PartMut.{same_len_mid}
use Rattle.proc_lease.specs.Sight.{cells_between, is_able}
use Rattle.rv64_isa.specs.Memory.{bytes_with}
use Rattle.proc_lease.specs.Private.{memory_of, views_of}
use Rattle.std.specs.Prelude.{◌++◌}
use Rattle.proc_lease.proofs.Pieces.{piece_size, put_front, read_on}
use Rattle.proc_lease.proofs.Rights.{able_any, able_part, none_of}
use Rattle.proc_lease.proofs.caller_memory.read_seen.Goals as goal

pub returns-then-not-can_access-clause-fault : goal.returns-then-not-can_access-clause-fault
returns-then-not-can_access-clause-fault c =
    let p = c.args.process.now in
    let able : is_able p.map.entries c.args.right c.args.from (length c.args.into.now) ≡ false = search rules in
    none_of (bytes_with c.args.right (cells_between p c.args.shared.now) c.args.from (length c.args.into.now)) (able_any (memory_of (views_of p.faces.entries ++ views_of c.args.shared.now.entries)) p.map.entries c.args.right c.args.from (length c.args.into.now) ∙ able)

pub loop-done-init : goal.loop-done-init
unfolding bytes_with
loop-done-init c = record { within = omega arith; size = refl; read = refl }

pub read_page-requires-clause-able : goal.read_page-requires-clause-able
read_page-requires-clause-able c =
    let p = c.args.process.now in
    let able : is_able p.map.entries c.args.right c.args.from (length c.args.into.now) ≡ true = search rules in
    let size = piece_size c.loop-done.into c.loop-done.done c.in_page.result (omega arith) in
    able_part p.map.entries c.args.right c.args.from (length c.args.into.now) c.loop-done.done (length (take (c.loop-done.done + c.in_page.result - c.loop-done.done) (drop c.loop-done.done c.loop-done.into))) able (omega (arith, size))

pub loop-done-preserved : goal.loop-done-preserved
loop-done-preserved c =
    let done = c.loop-done.done in
    let n = c.in_page.result in
    let piece = take (done + n - done) (drop done c.loop-done.into) in
    let size = piece_size c.loop-done.into done n (omega arith) in
    let kept : length c.read_page.new.into ≡ length piece = search rules in
    let cells = cells_between c.args.process.now c.args.shared.now in
    record {
      within = omega arith;
      size = same_len_mid done (done + n - done) c.loop-done.into c.read_page.new.into kept ∙ c.loop-done.invariant.size;
      read = read_on c.args.right cells c.args.from done n (take done c.loop-done.into) c.read_page.new.into c.loop-done.invariant.read (ap (bytes_with c.args.right cells _) (sym size) ∙ c.read_page.ensures)
          ∙ ap (λ (l : List ℕ). Some l) (sym (put_front c.loop-done.into c.read_page.new.into done n (done + n - done) (omega arith) (kept ∙ size)));
    }
