use Rattle.std.proofs.Common.{◌≡◌, ◌∙◌, List, ℕ, ap, length, arith}
use Rattle.group_defs.specs.Valid.{OutValid}
use Rattle.syscalls_io.proofs.output.move_mark.Goals as goal

pub overflow_sub-dropped : goal.overflow_sub-dropped
unfolding OutValid
overflow_sub-dropped c = let valid = c.requires in omega (arith, valid.0)

pub overflow_sub-left : goal.overflow_sub-left
unfolding OutValid
overflow_sub-left c =
    let valid = c.requires in
    let same : length c.into_vec-bytes.result.items ≡ length c.args.out.now.bytes = ap (λ (l : List ℕ). length l) (c.into_vec-bytes.ensures ∙ c.replace.ensures.value) in
    omega (arith, valid.0, valid.1, c.len.ensures, same)

pub rotate_left-requires : goal.rotate_left-requires
unfolding OutValid
rotate_left-requires c =
    let valid = c.requires in
    let same : length c.into_vec-bytes.result.items ≡ length c.args.out.now.bytes = ap (λ (l : List ℕ). length l) (c.into_vec-bytes.ensures ∙ c.replace.ensures.value) in
    omega (arith, valid.0, valid.1, c.into_vec-bytes.result.ok.0, same)
