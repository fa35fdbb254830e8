use Rattle.std.proofs.Common.{List, ℕ, length, w64, ◌++◌, drop, ap, ◌∙◌, ◌≡◌, ◌<◌, ◌*◌, ◌^◌, arith}
use Rattle.std.specs.Int.{from_le_bytes}
use Rattle.rv64_isa.specs.Numbers.{number_of}
use Rattle.flat_kernel.proofs.MemoryNumbers.{bytes_small, padded, number_small, zeros}
use Rattle.flat_kernel.proofs.process_memory.number_in.Goals as goal

pub returns-clause-value : goal.returns-clause-value
returns-clause-value c =
    c.from_le_bytes.ensures ∙ ap (λ (front : List ℕ). from_le_bytes w64 (front ++ drop (length c.args.bytes.now) zeros)) c.copy_from_slice.ensures.after ∙ padded c.args.bytes.now c.requires

pub returns-clause-range : goal.returns-clause-range
returns-clause-range c =
    let value : c.from_le_bytes.result ≡ number_of c.args.bytes.now = c.from_le_bytes.ensures ∙ ap (λ (front : List ℕ). from_le_bytes w64 (front ++ drop (length c.args.bytes.now) zeros)) c.copy_from_slice.ensures.after ∙ padded c.args.bytes.now c.requires in
    let small : number_of c.args.bytes.now < 2 ^ (8 * length c.args.bytes.now) = number_small c.args.bytes.now (bytes_small c.args.bytes.now c.type_inv.bytes) in
    omega (arith, value, small)
