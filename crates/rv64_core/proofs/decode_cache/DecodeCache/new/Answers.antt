use Rattle.std.proofs.Common.{refl, rules}
use Rattle.rv64_isa.specs.Reading.{instr_by, imm_by, op_imm_by, imm_i}
use Rattle.rv64_core.proofs.decode_cache.DecodeCache.new.Goals as goal

pub invariant_of-nop : goal.invariant_of-nop
unfolding instr_by imm_by op_imm_by imm_i
invariant_of-nop c = record { is = refl; fits = search rules }
