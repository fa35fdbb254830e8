-- An instruction fits in at most one way.
use Rattle.std.proofs.Props.{props}
use Rattle.rv64_isa.specs.declared.instr.Instr.{Instr}
use Rattle.rv64_isa.specs.Table.{Row, RType, IType, ShiftType, SType, BType, UType, JType, FenceType, WholeWord, FitsRow, Fits, row_of}

pub FitsRow-prop : (r : Row) → IsProp (FitsRow r)
FitsRow-prop (RType opcode f3 f7 rd rs1 rs2) = Prim.hlevel props
FitsRow-prop (IType opcode f3 rd rs1 imm) = Prim.hlevel props
FitsRow-prop (ShiftType opcode f3 f6 rd rs1 shift) = Prim.hlevel props
FitsRow-prop (SType opcode f3 rs1 rs2 imm) = Prim.hlevel props
FitsRow-prop (BType opcode f3 rs1 rs2 imm) = Prim.hlevel props
FitsRow-prop (UType opcode rd imm) = Prim.hlevel props
FitsRow-prop (JType opcode rd imm) = Prim.hlevel props
FitsRow-prop (FenceType opcode f3 rd rs1 order) = Prim.hlevel props
FitsRow-prop (WholeWord w) = Prim.hlevel props

pub Fits-prop : (i : Instr) → IsProp (Fits i)
Fits-prop i = FitsRow-prop (row_of i)
