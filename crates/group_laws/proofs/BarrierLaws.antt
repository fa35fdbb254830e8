-- A barrier and an acknowledgement keep a group valid.
use Rattle.std.proofs.Common.{◌≡◌, ℕ, ◌-◌, ◌<◌, length-drop, arith}
use Rattle.std.proofs.lemmas.List.Elements.{All-drop}
use Rattle.group_defs.specs.Output.{last_position, out_after_barrier}
use Rattle.group_defs.specs.Standing.{State, acknowledged, barrier}
use Rattle.group_defs.specs.Valid.{GroupIsValid, OutSound, OutValid}
use Rattle.group_defs.specs.declared.frame.Out.{Out}
use Rattle.group_laws.proofs.PartLaws.{out_valid}
use Rattle.lists.specs.Bytes.{AreBytes}

module _ (out : Out) (s : OutSound out) where
  pub barrier_position : last_position (out_after_barrier out) ≡ last_position out
  unfolding OutValid
  barrier_position = let from = s.positions.0 in let last = s.positions.1 in let size = length-drop (out.mark - out.from) out.bytes in omega (arith, from, last, size)

  pub barrier_out : OutSound (out_after_barrier out)
  unfolding AreBytes OutValid
  barrier_out =
      let same = barrier_position in let last = s.positions.1 in let end = s.positions.2 in let new = s.positions.4 in
      record { positions = (last, omega (arith, same), omega (arith, same, end), new, omega (arith, same)); bytes = All-drop (λ b. b < 256) (out.mark - out.from) out.bytes s.bytes }

pub barrier_valid : (s : State) (epoch : ℕ) → GroupIsValid s.group → GroupIsValid (barrier s epoch).group
barrier_valid s epoch v = out_valid s.group (out_after_barrier s.group.frame.out) (barrier_out s.group.frame.out v.sound.frame.out) v

pub acknowledged_valid : (s : State) (epoch : ℕ) → GroupIsValid s.group → GroupIsValid (acknowledged s epoch).group
acknowledged_valid s epoch v = v
