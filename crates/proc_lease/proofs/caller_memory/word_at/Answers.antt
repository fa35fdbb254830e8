use Rattle.std.proofs.Common.{Some, ap, sym, rules, ◌∙◌}
use Rattle.std.specs.Option.{option_map}
use Rattle.rv64_isa.specs.Numbers.{number_of}
use Rattle.proc_lease.proofs.Pieces.{word_spelled}
use Rattle.proc_lease.proofs.caller_memory.word_at.Goals as goal

pub returns-in-Ok : goal.returns-in-Ok
returns-in-Ok c = ap Some (c.from_le_bytes.ensures ∙ word_spelled c.read_seen.new.into (search rules)) ∙ sym (ap (option_map number_of) c.in-Ok.ensures.ok)
