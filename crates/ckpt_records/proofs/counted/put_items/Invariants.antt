use Rattle.std.proofs.Common.{◌≡◌, ◌++◌, length, take}
use Rattle.std.specs.List.{flat_map, AllByRecursion}
use Rattle.ckpt_records.specs.Codec.{number}
use Rattle.ckpt_records.proofs.counted.put_items.Given as goal

abbrev pub invariant-loop-item : goal.invariant-loop-item
invariant-loop-item g l = record { bytes : l.out.items ≡ l.fn.out.items ++ (number (length l.items) ++ flat_map g.T.Field.spells (take l.item-index l.items)); fits : AllByRecursion g.T.Field.Fits (take l.item-index l.items) }
