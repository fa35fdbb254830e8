use Rattle.group_parts.proofs.Callers.{each_object, private_bytes, public_bytes}
use Rattle.group_parts.proofs.KeptLaws.{barrier_stands}
use Rattle.group_parts.proofs.Whole.{whole_frame}
use Rattle.group_parts.proofs.laws.barriers_and_fetches.Goals as goal

pub returns-clause-stands : goal.returns-clause-stands
returns-clause-stands c = barrier_stands

pub returns-clause-frame : goal.returns-clause-frame
returns-clause-frame c = whole_frame

pub returns-clause-private_bytes : goal.returns-clause-private_bytes
returns-clause-private_bytes c = private_bytes

pub returns-clause-public_bytes : goal.returns-clause-public_bytes
returns-clause-public_bytes c = public_bytes

pub returns-clause-objects : goal.returns-clause-objects
returns-clause-objects c = each_object
