use Rattle.group_laws.proofs.Elsewhere.{untouched_by_calls}
use Rattle.group_laws.proofs.OthersBytes.{others_bytes_by_calls}
use Rattle.group_laws.proofs.OthersPrivate.{others_private_by_calls}
use Rattle.group_laws.proofs.OthersStay.{others_stay_by_calls}
use Rattle.group_laws.proofs.laws.others_stay_by_calls.Goals as goal

pub returns-clause-processes : goal.returns-clause-processes
returns-clause-processes c = others_stay_by_calls

pub returns-clause-bytes : goal.returns-clause-bytes
returns-clause-bytes c = others_bytes_by_calls

pub returns-clause-private : goal.returns-clause-private
returns-clause-private c = others_private_by_calls

pub returns-clause-pages : goal.returns-clause-pages
returns-clause-pages c = untouched_by_calls
