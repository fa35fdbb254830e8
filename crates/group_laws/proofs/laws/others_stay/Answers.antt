use Rattle.group_laws.proofs.Elsewhere.{elsewhere_untouched}
use Rattle.group_laws.proofs.OthersBytes.{others_bytes}
use Rattle.group_laws.proofs.OthersPrivate.{others_private}
use Rattle.group_laws.proofs.OthersStay.{others_stay}
use Rattle.group_laws.proofs.laws.others_stay.Goals as goal

pub returns-clause-processes : goal.returns-clause-processes
returns-clause-processes c = others_stay

pub returns-clause-bytes : goal.returns-clause-bytes
returns-clause-bytes c = others_bytes

pub returns-clause-private : goal.returns-clause-private
returns-clause-private c = others_private

pub returns-clause-pages : goal.returns-clause-pages
returns-clause-pages c = elsewhere_untouched
