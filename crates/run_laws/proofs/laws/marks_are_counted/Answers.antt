use Rattle.run_laws.proofs.CountLaws.{ack_told, fetch_told, is_counted}
use Rattle.run_laws.proofs.laws.marks_are_counted.Goals as goal

pub returns-clause-counted : goal.returns-clause-counted
returns-clause-counted c = is_counted

pub returns-clause-fetch : goal.returns-clause-fetch
returns-clause-fetch c = fetch_told

pub returns-clause-ack : goal.returns-clause-ack
returns-clause-ack c = ack_told
