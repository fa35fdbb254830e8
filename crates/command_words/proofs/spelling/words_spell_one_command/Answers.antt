use Rattle.command_words.proofs.ReadingLaws.{spelled_is_read, read_is_spelled, one_command}
use Rattle.command_words.proofs.LimitLaws.{limits_fit}
use Rattle.command_words.proofs.spelling.words_spell_one_command.Goals as goal

pub returns-clause-reads : goal.returns-clause-reads
returns-clause-reads c = spelled_is_read

pub returns-clause-spells : goal.returns-clause-spells
returns-clause-spells c = read_is_spelled

pub returns-clause-one : goal.returns-clause-one
returns-clause-one c = one_command

pub returns-clause-limits : goal.returns-clause-limits
returns-clause-limits c = limits_fit
