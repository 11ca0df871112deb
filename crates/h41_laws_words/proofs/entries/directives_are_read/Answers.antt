use Rattle.h41_laws_words.proofs.Directives.{name_is_read, entry_is_read, focal_is_read, function_is_read}
use Rattle.h41_laws_words.proofs.entries.directives_are_read.Goals as goal

pub returns-clause-name : goal.returns-clause-name
returns-clause-name c = name_is_read

pub returns-clause-entry : goal.returns-clause-entry
returns-clause-entry c = entry_is_read

pub returns-clause-focal : goal.returns-clause-focal
returns-clause-focal c = focal_is_read

pub returns-clause-function : goal.returns-clause-function
returns-clause-function c = function_is_read
