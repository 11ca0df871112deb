use Rattle.h41_asm.proofs.Assembled.{one_holds, no_fault_of_words}
use Rattle.h41_asm.proofs.laws.words_or_fault.Goals as goal

pub returns-clause-one_holds : goal.returns-clause-one_holds
returns-clause-one_holds c = one_holds

pub returns-clause-never_both : goal.returns-clause-never_both
returns-clause-never_both c = no_fault_of_words
