use Rattle.h41_laws_words.proofs.Answering.{has_one, of_steps}
use Rattle.h41_laws_words.proofs.numbers.number_has_one_of_steps.Goals as goal

pub returns : goal.returns
returns c step number some = has_one (of_steps step number some) (c.steps_are_determined.ensures step number)
