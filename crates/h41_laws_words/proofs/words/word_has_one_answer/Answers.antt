use Rattle.h41_laws_words.proofs.Stepped.{one_answer, one_change}
use Rattle.h41_laws_words.proofs.words.word_has_one_answer.Goals as goal

pub returns-clause-accepted : goal.returns-clause-accepted
returns-clause-accepted c =
    one_change c.places_are_ordered.ensures c.sum_has_one_result.ensures c.difference_has_one_result.ensures c.micro_is_determined.ensures

pub returns-clause-answered : goal.returns-clause-answered
returns-clause-answered c =
    one_answer
    (one_change c.places_are_ordered.ensures c.sum_has_one_result.ensures c.difference_has_one_result.ensures
    c.micro_is_determined.ensures)
