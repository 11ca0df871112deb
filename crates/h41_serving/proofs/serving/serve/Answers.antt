use Rattle.std.proofs.Common.{Err, ap, refl, sym, ◌∙◌}
use Rattle.std.proofs.lemmas.Bool.{false≢true}
use Rattle.h41_deck.specs.Deck.{is_of_write}
use Rattle.h41_refusals.specs.declared.fault.Fault.{Fault}
use Rattle.h41_serving.proofs.Served.{is_read, is_write, not_write}
use Rattle.h41_serving.proofs.TaskDecks.{same_fault}
use Rattle.h41_serving.proofs.serving.serve.Goals as goal

pub returns-in-Ok-Accepted-clause-text : goal.returns-in-Ok-Accepted-clause-text
returns-in-Ok-Accepted-clause-text g c = λ other. c.in-Ok-Accepted.ensures.carried.text

pub returns-in-Ok-Accepted-clause-flushed : goal.returns-in-Ok-Accepted-clause-flushed
returns-in-Ok-Accepted-clause-flushed g c = λ other. c.in-Ok-Accepted.ensures.carried.flushed

pub returns-in-Ok-Refused-clause-text : goal.returns-in-Ok-Refused-clause-text
returns-in-Ok-Refused-clause-text g c = λ other. c.in-Ok-Refused.ensures.carried.text

pub returns-in-Ok-Refused-clause-flushed : goal.returns-in-Ok-Refused-clause-flushed
returns-in-Ok-Refused-clause-flushed g c = λ other. c.in-Ok-Refused.ensures.carried.flushed

pub returns-in-Ok-WrongWord-clause-text : goal.returns-in-Ok-WrongWord-clause-text
returns-in-Ok-WrongWord-clause-text g c = λ other. c.in-Ok-WrongWord.ensures.carried.text

pub returns-in-Ok-WrongWord-clause-flushed : goal.returns-in-Ok-WrongWord-clause-flushed
returns-in-Ok-WrongWord-clause-flushed g c = λ other. c.in-Ok-WrongWord.ensures.carried.flushed

pub returns-in-Err-clause-text : goal.returns-in-Err-clause-text
returns-in-Err-clause-text g c = λ other. absurd (other c.tell.ensures.status)

pub returns-in-Err-clause-flushed : goal.returns-in-Err-clause-flushed
returns-in-Err-clause-flushed g c = λ other. absurd (other c.tell.ensures.status)

pub returns-in-Err-clause-outcome : goal.returns-in-Err-clause-outcome
returns-in-Err-clause-outcome g c = λ other. absurd (other c.tell.ensures.status)

pub returns-in-Err-clause-partial : goal.returns-in-Err-clause-partial
returns-in-Err-clause-partial g c =
    λ is clear. c.in-Err.ensures.carried.partial
    (λ was. absurd (false≢true (sym clear ∙ c.in-Err.ensures.carried.writer ∙ ap is_of_write was)))

pub returns-in-Err-clause-unread : goal.returns-in-Err-clause-unread
returns-in-Err-clause-unread g c =
    λ set. c.in-Err.ensures.carried.unread
    (ap (λ (of : Fault). Err of) (is_read c.in-Err.fault _ refl c.in-Err.ensures.carried.reader set))

pub returns-in-Err-clause-cut : goal.returns-in-Err-clause-cut
returns-in-Err-clause-cut g c =
    λ is set. c.in-Err.ensures.carried.cut
    (ap (λ (of : Fault). Err of) (is_write c.in-Err.fault (sym c.in-Err.ensures.carried.writer ∙ set)))

pub returns-in-Err-clause-passed : goal.returns-in-Err-clause-passed
returns-in-Err-clause-passed g c =
    λ is clear. c.in-Err.ensures.carried.passed
    (λ was. absurd (false≢true (sym clear ∙ c.in-Err.ensures.carried.writer ∙ ap is_of_write was)))

pub returns-in-Err-clause-fault : goal.returns-in-Err-clause-fault
returns-in-Err-clause-fault g c = λ is. record {
  fault = c.in-Err.fault;
  cause = record {
    read = λ was. c.in-Err.ensures.carried.read (ap (λ (of : Fault). Err of) was);
    write = λ was. c.in-Err.ensures.carried.writer ∙ ap is_of_write was;
    memory = λ was. c.in-Err.ensures.carried.memory (ap (λ (of : Fault). Err of) was);
    not_read = λ other. c.in-Err.ensures.carried.reader (λ same. other (same_fault _ refl same));
    not_write = λ other. c.in-Err.ensures.carried.writer ∙ not_write c.in-Err.fault other;
  };
  line = c.tell.ensures.line;
}
