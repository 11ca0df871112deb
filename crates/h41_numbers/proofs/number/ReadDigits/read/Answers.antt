use Rattle.h41_numbers.proofs.NumberReading.{number_more, count_more, number_full, count_full, number_none, count_none}
use Rattle.h41_numbers.proofs.number.ReadDigits.read.Goals as goal

pub returns-then-self-most-clause-number : goal.returns-then-self-most-clause-number
returns-then-self-most-clause-number c = λ rest.
    number_more c.args.most c.args.self.number c.args.self.count c.in-Some.digit
    c.push.result.number c.push.result.count c.args.character rest
    c.in-Some.ensures.value c.if-self-most.true c.push.ensures.number c.push.ensures.count

pub returns-then-self-most-clause-count : goal.returns-then-self-most-clause-count
returns-then-self-most-clause-count c = λ rest.
    count_more c.args.most c.args.self.count c.in-Some.digit c.push.result.count c.args.character rest
    c.in-Some.ensures.value c.if-self-most.true c.push.ensures.count

pub returns-else-self-most-clause-number : goal.returns-else-self-most-clause-number
returns-else-self-most-clause-number c = λ rest.
    number_full c.args.most c.args.self.number c.args.self.count c.args.character rest c.if-self-most.false

pub returns-else-self-most-clause-count : goal.returns-else-self-most-clause-count
returns-else-self-most-clause-count c = λ rest. count_full c.args.most c.args.self.count c.args.character rest c.if-self-most.false

pub returns-in-None-clause-number : goal.returns-in-None-clause-number
returns-in-None-clause-number c = λ rest.
    number_none c.args.most c.args.self.number c.args.self.count c.args.character rest c.in-None.ensures.value

pub returns-in-None-clause-count : goal.returns-in-None-clause-count
returns-in-None-clause-count c = λ rest. count_none c.args.most c.args.self.count c.args.character rest c.in-None.ensures.value
