use Rattle.std.proofs.Common.{Ok, List, subst, rules}
use Rattle.h41_codes.specs.declared.characters.Character.{Character}
use Rattle.h41_numbers.specs.NumberLines.{IsNumberOf}
use Rattle.h41_rows.proofs.values.written.Goals as goal

pub returns : goal.returns
returns c = λ memory named. record {
  answer = Ok c.number_of.result;
  nearest = subst (λ (text : List Character). IsNumberOf text c.number_of.result) c.characters.ensures.value c.number_of.ensures;
  kept = search rules;
}
