-- The table has each number below 100.
use Rattle.std.proofs.Common.{◌≡◌, ℕ, Bool, true, refl, ◌∙◌, eqb, get_or}
use Rattle.std.proofs.lemmas.Bool.{eqb-true}
use Rattle.h41_decimal.specs.private.PackedDigits.{word_of_digits}
use Rattle.h41_decimal.specs.declared.register.TheConstants.{PACKED_PAIRS}
use Rattle.h41_decimal.proofs.Tables.{each, each_holds}
use Rattle.h41_decimal.proofs.register.packed_pair.Goals as goal

tabled : ℕ → Bool
tabled number = eqb (get_or PACKED_PAIRS number 0) (word_of_digits 2 number)

all_tabled : each tabled 100 ≡ true
unfolding each tabled
all_tabled = refl

pub returns-clause-digits : goal.returns-clause-digits
unfolding tabled
returns-clause-digits c =
    c.from.ensures ∙ eqb-true (get_or PACKED_PAIRS c.args.number 0) (word_of_digits 2 c.args.number)
    (each_holds tabled 100 c.args.number all_tabled c.requires)
