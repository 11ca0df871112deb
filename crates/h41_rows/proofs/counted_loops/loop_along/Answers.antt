-- A counter that is counted is the value that lines compute.
use Rattle.std.proofs.Common.{◌≡◌, Bool, Err, List, Ok, Result, Some, refl, ℕ}
use Rattle.h41_decimal.specs.NearestDecimal.{Nearest}
use Rattle.h41_decimal.specs.Holding.{holding_of, worth}
use Rattle.h41_decimal.specs.Units.{units}
use Rattle.h41_decimal.specs.declared.fault.DecimalFault.{DecimalFault}
use Rattle.h41_decimal.specs.declared.places.Places.TheVariants.{Decimals}
use Rattle.h41_decimal.specs.declared.sign.Sign.{Sign}
use Rattle.h41_decimal.specs.declared.sign.Sign.TheVariants.{Minus, Plus}
use Rattle.h41_decimal.specs.declared.ten.Ten.{Ten}
use Rattle.h41_ram.specs.NamedFlags.{range_ignore}
use Rattle.h41_ram.specs.RegisterMap.{RegisterMap, flag_of, register_at}
use Rattle.h41_rows.proofs.Working.{one_at, works_one, works_without}
use Rattle.h41_rows.specs.Computing.{WorksOnOne}
use Rattle.h41_rows.specs.Values.{Kept}
use Rattle.h41_rows.specs.declared.fault.LineFault.{LineFault}
use Rattle.h41_rows.specs.private.Answers.{KeptOne, RoundsAt, WithoutNumber}
use Rattle.h41_rows.specs.private.Counting.{number_along, value_along}
use Rattle.h41_rows.proofs.counted_loops.loop_along.Goals as goal

-- The display format does not affect a counter.
rounds : (direction : Sign) (memory : RegisterMap) → RoundsAt (value_along direction) memory (Decimals 0)
rounds Plus memory = tt
rounds Minus memory = tt

is_kept : (direction : Sign) (ignores_range : Bool) (number : Ten) (answer : Result Ten DecimalFault) (result : Result (List ℕ) LineFault)
    → Nearest (number_along direction (units number)) 1 answer → Kept Plus ignores_range answer result
    → KeptOne (value_along direction) (Decimals 0) ignores_range number result
is_kept Plus ignores_range number answer result nearest kept = record { answer = answer; answers = nearest; kept = kept }
is_kept Minus ignores_range number answer result nearest kept = record { answer = answer; answers = nearest; kept = kept }

is_without : (direction : Sign) (fault : LineFault) → WithoutNumber (value_along direction) fault (Err fault)
is_without Plus fault = refl
is_without Minus fault = refl

counts : (direction : Sign) (memory : RegisterMap) (address : ℕ) (register : List ℕ) (ignores_range : Bool) (number : Ten)
    (answer : Result Ten DecimalFault) (result : Result (List ℕ) LineFault)
    → register ≡ register_at memory address → ignores_range ≡ flag_of memory range_ignore
    → worth (holding_of register) ≡ Some (units number)
    → Nearest (number_along direction (units number)) 1 answer → Kept Plus ignores_range answer result
    → WorksOnOne (value_along direction) memory address result
counts direction memory address register ignores_range number answer result same flag w nearest kept =
    one_at (value_along direction) memory address register (Decimals 0) ignores_range result same (rounds direction memory) flag
    (works_one (value_along direction) register (Decimals 0) ignores_range number result w
    (is_kept direction ignores_range number answer result nearest kept))

pub returns-in-Ok-kept-clause-register : goal.returns-in-Ok-kept-clause-register
returns-in-Ok-kept-clause-register g c =
    counts c.args.direction c.args.ram.now.registers c.args.address c.read.result c.flag.result c.in-Ok.number c.counted-answer.result
    (Ok c.in-Ok-kept.register) c.read.ensures c.flag.ensures c.in-Ok.ensures c.counted-answer.ensures c.in-Ok-kept.ensures

pub returns-in-Err-kept-clause-register : goal.returns-in-Err-kept-clause-register
returns-in-Err-kept-clause-register g c =
    counts c.args.direction c.args.ram.now.registers c.args.address c.read.result c.flag.result c.in-Ok.number c.counted-answer.result
    (Err c.in-Err-kept.fault) c.read.ensures c.flag.ensures c.in-Ok.ensures c.counted-answer.ensures c.in-Err-kept.ensures

pub returns-in-Err-clause-register : goal.returns-in-Err-clause-register
returns-in-Err-clause-register g c =
    one_at (value_along c.args.direction) c.args.ram.now.registers c.args.address c.read.result (Decimals 0)
    (flag_of c.args.ram.now.registers range_ignore) (Err c.in-Err.fault) c.read.ensures (rounds c.args.direction c.args.ram.now.registers)
    refl
    (works_without (value_along c.args.direction) c.read.result (Decimals 0) (flag_of c.args.ram.now.registers range_ignore)
    c.in-Err.fault (Err c.in-Err.fault) c.in-Err.ensures.0 c.in-Err.ensures.1 (is_without c.args.direction c.in-Err.fault))
