-- The target of a number is a label.
use Rattle.std.proofs.Common.{◌≡◌, ◌/◌, Some, Ok, Err, ap, sym, ◌∙◌, arith}
use Rattle.std.specs.Prelude.{unsigned_abs}
use Rattle.std.specs.Option.{option_map}
use Rattle.h41_decimal.specs.Holding.{holding_of, worth}
use Rattle.h41_decimal.specs.Units.{one, units}
use Rattle.h41_rows.specs.Operands.{Count, label_of, target_of}
use Rattle.h41_rows.specs.declared.fault.LineFault.TheVariants.{Nonexistent}
use Rattle.h41_rows.proofs.Told.{number_held, told_asked}
use Rattle.h41_rows.proofs.targets.target_in.Goals as goal

pub returns-in-Some : goal.returns-in-Some
returns-in-Some c =
    let value = units c.in-Some.number in
    let worth_of : worth (holding_of c.args.register) ≡ Some value = sym c.from_reg.ensures ∙ ap (option_map units) c.in-Some.is in
    let held = number_held (holding_of c.args.register) value worth_of in
    c.label.ensures ∙ (ap label_of c.told_whole.ensures
    ∙ (told_asked 100 (λ n. Ok (Count n)) (Err Nonexistent) (unsigned_abs value / one) (omega arith) ∙ sym (ap target_of held)))
