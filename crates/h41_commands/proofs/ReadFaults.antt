-- What an error of an item says of the error of a line that it comes from.
use Rattle.std.proofs.Common.{◌≡◌, ◌≢◌, Result, Err, ap, refl}
use Rattle.h41_ends.specs.Ends as lines
use Rattle.h41_ends.specs.declared.fault.LineReadFault.{LineReadFault}
use Rattle.h41_ends.specs.declared.fault.LineReadFault.TheVariants as line
use Rattle.h41_commands.specs.Faults.{is_of_write, of_line}

abbrev fails : {A E : Type 0} → E → Result A E
fails fault = Err fault

pub told_of_line : {A B : Type 0} (fault other : LineReadFault) → fails {A = B} (of_line fault) ≡ Err (of_line other)
    → fails {A = A} fault ≡ Err other
told_of_line line.ReadFault line.ReadFault e = refl
told_of_line line.ReadFault line.WriteFault e = cc
told_of_line line.WriteFault line.ReadFault e = cc
told_of_line line.WriteFault line.WriteFault e = refl

pub untold_of_line : {A B : Type 0} (fault other : LineReadFault) → fails {A = B} (of_line fault) ≢ Err (of_line other)
    → fails {A = A} fault ≢ Err other
untold_of_line {B = B} fault other not is =
    let same : fault ≡ other = cc in not (ap (λ (own : LineReadFault). fails {A = B} (of_line own)) same)

pub write_of_line : (fault : LineReadFault) → is_of_write (of_line fault) ≡ lines.is_of_write fault
write_of_line line.ReadFault = refl
write_of_line line.WriteFault = refl
