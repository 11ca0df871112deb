-- The result of a test that compares two numbers.
use Rattle.std.specs.Prelude.{Bool, Option, Some, None, Result, Ok, Err, ℤ}
use Rattle.h41_rows.specs.declared.fault.LineFault.{LineFault}
use Rattle.h41_rows.specs.declared.fault.LineFault.TheVariants.{AlphaData}

-- The result is ALPHA DATA if one of the numbers is missing.
abbrev pub answer_of_comparison : (ℤ → ℤ → Bool) → Option ℤ → Option ℤ → Result Bool LineFault
answer_of_comparison test (Some x) (Some y) = Ok (test x y)
answer_of_comparison test (Some x) None = Err AlphaData
answer_of_comparison test None y = Err AlphaData
