-- What the program prints if it ends without a job.
use Rattle.std.specs.Prelude.{ℕ, List, string_bytes}
use Rattle.h41_refusals.specs.declared.refusal.Refusal.TheVariants.{OutOfMemory}
use Rattle.h41_refusals.specs.Refusals.{heading}
use Rattle.h41_jobs.specs.declared.arguments.Ending.{Ending}
use Rattle.h41_jobs.specs.declared.arguments.Ending.TheVariants as endings

-- The text that is printed if the program ends in this way.
abbrev pub text_of : Ending → List ℕ
text_of (endings.Help text) = string_bytes text
text_of (endings.Mistake text) = string_bytes text
text_of endings.OutOfMemory = heading OutOfMemory
