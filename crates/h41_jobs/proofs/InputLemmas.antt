-- What was read of an input that is read completely, and what is written of a text.
use Rattle.std.proofs.Common.{◌≡◌, ℕ, ◌≤◌, Bool, true, nat_le, List, ◌++◌, length, take, Option, Some}
use Rattle.std.proofs.Common.{None, IfSome, Result, Ok, Err, OnErr, arith, ap, refl, sym, ◌∙◌}
use Rattle.std.proofs.lemmas.Bool.{leb-true}
use Rattle.std.proofs.lemmas.List.{take_all}
use Rattle.std.specs.Io.KnownBytes.{Appends, Keeps}
use Rattle.h41_asm.specs.Faults.{assembly_fault}
use Rattle.h41_asm.specs.declared.fault.SourceFault as asm
use Rattle.h41_commands.specs.declared.refusal.LineRefusal.{LineRefusal}
use Rattle.h41_commands.specs.declared.refusal.LineRefusal.TheVariants.{Source}
use Rattle.h41_ends.specs.Ends.{most_bytes}
use Rattle.h41_commands.specs.PageBlocks.{SourceMakes}
use Rattle.h41_jobs.specs.Inputs.{IsAllOfInput}

-- The bytes are the whole input.
pub whole_input : (known : Option (List ℕ)) (bytes : List ℕ) (whole : Bool) → IfSome known (λ input. bytes ≡ take most_bytes input)
    → IfSome known (λ input. whole ≡ nat_le (length input) most_bytes) → whole ≡ true → IfSome known (IsAllOfInput bytes)
whole_input None bytes whole front says is = tt
whole_input (Some input) bytes whole front says is =
    let short : length input ≤ most_bytes = leb-true _ _ (sym says ∙ is) in
    record { all = front ∙ take_all most_bytes input short; bound = short }

-- A source with an error.
pub source_refused : (source : List ℕ) (origin line : ℕ) (fault : asm.SourceFault) (why : LineRefusal)
    → assembly_fault source origin ≡ Some (fault, line) → why ≡ Source fault line → SourceMakes source origin (Err why)
source_refused source origin line fault why found own = rw (found, own) refl

-- A text that was written, and then kept, is a prefix of itself.
pub all_written : (old middle new : Option (List ℕ)) (text : List ℕ) → Appends old middle text → Keeps middle new
    → (count : ℕ) × Appends old new (take count text)
all_written None middle new text written kept = (0, tt)
all_written (Some before) None new text written kept = absurd written
all_written (Some before) (Some bytes) None text written kept = absurd kept
all_written (Some before) (Some bytes) (Some rest) text written kept =
    (length text, kept ∙ written ∙ ap (λ (shown : List ℕ). before ++ shown) (sym (take_all (length text) text (omega arith))))

pub all_written_on_err : {T E : Type 0} (done : Result T E) (old middle new : Option (List ℕ)) (text : List ℕ) → Appends old middle text
    → Keeps middle new → OnErr done ((count : ℕ) × Appends old new (take count text))
all_written_on_err (Ok value) old middle new text written kept = tt
all_written_on_err (Err fault) old middle new text written kept = all_written old middle new text written kept
