-- What has a name, by its text.
use Rattle.std.proofs.Common.{◌≡◌, ℕ, List, Option, Some, None, Result, Ok, Err, refl, ap}
use Rattle.std.specs.Prelude.{◌↔◌}
use Rattle.h41_codes.specs.declared.functions.Function.{Function}
use Rattle.h41_codes.specs.declared.line.Line.{Line}
use Rattle.h41_codes.specs.declared.line.Line.TheVariants.{Null, Plain}
use Rattle.h41_text.specs.LineReading.{IsTextOf}
use Rattle.h41_text.specs.Names.{function_name}
use Rattle.h41_text.specs.declared.faults.BadText.{BadText}
use Rattle.h41_focal.specs.LineLaws.{NameIsDetermined}
use Rattle.h41_focal.specs.OutsideCalls.{IsNamed}
use Rattle.h41_focal.specs.private.Carrying.{IsFunction}
use Rattle.h41_text.specs.TextLaws.{OneLineOfText}

not_null : (function : Function) → Plain function ≡ Null → ⊥
not_null function is = cc

pub text_of : (name : List ℕ) (function : Function) → function_name function ≡ name → IsTextOf name (Plain function)
text_of name function same = record { has = record { valid = tt; shown = not_null function }; shortest = refl; same = same }

-- The text is that of a line.
pub named_by : (name : List ℕ) (line : Line) (function : Option Function) (read : Result Line BadText)
    → ((of : Line) → (read ≡ Ok of) ↔ IsTextOf name of) → read ≡ Ok line → IsFunction line function → IsNamed name function
named_by name line (Some function) read means is found =
    let text : IsTextOf name (Plain function) = (means (Plain function)).0 (rw found at is) in text.same
named_by name line None read means is none = λ function same.
    let own : read ≡ Ok (Plain function) = (means (Plain function)).1 (text_of name function same) in
    none function cc

-- The text is not that of a line.
pub named_none : (name : List ℕ) (fault : BadText) (read : Result Line BadText)
    → ((of : Line) → (read ≡ Ok of) ↔ IsTextOf name of) → read ≡ Err fault → IsNamed name None
named_none name fault read means is = λ function same.
    let own : read ≡ Ok (Plain function) = (means (Plain function)).1 (text_of name function same) in cc

-- A name names at most one function.
same_function_by : (a b : Function) → Plain a ≡ Plain b → a ≡ b
same_function_by a b is = cc

pub same_function : OneLineOfText → NameIsDetermined
same_function one_line name (Some a) (Some b) p q =
    ap Some (same_function_by a b (one_line name (Plain a) (Plain b) (text_of name a p) (text_of name b q)))
same_function one_line name (Some a) None p q = absurd (q a p)
same_function one_line name None (Some b) p q = absurd (p b q)
same_function one_line name None None p q = refl
