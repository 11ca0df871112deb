-- The first of two that are found, what a test finds, and two tests of which neither passes.
use Rattle.std.proofs.Common.{◌≡◌, Bool, true, false, ◌||◌, refl, Some, None, Option, is_some}
use Rattle.std.specs.Bool.{then_some}
use Rattle.std.specs.Option.{option_or}

pub or_none : {T : Type 0} (first second : Option T) → option_or first second ≡ None → (first ≡ None) × (second ≡ None)
or_none None second none = (refl, none)
or_none (Some found) second none = let no : Some found ≡ None = none in cc

pub not_then_some : {T : Type 0} (test : Bool) (found : T) → then_some test found ≡ None → test ≡ false
not_then_some true found none = let no : Some found ≡ None = none in cc
not_then_some false found none = refl

pub both_false : (first second : Bool) → (first || second) ≡ false → (first ≡ false) × (second ≡ false)
both_false true second e = let no : true ≡ false = e in cc
both_false false second e = (refl, e)

-- If nothing is found, the result is none.
pub unfound : {T : Type 0} (found : Option T) → (is_some found ≡ false) → found ≡ None
unfound None none = refl
unfound (Some found) none = let no : true ≡ false = none in cc
