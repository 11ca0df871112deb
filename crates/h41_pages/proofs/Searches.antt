-- Searches for a function with a name in a list.
use Rattle.std.proofs.Common.{◌≡◌, ℕ, true, false, List, ◌∷◌, ◌++◌, Option, Some, None, cond, ap, rules, arith}
use Rattle.std.specs.List.{find}
use Rattle.std.specs.Option.{option_map, option_or}
use Rattle.std.proofs.lemmas.List.Folds.{find-append}
use Rattle.h41_pages.specs.FunctionTables.{is_named, found_in, numbers_of}
use Rattle.h41_pages.specs.declared.functions.ModuleFunction.{ModuleFunction}

map-skips : {X Y : Type 0} (f : X → Y) → (first second : Option X) → option_map f first ≡ None
    → option_map f (option_or first second) ≡ option_map f second
map-skips f first second none = grind arith

map-takes : {X Y : Type 0} (f : X → Y) (y : Y) → (first second : Option X) → option_map f first ≡ Some y
    → option_map f (option_or first second) ≡ Some y
map-takes f y first second some = grind arith

-- In two lists, one after the other: the function is in the second if the first has none, otherwise in the first.
pub found_behind : (name : List ℕ) (first second : List ModuleFunction) → found_in name first ≡ None
    → found_in name (first ++ second) ≡ found_in name second
found_behind name first second none = search (rules, find-append, map-skips)

pub found_before : (name : List ℕ) (numbers : ℕ × ℕ) (first second : List ModuleFunction) → found_in name first ≡ Some numbers
    → found_in name (first ++ second) ≡ Some numbers
found_before name numbers first second some = search (rules, find-append, map-takes)

-- A function that is not the first of a list.
pub found_later : (name : List ℕ) (function : ModuleFunction) (others : List ModuleFunction) → is_named name function ≡ false
    → found_in name (function ∷ others) ≡ found_in name others
found_later name function others fails = ap (λ b. option_map numbers_of (cond b (Some function) (find (is_named name) others))) fails

pub found_first : (name : List ℕ) (function : ModuleFunction) (others : List ModuleFunction) → is_named name function ≡ true
    → found_in name (function ∷ others) ≡ Some (numbers_of function)
found_first name function others passes = ap (λ b. option_map numbers_of (cond b (Some function) (find (is_named name) others))) passes
