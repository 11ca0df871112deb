-- Any characters name one function of the calculator, or none.
use Rattle.std.proofs.Common.{◌≡◌, ◌⊎◌, ◌-◌, ℕ, zero, suc, Bool, true, false, List, [], ◌∷◌, Some, None, inl, inr, get_or, refl, rules}
use Rattle.std.proofs.Common.{bytes_eq}
use Rattle.std.specs.List.{AllByRecursion}
use Rattle.std.proofs.lemmas.Bool.{true≢false}
use Rattle.std.proofs.lemmas.Slice.Eq.{bytes_eq-Decides}
use Rattle.h41_codes.specs.declared.functions.Function.{Function}
use Rattle.h41_codes.specs.declared.functions.Function.TheVariants.{Add}
use Rattle.h41_codes.specs.Codes.{function_code}
use Rattle.h41_codes.specs.Functions.{functions}
use Rattle.h41_text.specs.Names.{function_name}
use Rattle.h41_focal.specs.LineLaws.{NameIsDetermined}
use Rattle.h41_focal.specs.OutsideCalls.{IsNamed}
use Rattle.h41_laws_words.proofs.Answering.{Has, has_one}
use Rattle.h41_laws_calculator.specs.LineEnds.{NameHasOneFunction}

-- Each function is in the list of functions, at the place that its code gives.
in_list : (function : Function) → get_or functions (function_code function - 0x40) Add ≡ function
in_list Add = refl
in_list function = refl

-- What holds of all functions of a list, and of another, holds at each place.
at_place : (Claim : Function → Type 0) (list : List Function) (place : ℕ) (other : Function)
    → AllByRecursion Claim list → Claim other → Claim (get_or list place other)
at_place Claim [] place other all holds = holds
at_place Claim (first ∷ rest) zero other all holds = all.0
at_place Claim (first ∷ rest) (suc place) other all holds = at_place Claim rest place other all.1 holds

of_all : (Claim : Function → Type 0) (function : Function) → AllByRecursion Claim functions → Claim function
of_all Claim function all = rw (← (in_list function)) (at_place Claim functions (function_code function - 0x40) Add all all.0)

module _ (name : List ℕ) where
  abbrev IsNot : Function → Type 0
  IsNot function = function_name function ≡ name → ⊥

  abbrev One : Type 0
  One = (function : Function) × (function_name function ≡ name)

  one_more : (function : Function) (same : Bool) → bytes_eq (function_name function) name ≡ same → One ⊎ IsNot function
  one_more function true same = inl (function, (bytes_eq-Decides (function_name function) name).0 same)
  one_more function false same = search (rules, true≢false, bytes_eq-Decides)

  in_list_or_none : (list : List Function) → One ⊎ AllByRecursion IsNot list
  in_list_or_none [] = inr tt
  in_list_or_none (first ∷ rest) = elim (one_more first (bytes_eq (function_name first) name) refl) [
    | inl found ↦ inl found
    | inr not ↦ elim (in_list_or_none rest) [ inl found ↦ inl found | inr none ↦ inr (not, none) ]
  ]

  named : Has (IsNamed name)
  named = elim (in_list_or_none functions) [
    | inl found ↦ record { answer = Some found.0; right = found.1 }
    | inr none ↦ record { answer = None; right = λ function. of_all IsNot function none }
  ]

pub one_function : NameIsDetermined → NameHasOneFunction
one_function same_function name = has_one (named name) (same_function name)
