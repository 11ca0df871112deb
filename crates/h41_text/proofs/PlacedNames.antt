-- The tables of indices are right: a name is found by its hash if and only if it is in the list.
use Rattle.std.proofs.Common.{◌≡◌, ℕ, ◌<◌, Bool, true, false, List, [], ◌∷◌, length, Some, None, refl, sym, ◌∙◌, inl, inr, bytes_eq}
use Rattle.std.proofs.Common.{slice_index_or, subst}
use Rattle.std.specs.Prelude.{nat_lt}
use Rattle.std.specs.List.{AllByRecursion, list_all}
use Rattle.std.proofs.lemmas.Bool.{and_parts, cases_Bool, cond-false, ltb-true}
use Rattle.std.proofs.lemmas.List.Elements.{All-from_recursion}
use Rattle.std.proofs.lemmas.Slice.Eq.{bytes_eq-Decides}
use Rattle.h41_codes.specs.declared.functions.Branch.TheVariants.{GoTo, Execute}
use Rattle.h41_codes.specs.declared.functions.Function as functions
use Rattle.h41_codes.specs.declared.functions.Function.TheVariants.{Add}
use Rattle.h41_codes.specs.declared.functions.ParameterFunction.{ParameterFunction}
use Rattle.h41_codes.specs.declared.functions.ParameterFunction.TheVariants.{Recall}
use Rattle.h41_text.specs.declared.words.LeadingWord.{LeadingWord}
use Rattle.h41_text.specs.declared.words.LeadingWord.TheVariants.{Function, Branch, Wordless, Module}
use Rattle.h41_text.specs.declared.names.TheConstants.{FUNCTIONS}
use Rattle.h41_text.specs.declared.places.TheConstants.{FUNCTION_PLACES, WORD_PLACES}
use Rattle.h41_text.specs.declared.words.TheConstants.{WORDS}
use Rattle.h41_text.specs.Names.{function_name, parameter_function_name}
use Rattle.h41_text.specs.private.Places.{IsPlaced, at_place}
use Rattle.h41_text.specs.private.TextParts.{with_text, word_text}

no_both : (test : Bool) → test ≡ true → test ≡ false → true ≡ false
no_both test holds fails = sym holds ∙ fails

module _ {A : Type 0} (text_of : A → List ℕ) (items : List A) (places : List ℕ) (other : A) where
  -- Whether an item is found by the hash of its own text.
  abbrev is_home : A → Bool
  is_home item = bytes_eq (text_of (at_place items places (text_of item) other)) (text_of item)

  module _ (name : List ℕ) (missed : bytes_eq (text_of (at_place items places name other)) name ≡ false) where
    unlike : (item : A) → is_home item ≡ true → bytes_eq (text_of item) name ≡ false
    unlike item home = elim (cases_Bool (bytes_eq (text_of item) name)) [
      | inl same ↦
          let word : text_of item ≡ name = (bytes_eq-Decides (text_of item) name).0 same in
          let here : bytes_eq (text_of (at_place items places name other)) name ≡ true =
          subst (λ (w : List ℕ). bytes_eq (text_of (at_place items places w other)) w ≡ true) word home in
          let no : true ≡ false = no_both _ here missed in cc
      | inr differs ↦ differs
    ]

    -- If the item at a text's hash has another text, no item has this text.
    pub missed_among : (some : List A) → list_all is_home some ≡ true → with_text text_of some name ≡ None
    missed_among [] home = refl
    missed_among (item ∷ some) home =
        let both = and_parts (is_home item) (list_all is_home some) home in
        cond-false (bytes_eq (text_of item) name) _ _ (unlike item both.0) ∙ missed_among some both.1

all_below : (count : ℕ) (places : List ℕ) → list_all (λ place. nat_lt place count) places ≡ true
    → AllByRecursion (λ place. place < count) places
all_below count [] low = tt
all_below count (place ∷ places) low =
    let both = and_parts (nat_lt place count) (list_all (λ place. nat_lt place count) places) low in
    (ltb-true place count both.0, all_below count places both.1)

-- Each name is found.
function_found : (function : functions.Function) → with_text function_name FUNCTIONS (function_name function) ≡ Some function
function_found Add = refl
function_found function = refl

parameter_function_found : (function : ParameterFunction)
    → with_text word_text WORDS (parameter_function_name function) ≡ Some (Function function)
parameter_function_found Recall = refl
parameter_function_found function = refl

word_found : (word : LeadingWord) → with_text word_text WORDS (word_text word) ≡ Some word
word_found (Function function) = parameter_function_found function
word_found (Branch GoTo) = refl
word_found (Branch Execute) = refl
word_found Wordless = refl
word_found Module = refl

pub functions_are_placed : IsPlaced function_name FUNCTIONS FUNCTION_PLACES
functions_are_placed = record {
  count = refl;
  within =
      λ k inside. All-from_recursion (λ (place : ℕ). place < length FUNCTIONS)
      FUNCTION_PLACES (all_below (length FUNCTIONS) FUNCTION_PLACES refl) k 0 inside;
  found = λ k other inside. function_found (slice_index_or FUNCTIONS k other);
  missed = λ name other missed. missed_among function_name FUNCTIONS FUNCTION_PLACES other name missed FUNCTIONS refl;
}

pub words_are_placed : IsPlaced word_text WORDS WORD_PLACES
words_are_placed = record {
  count = refl;
  within =
      λ k inside.
      All-from_recursion (λ (place : ℕ). place < length WORDS) WORD_PLACES (all_below (length WORDS) WORD_PLACES refl) k 0 inside;
  found = λ k other inside. word_found (slice_index_or WORDS k other);
  missed = λ name other missed. missed_among word_text WORDS WORD_PLACES other name missed WORDS refl;
}
