-- A name is read one word at a time.
use Rattle.std.proofs.Common.{◌≡◌, ℕ, true, false, List, [], ◌∷◌, ◌++◌, Option, Some, cond, ap, ◌∙◌, append_assoc, rules, arith}
use Rattle.std.specs.Option.{option_map}
use Rattle.h41_pages.specs.FunctionTables.{character, is_last, spelled_name}

-- The characters read so far, and the name that the remaining words spell.
abbrev pub going_on : List ℕ → List ℕ → Option (List ℕ)
going_on name words = option_map (λ rest. name ++ rest) (spelled_name words)

same_name : (name : Option (List ℕ)) → name ≡ option_map (λ rest. [] ++ rest) name
same_name name = grind arith

joined : (name : List ℕ) (next : ℕ) → (rest : Option (List ℕ))
    → option_map (λ rest. name ++ rest) (option_map (λ rest. next ∷ rest) rest) ≡ option_map (λ rest. (name ++ next ∷ []) ++ rest) rest
joined name next rest = grind (arith, append_assoc)

pub name_begins : (words : List ℕ) → spelled_name words ≡ going_on [] words
name_begins words = same_name (spelled_name words)

pub name_goes_on : (name : List ℕ) (word : ℕ) (words : List ℕ) → is_last word ≡ false
    → going_on name (word ∷ words) ≡ going_on (name ++ character word ∷ []) words
name_goes_on name word words fails =
    ap (λ b.
    option_map (λ rest. name ++ rest) (cond b (Some (character word ∷ []))
    (option_map (λ rest. character word ∷ rest) (spelled_name words))))
    fails
    ∙ joined name (character word) (spelled_name words)

pub name_ends : (name : List ℕ) (word : ℕ) (words : List ℕ) → is_last word ≡ true
    → going_on name (word ∷ words) ≡ Some (name ++ character word ∷ [])
name_ends name word words passes = search rules
