-- The keys that words name, and how many a line has room for.
use Rattle.std.proofs.Common.{◌≡◌, ℕ, suc, ◌+◌, ◌*◌, ◌<◌, ◌≤◌, Bool, true, false, cond, nat_lt, List, [], ◌∷◌, ◌++◌, length, ◌==◌, filter}
use Rattle.std.proofs.Common.{Result, Ok, Err, refl, ◌∙◌, ap, arith, append-nil, drop, length-drop}
use Rattle.std.specs.List.{slice_split, onto_first}
use Rattle.std.proofs.lemmas.Bool.{eqb-true, ltb-true}
use Rattle.std.proofs.lemmas.List.Splits.{length-slice_split}
use Rattle.h41_keys.specs.declared.key.Key.{Key}
use Rattle.h41_lines.specs.Words.{is_blank, words_of}
use Rattle.h41_commands.specs.Commands.{and_then, key_command, key_of, keys_of}
use Rattle.h41_commands.specs.DeckLines.{key_room, longest_line}
use Rattle.h41_commands.specs.declared.refusal.LineRefusal.{LineRefusal}
use Rattle.h41_commands.specs.declared.refusal.LineRefusal.TheVariants.{BadCommand}

-- The bytes of the parts of a line, each with the separator after it.
abbrev size : List (List ℕ) → ℕ
size [] = 0
size (part ∷ parts) = length part + 1 + size parts

size-onto_first : (x : ℕ) (parts : List (List ℕ)) → 0 < length parts → size (onto_first x parts) ≡ size parts + 1
size-onto_first x [] some = absurd (omega arith)
size-onto_first x (part ∷ parts) some = omega arith

size-cond : (x : ℕ) (parts : List (List ℕ)) (n : ℕ) (b : Bool) → 0 < length parts → size parts ≡ n + 1
    → size (cond b ([] ∷ parts) (onto_first x parts)) ≡ suc n + 1
size-cond x parts n true some e = omega (arith, e)
size-cond x parts n false some e = omega (arith, e, size-onto_first x parts some)

size-slice_split : (p : ℕ → Bool) (line : List ℕ) → size (slice_split p line) ≡ length line + 1
size-slice_split p [] = refl
size-slice_split p (x ∷ line) =
    size-cond x (slice_split p line) (length line) (p x) (omega (arith, length-slice_split p line)) (size-slice_split p line)

abbrev is_word : List ℕ → Bool
is_word word = nat_lt 0 (length word)

-- A word needs at least two bytes.
words-cond : (word : List ℕ) (parts rest : List (List ℕ)) (b : Bool) → is_word word ≡ b → 2 * length rest ≤ size parts
    → 2 * length (cond b (word ∷ rest) rest) ≤ length word + 1 + size parts
words-cond word parts rest true e least = let some : 0 < length word = ltb-true 0 (length word) e in omega (arith, some, least)
words-cond word parts rest false e least = omega (arith, least)

words-size : (parts : List (List ℕ)) → 2 * length (filter is_word parts) ≤ size parts
words-size [] = omega arith
words-size (word ∷ parts) = words-cond word parts (filter is_word parts) (is_word word) refl (words-size parts)

-- A line of 200 bytes has at most 100 words.
pub words_within : (line : List ℕ) → length line ≤ longest_line → length (drop 1 (words_of line)) ≤ key_room
words_within line short =
    omega (arith, short, words-size (slice_split is_blank line), size-slice_split is_blank line, length-drop 1 (words_of line))

-- The keys so far, followed by those that the remaining words name.
abbrev pub with_more : List Key → List (List ℕ) → Result (List Key) LineRefusal
with_more keys left = and_then (keys_of left) (λ others. Ok (keys ++ others))

some : (key : Result Key LineRefusal) (keys : Result (List Key) LineRefusal)
    → and_then key (λ key. and_then keys (λ keys. Ok (key ∷ keys))) ≡ Ok [] → ⊥
some (Ok key) (Ok keys) e = cc
some (Ok key) (Err refusal) e = cc
some (Err refusal) keys e = cc

pub lacks_keys : (names : List (List ℕ)) (keys : List Key) → keys_of names ≡ Ok keys → (length keys == 0) ≡ true
    → key_command names ≡ Err BadCommand
lacks_keys [] keys e none = refl
lacks_keys (name ∷ names) [] e none = absurd (some (key_of name) (keys_of names) e)
lacks_keys (name ∷ names) (key ∷ keys) e none = let nothing = eqb-true (length (key ∷ keys)) 0 none in absurd (omega arith)

-- No word remains.
pub all_named : (names left : List (List ℕ)) (keys : List Key) → keys_of names ≡ with_more keys left → left ≡ [] → keys_of names ≡ Ok keys
all_named names left keys named none = named ∙ ap (with_more keys) none ∙ ap (λ (all : List Key). Ok all) (append-nil keys)
