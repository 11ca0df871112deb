-- An option that is given twice is refused.
use Rattle.std.proofs.Common.{ap, ap₂, sym, refl, codes, true, false, List, Some, None, [], ◌∷◌, ◌++◌, ◌≡◌}
use Rattle.std.proofs.Common.{◌∙◌, ◌&&◌, ◌||◌, ◌⊎◌, drop, inl, inr, not, subst, take}
use Rattle.std.proofs.lemmas.Bool.{not-true, or_cases}
use Rattle.std.proofs.lemmas.List.{take-append-drop}
use Rattle.std.proofs.lemmas.Slice.Eq.{bytes_eq-Decides}
use Rattle.clap.specs.Words.{Row, Text}
use Rattle.clap.specs.Walk.{nothing_held, walk_from, walked}
use Rattle.clap.specs.Kinds.{Kinds, or_else}
use Rattle.clap.specs.Faults.{fault_of, level_fault, turn_fault, walk_fault}
use Rattle.clap.specs.declared.error.kind.ErrorKind.TheVariants as kind
use Rattle.clap.proofs.WalkLemmas.{both}
use Rattle.h41_jobs.specs.BenchCommand.{bench_app}
use Rattle.h41_jobs.specs.CommandLine.{give_two, gives_option, gives_twice, is_command, is_flag}
use Rattle.h41_jobs.proofs.WordTurns.{at, plain_turn}
use Rattle.h41_jobs.proofs.CommandWalks.{CommandName, asm_name, command_fault, dis_name, first_plain, leaf, name_text, run_name, taken}
use Rattle.h41_jobs.proofs.CommandLemmas.{IsRefusal, command_named, first_kinds, one_refusal}

-- The option of a command, up to its value.
abbrev pub option_text : CommandName → Text
option_text run_name = codes "--memory="
option_text asm_name = codes "--origin="
option_text dis_name = codes "--origin="

abbrev pub conflict : Kinds
conflict = kind.ArgumentConflict ∷ []

abbrev IsConflict : CommandName → List Text → Type 0
IsConflict c words = walk_fault (leaf c) [] (walk_from nothing_held) words ≡ conflict

-- What a parse keeps of the option.
abbrev pub held_rows : CommandName → Text → List Row
held_rows c a = (walked (leaf c).rules [] (at [] None 1 false) (option_text c ++ a)).held.rows

pub first_given : (c : CommandName) (a : Text)
    → (turn_fault (leaf c) [] (at [] None 1 false) (option_text c ++ a) ≡ [])
    × (walked (leaf c).rules [] (at [] None 1 false) (option_text c ++ a) ≡ at (held_rows c a) None 1 false)
unfolding walked
first_given run_name a = (refl, refl)
first_given asm_name a = (refl, refl)
first_given dis_name a = (refl, refl)

-- If one value is kept, another one is a conflict, whether FILE was read before or not.
again_given : (c : CommandName) (a b : Text) → turn_fault (leaf c) [] (at (held_rows c a) None 1 false) (option_text c ++ b) ≡ conflict
unfolding walked
again_given run_name a b = refl
again_given asm_name a b = refl
again_given dis_name a b = refl

again_after : (c : CommandName) (a file b : Text)
    → turn_fault (leaf c) [] (at (held_rows c a) (Some (codes "FILE", file ∷ [])) 2 false) (option_text c ++ b) ≡ conflict
unfolding walked
again_after run_name a file b = refl
again_after asm_name a file b = refl
again_after dis_name a file b = refl

-- FILE and then the option.
pub given_after : (c : CommandName) (file a : Text)
    → (turn_fault (leaf c) [] (taken file false) (option_text c ++ a) ≡ [])
    × ((b : Text) → turn_fault (leaf c) [] (walked (leaf c).rules [] (taken file false) (option_text c ++ a)) (option_text c ++ b)
    ≡ conflict)
unfolding walked
given_after run_name file a = (refl, λ b. refl)
given_after asm_name file a = (refl, λ b. refl)
given_after dis_name file a = (refl, λ b. refl)

-- The option and then FILE.
pub file_between : (c : CommandName) (a file : Text) → is_flag file ≡ false
    → (turn_fault (leaf c) [] (at (held_rows c a) None 1 false) file ≡ [])
    × (walked (leaf c).rules [] (at (held_rows c a) None 1 false) file ≡ at (held_rows c a) (Some (codes "FILE", file ∷ [])) 2 false)
file_between run_name a file plain = plain_turn (leaf run_name) [] (held_rows run_name a) None 1 file refl plain
file_between asm_name a file plain = plain_turn (leaf asm_name) [] (held_rows asm_name a) None 1 file refl plain
file_between dis_name a file plain = plain_turn (leaf dis_name) [] (held_rows dis_name a) None 1 file refl plain

module _ (c : CommandName) (rest : List Text) where
  two_first : (a b : Text) → IsConflict c ((option_text c ++ a) ∷ (option_text c ++ b) ∷ rest)
  unfolding walk_fault
  two_first a b =
      let first = first_given c a in
      ap₂ (λ k w. or_else k (walk_fault (leaf c) [] w ((option_text c ++ b) ∷ rest))) first.0 first.1
      ∙ ap (λ k. or_else k (walk_fault (leaf c) []
      (walked (leaf c).rules [] (at (held_rows c a) None 1 false) (option_text c ++ b)) rest)) (again_given c a b)

  two_around : (a file b : Text) → is_flag file ≡ false → IsConflict c ((option_text c ++ a) ∷ file ∷ (option_text c ++ b) ∷ rest)
  unfolding walk_fault
  two_around a file b plain =
      let first = first_given c a in
      let second = file_between c a file plain in
      let held = at (held_rows c a) (Some (codes "FILE", file ∷ [])) 2 false in
      ap₂ (λ k w. or_else k (walk_fault (leaf c) [] w (file ∷ (option_text c ++ b) ∷ rest))) first.0 first.1
      ∙ ap₂ (λ k w. or_else k (walk_fault (leaf c) [] w ((option_text c ++ b) ∷ rest))) second.0 second.1
      ∙ ap (λ k. or_else k (walk_fault (leaf c) [] (walked (leaf c).rules [] held (option_text c ++ b)) rest))
      (again_after c a file b)

  two_behind : (file a b : Text) → is_flag file ≡ false → IsConflict c (file ∷ (option_text c ++ a) ∷ (option_text c ++ b) ∷ rest)
  unfolding walk_fault
  two_behind file a b plain =
      let first = first_plain c file plain in
      let second = given_after c file a in
      let held = walked (leaf c).rules [] (taken file false) (option_text c ++ a) in
      ap₂ (λ k w. or_else k (walk_fault (leaf c) [] w ((option_text c ++ a) ∷ (option_text c ++ b) ∷ rest))) first.0 first.1
      ∙ ap (λ k. or_else k (walk_fault (leaf c) [] held ((option_text c ++ b) ∷ rest))) second.0
      ∙ ap (λ k. or_else k (walk_fault (leaf c) [] (walked (leaf c).rules [] held (option_text c ++ b)) rest)) (second.1 b)

-- A word that gives the option.
pub given_word : (c : CommandName) (word : Text) → gives_option (name_text c) word ≡ true → option_text c ++ drop 9 word ≡ word
given_word run_name word is =
    ap (λ (front : Text). front ++ drop 9 word) (sym ((bytes_eq-Decides (take 9 word) (codes "--memory=")).0 is)) ∙ take-append-drop 9 word
given_word asm_name word is =
    ap (λ (front : Text). front ++ drop 9 word) (sym ((bytes_eq-Decides (take 9 word) (codes "--origin=")).0 is)) ∙ take-append-drop 9 word
given_word dis_name word is =
    ap (λ (front : Text). front ++ drop 9 word) (sym ((bytes_eq-Decides (take 9 word) (codes "--origin=")).0 is)) ∙ take-append-drop 9 word

gives_at : (c : CommandName) (words : Text → List Text) (word : Text) → gives_option (name_text c) word ≡ true
    → IsConflict c (words (option_text c ++ drop 9 word)) → IsConflict c (words word)
gives_at c words word is fails = subst (λ (x : Text). IsConflict c (words x)) (given_word c word is) fails

two_fail : (c : CommandName) (words : List Text) → give_two (name_text c) words ≡ true → IsConflict c words
two_fail c [] is = cc
two_fail c (a ∷ []) is = cc
two_fail c (a ∷ b ∷ []) is = cc
two_fail c (a ∷ b ∷ d ∷ rest) is = go (or_cases _ _ is)
  where
    go : ((gives_option (name_text c) a && gives_option (name_text c) b) ≡ true)
        ⊎ (((gives_option (name_text c) a && (not (is_flag b) && gives_option (name_text c) d))
        || (not (is_flag a) && (gives_option (name_text c) b && gives_option (name_text c) d))) ≡ true) → IsConflict c (a ∷ b ∷ d ∷ rest)
    go (inl two) =
        let given = both _ _ two in
        gives_at c (λ x. x ∷ b ∷ d ∷ rest) a given.0
        (gives_at c (λ x. (option_text c ++ drop 9 a) ∷ x ∷ d ∷ rest) b given.1 (two_first c (d ∷ rest) (drop 9 a) (drop 9 b)))
    go (inr more) = elim (or_cases _ _ more) [
      | inl around ↦ (
          let given = both _ _ around in
          let other = both _ _ given.1 in
          gives_at c (λ x. x ∷ b ∷ d ∷ rest) a given.0
          (gives_at c (λ x. (option_text c ++ drop 9 a) ∷ b ∷ x ∷ rest) d other.1
          (two_around c rest (drop 9 a) b (drop 9 d) (not-true (is_flag b) other.0))))
      | inr behind ↦ (
          let given = both _ _ behind in
          let other = both _ _ given.1 in
          gives_at c (λ x. a ∷ x ∷ d ∷ rest) b other.0
          (gives_at c (λ x. a ∷ (option_text c ++ drop 9 b) ∷ x ∷ rest) d other.1
          (two_behind c rest a (drop 9 b) (drop 9 d) (not-true (is_flag a) given.0))))
    ]

twice_named : (c : CommandName) (name : Text) (rest : List Text) → give_two (name_text c) rest ≡ true
    → IsRefusal (fault_of bench_app (name ∷ name_text c ∷ rest))
twice_named c name rest is =
    one_refusal _ kind.ArgumentConflict
    (command_fault c name rest
    ∙ first_kinds (level_fault (leaf c) [] nothing_held rest false []) [] kind.ArgumentConflict []
    (first_kinds (walk_fault (leaf c) [] (walk_from nothing_held) rest) _ kind.ArgumentConflict [] (two_fail c rest is)))
    (λ e. cc, λ e. cc)

pub twice_refused : (words : List Text) → gives_twice words ≡ true → IsRefusal (fault_of bench_app words)
twice_refused [] is = cc
twice_refused (name ∷ []) is = cc
twice_refused (name ∷ command ∷ rest) is =
    let parts = both (is_command command) (give_two command rest) is in
    let c = command_named command parts.0 in
    subst (λ (x : Text). IsRefusal (fault_of bench_app (name ∷ x ∷ rest))) c.1
    (twice_named c.0 name rest (subst (λ (x : Text). give_two x rest ≡ true) (sym c.1) parts.1))
