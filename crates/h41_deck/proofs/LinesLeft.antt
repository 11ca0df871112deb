-- The lines of a deck that remain after those that were read.
use Rattle.std.proofs.Common.{inl, inr, ◌≡◌, ℕ, true, false, if◌then◌else◌, List, [], ◌∷◌, ◌++◌, drop, length, map, take}
use Rattle.std.proofs.Common.{length-take, refl, sym, ap, ◌∙◌, arith}
use Rattle.std.proofs.Math.Seq.{drop-append_seam, take-append_seam}
use Rattle.std.proofs.lemmas.Bool.{cases_Bool, cond-true, lt-ltb, ltb-false, ltb-true}
use Rattle.std.proofs.lemmas.List.{drop-map, map-append, take-append-drop, take_all}
use Rattle.std.specs.List.{take-map}
use Rattle.h41_commands.specs.Commands.{is_opening}
use Rattle.h41_commands.specs.DeckLines.{is_long, is_skipped}
use Rattle.h41_commands.specs.Items.{Spelled, commands, opens_first}
use Rattle.h41_commands.proofs.ToldCommands.{told_commands}
use Rattle.h41_ends.specs.InputLines.{told_lines, told_part}
use Rattle.h41_lines.specs.Lines.{lines}
use Rattle.h41_lines.specs.Words.{words_of}
use Rattle.h41_deck.specs.Deck.{LinesLeft}

-- What was read of a line that is too long is too long, and any other line was read whole.
told_long : (line : List ℕ) → is_long line ≡ true → is_long (told_part line) ≡ true
told_long line long =
    lt-ltb 200 (length (told_part line)) (omega (arith, ltb-true 200 (length line) long, length-take 201 line))

told_whole : (line : List ℕ) → is_long line ≡ false → told_part line ≡ line
told_whole line short = take_all 201 line (omega (arith, ltb-false 200 (length line) short))

-- So both open a block, or neither does.
told_opens : (lines : List (List ℕ)) → opens_first (map told_part lines) ≡ opens_first lines
told_opens [] = refl
told_opens (line ∷ rest) = elim (cases_Bool (is_long line)) [
  | inl long ↦
      cond-true (is_long (told_part line)) _ _ (told_long line long) ∙ sym (cond-true (is_long line) _ _ long)
  | inr short ↦
      let same = told_whole line short in
      λ i. if is_long (same i) then false else (if is_skipped (same i) then told_opens rest i else is_opening (words_of (same i)))
]

-- The lines that were read spell certain commands, whatever lines follow, or they open a block.
pub record OpensLeft (deck : List ℕ) (first : List Spelled) : Type 0 where
  pub left : List (List ℕ)
  pub lines_left : LinesLeft deck first left
  pub opens : opens_first left ≡ true

pub opens_left : (deck : List ℕ) (first : List Spelled) (told more : List (List ℕ)) → told_lines deck ≡ told ++ more
    → ((others : List (List ℕ)) → commands (told ++ others) ≡ first ++ commands others) → opens_first more ≡ true → OpensLeft deck first
opens_left deck first told more is spelled opens =
    let count = length told in
    let all = lines deck in
    let taken : map told_part (take count all) ≡ told =
    sym (take-map told_part count all) ∙ ap (λ (of : List (List ℕ)). take count of) is ∙ take-append_seam told more in
    let left : map told_part (drop count all) ≡ more =
    sym (drop-map told_part count all) ∙ ap (λ (of : List (List ℕ)). drop count of) is ∙ drop-append_seam told more in
    record {
      left = drop count all;
      lines_left = record {
        taken = take count all;
        whole = sym (take-append-drop count all);
        spelled = λ others.
            sym (told_commands (take count all ++ others)) ∙ ap commands (map-append told_part (take count all) others)
            ∙ ap (λ (of : List (List ℕ)). commands (of ++ map told_part others)) taken ∙ spelled (map told_part others)
            ∙ ap (λ (items : List Spelled). first ++ items) (told_commands others);
      };
      opens = sym (told_opens (drop count all)) ∙ ap opens_first left ∙ opens;
    }

-- The remaining commands are those that these lines spell.
pub left_spelled : (deck : List ℕ) (first : List Spelled) (left : List (List ℕ)) → LinesLeft deck first left
    → commands (lines deck) ≡ first ++ commands left
left_spelled deck first left lines_left = ap commands lines_left.whole ∙ lines_left.spelled left
