-- What holds of every source and of every list of words, whatever the code does: each has one text
-- and one end, by its words, or else by its first error or wrong word; and the lines of words are a
-- list of these words.
use Rattle.std.specs.Prelude.{◌≡◌, ◌<◌, ◌≤◌, ◌+◌, ℕ, Bool, true, false, List, [], ◌∷◌, ◌++◌, length}
use Rattle.std.specs.Prelude.{All, Some, is_some}
use Rattle.std.specs.List.{list_all}
use Rattle.h41_asm.specs.Assembly.{Assembles, address_count}
use Rattle.h41_asm.specs.Faults.{assembly_fault}
use Rattle.h41_asm.specs.declared.fault.SourceFault.{SourceFault}
use Rattle.h41_commands.specs.declared.refusal.LineRefusal.TheVariants.{Source}
use Rattle.h41_dis.specs.Spelling.{spell}
use Rattle.h41_ends.specs.Ends.{most_bytes}
use Rattle.h41_refusals.specs.Refusals.{refusal_line}
use Rattle.h41_refusals.specs.declared.refusal.Refusal.TheVariants.{Line}
use Rattle.h41_words.specs.Counts.{word_count}
use Rattle.h41_jobs.specs.declared.ended.Ended.{Ended}
use Rattle.h41_jobs.specs.declared.ended.Ended.TheVariants.{Accepted, Refused, WrongWord}
use Rattle.h41_jobs.specs.Texts.{AssemblyEnds, AssemblyText, ListingEnds, ListingText}
use Rattle.h41_jobs.specs.WordTexts.{WritesWords, parts_of, word_lines, word_value}

-- Exactly one answer is right.
pub record HasOne {A : Type 0} (IsRight : A → Type 0) : Type 0 where
  pub answer : A
  pub right : IsRight answer
  pub only : (other : A) → IsRight other → other ≡ answer

-- A source within the limit has one text at each origin.
abbrev pub SourceHasOneText : Type 0
SourceHasOneText =
    (origin : ℕ) (source : List ℕ) → origin < address_count → length source ≤ most_bytes
    → HasOne (AssemblyText origin source)

-- A source within the limit ends in one way at each origin.
abbrev pub SourceHasOneEnd : Type 0
SourceHasOneEnd =
    (origin : ℕ) (source : List ℕ) → origin < address_count → length source ≤ most_bytes
    → HasOne (λ ended. AssemblyEnds origin ended source)

-- A source without an error ends well, with the lines of its words.
abbrev pub WordsArePrinted : Type 0
WordsArePrinted =
    (origin : ℕ) (source words text : List ℕ) (ended : Ended) → Assembles source origin words
    → AssemblyText origin source text → AssemblyEnds origin ended source
    → (text ≡ word_lines words) × (ended ≡ Accepted)

-- A source with an error is refused, with its first error and the number of the source line.
abbrev pub FaultIsPrinted : Type 0
FaultIsPrinted =
    (origin : ℕ) (source text : List ℕ) (ended : Ended) (fault : SourceFault) (line : ℕ)
    → assembly_fault source origin ≡ Some (fault, line)
    → AssemblyText origin source text → AssemblyEnds origin ended source
    → (text ≡ refusal_line (Line (Source fault line))) × (ended ≡ Refused)

-- A list of words within the limit has one text.
abbrev pub ListHasOneText : Type 0
ListHasOneText = (list : List ℕ) → length list ≤ most_bytes → HasOne (ListingText list)

-- A list of words within the limit ends in one way.
abbrev pub ListHasOneEnd : Type 0
ListHasOneEnd =
    (list : List ℕ) → length list ≤ most_bytes → HasOne (λ ended. ListingEnds ended list)

-- A list without a wrong word ends well, with the listing of its words.
abbrev pub WordsAreListed : Type 0
WordsAreListed =
    (list words text : List ℕ) (ended : Ended) → WritesWords list words
    → ListingText list text → ListingEnds ended list → (text ≡ spell words) × (ended ≡ Accepted)

-- Whether a part of a list is a word.
abbrev pub is_word : List ℕ → Bool
is_word part = is_some (word_value part)

-- The part of a list with this number, counted from 1, is the first that is not a word.
pub record IsFirstWrong (list : List ℕ) (number : ℕ) : Type 0 where
  pub before : List (List ℕ)
  pub part : List ℕ
  pub after : List (List ℕ)
  pub parts : parts_of list ≡ before ++ part ∷ after
  pub words : list_all is_word before ≡ true
  pub wrong : is_word part ≡ false
  pub place : number ≡ length before + 1

-- A list with such a part ends with its number, and has no text.
abbrev pub WrongWordIsReported : Type 0
WrongWordIsReported =
    (list text : List ℕ) (number : ℕ) (ended : Ended) → IsFirstWrong list number
    → ListingText list text → ListingEnds ended list
    → (text ≡ []) × (ended ≡ WrongWord number)

-- The lines that are printed for words are a list of these words.
abbrev pub PrintedWordsAreRead : Type 0
PrintedWordsAreRead =
    (words : List ℕ) → All (λ word. word < word_count) words → WritesWords (word_lines words) words
