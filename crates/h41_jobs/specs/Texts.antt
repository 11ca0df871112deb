-- What is printed for a source and for a list of words, and how these jobs end.
use Rattle.std.specs.Global.{Global}
use Rattle.std.specs.Prelude.{◌≡◌, ℕ, ◌≤◌, Vec, List, [], ◌++◌, length}
use Rattle.std.specs.Prelude.{codes, Some, Result, Ok, Err}
use Rattle.std.specs.Fmt.{decimal}
use Rattle.h41_ends.specs.Ends.{most_bytes}
use Rattle.h41_commands.specs.PageBlocks.{SourceMakes}
use Rattle.h41_commands.specs.declared.refusal.LineRefusal.{LineRefusal}
use Rattle.h41_refusals.specs.declared.refusal.Refusal.TheVariants.{Line}
use Rattle.h41_refusals.specs.Refusals.{refusal_line}
use Rattle.h41_dis.specs.Spelling.{spell}
use Rattle.h41_jobs.specs.declared.ended.Answer.{Answer}
use Rattle.h41_jobs.specs.declared.ended.Ended.{Ended}
use Rattle.h41_jobs.specs.declared.ended.Ended.TheVariants.{Accepted, Refused, WrongWord}
use Rattle.h41_jobs.specs.WordTexts.{WritesWords, word_lines, wrong_word}

-- The result of a source at an origin, if it is not too long: its words, or its refusal.
pub record SourceAssemblesTo (origin : ℕ) (source : List ℕ)
    (given : Result (List ℕ) LineRefusal) : Type 0 where
  pub bound : length source ≤ most_bytes
  pub gives : SourceMakes source origin given

-- The lines of the words, or the line of the refusal.
abbrev pub given_text : Result (List ℕ) LineRefusal → List ℕ
given_text (Ok words) = word_lines words
given_text (Err refusal) = refusal_line (Line refusal)

-- The text that is printed for a source.
abbrev pub AssemblyText : ℕ → List ℕ → List ℕ → Type 0
AssemblyText origin source text =
    (given : Result (List ℕ) LineRefusal)
    × SourceAssemblesTo origin source given
    × (text ≡ given_text given)

-- The content of a text of words: the words, or the number of its first part that is not a word.
abbrev pub ReadsAs : List ℕ → Result (List ℕ) ℕ → Type 0
ReadsAs text (Ok words) = WritesWords text words
ReadsAs text (Err number) = wrong_word text ≡ Some number

-- The content that the code returns, as lists.
abbrev pub words_or_number : Result (Vec ℕ Global) ℕ → Result (List ℕ) ℕ
words_or_number (Ok words) = Ok words.items
words_or_number (Err number) = Err number

-- The content of a text that is not too long.
pub record ListReadsAs (text : List ℕ) (said : Result (List ℕ) ℕ) : Type 0 where
  pub bound : length text ≤ most_bytes
  pub says : ReadsAs text said

-- The listing of the words, and nothing if one is wrong.
abbrev pub list_text : Result (List ℕ) ℕ → List ℕ
list_text (Ok words) = spell words
list_text (Err number) = []

-- The text that is printed for a list of words.
abbrev pub ListingText : List ℕ → List ℕ → Type 0
ListingText input text =
    (said : Result (List ℕ) ℕ) × ListReadsAs input said × (text ≡ list_text said)

-- How a source ends, by its result.
abbrev pub ended_of_source : Result (List ℕ) LineRefusal → Ended
ended_of_source (Ok words) = Accepted
ended_of_source (Err refusal) = Refused

-- How a list of words ends, by its content.
abbrev pub ended_of_list : Result (List ℕ) ℕ → Ended
ended_of_list (Ok words) = Accepted
ended_of_list (Err number) = WrongWord number

-- How a source ends.
abbrev pub AssemblyEnds : ℕ → Ended → List ℕ → Type 0
AssemblyEnds origin ended source =
    (given : Result (List ℕ) LineRefusal)
    × SourceAssemblesTo origin source given
    × (ended ≡ ended_of_source given)

-- How a list of words ends.
abbrev pub ListingEnds : Ended → List ℕ → Type 0
ListingEnds ended input =
    (said : Result (List ℕ) ℕ) × ListReadsAs input said × (ended ≡ ended_of_list said)

-- A source has no wrong word.
abbrev pub HasNoWrongWord : Ended → Type 0
HasNoWrongWord Accepted = Unit {0}
HasNoWrongWord Refused = Unit {0}
HasNoWrongWord (WrongWord number) = ⊥

-- A list of words is never refused.
abbrev pub IsNotRefused : Ended → Type 0
IsNotRefused Accepted = Unit {0}
IsNotRefused Refused = ⊥
IsNotRefused (WrongWord number) = Unit {0}

-- What is printed for a source, and how it ends.
pub record AnswersSource (origin : ℕ) (source : List ℕ) (answer : Answer) : Type 0 where
  pub text : AssemblyText origin source answer.text.items
  pub ends : AssemblyEnds origin answer.ended source
  pub kind : HasNoWrongWord answer.ended

-- What is printed for a list of words, and how it ends.
pub record AnswersList (input : List ℕ) (answer : Answer) : Type 0 where
  pub text : ListingText input answer.text.items
  pub ends : ListingEnds answer.ended input
  pub kind : IsNotRefused answer.ended

-- The line that reports a wrong word by its number.
abbrev pub mistake_line : ℕ → List ℕ
mistake_line number =
    codes "error: word " ++ (decimal number ++ codes " is not a hexadecimal number up to 3FF\n")
