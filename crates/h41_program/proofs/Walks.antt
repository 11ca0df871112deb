-- A walk along the list of lines: the lines read so far, and the remaining ones.
use Rattle.std.proofs.Common.{◌≡◌, ℕ, Bool, true, false, List, [], ◌∷◌, ◌++◌, refl, sym, ◌∙◌, ap, subst, append_assoc, append-nil, Option}
use Rattle.std.proofs.Common.{Some, None, rules}
use Rattle.std.specs.Prelude.{MatchBool}
use Rattle.std.specs.Option.{option_map}
use Rattle.h41_program.specs.declared.listed_line.ListedLine.{ListedLine}
use Rattle.h41_program.specs.Edits.{before_end}
use Rattle.h41_program.specs.Lines.{is_final_end}
use Rattle.h41_program.specs.ProgramBytes.{program_bytes, final_position}
use Rattle.h41_program.specs.FirstLines.{IsFirst, NoneFrom}
use Rattle.h41_program.specs.ProgramLines.{Reads, LinesFrom}
use Rattle.h41_ram.specs.RegisterMap.{RegisterMap, is_sound}

-- The list of lines from a position on, by its first line.
pub first_rest : (bytes : List ℕ) (final at next : ℕ) (listed : ListedLine) (lines : List ListedLine) → IsFirst bytes final at listed next
    → Reads bytes final at lines
    → (rest : List ListedLine) × (lines ≡ listed ∷ rest) × MatchBool (is_final_end listed.line) (rest ≡ []) (Reads bytes final next rest)
first_rest bytes final at next listed [] is reads = absurd (reads listed is.first)
first_rest bytes final at next listed (first ∷ rest) is reads = search rules

pub no_rest : (bytes : List ℕ) (final at : ℕ) (lines : List ListedLine) → NoneFrom bytes final at → Reads bytes final at lines → lines ≡ []
no_rest bytes final at [] none reads = refl
no_rest bytes final at (first ∷ rest) none reads = absurd (none first reads.0)

-- .END. ends the list, and no other line does.
pub last_rest : (bytes : List ℕ) (final next : ℕ) (b : Bool) (rest : List ListedLine) → b ≡ true
    → MatchBool b (rest ≡ []) (Reads bytes final next rest) → rest ≡ []
last_rest bytes final next b rest is matches = subst (λ (t : Bool). MatchBool t (rest ≡ []) (Reads bytes final next rest)) is matches

pub more_rest : (bytes : List ℕ) (final next : ℕ) (b : Bool) (rest : List ListedLine) → b ≡ false
    → MatchBool b (rest ≡ []) (Reads bytes final next rest) → Reads bytes final next rest
more_rest bytes final next b rest is matches = subst (λ (t : Bool). MatchBool t (rest ≡ []) (Reads bytes final next rest)) is matches

-- These lines were read, none of them .END., and those from a position on remain.
pub record UpTo (bytes : List ℕ) (final from : ℕ) (before : List ListedLine) (at : ℕ) : Type 0 where
  pub split : (lines : List ListedLine) → Reads bytes final from lines
      → (rest : List ListedLine) × (lines ≡ before ++ rest) × Reads bytes final at rest
  pub joins : (rest : List ListedLine) → Reads bytes final at rest → Reads bytes final from (before ++ rest)
  pub running : (rest : List ListedLine) → before_end (before ++ rest) ≡ option_map (λ lines. before ++ lines) (before_end rest)

one_more : (before : List ListedLine) (listed : ListedLine) (o : Option (List ListedLine))
    → option_map (λ lines. before ++ lines) (option_map (λ lines. listed ∷ lines) o)
    ≡ option_map (λ lines. (before ++ listed ∷ []) ++ lines) o
one_more before listed None = refl
one_more before listed (Some lines) = ap (λ (l : List ListedLine). Some l) (sym (append_assoc before (listed ∷ []) lines))

pub up_to_none : (bytes : List ℕ) (final from : ℕ) → UpTo bytes final from [] from
up_to_none bytes final from = search rules

before_end-other : (listed : ListedLine) (rest : List ListedLine) → is_final_end listed.line ≡ false
    → before_end (listed ∷ rest) ≡ option_map (λ lines. listed ∷ lines) (before_end rest)
before_end-other listed rest other = rw other refl

reads_on : (bytes : List ℕ) (final at next : ℕ) (listed : ListedLine) (rest : List ListedLine) → IsFirst bytes final at listed next
    → is_final_end listed.line ≡ false → Reads bytes final next rest → Reads bytes final at (listed ∷ rest)
reads_on bytes final at next listed rest is other reads = search rules

pub reads_last : (bytes : List ℕ) (final at next : ℕ) (listed : ListedLine) → IsFirst bytes final at listed next
    → is_final_end listed.line ≡ true → Reads bytes final at (listed ∷ [])
reads_last bytes final at next listed is last = search rules

pub up_to_more : (bytes : List ℕ) (final from at next : ℕ) (before : List ListedLine) (listed : ListedLine)
    → UpTo bytes final from before at → IsFirst bytes final at listed next → is_final_end listed.line ≡ false
    → UpTo bytes final from (before ++ listed ∷ []) next
up_to_more bytes final from at next before listed upto is other = record {
  split = λ lines reads.
      let parts = upto.split lines reads in
      let rest = first_rest bytes final at next listed parts.0 is parts.2 in (
        rest.0,
        parts.1 ∙ ap (λ (l : List ListedLine). before ++ l) rest.1 ∙ sym (append_assoc before (listed ∷ []) rest.0),
        more_rest bytes final next (is_final_end listed.line) rest.0 other rest.2,
      );
  joins = λ rest reads.
      subst (λ (l : List ListedLine). Reads bytes final from l) (sym (append_assoc before (listed ∷ []) rest))
      (upto.joins (listed ∷ rest) (reads_on bytes final at next listed rest is other reads));
  running = λ rest.
      ap before_end (append_assoc before (listed ∷ []) rest) ∙ upto.running (listed ∷ rest)
      ∙ ap (option_map (λ lines. before ++ lines)) (before_end-other listed rest other)
      ∙ one_more before listed (before_end rest);
}

-- The whole list, by the next line.
pub goes_on : (bytes : List ℕ) (final from at next : ℕ) (before lines : List ListedLine) (listed : ListedLine)
    → UpTo bytes final from before at → IsFirst bytes final at listed next → Reads bytes final from lines
    → (rest : List ListedLine) × (lines ≡ before ++ listed ∷ rest)
goes_on bytes final from at next before lines listed upto is reads =
    let parts = upto.split lines reads in
    let rest = first_rest bytes final at next listed parts.0 is parts.2 in
    (rest.0, parts.1 ∙ ap (λ (l : List ListedLine). before ++ l) rest.1)

-- The whole list, at its end.
pub ends_none : (bytes : List ℕ) (final from at : ℕ) (before lines : List ListedLine) → UpTo bytes final from before at
    → NoneFrom bytes final at → Reads bytes final from lines → lines ≡ before
ends_none bytes final from at before lines upto none reads = search (rules, no_rest, append-nil)

pub ends_final : (bytes : List ℕ) (final from at next : ℕ) (before lines : List ListedLine) (listed : ListedLine)
    → UpTo bytes final from before at → IsFirst bytes final at listed next → is_final_end listed.line ≡ true → Reads bytes final from lines
    → lines ≡ before ++ listed ∷ []
ends_final bytes final from at next before lines listed upto is last reads =
    let parts = upto.split lines reads in
    let rest = first_rest bytes final at next listed parts.0 is parts.2 in
    parts.1
    ∙ ap (λ (l : List ListedLine). before ++ l)
    (rest.1 ∙ ap (λ (l : List ListedLine). listed ∷ l) (last_rest bytes final next (is_final_end listed.line) rest.0 last rest.2))

-- The list was read to its end.
pub all_none : (bytes : List ℕ) (final from at : ℕ) (before : List ListedLine) → UpTo bytes final from before at → NoneFrom bytes final at
    → Reads bytes final from before
all_none bytes final from at before upto none =
    subst (λ (l : List ListedLine). Reads bytes final from l) (append-nil before) (upto.joins [] none)

pub all_final : (bytes : List ℕ) (final from at next : ℕ) (before : List ListedLine) (listed : ListedLine) → UpTo bytes final from before at
    → IsFirst bytes final at listed next → is_final_end listed.line ≡ true → Reads bytes final from (before ++ listed ∷ [])
all_final bytes final from at next before listed upto is last = upto.joins (listed ∷ []) (reads_last bytes final at next listed is last)

-- The lines of sound memory.
pub from_reads : (memory : RegisterMap) (at : ℕ) (lines : List ListedLine) → is_sound memory ≡ true
    → Reads (program_bytes memory) (final_position memory) at lines → LinesFrom memory at lines
from_reads memory at lines sound reads = search rules

-- The lines before .END. There are none if the list ends otherwise.
pub before_end-none : (bytes : List ℕ) (final from at : ℕ) (before : List ListedLine) → UpTo bytes final from before at
    → before_end before ≡ None
before_end-none bytes final from at before upto = ap before_end (sym (append-nil before)) ∙ upto.running []

pub before_end-final : (bytes : List ℕ) (final from at : ℕ) (before : List ListedLine) (listed : ListedLine)
    → UpTo bytes final from before at → is_final_end listed.line ≡ true → before_end (before ++ listed ∷ []) ≡ Some before
before_end-final bytes final from at before listed upto last = search (rules, append-nil)
