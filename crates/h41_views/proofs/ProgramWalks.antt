-- Walks along the lines of program memory.
use Rattle.std.proofs.Common.{◌≡◌, ℕ, Bool, true, false, List, [], ◌∷◌, ◌++◌, flat_map, sym, ap, subst, append_assoc, append-nil, ◌∙◌}
use Rattle.std.proofs.lemmas.Grind.{flat_map-append}
use Rattle.std.specs.Prelude.{MatchBool}
use Rattle.h41_program.specs.declared.listed_line.ListedLine.{ListedLine}
use Rattle.h41_program.specs.Lines.{is_final_end}
use Rattle.h41_program.specs.ProgramBytes.{final_position, program_bytes}
use Rattle.h41_program.specs.FirstLines.{IsFirst, NoneFrom, behind}
use Rattle.h41_program.specs.ProgramLines.{Reads}
use Rattle.h41_program.proofs.Walks.{from_reads, reads_last}
use Rattle.h41_ram.specs.RegisterMap.{RegisterMap, is_sound}
use Rattle.h41_views.specs.ProgramListing.{ListsProgram, listed_line}

-- The list from a line on that is not .END.
reads_on : (bytes : List ℕ) (final at next : ℕ) (listed : ListedLine) (rest : List ListedLine) → IsFirst bytes final at listed next
    → is_final_end listed.line ≡ false → Reads bytes final next rest → Reads bytes final at (listed ∷ rest)
reads_on bytes final at next listed rest is other reads = (
  is.first,
  subst (λ (t : Bool). MatchBool t (rest ≡ []) (Reads bytes final (behind listed) rest)) (sym other)
      (subst (λ (n : ℕ). Reads bytes final n rest) is.behind reads),
)

-- These lines were listed, none of them .END., and the list continues from a position.
pub record Listed (memory : RegisterMap) (listing : List ℕ) (at : ℕ) : Type 0 where
  pub lines : List ListedLine
  pub text : listing ≡ flat_map listed_line lines
  pub joins : (rest : List ListedLine) → Reads (program_bytes memory) (final_position memory) at rest
      → Reads (program_bytes memory) (final_position memory) 0 (lines ++ rest)

listed_text : (listing : List ℕ) (lines : List ListedLine) (listed : ListedLine) (next : List ℕ) → listing ≡ flat_map listed_line lines
    → next ≡ listing ++ listed_line listed → next ≡ flat_map listed_line (lines ++ listed ∷ [])
listed_text listing lines listed next text more =
    more ∙ ap (λ (front : List ℕ). front ++ listed_line listed) text
    ∙ sym (flat_map-append listed_line lines (listed ∷ [])
    ∙ ap (λ (back : List ℕ). flat_map listed_line lines ++ back) (append-nil (listed_line listed)))

pub listed_more : (memory : RegisterMap) (listing next : List ℕ) (at behind : ℕ) (listed : ListedLine) → Listed memory listing at
    → IsFirst (program_bytes memory) (final_position memory) at listed behind → is_final_end listed.line ≡ false
    → next ≡ listing ++ listed_line listed → Listed memory next behind
listed_more memory listing next at behind listed before is other more = record {
  lines = before.lines ++ listed ∷ [];
  text = listed_text listing before.lines listed next before.text more;
  joins = λ rest reads.
      subst (λ (l : List ListedLine). Reads (program_bytes memory) (final_position memory) 0 l)
      (sym (append_assoc before.lines (listed ∷ []) rest))
      (before.joins (listed ∷ rest) (reads_on (program_bytes memory) (final_position memory) at behind listed rest is other reads));
}

pub lists_final : (memory : RegisterMap) (listing next : List ℕ) (at behind : ℕ) (listed : ListedLine) → is_sound memory ≡ true
    → Listed memory listing at → IsFirst (program_bytes memory) (final_position memory) at listed behind → is_final_end listed.line ≡ true
    → next ≡ listing ++ listed_line listed → ListsProgram memory next
lists_final memory listing next at behind listed sound before is last more = (
  before.lines ++ listed ∷ [],
  from_reads memory 0 (before.lines ++ listed ∷ []) sound
      (before.joins (listed ∷ []) (reads_last (program_bytes memory) (final_position memory) at behind listed is last)),
  listed_text listing before.lines listed next before.text more,
)

pub lists_none : (memory : RegisterMap) (listing : List ℕ) (at : ℕ) → is_sound memory ≡ true → Listed memory listing at
    → NoneFrom (program_bytes memory) (final_position memory) at → ListsProgram memory listing
lists_none memory listing at sound before none = (
  before.lines ++ [],
  from_reads memory 0 (before.lines ++ []) sound (before.joins [] none),
  before.text ∙ ap (flat_map listed_line) (sym (append-nil before.lines)),
)
