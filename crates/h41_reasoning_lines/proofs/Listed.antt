-- Lines of memory in turn: each is read at its position, and is followed by the next.
use Rattle.std.proofs.Common.{◌≡◌, ℕ, ◌≤◌, Bool, true, false, List, [], ◌∷◌, ◌++◌, Ok, inl, inr, refl, sym, ap, ◌∙◌, arith}
use Rattle.std.specs.Prelude.{MatchBool, not, ◌&&◌, ◌||◌}
use Rattle.h41_codes.specs.declared.line.Line.{Line}
use Rattle.h41_focal.specs.LineStep.{StandsAt}
use Rattle.h41_pages.specs.PageMap.{PageMap}
use Rattle.h41_positions.specs.Positions.{in_memory}
use Rattle.h41_positions.specs.declared.position.Position.TheVariants.{Memory}
use Rattle.h41_program.specs.Edits.{lines_of}
use Rattle.h41_program.specs.Lines.{is_end, is_final_end}
use Rattle.h41_program.specs.ProgramBytes.{final_position, program_bytes}
use Rattle.h41_program.specs.FirstLines.{FirstFrom, behind}
use Rattle.h41_program.specs.ProgramLines.{AnswersNext, LinesFrom, PositionFrom, Reads}
use Rattle.h41_program.specs.declared.listed_line.ListedLine.{ListedLine}
use Rattle.h41_program.proofs.Depends as depends
use Rattle.h41_ram.specs.RamState.{SameProgram}
use Rattle.h41_ram.specs.RegisterMap.{RegisterMap, is_sound}
use Rattle.h41_reasoning_lines.specs.ProgramLines.{HasProgram, ends_program}

-- A line is the first one from a position on, and the next one is at another position.
pub record IsLineAt (memory : RegisterMap) (at : ℕ) (line : Line) (next : ℕ) : Type 0 where
  pub sound : is_sound memory ≡ true
  pub first : ListedLine
  pub reads : FirstFrom (program_bytes memory) (final_position memory) at first
  pub is : first.line ≡ line
  pub onward : AnswersNext memory at (Ok next)

-- The calculator reads the line at its position.
pub stands : (pages : PageMap) (memory : RegisterMap) (at : ℕ) (line : Line) (next : ℕ) → IsLineAt memory at line next
    → StandsAt pages memory (Memory at) (Ok (line, Memory next))
stands pages memory at line next is =
    (is.sound, (in_memory is.first, (Ok is.first, is.reads, refl), is.is), (Ok next, is.onward, refl))

-- The line is there in each memory with the same program.
pub also : (memory other : RegisterMap) (at : ℕ) (line : Line) (next : ℕ) → SameProgram memory other
    → IsLineAt memory at line next → IsLineAt other at line next
also memory other at line next agree is = record {
  sound = sym (depends.soundness memory other agree) ∙ is.sound;
  first = is.first;
  reads = depends.line memory other at (Ok is.first) agree is.reads;
  is = is.is;
  onward = depends.next memory other at (Ok next) agree is.onward;
}

-- A line is the first of a list of lines that is read from a position on, and the rest of the list is read from the next
-- position on, which is that of its first line.
abbrev pub BeginsAt : List ListedLine → ℕ → Type 0
BeginsAt [] next = Unit {0}
BeginsAt (second ∷ more) next = next ≡ second.position

pub record IsListed (memory : RegisterMap) (at : ℕ) (listed : List ListedLine) (line : Line) : Type 0 where
  pub first : ListedLine
  pub rest : List ListedLine
  pub next : ℕ
  pub is_list : listed ≡ first ∷ rest
  pub is : first.line ≡ line
  pub stands : IsLineAt memory at line next
  pub reads : Reads (program_bytes memory) (final_position memory) next rest
  pub begins : BeginsAt rest next
  pub onward : at ≤ next

-- A list of lines that is read from a position on begins with these lines, and something is true of the lines after them.
abbrev pub AreFollowed : RegisterMap → ℕ → List ListedLine → List Line → (ℕ → List ListedLine → Type 0) → Type 0
AreFollowed memory at listed [] Then = Then at listed
AreFollowed memory at listed (line ∷ lines) Then =
    (here : IsListed memory at listed line) × AreFollowed memory here.next here.rest lines Then

-- A list of lines that is read from a position on begins with these lines.
abbrev pub AreListed : RegisterMap → ℕ → List ListedLine → List Line → Type 0
AreListed memory at listed lines = AreFollowed memory at listed lines (λ next rest. Unit {0})

-- Whether none of these lines is END or .END.
abbrev pub has_no_end : List Line → Bool
has_no_end [] = true
has_no_end (line ∷ lines) = not (ends_program line) && has_no_end lines

-- None of these lines is .END.
abbrev pub NoneIsFinal : List Line → Type 0
NoneIsFinal [] = Unit {0}
NoneIsFinal (line ∷ lines) = (is_final_end line ≡ false) × NoneIsFinal lines

pub first_inner : (end final rest : Bool) → (not (end || final) && rest) ≡ true → (end ≡ false) × (final ≡ false) × (rest ≡ true)
first_inner false false rest holds = (refl, refl, holds)
first_inner false true rest holds = absurd (cc)
first_inner true final rest holds = absurd (cc)

module _ (memory : RegisterMap) (sound : is_sound memory ≡ true) where
  abbrev ReadsHere : ℕ → List ListedLine → Type 0
  ReadsHere at listed = Reads (program_bytes memory) (final_position memory) at listed

  -- From its own position on, a line is the first one.
  from_own : (at : ℕ) (first : ListedLine) → FirstFrom (program_bytes memory) (final_position memory) at first
      → FirstFrom (program_bytes memory) (final_position memory) first.position first
  from_own at first reads = record {
    from = omega arith;
    nulls = λ k from below. absurd (omega (arith, from, below));
    begins = reads.begins;
    not_null = reads.not_null;
  }

  -- The position of the next line, from which the rest of a list is read.
  pub record HasNext (at : ℕ) (rest : List ListedLine) : Type 0 where
    pub next : ℕ
    pub from : PositionFrom memory at next
    pub reads : ReadsHere next rest
    pub begins : BeginsAt rest next
    pub onward : at ≤ next

  pub next_of : (at : ℕ) (rest : List ListedLine) → ReadsHere at rest → HasNext at rest
  next_of at [] none = record { next = at; from = inr (none, refl); reads = none; begins = tt; onward = omega arith }
  next_of at (second ∷ more) reads = record {
    next = second.position;
    from = inl (second, reads.0, refl);
    reads = (from_own at second reads.0, reads.1);
    begins = refl;
    onward = reads.0.from;
  }

  pub rest_read : (first : ListedLine) (rest : List ListedLine) (final : Bool) → final ≡ false
      → MatchBool final (rest ≡ []) (ReadsHere (behind first) rest) → ReadsHere (behind first) rest
  rest_read first rest true is reads = absurd (cc)
  rest_read first rest false is reads = reads

  position_behind : (first : ListedLine) (next : ℕ) (final : Bool) → final ≡ false → PositionFrom memory (behind first) next
      → MatchBool final (next ≡ first.position) (PositionFrom memory (behind first) next)
  position_behind first next true is from = absurd (cc)
  position_behind first next false is from = from

  first_and_rest : (first : ListedLine) (rest : List ListedLine) (line : Line) (lines others : List Line)
      → lines_of (first ∷ rest) ≡ line ∷ (lines ++ others) → (first.line ≡ line) × (lines_of rest ≡ lines ++ others)
  first_and_rest first rest line lines others are = (cc, cc)

  -- The first line of a list that is read, unless it is .END.
  listed_first : (at : ℕ) (first : ListedLine) (rest : List ListedLine) (line : Line) → ReadsHere at (first ∷ rest) → first.line ≡ line
      → is_final_end line ≡ false
      → IsListed memory at (first ∷ rest) line
  listed_first at first rest line reads is other =
      let open_end : is_final_end first.line ≡ false = ap is_final_end is ∙ other in
      let found = next_of (behind first) rest (rest_read first rest (is_final_end first.line) open_end reads.1) in
      let from : at ≤ first.position = reads.0.from in
      record {
        first = first;
        rest = rest;
        next = found.next;
        is_list = refl;
        is = is;
        stands = record {
          sound = sound;
          first = first;
          reads = reads.0;
          is = is;
          onward = (first, reads.0, position_behind first found.next (is_final_end first.line) open_end found.from);
        };
        reads = found.reads;
        begins = found.begins;
        onward = omega (arith, from, found.onward);
      }

  pub followed_in_turn : (Then : ℕ → List ListedLine → Type 0) (at : ℕ) (listed : List ListedLine) (lines others : List Line)
      → ReadsHere at listed → lines_of listed ≡ lines ++ others → has_no_end lines ≡ true
      → ((next : ℕ) (rest : List ListedLine) → ReadsHere next rest → lines_of rest ≡ others → Then next rest)
      → AreFollowed memory at listed lines Then
  followed_in_turn Then at listed [] others reads are inner follows = follows at listed reads are
  followed_in_turn Then at [] (line ∷ lines) others reads are inner follows = absurd (cc)
  followed_in_turn Then at (first ∷ rest) (line ∷ lines) others reads are inner follows =
      let tests = first_inner (is_end line) (is_final_end line) (has_no_end lines) inner in
      let here = listed_first at first rest line reads (first_and_rest first rest line lines others are).0 tests.1 in
      let later = first_and_rest here.first here.rest line lines others (ap lines_of (sym here.is_list) ∙ are) in
      (here, followed_in_turn Then here.next here.rest lines others here.reads later.1 tests.2 follows)

  pub in_turn : (at : ℕ) (lines : List Line) (has : HasProgram memory at lines) → has_no_end lines ≡ true
      → AreListed memory at has.listed lines
  in_turn at lines has inner =
      followed_in_turn (λ next rest. Unit {0}) at has.listed lines has.others (has.from.sound sound) has.are inner
      (λ next rest reads are. tt)

  -- The same of lines of which the last may be END.
  listed_in_turn : (at : ℕ) (listed : List ListedLine) (lines others : List Line) → ReadsHere at listed
      → lines_of listed ≡ lines ++ others → NoneIsFinal lines → AreListed memory at listed lines
  listed_in_turn at listed [] others reads are inner = tt
  listed_in_turn at [] (line ∷ lines) others reads are inner = absurd (cc)
  listed_in_turn at (first ∷ rest) (line ∷ lines) others reads are inner =
      let here = listed_first at first rest line reads (first_and_rest first rest line lines others are).0 inner.0 in
      let later = first_and_rest here.first here.rest line lines others (ap lines_of (sym here.is_list) ∙ are) in
      (here, listed_in_turn here.next here.rest lines others here.reads later.1 inner.1)

  pub in_turn_to_end : (at : ℕ) (lines : List Line) (has : HasProgram memory at lines) → NoneIsFinal lines
      → AreListed memory at has.listed lines
  in_turn_to_end at lines has inner = listed_in_turn at has.listed lines has.others (has.from.sound sound) has.are inner

  -- What is read from a position on is the list of lines from there on.
  pub lines_from : (at : ℕ) (listed : List ListedLine) → ReadsHere at listed → LinesFrom memory at listed
  lines_from at listed reads =
      record { sound = λ yes. reads; lost = λ no. absurd (let never : true ≡ false = sym sound ∙ no in cc) }
