-- Programs in memory: their lines up to END or .END., and where GTO leads in them.
use Rattle.std.proofs.Common.{◌≡◌, ℕ, ◌≤◌, Bool, true, false, List, [], ◌∷◌, ◌++◌, Some, None, refl, sym, ap, ◌∙◌, subst, arith}
use Rattle.std.proofs.Common.{append_assoc}
use Rattle.std.specs.Prelude.{MatchBool, not, ◌&&◌}
use Rattle.h41_codes.specs.declared.line.Line.{Line}
use Rattle.h41_codes.specs.declared.line.Line.TheVariants.{End, FinalEnd}
use Rattle.h41_program.specs.Edits.{lines_of}
use Rattle.h41_program.specs.Lines.{is_end, is_final_end, is_label}
use Rattle.h41_program.specs.ProgramBytes.{final_position, program_bytes}
use Rattle.h41_program.specs.ProgramLaws.{ReadIsDetermined}
use Rattle.h41_program.specs.FirstLines.{behind}
use Rattle.h41_program.specs.ProgramLines.{AnswersOf, PositionBehind, PositionFrom, Reads}
use Rattle.h41_program.specs.Searches.{AnswersLocal, label_in, position_of, start_in}
use Rattle.h41_program.specs.declared.listed_line.ListedLine.{ListedLine}
use Rattle.h41_program.proofs.Depends as depends
use Rattle.h41_program.proofs.SearchSteps.{label_in-end, label_in-other}
use Rattle.h41_ram.specs.RamState.{SameProgram}
use Rattle.h41_ram.specs.RegisterMap.{RegisterMap, is_sound}
use Rattle.h41_reasoning_lines.specs.ProgramLines.{HasProgram, IsProgram, ends_program}
use Rattle.h41_reasoning_lines.proofs.Labels.{NoneOf, ends_before, found_back, found_onward, label_after, label_here, no_end, none_late}
use Rattle.h41_reasoning_lines.proofs.Labels.{position_next}
use Rattle.h41_reasoning_lines.proofs.Listed.{AreFollowed, IsLineAt, IsListed, first_inner, followed_in_turn, has_no_end, next_of}

-- The last line of a program. Nothing is said of the lines after it.
pub record IsLast (memory : RegisterMap) (line : Line) (at : ℕ) (listed : List ListedLine) : Type 0 where
  pub next : ℕ
  pub stands : IsLineAt memory at line next
  pub no_label : (n : ℕ) → position_of (label_in n listed) ≡ None

-- A list of lines that is read from a position on begins with these lines, the last of which is END or .END.
abbrev pub AreAll : RegisterMap → ℕ → List ListedLine → List Line → Line → Type 0
AreAll memory at listed lines last = AreFollowed memory at listed lines (IsLast memory last)

-- Whether none of these lines is LBL n.
abbrev pub has_no_label : ℕ → List Line → Bool
has_no_label n [] = true
has_no_label n (line ∷ lines) = not (is_label n line) && has_no_label n lines

not_label : (label rest : Bool) → (not label && rest) ≡ true → (label ≡ false) × (rest ≡ true)
not_label false rest holds = (refl, holds)
not_label true rest holds = absurd (cc)

-- A line among others.
pub record IsAmong (memory : RegisterMap) (line : Line) (after : List Line) (Then : ℕ → List ListedLine → Type 0) : Type 0 where
  pub from : ℕ
  pub own : List ListedLine
  pub here : IsListed memory from own line
  pub rest : AreFollowed memory here.next here.rest after Then

abbrev pub among : (memory : RegisterMap) (line : Line) (after : List Line) (Then : ℕ → List ListedLine → Type 0) (at : ℕ)
    (listed : List ListedLine) (before : List Line) → AreFollowed memory at listed (before ++ line ∷ after) Then
    → IsAmong memory line after Then
among memory line after Then at listed [] are = record { from = at; own = listed; here = are.0; rest = are.1 }
among memory line after Then at listed (first ∷ before) are = among memory line after Then are.0.next are.0.rest before are.1

module _ (memory : RegisterMap) (sound : is_sound memory ≡ true) where
  abbrev ReadsThere : ℕ → List ListedLine → Type 0
  ReadsThere at listed = Reads (program_bytes memory) (final_position memory) at listed

  record HasBehind (first : ListedLine) : Type 0 where
    next : ℕ
    position : PositionBehind memory first next

  behind_last : (first : ListedLine) (rest : List ListedLine) (final : Bool) → is_final_end first.line ≡ final
      → MatchBool final (rest ≡ []) (ReadsThere (behind first) rest) → HasBehind first
  behind_last first rest true is reads = record {
    next = first.position;
    position =
        subst (λ (b : Bool). MatchBool b (first.position ≡ first.position) (PositionFrom memory (behind first) first.position)) (sym is)
        refl;
  }
  behind_last first rest false is reads =
      let found = next_of memory sound (behind first) rest reads in
      record {
        next = found.next;
        position =
            subst (λ (b : Bool). MatchBool b (found.next ≡ first.position) (PositionFrom memory (behind first) found.next)) (sym is)
            found.from;
      }

  no_label_last : (n : ℕ) (first : ListedLine) (rest : List ListedLine) (last : Line) → first.line ≡ last → ends_program last ≡ true
      → MatchBool (is_final_end first.line) (rest ≡ []) (ReadsThere (behind first) rest)
      → position_of (label_in n (first ∷ rest)) ≡ None
  no_label_last n first rest (End link marks) is ends reads = ap position_of (label_in-end n first rest (ap is_end is))
  no_label_last n first rest (FinalEnd link marks) is ends reads =
      let none : rest ≡ [] =
      subst (λ (b : Bool). MatchBool b (rest ≡ []) (ReadsThere (behind first) rest)) (ap is_final_end is) reads in
      ap position_of (label_in-other n first rest (ap is_end is) (ap (is_label n) is))
      ∙ ap (λ (lines : List ListedLine). position_of (label_in n lines)) none
  no_label_last n first rest last is ends reads = absurd (cc)

  last_listed : (at : ℕ) (listed : List ListedLine) (last : Line) (others : List Line) → ends_program last ≡ true → ReadsThere at listed
      → lines_of listed ≡ last ∷ others
      → IsLast memory last at listed
  last_listed at [] last others ends reads are = absurd (cc)
  last_listed at (first ∷ rest) last others ends reads are =
      let is : first.line ≡ last = cc in
      let after = behind_last first rest (is_final_end first.line) refl reads.1 in
      record {
        next = after.next;
        stands = record { sound = sound; first = first; reads = reads.0; is = is; onward = (first, reads.0, after.position) };
        no_label = λ n. no_label_last n first rest last is ends reads.1;
      }

  pub all_in_turn : (at : ℕ) (lines : List Line) (last : Line) (has : HasProgram memory at (lines ++ last ∷ [])) → has_no_end lines ≡ true
      → ends_program last ≡ true
      → AreAll memory at has.listed lines last
  all_in_turn at lines last has inner ends =
      followed_in_turn memory sound (IsLast memory last) at has.listed lines (last ∷ has.others) (has.from.sound sound)
      (has.are ∙ append_assoc lines (last ∷ []) has.others) inner
      (λ next rest reads are. last_listed next rest last has.others ends reads are)

  -- What the lines before a line say of it.
  module _ (line : Line) (after : List Line) (Then : ℕ → List ListedLine → Type 0) where
    onward : (at : ℕ) (listed : List ListedLine) (before : List Line) (are : AreFollowed memory at listed (before ++ line ∷ after) Then)
        → at ≤ (among memory line after Then at listed before are).from
    onward at listed [] are = omega arith
    onward at listed (first ∷ before) are =
        let low : at ≤ are.0.next = are.0.onward in
        let more : are.0.next ≤ (among memory line after Then are.0.next are.0.rest before are.1).from =
        onward are.0.next are.0.rest before are.1 in
        omega (arith, low, more)

    no_end_up_to : (p at : ℕ) (listed : List ListedLine) (before : List Line)
        (are : AreFollowed memory at listed (before ++ line ∷ after) Then) → has_no_end before ≡ true
        → NoneOf (ends_before p) (among memory line after Then at listed before are).own → NoneOf (ends_before p) listed
    no_end_up_to p at listed [] are inner none = none
    no_end_up_to p at listed (first ∷ before) are inner none =
        let tests = first_inner (is_end first) (is_final_end first) (has_no_end before) inner in
        no_end memory sound p at listed first are.0 tests.0 (no_end_up_to p are.0.next are.0.rest before are.1 tests.2 none)

    label_up_to : (n at : ℕ) (listed : List ListedLine) (before : List Line)
        (are : AreFollowed memory at listed (before ++ line ∷ after) Then) → has_no_end before ≡ true → has_no_label n before ≡ true
        → position_of (label_in n listed) ≡ position_of (label_in n (among memory line after Then at listed before are).own)
    label_up_to n at listed [] are inner other = refl
    label_up_to n at listed (first ∷ before) are inner other =
        let tests = first_inner (is_end first) (is_final_end first) (has_no_end before) inner in
        let labels = not_label (is_label n first) (has_no_label n before) other in
        label_after memory sound at n listed first are.0 tests.0 labels.0
        ∙ label_up_to n are.0.next are.0.rest before are.1 tests.2 labels.1

    -- After another line, the line is at its own position.
    own_position : (at : ℕ) (listed : List ListedLine) (first : Line) (before : List Line)
        (are : AreFollowed memory at listed ((first ∷ before) ++ line ∷ after) Then)
        → (among memory line after Then at listed (first ∷ before) are).from
        ≡ (among memory line after Then at listed (first ∷ before) are).here.first.position
    own_position at listed first [] are = position_next memory sound at listed first are.0 line are.1.0
    own_position at listed first (second ∷ before) are = own_position are.0.next are.0.rest second before are.1

  no_label_to_end : (n : ℕ) (last : Line) (at : ℕ) (listed : List ListedLine) (lines : List Line) → AreAll memory at listed lines last
      → has_no_end lines ≡ true → has_no_label n lines ≡ true → position_of (label_in n listed) ≡ None
  no_label_to_end n last at listed [] are inner other = are.no_label n
  no_label_to_end n last at listed (line ∷ lines) are inner other =
      let tests = first_inner (is_end line) (is_final_end line) (has_no_end lines) inner in
      let labels = not_label (is_label n line) (has_no_label n lines) other in
      label_after memory sound at n listed line are.0 tests.0 labels.0
      ∙ no_label_to_end n last are.0.next are.0.rest lines are.1 tests.2 labels.1

  -- GTO n after LBL n leads back to it, if there is no LBL n before LBL n or after GTO n.
  module _ (one_reading : ReadIsDetermined) (at n : ℕ) (listed : List ListedLine) (reads : ReadsThere at listed)
      (begins : AnswersOf (start_in at) memory 0 at) (label go : Line) (label_inner : is_end label ≡ false)
      (is_target : is_label n label ≡ true)
      (go_inner : is_end go ≡ false) (last : Line) where
    module _ (first : Line) (before middle after : List Line)
        (are : AreAll memory at listed ((first ∷ before) ++ label ∷ (middle ++ go ∷ after)) last) where
      abbrev target_back : IsAmong memory label (middle ++ go ∷ after) (IsLast memory last)
      target_back = among memory label (middle ++ go ∷ after) (IsLast memory last) at listed (first ∷ before) are

      abbrev jump_back : IsAmong memory go after (IsLast memory last)
      jump_back = among memory go after (IsLast memory last) target_back.here.next target_back.here.rest middle target_back.rest

      pub leads_back : has_no_end (first ∷ before) ≡ true → has_no_label n (first ∷ before) ≡ true → has_no_end middle ≡ true
          → has_no_end after ≡ true → has_no_label n after ≡ true
          → AnswersLocal memory jump_back.here.next n (Some target_back.from)
      leads_back inner others inner_middle inner_after others_after =
          let down_to : at ≤ target_back.from =
          onward label (middle ++ go ∷ after) (IsLast memory last) at listed (first ∷ before) are in
          let past : target_back.from ≤ target_back.here.next = target_back.here.onward in
          let on_to : target_back.here.next ≤ jump_back.from =
          onward go after (IsLast memory last) target_back.here.next target_back.here.rest middle target_back.rest in
          let past_go : jump_back.from ≤ jump_back.here.next = jump_back.here.onward in
          subst (λ (target : ℕ). AnswersLocal memory jump_back.here.next n (Some target))
          (sym (own_position label (middle ++ go ∷ after) (IsLast memory last) at listed first before are))
          (found_back memory sound one_reading at jump_back.here.next n target_back.here.first.position begins.0 listed jump_back.here.rest
          (begins.1.sound sound) reads jump_back.here.reads begins.2 (omega (arith, down_to, past, on_to, past_go))
          (no_end_up_to label (middle ++ go ∷ after) (IsLast memory last) jump_back.here.next at listed (first ∷ before) are inner
          (no_end memory sound jump_back.here.next target_back.from target_back.own label target_back.here label_inner
          (no_end_up_to go after (IsLast memory last)
          jump_back.here.next target_back.here.next target_back.here.rest middle target_back.rest
          inner_middle
          (no_end memory sound jump_back.here.next jump_back.from jump_back.own go jump_back.here go_inner
          (none_late memory sound jump_back.here.next jump_back.here.next jump_back.here.rest (omega arith) jump_back.here.reads)))))
          (no_label_to_end n last jump_back.here.next jump_back.here.rest after jump_back.rest inner_after others_after)
          (label_here memory sound target_back.from n target_back.own label target_back.here is_target
          ∙ sym (label_up_to label (middle ++ go ∷ after) (IsLast memory last) n at listed (first ∷ before) are inner others)))

    -- GTO n before LBL n leads on to it, if there is no other LBL n between them.
    module _ (before : List Line) (second : Line) (middle after : List Line)
        (are : AreAll memory at listed (before ++ go ∷ ((second ∷ middle) ++ label ∷ after)) last) where
      abbrev jump_on : IsAmong memory go ((second ∷ middle) ++ label ∷ after) (IsLast memory last)
      jump_on = among memory go ((second ∷ middle) ++ label ∷ after) (IsLast memory last) at listed before are

      abbrev target_on : IsAmong memory label after (IsLast memory last)
      target_on = among memory label after (IsLast memory last) jump_on.here.next jump_on.here.rest (second ∷ middle) jump_on.rest

      pub leads_on : has_no_end before ≡ true → has_no_end (second ∷ middle) ≡ true → has_no_label n (second ∷ middle) ≡ true
          → AnswersLocal memory jump_on.here.next n (Some target_on.from)
      leads_on inner inner_middle others =
          let down_to : at ≤ jump_on.from =
          onward go ((second ∷ middle) ++ label ∷ after) (IsLast memory last) at listed before are in
          let past_go : jump_on.from ≤ jump_on.here.next = jump_on.here.onward in
          subst (λ (target : ℕ). AnswersLocal memory jump_on.here.next n (Some target))
          (sym (own_position label after (IsLast memory last) jump_on.here.next jump_on.here.rest second middle jump_on.rest))
          (found_onward memory sound one_reading at jump_on.here.next n target_on.here.first.position begins.0 listed jump_on.here.rest
          (begins.1.sound sound) reads jump_on.here.reads begins.2 (omega (arith, down_to, past_go))
          (no_end_up_to go ((second ∷ middle) ++ label ∷ after) (IsLast memory last) jump_on.here.next at listed before are inner
          (no_end memory sound jump_on.here.next jump_on.from jump_on.own go jump_on.here go_inner
          (none_late memory sound jump_on.here.next jump_on.here.next jump_on.here.rest (omega arith) jump_on.here.reads)))
          (label_here memory sound target_on.from n target_on.own label target_on.here is_target
          ∙ sym
          (label_up_to label after (IsLast memory last) n jump_on.here.next jump_on.here.rest (second ∷ middle) jump_on.rest inner_middle
          others)))

-- Lines and programs are there in each memory with the same program memory.
pub lines_also : (memory other : RegisterMap) (at : ℕ) (lines : List Line) → SameProgram memory other → HasProgram memory at lines
    → HasProgram other at lines
lines_also memory other at lines agree has =
    record { listed = has.listed; others = has.others; from = depends.lists memory other at has.listed agree has.from; are = has.are }

pub program_also : (memory other : RegisterMap) (at : ℕ) (lines : List Line) → SameProgram memory other → IsProgram memory at lines
    → IsProgram other at lines
program_also memory other at lines agree program = record {
  has = lines_also memory other at lines agree program.has;
  begins = depends.answers memory other (start_in at) 0 at agree program.begins;
}
