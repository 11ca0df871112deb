-- A call of a subroutine whose theorem says what memory has become: XEQ, the subroutine, and the lines after XEQ.
use Rattle.std.proofs.Common.{◌≡◌, ℕ, ◌+◌, ◌-◌, ◌<◌, ◌≤◌, Bool, true, false, List, [], ◌∷◌, ◌++◌, Some, drop, length, length-append}
use Rattle.std.proofs.Common.{refl, sym, ap, ◌∙◌, subst, arith, if◌then◌else◌}
use Rattle.std.specs.Prelude.{◌==◌}
use Rattle.std.proofs.lemmas.Bool.{eqb-true, eqb-false}
use Rattle.h41_codes.specs.declared.functions.Branch.TheVariants.{Execute}
use Rattle.h41_codes.specs.declared.functions.NameFunction.TheVariants.{ExecuteName, GoToName}
use Rattle.h41_codes.specs.declared.line.Line.{Line}
use Rattle.h41_codes.specs.declared.line.Line.TheVariants.{BranchTo, Named}
use Rattle.h41_focal.specs.Destinations.{with_return}
use Rattle.h41_focal.specs.LineStep.{Left, left_done}
use Rattle.h41_pages.specs.PageMap.{PageMap}
use Rattle.h41_positions.specs.FocalState.{Machine}
use Rattle.h41_positions.specs.declared.position.Position.{Position}
use Rattle.h41_positions.specs.declared.position.Position.TheVariants.{Memory}
use Rattle.h41_program.specs.Edits.{lines_of}
use Rattle.h41_program.specs.ProgramBytes.{final_position, program_bytes}
use Rattle.h41_program.specs.ProgramLines.{Reads}
use Rattle.h41_program.specs.Searches.{AnswersLocal, named_in, position_of}
use Rattle.h41_program.specs.declared.listed_line.ListedLine.{ListedLine}
use Rattle.h41_program.proofs.Depends as depends
use Rattle.h41_ram.specs.NamedRegisters.{size_of}
use Rattle.h41_ram.specs.RamState.{SameProgram}
use Rattle.h41_ram.specs.RegisterMap.{IsMemory, RegisterMap, is_sound, register_at}
use Rattle.h41_reasoning_lines.specs.LineRuns.{Continues, HasReturned, Leaves}
use Rattle.h41_reasoning_lines.specs.ProgramLines.{FindsName, HasProgram, IsProgram}
use Rattle.h41_reasoning_lines.specs.ProgramStates.{HasBecome, data_in, with_content}
use Rattle.h41_reasoning_lines.specs.Stacks.{Stack}
use Rattle.h41_reasoning_lines.specs.Subroutines.{IsBack}
use Rattle.h41_reasoning_lines.proofs.Listed.{IsListed, also, lines_from, IsLineAt}
use Rattle.h41_reasoning_lines.proofs.Programs.{lines_also, program_also}
use Rattle.h41_reasoning_lines.proofs.ProgramStates.{address_stays, curtain_stays, program_stays, size_stays}
use Rattle.h41_reasoning_lines.proofs.Rounds.{leaves_as, leaves_in_turn, line_then}
use Rattle.h41_reasoning_lines.proofs.Stepping.{after_line, before_line, executes, executes_named, goes_named}
use Rattle.h41_reasoning_lines.proofs.Subroutines.{call_returns}

-- XEQ adds one return address, if there are at most five.
pub one_return_more : (returns : List Position) (next : Position) (most : ℕ) → length returns ≤ most → most ≤ 5
    → length (with_return returns next) ≤ most + 1
one_return_more returns next most few small =
    let none : length returns - 5 ≡ 0 = omega (arith, few, small) in
    let all : length (with_return returns next) ≡ length (returns ++ next ∷ []) =
    ap (λ (dropped : ℕ). length (drop dropped returns ++ next ∷ [])) none in
    let more : length (returns ++ next ∷ []) ≡ length returns + 1 = length-append returns (next ∷ []) in
    omega (arith, all, more, few)

-- A stack is known by its registers.
pub same_stack : (stack : Stack) (t z y x last : List ℕ) → stack.t ≡ t → stack.z ≡ z → stack.y ≡ y → stack.x ≡ x → stack.last ≡ last
    → stack ≡ record { t = t; z = z; y = y; x = x; last = last }
same_stack stack t z y x last t_is z_is y_is x_is last_is = rw (← t_is, ← z_is, ← y_is, ← x_is, ← last_is) refl

-- Data registers differ at most in one number, of which the content is known.
pub kept_but : (new contents : ℕ → List ℕ) (n : ℕ) (register : List ℕ) (k : ℕ) → new n ≡ register
    → ((k ≡ n → ⊥) → new k ≡ contents k)
    → new k ≡ with_content contents n register k
kept_but new contents n register k is others = by (k == n) refl
  where
    by : (same : Bool) → (k == n) ≡ same → new k ≡ (if same then register else contents k)
    by true same = ap new (eqb-true k n same) ∙ is
    by false other = others (eqb-false k n other)

-- A state after a subroutine, by its parts.
pub rebuilt : (s u : Machine) (next : ℕ) (Property : Left → Type 0) → IsBack s (Memory next) Property u
    → u ≡ before_line u.memory next false s.focal.returns u.focal.lift
rebuilt s u next Property back = rw (← back.position, ← back.no_line_00, ← back.returns) refl

-- Memory is described by other data registers with the same contents.
pub recontented : (old : RegisterMap) (stack : Stack) (contents others : ℕ → List ℕ) (memory : RegisterMap)
    → HasBecome old stack contents memory → ((n : ℕ) → contents n ≡ others n) → HasBecome old stack others memory
recontented old stack contents others memory is same = record {
  stack_is = is.stack_is;
  data_are = λ n inside. is.data_are n inside ∙ same n;
  status_is = is.status_is;
  sixteen = is.sixteen;
  size_is = is.size_is;
  rest_is = is.rest_is;
}

-- The lines after a line are a part of a program.
module _ (memory : RegisterMap) (sound : is_sound memory ≡ true) where
  pub rest_lines : (at : ℕ) (listed : List ListedLine) (line : Line) (more : List Line) (here : IsListed memory at listed line)
      → lines_of listed ≡ line ∷ more → lines_of here.rest ≡ more
  rest_lines at listed line more here are = tail_of here.first here.rest (ap lines_of (sym here.is_list) ∙ are)
    where
      tail_of : (first : ListedLine) (rest : List ListedLine) → lines_of (first ∷ rest) ≡ line ∷ more → lines_of rest ≡ more
      tail_of first rest same = cc

  pub part_of : (at : ℕ) (listed : List ListedLine) (lines others : List Line)
      → Reads (program_bytes memory) (final_position memory) at listed → lines_of listed ≡ lines ++ others
      → HasProgram memory at lines
  part_of at listed lines others reads are =
      record { listed = listed; others = others; from = lines_from memory sound at listed reads; are = are }

-- What is true of a memory after some lines.
module _ (pages : PageMap) (old : RegisterMap) (sixteen : length old.status ≡ 16) (sound : is_sound old ≡ true)
    (stack : Stack) (contents : ℕ → List ℕ) (memory : RegisterMap) (is : HasBecome old stack contents memory) where
  agree : SameProgram old memory
  agree = program_stays old sixteen sound stack contents memory is

  pub memory_there : (count : ℕ) → IsMemory count old → IsMemory count memory
  memory_there count known =
      record { status = is.sixteen; main = is.size_is ∙ known.main; least = known.least; most = known.most }

  pub sound_there : is_sound memory ≡ true
  sound_there = sym (depends.soundness old memory agree) ∙ sound

  pub size_there : (n : ℕ) → n < size_of old → n < size_of memory
  size_there n inside = subst (λ (size : ℕ). n < size) (sym (size_stays old sixteen sound stack contents memory is)) inside

  pub content_there : (n : ℕ) → n < size_of old → data_in memory n ≡ contents n
  content_there n inside =
      ap (λ (address : ℕ). register_at memory address) (address_stays old sixteen sound stack contents memory is n)
      ∙ is.data_are n inside

  pub lines_there : (at : ℕ) (lines : List Line) → HasProgram old at lines → HasProgram memory at lines
  lines_there at lines has = lines_also old memory at lines agree has

  pub program_there : (at : ℕ) (lines : List Line) → IsProgram old at lines → IsProgram memory at lines
  program_there at lines program = program_also old memory at lines agree program

  pub name_there : (name : List ℕ) (at : ℕ) → FindsName old name at → FindsName memory name at
  name_there name at finds =
      depends.answers old memory (λ (lines : List ListedLine). position_of (named_in name lines)) 0 (Some at) agree finds

  -- Memory after a subroutine, with what is known of its stack and its data registers.
  pub becomes : (left : Stack) (kept : ℕ → List ℕ) (after : RegisterMap) → HasBecome memory left kept after
      → (new : Stack) (others : ℕ → List ℕ) → left ≡ new → ((n : ℕ) → n < size_of old → kept n ≡ others n)
      → HasBecome old new others after
  becomes left kept after has new others stack_same same = record {
    stack_is = has.stack_is ∙ stack_same;
    data_are = λ n inside.
        ap (λ (address : ℕ). register_at after address) (sym (address_stays old sixteen sound stack contents memory is n))
        ∙ has.data_are n (size_there n inside) ∙ same n inside;
    status_is = has.status_is ∙ is.status_is;
    sixteen = has.sixteen;
    size_is = has.size_is ∙ is.size_is;
    rest_is = λ address from below.
        has.rest_is address from
        (subst (λ (curtain : ℕ). address < curtain) (sym (curtain_stays old sixteen sound stack contents memory is)) below)
        ∙ is.rest_is address from below;
  }

  module _ (at next : ℕ) (zero : Bool) (returns : List Position) (lift : Bool) where
    abbrev here : Machine
    here = before_line memory at zero returns lift

    abbrev called : ℕ → Machine
    called target = after_line memory target (with_return returns (Memory next)) lift

    -- XEQ with a name, and XEQ of a local label.
    pub calls_named : (name : List ℕ) (target : ℕ) → IsLineAt old at (Named ExecuteName name) next → FindsName old name target
        → Continues pages here (called target)
    calls_named name target line finds =
        executes_named pages memory at next zero returns lift name target (also old memory at _ next agree line)
        (name_there name target finds)

    pub calls_local : (n distance target : ℕ) (backwards : Bool) → IsLineAt old at (BranchTo Execute distance backwards n) next
        → AnswersLocal old next n (Some target)
        → Continues pages here (called target)
    calls_local n distance target backwards line found =
        executes pages memory at next zero returns lift n distance target backwards (also old memory at _ next agree line)
        (depends.local old memory next n (Some target) agree found)

    -- The run from XEQ on.
    pub call_then : (most rest target : ℕ) (Property After : Left → Type 0) → Continues pages here (called target)
        → length returns ≤ 5 → ((left : Left) → Property left → HasReturned (called target) left)
        → Leaves pages most (called target) Property
        → ((after : RegisterMap) (on : Bool) → Property (left_done (before_line after next false returns on))
        → Leaves pages rest (before_line after next false returns on) After)
        → Leaves pages (1 + most + rest) here After
    call_then most rest target Property After call few back leaves goes_on =
        leaves_in_turn pages (1 + most) rest here (IsBack here (Memory next) Property) After
        (call_returns pages most here (called target) (Memory next) Property call refl few back leaves)
        (λ u done.
        let same = rebuilt here u next Property done in
        subst (λ (t : Machine). Leaves pages rest t After) (sym same)
        (goes_on u.memory u.focal.lift (subst (λ (t : Machine). Property (left_done t)) same done.property)))

    -- GTO with a name. The program to which it leads returns to the caller of this one.
    abbrev gone : ℕ → Machine
    gone target = after_line memory target returns lift

    pub goes_to_named : (name : List ℕ) (target : ℕ) → IsLineAt old at (Named GoToName name) next → FindsName old name target
        → Continues pages here (gone target)
    goes_to_named name target line finds =
        goes_named pages memory at next zero returns lift name target (also old memory at _ next agree line)
        (name_there name target finds)

    pub go_then : (most target : ℕ) (Property After : Left → Type 0) → Continues pages here (gone target)
        → Leaves pages most (gone target) Property → ((left : Left) → Property left → After left)
        → Leaves pages (1 + most) here After
    go_then most target Property After goes leaves follows =
        line_then pages most here (gone target) After goes (leaves_as pages most (gone target) Property After follows leaves)
