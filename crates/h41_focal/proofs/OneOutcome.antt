-- A line has one outcome.
use Rattle.std.proofs.Common.{◌≡◌, ℕ, Bool, true, false, List, [], ◌∷◌, reverse, Option, Some, None, Result, Ok, Err, sym, ap, ◌∙◌, subst}
use Rattle.std.proofs.Common.{inl, inr}
use Rattle.std.specs.Option.{option_map}
use Rattle.std.specs.Prelude.{MatchBool}
use Rattle.h41_codes.specs.declared.functions.Function.{Function}
use Rattle.h41_codes.specs.declared.line.Line.{Line}
use Rattle.h41_codes.specs.declared.line.Line.TheVariants.{Module, Plain}
use Rattle.h41_focal.specs.Destinations.{Arrives, Asks, Destination, Goes, GoesBack, Halts, HasNoLabel, HasNoLine, Manner, Passes, Runs}
use Rattle.h41_focal.specs.Destinations.{Seeks, Stays, Stepped, StepsFrom, Tells, Typed, TypedFrom, found_at, lost_name, typed_at}
use Rattle.h41_focal.specs.LineLaws.{LineIsDetermined, NameIsDetermined, StepIsDetermined, TypedIsDetermined}
use Rattle.h41_focal.specs.LineStep.{Applies, AppliesTo, AppliesWith, CarriesOut, ComputesIn, Ends, Left, Stands, StandsAt, StepsAs}
use Rattle.h41_focal.specs.LineStep.{TakesLine, Works, answer_of_showing, named_by, with_row}
use Rattle.h41_positions.specs.FocalState.{Machine}
use Rattle.h41_focal.specs.Outcomes.{Answer}
use Rattle.h41_focal.specs.Outcomes as answers
use Rattle.h41_focal.specs.OutsideCalls as sources
use Rattle.h41_focal.specs.OutsideCalls.{CallsName, CarriesNamed, CarriesStanding, CarriesWhole, GoesOn, GoesOnFrom}
use Rattle.h41_focal.specs.declared.refusal.FocalRefusal.{FocalRefusal}
use Rattle.h41_focal.specs.declared.refusal.FocalRefusal.TheVariants.{BrokenProgram, MemoryLost, NotInProfile}
use Rattle.h41_pages.specs.FunctionTables.{function_of_name}
use Rattle.h41_pages.specs.PageMap.{PageMap}
use Rattle.h41_positions.proofs.OneNext.{same_next}
use Rattle.h41_positions.specs.PositionLaws.{HasOneAnswer, HasOneAnswerEach, IsReadOnce}
use Rattle.h41_positions.specs.Positions.{LineAt, LocalFrom, NextAt, StartOf}
use Rattle.h41_program.specs.SearchLaws.{AnswersAreDetermined}
use Rattle.h41_program.specs.Searches.{named_in, position_of}
use Rattle.h41_positions.specs.declared.position.PlacedLine.{PlacedLine}
use Rattle.h41_positions.specs.declared.position.Position.{Position}
use Rattle.h41_positions.specs.declared.position.Position.TheVariants.{Memory}
use Rattle.h41_program.specs.declared.refusal.ProgramRefusal.{ProgramRefusal}
use Rattle.h41_program.specs.declared.refusal.ProgramRefusal.TheVariants as refusals
use Rattle.h41_ram.specs.RegisterMap.{RegisterMap, is_sound}
use Rattle.h41_rows.specs.LineRows.{row_of}
use Rattle.h41_rows.specs.Operands.{Meant, meant_of}
use Rattle.h41_rows.specs.Places.{are_numbers}
use Rattle.h41_rows.specs.Profile.{is_left_out}
use Rattle.h41_rows.specs.RowEffects.{holds_in}
use Rattle.h41_rows.specs.RowLaws.{ValuesAreDetermined}
use Rattle.h41_rows.specs.Rows as rows
use Rattle.h41_rows.specs.Values.{Value}
use Rattle.h41_rows.specs.declared.fault.LineFault.{LineFault}
use Rattle.h41_rows.specs.declared.fault.LineFault.TheVariants.{AlphaData}

no_next : (once : IsReadOnce) (pages : PageMap) (memory : RegisterMap) (at a : Position)
    → NextAt pages memory at (Ok a) → NextAt pages memory at (Err refusals.BrokenProgram) → ⊥
no_next once pages memory at a p q =
    let never : ◌≡◌ {A = Result Position ProgramRefusal} (Ok a) (Err refusals.BrokenProgram) =
    once.next pages memory at (Ok a) (Err refusals.BrokenProgram) p q in
    cc

-- Two refusals are equal, because both depend on whether memory is sound.
same_refusal : (pages : PageMap) (sound : Bool) (memory : RegisterMap) (at : Position) (a b : FocalRefusal)
    → MatchBool sound ((a ≡ BrokenProgram) × (why : ProgramRefusal) × LineAt pages memory at (Err why)) (a ≡ MemoryLost)
    → MatchBool sound ((b ≡ BrokenProgram) × (why : ProgramRefusal) × LineAt pages memory at (Err why)) (b ≡ MemoryLost) → a ≡ b
same_refusal pages true memory at a b p q = p.0 ∙ sym q.0
same_refusal pages false memory at a b p q = p ∙ sym q

-- The line at a position is determined, given that each position is read in one way.
module _ (once : IsReadOnce) where
  pub same_line : (pages : PageMap) (memory : RegisterMap) (at : Position) (line other : Line)
      → (first : PlacedLine) × LineAt pages memory at (Ok first) × (first.line ≡ line)
      → (first : PlacedLine) × LineAt pages memory at (Ok first) × (first.line ≡ other) → line ≡ other
  same_line pages memory at line other (first, stands, is) (again, stands_so, is_so) =
      let same = once.line pages memory at (Ok first) (Ok again) stands stands_so in
      let one : first ≡ again = cc same in
      sym is ∙ (ap (λ (first : PlacedLine). first.line) one ∙ is_so)

  never_refused : (pages : PageMap) (memory : RegisterMap) (at : Position) (first : PlacedLine) (refusal : FocalRefusal)
      → is_sound memory ≡ true
      → LineAt pages memory at (Ok first) → StandsAt pages memory at (Err refusal) → ⊥
  never_refused pages memory at first refusal sound stands refused =
      let (is, why, none) = rw sound at refused in
      let same = once.line pages memory at (Ok first) (Err why) stands none in
      cc same

  same_standing : (pages : PageMap) (memory : RegisterMap) (at : Position) (a b : Result (Line × Position) FocalRefusal)
      → StandsAt pages memory at a → StandsAt pages memory at b → a ≡ b
  same_standing pages memory at (Ok (line, next)) (Ok (other, behind)) (sound, stands, goes) (sound_so, stands_so, goes_so) =
      ap (λ (line : Line). Ok (line, next)) (same_line pages memory at line other stands stands_so)
      ∙ ap (λ (next : Position). Ok (other, next)) (same_next once pages memory at next behind goes goes_so)
  same_standing pages memory at (Ok (line, next)) (Err refusal) (sound, (first, stands, is), goes) refused =
      absurd (never_refused pages memory at first refusal sound stands refused)
  same_standing pages memory at (Err refusal) (Ok (line, next)) refused (sound, (first, stands, is), goes) =
      absurd (never_refused pages memory at first refusal sound stands refused)
  same_standing pages memory at (Err refusal) (Err other) p q =
      ap (λ (why : FocalRefusal). Err why) (same_refusal pages (is_sound memory) memory at refusal other p q)

  -- An effect of the line at a position is determined if it is for each line.
  by_standing : {A : Type 0} (pages : PageMap) (does : Machine → Result (Line × Position) FocalRefusal → A → Type 0)
      → ((machine : Machine) (standing : Result (Line × Position) FocalRefusal) (a b : A)
      → does machine standing a → does machine standing b → a ≡ b)
      → (machine : Machine) (a b : A)
      → (standing : Result (Line × Position) FocalRefusal) × Stands pages machine standing × does machine standing a
      → (standing : Result (Line × Position) FocalRefusal) × Stands pages machine standing × does machine standing b → a ≡ b
  by_standing {A} pages does same machine a b (standing, stands, p) (other, stands_so, q) =
      same machine other a b
      (subst (λ (standing : Result (Line × Position) FocalRefusal). does machine standing a)
      (same_standing pages machine.memory machine.focal.position standing other stands stands_so) p) q

-- The register that a row computes is determined, given that each value has one register or one error.
module _ (same_value : ValuesAreDetermined) where
  same_computed : (memory : RegisterMap) (named : ℕ) (value : Option Value) (a b : Result (List ℕ) LineFault)
      → ComputesIn memory named value a → ComputesIn memory named value b → a ≡ b
  same_computed memory named None a b p q = p ∙ sym q
  same_computed memory named (Some value) a b p q = same_value value memory named a b p q

  same_by_numbers : (numbers : Bool) (memory : RegisterMap) (named : ℕ) (value : Option Value) (a b : Result (List ℕ) LineFault)
      → MatchBool numbers (ComputesIn memory named value a) (a ≡ Err AlphaData)
      → MatchBool numbers (ComputesIn memory named value b) (b ≡ Err AlphaData) → a ≡ b
  same_by_numbers true memory named value a b p q = same_computed memory named value a b p q
  same_by_numbers false memory named value a b p q = p ∙ sym q

  same_work : (memory : RegisterMap) (named : ℕ) (row : rows.LineRow) (a b : Result (List ℕ) LineFault)
      → Works memory named row a → Works memory named row b → a ≡ b
  same_work memory named row a b p q = same_by_numbers (are_numbers memory named (rows.numbers_of row)) memory named row.value a b p q

-- The place at which execution continues is determined, given also that each search has one answer.
module _
    (once : IsReadOnce)
    (same_start : HasOneAnswer StartOf)
    (same_local : HasOneAnswerEach LocalFrom)
    (same_global : AnswersAreDetermined (Option ℕ)) where
  same_pass : (pages : PageMap) (memory : RegisterMap) (next : Position) (returns : List Position) (a b : Destination)
      → Passes pages memory next returns a
      → Passes pages memory next returns b → a ≡ b
  same_pass pages memory next returns a b p q = elim p [
    | inl past ↦ elim q [
      | inl again ↦
          past.2 ∙ ap (λ (position : Position). Arrives position returns) (same_next once pages memory next past.0 again.0 past.1 again.1)
          ∙ sym again.2
      | inr none ↦ absurd (no_next once pages memory next past.0 past.1 none.0)
    ]
    | inr none ↦ elim q [
      | inl past ↦ absurd (no_next once pages memory next past.0 past.1 none.0)
      | inr again ↦ none.1 ∙ sym again.1
    ]
  ]

  same_asked : (pages : PageMap) (holds : Bool) (memory : RegisterMap) (next : Position) (returns : List Position) (a b : Destination)
      → Asks pages holds memory next returns a → Asks pages holds memory next returns b → a ≡ b
  same_asked pages true memory next returns a b p q = p ∙ sym q
  same_asked pages false memory next returns a b p q = same_pass pages memory next returns a b p q

  same_back : (pages : PageMap) (memory : RegisterMap) (at : Position) (latest_first : List Position) (a b : Destination)
      → GoesBack pages memory at latest_first a → GoesBack pages memory at latest_first b → a ≡ b
  same_back pages memory at [] a b p q =
      p.2 ∙ ap (λ (start : Position). Halts start) (same_start pages memory at p.0 q.0 p.1 q.1) ∙ sym q.2
  same_back pages memory at (latest ∷ others) a b p q = p ∙ sym q

  same_from_next : (pages : PageMap) (going : rows.Going) (memory : RegisterMap) (named : ℕ) (at next : Position) (returns : List Position)
      (a b : Destination)
      → StepsFrom pages going memory named at next returns a → StepsFrom pages going memory named at next returns b → a ≡ b
  same_from_next pages rows.Next memory named at next returns a b p q = p ∙ sym q
  same_from_next pages (rows.Tests condition) memory named at next returns a b p q =
      same_asked pages (holds_in memory named condition) memory next returns a b p q
  same_from_next pages (rows.Counts condition) memory named at next returns a b p q =
      same_asked pages (holds_in memory named condition) memory next returns a b p q
  same_from_next pages (rows.ToLabel branch label) memory named at next returns a b p q =
      p.2 ∙ ap (found_at branch next returns HasNoLabel) (same_local label pages memory next p.0 q.0 p.1 q.1) ∙ sym q.2
  same_from_next pages (rows.ToName branch name) memory named at next returns a b p q =
      p.2
      ∙ ap (λ (found : Option ℕ). found_at branch next returns (lost_name branch name) (option_map Memory found))
      (same_global memory (λ lines. position_of (named_in name lines)) 0 p.0 q.0 p.1 q.1)
      ∙ sym q.2
  same_from_next pages rows.Returns memory named at next returns a b p q = same_back pages memory at (reverse returns) a b p q

  same_from_here : (pages : PageMap) (going : rows.Going) (memory : RegisterMap) (named : ℕ) (at : Position) (returns : List Position)
      (a b : Destination)
      → TypedFrom pages going memory named at returns a → TypedFrom pages going memory named at returns b → a ≡ b
  same_from_here pages rows.Next memory named at returns a b p q = p ∙ sym q
  same_from_here pages (rows.Tests condition) memory named at returns a b p q = p ∙ sym q
  same_from_here pages (rows.Counts condition) memory named at returns a b p q = p ∙ sym q
  same_from_here pages (rows.ToLabel branch label) memory named at returns a b p q =
      p.2 ∙ ap (typed_at branch returns HasNoLabel) (same_local label pages memory at p.0 q.0 p.1 q.1) ∙ sym q.2
  same_from_here pages (rows.ToName branch name) memory named at returns a b p q =
      p.2
      ∙ ap (λ (found : Option ℕ). typed_at branch returns (lost_name branch name) (option_map Memory found))
      (same_global memory (λ lines. position_of (named_in name lines)) 0 p.0 q.0 p.1 q.1)
      ∙ sym q.2
  same_from_here pages rows.Returns memory named at returns a b p q =
      p.2 ∙ ap (λ (start : Position). Halts start) (same_start pages memory at p.0 q.0 p.1 q.1) ∙ sym q.2

  same_destination : (pages : PageMap) (how : Manner) (going : rows.Going) (memory : RegisterMap) (named : ℕ) (at : Position)
      (returns : List Position)
      (a b : Destination)
      → Goes pages how going memory named at returns a → Goes pages how going memory named at returns b → a ≡ b
  same_destination pages (Stepped next) going memory named at returns a b p q =
      same_from_next pages going memory named at next returns a b p q
  same_destination pages Typed going memory named at returns a b p q = same_from_here pages going memory named at returns a b p q

-- The outcome at such a place is determined.
same_end : (how : Manner) (old new : Machine) (answer : Answer) (to : Destination) (a b : Result Left FocalRefusal)
    → Ends how old new answer to a → Ends how old new answer to b → a ≡ b
same_end how old new answer (Arrives position returns) a b p q = p ∙ sym q
same_end (Stepped next) old new answer (Halts start) a b p q = p ∙ sym q
same_end Typed old new answer (Halts start) a b p q = p ∙ sym q
same_end how old new answer Stays a b p q = p ∙ sym q
same_end how old new answer (Tells holds) a b p q = p ∙ sym q
same_end how old new answer (Runs position) a b p q = p ∙ sym q
same_end how old new answer (Seeks name) a b p q = p ∙ sym q
same_end how old new answer HasNoLabel a b p q = p ∙ sym q
same_end how old new answer HasNoLine a b p q = p ∙ sym q

-- The outcome of a line is determined, given all of this.
module _
    (same_value : ValuesAreDetermined)
    (once : IsReadOnce)
    (same_start : HasOneAnswer StartOf)
    (same_local : HasOneAnswerEach LocalFrom)
    (same_global : AnswersAreDetermined (Option ℕ)) where
  same_with : (pages : PageMap) (how : Manner) (row : rows.LineRow) (named : ℕ) (machine : Machine)
      (result : Result (List ℕ) LineFault) (a b : Result Left FocalRefusal)
      → AppliesWith pages how row named machine result a → AppliesWith pages how row named machine result b → a ≡ b
  same_with pages how row named machine (Err fault) a b p q = p ∙ sym q
  same_with pages how row named machine (Ok result) a b p q =
      let new = with_row row named result machine in
      let answer = answer_of_showing machine.memory named row.shows row.ends in
      let same =
      same_destination once same_start same_local same_global pages how row.goes machine.memory
      named machine.focal.position machine.focal.returns p.0 q.0 p.1 q.1 in
      same_end how machine new answer q.0 a b (subst (λ (to : Destination). Ends how machine new answer to a) same p.2) q.2

  same_row : (pages : PageMap) (how : Manner) (row : rows.LineRow) (named : ℕ) (machine : Machine) (a b : Result Left FocalRefusal)
      → Applies pages how row named machine a → Applies pages how row named machine b → a ≡ b
  same_row pages how row named machine a b p q =
      let same = same_work same_value machine.memory named row p.0 q.0 p.1 q.1 in
      same_with pages how row named machine q.0 a b
      (subst (λ (result : Result (List ℕ) LineFault). AppliesWith pages how row named machine result a) same p.2) q.2

  same_meant : (pages : PageMap) (how : Manner) (line : Line) (machine : Machine) (meant : Result Meant LineFault)
      (a b : Result Left FocalRefusal)
      → AppliesTo pages how line machine meant a → AppliesTo pages how line machine meant b → a ≡ b
  same_meant pages how line machine (Err fault) a b p q = p ∙ sym q
  same_meant pages how line machine (Ok meant) a b p q = same_row pages how (row_of line meant) (named_by meant) machine a b p q

  same_carried : (pages : PageMap) (how : Manner) (line : Line) (machine : Machine) (a b : Result Left FocalRefusal)
      → CarriesOut pages how line machine a → CarriesOut pages how line machine b → a ≡ b
  same_carried pages how (Module number entry) machine a b p q = p ∙ sym q
  same_carried pages how line machine a b p q = same_meant pages how line machine (meant_of machine.memory line) a b p q

  same_in_profile : (pages : PageMap) (left_out : Bool) (how : Manner) (line : Line) (machine : Machine) (a b : Result Left FocalRefusal)
      → MatchBool left_out (a ≡ Err NotInProfile) (CarriesOut pages how line machine a)
      → MatchBool left_out (b ≡ Err NotInProfile) (CarriesOut pages how line machine b) → a ≡ b
  same_in_profile pages true how line machine a b p q = p ∙ sym q
  same_in_profile pages false how line machine a b p q = same_carried pages how line machine a b p q

  same_taken : (pages : PageMap) (how : Manner) (line : Line) (machine : Machine) (a b : Result Left FocalRefusal)
      → TakesLine pages how line machine a → TakesLine pages how line machine b → a ≡ b
  same_taken pages how line machine a b p q = same_in_profile pages (is_left_out line) how line machine a b p q

  -- A typed line has one outcome.
  same_typed : (pages : PageMap) (sound : Bool) (line : Line) (machine : Machine) (a b : Result Left FocalRefusal)
      → MatchBool sound (TakesLine pages Typed line machine a) (a ≡ Err MemoryLost)
      → MatchBool sound (TakesLine pages Typed line machine b) (b ≡ Err MemoryLost) → a ≡ b
  same_typed pages true line machine a b p q = same_taken pages Typed line machine a b p q
  same_typed pages false line machine a b p q = p ∙ sym q

  pub typed_determined : TypedIsDetermined
  typed_determined pages line machine a b p q = same_typed pages (is_sound machine.memory) line machine a b p q

  -- A stepped line has one outcome.
  same_stepped : (pages : PageMap) (machine : Machine) (standing : Result (Line × Position) FocalRefusal)
      (a b : Result Left FocalRefusal)
      → StepsAs pages machine standing a → StepsAs pages machine standing b → a ≡ b
  same_stepped pages machine (Ok (line, next)) a b p q = same_taken pages (Stepped next) line machine a b p q
  same_stepped pages machine (Err refusal) a b p q = p ∙ sym q

  pub step_determined : StepIsDetermined
  step_determined pages machine a b p q = by_standing once pages (StepsAs pages) (same_stepped pages) machine a b p q

  -- What a line calls outside program memory has one outcome, given that a name names at most one function.
  module _ (same_function : NameIsDetermined) where
    same_named : (pages : PageMap) (how : Manner) (function : Option Function) (machine : Machine) (a b : Result Left FocalRefusal)
        → CarriesNamed pages how function machine a → CarriesNamed pages how function machine b → a ≡ b
    same_named pages how (Some function) machine a b p q = same_taken pages how (Plain function) machine a b p q
    same_named pages how None machine a b p q = p ∙ sym q

    same_name : (pages : PageMap) (how : Manner) (numbers : Option (ℕ × ℕ)) (name : List ℕ) (machine : Machine)
        (a b : Result Left FocalRefusal)
        → CallsName pages how numbers name machine a → CallsName pages how numbers name machine b → a ≡ b
    same_name pages how (Some numbers) name machine a b p q = p ∙ sym q
    same_name pages how None name machine a b (function, named, carries) (other, named_so, carries_so) =
        let same : function ≡ other = same_function name function other named named_so in
        same_named pages how other machine a b
        (subst (λ (of : Option Function). CarriesNamed pages how of machine a) same carries) carries_so

    same_going : (pages : PageMap) (how : Manner) (machine : Machine) (left : Left) (answer : Answer) (a b : Result Left FocalRefusal)
        → GoesOn pages how machine left answer a → GoesOn pages how machine left answer b → a ≡ b
    same_going pages how machine left (answers.Calls number entry) a b p q = p ∙ sym q
    same_going pages how machine left (answers.Seeks name) a b p q =
        same_name pages how (function_of_name pages name) name machine a b p q
    same_going pages how machine left answer a b p q = p ∙ sym q

    same_from : (pages : PageMap) (how : Manner) (machine : Machine) (own a b : Result Left FocalRefusal)
        → GoesOnFrom pages how machine own a → GoesOnFrom pages how machine own b → a ≡ b
    same_from pages how machine (Ok left) a b p q = same_going pages how machine left left.answer a b p q
    same_from pages how machine (Err refusal) a b p q = p ∙ sym q

    same_whole : (pages : PageMap) (how : Manner) (line : Line) (machine : Machine) (a b : Result Left FocalRefusal)
        → CarriesWhole pages how line machine a → CarriesWhole pages how line machine b → a ≡ b
    same_whole pages how line machine a b (own, takes, goes) (other, takes_so, goes_so) =
        let same : own ≡ other = same_taken pages how line machine own other takes takes_so in
        same_from pages how machine other a b
        (subst (λ (of : Result Left FocalRefusal). GoesOnFrom pages how machine of a) same goes) goes_so

    same_standing_whole : (pages : PageMap) (machine : Machine) (standing : Result (Line × Position) FocalRefusal)
        (a b : Result Left FocalRefusal)
        → CarriesStanding pages machine standing a → CarriesStanding pages machine standing b → a ≡ b
    same_standing_whole pages machine (Ok (line, next)) a b p q = same_whole pages (Stepped next) line machine a b p q
    same_standing_whole pages machine (Err refusal) a b p q = p ∙ sym q

    same_typed_whole : (sound : Bool) (pages : PageMap) (line : Line) (machine : Machine) (a b : Result Left FocalRefusal)
        → MatchBool sound (CarriesWhole pages Typed line machine a) (a ≡ Err MemoryLost)
        → MatchBool sound (CarriesWhole pages Typed line machine b) (b ≡ Err MemoryLost) → a ≡ b
    same_typed_whole true pages line machine a b p q = same_whole pages Typed line machine a b p q
    same_typed_whole false pages line machine a b p q = p ∙ sym q

    pub line_determined : LineIsDetermined
    line_determined sources.Program pages machine a b p q =
        by_standing once pages (CarriesStanding pages) (same_standing_whole pages) machine a b p q
    line_determined (sources.Keys line) pages machine a b p q =
        same_typed_whole (is_sound machine.memory) pages line machine a b p q
