-- The result of a load and of a new size, by the result of program memory.
use Rattle.std.proofs.Common.{◌≡◌, ℕ, List, Some, None, Result, Ok, Err, refl, sym, ap, subst, ◌∙◌}
use Rattle.h41_positions.specs.FocalState.{FocalState, halted_at}
use Rattle.h41_positions.specs.declared.position.Position.TheVariants.{Memory}
use Rattle.h41_program.specs.declared.refusal.ProgramRefusal as program
use Rattle.h41_program.specs.Edits as edits
use Rattle.h41_program.specs.Edits.{LoadGives}
use Rattle.h41_program.specs.Rewriting.{HasOutcome}
use Rattle.h41_program.specs.Size.{size_outcome}
use Rattle.h41_ram.specs.RegisterMap.{RegisterMap}
use Rattle.h41_xrom.specs.declared.refusal.CalculatorRefusal.{CalculatorRefusal}
use Rattle.h41_xrom.specs.declared.refusal.CalculatorRefusal.TheVariants.{Program}
use Rattle.h41_xrom.specs.Calculator.{CalculatorState, not_typing, with_machine}
use Rattle.h41_xrom.specs.Programs.{Becomes, Loads, change_refusal, after_size, size_makes, with_memory, with_program}

-- A load that is refused before program memory is read.
pub load_refused : (bytes : List ℕ) (s : CalculatorState) (why : CalculatorRefusal) → Some why ≡ change_refusal s
    → Loads bytes s s (Some why)
load_refused bytes s why e = (Err why, rw (sym e) refl, (refl, refl))

-- A load that program memory refuses.
failed_by : (bytes : List ℕ) (from s : CalculatorState) (memory : RegisterMap)
    (why : program.ProgramRefusal) (outcome : Result (RegisterMap × ℕ) program.ProgramRefusal)
    → from ≡ s → None ≡ change_refusal s → LoadGives from.nut.ram bytes outcome → HasOutcome from.nut.ram memory (Err why) outcome
    → Loads bytes s (with_memory memory from) (Some (Program why))
failed_by bytes from s memory why (Ok made) is accepted given gives = let never : Err why ≡ Ok made.1 = gives.0 in cc
failed_by bytes from s memory why (Err other) is accepted given gives =
    let refused : Err why ≡ Err other = gives.0 in
    let same : why ≡ other = cc in (
      Err (Program other),
      rw (sym accepted) (Err other, subst (λ (of : CalculatorState). LoadGives of.nut.ram bytes (Err other)) is given, refl),
      (ap (λ (of : RegisterMap). with_memory of from) gives.1 ∙ is, ap (λ (of : program.ProgramRefusal). Some (Program of)) same),
    )

pub load_failed : (bytes : List ℕ) (from s : CalculatorState) (memory : RegisterMap) (why : program.ProgramRefusal) → from ≡ s
    → None ≡ change_refusal s → edits.Loads from.nut.ram memory bytes (Err why)
    → Loads bytes s (with_memory memory from) (Some (Program why))
load_failed bytes from s memory why is accepted loads = failed_by bytes from s memory why loads.0 is accepted loads.1 loads.2

-- A load that is done.
done_by : (bytes : List ℕ) (from s : CalculatorState) (memory : RegisterMap) (position : ℕ)
    (after : FocalState) (outcome : Result (RegisterMap × ℕ) program.ProgramRefusal)
    → from ≡ s → after ≡ halted_at (Memory position) from.focal → None ≡ change_refusal s → LoadGives from.nut.ram bytes outcome
    → HasOutcome from.nut.ram memory (Ok position) outcome
    → Loads bytes s (not_typing (with_machine (record { memory = memory; focal = after }) from)) None
done_by bytes from s memory position after (Ok made) is place accepted given gives =
    let done : Ok position ≡ Ok made.1 = gives.0 in
    let same : position ≡ made.1 = cc in
    let there : after ≡ halted_at (Memory made.1) s.focal = place ∙ (λ i. halted_at (Memory (same i)) (is i).focal) in (
      Ok (with_program made.0 made.1 (not_typing s)),
      rw (sym accepted) (Ok made, subst (λ (of : CalculatorState). LoadGives of.nut.ram bytes (Ok made)) is given, refl),
      (λ i. not_typing (with_machine (record { memory = gives.1 i; focal = there i }) (is i)), refl),
    )
done_by bytes from s memory position after (Err other) is place accepted given gives = let never : Ok position ≡ Err other = gives.0 in cc

pub load_done : (bytes : List ℕ) (from s : CalculatorState) (memory : RegisterMap) (position : ℕ) (after : FocalState) → from ≡ s
    → after ≡ halted_at (Memory position) from.focal → None ≡ change_refusal s → edits.Loads from.nut.ram memory bytes (Ok position)
    → Loads bytes s (not_typing (with_machine (record { memory = memory; focal = after }) from)) None
load_done bytes from s memory position after is place accepted loads =
    done_by bytes from s memory position after loads.0 is place accepted loads.1 loads.2

-- A new size that program memory refuses.
size_refused : (from : CalculatorState) (memory : RegisterMap) (why : program.ProgramRefusal)
    (outcome : Result (RegisterMap × Unit {0}) program.ProgramRefusal)
    → HasOutcome from.nut.ram memory (Err why) outcome → Becomes (after_size from outcome) from (with_memory memory from)
    (Some (Program why))
size_refused from memory why (Ok made) gives =
    let never : ◌≡◌ {A = Result (Unit {0}) program.ProgramRefusal} (Err why) (Ok made.1) = gives.0 in cc
size_refused from memory why (Err other) gives =
    let refused : ◌≡◌ {A = Result (Unit {0}) program.ProgramRefusal} (Err why) (Err other) = gives.0 in
    let same : why ≡ other = cc in
    (ap (λ (of : RegisterMap). with_memory of from) gives.1, ap (λ (of : program.ProgramRefusal). Some (Program of)) same)

pub size_failed : (count : ℕ) (from s : CalculatorState) (memory : RegisterMap) (why : program.ProgramRefusal) → from ≡ s
    → None ≡ change_refusal s → HasOutcome from.nut.ram memory (Err why) (size_outcome from.nut.ram count)
    → Becomes (size_makes s count) s (with_memory memory from) (Some (Program why))
size_failed count from s memory why is accepted gives =
    let free = rw (← is) at accepted in
    rw (← is, sym free) (size_refused from memory why (size_outcome from.nut.ram count) gives)

-- A new size that program memory accepts.
size_made : (from t : CalculatorState) (memory : RegisterMap) (done : Unit {0})
    (outcome : Result (RegisterMap × Unit {0}) program.ProgramRefusal) → HasOutcome from.nut.ram memory (Ok done) outcome
    → t ≡ not_typing (with_memory memory from) → Becomes (after_size from outcome) from t None
size_made from t memory done (Ok made) gives left = (left ∙ ap (λ (of : RegisterMap). not_typing (with_memory of from)) gives.1, refl)
size_made from t memory done (Err other) gives left =
    let never : ◌≡◌ {A = Result (Unit {0}) program.ProgramRefusal} (Ok done) (Err other) = gives.0 in cc

pub size_done : (count : ℕ) (from s t : CalculatorState) (memory : RegisterMap) (done : Unit {0}) → from ≡ s → None ≡ change_refusal s
    → HasOutcome from.nut.ram memory (Ok done) (size_outcome from.nut.ram count) → t ≡ not_typing (with_memory memory from)
    → Becomes (size_makes s count) s t None
size_done count from s t memory done is accepted gives left =
    let free = rw (← is) at accepted in
    rw (← is, sym free) (size_made from t memory done (size_outcome from.nut.ram count) gives left)
