-- The memory after a call is sound, and is read again.
use Rattle.std.proofs.Common.{◌≡◌, ℕ, Bool, true, false, List, ◌++◌, length, All, sym, subst, inl, inr, Option}
use Rattle.std.proofs.Common.{Some, None, Result, Ok, Err, rules}
use Rattle.std.specs.Prelude.{◌&&◌, is_some, OnOk}
use Rattle.std.specs.List.{flat_map}
use Rattle.std.proofs.lemmas.List.Elements.{All-append}
use Rattle.h41_codes.specs.ByteLaws.{ByteRoundTrip}
use Rattle.h41_codes.specs.declared.line.Line.{Line}
use Rattle.h41_ram.specs.RegisterMap.{RegisterMap, is_sound}
use Rattle.h41_program.specs.declared.listed_line.ListedLine.{ListedLine}
use Rattle.h41_program.specs.declared.refusal.ProgramRefusal.{ProgramRefusal}
use Rattle.h41_program.specs.declared.refusal.ProgramRefusal.TheVariants.{BrokenProgram}
use Rattle.h41_program.specs.Edits.{lines_of, before_end, with_last_end, memory_with_answer, changed_outcome, edit_outcome}
use Rattle.h41_program.specs.Edits.{has_line_at, LeavesChanged, load_outcome, loaded_of, Edits, Loads, LoadsBehind}
use Rattle.h41_program.specs.Packing.{packed_lines}
use Rattle.h41_program.specs.ProgramBytes.{program_bytes, final_position}
use Rattle.h41_program.specs.ProgramLaws.{IsInner, HasLines, LeavesLoaded, LoadIsRead}
use Rattle.h41_program.specs.FirstLines.{FirstFrom}
use Rattle.h41_program.specs.ProgramLines.{LinesFrom, Reads}
use Rattle.h41_program.specs.Rewriting.{with_program_lines, HasOutcome}
use Rattle.h41_program.proofs.Inner.{KeepsInner, before_inner, changed_inner, closed_inner, loaded_inner}
use Rattle.h41_program.proofs.Written.{written_behind, written_read, written_sound}

-- An outcome is sound if the memory that was written is.
refused_sound : {A : Type 0} (old new : RegisterMap) (result : Result A ProgramRefusal) (refusal : ProgramRefusal) → is_sound old ≡ true
    → HasOutcome old new result (Err refusal) → is_sound new ≡ true
refused_sound old new result refusal sound has = subst (λ (m : RegisterMap). is_sound m ≡ true) (sym has.1) sound

answered_sound : {A : Type 0} (old new : RegisterMap) (result : Result A ProgramRefusal)
    (answer : A) (outcome : Result RegisterMap ProgramRefusal)
    → is_sound old ≡ true → ((m : RegisterMap) → outcome ≡ Ok m → is_sound m ≡ true)
    → HasOutcome old new result (memory_with_answer answer outcome)
    → is_sound new ≡ true
answered_sound old new result answer outcome sound each has = search (rules, refused_sound)

pub written_outcome : {A : Type 0} (old new : RegisterMap) (result : Result A ProgramRefusal) (answer : A) (lines : List Line)
    → is_sound old ≡ true → HasOutcome old new result (memory_with_answer answer (with_program_lines old lines)) → is_sound new ≡ true
written_outcome old new result answer lines sound has =
    answered_sound old new result answer (with_program_lines old lines) sound (λ m done. written_sound old m lines sound done) has

-- An edit.
changed_sound : (b : Bool) (old new : RegisterMap) (result : Result (Unit {0}) ProgramRefusal) (lines : List Line) → is_sound old ≡ true
    → HasOutcome old new result (changed_outcome b old lines) → is_sound new ≡ true
changed_sound true old new result lines sound has = written_outcome old new result tt lines sound has
changed_sound false old new result lines sound has = refused_sound old new result BrokenProgram sound has

pub edit_sound : (old new : RegisterMap) (change : ℕ → ListedLine → List Line) (at : ℕ) (result : Result (Unit {0}) ProgramRefusal)
    → is_sound old ≡ true → Edits old new change at result → is_sound new ≡ true
edit_sound old new change at result sound edits = elim edits.1 [
  | inl edit ↦
      let has : HasOutcome old new result (edit_outcome old (change edit.0.position) edit.0.position edit.2.0) =
      subst (λ (outcome : Result (RegisterMap × Unit {0}) ProgramRefusal). HasOutcome old new result outcome) edit.2.2 edits.2 in
      changed_sound (is_some (before_end edit.2.0) && has_line_at edit.0.position edit.2.0)
      old new result (flat_map (change edit.0.position) edit.2.0) sound has
  | inr none ↦
      refused_sound old new result BrokenProgram sound
      (subst (λ (outcome : Result (RegisterMap × Unit {0}) ProgramRefusal). HasOutcome old new result outcome) none.1 edits.2)
]

-- A load.
loaded_sound : (old new : RegisterMap) (lines : List ListedLine) (loaded : Option (List Line)) (result : Result ℕ ProgramRefusal)
    → is_sound old ≡ true → HasOutcome old new result (load_outcome old lines loaded) → is_sound new ≡ true
loaded_sound old new lines None result sound has = refused_sound old new result BrokenProgram sound has
loaded_sound old new lines (Some loaded) result sound has = search (rules, refused_sound, written_outcome)

behind_sound : (old new : RegisterMap) (bytes : List ℕ) (before : Option (List ListedLine))
    (outcome : Result (RegisterMap × ℕ) ProgramRefusal) (result : Result ℕ ProgramRefusal)
    → is_sound old ≡ true → LoadsBehind old bytes before outcome → HasOutcome old new result outcome → is_sound new ≡ true
behind_sound old new bytes None outcome result sound loads has = search (rules, refused_sound, loaded_sound)
behind_sound old new bytes (Some lines) outcome result sound loads has =
    loaded_sound old new lines (loaded_of bytes loads.0) result sound
    (subst (λ (o : Result (RegisterMap × ℕ) ProgramRefusal). HasOutcome old new result o) loads.2 has)

pub load_sound : (old new : RegisterMap) (bytes : List ℕ) (result : Result ℕ ProgramRefusal) → is_sound old ≡ true
    → Loads old new bytes result → is_sound new ≡ true
load_sound old new bytes result sound loads = behind_sound old new bytes (before_end loads.1.0) loads.0 result sound loads.1.2 loads.2

-- The memory after a load.
refused_is_not_done : (new : RegisterMap) (start : ℕ) (refusal : ProgramRefusal)
    → ◌≡◌ {A = Result (RegisterMap × ℕ) ProgramRefusal} (Ok (new, start)) (Err refusal) → ⊥
refused_is_not_done new start refusal same = cc

was_written : (new : RegisterMap) (start answer : ℕ) (outcome : Result RegisterMap ProgramRefusal)
    → Ok (new, start) ≡ memory_with_answer answer outcome → (outcome ≡ Ok new) × (answer ≡ start)
was_written new start answer outcome same = search rules

-- The lines of bytes that are to be loaded are inner.
inner_of : (bytes : List ℕ) (given : List ListedLine) (loaded : List Line) → Reads bytes (length bytes) 0 given
    → loaded_of bytes given ≡ Some loaded → All IsInner loaded
inner_of bytes given loaded reads taken = search (rules, loaded_inner)

module _ (again : ByteRoundTrip) (memory new : RegisterMap) (bytes : List ℕ) (start : ℕ) (sound : is_sound memory ≡ true) where
  leaves_joined : (lines before given : List ListedLine) (loaded : Option (List Line)) → LinesFrom memory 0 lines
      → before_end lines ≡ Some before → Reads bytes (length bytes) 0 given → loaded_of bytes given ≡ loaded
      → Ok (new, start) ≡ load_outcome memory before loaded → LeavesLoaded memory bytes new start
  leaves_joined lines before given None from own reads taken same = absurd (refused_is_not_done new start BrokenProgram same)
  leaves_joined lines before given (Some loaded) from own reads taken same =
      let front = with_last_end (lines_of before) in
      let done = was_written new start (length (packed_lines front)) (with_program_lines memory (front ++ loaded)) same in
      let inner = inner_of bytes given loaded reads taken in
      let own_inner =
      closed_inner (lines_of before) (before_inner (program_bytes memory) (final_position memory) 0 lines before (from.sound sound) own) in
      record {
        lines = lines;
        before = before;
        given = given;
        loaded = loaded;
        from = from;
        own = own;
        read = reads;
        taken = taken;
        all = written_read again memory new (front ++ loaded) sound (All-append IsInner front loaded own_inner inner) done.0;
        last = subst (λ (n : ℕ). HasLines new n loaded) done.1 (written_behind again memory new front loaded sound inner done.0);
      }

  leaves_behind : (lines : List ListedLine) (before : Option (List ListedLine)) → LinesFrom memory 0 lines → before_end lines ≡ before
      → LoadsBehind memory bytes before (Ok (new, start)) → LeavesLoaded memory bytes new start
  leaves_behind lines before from own loads = search (rules, leaves_joined)

-- A load is read again. Memory that is not sound accepts none.
pub load_read : ByteRoundTrip → LoadIsRead
load_read again memory new bytes start loads = search (rules, leaves_behind)

-- The memory after an edit.
written_reads : ByteRoundTrip
    → (old left : RegisterMap) (result : Result (Unit {0}) ProgramRefusal) (lines : List Line) (outcome : Result RegisterMap ProgramRefusal)
    → is_sound old ≡ true → All IsInner lines → with_program_lines old lines ≡ outcome
    → HasOutcome old left result (memory_with_answer tt outcome)
    → OnOk result (HasLines left 0 lines)
written_reads again old left result lines outcome sound inner is has = search (rules, written_read)

changed_reads : ByteRoundTrip → (b : Bool) (old left : RegisterMap) (result : Result (Unit {0}) ProgramRefusal) (lines : List Line)
    → is_sound old ≡ true → All IsInner lines → HasOutcome old left result (changed_outcome b old lines)
    → OnOk result (HasLines left 0 lines)
changed_reads again b old left result lines sound inner has = search (rules, written_reads)

leaves : (old left : RegisterMap) (change : ℕ → ListedLine → List Line) (at : ℕ)
    (result : Result (Unit {0}) ProgramRefusal) (first : ListedLine) (lines : List ListedLine)
    → FirstFrom (program_bytes old) (final_position old) at first → LinesFrom old 0 lines
    → OnOk result (HasLines left 0 (flat_map (change first.position) lines)) → OnOk result (LeavesChanged old change at left)
leaves old left change at result first lines stands from has = search rules

pub edit_read : ByteRoundTrip
    → (old left : RegisterMap) (change : ℕ → ListedLine → List Line) (at : ℕ) (result : Result (Unit {0}) ProgramRefusal)
    → is_sound old ≡ true → ((position : ℕ) → KeepsInner (change position)) → Edits old left change at result
    → OnOk result (LeavesChanged old change at left)
edit_read again old left change at result sound keeps edits = elim edits.1 [
  | inl edit ↦
      let own = change edit.0.position in
      let lines = edit.2.0 in
      let has : HasOutcome old left result (edit_outcome old own edit.0.position lines) =
      subst (λ (outcome : Result (RegisterMap × Unit {0}) ProgramRefusal). HasOutcome old left result outcome) edit.2.2 edits.2 in
      let inner = changed_inner (program_bytes old) (final_position old) own (keeps edit.0.position) 0 lines (edit.2.1.sound sound) in
      leaves old left change at result edit.0 lines edit.1 edit.2.1
      (changed_reads again (is_some (before_end lines) && has_line_at edit.0.position lines)
      old left result (flat_map own lines) sound inner has)
  | inr none ↦
      let has : HasOutcome old left result (Err BrokenProgram) =
      subst (λ (outcome : Result (RegisterMap × Unit {0}) ProgramRefusal). HasOutcome old left result outcome) none.1 edits.2 in
      rw has.0 tt
]
