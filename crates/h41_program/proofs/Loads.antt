-- Lines that are loaded. The last one may be dropped.
use Rattle.std.proofs.Common.{◌≡◌, ℕ, ◌≤◌, Bool, true, false, List, [], ◌∷◌, ◌++◌, length, drop, refl, ap, rules}
use Rattle.std.proofs.Common.{append_assoc, Option, Some, None, Result, Ok, Err}
use Rattle.std.specs.Prelude.{◌||◌, ◌==◌, if◌then◌else◌, MatchOption, IsOkAnd}
use Rattle.std.specs.List.{list_all}
use Rattle.h41_program.specs.declared.given.Taken.{Taken}
use Rattle.h41_program.specs.declared.refusal.ProgramRefusal.{ProgramRefusal}
use Rattle.h41_program.specs.declared.refusal.ProgramRefusal.TheVariants.{BrokenProgram}
use Rattle.h41_program.specs.GivenLines.{BytesHaveFirst}
use Rattle.h41_codes.specs.ByteGrammar.{IsLine}
use Rattle.h41_codes.specs.declared.line.Line.{Line}
use Rattle.h41_program.specs.declared.listed_line.ListedLine.{ListedLine}
use Rattle.h41_program.specs.declared.packer.Packer.{Packer}
use Rattle.h41_program.specs.Edits.{lines_of, before_end, end_of_lines, without_end, loaded_of}
use Rattle.h41_program.specs.Lines.{is_end, is_final_end}
use Rattle.h41_program.specs.private.LoadSteps.{PutsLoaded, listed_option, kept_option}
use Rattle.h41_program.specs.private.Packers.{Packs}
use Rattle.h41_program.specs.Packing.{last_line}
use Rattle.h41_program.specs.FirstLines.{behind}
use Rattle.h41_program.proofs.Packings.{last_line-more}
use Rattle.h41_program.proofs.Walks.{UpTo, all_final, up_to_more, before_end-final}

-- Lines without the last.
abbrev pub but_last : List Line → List Line
but_last [] = []
but_last (line ∷ []) = []
but_last (line ∷ next ∷ lines) = line ∷ but_last (next ∷ lines)

pub but_last-more : (lines : List Line) (line : Line) → but_last (lines ++ line ∷ []) ≡ lines
but_last-more [] line = refl
but_last-more (one ∷ []) line = refl
but_last-more (one ∷ next ∷ lines) line = ap (λ (l : List Line). one ∷ l) (but_last-more (next ∷ lines) line)

pub with_last : (lines : List Line) → but_last lines ++ listed_option (last_line lines) ≡ lines
with_last [] = refl
with_last (line ∷ []) = refl
with_last (line ∷ next ∷ lines) = ap (λ (l : List Line). line ∷ l) (with_last (next ∷ lines))

kept_or : (b : Bool) (line : Line) → (if b || false then [] else line ∷ []) ≡ [] ++ (if b then [] else line ∷ [])
kept_or true line = refl
kept_or false line = refl

dropped_or : (b : Bool) (line : Line) → ◌≡◌ {A = List Line} (if b || true then [] else line ∷ []) []
dropped_or true line = refl
dropped_or false line = refl

-- The last line is no .END.
pub without_end-kept : (lines : List Line) → ((line : Line) → last_line lines ≡ Some line → is_final_end line ≡ false)
    → without_end lines ≡ but_last lines ++ kept_option (last_line lines)
without_end-kept [] other = refl
without_end-kept (line ∷ []) other = rw (other line refl) (kept_or (is_end line) line)
without_end-kept (line ∷ next ∷ lines) other = ap (λ (l : List Line). line ∷ l) (without_end-kept (next ∷ lines) other)

-- A final .END. is dropped.
pub without_end-final : (lines : List Line) (line : Line) → is_final_end line ≡ true → without_end (lines ++ line ∷ []) ≡ lines
without_end-final [] line final = rw final (dropped_or (is_end line) line)
without_end-final (one ∷ []) line final = ap (λ (l : List Line). one ∷ l) (without_end-final [] line final)
without_end-final (one ∷ next ∷ lines) line final = ap (λ (l : List Line). one ∷ l) (without_end-final (next ∷ lines) line final)

pub lines_of-more : (before : List ListedLine) (listed : ListedLine)
    → lines_of (before ++ listed ∷ []) ≡ lines_of before ++ listed.line ∷ []
lines_of-more [] listed = refl
lines_of-more (one ∷ before) listed = ap (λ (l : List Line). one.line ∷ l) (lines_of-more before listed)

pub end_of_lines-more : (before : List ListedLine) (listed : ListedLine) → end_of_lines (before ++ listed ∷ []) ≡ behind listed
end_of_lines-more [] listed = refl
end_of_lines-more (one ∷ []) listed = refl
end_of_lines-more (one ∷ next ∷ before) listed = end_of_lines-more (next ∷ before) listed

-- Lines were read from bytes, and all except the last were appended to others.
pub record Loaded (bytes : List ℕ) (old new : Packer) (pending : Option Line) (at : ℕ) (before : List ListedLine) : Type 0 where
  pub read : UpTo bytes (length bytes) 0 before at
  pub end : end_of_lines before ≡ at
  pub inside : at ≤ length bytes
  pub last : pending ≡ last_line (lines_of before)
  pub line : (line : Line) → pending ≡ Some line → (is_final_end line ≡ false) × IsLine line
  pub packs : (front : List Line) → Packs old front → Packs new (front ++ but_last (lines_of before))

-- The lines of memory are packed when .END. is reached.
pub packed_lines : (bytes : List ℕ) (final at : ℕ) (before : List ListedLine) (listed : ListedLine) (packer : Packer)
    → UpTo bytes final 0 before at → is_final_end listed.line ≡ true → Packs packer (lines_of before)
    → MatchOption (before_end (before ++ listed ∷ [])) (◌≡◌ {A = Result Packer ProgramRefusal} (Ok packer) (Err BrokenProgram))
    (λ each. IsOkAnd {E = ProgramRefusal} (Ok packer) (λ held. Packs held (lines_of each)))
packed_lines bytes final at before listed packer upto last packs = search (rules, before_end-final)

-- One more line is read, and the pending one is appended.
pub loaded_more : (bytes : List ℕ) (old mid new : Packer) (pending : Option Line) (at : ℕ) (before : List ListedLine) (taken : Taken)
    → Loaded bytes old mid pending at before → BytesHaveFirst bytes at taken → is_final_end taken.line ≡ false
    → ((front : List Line) → Packs mid front → Packs new (front ++ listed_option pending))
    → Loaded bytes old new (Some taken.line) taken.behind (before ++ (record { position = taken.position; line = taken.line }) ∷ [])
loaded_more bytes old mid new pending at before taken loaded is other puts =
    search (rules, with_last, up_to_more, end_of_lines-more, lines_of-more, last_line-more, but_last-more, append_assoc)

-- The lines of the bytes to be loaded, by a test of the remaining bytes.
loaded_by : (bytes : List ℕ) (at : ℕ) (given : List ListedLine) (lines : List Line) → end_of_lines given ≡ at
    → without_end (lines_of given) ≡ lines
    → loaded_of bytes given ≡ (if list_all (λ byte. byte == 0) (drop at bytes) then Some lines else None)
loaded_by bytes at given lines end same = cc

-- The outcome of such a test.
tested : (b : Bool) (lines : List Line) (front : List Line) (new : Packer) → (b ≡ true → Packs new (front ++ lines))
    → MatchOption (if b then Some lines else None)
    (◌≡◌ {A = Result (Unit {0}) ProgramRefusal} (if b then Ok tt else Err BrokenProgram) (Err BrokenProgram))
    (λ loaded. (◌≡◌ {A = Result (Unit {0}) ProgramRefusal} (if b then Ok tt else Err BrokenProgram) (Ok tt)) × Packs new (front ++ loaded))
tested true lines front new packs = (refl, packs refl)
tested false lines front new packs = refl

-- .END. is reached.
loaded_final : (bytes : List ℕ) (old mid new : Packer) (pending : Option Line)
    (at : ℕ) (before : List ListedLine) (taken : Taken) (front : List Line)
    → Loaded bytes old mid pending at before → BytesHaveFirst bytes at taken → is_final_end taken.line ≡ true
    → ((front : List Line) → Packs mid front → Packs new (front ++ listed_option pending)) → Packs old front
    → (loaded_of bytes (before ++ (record { position = taken.position; line = taken.line }) ∷ [])
    ≡ (if list_all (λ byte. byte == 0) (drop taken.behind bytes) then Some (lines_of before) else None))
    × Packs new (front ++ lines_of before)
loaded_final bytes old mid new pending at before taken front loaded is last puts packs =
    search (rules, end_of_lines-more, lines_of-more, without_end-final, with_last, loaded_by, append_assoc)

-- The lines that are then appended, if only nulls follow.
pub final_puts : (bytes : List ℕ) (old mid new : Packer) (pending : Option Line)
    (at : ℕ) (before : List ListedLine) (taken : Taken)
    → Loaded bytes old mid pending at before → BytesHaveFirst bytes at taken → is_final_end taken.line ≡ true
    → ((front : List Line) → Packs mid front → Packs new (front ++ listed_option pending))
    → (b : Bool) → list_all (λ byte. byte == 0) (drop taken.behind bytes) ≡ b
    → PutsLoaded old new bytes (if b then Ok tt else Err BrokenProgram)
final_puts bytes old mid new pending at before taken loaded is last puts b test =
    let listed : ListedLine = record { position = taken.position; line = taken.line } in (
      before ++ listed ∷ [],
      all_final bytes (length bytes) 0 at taken.behind before listed loaded.read is last,
      λ front packs.
          let known = loaded_final bytes old mid new pending at before taken front loaded is last puts packs in
          rw (known.0, test) (tested b (lines_of before) front new (λ _. known.1)),
    )

-- There is no further line.
pub loaded_none : (bytes : List ℕ) (old mid : Packer) (pending : Option Line) (at : ℕ) (before : List ListedLine)
    → Loaded bytes old mid pending at before
    → loaded_of bytes before
    ≡ (if list_all (λ byte. byte == 0) (drop at bytes) then Some (but_last (lines_of before) ++ kept_option pending) else None)
loaded_none bytes old mid pending at before loaded = search (rules, without_end-kept, loaded_by)
