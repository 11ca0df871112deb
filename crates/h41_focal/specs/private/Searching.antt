-- Definitions for the private functions that search labels.
use Rattle.std.specs.Prelude.{◌≡◌, ℕ, Option}
use Rattle.h41_codes.specs.declared.line.Line.{Line}
use Rattle.h41_positions.specs.LabelledMachine.{LabelledMachine}
use Rattle.h41_focal.specs.LabelSearches.{search_of}
use Rattle.h41_focal.specs.declared.origin.Origin.{Origin}
use Rattle.h41_focal.specs.private.Arrivals.{from_of}
use Rattle.h41_labels.specs.KeptAnswers.{KeepsSearch}
use Rattle.h41_labels.specs.declared.search.Search.{Search}
use Rattle.h41_positions.specs.declared.position.Position.{Position}
use Rattle.h41_ram.specs.RamState.{KeepsMark}
use Rattle.h41_rows.specs.RowMarks.{IsApart, LeavesMark}

-- What a line that makes no search leaves alone: the label cache, and the dirty flag of memory,
-- which remains set, is set if programs change, and is unchanged if memory is sound.
pub record KeepsRest (old new : LabelledMachine) : Type 0 where
  pub mark : KeepsMark old.ram new.ram
  pub labels : new.focal.labels ≡ old.focal.labels
  pub left : LeavesMark old.ram new.ram

-- The same for a line that writes the register at an address: the flag is unchanged if the register
-- is none of a program.
pub record KeepsApart (address : ℕ) (old new : LabelledMachine) : Type 0 where
  pub mark : KeepsMark old.ram new.ram
  pub labels : new.focal.labels ≡ old.focal.labels
  pub left : IsApart old.ram.registers address → LeavesMark old.ram new.ram

-- The same for a line that makes a search, if it makes one: the search is cached.
pub record KeepsAsking (search : Option Search) (old new : LabelledMachine) : Type 0 where
  pub asks : KeepsSearch old.ram.registers search old.focal.labels new.focal.labels
  pub mark : KeepsMark old.ram new.ram
  pub left : LeavesMark old.ram new.ram

-- A search was made from the position from which the line searches local labels, or no search was
-- made.
abbrev pub AsksFrom : Origin → (Position → Option Search) → (old new : LabelledMachine) → Type 0
AsksFrom origin search old new =
    KeepsAsking (search (from_of origin old.focal.state.position)) old new

-- The search of a line was made, if it has one.
abbrev pub AsksOf : Origin → Line → (old new : LabelledMachine) → Type 0
AsksOf origin line old new =
    AsksFrom origin (λ from. search_of old.ram.registers from line) old new
