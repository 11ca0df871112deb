-- The state of keystroke programs besides memory: the position, the return addresses and stack
-- lift, and how the position changes.
use Rattle.std.specs.Prelude.{Bool, true, false, List, []}
use Rattle.h41_positions.specs.declared.position.Position.{Position}
use Rattle.h41_positions.specs.declared.position.Position.TheVariants.{Memory}
use Rattle.h41_ram.specs.RegisterMap.{RegisterMap}

-- The state of keystroke programs besides memory.
pub record FocalState : Type 0 where
  -- the position of the next line; at line 00, the place before the program's first line, it is the
  -- start of the program
  pub position : Position
  pub at_line_00 : Bool
  -- the return addresses, the newest last
  pub returns : List Position
  -- whether stack lift is on, so that the next number that is entered lifts the stack
  pub lift : Bool

-- The initial state: line 00 of the first program, no return addresses, stack lift on.
abbrev pub start : FocalState
start = record { position = Memory 0; at_line_00 = true; returns = []; lift = true }

-- The state with memory.
pub record Machine : Type 0 where
  pub memory : RegisterMap
  pub focal : FocalState

-- Memory and state put together.
abbrev pub machine_with : RegisterMap → FocalState → Machine
machine_with memory focal = record { memory = memory; focal = focal }

-- The state at the line at a position.
abbrev pub at_position : Position → FocalState → FocalState
at_position position focal = record focal { position = position; at_line_00 = false }

-- The state at line 00 of the program that begins at a position.
abbrev pub at_line_00 : Position → FocalState → FocalState
at_line_00 start focal = record focal { position = start; at_line_00 = true }

-- The state at line 00 without return addresses.
abbrev pub halted_at : Position → FocalState → FocalState
halted_at start focal = record (at_line_00 start focal) { returns = [] }

-- A machine at the line at a position.
abbrev pub at_line : Position → Machine → Machine
at_line position machine = record machine { focal = at_position position machine.focal }

-- A machine with other return addresses.
abbrev pub with_returns : List Position → Machine → Machine
with_returns returns machine = record machine { focal = record machine.focal { returns = returns } }

-- A machine at line 00 without return addresses.
abbrev pub at_halt : Position → Machine → Machine
at_halt start machine = record machine { focal = halted_at start machine.focal }
