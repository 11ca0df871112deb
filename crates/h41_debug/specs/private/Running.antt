-- What the private functions of runs promise one another. No public contract needs this file.
use Rattle.std.specs.Prelude.{Bool, true, false, Option, Some, None, if◌then◌else◌}
use Rattle.h41_breakpoints.specs.Breakpoints.{is_set}
use Rattle.h41_xrom.specs.Calculator.{is_idle}
use Rattle.h41_xrom.specs.declared.calculator.Mode.{Mode}
use Rattle.h41_xrom.specs.declared.calculator.Mode.TheVariants as modes
use Rattle.h41_debug.specs.Bench.{BenchState}
use Rattle.h41_debug.specs.Positions.{location_of}
use Rattle.h41_debug.specs.declared.run.Stop.{Stop}
use Rattle.h41_debug.specs.declared.run.Stop.TheVariants.{Break, Idle}

-- Whether a function runs, so that steps are its words.
abbrev pub runs_function : Mode → Bool
runs_function modes.Idle = false
runs_function modes.Run = false
runs_function (modes.Micro caller) = true

-- Why a run stops after a step while something runs, apart from its limit and a refusal.
abbrev pub stop_running : BenchState → Option Stop
stop_running s = if is_set s.breakpoints (location_of s.calculator) then Some Break else None

-- Why a run stops after a step, apart from its limit and a refusal.
abbrev pub stop_at : BenchState → Option Stop
stop_at s = if is_idle s.calculator.mode then Some Idle else stop_running s

-- The same after a step, and no reason before the first.
abbrev pub stop_after : Bool → BenchState → Option Stop
stop_after stepped s = if stepped then stop_at s else None
