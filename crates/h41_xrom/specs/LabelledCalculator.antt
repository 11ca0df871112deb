-- What a contract sees of a calculator in the code: its state and the label cache. No rule of the
-- calculator depends on the cache, because a line that looks for a label finds what the search
-- would find. That answers are cached is this project's choice.
use Rattle.std.specs.Prelude.{Bool, true, List, []}
use Rattle.h41_labels.specs.declared.search.KeptAnswer.{KeptAnswer}
use Rattle.h41_positions.specs.FocalState.{Machine}
use Rattle.h41_positions.specs.LabelledMachine.{LabelledMachine}
use Rattle.h41_xrom.specs.Calculator.{CalculatorState}

-- The label cache: the cached searches with their answers, the oldest first, and the dirty flag of
-- memory. If that flag is set, the next line that is executed empties the cache.
pub record CacheState : Type 0 where
  pub labels : List KeptAnswer
  pub touched : Bool

-- The calculator with its label cache.
pub record LabelledCalculator : Type 0 where
  pub state : CalculatorState
  pub cache : CacheState

-- The cache at the start, and after a reset: it is empty, and the dirty flag is set.
abbrev pub no_searches : CacheState
no_searches = record { labels = []; touched = true }

-- The cache of the part of the calculator that lines work on.
abbrev pub cache_of : LabelledMachine → CacheState
cache_of machine = record { labels = machine.focal.labels; touched = machine.ram.touched }

-- The part of the calculator that lines work on, with a given cache.
abbrev pub labelled : Machine → CacheState → LabelledMachine
labelled machine cache = record {
  ram = record { registers = machine.memory; touched = cache.touched };
  focal = record { state = machine.focal; labels = cache.labels };
}
