-- What a contract sees of a bench in the code: its state, and the label cache of its calculator.
use Rattle.h41_debug.specs.Bench.{BenchState, with_calculator}
use Rattle.h41_xrom.specs.LabelledCalculator.{CacheState, LabelledCalculator}

-- The bench with the label cache.
pub record LabelledBench : Type 0 where
  pub state : BenchState
  pub cache : CacheState

-- The calculator of a bench, with the cache.
abbrev pub calculator_of : LabelledBench → LabelledCalculator
calculator_of s = record { state = s.state.calculator; cache = s.cache }

-- The bench with another calculator and its cache.
abbrev pub with_labelled : LabelledCalculator → LabelledBench → LabelledBench
with_labelled c s = record { state = with_calculator c.state s.state; cache = c.cache }
