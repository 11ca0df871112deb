use Rattle.std.proofs.Common.{◌≡◌, ℕ, ◌-◌, ◌<◌, ◌≤◌, []}
use Rattle.std.specs.Prelude.{slice_index_or}
use Rattle.h41_text.specs.LineText.{high_parameters}
use Rattle.h41_text.proofs.reader.parameter.Given as goal

abbrev pub invariant-loop-number : goal.invariant-loop-number
invariant-loop-number l = (k : ℕ) → 100 ≤ k → k < l.number → slice_index_or high_parameters (k - 100) [] ≡ l.text → ⊥
