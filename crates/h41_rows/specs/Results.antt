-- A function applied to the value of a result.
use Rattle.std.specs.Prelude.{Result}
use Rattle.std.specs.Result.{result_map_both}

-- The result with its value changed by a function. An error is unchanged.
abbrev pub result_map : {T U E : Type 0} → (T → U) → Result T E → Result U E
result_map f result = result_map_both f (λ fault. fault) result
