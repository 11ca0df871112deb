-- There is exactly one answer.
use Rattle.std.specs.Prelude.{◌≡◌}

-- One answer is right, and every right answer is that one.
pub record HasOne {A : Type 0} (IsRight : A → Type 0) : Type 0 where
  pub answer : A
  pub right : IsRight answer
  pub only : (other : A) → IsRight other → other ≡ answer
