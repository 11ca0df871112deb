-- Sums of numbers with few decimals are exact.
use Rattle.std.proofs.Common.{◌≡◌, ℕ, zero, suc, ◌+◌, ◌-◌, ◌*◌, ◌^◌, ◌<◌, ◌≤◌, Ok, sym, ap, ◌∙◌, subst, arith}
use Rattle.std.specs.Prelude.{ℤ, pos, ◌+ℤ◌, ◌*ℤ◌, unsigned_abs}
use Rattle.std.proofs.Math.IntN.{zero-*ℤ}
use Rattle.std.proofs.lemmas.Int.{ints}
use borrow.Author.Differences.{down, sum_is_lem, up}
use Rattle.h41_decimal.specs.Laws.{DecimalIsItsNearest, UnitsAreInjective}
use Rattle.h41_decimal.specs.NearestDecimal.{Nearest}
use Rattle.h41_decimal.specs.Units.{units}
use Rattle.h41_decimal.specs.declared.ten.Ten.{Ten}
use Rattle.h41_decimal.specs.declared.ten.Ten.TheVariants.{Zero}
use Rattle.h41_laws_words.specs.DecimalAnswers.{DecimalHasOneRegister}
use Rattle.h41_program.specs.ProgramLaws.{OneList, ReadIsDetermined}
use Rattle.h41_ram.specs.RegisterMap.{RegisterMap}
use Rattle.h41_reasoning_lines.specs.LineRuns.{Leaves}
use Rattle.h41_reasoning_lines.proofs.Wholes.{signed_ten_at}
use Rattle.h41_proved_lines.specs.SumOfRegisters.{AddsUp, ExactSumReturns, HasNumber, HasSum, sum_of_first, with_decimals}
use Rattle.h41_proved_lines.proofs.SumOfRegisters.{sum_returns}

-- A product with a sum.
times_sum : (a b : ℤ) (p : ℕ) → (a +ℤ b) *ℤ pos p ≡ a *ℤ pos p +ℤ b *ℤ pos p
times_sum a b p =
    let parts : up (a +ℤ b) + down a + down b ≡ down (a +ℤ b) + up a + up b = sum_is_lem a b in
    let times = ap (λ (n : ℕ). n * p) parts in
    omega (arith, ints, times)

module _ (itself : DecimalIsItsNearest) (injective : UnitsAreInjective) (memory : RegisterMap) (decimals n : ℕ) (few : decimals ≤ 99)
    (numbers : ℕ → ℤ) (has : (i : ℕ) → i ≤ n → HasNumber memory i (with_decimals decimals (numbers i)))
    (small : (i : ℕ) → i ≤ n + 1 → unsigned_abs (sum_of_first numbers i) < 10 ^ 10) where
  -- The decimal of a partial sum.
  pub partial : (i : ℕ) → i ≤ n + 1 → (ten : Ten) × (units ten ≡ with_decimals decimals (sum_of_first numbers i))
  partial i inside = signed_ten_at (sum_of_first numbers i) (108 - decimals) (small i inside) (omega (arith, few)) (omega arith)

  same_sum : (i k : ℕ) → i ≡ k → with_decimals decimals (sum_of_first numbers i) ≡ with_decimals decimals (sum_of_first numbers k)
  same_sum i k same = ap (λ (j : ℕ). with_decimals decimals (sum_of_first numbers j)) same

  pub adds : (count i : ℕ) → i + count ≤ n + 1 → (before after : Ten)
      → units before ≡ with_decimals decimals (sum_of_first numbers i)
      → units after ≡ with_decimals decimals (sum_of_first numbers (i + count))
      → AddsUp memory i count before after
  adds zero i order before after is total = injective after before (total ∙ same_sum (i + 0) i (omega arith) ∙ sym is)
  adds (suc count) i order before after is total =
      let between = partial (suc i) (omega (arith, order)) in
      let value : units between.0 ≡ units before +ℤ with_decimals decimals (numbers i) =
      between.1
      ∙ times_sum (sum_of_first numbers i) (numbers i) (10 ^ (108 - decimals))
      ∙ ap (λ (z : ℤ). z +ℤ with_decimals decimals (numbers i)) (sym is) in (
        with_decimals decimals (numbers i),
        between.0,
        has i (omega (arith, order)),
        subst (λ (z : ℤ). Nearest z 1 (Ok between.0)) value (itself between.0),
        adds count (suc i) (omega (arith, order)) between.0 after between.1
            (total ∙ same_sum (i + suc count) (suc i + count) (omega arith)),
      )

pub exact_sum_returns : DecimalIsItsNearest → UnitsAreInjective → DecimalHasOneRegister → OneList → ReadIsDetermined → ExactSumReturns
exact_sum_returns itself injective registers lists one_reading pages s count at n link key distance end decimals numbers
    is_memory sound place program ends inside in_x few has small =
    let sum = partial itself injective s.memory decimals n few numbers has small (n + 1) (omega arith) in
    let none : units Zero ≡ with_decimals decimals (pos 0) = sym (zero-*ℤ (pos (10 ^ (108 - decimals)))) in
    let from_nought : n + 1 ≡ 0 + (n + 1) = omega arith in
    let all : units sum.0 ≡ with_decimals decimals (sum_of_first numbers (0 + (n + 1))) =
    sum.1 ∙ ap (λ (j : ℕ). with_decimals decimals (sum_of_first numbers j)) from_nought in
    subst (λ (total : ℤ). Leaves pages (5 * n + 8) s (HasSum s n total)) sum.1
    (sum_returns itself registers lists one_reading pages s count at n link key distance end sum.0 is_memory sound place program
    ends inside in_x (adds itself injective s.memory decimals n few numbers has small (n + 1) 0 (omega arith) Zero sum.0 none all))
