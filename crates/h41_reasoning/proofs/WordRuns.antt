-- Runs are put together from words and from shorter runs.
use Rattle.std.proofs.Common.{◌≡◌, ℕ, zero, suc, ◌+◌, true, false, None, refl, ap, subst, sym, ◌∙◌, arith}
use Rattle.std.proofs.Math.Nat.{zero-add}
use Rattle.std.specs.Bool.{then_some}
use Rattle.std.specs.Option.{option_or}
use Rattle.std.specs.Result.{result_err}
use Rattle.h41_laws_words.specs.WholeStates.{WordLeavesWhole}
use Rattle.h41_laws_words.specs.WordAnswers.{AcceptedWordHasOneChange}
use Rattle.h41_nut.specs.Arrivals.{next_address}
use Rattle.h41_nut.specs.PageWords.{word_or_zero}
use Rattle.h41_nut.specs.ProcessorLaws.{MicroIsDetermined}
use Rattle.h41_nut.specs.WordStep.{Micro, Nut, WordEffect, refused, row_refusal, state_after, word_of}
use Rattle.h41_nut.specs.declared.refusal.WordRefusal.TheVariants.{SystemRom}
use Rattle.h41_words.specs.WordTable.{IsRow, OneWordOfRow, number_of, row_of}
use Rattle.h41_words.specs.declared.rows.Row.{Row}
use Rattle.h41_words.specs.declared.rows.Row.TheVariants.{Arithmetic}
use Rattle.h41_reasoning.specs.Runs.{Runs}
use Rattle.h41_reasoning.specs.WordRuns.{ArithmeticIsExecuted, IsNext, RunsAreDetermined, RunsJoin, StepsTo, WordIsExecuted, is_arithmetic}

-- A word whose row is known.
module _ (one_word : OneWordOfRow) (row : Row) (is : IsRow row) (s : Nut) (next : IsNext row s) where
  row_is : row_of (word_of s) ≡ row
  row_is = ap (λ word. row_of (word_or_zero word)) next ∙ ((one_word row is (number_of row)).1 refl)

  not_refused : row_refusal row s ≡ None → refused s ≡ None
  not_refused none =
      ap (λ word. option_or (result_err word) (row_refusal (row_of (word_of s)) s)) next ∙ ap (λ other. row_refusal other s) row_is ∙ none

-- What is neither refused nor arithmetic.
straight_effect : (row : Row) → is_arithmetic row ≡ false → (s : Nut) → WordEffect row s (state_after row s)
straight_effect (Arithmetic operation field) other s = absurd (let never : true ≡ false = other in cc)
straight_effect row other s = refl

pub straight : OneWordOfRow → AcceptedWordHasOneChange → WordLeavesWhole → WordIsExecuted
straight one_word one_change leaves row is other s whole next none =
    let step : Micro s (state_after row s) =
    record {
      accepted = not_refused one_word row is s next none;
      effect = subst (λ r. WordEffect r s (state_after row s)) (sym (row_is one_word row is s next)) (straight_effect row other s);
    } in
    record { step = step; whole = leaves s _ whole step }

pub arithmetic : OneWordOfRow → AcceptedWordHasOneChange → WordLeavesWhole → ArithmeticIsExecuted
arithmetic one_word one_change leaves operation field s whole next is_open =
    let row = Arithmetic operation field in
    let none : row_refusal row s ≡ None = ap (λ closed. then_some closed (SystemRom (next_address s.processor))) is_open in
    let found = one_change s whole.processor.abc (not_refused one_word row tt s next none) in
    let effect = subst (λ r. WordEffect r s found.answer) (row_is one_word row tt s next) found.right.effect in (
      found.answer.processor,
      effect.0,
      subst (λ t. StepsTo s t) effect.1 record { step = found.right; whole = leaves s found.answer whole found.right },
    )

suc_first : (first second : ℕ) → suc (first + second) ≡ suc first + second
suc_first first second = omega arith

pub joined : RunsJoin
joined zero second s t u one two = subst (λ n. Runs n s u) (sym (zero-add second)) (subst (λ v. Runs second v u) one two)
joined (suc first) second s t u one two =
    subst (λ n. Runs n s u) (suc_first first second) (one.0, one.1, joined first second one.0 t u one.2 two)

pub determined : MicroIsDetermined → RunsAreDetermined
determined micro zero s t u one two = one ∙ sym two
determined micro (suc count) s t u one two =
    let same : one.0 ≡ two.0 = micro s one.0 two.0 one.1 two.1 in
    determined micro count two.0 t u (subst (λ n. Runs count n t) same one.2) two.2
