-- Calls of functions that are proved, and what every run keeps.
use Rattle.std.proofs.Common.{◌≡◌, ℕ, zero, suc, ◌+◌, [], ◌∷◌, ◌++◌, drop, slice_index, ap, subst, sym, ◌∙◌, Bool}
use Rattle.std.proofs.Common.{length, arith, take, refl, List}
use Rattle.h41_laws_words.specs.WholeStates.{IsWhole, WordLeavesWhole}
use Rattle.h41_nut.specs.WordStep.{Nut}
use Rattle.h41_reasoning.specs.Runs.{HasCalled, HasReturned, IsCalled, OnlyC, Reaches, Takes}
use Rattle.h41_reasoning.specs.WordRuns.{RunsLeaveWhole, StepsTo}
use Rattle.h41_reasoning.proofs.Rounds.{by_step, takes_step}

pub leaves_whole : WordLeavesWhole → RunsLeaveWhole
leaves_whole word zero s t whole run = subst IsWhole (sym run) whole
leaves_whole word (suc count) s t whole run = leaves_whole word count run.0 t (word s run.0 whole run.1) run.2

-- At the end of a run the next word can have an effect too.
pub whole_there : RunsLeaveWhole → (most : ℕ) (s : Nut) (After : Nut → Type 0) → IsWhole s → Reaches most s After
    → Reaches most s (λ t. IsWhole t × After t)
whole_there leaves most s After whole one =
    let whole_end = leaves one.count s one.end whole one.run in
    record { count = one.count; bound = one.bound; end = one.end; run = one.run; property = (whole_end, one.property) }

pub takes_whole : RunsLeaveWhole → (count : ℕ) (s : Nut) (After : Nut → Type 0) → IsWhole s → Takes count s After
    → Takes count s (λ t. IsWhole t × After t)
takes_whole leaves count s After whole one =
    record { end = one.end; run = one.run; property = (leaves count s one.end whole one.run, one.property) }

-- What follows from a property is reached too.
pub reaches_also : (most : ℕ) (s : Nut) (Before After : Nut → Type 0) → ((t : Nut) → Before t → After t) → Reaches most s Before
    → Reaches most s After
reaches_also most s Before After follows one =
    record { count = one.count; bound = one.bound; end = one.end; run = one.run; property = follows one.end one.property }

pub takes_also : (count : ℕ) (s : Nut) (Before After : Nut → Type 0) → ((t : Nut) → Before t → After t) → Takes count s Before
    → Takes count s After
takes_also count s Before After follows one = record { end = one.end; run = one.run; property = follows one.end one.property }

-- The caller continues after a function that has returned.
pub back_from_call : (s u t : Nut) → IsCalled s u → HasReturned u t → HasCalled s t
back_from_call s u t called returned = record {
  address = returned.address ∙ ap (λ returns. slice_index returns 0) called;
  returns = returned.returns ∙ ap (λ returns. drop 1 returns ++ 0 ∷ []) called;
}

-- A call, and the function that is called.
pub by_call : (most : ℕ) (s u : Nut) (After : Nut → Type 0) → StepsTo s u → IsCalled s u
    → Reaches most u (λ t. HasReturned u t × After t) → Reaches (1 + most) s (λ t. HasCalled s t × After t)
by_call most s u After step called one =
    by_step most s u (λ t. HasCalled s t × After t) step
    (reaches_also most u (λ t. HasReturned u t × After t) (λ t. HasCalled s t × After t)
    (λ t is. (back_from_call s u t called is.0, is.1)) one)

pub takes_call : (count : ℕ) (s u : Nut) (After : Nut → Type 0) → StepsTo s u → IsCalled s u
    → Takes count u (λ t. HasReturned u t × After t) → Takes (suc count) s (λ t. HasCalled s t × After t)
takes_call count s u After step called one =
    takes_step count s u (λ t. HasCalled s t × After t) step
    (takes_also count u (λ t. HasReturned u t × After t) (λ t. HasCalled s t × After t)
    (λ t is. (back_from_call s u t called is.0, is.1)) one)

-- A state that differs in C alone, with all that is known of it.
pub only_c_known : (u t : Nut) (carry : Bool) (address : ℕ) (returns : List ℕ) → OnlyC u t → t.processor.carry ≡ carry
    → t.processor.pc ≡ address → t.processor.returns ≡ returns
    → t ≡ record u { processor = record u.processor { c = t.processor.c; carry = carry; pc = address; returns = returns } }
only_c_known u t carry address returns only is_carry is_address is_returns = rw (← is_carry, ← is_address, ← is_returns) only

-- Calls keep the three newest of four return addresses.
pub calls_keep_returns : (returns : List ℕ) → length returns ≡ 4
    → (take 3 (take 3 returns ++ 0 ∷ []) ++ 0 ∷ [] ≡ take 3 returns ++ 0 ∷ [])
    × (slice_index (take 3 returns ++ 0 ∷ []) 0 ≡ slice_index returns 0)
    × (drop 1 (take 3 returns ++ 0 ∷ []) ++ 0 ∷ [] ≡ drop 1 (take 3 returns) ++ 0 ∷ 0 ∷ [])
calls_keep_returns (a ∷ b ∷ c ∷ d ∷ rest) is = (refl, refl, refl)
calls_keep_returns returns is = absurd (omega (arith, is))
