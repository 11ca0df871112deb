-- Runs with properties of states: parts in turn, and loops.
use Rattle.std.proofs.Common.{◌≡◌, ℕ, zero, suc, ◌+◌, ◌*◌, ◌≤◌, ◌<◌, Bool, List, inl, inr, refl, subst, arith, mul-le-mul_left}
use Rattle.std.proofs.Math.Nat.{mul-add}
use Rattle.h41_nut.specs.Arithmetic.{IntoA, IntoC}
use Rattle.h41_nut.specs.Processor.{Processor}
use Rattle.h41_nut.specs.WordStep.{Nut}
use Rattle.h41_reasoning.specs.WordRuns.{StepsTo}
use Rattle.h41_reasoning.specs.Runs.{Reaches, Takes}
use Rattle.h41_reasoning.specs.Rounds.{AfterRound, CountsDown, LoopsEnd, MoreStepsSuffice, PartsInTurn, TakesInTurn}
use Rattle.h41_reasoning.proofs.WordRuns.{joined}

pub in_turn : PartsInTurn
in_turn first second s Between After one go_on =
    let two = go_on one.end one.property in
    record {
      count = one.count + two.count;
      bound = omega (arith, one.bound, two.bound);
      end = two.end;
      run = joined one.count two.count s one.end two.end one.run two.run;
      property = two.property;
    }

pub more_suffice : MoreStepsSuffice
more_suffice most more s After enough one = record {
  count = one.count;
  bound = omega (arith, enough, one.bound);
  end = one.end;
  run = one.run;
  property = one.property;
}

-- A run without a step.
pub at_end : (s : Nut) (After : Nut → Type 0) → After s → Reaches 0 s After
at_end s After is = record { count = 0; bound = omega arith; end = s; run = refl; property = is }

-- What a round leaves, as a run to the end of the loop.
module _ (Invariant : ℕ → Nut → Type 0) (After : Nut → Type 0) (most : ℕ)
    (round : (left : ℕ) (s : Nut) → Invariant left s → Reaches most s (AfterRound Invariant After left)) where
  -- The state after a round, if fewer rounds end.
  after_round : (left : ℕ) (t : Nut)
      → ((fewer : ℕ) (u : Nut) → fewer < left → Invariant fewer u → Reaches (most * (fewer + 1)) u After)
      → AfterRound Invariant After left t → Reaches (most * left) t After
  after_round left t again (inl is) = more_suffice 0 (most * left) t After (omega arith) (at_end t After is)
  after_round left t again (inr (fewer, less, is)) =
      more_suffice (most * (fewer + 1)) (most * left) t After (mul-le-mul_left most (omega (arith, less))) (again fewer t less is)

  one_more : (left : ℕ) → most + most * left ≤ most * (left + 1)
  one_more left = omega (arith, mul-add most left 1)

  from_round : (bound left : ℕ) (s : Nut) → left < bound → Invariant left s → Reaches (most * (left + 1)) s After
  from_round zero left s less is = absurd (omega (arith, less))
  from_round (suc bound) left s less is =
      more_suffice (most + most * left) (most * (left + 1)) s After (one_more left)
      (in_turn most (most * left) s (AfterRound Invariant After left) After (round left s is)
      (λ t. after_round left t (λ fewer u under. from_round bound fewer u (omega (arith, less, under)))))

pub loops_end : LoopsEnd
loops_end Invariant After most round left s is = from_round Invariant After most round (suc left) left s (omega arith) is

-- A step, and the run after it.
pub by_step : (most : ℕ) (s t : Nut) (After : Nut → Type 0) → StepsTo s t → Reaches most t After → Reaches (1 + most) s After
by_step most s t After step rest = record {
  count = suc rest.count;
  bound = omega (arith, rest.bound);
  end = rest.end;
  run = (t, step.step, rest.run);
  property = rest.property;
}

-- A sum or a difference that goes to C or A, with the state after it written out.
pub into_c : (Rule : List ℕ → Bool → Type 0) (s : Nut) (p t : Processor) → IntoC Rule p t → StepsTo s (record s { processor = t })
    → (z : List ℕ) × (carry : Bool) × Rule z carry × StepsTo s (record s { processor = record p { c = z; carry = carry } })
into_c Rule s p t effect step = (t.c, t.carry, effect.0, subst (λ u. StepsTo s (record s { processor = u })) effect.1 step)

pub into_a : (Rule : List ℕ → Bool → Type 0) (s : Nut) (p t : Processor) → IntoA Rule p t → StepsTo s (record s { processor = t })
    → (z : List ℕ) × (carry : Bool) × Rule z carry × StepsTo s (record s { processor = record p { a = z; carry = carry } })
into_a Rule s p t effect step = (t.a, t.carry, effect.0, subst (λ u. StepsTo s (record s { processor = u })) effect.1 step)

-- A run of exactly this many steps, with a property at its end.
pub exactly : (count : ℕ) (s : Nut) (After : Nut → Type 0) → Takes count s After → Reaches count s After
exactly count s After one = record { count = count; bound = omega arith; end = one.end; run = one.run; property = one.property }

pub takes_none : (s : Nut) (After : Nut → Type 0) → After s → Takes 0 s After
takes_none s After is = record { end = s; run = refl; property = is }

pub takes_step : (count : ℕ) (s t : Nut) (After : Nut → Type 0) → StepsTo s t → Takes count t After → Takes (suc count) s After
takes_step count s t After step rest = record { end = rest.end; run = (t, step.step, rest.run); property = rest.property }

pub takes_in_turn : TakesInTurn
takes_in_turn first second s Between After one go_on =
    let two = go_on one.end one.property in
    record { end = two.end; run = joined first second s one.end two.end one.run two.run; property = two.property }

pub counts_down : CountsDown
counts_down Invariant After round last go_on end zero s is =
    subst (λ count. Takes count s After) (no_rounds round last) (end s is)
  where
    no_rounds : (round last : ℕ) → last ≡ round * 0 + last
    no_rounds round last = omega arith
counts_down Invariant After round last go_on end (suc left) s is =
    subst (λ count. Takes count s After) (more_rounds round last left)
    (takes_in_turn round (round * left + last) s (Invariant left) After (go_on left s is)
    (counts_down Invariant After round last go_on end left))
  where
    more_rounds : (round last left : ℕ) → round + (round * left + last) ≡ round * suc left + last
    more_rounds round last left = omega arith
