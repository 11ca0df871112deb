-- Runs of lines with properties of states: parts in turn, and loops.
use Rattle.std.proofs.Common.{◌≡◌, ℕ, zero, suc, ◌+◌, ◌*◌, ◌≤◌, ◌<◌, Ok, inl, inr, refl, subst, sym, arith, mul-le-mul_left, zero-add}
use Rattle.std.proofs.Math.Nat.{mul-add}
use Rattle.h41_focal.specs.LineStep.{Left, StepsLine}
use Rattle.h41_pages.specs.PageMap.{PageMap}
use Rattle.h41_positions.specs.FocalState.{Machine}
use Rattle.h41_reasoning_lines.specs.LineRuns.{Continues, Leaves, Runs, WithinSteps}
use Rattle.h41_reasoning_lines.specs.LineRounds.{AfterRound, LeavesInTurn, LineRunsJoin, LoopsEnd}

suc_first : (first second : ℕ) → suc (first + second) ≡ suc first + second
suc_first first second = omega arith

pub joined : LineRunsJoin
joined pages zero second s t u one two =
    subst (λ n. Runs pages n s u) (sym (zero-add second)) (subst (λ v. Runs pages second v u) one two)
joined pages (suc first) second s t u one two =
    subst (λ n. Runs pages n s u) (suc_first first second) (one.0, one.1, joined pages first second one.0 t u one.2 two)

module _ (pages : PageMap) where
  pub in_turn : (first second : ℕ) (s : Machine) (Between After : Machine → Type 0) → WithinSteps pages first s Between
      → ((t : Machine) → Between t → WithinSteps pages second t After) → WithinSteps pages (first + second) s After
  in_turn first second s Between After one go_on =
      let two = go_on one.end one.property in
      record {
        count = one.count + two.count;
        bound = omega (arith, one.bound, two.bound);
        end = two.end;
        run = joined pages one.count two.count s one.end two.end one.run two.run;
        property = two.property;
      }

  pub more_suffice : (most more : ℕ) (s : Machine) (After : Machine → Type 0) → most ≤ more → WithinSteps pages most s After
      → WithinSteps pages more s After
  more_suffice most more s After enough one = record {
    count = one.count;
    bound = omega (arith, enough, one.bound);
    end = one.end;
    run = one.run;
    property = one.property;
  }

  -- A run without a line.
  pub at_end : (s : Machine) (After : Machine → Type 0) → After s → WithinSteps pages 0 s After
  at_end s After is = record { count = 0; bound = omega arith; end = s; run = refl; property = is }

  -- A line, and the run after it.
  pub by_line : (most : ℕ) (s t : Machine) (After : Machine → Type 0) → Continues pages s t → WithinSteps pages most t After
      → WithinSteps pages (1 + most) s After
  by_line most s t After step rest = record {
    count = suc rest.count;
    bound = omega (arith, rest.bound);
    end = rest.end;
    run = (t, step, rest.run);
    property = rest.property;
  }

  -- The last line of a program.
  pub by_last : (s : Machine) (left : Left) (After : Left → Type 0) → StepsLine pages s (Ok left) → After left
      → Leaves pages 1 s After
  by_last s left After step is =
      record { count = 0; bound = omega arith; before = s; run = refl; left = left; last = step; property = is }

  pub more_lines_suffice : (most more : ℕ) (s : Machine) (After : Left → Type 0) → most ≤ more → Leaves pages most s After
      → Leaves pages more s After
  more_lines_suffice most more s After enough one = record {
    count = one.count;
    bound = omega (arith, enough, one.bound);
    before = one.before;
    run = one.run;
    left = one.left;
    last = one.last;
    property = one.property;
  }

  -- What is true after a program, and what follows from it.
  pub leaves_as : (most : ℕ) (s : Machine) (After Other : Left → Type 0) → ((left : Left) → After left → Other left)
      → Leaves pages most s After → Leaves pages most s Other
  leaves_as most s After Other follows one = record {
    count = one.count;
    bound = one.bound;
    before = one.before;
    run = one.run;
    left = one.left;
    last = one.last;
    property = follows one.left one.property;
  }

  -- A line, and the lines after it up to the last one.
  pub line_then : (most : ℕ) (s t : Machine) (After : Left → Type 0) → Continues pages s t → Leaves pages most t After
      → Leaves pages (1 + most) s After
  line_then most s t After step rest = record {
    count = suc rest.count;
    bound = omega (arith, rest.bound);
    before = rest.before;
    run = (t, step, rest.run);
    left = rest.left;
    last = rest.last;
    property = rest.property;
  }

pub leaves_in_turn : LeavesInTurn
leaves_in_turn pages first second s Between After one go_on =
    let two = go_on one.end one.property in
    record {
      count = one.count + two.count;
      bound = omega (arith, one.bound, two.bound);
      before = two.before;
      run = joined pages one.count two.count s one.end two.before one.run two.run;
      left = two.left;
      last = two.last;
      property = two.property;
    }

-- What a round leaves, as a run to the end of the loop.
module _ (pages : PageMap) (Invariant : ℕ → Machine → Type 0) (After : Machine → Type 0) (most : ℕ)
    (round : (left : ℕ) (s : Machine) → Invariant left s → WithinSteps pages most s (AfterRound Invariant After left)) where
  -- The state after a round, if fewer rounds end.
  after_round : (left : ℕ) (t : Machine)
      → ((fewer : ℕ) (u : Machine) → fewer < left → Invariant fewer u → WithinSteps pages (most * (fewer + 1)) u After)
      → AfterRound Invariant After left t → WithinSteps pages (most * left) t After
  after_round left t again (inl is) = more_suffice pages 0 (most * left) t After (omega arith) (at_end pages t After is)
  after_round left t again (inr (fewer, less, is)) =
      more_suffice pages (most * (fewer + 1)) (most * left) t After (mul-le-mul_left most (omega (arith, less)))
      (again fewer t less is)

  one_more : (left : ℕ) → most + most * left ≤ most * (left + 1)
  one_more left = omega (arith, mul-add most left 1)

  from_round : (bound left : ℕ) (s : Machine) → left < bound → Invariant left s → WithinSteps pages (most * (left + 1)) s After
  from_round zero left s less is = absurd (omega (arith, less))
  from_round (suc bound) left s less is =
      more_suffice pages (most + most * left) (most * (left + 1)) s After (one_more left)
      (in_turn pages most (most * left) s (AfterRound Invariant After left) After (round left s is)
      (λ t. after_round left t (λ fewer u under. from_round bound fewer u (omega (arith, less, under)))))

pub loops_end : LoopsEnd
loops_end pages Invariant After most round left s is =
    from_round pages Invariant After most round (suc left) left s (omega arith) is
