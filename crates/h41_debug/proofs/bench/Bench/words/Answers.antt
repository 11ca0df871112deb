use Rattle.std.proofs.Common.{rules, ◌≡◌, ◌<◌, ◌≤◌, ◌+◌, ◌-◌, ℕ, Bool, true, false, if◌then◌else◌, None, arith, refl, sym, ap, ◌∙◌}
use Rattle.h41_xrom.specs.declared.calculator.Caller.{Caller}
use Rattle.h41_xrom.specs.declared.calculator.Mode.TheVariants.{Micro}
use Rattle.h41_debug.specs.Bench.{BenchState}
use Rattle.h41_debug.specs.private.Running.{stop_after}
use Rattle.h41_breakpoints.specs.Breakpoints.{is_set}
use Rattle.h41_debug.specs.Positions.{location_of}
use Rattle.h41_debug.proofs.Advancing.{all_steps, clear_behind, ends_piece, less_left, next_fits, one_more, refused_piece, same, up_to}
use Rattle.h41_breakpoints.proofs.Members.{none_set}
use Rattle.h41_debug.proofs.CacheInTurn as cache
use Rattle.h41_debug.specs.LabelledBench.{calculator_of}
use Rattle.h41_debug.proofs.bench.Bench.words.Goals as goal
use Rattle.h41_debug.proofs.bench.Bench.words.Goals.{else-watched-via-then-watched+else-has_breakpoint, else-watched-via-else-watched}

-- Between two words breakpoints are not tested if none is set; if some are, they are tested after each word.
between : (watched : Bool) (made word limit : ℕ) (t : BenchState) (behind : Bool) (caller : Caller)
    → (watched ≡ false → is_set t.breakpoints (location_of t.calculator) ≡ false) → t.calculator.mode ≡ Micro caller → made ≤ word
    → word + 1 < (if watched then made + 1 else limit) → stop_after behind t ≡ None
between true made word limit t behind caller free mode from more = absurd (omega (arith, from, more))
between false made word limit t behind caller free mode from more = clear_behind behind t caller mode (free refl)

below_limit : (word until limit : ℕ) → word < until → until ≤ limit → word < limit
below_limit word until limit below most = omega (arith, below, most)

behind_all : (from made until : ℕ) → from ≤ made → made < until → from < until
behind_all from made until most behind = omega (arith, most, behind)

pub returns-in-Ok-false-clause-steps : goal.returns-in-Ok-false-clause-steps
returns-in-Ok-false-clause-steps g c =
    ends_piece c.step_is_determined.ensures.refusal c.step_is_determined.ensures.state _ _ _ _ _ _
    c.loop-word.invariant.0 c.loop-word.invariant.3 (omega (arith, c.loop-made.invariant.4, c.loop-word.auto.word))
    (c.loop-word.invariant.1 c.loop-word-test.true) (omega (arith, c.loop-word-test.true, c.next_look-until.ensures.most))
    c.in-Ok-false.ensures.refusal c.in-Ok-false.ensures.change c.step_word.ensures.others

pub loop-word-preserved : goal.loop-word-preserved
loop-word-preserved g c =
    let kept = ap (λ (at : BenchState). at.breakpoints) c.step_word.ensures.others ∙ c.loop-word.invariant.3 in
    let mode : c.step_word.new.self.state.calculator.mode ≡ Micro c.args.caller =
    rw c.in-Ok-true.field-0-test at c.in-Ok-true.ensures.mode in
    let free : c.args.watched ≡ false → is_set c.step_word.new.self.state.breakpoints
    (location_of c.step_word.new.self.state.calculator) ≡ false =
    λ unwatched.
    rw kept (sym (none_set c.args.self.now.state.breakpoints (location_of c.step_word.new.self.state.calculator)
    (c.requires.free unwatched))) in (
      one_more c.step_is_determined.ensures.refusal c.step_is_determined.ensures.state _ _ _ _ _ _
          c.loop-word.invariant.0 (c.loop-word.invariant.1 c.loop-word-test.true)
          (omega (arith, c.loop-word-test.true, c.next_look-until.ensures.most))
          c.in-Ok-true.ensures.refusal c.in-Ok-true.ensures.change c.step_word.ensures.others,
      (λ more. between c.args.watched c.loop-made.made c.loop-word.word c.args.limit c.step_word.new.self.state _ c.args.caller free mode
          c.loop-word.auto.word (rw (← c.next_look-until.ensures.look) more)),
      mode,
      kept,
      (λ start begun. cache.one_more c.loop-word.word start (calculator_of c.loop-word.self) (calculator_of c.step_word.new.self)
          (c.loop-word.invariant.4 start begun) c.in-Ok-true.ensures.change c.in-Ok-true.ensures.kept),
    )

pub loop-made-preserved : goal.loop-made-preserved
loop-made-preserved g c =
    let until = c.next_look-until.result in
    let all : c.loop-word.word ≡ until =
    omega (arith, c.loop-word-test.false, c.loop-word.auto.word-end, c.next_look-until.ensures.after) in
    let kept = c.loop-word.invariant.3 in
    let free : is_set c.loop-word.self.state.breakpoints (location_of c.loop-word.self.state.calculator) ≡ false = elim
    c.else-watched.branch [
      | else-watched-via-then-watched+else-has_breakpoint w ↦
          rw (← w.word_location.ensures) (sym w.has_breakpoint.ensures ∙ w.if-has_breakpoint.false)
      | else-watched-via-else-watched w ↦
          rw kept
          (sym (none_set c.args.self.now.state.breakpoints (location_of c.loop-word.self.state.calculator)
          (c.requires.free w.if-watched.false)))
    ] in (
      rw (← all) c.loop-word.invariant.0,
      clear_behind _ c.loop-word.self.state c.args.caller c.loop-word.invariant.2 free,
      c.loop-word.invariant.2,
      kept,
      omega (arith, c.loop-made.invariant.4, c.next_look-until.ensures.after),
      c.next_look-until.ensures.most,
      rw (← all) c.loop-word.invariant.4,
    )

pub loop-made-init : goal.loop-made-init
loop-made-init g c =
    ((λ start begun. begun), c.requires.clear, c.requires.mode, refl, same _, up_to _ _ c.requires.below, (λ start begun. begun))

pub loop-word-init : goal.loop-word-init
loop-word-init g c =
    (c.loop-made.invariant.0, (λ below. c.loop-made.invariant.1), c.loop-made.invariant.2, c.loop-made.invariant.3, c.loop-made.invariant.6)

pub overflow_add-result : goal.overflow_add-result
overflow_add-result g c = next_fits _ _ _ c.loop-word-test.true c.next_look-until.ensures.most c.ranges.limit

pub step_word-requires : goal.step_word-requires
step_word-requires g c = (search rules, c.loop-word.invariant.2)

pub returns-in-Err-clause-steps : goal.returns-in-Err-clause-steps
returns-in-Err-clause-steps g c =
    refused_piece _ _ _ _ _ _ _ c.loop-word.invariant.0 c.loop-word.invariant.3 (c.loop-word.invariant.1 c.loop-word-test.true)
    (below_limit _ _ _ c.loop-word-test.true c.next_look-until.ensures.most) c.in-Err.ensures.refusal c.in-Err.ensures.unchanged

pub word_location-requires : goal.word_location-requires
word_location-requires g c = (search rules, rw c.loop-word.invariant.2 refl)

pub returns-then-has_breakpoint-clause-steps : goal.returns-then-has_breakpoint-clause-steps
returns-then-has_breakpoint-clause-steps g c =
    all_steps _ _ _ _ _ _ c.loop-word.invariant.0 c.loop-word.invariant.3 c.loop-word-test.false
    (c.loop-word.auto.word-end (up_to _ _ c.next_look-until.ensures.after)) c.next_look-until.ensures.most
    (behind_all _ _ _ c.loop-made.invariant.4 c.next_look-until.ensures.after)

pub loop-made-smaller : goal.loop-made-smaller
loop-made-smaller g c = less_left _ _ _ c.loop-made-test.true c.next_look-until.ensures.after

pub returns-clause-steps : goal.returns-clause-steps
returns-clause-steps g c =
    all_steps _ _ _ _ _ _ c.loop-made.invariant.0 c.loop-made.invariant.3 c.loop-made-test.false c.loop-made.invariant.5
    (same _) c.requires.below

pub returns-in-Ok-false-clause-kept : goal.returns-in-Ok-false-clause-kept
returns-in-Ok-false-clause-kept g c start begun =
    cache.one_more c.loop-word.word start (calculator_of c.loop-word.self) (calculator_of c.step_word.new.self)
    (c.loop-word.invariant.4 start begun) c.in-Ok-false.ensures.change c.in-Ok-false.ensures.kept

pub returns-in-Err-clause-kept : goal.returns-in-Err-clause-kept
returns-in-Err-clause-kept g c start begun =
    cache.one_tried c.loop-word.word start (calculator_of c.loop-word.self) (calculator_of c.step_word.new.self) _
    (c.loop-word.invariant.4 start begun) c.in-Err.ensures.refusal (ap (λ (at : BenchState). at.calculator) c.in-Err.ensures.unchanged)
    c.in-Err.ensures.kept

pub returns-then-has_breakpoint-clause-kept : goal.returns-then-has_breakpoint-clause-kept
returns-then-has_breakpoint-clause-kept g c start begun =
    let all : c.loop-word.word ≡ c.next_look-until.result =
    omega (arith, c.loop-word-test.false, c.loop-word.auto.word-end, c.next_look-until.ensures.after) in
    rw (← all) (c.loop-word.invariant.4 start begun)

pub returns-clause-kept : goal.returns-clause-kept
returns-clause-kept g c start begun =
    let all : c.loop-made.made ≡ c.args.limit = omega (arith, c.loop-made-test.false, c.loop-made.invariant.5) in
    rw (← all) (c.loop-made.invariant.6 start begun)
