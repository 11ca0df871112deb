use Rattle.std.proofs.Common.{◌≡◌, ℕ, ◌+◌, ◌≤◌, false, List, [], ◌∷◌, ◌++◌, length, take, refl, ap, subst, sym, ◌∙◌, arith}
use Rattle.h41_arith.specs.DigitRule.{KeepsOutside}
use Rattle.h41_arith.specs.DigitRuleLaws.{number_of}
use Rattle.h41_laws_words.specs.WholeStates.{IsWhole}
use Rattle.h41_nut.specs.Addresses.{address_after, is_closed}
use Rattle.h41_nut.specs.Jumps.{newest_return}
use Rattle.h41_nut.specs.WordStep.{Nut}
use Rattle.h41_nut.specs.declared.base.Base.TheVariants.{Hexadecimal}
use Rattle.h41_words.specs.WordTable as words
use Rattle.h41_reasoning.specs.Runs.{HasCalled, HasWords, Takes}
use Rattle.h41_reasoning.specs.WordRuns.{RunsLeaveWhole, StepsTo, WordIsExecuted}
use Rattle.h41_reasoning.proofs.Calls.{calls_keep_returns, only_c_known, takes_also, takes_call, takes_whole}
use Rattle.h41_reasoning.proofs.Digits.{keeps_in_turn}
use Rattle.h41_reasoning.proofs.Jumps.{long_jump_taken, returned}
use Rattle.h41_reasoning.proofs.Rounds.{takes_in_turn, takes_none, takes_step}
use Rattle.h41_proved_words.specs.AddTwo.{AddTwoReturns, HasAddedTwo, add_two_words}
use Rattle.h41_proved_words.specs.Increment.{IncrementReturns, IsIncremented, increment_words}

module _ (straight : WordIsExecuted) (leaves : RunsLeaveWhole) (increment : IncrementReturns) (s : Nut)
    (has : HasWords s.pages 0x8000 add_two_words) (has_other : HasWords s.pages 0x9000 increment_words)
    (returns : is_closed (newest_return s.processor) ≡ false) (base : s.processor.base ≡ Hexadecimal) where
  -- The state at an address, with a C and return addresses, and the carry clear.
  abbrev with_c : ℕ → List ℕ → List ℕ → Nut
  with_c address c addresses = record s { processor = record s.processor { c = c; carry = false; pc = address; returns = addresses } }

  -- After the call of a function that adds 1.
  record HasCalledFrom (back : ℕ) (c addresses : List ℕ) (t : Nut) : Type 0 where
    whole : IsWhole t
    after : List ℕ
    is : t ≡ with_c back after (take 3 addresses ++ 0 ∷ [])
    counted : number_of 16 after 0 2 ≡ number_of 16 c 0 2 + 1
    others : KeepsOutside c 0 2 after

  -- A call from an address, to which the function returns.
  call : (address back : ℕ) (c addresses : List ℕ) → address_after address 2 ≡ back → is_closed back ≡ false
      → number_of 16 c 0 2 ≤ 0xFFE
      → IsWhole (with_c address c addresses) → StepsTo (with_c address c addresses) (with_c 0x9000 c (back ∷ take 3 addresses))
      → Takes 3 (with_c address c addresses) (HasCalledFrom back c addresses)
  call address back c addresses is_back is_open less whole step =
      let u = with_c 0x9000 c (back ∷ take 3 addresses) in
      takes_also 3 (with_c address c addresses) (λ t. IsWhole t × (HasCalled (with_c address c addresses) t × IsIncremented u t))
      (HasCalledFrom back c addresses)
      (λ t is. record {
        whole = is.0;
        after = t.processor.c;
        is = only_c_known u t false back (take 3 addresses ++ 0 ∷ []) is.1.1.only is.1.1.carry (is.1.0.address ∙ is_back) is.1.0.returns;
        counted = is.1.1.counted;
        others = is.1.1.others;
      })
      (takes_whole leaves 3 (with_c address c addresses) (λ t. HasCalled (with_c address c addresses) t × IsIncremented u t) whole
      (takes_call 2 (with_c address c addresses) u (IsIncremented u) step (ap (λ other. other ∷ take 3 addresses) (sym is_back))
      (increment u step.whole (omega arith) has_other refl is_open base less)))

  proved : IsWhole (with_c 0x8000 s.processor.c s.processor.returns) → length s.processor.returns ≡ 4
      → number_of 16 s.processor.c 0 2 ≤ 0xFFD
      → Takes 7 (with_c 0x8000 s.processor.c s.processor.returns) (HasAddedTwo s)
  unfolding words.number_of
  proved whole size less =
      let kept = calls_keep_returns s.processor.returns size in
      takes_in_turn 3 4 _ (HasCalledFrom 0x8002 s.processor.c s.processor.returns) (HasAddedTwo s)
      (call 0x8000 0x8002 s.processor.c s.processor.returns refl refl (omega (arith, less)) whole
      (long_jump_taken straight _ whole 0 0x240 (omega arith) (has 0 (omega arith)) (has 1 (omega arith)) refl refl))
      (λ t one. subst (λ u. Takes 4 u (HasAddedTwo s)) (sym one.is)
      (let here = subst IsWhole one.is one.whole in
      takes_in_turn 3 1 _ (HasCalledFrom 0x8004 one.after (take 3 s.processor.returns ++ 0 ∷ [])) (HasAddedTwo s)
      (call 0x8002 0x8004 one.after (take 3 s.processor.returns ++ 0 ∷ []) refl refl (omega (arith, less, one.counted)) here
      (long_jump_taken straight _ here 0 0x240 (omega arith) (has 2 (omega arith)) (has 3 (omega arith)) refl refl))
      (λ u two.
      let is : u ≡ with_c 0x8004 two.after (take 3 s.processor.returns ++ 0 ∷ []) =
      two.is ∙ ap (λ addresses. with_c 0x8004 two.after addresses) kept.0 in
      subst (λ v. Takes 1 v (HasAddedTwo s)) (sym is)
      (takes_step 0 _ _ _
      (returned straight _ (subst IsWhole is two.whole) (has 4 (omega arith)) (ap is_closed kept.1 ∙ returns))
      (takes_none _ (HasAddedTwo s)
      (record {
        returned = record { address = kept.1; returns = kept.2 };
        counted = omega (arith, one.counted, two.counted);
        others = keeps_in_turn s.processor.c one.after two.after 0 2 one.others two.others;
        carry = refl;
        only = refl;
      }))))))

pub add_two : WordIsExecuted → RunsLeaveWhole → IncrementReturns → AddTwoReturns
add_two straight leaves increment s whole next has has_other returns size carry base less =
    let here : record s { processor = record s.processor { pc = 0x8000; carry = false } } ≡ s = rw (← next, ← carry) refl in
    subst (λ t. Takes 7 t (HasAddedTwo s)) here
    (proved straight leaves increment s has has_other returns base (subst IsWhole (sym here) whole) size less)
