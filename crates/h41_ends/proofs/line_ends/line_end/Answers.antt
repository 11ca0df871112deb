use Rattle.std.proofs.Common.{◌+◌, ℕ, ap, arith, sym, ◌∙◌}
use Rattle.std.specs.Int.{bit_at}
use Rattle.std.proofs.lemmas.Bool.{eq-eqb}
use Rattle.std.proofs.lemmas.List.{get_or-drop, take_rest}
use Rattle.std.proofs.lemmas.Nat.Bits.{bit_at-zero}
use Rattle.h41_ends.proofs.LineEnds.{ends_at, found_behind, none_behind, none_more, other_byte}
use Rattle.h41_ends.proofs.line_ends.line_end.Goals as goal

pub returns-then-ends-ne0 : goal.returns-then-ends-ne0
returns-then-ends-ne0 c =
    let text = c.args.text.now in
    let at = c.loop-at.at in
    let found = c.lowest.result in
    let within = c.line_ends-ends.ensures.within found c.lowest.ensures.set in
    let bits = simp take_rest at c.line_ends-ends.ensures.bits in
    ends_at text (at + found) (omega arith)
    (none_more text at found c.loop-at.invariant.none
    (λ k l. other_byte (bit_at c.line_ends-ends.result k) _ (c.lowest.ensures.below k l) (bits k (omega arith)).1))
    (eq-eqb _ 10 (sym (get_or-drop at text found 0) ∙ (bits found within).0 c.lowest.ensures.set))

pub loop-at-preserved : goal.loop-at-preserved
loop-at-preserved c =
    let text = c.args.text.now in
    let bits = simp take_rest at c.line_ends-ends.ensures.bits in
    record {
      within = omega arith;
      none = none_more text c.loop-at.at 16 c.loop-at.invariant.none
          (λ k l. other_byte (bit_at c.line_ends-ends.result k) _
          (ap (λ (ends : ℕ). bit_at ends k) c.if-ends-ne0.false ∙ bit_at-zero k) (bits k l).1);
    }

pub returns-in-Some : goal.returns-in-Some
returns-in-Some c =
    found_behind c.args.text.now c.loop-at.at c.in-Some.end c.loop-at.invariant.within c.loop-at.invariant.none
    (simp take_rest at c.in-Some.ensures)

pub returns-in-None : goal.returns-in-None
returns-in-None c =
    none_behind c.args.text.now c.loop-at.at c.loop-at.invariant.within c.loop-at.invariant.none (simp take_rest at c.in-None.ensures)
