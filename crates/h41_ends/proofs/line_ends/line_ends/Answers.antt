use Rattle.std.proofs.Common.{inl, inr, ◌≡◌, ℕ, cond, get_or, take, ap, arith, sym, ◌∙◌}
use Rattle.std.proofs.lemmas.Bool.{cases_lt, eq-eqb, eqb-true}
use Rattle.std.proofs.lemmas.List.{get_or-take, get_or_past, length-take-le}
use Rattle.h41_ends.proofs.LineEnds.{bit_of_byte, is_end_byte, set_is_end}
use Rattle.h41_ends.proofs.line_ends.line_ends.Goals as goal

pub returns-clause-within : goal.returns-clause-within
returns-clause-within c k set =
    let text = c.args.text.now in
    let here = set_is_end (is_end_byte (get_or (take 16 text) k 0)) (sym (bit_of_byte text k c.requires) ∙ set) in
    elim (cases_lt k 16) [
      | inl within ↦ within
      | inr past ↦
          let none : get_or (take 16 text) k 0 ≡ 0 = get_or_past (take 16 text) k 0 (omega (arith, length-take-le 16 text c.requires)) in
          let same = eqb-true (get_or (take 16 text) k 0) 10 here in
          absurd (omega (arith, none, same))
    ]

pub returns-clause-bits : goal.returns-clause-bits
returns-clause-bits c k within =
    let text = c.args.text.now in
    let bit = bit_of_byte text k c.requires in
    let same : get_or (take 16 text) k 0 ≡ get_or text k 0 = get_or-take 16 text k 0 within in (
      λ set. sym same ∙ eqb-true (get_or (take 16 text) k 0) 10 (set_is_end (is_end_byte (get_or (take 16 text) k 0)) (sym bit ∙ set)),
      λ end.
          bit ∙ ap (λ b. cond {A = ℕ} b 1 0) (eq-eqb (get_or (take 16 text) k 0) 10 (same ∙ end)),
    )
