use Rattle.std.proofs.Common.{◌≡◌, ℕ, ◌<◌, List, [], ◌∷◌, length, take, ◌∙◌, sym, ap, arith}
use Rattle.h41_codes.specs.declared.characters.Character.{Character}
use Rattle.h41_numbers.specs.NumberLines.{digits_in, mantissa_digits, number_from}
use Rattle.h41_numbers.proofs.NumberParts.{mantissa_one, mantissa_some, mantissa_alone}
use Rattle.h41_numbers.proofs.number.mantissa_digits.Goals as goal
use Rattle.h41_numbers.proofs.number.mantissa_digits.Goals.{then-digits-eq0+then-end-text, else-digits-eq0}
use Rattle.h41_numbers.proofs.number.mantissa_digits.Goals.{else-digits-eq0-via-then-digits-eq0+else-end-text}
use Rattle.h41_numbers.proofs.number.mantissa_digits.Goals.{else-digits-eq0-via-else-digits-eq0}

pub returns-clause-number : goal.returns-clause-number
returns-clause-number c =
    let text : List Character = c.args.text.now in
    let place : ℕ = c.args.end in
    elim c.if-digits-eq0.branch [
      | then-digits-eq0+then-end-text w ↦
          let one : mantissa_digits text ≡ 1 ∷ [] =
          mantissa_one text place c.requires (sym c.first_digits-digits.ensures.count ∙ w.if-digits-eq0.true) w.if-end-text.true in
          ap (λ (r : ℕ × (ℕ × Unit {0})). r.0) w.result-is ∙ sym (ap (number_from 0) one)
      | else-digits-eq0 w ↦
          let is : c.if-digits-eq0.result.0 ≡ number_from 0 (take 10 (digits_in (take place text))) =
          ap (λ (r : ℕ × (ℕ × Unit {0})). r.0) w.result-is ∙ c.first_digits-digits.ensures.number in
          elim w.else-digits-eq0.branch [
            | else-digits-eq0-via-then-digits-eq0+else-end-text v ↦
                is ∙ sym (ap (number_from 0) (mantissa_alone text place c.requires v.if-end-text.false))
            | else-digits-eq0-via-else-digits-eq0 v ↦
                let some : 0 < length (take 10 (digits_in (take place text))) =
                omega (arith, c.first_digits-digits.ensures.count, v.if-digits-eq0.false) in
                is ∙ sym (ap (number_from 0) (mantissa_some text place c.requires some))
          ]
    ]

pub returns-clause-count : goal.returns-clause-count
returns-clause-count c =
    let text : List Character = c.args.text.now in
    let place : ℕ = c.args.end in
    elim c.if-digits-eq0.branch [
      | then-digits-eq0+then-end-text w ↦
          let one : mantissa_digits text ≡ 1 ∷ [] =
          mantissa_one text place c.requires (sym c.first_digits-digits.ensures.count ∙ w.if-digits-eq0.true) w.if-end-text.true in
          ap (λ (r : ℕ × (ℕ × Unit {0})). r.1.0) w.result-is ∙ sym (ap length one)
      | else-digits-eq0 w ↦
          let is : c.if-digits-eq0.result.1.0 ≡ length (take 10 (digits_in (take place text))) =
          ap (λ (r : ℕ × (ℕ × Unit {0})). r.1.0) w.result-is ∙ c.first_digits-digits.ensures.count in
          elim w.else-digits-eq0.branch [
            | else-digits-eq0-via-then-digits-eq0+else-end-text v ↦
                is ∙ sym (ap length (mantissa_alone text place c.requires v.if-end-text.false))
            | else-digits-eq0-via-else-digits-eq0 v ↦
                let some : 0 < length (take 10 (digits_in (take place text))) =
                omega (arith, c.first_digits-digits.ensures.count, v.if-digits-eq0.false) in
                is ∙ sym (ap length (mantissa_some text place c.requires some))
          ]
    ]
