-- The tests of numbers.
use Rattle.std.proofs.Common.{◌≡◌, ℕ, List, ap, ◌∙◌}
use Rattle.std.specs.Prelude.{int_lt, int_le}
use Rattle.h41_decimal.specs.Holding.{holding_of, worth}
use Rattle.h41_ram.specs.RegisterMap.{register_at}
use Rattle.h41_rows.proofs.Asked.{registers_asked, register_below, register_above}
use Rattle.h41_rows.specs.private.Comparisons.{answer_of_comparison}
use Rattle.h41_rows.proofs.conditions.asks.Goals as goal

-- Equal registers contain equal numbers.
held : {x y : List ℕ} → x ≡ y → worth (holding_of x) ≡ worth (holding_of y)
held same = ap (λ register. worth (holding_of register)) same

pub returns-in-XLessThanY : goal.returns-in-XLessThanY
returns-in-XLessThanY g c =
    rw c.in-XLessThanY.is
    (λ named. registers_asked int_lt (register_at c.args.ram.now.registers 3) (register_at c.args.ram.now.registers 2) _ _ c.below.result
    (held c.x-in-XLessThanY.ensures) (held c.y-in-XLessThanY.ensures) c.below.ensures)

pub returns-in-XGreaterThanY : goal.returns-in-XGreaterThanY
returns-in-XGreaterThanY g c =
    rw c.in-XGreaterThanY.is
    (λ named. registers_asked int_lt (register_at c.args.ram.now.registers 2) (register_at c.args.ram.now.registers 3) _ _
    c.below-in-XGreaterThanY.result
    (held c.y-in-XGreaterThanY.ensures) (held c.x-in-XGreaterThanY.ensures) c.below-in-XGreaterThanY.ensures)

pub returns-in-XAtMostY : goal.returns-in-XAtMostY
returns-in-XAtMostY g c =
    rw c.in-XAtMostY.is
    (λ named. registers_asked int_le (register_at c.args.ram.now.registers 3) (register_at c.args.ram.now.registers 2) _ _ c.at_most.result
    (held c.x-in-XAtMostY.ensures) (held c.y-in-XAtMostY.ensures) c.at_most.ensures)

pub returns-in-XPositive : goal.returns-in-XPositive
returns-in-XPositive g c =
    let x = register_at c.args.ram.now.registers 3 in
    let answer = answer_of_comparison int_lt in
    rw c.in-XPositive.is
    (λ named. register_above int_lt x _ c.below-in-XPositive.result (held c.x-in-XPositive.ensures)
    (c.below-in-XPositive.ensures
    ∙ ap (λ zero. answer zero (worth (holding_of c.x-in-XPositive.result))) (held c.zero-in-XPositive.ensures)))

pub returns-in-XNegative : goal.returns-in-XNegative
returns-in-XNegative g c =
    let x = register_at c.args.ram.now.registers 3 in
    let answer = answer_of_comparison int_lt (worth (holding_of c.x-in-XNegative.result)) in
    rw c.in-XNegative.is
    (λ named. register_below int_lt x _ c.below-in-XNegative.result (held c.x-in-XNegative.ensures)
    (c.below-in-XNegative.ensures ∙ ap answer (held c.zero-in-XNegative.ensures)))

pub returns-in-XAtMostZero : goal.returns-in-XAtMostZero
returns-in-XAtMostZero g c =
    let x = register_at c.args.ram.now.registers 3 in
    let answer = answer_of_comparison int_le (worth (holding_of c.x-in-XAtMostZero.result)) in
    rw c.in-XAtMostZero.is
    (λ named. register_below int_le x _ c.at_most-in-XAtMostZero.result (held c.x-in-XAtMostZero.ensures)
    (c.at_most-in-XAtMostZero.ensures ∙ ap answer (held c.zero-in-XAtMostZero.ensures)))
