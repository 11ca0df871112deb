-- The tests of numbers return the truth of their conditions.
use Rattle.std.proofs.Common.{◌≡◌, ℕ, List, true, Bool, sym, ◌∙◌, ap, Option, Some, None, Result, Ok, Err, rules}
use Rattle.std.specs.Prelude.{ℤ, pos, ◌&&◌, MatchBool, is_some}
use Rattle.std.specs.Option.{option_map_or}
use Rattle.h41_decimal.specs.Holding.{holding_of, number_in, worth}
use Rattle.h41_decimal.proofs.Registers.{worth-holding_of}
use Rattle.h41_rows.specs.private.Comparisons.{answer_of_comparison}
use Rattle.h41_rows.specs.declared.fault.LineFault.{LineFault}
use Rattle.h41_rows.specs.declared.fault.LineFault.TheVariants.{AlphaData}

asked_both : (g : ℤ → ℤ → Bool) (a b wa wb : Option ℤ) (result : Result Bool LineFault) → wa ≡ a → wb ≡ b
    → result ≡ answer_of_comparison g a b
    → MatchBool (is_some a && (is_some b && true))
    (result ≡ Ok (g (option_map_or (λ n. n) wa (pos 0)) (option_map_or (λ n. n) wb (pos 0)))) (result ≡ Err AlphaData)
asked_both g (Some x) (Some y) wa wb result ea eb e = search rules
asked_both g a b wa wb result ea eb e = e

asked_left : (g : ℤ → ℤ → Bool) (a wa : Option ℤ) (z : ℤ) (result : Result Bool LineFault) → wa ≡ a
    → result ≡ answer_of_comparison g a (Some z)
    → MatchBool (is_some a && true) (result ≡ Ok (g (option_map_or (λ n. n) wa (pos 0)) z)) (result ≡ Err AlphaData)
asked_left g (Some x) wa z result ea e = e ∙ ap (λ o. Ok (g (option_map_or (λ n. n) o (pos 0)) z)) (sym ea)
asked_left g None wa z result ea e = e

asked_right : (g : ℤ → ℤ → Bool) (a wa : Option ℤ) (z : ℤ) (result : Result Bool LineFault) → wa ≡ a
    → result ≡ answer_of_comparison g (Some z) a
    → MatchBool (is_some a && true) (result ≡ Ok (g z (option_map_or (λ n. n) wa (pos 0)))) (result ≡ Err AlphaData)
asked_right g (Some x) wa z result ea e = e ∙ ap (λ o. Ok (g z (option_map_or (λ n. n) o (pos 0)))) (sym ea)
asked_right g None wa z result ea e = e

-- The same for registers.
pub registers_asked : (g : ℤ → ℤ → Bool) (x y : List ℕ) (a b : Option ℤ) (result : Result Bool LineFault) → a ≡ worth (holding_of x)
    → b ≡ worth (holding_of y) → result ≡ answer_of_comparison g a b
    → MatchBool (is_some (number_in x) && (is_some (number_in y) && true))
    (result ≡ Ok (g (option_map_or (λ n. n) (worth (holding_of x)) (pos 0)) (option_map_or (λ n. n) (worth (holding_of y)) (pos 0))))
    (result ≡ Err AlphaData)
registers_asked g x y a b result ea eb e = search (rules, asked_both, worth-holding_of)

pub register_below : (g : ℤ → ℤ → Bool) (x : List ℕ) (a : Option ℤ) (result : Result Bool LineFault) → a ≡ worth (holding_of x)
    → result ≡ answer_of_comparison g a (Some (pos 0))
    → MatchBool (is_some (number_in x) && true)
    (result ≡ Ok (g (option_map_or (λ n. n) (worth (holding_of x)) (pos 0)) (pos 0))) (result ≡ Err AlphaData)
register_below g x a result ea e = search (rules, asked_left, worth-holding_of)

pub register_above : (g : ℤ → ℤ → Bool) (x : List ℕ) (a : Option ℤ) (result : Result Bool LineFault) → a ≡ worth (holding_of x)
    → result ≡ answer_of_comparison g (Some (pos 0)) a
    → MatchBool (is_some (number_in x) && true)
    (result ≡ Ok (g (pos 0) (option_map_or (λ n. n) (worth (holding_of x)) (pos 0)))) (result ≡ Err AlphaData)
register_above g x a result ea e = search (rules, asked_right, worth-holding_of)
