-- What a list contains: of one made from others, of a range, and of one that a test looks through.
use Rattle.std.specs.Prelude.{◌≡◌, ℕ, zero, suc, ◌+◌, ◌-◌, ◌<◌, ◌≤◌, Bool, true, List, [], ◌∷◌, map, length, Contains, ◌==◌}
use Rattle.std.specs.List.{flat_map, range_with_len, list_any, list_all}
use Rattle.std.proofs.Common.{sym, ◌∙◌, ap, subst, arith, get_or}
use Rattle.std.proofs.lemmas.Bool.{eqb-true}
use Rattle.std.proofs.lemmas.List.{get_or-map, length-map}
use Rattle.std.proofs.lemmas.List.FromFn.{get_or-range_with_len, length-range_with_len}
use Rattle.std.proofs.lemmas.List.Elements.{All-get_or, Contains-append_left, Contains-append_right}
use Rattle.std.proofs.lemmas.List.Folds.{Any-from_list_any}
use Rattle.std.proofs.lemmas.List.Sums.{AllPass-from_list_all}

-- An element of one of several lists is an element of all of them together.
pub in_flat_map : {A B : Type 0} (f : A → List B) (k : ℕ) (x : A) (y : B) (xs : List A)
    → k < length xs → get_or xs k x ≡ x → Contains (f x) y → Contains (flat_map f xs) y
in_flat_map f k x y [] inside same member = absurd (omega arith)
in_flat_map {A} {B} f zero x y (first ∷ rest) inside same member =
    Contains-append_left (f first) (flat_map f rest) y (subst (λ (a : A). Contains (f a) y) (sym same) member)
in_flat_map f (suc k) x y (first ∷ rest) inside same member =
    Contains-append_right (f first) (flat_map f rest) y (in_flat_map f k x y rest (omega arith) same member)

pub in_map : {A B : Type 0} (f : A → B) (x : A) (xs : List A) → Contains xs x → Contains (map f xs) (f x)
in_map f x xs at = (at.0, omega (arith, length-map xs f, at.1), get_or-map f xs at.0 x (f x) at.1 ∙ ap f at.2)

pub in_range : (first count number : ℕ) → first ≤ number → number < first + count → Contains (range_with_len first count) number
in_range first count number low high = (
  number - first,
  omega (arith, length-range_with_len first count),
  get_or-range_with_len first count (number - first) number (omega arith) ∙ omega arith,
)

-- A test that all elements of a list pass is passed by each of them.
pub at_member : (test : ℕ → Bool) (numbers : List ℕ) (number : ℕ) → list_all test numbers ≡ true → Contains numbers number
    → test number ≡ true
at_member test numbers number passes at =
    ap test (sym at.2) ∙ All-get_or (λ n. test n ≡ true) numbers at.0 number at.1 (AllPass-from_list_all test numbers passes)

-- A number that a test finds in a list is an element of it.
pub found : (number : ℕ) (numbers : List ℕ) → list_any (λ other. other == number) numbers ≡ true → Contains numbers number
found number numbers passes =
    let some = Any-from_list_any (λ other. other == number) numbers passes in
    subst (λ (n : ℕ). Contains numbers n) (eqb-true some.1 number some.4) (some.0, some.2, some.3)
