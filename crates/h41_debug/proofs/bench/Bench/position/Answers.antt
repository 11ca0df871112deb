use Rattle.std.proofs.Common.{◌≡◌, ◌+◌, ◌≤◌, ℕ, List, [], ◌++◌, length, rules, arith, ap, refl, length-append, ◌∙◌}
use Rattle.std.specs.Prelude.{codes}
use Rattle.h41_breakpoints.specs.declared.location.Location.{Location}
use Rattle.h41_xrom.specs.declared.calculator.Mode.{Mode}
use Rattle.h41_xrom.specs.Calculator.{CalculatorState}
use Rattle.h41_debug.specs.Bench.{BenchState}
use Rattle.h41_debug.specs.Positions.{location_digits, location_of, mode_name, position_text}
use Rattle.h41_debug.proofs.bench.Bench.position.Goals as goal

-- The room for the parts.
module _ (none name : List ℕ) (empty : none ≡ []) (short : length name ≤ 5) where
  room_name : length none + length name ≤ 11
  room_name = rw empty (omega (arith, short))

  room_blank : (text : List ℕ) → text ≡ none ++ name → length text + 1 ≤ 11
  room_blank text is = rw (is, empty) (omega (arith, short))

  room_digits : (text more digits : List ℕ) → text ≡ none ++ name → more ≡ text ++ codes " " → length digits ≤ 5
      → length more + length digits ≤ 11
  room_digits text more digits is next few = rw (next, is, empty, length-append) (omega (arith, short, few))

told : (s : BenchState) (m : Mode) (at : Location) (none name text more digits all : List ℕ) → none ≡ [] → text ≡ none ++ name
    → more ≡ text ++ codes " " → all ≡ more ++ digits → name ≡ mode_name m → m ≡ s.calculator.mode → digits ≡ location_digits at
    → at ≡ location_of s.calculator → all ≡ position_text s
told s m at none name text more digits all empty one two three named mode means here =
    rw (three, two, one, empty, named, mode, means, here) refl

pub push_str-requires : goal.push_str-requires
push_str-requires g c = (search rules, room_name _ _ c.new-text.ensures c.mode_name.ensures.short)

pub push_str-requires-2 : goal.push_str-requires-2
push_str-requires-2 g c = (search rules, room_blank _ _ c.new-text.ensures c.mode_name.ensures.short _ c.push_str.ensures.bytes)

pub push_str-requires-3 : goal.push_str-requires-3
push_str-requires-3 g c = (
  search rules,
  room_digits _ _ c.new-text.ensures c.mode_name.ensures.short _ _ _ c.push_str.ensures.bytes
      c.push_str-2.ensures.bytes c.as_str.ensures.fits,
)

pub returns : goal.returns
returns g c =
    told c.args.self.now.state _ _ _ _ _ _ _ _ c.new-text.ensures c.push_str.ensures.bytes c.push_str-2.ensures.bytes
    c.push_str-3.ensures.bytes c.mode_name.ensures.text
    (c.mode.ensures ∙ ap (λ (s : CalculatorState). s.mode) c.calculator.ensures.state)
    (c.as_str.ensures.value ∙ c.location_digits.ensures) c.location.ensures
