use Rattle.std.proofs.Common.{◌≡◌, ◌<◌, ◌+◌, ℕ, List, Some, false, true, [], ◌∷◌, ◌++◌, length, min, map, arith, ap, sym, ◌∙◌, rules}
use Rattle.std.proofs.lemmas.Grind.{common_steps}
use Rattle.h41_pages.specs.FunctionTables.{word_before, character, is_last}
use Rattle.h41_pages.proofs.Names.{going_on, name_begins, name_goes_on, name_ends}
use Rattle.h41_pages.proofs.Ranges.{up_to, up_to-zero, map-step, map-none}
use Rattle.h41_pages.proofs.image.Image.name_before.Goals as goal

-- The remaining words, from a distance on.
abbrev rest_of : List ℕ → ℕ → ℕ → List ℕ
rest_of words offset distance = map (word_before words offset) (up_to distance (min offset 11))

pub loop-distance-init : goal.loop-distance-init
loop-distance-init c = search (rules, up_to-zero, name_begins)

-- One more character that is not the last.
later : (words name : List ℕ) (offset distance : ℕ) → distance < min offset 11 → is_last (word_before words offset distance) ≡ false
    → going_on name (rest_of words offset distance)
    ≡ going_on (name ++ character (word_before words offset distance) ∷ []) (rest_of words offset (distance + 1))
later words name offset distance below fails = search (rules, map-step, name_goes_on)

-- The last character.
last : (words name : List ℕ) (offset distance : ℕ) → distance < min offset 11 → is_last (word_before words offset distance) ≡ true
    → going_on name (rest_of words offset distance) ≡ Some (name ++ character (word_before words offset distance) ∷ [])
last words name offset distance below passes = search (rules, map-step, name_ends)

pub returns-then-is_last : goal.returns-then-is_last
returns-then-is_last c = search (rules, last)

pub loop-distance-preserved : goal.loop-distance-preserved
loop-distance-preserved c =
    let words = c.args.self.now.words in
    let offset = c.args.offset in
    let distance = c.loop-distance.distance in
    let name = c.loop-distance.name in
    let below : distance < min offset 11 = omega (arith, c.min-count.ensures, c.loop-distance-test.true) in
    let word : c.word-word.result ≡ word_before words offset distance = c.word-word.ensures in
    let fails : is_last (word_before words offset distance) ≡ false = ap is_last (sym word) ∙ sym c.is_last.ensures ∙ c.if-is_last.false in
    let made : c.push.new.self ≡ name ++ character (word_before words offset distance) ∷ [] =
    c.push.ensures ∙ ap (λ next. name ++ next ∷ []) (c.character.ensures ∙ ap character word) in
    record {
      length = grind (arith, common_steps, c.push.ensures, c.loop-distance.invariant.length);
      name = c.loop-distance.invariant.name ∙ later words name offset distance below fails
          ∙ ap (λ name. going_on name (rest_of words offset (distance + 1))) (sym made);
    }

pub returns : goal.returns
returns c = search (rules, map-none)
