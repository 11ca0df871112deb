use Rattle.std.proofs.Common.{◌==◌, ℕ, Some, map, length, not, arith, rules, tests, ap, sym, ◌∙◌}
use Rattle.std.proofs.lemmas.Iterator.Consumers.{YieldsList-at, YieldsList-end, YieldsList-from_filter, YieldsList-so_far, YieldsList-turn}
use Rattle.std.proofs.lemmas.Iterator.Splits.{YieldsList-from_slice_split}
use Rattle.h41_jobs.specs.WordTexts.{is_white_space, parts_of, word_value}
use Rattle.h41_jobs.proofs.WordLemmas.{first_wrong_at, map_now}
use Rattle.h41_jobs.proofs.list.words_in.Goals as goal

pub returns-in-None-word_value : goal.returns-in-None-word_value
returns-in-None-word_value c =
    let far =
    YieldsList-so_far
    (YieldsList-at c.into_iter-part-iterator.ensures.into_iter_gives (YieldsList-from_filter _ (λ part. not (length part == 0))
    (YieldsList-at c.filter-parts.ensures.source (YieldsList-from_slice_split _ is_white_space c.args.text.now
    c.split.ensures.rest c.split.ensures.done c.split.ensures.closure (λ x b q k. search (rules, tests))))
    c.filter-parts.ensures.closure (λ x b q k. search (rules, tests)))) c.loop-part.yielded _ c.loop-part.yielded_by in
    let turn =
    YieldsList-turn
    (YieldsList-at c.into_iter-part-iterator.ensures.into_iter_gives (YieldsList-from_filter _ (λ part. not (length part == 0))
    (YieldsList-at c.filter-parts.ensures.source (YieldsList-from_slice_split _ is_white_space c.args.text.now
    c.split.ensures.rest c.split.ensures.done c.split.ensures.closure (λ x b q k. search (rules, tests))))
    c.filter-parts.ensures.closure (λ x b q k. search (rules, tests)))) c.loop-part.yielded _
    c.loop-part.yielded_by _ c.next.new.self c.in-Some.part c.in-Some.is c.next.ensures.steps in
    first_wrong_at c.loop-part.yielded c.loop-part.words.items (parts_of c.args.text.now) c.in-Some.part.now
    c.loop-part.invariant far turn.0 turn.1 (sym c.word_value.ensures ∙ c.in-None-word_value.is)
    ∙ ap (λ (n : ℕ). Some n) (omega arith)

pub returns : goal.returns
returns c =
    let all =
    YieldsList-end
    (YieldsList-at c.into_iter-part-iterator.ensures.into_iter_gives (YieldsList-from_filter _ (λ part. not (length part == 0))
    (YieldsList-at c.filter-parts.ensures.source (YieldsList-from_slice_split _ is_white_space c.args.text.now
    c.split.ensures.rest c.split.ensures.done c.split.ensures.closure (λ x b q k. search (rules, tests))))
    c.filter-parts.ensures.closure (λ x b q k. search (rules, tests)))) c.loop-part.yielded
    _ c.loop-part.yielded_by _ c.next.new.self c.in-None.is c.next.ensures.steps in
    ap (map word_value) (sym all.0) ∙ map_now c.loop-part.yielded ∙ c.loop-part.invariant
