use Rattle.std.proofs.Common.{◌≡◌, ◌∷◌, ◌++◌, [], List, ℕ, map, sym, ap, ◌∙◌, append_assoc}
use Rattle.std.proofs.lemmas.List.{map-append}
use Rattle.std.proofs.lemmas.Iterator.Consumers.{YieldsList-from_first, YieldsList-end}
use Rattle.h41_commands.specs.Blocks.{word_values, block_words}
use Rattle.h41_lines.specs.Words.{words_of}
use Rattle.h41_commands.proofs.WordValues.{block_words-push}
use Rattle.h41_commands.proofs.blocks.page_words.PageWords.add_line.Goals as goal

pub loop-word-preserved : goal.loop-word-preserved
loop-word-preserved c = λ words e.
    let before = map (λ word. word.now) c.loop-word.yielded in
    let joined : (words ++ before) ++ c.in-Some.word.now ∷ [] ≡ words ++ (before ++ c.in-Some.word.now ∷ []) =
    append_assoc words before (c.in-Some.word.now ∷ []) in
    c.in_ok-add.ensures (words ++ before) (c.loop-word.invariant words e)
    ∙ ap word_values
    (joined ∙ ap (λ (all : List (List ℕ)). words ++ all) (sym (map-append (λ word. word.now) c.loop-word.yielded (c.in-Some.word ∷ []))))

pub returns-in-None : goal.returns-in-None
returns-in-None c = λ inside e.
    let all =
    YieldsList-end (YieldsList-from_first (λ word. word.now) (λ s. words_of s.rest.now) (words_of c.args.line.now)
    (ap (λ s. words_of s.rest.now) c.into_iter-word-iterator.ensures.into_iter_gives ∙ ap words_of c.new-word-items.ensures))
    c.loop-word.yielded _ c.loop-word.yielded_by _ c.next.new.self c.in-None.is c.next.ensures.steps in
    let kept = c.loop-word.invariant (block_words inside) e in
    kept
    ∙ ap word_values (ap (λ (words : List (List ℕ)). block_words inside ++ words) all.0
    ∙ sym (block_words-push inside c.args.line.now (sym c.if-not-is_skipped.ensures)))
