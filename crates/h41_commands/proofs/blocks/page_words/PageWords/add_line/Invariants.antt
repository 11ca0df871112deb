use Rattle.std.proofs.Common.{◌≡◌, ◌++◌, List, ℕ, map}
use Rattle.h41_commands.specs.Blocks.{word_values}
use Rattle.h41_commands.specs.private.Contents.{words_in}
use Rattle.h41_commands.proofs.blocks.page_words.PageWords.add_line.Given as goal

abbrev pub invariant-loop-word : goal.invariant-loop-word
invariant-loop-word l =
    (words : List (List ℕ)) → words_in l.fn.self ≡ word_values words
    → words_in l.self ≡ word_values (words ++ map (λ word. word.now) l.yielded)
