use Rattle.std.proofs.Common.{arith}
use Rattle.std.proofs.lemmas.Grind.{common_steps}
use Rattle.std.proofs.lemmas.List.FromFn.{map-range_with_len_more}
use Rattle.h41_pages.specs.Images.{first_words, word_in_bytes}
use Rattle.h41_pages.proofs.image_bytes.words_in.Goals as goal

pub loop-offset-init : goal.loop-offset-init
unfolding first_words
loop-offset-init c = grind (arith, common_steps)

pub loop-offset-preserved : goal.loop-offset-preserved
unfolding first_words
loop-offset-preserved c =
    grind (
      arith,
      common_steps,
      map-range_with_len_more (word_in_bytes c.args.bytes.now) 0 c.loop-offset.offset c.loop-offset.offset (omega arith),
    )
