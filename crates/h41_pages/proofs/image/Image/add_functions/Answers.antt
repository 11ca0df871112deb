use Rattle.std.proofs.Common.{arith}
use Rattle.std.proofs.lemmas.Grind.{common_steps}
use Rattle.std.proofs.lemmas.List.FromFn.{map-range_with_len_more}
use Rattle.h41_pages.specs.FunctionTables.{function_in}
use Rattle.h41_pages.proofs.image.Image.add_functions.Goals as goal

pub loop-entry-preserved : goal.loop-entry-preserved
loop-entry-preserved c =
    grind
    (arith, common_steps, map-range_with_len_more (function_in c.args.self.now.words) 0 c.loop-entry.entry c.loop-entry.entry (omega arith))
