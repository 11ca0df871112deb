use Rattle.std.proofs.Common.{rules}
use Rattle.h41_codes.proofs.ShortHeads.{short_head, size_of_head}
use Rattle.h41_codes.proofs.short_lines.short_size.Goals as goal

pub returns-in-OneByte-clause-size : goal.returns-in-OneByte-clause-size
returns-in-OneByte-clause-size c = size_of_head c.args.first 1 (search rules)

pub returns-in-TwoBytes-clause-size : goal.returns-in-TwoBytes-clause-size
returns-in-TwoBytes-clause-size c = size_of_head c.args.first 2 (search rules)

pub returns-in-ThreeBytes-clause-size : goal.returns-in-ThreeBytes-clause-size
returns-in-ThreeBytes-clause-size c = size_of_head c.args.first 3 (search rules)

pub returns-in_default : goal.returns-in_default
returns-in_default c = record {
  some = tt;
  size = tt;
  none = λ rest one size begins. let own = short_head c.args.first rest one size begins in search rules;
}
