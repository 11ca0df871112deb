use Rattle.std.proofs.Common.{◌≡◌, ◌≤◌, true, take}
use Rattle.std.specs.List.{list_all}
use Rattle.std.specs.Char.{is_digit}
use Rattle.std.specs.Str.Parse.{digits_value}
use Rattle.h41_lines.proofs.numbers.number_up_to.Given as goal

abbrev pub invariant-loop-byte : goal.invariant-loop-byte
invariant-loop-byte l = record {
  value : l.value ≡ digits_value l.radix (take l.byte-index l.word);
  within : l.value ≤ l.most;
  digits : list_all (λ digit. is_digit digit l.radix) (take l.byte-index l.word) ≡ true;
}
