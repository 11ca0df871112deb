use Rattle.std.proofs.Common.{◌≡◌, ◌+◌, ◌++◌, length, drop}
use Rattle.h41_digits.specs.Register as digits
use Rattle.h41_show.proofs.register.push_register.Given as goal

abbrev pub invariant-loop-place : goal.invariant-loop-place
invariant-loop-place l = record {
  text : l.text.bytes ≡ l.initial.text.bytes ++ digits.text (drop l.place l.register);
  size : length l.text.bytes + l.place ≡ 14;
}
