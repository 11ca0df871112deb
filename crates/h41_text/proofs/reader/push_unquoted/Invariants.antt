use Rattle.std.proofs.Common.{◌≡◌, ◌++◌, ◌-◌, length}
use Rattle.h41_text.specs.private.TextParts.{unquoted_text}
use Rattle.h41_text.proofs.reader.push_unquoted.Given as goal

abbrev pub invariant-loop : goal.invariant-loop
invariant-loop l = record {
  size : length l.characters.items ≡ l.counter;
  read : l.characters.items ++ unquoted_text (15 - l.counter) l.rest
      ≡ l.initial.characters.items ++ unquoted_text (15 - length l.initial.characters.items) l.quoted;
}
