use Rattle.std.proofs.Common.{◌≡◌, drop}
use Rattle.h41_keys.specs.Keyboard.{first_named}
use Rattle.h41_keys.proofs.key.Key.first_named.Given as goal

abbrev pub invariant-loop-key : goal.invariant-loop-key
invariant-loop-key l = first_named l.keys l.name ≡ first_named (drop l.key-index l.keys) l.name
