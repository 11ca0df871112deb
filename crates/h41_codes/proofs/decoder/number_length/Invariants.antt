use Rattle.std.proofs.Common.{ℕ, ◌<◌, ◌≤◌, get_or}
use Rattle.h41_codes.specs.Heads.{IsIn}
use Rattle.h41_codes.proofs.decoder.number_length.Given as goal

abbrev pub invariant-loop-count : goal.invariant-loop-count
invariant-loop-count l = record { most : l.count ≤ 16; each : (k : ℕ) → k < l.count → IsIn 0x10 0x1D (get_or l.bytes k 0) }
