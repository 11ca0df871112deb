-- The bits of a displacement.
use Rattle.std.specs.Prelude.{◌≡◌, ◌-◌, ℤ, pos, negsuc, ◌<ℤ◌, ◌≤ℤ◌, refl}
use Rattle.std.specs.Int.RustNames.{unsigned_abs}
use Rattle.std.proofs.Math.Dec.{ltb→lt}
use Rattle.std.proofs.Common.{arith}
use Rattle.h41_words.specs.WordTable.{displacement_bits}

pub bits_backward : (displacement : ℤ) → displacement <ℤ pos 0 → 128 - unsigned_abs displacement ≡ displacement_bits displacement
bits_backward (pos words) backward = absurd (omega (arith, ltb→lt words 0 backward.lt))
bits_backward (negsuc words) backward = omega arith

pub bits_forward : (displacement : ℤ) → pos 0 ≤ℤ displacement → unsigned_abs displacement ≡ displacement_bits displacement
bits_forward (pos words) forward = refl
bits_forward (negsuc words) forward = absurd forward.le
