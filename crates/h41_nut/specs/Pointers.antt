-- The words of the two pointers and of the status bits. Upwards, place 0 follows 13; downwards,
-- place 13 follows 0.
use Rattle.std.specs.Prelude.{ℕ, ◌+◌, ◌-◌, ◌*◌, ◌/◌, ◌%◌, ◌^◌, Bool, ◌==◌, if◌then◌else◌}
use Rattle.std.specs.Int.{bit_at}
use Rattle.h41_fields.specs.declared.field.Pointer.{Pointer}
use Rattle.h41_fields.specs.declared.field.Pointer.TheVariants.{P, Q}
use Rattle.h41_fields.specs.Field.{active_place}
use Rattle.h41_nut.specs.Processor.{Processor}

-- The place that the active pointer names.
abbrev pub pointer_of : Processor → ℕ
pointer_of s = active_place s.p s.q s.active

-- A processor with a pointer at another place.
abbrev pub with_pointer_at : Pointer → ℕ → Processor → Processor
with_pointer_at P place s = record s { p = place }
with_pointer_at Q place s = record s { q = place }

-- A processor with the active pointer at another place.
abbrev pub with_pointer : ℕ → Processor → Processor
with_pointer place s = with_pointer_at s.active place s

-- The place above another.
abbrev pub place_above : ℕ → ℕ
place_above place = if place == 13 then 0 else place + 1

-- The place below another.
abbrev pub place_below : ℕ → ℕ
place_below place = if place == 0 then 13 else place - 1

-- Whether a status bit is set.
abbrev pub is_status_set : ℕ → Processor → Bool
is_status_set bit s = bit_at s.status bit == 1

-- A processor with a status bit set or cleared: the weight of the bit is subtracted if it was set,
-- and added if it is to be set.
abbrev pub with_status : ℕ → Bool → Processor → Processor
with_status bit on s =
    record s { status = s.status - bit_at s.status bit * 2 ^ bit + (if on then 2 ^ bit else 0) }

-- The status bits S0 to S7 as a byte.
abbrev pub status_byte : Processor → ℕ
status_byte s = s.status % 256

-- A processor with another byte in the status bits S0 to S7.
abbrev pub with_status_byte : ℕ → Processor → Processor
with_status_byte byte s = record s { status = s.status / 256 * 256 + byte }

-- A processor with the active pointer one place up.
abbrev pub with_pointer_up : Processor → Processor
with_pointer_up s = with_pointer (place_above (pointer_of s)) s

-- A processor with the active pointer one place down.
abbrev pub with_pointer_down : Processor → Processor
with_pointer_down s = with_pointer (place_below (pointer_of s)) s

-- A processor with another active pointer.
abbrev pub with_active : Pointer → Processor → Processor
with_active pointer s = record s { active = pointer }
