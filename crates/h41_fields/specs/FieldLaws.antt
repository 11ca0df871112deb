-- Consequences of the definition of the fields alone.
use Rattle.std.specs.Prelude.{ℕ, ◌≤◌}
use Rattle.h41_fields.specs.Field.{first_place, last_place}
use Rattle.h41_fields.specs.declared.field.Field.{Field}
use Rattle.h41_fields.specs.declared.field.Pointer.{Pointer}

-- The first place of a field is never above its last, whatever the pointers are. (If a pointer is
-- above 13, a field may have no place; both are then 0.).
abbrev pub PlacesAreOrdered : Type 0
PlacesAreOrdered =
    (field : Field) (p q : ℕ) (active : Pointer)
    → first_place field p q active ≤ last_place field p q active
