-- Each field has a place, wherever the pointers are. Therefore words work on the places of a field,
-- and never on place 0 because the field has none.
use Rattle.std.specs.Prelude.{◌≡◌, ℕ, ◌<◌, true}
use Rattle.h41_fields.specs.Field.{is_place}
use Rattle.h41_fields.specs.declared.field.Field.{Field}
use Rattle.h41_fields.specs.declared.field.Pointer.{Pointer}

-- Each field has a place, with the pointers at any place.
abbrev pub FieldHasPlace : Type 0
FieldHasPlace =
    (field : Field) (p q : ℕ) (active : Pointer) → p < 14 → q < 14
    → (place : ℕ) × (place < 14) × (is_place field p q active place ≡ true)
