-- A place of each field.
use Rattle.std.proofs.Common.{◌≡◌, ℕ, ◌<◌, true, refl, arith}
use Rattle.std.specs.Prelude.{◌&&◌, ◌||◌, ◌==◌, nat_le, nat_lt}
use Rattle.std.proofs.lemmas.Bool.Decides.{nat_tests}
use Rattle.h41_fields.specs.Field.{active_place}
use Rattle.h41_fields.specs.declared.field.Field.TheVariants.{All, AtPointer, ExponentSign, Mantissa, MantissaSign, PToQ, SignAndExponent}
use Rattle.h41_fields.specs.declared.field.Field.TheVariants.{ToPointer}
use Rattle.h41_fields.specs.declared.field.Pointer.{Pointer}
use Rattle.h41_fields.specs.declared.field.Pointer.TheVariants.{P, Q}
use Rattle.h41_laws_words.specs.FieldPlaces.{FieldHasPlace}

same : (place : ℕ) → (place == place) ≡ true
same place = grind (arith, nat_tests)

none_below : (place : ℕ) → nat_le 0 place ≡ true
none_below place = grind (arith, nat_tests)

from_p : (p q : ℕ) → (nat_le p p && (nat_le p q || nat_lt q p)) ≡ true
from_p p q = grind (arith, nat_tests)

active_below : (p q : ℕ) (active : Pointer) → p < 14 → q < 14 → active_place p q active < 14
active_below p q P p_below q_below = p_below
active_below p q Q p_below q_below = q_below

pub one_place : FieldHasPlace
one_place AtPointer p q active p_below q_below =
    (active_place p q active, active_below p q active p_below q_below, same (active_place p q active))
one_place SignAndExponent p q active p_below q_below = (0, omega arith, refl)
one_place ToPointer p q active p_below q_below = (0, omega arith, none_below (active_place p q active))
one_place All p q active p_below q_below = (0, omega arith, refl)
one_place PToQ p q active p_below q_below = (p, p_below, from_p p q)
one_place ExponentSign p q active p_below q_below = (2, omega arith, refl)
one_place Mantissa p q active p_below q_below = (3, omega arith, refl)
one_place MantissaSign p q active p_below q_below = (13, omega arith, refl)
