-- The names of other crates that theorems about microcode cite, passed on from one place. Declares
-- nothing.
pub use Rattle.std.specs.Prelude.{◌≡◌, ◌≢◌, ℕ, suc, pos, negsuc, ◌+◌, ◌-◌, ◌*◌, ◌/◌, ◌%◌, ◌^◌, ◌<◌}
pub use Rattle.std.specs.Prelude.{◌≤◌, ◌⊎◌, Bool, true, false, not, List, [], ◌∷◌, length}
pub use Rattle.std.specs.Prelude.{slice_index, slice_set}
pub use Rattle.std.specs.Int.Signed.{le_z_yes}
pub use Rattle.std.specs.Int.Bits.{bit_and, bit_or}
pub use Rattle.h41_arith.specs.DigitRule.{DifferenceInto, SumInto, carry_digit, copy_of}
pub use Rattle.h41_arith.specs.DigitRule.{is_different, is_less, is_nonzero}
pub use Rattle.h41_arith.specs.DigitRule.{shifted_left, shifted_right, zeros}
pub use Rattle.h41_arith.specs.DigitRuleLaws.{number_of}
pub use Rattle.h41_digits.specs.Register.{IsRegister}
unfoldable pub use Rattle.h41_fields.specs.Field.{first_place, last_place, places, register_places}
pub use Rattle.h41_fields.specs.declared.field.Field.TheVariants.{All, AtPointer, ExponentSign}
pub use Rattle.h41_fields.specs.declared.field.Field.TheVariants.{Mantissa, MantissaSign}
pub use Rattle.h41_fields.specs.declared.field.Field.TheVariants.{PToQ, SignAndExponent, ToPointer}
pub use Rattle.h41_fields.specs.declared.field.Pointer.TheVariants.{P, Q}
pub use Rattle.h41_laws_words.specs.WholeStates.{IsWhole}
pub use Rattle.h41_nut.specs.Addresses.{is_closed}
pub use Rattle.h41_nut.specs.Pointers.{is_status_set, with_status}
pub use Rattle.h41_nut.specs.RegisterWords.{digits_and, digits_or, rotated_register}
pub use Rattle.h41_nut.specs.WordStep.{Nut}
pub use Rattle.h41_nut.specs.declared.base.Base.TheVariants.{Decimal, Hexadecimal}
pub use Rattle.h41_pages.specs.PageMap.{PageMap, chosen_at, with_chosen}
pub use Rattle.h41_ram.specs.RegisterMap.{RegisterMap, register_at, with_register}
pub use Rattle.h41_words.specs.declared.rows.Bank.{Bank}
pub use Rattle.h41_words.specs.declared.rows.Bank.TheVariants.{First, Second, Third, Fourth}
pub use Rattle.h41_words.specs.declared.rows.Condition.TheVariants.{Carry, NoCarry}
