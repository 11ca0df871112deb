-- No mnemonic is longer than ten characters.
use Rattle.std.proofs.Common.{◌≡◌, ◌≤◌, true, leb, length, refl}
use Rattle.std.proofs.lemmas.Bool.{leb-true}
use Rattle.h41_fields.specs.declared.field.Pointer.TheVariants.{P, Q}
use Rattle.h41_words.specs.declared.operation.Operation.{Operation}
use Rattle.h41_words.specs.declared.operation.Operation.TheVariants.{ClearA}
use Rattle.h41_words.specs.declared.rows.Bank.{Bank}
use Rattle.h41_words.specs.declared.rows.Bank.TheVariants.{First}
use Rattle.h41_words.specs.declared.rows.Condition.TheVariants.{NoCarry, Carry}
use Rattle.h41_words.specs.declared.rows.RegisterTransfer.{RegisterTransfer}
use Rattle.h41_words.specs.declared.rows.RegisterTransfer.TheVariants.{CToG}
use Rattle.h41_words.specs.declared.rows.Row.{Row}
use Rattle.h41_words.specs.declared.rows.Row.TheVariants as rows
use Rattle.h41_words.specs.Mnemonics.{mnemonic, operation_text, transfer_text, bank_text}

short_operation : (operation : Operation) → leb (length (operation_text operation)) 10 ≡ true
short_operation ClearA = refl
short_operation operation = refl

short_transfer : (transfer : RegisterTransfer) → leb (length (transfer_text transfer)) 10 ≡ true
short_transfer CToG = refl
short_transfer transfer = refl

short_bank : (bank : Bank) → leb (length (bank_text bank)) 10 ≡ true
short_bank First = refl
short_bank bank = refl

short : (row : Row) → leb (length (mnemonic row)) 10 ≡ true
short (rows.Arithmetic operation field) = short_operation operation
short (rows.Transfer transfer) = short_transfer transfer
short (rows.EnableBank bank) = short_bank bank
short (rows.ShortJump NoCarry displacement) = refl
short (rows.ShortJump Carry displacement) = refl
short (rows.ReturnIf NoCarry) = refl
short (rows.ReturnIf Carry) = refl
short (rows.SelectPointer P) = refl
short (rows.SelectPointer Q) = refl
short row = refl

pub mnemonic_short : (row : Row) → length (mnemonic row) ≤ 10
mnemonic_short row = leb-true (length (mnemonic row)) 10 (short row)
