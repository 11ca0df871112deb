-- Memory that is changed remains well-formed.
use Rattle.std.proofs.Common.{◌≡◌, ℕ, zero, suc, ◌^◌, ◌<◌, Bool, true, false, List, [], ◌∷◌, ◌++◌, map, length, drop, rules}
use Rattle.std.proofs.Common.{if◌then◌else◌, Option, Some, None, arith, length-append, length-drop}
use Rattle.std.specs.Prelude.{◌==◌, nat_lt, All}
use Rattle.std.specs.List.{range_with_len}
use Rattle.std.proofs.Math.ListN.{length-set}
use Rattle.std.proofs.lemmas.List.Elements.{All-append, All-cons, All-drop, All-map, All-nil, All-replicate, All-take}
use Rattle.std.proofs.lemmas.List.FromFn.{length-map-range_with_len}
use Rattle.h41_codes.specs.declared.functions.Function.TheVariants as functions
use Rattle.h41_codes.specs.declared.functions.ParameterFunction.{ParameterFunction}
use Rattle.h41_codes.specs.declared.functions.ParameterFunction.TheVariants as parameters
use Rattle.h41_codes.specs.declared.functions.Branch.{Branch}
use Rattle.h41_codes.specs.declared.functions.NameFunction.TheVariants as namings
use Rattle.h41_codes.specs.declared.functions.RegisterFunction.TheVariants as registers
use Rattle.h41_codes.specs.declared.line.Line.{Line}
use Rattle.h41_codes.specs.declared.line.Line.TheVariants as lines
use Rattle.h41_codes.specs.ByteGrammar.{IsLine}
use Rattle.h41_digits.specs.Register.{IsRegister}
use Rattle.h41_ram.specs.RegisterMap.{RegisterMap, alpha_of, curtain_of, digit_with, digits_from, main_start, p_address, p_of, register_at}
use Rattle.h41_ram.specs.RegisterMap.{with_alpha, with_bit, with_flag, with_register}
use Rattle.h41_rows.specs.LineRows.{count_row, operand_row, register_row, row_of, text_row, to_meant}
use Rattle.h41_rows.specs.Operands.{Meant, Count}
use Rattle.h41_rows.specs.Places.{place_address}
use Rattle.h41_rows.specs.RowEffects.{alpha_after, cleared_register, memory_after, taken_from}
use Rattle.h41_rows.specs.RowEffects.{text_register, with_alpha_change, with_cleared_data, with_data_if, with_flags, with_taken}
use Rattle.h41_rows.specs.Rows as rows
use Rattle.h41_laws_words.proofs.Registers.{digit_at, held_at, held_with, register_set, zeros_register}
use Rattle.h41_laws_calculator.specs.WholeMemory.{AreBytes, IsWholeMemory}
use Rattle.h41_laws_calculator.proofs.Bytes.{IsByte, alpha_bytes, chosen, digits_count, digits_small, last_bytes, nulls_passed, of_text}
use Rattle.h41_laws_calculator.proofs.Bytes.{recalled_bytes, register_of}

-- A register that is read, and one that is written.
pub read : (memory : RegisterMap) (address : ℕ) → IsWholeMemory memory → IsRegister 14 (register_at memory address)
read memory address whole = held_at memory address whole.holds

size_if : (t : Bool) (x y : RegisterMap) (count : ℕ) → length x.main ≡ count → length y.main ≡ count
    → length (if t then x else y).main ≡ count
size_if true x y count first second = first
size_if false x y count first second = second

pub size_with : (memory : RegisterMap) (address : ℕ) (register : List ℕ)
    → length (with_register memory address register).main ≡ length memory.main
size_with memory address register = search (rules, size_if, length-set)

pub written : (memory : RegisterMap) (address : ℕ) (register : List ℕ) → IsWholeMemory memory → IsRegister 14 register
    → IsWholeMemory (with_register memory address register)
written memory address register whole valid = search (rules, held_with, size_with)

-- A flag.
bit_small : (digit place : ℕ) (on : Bool) → place < 4 → digit < 16 → digit_with digit (2 ^ place) on < 16
bit_small digit zero true four small = omega arith
bit_small digit (suc zero) true four small = omega arith
bit_small digit (suc (suc zero)) true four small = omega arith
bit_small digit (suc (suc (suc zero))) true four small = omega arith
bit_small digit (suc (suc (suc (suc place)))) true four small = absurd (omega arith)
bit_small digit place false four small = omega arith

bit_written : (register : List ℕ) (bit : ℕ) (on : Bool) → IsRegister 14 register → IsRegister 14 (with_bit register bit on)
bit_written register bit on valid = search (rules, register_set, bit_small, digit_at)

pub flagged : (memory : RegisterMap) (flag : ℕ) (on : Bool) → IsWholeMemory memory → IsWholeMemory (with_flag memory flag on)
flagged memory flag on whole = search (rules, written, bit_written, read)

pub all_flagged : (changes : List rows.FlagChange) (memory : RegisterMap) → IsWholeMemory memory → IsWholeMemory (with_flags changes memory)
all_flagged [] memory whole = whole
all_flagged (change ∷ changes) memory whole =
    all_flagged changes (with_flag memory change.flag change.on) (flagged memory change.flag change.on whole)

-- The ALPHA register.
p_register : (memory : RegisterMap) (text : List ℕ) → IsWholeMemory memory → AreBytes text
    → IsRegister 14 (digits_from text (0 ∷ 1 ∷ 2 ∷ []) ++ drop 6 (p_of memory))
p_register memory text whole all =
    let p = read memory p_address whole in
    let first = digits_from text (0 ∷ 1 ∷ 2 ∷ []) in
    record {
      size =
          omega
          (arith, length-append first (drop 6 (p_of memory)), length-drop 6 (p_of memory), digits_count text (0 ∷ 1 ∷ 2 ∷ []), p.size);
      each =
          All-append (λ digit. digit < 16) first (drop 6 (p_of memory)) (digits_small text (0 ∷ 1 ∷ 2 ∷ []) all)
          (All-drop (λ digit. digit < 16) 6 (p_of memory) p.each);
    }

pub alpha_written : (memory : RegisterMap) (text : List ℕ) → IsWholeMemory memory → AreBytes text → IsWholeMemory (with_alpha memory text)
alpha_written memory text whole all = search (rules, written, register_of, p_register)

pub alpha_of_bytes : (memory : RegisterMap) → IsWholeMemory memory → AreBytes (alpha_of memory)
alpha_of_bytes memory whole = alpha_bytes memory whole.holds

-- The new contents of ALPHA are bytes.
abbrev pub IsWholeChange : rows.AlphaChange → Type 0
IsWholeChange (rows.Becomes characters) = AreBytes characters
IsWholeChange (rows.Appends characters) = AreBytes characters
IsWholeChange rows.AppendsNamed = Unit {0}
IsWholeChange rows.LosesSix = Unit {0}

abbrev pub ChangesWhole : Option rows.AlphaChange → Type 0
ChangesWhole None = Unit {0}
ChangesWhole (Some change) = IsWholeChange change

alpha_bytes_after : (memory : RegisterMap) (named : ℕ) (change : rows.AlphaChange) → IsWholeMemory memory → IsWholeChange change
    → AreBytes (alpha_after memory named change)
alpha_bytes_after memory named (rows.Becomes characters) whole is = last_bytes characters is
alpha_bytes_after memory named (rows.Appends characters) whole is = search (rules, last_bytes, All-append, alpha_of_bytes)
alpha_bytes_after memory named rows.AppendsNamed whole is = search (rules, last_bytes, All-append, alpha_of_bytes, recalled_bytes, read)
alpha_bytes_after memory named rows.LosesSix whole is = search (rules, last_bytes, All-drop, nulls_passed, alpha_of_bytes)

alpha_changed : (old : RegisterMap) (named : ℕ) (change : Option rows.AlphaChange) (memory : RegisterMap) → IsWholeMemory old
    → ChangesWhole change → IsWholeMemory memory → IsWholeMemory (with_alpha_change old named change memory)
alpha_changed old named None memory old_whole is whole = whole
alpha_changed old named (Some change) memory old_whole is whole = search (rules, alpha_written, alpha_bytes_after)

-- Registers that are computed.
text_is_register : (characters : List ℕ) → AreBytes characters → IsRegister 14 (text_register characters)
text_is_register characters all = search (rules, All-append, All-replicate, length-append, digits_count, digits_small, All-cons, All-nil)

source_register : (memory : RegisterMap) (named : ℕ) (result : List ℕ) (source : rows.RegisterSource) → IsWholeMemory memory
    → IsRegister 14 result → IsRegister 14 (taken_from memory named result source)
source_register memory named result (rows.From place) whole valid = read memory (place_address named place) whole
source_register memory named result rows.Result whole valid = valid
source_register memory named result rows.SixCharacters whole valid =
    search (rules, text_is_register, All-take, nulls_passed, alpha_of_bytes)

pub all_taken : (old : RegisterMap) (named : ℕ) (result : List ℕ) (takes : List rows.Takes) (memory : RegisterMap) → IsWholeMemory old
    → IsRegister 14 result → IsWholeMemory memory → IsWholeMemory (with_taken old named result takes memory)
all_taken old named result [] memory old_whole valid whole = whole
all_taken old named result (taken ∷ others) memory old_whole valid whole =
    all_taken old named result others
    (with_register memory (place_address named taken.place) (taken_from old named result taken.source)) old_whole valid
    (written memory (place_address named taken.place) (taken_from old named result taken.source) whole
    (source_register old named result taken.source old_whole valid))

-- Main registers, each by its address.
pub main_written : (memory : RegisterMap) (status : List (List ℕ)) (register : ℕ → List ℕ) → IsWholeMemory memory
    → All (IsRegister 14) status → ((address : ℕ) → IsRegister 14 (register address))
    → IsWholeMemory (record { status = status; main = map register (range_with_len main_start (length memory.main)) })
main_written memory status register whole first each = search (rules, All-map, length-map-range_with_len)

data_cleared : (memory : RegisterMap) → IsWholeMemory memory → IsWholeMemory (with_cleared_data memory)
data_cleared memory whole =
    main_written memory memory.status (cleared_register memory) whole whole.holds.status (λ address.
    chosen (IsRegister 14) (nat_lt address (curtain_of memory)) _ _ (λ below. read memory address whole) (λ is. zeros_register))

data_cleared_if : (clears : Bool) (memory : RegisterMap) → IsWholeMemory memory → IsWholeMemory (with_data_if clears memory)
data_cleared_if true memory whole = data_cleared memory whole
data_cleared_if false memory whole = whole

-- Memory after a row.
pub row_kept : (row : rows.LineRow) (named : ℕ) (result : List ℕ) (lift : Bool) (memory : RegisterMap) → ChangesWhole row.alpha
    → IsRegister 14 result → IsWholeMemory memory → IsWholeMemory (memory_after row named result lift memory)
row_kept row named result lift memory is valid whole = search (rules, all_taken, data_cleared_if, alpha_changed, all_flagged)

-- The characters that rows put into ALPHA are those of lines.
count_silent : (function : ParameterFunction) (count : ℕ) → ChangesWhole (count_row function count).alpha
count_silent parameters.Fixed count = tt
count_silent function count = tt

register_silent : (function : ParameterFunction) → ChangesWhole (register_row function).alpha
register_silent parameters.Recall = tt
register_silent function = tt

operand_silent : (function : ParameterFunction) (meant : Meant) → ChangesWhole (operand_row function meant).alpha
operand_silent function (Count count) = count_silent function count
operand_silent function meant = register_silent function

meant_silent : (branch : Branch) (meant : Meant) → ChangesWhole (to_meant branch meant).alpha
meant_silent branch (Count label) = tt
meant_silent branch meant = tt

text_put : (characters : List ℕ) → AreBytes characters → ChangesWhole (text_row characters).alpha
text_put [] all = tt
text_put (character ∷ text) all =
    chosen IsWholeChange (character == 0x7F) (rows.Appends text) (rows.Becomes (character ∷ text))
    (λ appends. λ index other within. all (suc index) other (omega arith)) (λ begins. all)

pub line_puts : (line : Line) (meant : Meant) → IsLine line → ChangesWhole (row_of line meant).alpha
line_puts (lines.Text characters) meant valid = text_put characters (of_text characters valid.bytes)
line_puts (lines.Named namings.GoToName name) meant valid = tt
line_puts (lines.Register registers.RecallRegister register) meant valid = tt
line_puts (lines.WithOperand function operand) meant valid = operand_silent function meant
line_puts (lines.BranchIndirect branch register) meant valid = meant_silent branch meant
line_puts (lines.Plain functions.ClearAlpha) meant valid = All-nil IsByte
line_puts line meant valid = tt
