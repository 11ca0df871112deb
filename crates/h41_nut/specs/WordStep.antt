-- One step of the processor: the first refusal, or if there is none, the change that the word
-- makes. The effects of the words are HP's; what is refused, and in which order, is this project's
-- choice.
use Rattle.std.specs.Prelude.{◌≡◌, ℕ, Bool, true, false, not, ◌==◌, Option, Some, None, Result}
use Rattle.std.specs.Prelude.{OnOk, OnErr}
use Rattle.std.specs.Option.{option_or}
use Rattle.std.specs.Result.{result_err}
use Rattle.h41_words.specs.declared.rows.Row.{Row}
use Rattle.h41_words.specs.declared.rows.Row.TheVariants as rows
use Rattle.h41_words.specs.SecondWord.{second_of}
use Rattle.h41_words.specs.WordTable.{row_of}
use Rattle.h41_pages.specs.Addresses.{page_of}
use Rattle.h41_pages.specs.PageMap.{PageMap, with_chosen}
use Rattle.h41_ram.specs.RamState.{sets_mark}
use Rattle.h41_ram.specs.RegisterMap.{RegisterMap}
use Rattle.h41_nut.specs.Arithmetic.{OperatesOn}
use Rattle.h41_nut.specs.declared.base.Base.TheVariants.{Hexadecimal, Decimal}
use Rattle.h41_nut.specs.declared.keys.Keys.{Keys}
use Rattle.h41_nut.specs.declared.refusal.WordRefusal.{WordRefusal}
use Rattle.h41_nut.specs.declared.refusal.WordRefusal.TheVariants.{Asleep}
use Rattle.h41_nut.specs.Arrivals.{next_address, address_after_both, arrival_refusal, at_address}
use Rattle.h41_nut.specs.Arrivals.{gone_on}
use Rattle.h41_nut.specs.Jumps as jumps
use Rattle.h41_nut.specs.MemoryWords as memory
use Rattle.h41_nut.specs.PageWords.{word_at, word_or_zero}
use Rattle.h41_nut.specs.Pointers as pointers
use Rattle.h41_nut.specs.Processor.{Processor}
use Rattle.h41_nut.specs.RegisterWords as registers
use Rattle.h41_nut.specs.Unheld as unheld

-- Everything that a word can read or change.
pub record Nut : Type 0 where
  pub processor : Processor
  pub ram : RegisterMap
  pub pages : PageMap
  pub keys : Keys

-- The processor, the memory, the pages and the keyboard together.
abbrev pub nut_of : Processor → RegisterMap → PageMap → Keys → Nut
nut_of processor ram pages keys =
    record { processor = processor; ram = ram; pages = pages; keys = keys }

-- The word of the step.
abbrev pub word_of : Nut → ℕ
word_of s = word_or_zero (word_at s.pages s.processor.pc)

-- The word after the word of the step.
abbrev pub second_word : Nut → ℕ
second_word s = word_or_zero (word_at s.pages (next_address s.processor))

-- The next address after the step.
abbrev pub goes_to : Row → Nut → ℕ
-- ?NC XQ and the like jump to the address in both words if the carry meets the condition of the
-- second word.
goes_to (rows.LongJump low_byte) s =
    jumps.jump_target low_byte (second_of (second_word s)) s.processor
-- JNC and JC jump by the displacement from the word's own address if the carry meets the condition.
goes_to (rows.ShortJump condition displacement) s =
    jumps.short_jump_target condition displacement s.processor
-- ?C RTN, ?NC RTN and RTN jump to the newest return address.
goes_to (rows.ReturnIf condition) s = jumps.return_target condition s.processor
goes_to rows.Return s = jumps.newest_return s.processor
-- GOTO ADR jumps to the address in C.
goes_to rows.GoToAddress s = registers.address_in_c s.processor
-- GOTO KEY jumps to the next address, with its low byte replaced by the key's code.
goes_to rows.GoToKey s = jumps.key_target s.keys.ky s.processor
-- LDI continues after the word that it loads.
goes_to rows.LoadImmediate s = address_after_both s.processor
-- Every other word continues with the next word.
goes_to row s = next_address s.processor

-- The carry after a word, except arithmetic: the result of a test; every other word clears it.
abbrev pub answer : Row → Nut → Bool
-- ?FSET n: whether the status bit is set.
answer (rows.TestStatus bit) s = pointers.is_status_set bit s.processor
-- ?R= n: whether the active pointer is at this place.
answer (rows.TestPointer place) s = pointers.pointer_of s.processor == place
-- ?P=Q: whether both pointers are at the same place.
answer rows.TestPointersEqual s = s.processor.p == s.processor.q
-- ?KEY: whether the key flag is set.
answer rows.TestKeyFlag s = s.keys.flag
-- ?LLD: never (this project's choice).
answer rows.TestLowBattery s = false
answer row s = false

-- The registers of the processor after a word, except the address, the carry, and arithmetic.
abbrev pub registers_after : Row → Nut → Processor
-- XQ, if it is taken, makes the address after both words the newest return address.
registers_after (rows.LongJump low_byte) s =
    jumps.jump_change (second_of (second_word s)) s.processor
-- CLRF n, SETF n and ST=0.
registers_after (rows.ClearStatus bit) s = pointers.with_status bit false s.processor
registers_after (rows.SetStatus bit) s = pointers.with_status bit true s.processor
registers_after rows.ClearStatusByte s = pointers.with_status_byte 0 s.processor
-- R= n, R=R+1, R=R-1, SLCT P and SLCT Q.
registers_after (rows.SetPointer place) s = pointers.with_pointer place s.processor
registers_after rows.IncrementPointer s = pointers.with_pointer_up s.processor
registers_after rows.DecrementPointer s = pointers.with_pointer_down s.processor
registers_after (rows.SelectPointer pointer) s = pointers.with_active pointer s.processor
-- RCR n and LD@R n.
registers_after (rows.RotateRight digits) s = registers.with_c_rotated digits s.processor
registers_after (rows.LoadDigit digit) s = registers.with_digit_loaded digit s.processor
-- LDI and FETCH S&X copy a word to the digits 2 to 0 of C.
registers_after rows.LoadImmediate s = registers.with_word_in_c (second_word s) s.processor
registers_after rows.FetchWord s = memory.with_fetched_word s.pages s.processor
-- G=C, C=M and the like.
registers_after (rows.Transfer transfer) s = registers.after_transfer transfer s.processor
-- CLRABC, C=C OR A and C=C AND A.
registers_after rows.ClearRegisters s = registers.with_abc_clear s.processor
registers_after rows.Or s = registers.with_c_or_a s.processor
registers_after rows.And s = registers.with_c_and_a s.processor
-- XQ->GO, RTN, ?C RTN and ?NC RTN remove the newest return address.
registers_after rows.DropReturn s = jumps.with_return_popped s.processor
registers_after rows.Return s = jumps.with_return_popped s.processor
registers_after (rows.ReturnIf condition) s = jumps.return_change condition s.processor
-- PUSH ADR and POP ADR.
registers_after rows.PushAddress s = registers.with_address_pushed s.processor
registers_after rows.PopAddress s = registers.with_address_popped s.processor
-- C=KEY.
registers_after rows.ReadKey s = registers.with_key_in_c s.keys.ky s.processor
-- SETHEX, SETDEC, DISOFF and DISTOG.
registers_after rows.SetHexadecimal s = registers.with_base Hexadecimal s.processor
registers_after rows.SetDecimal s = registers.with_base Decimal s.processor
registers_after rows.DisplayOff s = registers.with_display false s.processor
registers_after rows.ToggleDisplay s = registers.with_display (not s.processor.display) s.processor
-- RAM SLCT, WRIT n, READ n and READ DATA.
registers_after rows.SelectRegister s = memory.selecting_from_c s.processor
registers_after (rows.Write register) s = memory.selecting_in_block register s.processor
registers_after (rows.Read register) s = memory.with_register_in_c s.ram register s.processor
registers_after rows.ReadData s = memory.with_selected_in_c s.ram s.processor
registers_after row s = s.processor

-- The memory after a word: WRIT DATA writes C to the selected register, WRIT n to register n of the
-- selected block.
abbrev pub ram_after : Row → Nut → RegisterMap
ram_after rows.WriteData s = memory.with_c_at s.ram s.processor.selected s.processor
ram_after (rows.Write register) s = memory.with_c_in_block s.ram register s.processor
ram_after row s = s.ram

-- Whether a word writes a register of the program, which sets the dirty flag of memory: WRIT DATA
-- and WRIT n do, if the register that they write is one.
abbrev pub row_writes_program : Row → Nut → Bool
row_writes_program rows.WriteData s = sets_mark s.ram s.processor.selected
row_writes_program (rows.Write register) s =
    sets_mark s.ram (memory.block_address register s.processor)
row_writes_program row s = false

-- The pages after a word: WROM writes the word in C at the address in C; ENBANK1 to ENBANK4
-- activate a bank of the page of the word itself.
abbrev pub pages_after : Row → Nut → PageMap
pages_after rows.WriteRom s = memory.with_word_written s.pages s.processor
pages_after (rows.EnableBank bank) s = with_chosen s.pages (page_of s.processor.pc) bank
pages_after row s = s.pages

-- The keyboard after a word: CLRKEY clears the key flag.
abbrev pub keys_after : Row → Nut → Keys
keys_after rows.ClearKeyFlag s = record s.keys { flag = false }
keys_after row s = s.keys

-- The whole state after a word.
abbrev pub state_after : Row → Nut → Nut
state_after row s = record {
  processor = at_address (goes_to row s) (answer row s) (registers_after row s);
  ram = ram_after row s;
  pages = pages_after row s;
  keys = keys_after row s;
}

-- The effect of a row: arithmetic follows the digit rule, which is stated as a relation; everything
-- else is a function of the state.
abbrev pub WordEffect : Row → Nut → Nut → Type 0
WordEffect (rows.Arithmetic operation field) s t =
    OperatesOn operation field (gone_on s.processor) t.processor
    × (t ≡ record s { processor = t.processor })
WordEffect row s t = t ≡ state_after row s

-- The reason why a word itself is refused, with its address: it is no instruction; it selects a
-- peripheral, PeripheralNotHeld (10); or it puts the processor to sleep, Asleep (11).
abbrev pub word_refusal : Row → Nut → Option WordRefusal
word_refusal (rows.Constant word) s = Some (unheld.constant_refusal word s.processor.pc)
word_refusal rows.SelectPeripheral s = unheld.peripheral_refusal s.processor
word_refusal rows.PowerOff s = Some (Asleep s.processor.pc)
word_refusal row s = None

-- An instruction of two words fetches its second word, even if it does not need it.
abbrev pub second_refusal : Row → Nut → Option WordRefusal
second_refusal (rows.LongJump low_byte) s = result_err (word_at s.pages (next_address s.processor))
second_refusal rows.LoadImmediate s = result_err (word_at s.pages (next_address s.processor))
second_refusal row s = None

-- A read of the system's pages is SystemRom (08), a write to what is not writable is ReadOnly (12).
abbrev pub data_refusal : Row → Nut → Option WordRefusal
data_refusal rows.FetchWord s = memory.refusal_to_fetch s.processor
data_refusal rows.WriteRom s = memory.refusal_to_write s.pages s.processor
data_refusal row s = None

-- The first refusal of a row that was fetched: of the word itself, of the fetch of its second word,
-- of what it reads or writes, of the next address.
abbrev pub row_refusal : Row → Nut → Option WordRefusal
row_refusal row s =
    option_or (word_refusal row s)
    (option_or (second_refusal row s)
    (option_or (data_refusal row s)
    (arrival_refusal (goes_to row s))))

-- The first refusal of a step, or none: of the fetch of the word, then of its row.
abbrev pub refused : Nut → Option WordRefusal
refused s =
    option_or (result_err (word_at s.pages s.processor.pc)) (row_refusal (row_of (word_of s)) s)

-- The change that a step makes. There is one only if the step is not refused.
pub record Micro (s t : Nut) : Type 0 where
  pub accepted : refused s ≡ None
  pub effect : WordEffect (row_of (word_of s)) s t

-- Whether the word of the step writes a register of the program, unless it is refused.
abbrev pub writes_program : Nut → Bool
writes_program s = row_writes_program (row_of (word_of s)) s

-- The result of a step from s to t: refused for this reason and not changed, or changed so.
pub record RefusesOr {T : Type 0} (reason : Option WordRefusal) (Change : Nut → Nut → Type 0)
    (result : Result T WordRefusal) (s t : Nut) : Type 0 where
  pub refusal : result_err result ≡ reason
  pub change : OnOk result (Change s t)
  pub stays : OnErr result (t ≡ s)

-- The result of a step, from the processor, the memory, the pages and the keyboard before it to
-- those after it: refused as `refused` says and not changed, or changed as `Micro` says.
abbrev pub Stepped : {T : Type 0} → Result T WordRefusal → Processor → RegisterMap → PageMap → Keys
    → Processor → RegisterMap → PageMap → Keys → Type 0
Stepped result cpu ram pages keys cpu' ram' pages' keys' =
    RefusesOr (refused (nut_of cpu ram pages keys)) Micro result
    (nut_of cpu ram pages keys) (nut_of cpu' ram' pages' keys')
