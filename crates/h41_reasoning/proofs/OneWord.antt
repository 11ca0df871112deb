-- The words that go on with the next word, and are not arithmetic: each leaves the state that is written out here.
use Rattle.std.proofs.Common.{◌≡◌, ◌==◌, ℕ, ◌<◌, ◌≤◌, Bool, true, false, not, None, refl, ap, subst}
use Rattle.std.specs.Bool.{then_some}
use Rattle.h41_fields.specs.declared.field.Pointer.{Pointer}
use Rattle.h41_laws_words.specs.WholeStates.{IsWhole}
use Rattle.h41_nut.specs.Addresses.{is_closed}
use Rattle.h41_nut.specs.Arrivals.{arrival_refusal, at_address, next_address}
use Rattle.h41_nut.specs.MemoryWords as memory
use Rattle.h41_nut.specs.Pointers as pointers
use Rattle.h41_nut.specs.Processor.{Processor}
use Rattle.h41_nut.specs.RegisterWords as registers
use Rattle.h41_nut.specs.Jumps.{with_return_popped}
use Rattle.h41_nut.specs.WordStep.{Nut}
use Rattle.h41_nut.specs.declared.base.Base.TheVariants.{Decimal, Hexadecimal}
use Rattle.h41_nut.specs.declared.refusal.WordRefusal.TheVariants.{SystemRom}
use Rattle.h41_pages.specs.Addresses.{page_of}
use Rattle.h41_pages.specs.PageMap.{with_chosen}
use Rattle.h41_words.specs.declared.rows.Bank.{Bank}
use Rattle.h41_words.specs.declared.rows.RegisterTransfer.{RegisterTransfer}
use Rattle.h41_words.specs.declared.rows.Row.TheVariants as rows
use Rattle.h41_reasoning.specs.WordRuns.{IsNext, StepsTo, WordIsExecuted}

-- A state whose processor has gone on to the next word with a carry.
abbrev pub gone_with : Bool → Processor → Nut → Nut
gone_with carry p s = record s { processor = at_address (next_address s.processor) carry p }

-- The same, with the carry clear.
abbrev pub gone : Processor → Nut → Nut
gone p s = gone_with false p s

module _ (straight : WordIsExecuted) (s : Nut) (whole : IsWhole s) (is_open : is_closed (next_address s.processor) ≡ false) where
  -- The next word is not refused because of its address.
  goes_on : arrival_refusal (next_address s.processor) ≡ None
  goes_on = ap (λ closed. then_some closed (SystemRom (next_address s.processor))) is_open

  -- NOP.
  pub nothing_done : IsNext rows.Nop s → StepsTo s (gone s.processor s)
  nothing_done next = straight rows.Nop tt refl s whole next goes_on

  -- SETF n, CLRF n, ST=0 and ?FSET n.
  pub status_set : (bit : ℕ) → bit < 14 → IsNext (rows.SetStatus bit) s → StepsTo s (gone (pointers.with_status bit true s.processor) s)
  status_set bit is next = straight (rows.SetStatus bit) is refl s whole next goes_on

  pub status_cleared : (bit : ℕ) → bit < 14 → IsNext (rows.ClearStatus bit) s
      → StepsTo s (gone (pointers.with_status bit false s.processor) s)
  status_cleared bit is next = straight (rows.ClearStatus bit) is refl s whole next goes_on

  pub status_byte_cleared : IsNext rows.ClearStatusByte s → StepsTo s (gone (pointers.with_status_byte 0 s.processor) s)
  status_byte_cleared next = straight rows.ClearStatusByte tt refl s whole next goes_on

  pub status_tested : (bit : ℕ) → bit < 14 → IsNext (rows.TestStatus bit) s
      → StepsTo s (gone_with (pointers.is_status_set bit s.processor) s.processor s)
  status_tested bit is next = straight (rows.TestStatus bit) is refl s whole next goes_on

  -- R= n, R=R+1, R=R-1, SLCT P, SLCT Q, ?R= n and ?P=Q.
  pub pointer_set : (place : ℕ) → place < 14 → IsNext (rows.SetPointer place) s
      → StepsTo s (gone (pointers.with_pointer place s.processor) s)
  pointer_set place is next = straight (rows.SetPointer place) is refl s whole next goes_on

  pub pointer_up : IsNext rows.IncrementPointer s → StepsTo s (gone (pointers.with_pointer_up s.processor) s)
  pointer_up next = straight rows.IncrementPointer tt refl s whole next goes_on

  pub pointer_down : IsNext rows.DecrementPointer s → StepsTo s (gone (pointers.with_pointer_down s.processor) s)
  pointer_down next = straight rows.DecrementPointer tt refl s whole next goes_on

  pub pointer_selected : (pointer : Pointer) → IsNext (rows.SelectPointer pointer) s
      → StepsTo s (gone (pointers.with_active pointer s.processor) s)
  pointer_selected pointer next = straight (rows.SelectPointer pointer) tt refl s whole next goes_on

  pub pointer_tested : (place : ℕ) → place < 14 → IsNext (rows.TestPointer place) s
      → StepsTo s (gone_with (pointers.pointer_of s.processor == place) s.processor s)
  pointer_tested place is next = straight (rows.TestPointer place) is refl s whole next goes_on

  pub pointers_compared : IsNext rows.TestPointersEqual s → StepsTo s (gone_with (s.processor.p == s.processor.q) s.processor s)
  pointers_compared next = straight rows.TestPointersEqual tt refl s whole next goes_on

  -- RCR n, LD@R n, C=C OR A, C=C AND A and CLRABC.
  pub rotated : (digits : ℕ) → digits < 14 → IsNext (rows.RotateRight digits) s
      → StepsTo s (gone (registers.with_c_rotated digits s.processor) s)
  rotated digits is next = straight (rows.RotateRight digits) is refl s whole next goes_on

  pub digit_loaded : (digit : ℕ) → digit < 16 → IsNext (rows.LoadDigit digit) s
      → StepsTo s (gone (registers.with_digit_loaded digit s.processor) s)
  digit_loaded digit is next = straight (rows.LoadDigit digit) is refl s whole next goes_on

  pub or_taken : IsNext rows.Or s → StepsTo s (gone (registers.with_c_or_a s.processor) s)
  or_taken next = straight rows.Or tt refl s whole next goes_on

  pub and_taken : IsNext rows.And s → StepsTo s (gone (registers.with_c_and_a s.processor) s)
  and_taken next = straight rows.And tt refl s whole next goes_on

  pub registers_cleared : IsNext rows.ClearRegisters s → StepsTo s (gone (registers.with_abc_clear s.processor) s)
  registers_cleared next = straight rows.ClearRegisters tt refl s whole next goes_on

  -- G=C, C=M, ST<>T and the like.
  pub transferred : (transfer : RegisterTransfer) → IsNext (rows.Transfer transfer) s
      → StepsTo s (gone (registers.after_transfer transfer s.processor) s)
  transferred transfer next = straight (rows.Transfer transfer) tt refl s whole next goes_on

  -- SETHEX and SETDEC.
  pub hexadecimal_set : IsNext rows.SetHexadecimal s → StepsTo s (gone (registers.with_base Hexadecimal s.processor) s)
  hexadecimal_set next = straight rows.SetHexadecimal tt refl s whole next goes_on

  pub decimal_set : IsNext rows.SetDecimal s → StepsTo s (gone (registers.with_base Decimal s.processor) s)
  decimal_set next = straight rows.SetDecimal tt refl s whole next goes_on

  -- DISOFF, DISTOG, C=KEY, CLRKEY, ?KEY and ?LLD.
  pub display_off : IsNext rows.DisplayOff s → StepsTo s (gone (registers.with_display false s.processor) s)
  display_off next = straight rows.DisplayOff tt refl s whole next goes_on

  pub display_toggled : IsNext rows.ToggleDisplay s → StepsTo s (gone (registers.with_display (not s.processor.display) s.processor) s)
  display_toggled next = straight rows.ToggleDisplay tt refl s whole next goes_on

  pub key_read : IsNext rows.ReadKey s → StepsTo s (gone (registers.with_key_in_c s.keys.ky s.processor) s)
  key_read next = straight rows.ReadKey tt refl s whole next goes_on

  pub key_flag_cleared : IsNext rows.ClearKeyFlag s
      → StepsTo s (record (gone s.processor s) { keys = record s.keys { flag = false } })
  key_flag_cleared next = straight rows.ClearKeyFlag tt refl s whole next goes_on

  pub key_flag_tested : IsNext rows.TestKeyFlag s → StepsTo s (gone_with s.keys.flag s.processor s)
  key_flag_tested next = straight rows.TestKeyFlag tt refl s whole next goes_on

  pub battery_tested : IsNext rows.TestLowBattery s → StepsTo s (gone s.processor s)
  battery_tested next = straight rows.TestLowBattery tt refl s whole next goes_on

  -- PUSH ADR, POP ADR and XQ->GO.
  pub address_pushed : IsNext rows.PushAddress s → StepsTo s (gone (registers.with_address_pushed s.processor) s)
  address_pushed next = straight rows.PushAddress tt refl s whole next goes_on

  pub address_popped : IsNext rows.PopAddress s → StepsTo s (gone (registers.with_address_popped s.processor) s)
  address_popped next = straight rows.PopAddress tt refl s whole next goes_on

  pub return_dropped : IsNext rows.DropReturn s → StepsTo s (gone (with_return_popped s.processor) s)
  return_dropped next = straight rows.DropReturn tt refl s whole next goes_on

  -- RAM SLCT, READ DATA, READ n, WRIT DATA and WRIT n.
  pub register_selected : IsNext rows.SelectRegister s → StepsTo s (gone (memory.selecting_from_c s.processor) s)
  register_selected next = straight rows.SelectRegister tt refl s whole next goes_on

  pub address_selected : (address : ℕ) → registers.word_in_c s.processor ≡ address → IsNext rows.SelectRegister s
      → StepsTo s (gone (memory.with_selected address s.processor) s)
  address_selected address is next =
      subst (λ other. StepsTo s (gone (memory.with_selected other s.processor) s)) is (register_selected next)

  pub data_read : IsNext rows.ReadData s → StepsTo s (gone (memory.with_selected_in_c s.ram s.processor) s)
  data_read next = straight rows.ReadData tt refl s whole next goes_on

  pub register_read : (register : ℕ) → (1 ≤ register) × (register < 16) → IsNext (rows.Read register) s
      → StepsTo s (gone (memory.with_register_in_c s.ram register s.processor) s)
  register_read register is next = straight (rows.Read register) is refl s whole next goes_on

  pub data_written : IsNext rows.WriteData s
      → StepsTo s (record (gone s.processor s) { ram = memory.with_c_at s.ram s.processor.selected s.processor })
  data_written next = straight rows.WriteData tt refl s whole next goes_on

  pub register_written : (register : ℕ) → register < 16 → IsNext (rows.Write register) s
      → StepsTo s
      (record (gone (memory.selecting_in_block register s.processor) s) { ram = memory.with_c_in_block s.ram register s.processor })
  register_written register is next = straight (rows.Write register) is refl s whole next goes_on

  -- ENBANK1 to ENBANK4: afterwards the words of the page come from another bank.
  pub bank_enabled : (bank : Bank) → IsNext (rows.EnableBank bank) s
      → StepsTo s (record (gone s.processor s) { pages = with_chosen s.pages (page_of s.processor.pc) bank })
  bank_enabled bank next = straight (rows.EnableBank bank) tt refl s whole next goes_on
