-- Why a word that only uses the processor is executed as its row says.
use Rattle.std.proofs.Common.{◌≡◌, ◌==◌, ◌<◌, ◌≤◌, ◌&&◌, Bool, true, false, None, Result, Ok, Err, OnOk, refl, ap, arith}
use Rattle.std.specs.Prelude.{is_ok}
use Rattle.std.proofs.lemmas.Bool.{false≢true}
use Rattle.std.proofs.lemmas.Bool.Decides.{nat_tests}
use Rattle.h41_words.specs.declared.rows.Row.{Row}
use Rattle.h41_words.specs.declared.rows.Row.TheVariants as rows
use Rattle.h41_pages.specs.Addresses.{first_address}
use Rattle.h41_pages.specs.PageMap.{PageMap}
use Rattle.h41_ram.specs.RamState.{MarksIf, RamState}
use Rattle.h41_ram.specs.RegisterMap.{RegisterMap}
use Rattle.h41_nut.specs.Addresses.{end_of_function}
use Rattle.h41_nut.specs.Arrivals.{next_address, arrival_refusal, at_address}
use Rattle.h41_nut.specs.declared.keys.Keys.{Keys}
use Rattle.h41_nut.specs.declared.refusal.WordRefusal.{WordRefusal}
use Rattle.h41_nut.specs.private.ProcessorSteps.{Goes}
use Rattle.h41_nut.specs.private.RowStep.{Ran, RanWithin, is_within}
use Rattle.h41_nut.specs.Processor.{Processor}
use Rattle.h41_nut.specs.WordStep.{Nut, RefusesOr, nut_of, answer, registers_after, row_writes_program}

-- A processor that continues, with the memory, the pages and the keyboard as they are.
gone : {T : Type 0} {Change : Nut → Nut → Type 0} (carry : Bool) (changed s t : Processor) (ram : RegisterMap) (pages : PageMap)
    (keys : Keys) (result : Result T WordRefusal)
    → ((after : Nut) → after ≡ nut_of (at_address (next_address s) carry changed) ram pages keys → Change (nut_of s ram pages keys) after)
    → Goes None (next_address s) carry changed s t result
    → RefusesOr (arrival_refusal (next_address s)) Change result (nut_of s ram pages keys) (nut_of t ram pages keys)
gone carry changed s t ram pages keys (Ok x) effect goes = record {
  refusal = goes.refusal;
  change = effect _ (ap (λ processor. nut_of processor ram pages keys) goes.goes);
  stays = tt;
}
gone carry changed s t ram pages keys (Err why) effect goes = record {
  refusal = goes.refusal;
  change = tt;
  stays = ap (λ processor. nut_of processor ram pages keys) goes.stays;
}

pub ran_within : {T : Type 0} (row : Row) (s t : Processor) (ram : RegisterMap) (pages : PageMap) (keys : Keys)
    (result : Result T WordRefusal) → is_within row ≡ true → RanWithin row keys s t result
    → Ran row result s ram pages keys t ram pages keys
ran_within (rows.Arithmetic operation field) s t ram pages keys result within ran = absurd (false≢true within)
ran_within (rows.Write register) s t ram pages keys result within ran = absurd (false≢true within)
ran_within (rows.Read register) s t ram pages keys result within ran = absurd (false≢true within)
ran_within (rows.Constant word) s t ram pages keys result within ran = absurd (false≢true within)
ran_within rows.WriteRom s t ram pages keys result within ran = absurd (false≢true within)
ran_within (rows.EnableBank bank) s t ram pages keys result within ran = absurd (false≢true within)
ran_within rows.ClearKeyFlag s t ram pages keys result within ran = absurd (false≢true within)
ran_within rows.PowerOff s t ram pages keys result within ran = absurd (false≢true within)
ran_within rows.LoadImmediate s t ram pages keys result within ran = absurd (false≢true within)
ran_within rows.WriteData s t ram pages keys result within ran = absurd (false≢true within)
ran_within rows.ReadData s t ram pages keys result within ran = absurd (false≢true within)
ran_within rows.FetchWord s t ram pages keys result within ran = absurd (false≢true within)
ran_within rows.SelectPeripheral s t ram pages keys result within ran = absurd (false≢true within)
ran_within (rows.LongJump low_byte) s t ram pages keys result within ran = absurd (false≢true within)
ran_within (rows.ShortJump condition displacement) s t ram pages keys result within ran = absurd (false≢true within)
ran_within (rows.ReturnIf condition) s t ram pages keys result within ran = absurd (false≢true within)
ran_within rows.Return s t ram pages keys result within ran = absurd (false≢true within)
ran_within rows.GoToAddress s t ram pages keys result within ran = absurd (false≢true within)
ran_within rows.GoToKey s t ram pages keys result within ran = absurd (false≢true within)
ran_within row s t ram pages keys result within ran =
    gone (answer row (nut_of s ram pages keys)) (registers_after row (nut_of s ram pages keys)) s t ram pages keys result
    (λ after same. same) (ran ram pages)

-- Such a word writes no register of the program.
within_writes_none : (row : Row) (s : Nut) → is_within row ≡ true → row_writes_program row s ≡ false
within_writes_none (rows.Write register) s within = absurd (false≢true within)
within_writes_none rows.WriteData s within = absurd (false≢true within)
within_writes_none row s within = refl

pub within_marks : {T : Type 0} (row : Row) (s : Nut) (ram : RamState) (result : Result T WordRefusal) → is_within row ≡ true
    → MarksIf (row_writes_program row s && is_ok result) ram ram
within_marks row s ram result within = rw (within_writes_none row s within) refl

-- No function ends at the address after such a word.
pub ends_nowhere : {T : Type 0} (carry : Bool) (changed s t : Processor) (result : Result T WordRefusal)
    → first_address ≤ s.pc → s.pc < 0x10000 → Goes None (next_address s) carry changed s t result
    → OnOk result ((t.pc == end_of_function) ≡ false)
ends_nowhere carry changed s t (Ok x) held fits goes =
    let there : t.pc ≡ next_address s = ap (λ processor. processor.pc) goes.goes in
    grind (arith, nat_tests)
ends_nowhere carry changed s t (Err why) held fits goes = tt
