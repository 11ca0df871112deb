-- What the execution of a row promises to a step.
use Rattle.std.specs.Prelude.{◌≡◌, Bool, true, false, None, Result}
use Rattle.h41_words.specs.declared.rows.Row.{Row}
use Rattle.h41_words.specs.declared.rows.Row.TheVariants as rows
use Rattle.h41_pages.specs.PageMap.{PageMap}
use Rattle.h41_ram.specs.RegisterMap.{RegisterMap}
use Rattle.h41_nut.specs.Arrivals.{next_address}
use Rattle.h41_nut.specs.declared.keys.Keys.{Keys}
use Rattle.h41_nut.specs.declared.refusal.WordRefusal.{WordRefusal}
use Rattle.h41_nut.specs.Processor.{Processor}
use Rattle.h41_nut.specs.private.ProcessorSteps.{Goes}
use Rattle.h41_nut.specs.WordStep.{WordEffect, RefusesOr, nut_of, row_refusal}
use Rattle.h41_nut.specs.WordStep.{answer, registers_after}

-- The result of a row: refused as `row_refusal` says and not changed, or changed as `WordEffect`
-- says.
abbrev pub Ran : {T : Type 0} → Row → Result T WordRefusal → Processor → RegisterMap → PageMap
    → Keys → Processor → RegisterMap → PageMap → Keys → Type 0
Ran row result cpu ram pages keys cpu' ram' pages' keys' =
    RefusesOr (row_refusal row (nut_of cpu ram pages keys)) (WordEffect row)
    result (nut_of cpu ram pages keys) (nut_of cpu' ram' pages' keys')

-- Whether a word jumps or returns. Every other word continues with the word after it, or after the
-- word that it loads.
abbrev pub is_jump : Row → Bool
is_jump (rows.LongJump low_byte) = true
is_jump (rows.ShortJump condition displacement) = true
is_jump (rows.ReturnIf condition) = true
is_jump rows.Return = true
is_jump rows.GoToAddress = true
is_jump rows.GoToKey = true
is_jump row = false

-- Whether a word, except arithmetic, continues with the word after it, has no refusal of its own,
-- reads only the processor and the keyboard, and changes only the processor.
abbrev pub is_within : Row → Bool
is_within (rows.Arithmetic operation field) = false
is_within (rows.Write register) = false
is_within (rows.Read register) = false
is_within (rows.Constant word) = false
is_within rows.WriteRom = false
is_within (rows.EnableBank bank) = false
is_within rows.ClearKeyFlag = false
is_within rows.PowerOff = false
is_within rows.LoadImmediate = false
is_within rows.WriteData = false
is_within rows.ReadData = false
is_within rows.FetchWord = false
is_within rows.SelectPeripheral = false
is_within (rows.LongJump low_byte) = false
is_within (rows.ShortJump condition displacement) = false
is_within (rows.ReturnIf condition) = false
is_within rows.Return = false
is_within rows.GoToAddress = false
is_within rows.GoToKey = false
is_within row = true

-- Such a word was executed, whatever the memory and the pages are.
abbrev pub RanWithin : {T : Type 0} → Row → Keys → Processor → Processor → Result T WordRefusal
    → Type 0
RanWithin row keys s t result = (ram : RegisterMap) (pages : PageMap)
    → Goes None (next_address s) (answer row (nut_of s ram pages keys))
    (registers_after row (nut_of s ram pages keys)) s t result

-- Whether such a word changes no register, except the carry if it is a test.
abbrev pub is_test : Row → Bool
is_test (rows.TestStatus bit) = true
is_test (rows.TestPointer place) = true
is_test rows.TestPointersEqual = true
is_test rows.TestKeyFlag = true
is_test rows.TestLowBattery = true
is_test rows.Nop = true
is_test row = false

-- The registers were changed as such a word says, whatever the memory and the pages are.
abbrev pub Changed : Row → Keys → Processor → Processor → Type 0
Changed row keys s t =
    (ram : RegisterMap) → (pages : PageMap) → t ≡ registers_after row (nut_of s ram pages keys)
