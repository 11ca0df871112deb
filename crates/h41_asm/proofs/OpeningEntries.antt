-- The code's table of first words is right: each entry is, and the first word of every mnemonic is in its place.
use Rattle.std.proofs.Common.{◌≡◌, ℕ, ◌<◌, Bool, true, List, [], ◌∷◌, length, Some, refl}
use Rattle.std.specs.Prelude.{codes, drop, map, nat_lt, ◌++◌}
use Rattle.std.proofs.lemmas.Bool.{and_parts, ltb-true}
use Rattle.std.specs.List.{AllByRecursion, list_all}
use Rattle.std.proofs.lemmas.List.Elements.{All-from_recursion}
use Rattle.h41_words.specs.declared.operation.Operation.{Operation}
use Rattle.h41_words.specs.declared.operation.Operation.TheVariants.{ClearA}
use Rattle.h41_words.specs.declared.rows.Condition.TheVariants.{Carry, NoCarry}
use Rattle.h41_words.specs.declared.rows.Bank.TheVariants.{First, Second, Third, Fourth}
use Rattle.h41_words.specs.declared.rows.RegisterTransfer.{RegisterTransfer}
use Rattle.h41_words.specs.declared.rows.RegisterTransfer.TheVariants.{CToG, CToM, CToN, CToStatus, ExchangeCG, ExchangeCM, ExchangeCN}
use Rattle.h41_words.specs.declared.rows.RegisterTransfer.TheVariants.{ExchangeCStatus, ExchangeStatusT, GToC, MToC, NToC, StatusToC}
use Rattle.h41_words.specs.declared.rows.RegisterTransfer.TheVariants.{StatusToT, TToStatus}
use Rattle.h41_words.specs.declared.rows.Row.TheVariants.{ClearKeyFlag, ClearRegisters, ClearStatusByte, DecrementPointer, DisplayOff}
use Rattle.h41_words.specs.declared.rows.Row.TheVariants.{DropReturn, EnableBank, FetchWord, IncrementPointer, Nop, PopAddress}
use Rattle.h41_words.specs.declared.rows.Row.TheVariants.{PowerOff, PushAddress, ReadKey, Return, SelectPeripheral, SelectRegister}
use Rattle.h41_words.specs.declared.rows.Row.TheVariants.{SetDecimal, SetHexadecimal, TestKeyFlag, TestLowBattery, TestPointersEqual}
use Rattle.h41_words.specs.declared.rows.Row.TheVariants.{ToggleDisplay, Transfer, WriteRom}
use Rattle.h41_words.specs.Listing.{operations}
use Rattle.h41_words.specs.Mnemonics.{operation_text, transfer_text}
use Rattle.h41_words.specs.Counts.{word_count}
use Rattle.h41_words.specs.WordTable.{number_of}
use Rattle.h41_asm.specs.declared.table.Opening.{Opening}
use Rattle.h41_asm.specs.declared.table.Opening.TheVariants.{Data, Single, Taker}
use Rattle.h41_asm.specs.declared.table.Taking.TheVariants.{Field}
use Rattle.h41_asm.specs.declared.table.TheConstants.{OPENINGS, PLACES}
use Rattle.h41_asm.specs.Statements.{singles, takers}
use Rattle.h41_asm.specs.private.Openings.{TableEntry, IsTable, OpensAs, TellsWords}
use Rattle.h41_asm.proofs.OpeningTable.{condition_reads, goto_sound, logic_sound, pair_reads, read_sound, select_sound, single, write_sound}
use Rattle.h41_asm.proofs.Openings.{begins_nothing}

field_sound : (operation : Operation) → OpensAs (operation_text operation) (Some (Taker (Field operation)))
unfolding singles takers
field_sound ClearA others = refl
field_sound operation others = refl

-- The entries of operations on a field, before others.
fields_sound : (some : List Operation) (others : List TableEntry) → AllByRecursion (λ entry. OpensAs entry.0 (Some entry.1)) others
    → AllByRecursion (λ entry. OpensAs entry.0 (Some entry.1)) (map (λ o. (operation_text o, Taker (Field o))) some ++ others)
fields_sound [] others sound = sound
fields_sound (operation ∷ some) others sound = (field_sound operation, fields_sound some others sound)

transfer_sound : (transfer : RegisterTransfer) → OpensAs (transfer_text transfer) (Some (Single (number_of (Transfer transfer))))
unfolding singles takers
transfer_sound CToG =
    single (transfer_text CToG) (Transfer CToG) (number_of (Transfer CToG)) (λ others. refl) (λ others. refl) (λ others. refl) refl
transfer_sound transfer =
    single (transfer_text transfer) (Transfer transfer) (number_of (Transfer transfer))
    (λ others. refl) (λ others. refl) (λ others. refl) refl

-- The code's tables.
abbrev pub entries : List TableEntry
entries = map (λ opening. (opening.0.now, opening.1)) OPENINGS

-- A property of a first entry and of the others.
infixr 20 ◌&◌
◌&◌ : {A B : Type 0} → A → B → A × B
first & others = (first, others)

entries_sound : AllByRecursion (λ entry. OpensAs entry.0 (Some entry.1)) entries
unfolding singles takers number_of
entries_sound =
    single (codes "NOP") Nop 0x000 (λ others. refl) (λ others. refl) (λ others. refl) refl
    & single (codes "WROM") WriteRom 0x040 (λ others. refl) (λ others. refl) (λ others. refl) refl
    & single (codes "ENBANK1") (EnableBank First) 0x100 (λ others. refl) (λ others. refl) (λ others. refl) refl
    & single (codes "ENBANK2") (EnableBank Second) 0x180 (λ others. refl) (λ others. refl) (λ others. refl) refl
    & single (codes "ENBANK3") (EnableBank Third) 0x140 (λ others. refl) (λ others. refl) (λ others. refl) refl
    & single (codes "ENBANK4") (EnableBank Fourth) 0x1C0 (λ others. refl) (λ others. refl) (λ others. refl) refl
    & single (codes "ST=0") ClearStatusByte 0x3C4 (λ others. refl) (λ others. refl) (λ others. refl) refl
    & single (codes "CLRKEY") ClearKeyFlag 0x3C8 (λ others. refl) (λ others. refl) (λ others. refl) refl
    & single (codes "?KEY") TestKeyFlag 0x3CC (λ others. refl) (λ others. refl) (λ others. refl) refl
    & single (codes "R=R-1") DecrementPointer 0x3D4 (λ others. refl) (λ others. refl) (λ others. refl) refl
    & single (codes "R=R+1") IncrementPointer 0x3DC (λ others. refl) (λ others. refl) (λ others. refl) refl
    & read_sound
    & transfer_sound CToG
    & transfer_sound GToC
    & transfer_sound ExchangeCG
    & transfer_sound CToM
    & transfer_sound MToC
    & transfer_sound ExchangeCM
    & transfer_sound StatusToT
    & transfer_sound TToStatus
    & transfer_sound ExchangeStatusT
    & transfer_sound CToStatus
    & transfer_sound StatusToC
    & transfer_sound ExchangeCStatus
    & single (codes "XQ->GO") DropReturn 0x020 (λ others. refl) (λ others. refl) (λ others. refl) refl
    & single (codes "POWOFF") PowerOff 0x060 (λ others. refl) (λ others. refl) (λ others. refl) refl
    & select_sound
    & single (codes "?P=Q") TestPointersEqual 0x120 (λ others. refl) (λ others. refl) (λ others. refl) refl
    & single (codes "?LLD") TestLowBattery 0x160 (λ others. refl) (λ others. refl) (λ others. refl) refl
    & single (codes "CLRABC") ClearRegisters 0x1A0 (λ others. refl) (λ others. refl) (λ others. refl) refl
    & goto_sound
    & single (codes "C=KEY") ReadKey 0x220 (λ others. refl) (λ others. refl) (λ others. refl) refl
    & single (codes "SETHEX") SetHexadecimal 0x260 (λ others. refl) (λ others. refl) (λ others. refl) refl
    & single (codes "SETDEC") SetDecimal 0x2A0 (λ others. refl) (λ others. refl) (λ others. refl) refl
    & single (codes "DISOFF") DisplayOff 0x2E0 (λ others. refl) (λ others. refl) (λ others. refl) refl
    & single (codes "DISTOG") ToggleDisplay 0x320 (λ others. refl) (λ others. refl) (λ others. refl) refl
    & condition_reads Carry (codes "?C") (codes "?C RTN") (codes "?C XQ") (codes "?C GO") refl
    (λ second others. (refl, refl, refl, refl, refl))
    & condition_reads NoCarry (codes "?NC") (codes "?NC RTN") (codes "?NC XQ") (codes "?NC GO") refl
    (λ second others. (refl, refl, refl, refl, refl))
    & single (codes "RTN") Return 0x3E0 (λ others. refl) (λ others. refl) (λ others. refl) refl
    & transfer_sound CToN
    & transfer_sound NToC
    & transfer_sound ExchangeCN
    & pair_reads (codes "PUSH") (codes "ADR") (codes "PUSH ADR") PushAddress refl (λ second others. (refl, refl, refl))
    & pair_reads (codes "POP") (codes "ADR") (codes "POP ADR") PopAddress refl (λ second others. (refl, refl, refl))
    & pair_reads (codes "RAM") (codes "SLCT") (codes "RAM SLCT") SelectRegister refl (λ second others. (refl, refl, refl))
    & write_sound
    & pair_reads (codes "FETCH") (codes "S&X") (codes "FETCH S&X") FetchWord refl (λ second others. (refl, refl, refl))
    & logic_sound
    & pair_reads (codes "PRPH") (codes "SLCT") (codes "PRPH SLCT") SelectPeripheral refl (λ second others. (refl, refl, refl))
    & fields_sound operations (drop 81 entries) (
    (λ others. refl)
    & (λ others. refl)
    & (λ others. refl)
    & (λ others. refl)
    & (λ others. refl)
    & (λ others. refl)
    & (λ others. refl)
    & (λ others. refl)
    & (λ others. refl)
    & (λ others. refl)
    & (λ others. refl)
    & (λ others. refl)
    & (λ others. refl)
    & (λ others. refl)
    & tt)

-- Whether the words of an entry are numbers of words.
abbrev tells : Opening → Bool
tells (Single number) = nat_lt number word_count
tells (Data number numbered) = nat_lt number word_count
tells other = true

told : (opening : Opening) → tells opening ≡ true → TellsWords opening
told (Single number) low = ltb-true number word_count low
told (Data number numbered) low = ltb-true number word_count low
told opening low = tt

all_told : (some : List TableEntry) → list_all (λ entry. tells entry.1) some ≡ true → AllByRecursion (λ entry. TellsWords entry.1) some
all_told [] low = tt
all_told (entry ∷ some) low =
    let both = and_parts (tells entry.1) (list_all (λ entry. tells entry.1) some) low in
    (told entry.1 both.0, all_told some both.1)

all_below : (count : ℕ) (places : List ℕ) → list_all (λ place. nat_lt place count) places ≡ true
    → AllByRecursion (λ place. place < count) places
all_below count [] low = tt
all_below count (place ∷ places) low =
    let both = and_parts (nat_lt place count) (list_all (λ place. nat_lt place count) places) low in
    (ltb-true place count both.0, all_below count places both.1)

pub is_table : IsTable entries PLACES
unfolding singles takers
is_table = record {
  count = refl;
  within =
      λ k inside. All-from_recursion (λ (place : ℕ). place < length entries) PLACES (all_below (length entries) PLACES refl) k 0 inside;
  sound = All-from_recursion (λ (entry : TableEntry). OpensAs entry.0 (Some entry.1)) entries entries_sound;
  words = All-from_recursion (λ (entry : TableEntry). TellsWords entry.1) entries (all_told entries refl);
  complete = λ word other missed. begins_nothing entries PLACES other word missed refl refl;
}
