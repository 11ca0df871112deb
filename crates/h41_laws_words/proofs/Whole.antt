-- A word leaves registers of 14 digits.
use Rattle.std.proofs.Common.{◌≡◌, ℕ, ◌+◌, ◌/◌, ◌%◌, ◌<◌, true, List, take, drop, arith, get_or, Option, Some, None, Err, slice_index}
use Rattle.std.proofs.Common.{slice_set, is_some, length}
use Rattle.std.specs.Int.RustNames.{bit_and, bit_or}
use Rattle.std.specs.List.{list_all}
use Rattle.std.specs.Prelude.{◌==◌, IfSome, nat_le}
use Rattle.std.proofs.lemmas.Bool.{and_parts, cond_both}
use Rattle.std.proofs.lemmas.Bool.Decides.{nat_tests}
use Rattle.std.proofs.lemmas.List.Elements.{All-cons, All-drop, All-push, All-take}
use Rattle.std.proofs.lemmas.List.Sums.{AllPass-from_list_all}
use Rattle.std.proofs.lemmas.Nat.{and_le_l, or_lt}
use Rattle.h41_digits.specs.Register.{IsRegister}
use Rattle.h41_fields.specs.declared.field.Pointer.{Pointer}
use Rattle.h41_fields.specs.declared.field.Pointer.TheVariants.{P, Q}
use Rattle.h41_nut.specs.Addresses.{address_count}
use Rattle.h41_nut.specs.Arithmetic.{Operates}
use Rattle.h41_nut.specs.Arrivals.{address_after_both, gone_on}
use Rattle.h41_nut.specs.Jumps.{newest_return, with_return_popped, with_return_pushed}
use Rattle.h41_nut.specs.MemoryWords.{block_address, selecting_in_block}
use Rattle.h41_nut.specs.PageWords.{with_own_refusal, word_at, word_or_zero}
use Rattle.h41_nut.specs.Pointers.{place_above, pointer_of, status_byte, with_pointer_at}
use Rattle.h41_nut.specs.Processor.{Processor}
use Rattle.h41_nut.specs.RegisterWords.{address_digits, address_in_c, after_transfer, byte_at_pointer, byte_digits}
use Rattle.h41_nut.specs.RegisterWords as nut
use Rattle.h41_nut.specs.RegisterWords.{with_digits, word_digits}
use Rattle.h41_nut.specs.WordStep.{Nut, WordEffect, keys_after, pages_after, ram_after, registers_after, second_word, state_after, word_of}
use Rattle.h41_pages.proofs.PageMaps.{choice_changed, word_changed}
use Rattle.h41_pages.specs.Addresses.{is_system, last_word, offset_of, page_of, page_size}
use Rattle.h41_pages.specs.PageMap.{IsHeldImage, IsPageMap, PageImage, PageMap, bank_place, chosen_at, chosen_image, fetched, image_at}
use Rattle.h41_pages.specs.PageMap.{word_in}
use Rattle.h41_pages.specs.declared.refusal.FetchRefusal.TheVariants.{SystemRom}
use Rattle.h41_words.specs.WordTable.{WordOfRow, number_of, row_of}
use Rattle.h41_words.specs.declared.operation.Operation.{Operation}
use Rattle.h41_words.specs.declared.operation.Operation.TheVariants as operations
use Rattle.h41_words.specs.declared.rows.RegisterTransfer.{RegisterTransfer}
use Rattle.h41_words.specs.declared.rows.RegisterTransfer.TheVariants as transfers
use Rattle.h41_words.specs.declared.rows.Row.{Row}
use Rattle.h41_words.specs.declared.rows.Row.TheVariants as rows
use Rattle.h41_laws_words.proofs.Registers.{below_at, copied, digit_at, digits_set, down, held_at, held_with, placed, register_set, up}
use Rattle.h41_laws_words.proofs.Registers.{zeros_register}
use Rattle.h41_arith.specs.DigitRule.{zeros}
use Rattle.h41_laws_words.specs.WholeStates.{HasAllRegisters, HoldsRegisters, IsWhole, WordLeavesWhole}

-- What is fetched is a word.
words_small : (words : List ℕ) (offset : ℕ) → list_all (λ word. nat_le word last_word) words ≡ true → slice_index words offset < 1024
words_small words offset all =
    below_at 1024 words offset (omega arith) (λ k d inside.
    let most : nat_le (get_or words k d) last_word ≡ true = AllPass-from_list_all (λ word. nat_le word last_word) words all k d inside in
    grind (arith, nat_tests))

in_image : (page place address : ℕ) (image : Option PageImage) → IfSome image (IsHeldImage page place)
    → word_or_zero (with_own_refusal (word_in address image)) < 1024
in_image page place address None held = omega arith
in_image page place address (Some image) held =
    words_small image.words (offset_of address) (and_parts (length image.words == page_size) _ held.words).1

fetched_small : (pages : PageMap) (address : ℕ) → IsPageMap pages → word_or_zero (word_at pages address) < 1024
unfolding fetched
fetched_small pages address is =
    let page = page_of address in
    cond_both (is_system address) (Err (SystemRom address)) (word_in address (chosen_image pages page))
    (λ word. word_or_zero (with_own_refusal word) < 1024) (λ _. omega arith)
    (λ _. in_image page (bank_place (chosen_at pages page)) address (chosen_image pages page) (is.each page _))

word_in_c : (s : Processor) (word : ℕ) → HasAllRegisters s → word < 1024 → IsRegister 14 (with_digits s.c 0 (word_digits word))
word_in_c s word has small = digits_set s.c 0 (word_digits word) has.abc.c (omega arith, (omega arith, (omega arith, tt)))

-- Return addresses.
pushed : (s : Processor) (address : ℕ) → HasAllRegisters s → address < address_count → HasAllRegisters (with_return_pushed address s)
pushed s address has small =
    assumption
    (All-cons (λ address. address < address_count) address (take 3 s.returns) small
    (All-take (λ address. address < address_count) 3 s.returns has.returns))

popped : (s : Processor) → HasAllRegisters s → HasAllRegisters (with_return_popped s)
popped s has =
    assumption
    (All-push (λ address. address < address_count) (drop 1 s.returns) 0
    (All-drop (λ address. address < address_count) 1 s.returns has.returns) (omega arith))

address_small : (s : Processor) → HasAllRegisters s → address_in_c s < address_count
address_small s has = omega (arith, digit_at s.c 3 has.abc.c, digit_at s.c 4 has.abc.c, digit_at s.c 5 has.abc.c, digit_at s.c 6 has.abc.c)

-- The pointer.
pointed : (active : Pointer) (place : ℕ) (s : Processor) → HasAllRegisters s → HasAllRegisters (with_pointer_at active place s)
pointed P place s has = assumption
pointed Q place s has = assumption

-- Bytes of C.
byte_small : (s : Processor) → HasAllRegisters s → byte_at_pointer s < 256
byte_small s has = omega (arith, digit_at s.c (pointer_of s) has.abc.c, digit_at s.c (place_above (pointer_of s)) has.abc.c)

two_set : (s : Processor) (low high byte : ℕ) → HasAllRegisters s → byte < 256
    → IsRegister 14 (slice_set (slice_set s.c low (byte % 16)) high (byte / 16))
two_set s low high byte has small =
    register_set (slice_set s.c low (byte % 16)) high (byte / 16) (register_set s.c low (byte % 16) has.abc.c (omega arith)) (omega arith)

-- Copies and exchanges of whole registers.
transferred : (transfer : RegisterTransfer) (s : Processor) → HasAllRegisters s → HasAllRegisters (after_transfer transfer s)
transferred transfers.CToG s has = assumption (byte_small s has)
transferred transfers.GToC s has = assumption (two_set s (pointer_of s) (place_above (pointer_of s)) s.g has has.g)
transferred transfers.ExchangeCG s has = assumption (two_set s (pointer_of s) (place_above (pointer_of s)) s.g has has.g, byte_small s has)
transferred transfers.StatusToC s has = assumption (two_set s 0 1 (status_byte s) has (omega arith))
transferred transfers.ExchangeCStatus s has = assumption (two_set s 0 1 (status_byte s) has (omega arith))
transferred transfer s has = assumption

-- A digit that a word loads is a digit.
abbrev Fits : Row → Type 0
Fits (rows.LoadDigit digit) = digit < 16
Fits row = Unit {0}

fits : (row : Row) (word : ℕ) → number_of row ≡ word → word < 1024 → Fits row
unfolding number_of
fits (rows.LoadDigit digit) word is small = omega (arith, is)
fits row word is small = tt

-- The registers after a word, except arithmetic.
registers_kept : (row : Row) (s : Nut) → Fits row → IsWhole s → HasAllRegisters (registers_after row s)
registers_kept (rows.LongJump low_byte) s fit whole =
    cond_both _ (with_return_pushed (address_after_both s.processor) s.processor) s.processor HasAllRegisters
    (λ _. pushed s.processor (address_after_both s.processor) whole.processor (omega arith)) (λ _. whole.processor)
registers_kept (rows.SetPointer place) s fit whole = pointed s.processor.active place s.processor whole.processor
registers_kept rows.IncrementPointer s fit whole = pointed s.processor.active _ s.processor whole.processor
registers_kept rows.DecrementPointer s fit whole = pointed s.processor.active _ s.processor whole.processor
registers_kept (rows.RotateRight digits) s fit whole =
    assumption
    (placed (λ place. slice_index s.processor.c ((place + digits) % 14)) (λ place. digit_at s.processor.c _ whole.processor.abc.c))
registers_kept (rows.LoadDigit digit) s fit whole =
    let c = register_set s.processor.c (pointer_of s.processor) digit whole.processor.abc.c fit in
    pointed s.processor.active _ (record s.processor { c = slice_set s.processor.c (pointer_of s.processor) digit }) (assumption c)
registers_kept rows.LoadImmediate s fit whole =
    assumption (word_in_c s.processor (second_word s) whole.processor (fetched_small s.pages _ whole.pages))
registers_kept rows.FetchWord s fit whole =
    assumption
    (word_in_c s.processor (word_or_zero (word_at s.pages (address_in_c s.processor))) whole.processor
    (fetched_small s.pages _ whole.pages))
registers_kept (rows.Transfer transfer) s fit whole = transferred transfer s.processor whole.processor
registers_kept rows.ClearRegisters s fit whole = assumption zeros_register
registers_kept rows.Or s fit whole =
    assumption
    (placed (λ place. bit_or (slice_index s.processor.c place) (slice_index s.processor.a place))
    (λ place. or_lt 4 _ _ (digit_at s.processor.c place whole.processor.abc.c) (digit_at s.processor.a place whole.processor.abc.a)))
registers_kept rows.And s fit whole =
    assumption
    (placed (λ place. bit_and (slice_index s.processor.c place) (slice_index s.processor.a place))
    (λ place. omega (
      arith,
      and_le_l (slice_index s.processor.c place) (slice_index s.processor.a place),
      digit_at s.processor.c place whole.processor.abc.c,
    )))
registers_kept rows.DropReturn s fit whole = popped s.processor whole.processor
registers_kept rows.Return s fit whole = popped s.processor whole.processor
registers_kept (rows.ReturnIf condition) s fit whole =
    cond_both _ (with_return_popped s.processor) s.processor HasAllRegisters
    (λ _. popped s.processor whole.processor) (λ _. whole.processor)
registers_kept rows.PushAddress s fit whole =
    pushed s.processor (address_in_c s.processor) whole.processor (address_small s.processor whole.processor)
registers_kept rows.PopAddress s fit whole =
    let address = newest_return s.processor in
    let small = below_at address_count s.processor.returns 0 (omega arith) whole.processor.returns in
    popped (record s.processor { c = with_digits s.processor.c 3 (address_digits address) })
    (assumption
    (digits_set s.processor.c 3 (address_digits address) whole.processor.abc.c
    (omega arith, (omega arith, (omega arith, (omega (arith, small), tt))))))
registers_kept rows.ReadKey s fit whole =
    assumption (digits_set s.processor.c 3 (byte_digits s.keys.ky) whole.processor.abc.c (omega arith, (omega (arith, whole.key), tt)))
registers_kept (rows.Read register) s fit whole = assumption (held_at s.ram (selecting_in_block register s.processor).selected whole.memory)
registers_kept rows.ReadData s fit whole = assumption (held_at s.ram s.processor.selected whole.memory)
registers_kept row s fit whole = assumption

-- Arithmetic: sums and differences determine registers, and other operations copy and shift digits.
operated : (operation : Operation) (lo hi : ℕ) (s t : Processor) → HasAllRegisters s → Operates operation lo hi s t → HasAllRegisters t
operated operations.AddBToA lo hi s t has is = rw is.1 (assumption is.0)
operated operations.AddCToA lo hi s t has is = rw is.1 (assumption is.0)
operated operations.IncrementA lo hi s t has is = rw is.1 (assumption is.0)
operated operations.SubtractBFromA lo hi s t has is = rw is.1 (assumption is.0)
operated operations.DecrementA lo hi s t has is = rw is.1 (assumption is.0)
operated operations.SubtractCFromA lo hi s t has is = rw is.1 (assumption is.0)
operated operations.DoubleC lo hi s t has is = rw is.1 (assumption is.0)
operated operations.AddAToC lo hi s t has is = rw is.1 (assumption is.0)
operated operations.IncrementC lo hi s t has is = rw is.1 (assumption is.0)
operated operations.SubtractCFromAToC lo hi s t has is = rw is.1 (assumption is.0)
operated operations.DecrementC lo hi s t has is = rw is.1 (assumption is.0)
operated operations.NegateC lo hi s t has is = rw is.1 (assumption is.0)
operated operations.ComplementC lo hi s t has is = rw is.1 (assumption is.0)
operated operation lo hi s t has is =
    let a = has.abc.a in
    let b = has.abc.b in
    let c = has.abc.c in
    rw is (assumption (
      copied s.a zeros lo hi a zeros_register,
      copied s.b zeros lo hi b zeros_register,
      copied s.c zeros lo hi c zeros_register,
      copied s.a s.b lo hi a b,
      copied s.b s.a lo hi b a,
      copied s.a s.c lo hi a c,
      copied s.c s.a lo hi c a,
      copied s.b s.c lo hi b c,
      copied s.c s.b lo hi c b,
      down s.a s.a lo hi a a,
      down s.b s.b lo hi b b,
      down s.c s.c lo hi c c,
      up s.a s.a lo hi a a,
    ))

-- Memory, pages and keyboard.
memory_kept : (row : Row) (s : Nut) → IsWhole s → HoldsRegisters (ram_after row s)
memory_kept rows.WriteData s whole = held_with s.ram s.processor.selected s.processor.c whole.memory whole.processor.abc.c
memory_kept (rows.Write register) s whole =
    held_with s.ram (block_address register s.processor) s.processor.c whole.memory whole.processor.abc.c
memory_kept row s whole = whole.memory

pages_kept : (row : Row) (s : Nut) → IsWhole s → IsPageMap (pages_after row s)
pages_kept rows.WriteRom s whole =
    let small = address_small s.processor whole.processor in
    word_changed s.pages (address_in_c s.processor) (nut.word_in_c s.processor) whole.pages (omega arith) (omega arith)
pages_kept (rows.EnableBank bank) s whole =
    let page = page_of s.processor.pc in
    cond_both (is_some (image_at s.pages page bank)) (record s.pages { chosen = slice_set s.pages.chosen page bank }) s.pages
    IsPageMap (λ _. choice_changed s.pages page bank whole.pages) (λ _. whole.pages)
pages_kept row s whole = whole.pages

key_kept : (row : Row) (s : Nut) → IsWhole s → (keys_after row s).ky < 256
key_kept rows.ClearKeyFlag s whole = whole.key
key_kept row s whole = whole.key

-- The whole state.
state_kept : (row : Row) (s : Nut) → Fits row → IsWhole s → IsWhole (state_after row s)
state_kept row s fit whole =
    assumption (registers_kept row s fit whole, memory_kept row s whole, pages_kept row s whole, key_kept row s whole)

word_kept : (row : Row) (s t : Nut) → Fits row → IsWhole s → WordEffect row s t → IsWhole t
word_kept (rows.Arithmetic operation field) s t fit whole effect =
    let has = operated operation _ _ (gone_on s.processor) t.processor (assumption whole.processor) effect.0 in
    rw effect.1 (assumption (has, whole))
word_kept row s t fit whole effect = rw effect (state_kept row s fit whole)

pub leaves_whole : WordOfRow → WordLeavesWhole
leaves_whole numbers s t whole change =
    let small = fetched_small s.pages s.processor.pc whole.pages in
    word_kept (row_of (word_of s)) s t (fits (row_of (word_of s)) (word_of s) (numbers (word_of s) small) small) whole change.effect
