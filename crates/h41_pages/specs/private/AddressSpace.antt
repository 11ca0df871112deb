-- The words of all banks as one list, one bank after the other: the word that is fetched at each
-- address of a bank if the bank is active. Pages store this list in addition to their images.
use Rattle.std.specs.Prelude.{◌≡◌, ℕ, ◌+◌, ◌*◌, ◌/◌, ◌<◌, ◌==◌, List, ◌++◌, length, take, drop}
use Rattle.std.specs.Prelude.{replicate, slice_index, if◌then◌else◌, Option, Result, Ok, Err}
use Rattle.h41_words.specs.Counts.{word_count}
use Rattle.h41_words.specs.declared.rows.Bank.{Bank}
use Rattle.h41_words.specs.declared.rows.Bank.TheVariants.{First, Second, Third, Fourth}
use Rattle.h41_pages.specs.Addresses.{page_count, page_size, page_of, is_system}
use Rattle.h41_pages.specs.PageMap.{PageMap, PageImage, IsPageMap, bank_place, image_at, word_in}
use Rattle.h41_pages.specs.declared.refusal.FetchRefusal.{FetchRefusal}
use Rattle.h41_pages.specs.declared.refusal.FetchRefusal.TheVariants.{SystemRom}

-- The number of addresses.
abbrev pub address_count : ℕ
address_count = page_count * page_size

-- The number of words in all banks.
abbrev pub space_size : ℕ
space_size = 4 * address_count

-- The number for an address without a word: the first number above all words.
abbrev pub nothing : ℕ
nothing = word_count

-- The position of the words of a bank of a page, counted in pages.
abbrev pub page_place : Bank → ℕ → ℕ
page_place bank page = bank_place bank * page_count + page

-- The position of the word at an address of a bank.
abbrev pub word_place : Bank → ℕ → ℕ
word_place bank address = bank_place bank * address_count + address

-- The position of the first word of a bank.
abbrev pub bank_start : Bank → ℕ
bank_start bank = bank_place bank * address_count

-- The bank with an index.
abbrev pub bank_at : ℕ → Bank
bank_at place =
    if place == 0 then First
    else if place == 1 then Second else if place == 2 then Third else Fourth

-- The bank whose words begin at a position.
abbrev pub bank_from : ℕ → Bank
bank_from start = bank_at (start / address_count)

-- The list without words.
abbrev pub empty_space : List ℕ
empty_space = replicate space_size nothing

-- The list with other numbers at the position of a bank of a page.
abbrev pub with_page : List ℕ → ℕ → List ℕ → List ℕ
with_page numbers place words =
    take (place * page_size) numbers ++ (words ++ drop (place * page_size + page_size) numbers)

-- The list without the words of a bank of a page.
abbrev pub without_bank : List ℕ → Bank → ℕ → List ℕ
without_bank numbers bank page =
    with_page numbers (page_place bank page) (replicate page_size nothing)

-- The list without the words of all four banks of a page.
abbrev pub without_page : List ℕ → ℕ → List ℕ
without_page numbers page =
    without_bank (without_bank (without_bank (without_bank numbers First page) Second page)
    Third page)
    Fourth page

-- The word that is fetched at an address if this is the image of the active bank of its page.
abbrev pub fetched_from : ℕ → Option PageImage → Result ℕ FetchRefusal
fetched_from address image =
    if is_system address then Err (SystemRom address) else word_in address image

-- The number of what is fetched: the word itself, or the number for no word.
abbrev pub number_of : Result ℕ FetchRefusal → ℕ
number_of (Ok word) = word
number_of (Err refusal) = nothing

-- For each bank, the list has at each address the word that is fetched there if the bank is active.
abbrev pub IsSpaceOf : PageMap → List ℕ → Type 0
IsSpaceOf pages numbers =
    (bank : Bank) (address : ℕ) → address < address_count
    → slice_index numbers (word_place bank address)
    ≡ number_of (fetched_from address (image_at pages (page_of address) bank))

-- What is true of pages and the list of their words at any time.
pub record IsPages (pages : PageMap) (numbers : List ℕ) : Type 0 where
  pub map : IsPageMap pages
  pub size : length numbers ≡ space_size
  pub space : IsSpaceOf pages numbers
