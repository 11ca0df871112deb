-- The pages of the address space: a finite map from page, bank and offset to words, the banks whose
-- words microcode can write, and the active bank of each page; when plugging, unplugging, reading
-- and writing are refused, and what they change. The supported pages and banks, and the order in
-- which refusals are checked, are this project's choices.
use Rattle.std.specs.Prelude.{◌≡◌, ◌⊎◌, ℕ, ◌+◌, ◌<◌, Bool, true, false, not, ◌&&◌, List, [], length}
use Rattle.std.specs.Prelude.{slice_index, slice_index_or, slice_set, drop, replicate, nat_le, ◌==◌}
use Rattle.std.specs.Prelude.{if◌then◌else◌, is_some, IfSome, Option, Some, None, Result, Ok, Err}
use Rattle.std.specs.Prelude.{option_map}
use Rattle.std.specs.Bool.{then_some}
use Rattle.std.specs.List.{list_all, list_any}
use Rattle.std.specs.Option.{option_or, option_map_or}
use Rattle.std.specs.Result.{result_err}
use Rattle.h41_words.specs.declared.rows.Bank.{Bank}
use Rattle.h41_words.specs.declared.rows.Bank.TheVariants.{First, Second, Third, Fourth}
use Rattle.h41_pages.specs.Addresses.{page_count, page_size, last_word, page_of, offset_of}
use Rattle.h41_pages.specs.Addresses.{is_pluggable, is_system}
use Rattle.h41_pages.specs.declared.refusal.FetchRefusal.{FetchRefusal}
use Rattle.h41_pages.specs.declared.refusal.FetchRefusal.TheVariants.{SystemRom, EmptyPage}
use Rattle.h41_pages.specs.declared.refusal.ReadOnly.{ReadOnly}
use Rattle.h41_pages.specs.declared.refusal.PlugRefusal as plug
use Rattle.h41_pages.specs.declared.refusal.PlugRefusal.TheVariants as plugs
use Rattle.h41_pages.specs.declared.refusal.UnplugRefusal as unplug
use Rattle.h41_pages.specs.declared.refusal.UnplugRefusal.TheVariants as unplugs

-- The image that is plugged at a bank of a page: its 4,096 words in the order of their offsets, and
-- whether microcode can write them.
pub record PageImage : Type 0 where
  pub words : List ℕ
  pub writable : Bool

-- The pages of the address space.
pub record PageMap : Type 0 where
  -- For each of the sixteen pages and each of its four banks, the image that is plugged there, if
  -- any.
  pub images : List (List (Option PageImage))
  -- The active bank of each page.
  pub chosen : List Bank

-- The banks of a page with nothing plugged.
abbrev pub no_banks : List (Option PageImage)
no_banks = replicate 4 None

-- The pages with nothing plugged, and bank 1 active everywhere.
abbrev pub no_pages : PageMap
no_pages = record { images = replicate page_count no_banks; chosen = replicate page_count First }

-- The bank with a number from 1 to 4.
abbrev pub bank_numbered : ℕ → Bank
bank_numbered number =
    if number == 1 then First
    else if number == 2 then Second else if number == 3 then Third else Fourth

-- The index of a bank among the banks of its page.
abbrev pub bank_place : Bank → ℕ
bank_place First = 0
bank_place Second = 1
bank_place Third = 2
bank_place Fourth = 3

-- Whether a bank with this number is supported: banks 1 to 4.
abbrev pub is_bank : ℕ → Bool
is_bank number = nat_le 1 number && nat_le number 4

-- Whether a page and a bank with these numbers are supported: pages 4 to F, banks 1 to 4.
abbrev pub is_held : ℕ → ℕ → Bool
is_held page number = is_pluggable page && is_bank number

-- The banks of a page.
abbrev pub banks_at : PageMap → ℕ → List (Option PageImage)
banks_at pages page = slice_index_or pages.images page []

-- The image of a bank of a page.
abbrev pub image_at : PageMap → ℕ → Bank → Option PageImage
image_at pages page bank = slice_index_or (banks_at pages page) (bank_place bank) None

-- The active bank of a page.
abbrev pub chosen_at : PageMap → ℕ → Bank
chosen_at pages page = slice_index_or pages.chosen page First

-- The image of the active bank, whose words are read and written.
abbrev pub chosen_image : PageMap → ℕ → Option PageImage
chosen_image pages page = image_at pages page (chosen_at pages page)

-- The pages with another image at a bank of a page.
abbrev pub with_image : PageMap → ℕ → Bank → Option PageImage → PageMap
with_image pages page bank image =
    record pages {
      images =
          slice_set pages.images page (slice_set (banks_at pages page) (bank_place bank) image);
    }

-- The words of an image: 4,096 words, none above 3FF.
abbrev pub is_image : List ℕ → Bool
is_image words = length words == page_size && list_all (λ word. nat_le word last_word) words

-- The image at an index among the banks of a page: the page and the bank are supported, and it has
-- the words of an image.
pub record IsHeldImage (page place : ℕ) (image : PageImage) : Type 0 where
  pub held : is_held page (place + 1) ≡ true
  pub words : is_image image.words ≡ true

-- What is true of pages at any time: there are sixteen, each with four banks, of which one is
-- active. Each plugged image has the words of an image, and its page and bank are supported.
pub record IsPageMap (pages : PageMap) : Type 0 where
  pub images : length pages.images ≡ page_count
  pub banks : (page : ℕ) → page < page_count → length (banks_at pages page) ≡ 4
  pub chosen : length pages.chosen ≡ page_count
  pub each : (page place : ℕ)
      → IfSome (slice_index_or (banks_at pages page) place None) (IsHeldImage page place)

-- The reason why words are not plugged: NoSuchPage (01) if the page or the bank is not supported,
-- Occupied (02) if the bank is plugged, BadImage (04) if the words are not those of an image.
abbrev pub plug_refusal : PageMap → ℕ → ℕ → List ℕ → Option plug.PlugRefusal
plug_refusal pages page number words =
    option_or (then_some (not (is_held page number)) plugs.NoSuchPage)
    (option_or (then_some (is_some (image_at pages page (bank_numbered number))) plugs.Occupied)
    (then_some (not (is_image words)) plugs.BadImage))

-- The refusal is this reason, or OutOfMemory (21) if there is none.
abbrev pub RefusesPlug : PageMap → ℕ → ℕ → List ℕ → plug.PlugRefusal → Type 0
RefusesPlug pages page number words refusal =
    (plug_refusal pages page number words ≡ Some refusal)
    ⊎ ((plug_refusal pages page number words ≡ None) × (refusal ≡ plugs.OutOfMemory))

-- The pages with these words plugged at a bank of a page.
abbrev pub with_page_image : PageMap → ℕ → ℕ → Bool → List ℕ → PageMap
with_page_image pages page number writable words =
    with_image pages page (bank_numbered number)
    (Some (record { words = words; writable = writable }))

-- The reason why a page is not unplugged: NoSuchPage (01) if it is not 4 to F, NotPlugged (03) if
-- none of its banks is plugged.
abbrev pub unplug_refusal : PageMap → ℕ → Option unplug.UnplugRefusal
unplug_refusal pages page =
    option_or (then_some (not (is_pluggable page)) unplugs.NoSuchPage)
    (then_some (not (list_any (λ image. is_some image) (banks_at pages page))) unplugs.NotPlugged)

-- The pages with all banks of a page unplugged. That page is then as at the start.
abbrev pub without_images : PageMap → ℕ → PageMap
without_images pages page =
    record {
      images = slice_set pages.images page no_banks;
      chosen = slice_set pages.chosen page First;
    }

-- The pages with another active bank of a page. A bank that is not plugged is not activated.
abbrev pub with_chosen : PageMap → ℕ → Bank → PageMap
with_chosen pages page bank =
    if is_some (image_at pages page bank)
    then record pages { chosen = slice_set pages.chosen page bank }
    else pages

-- The pages with bank 1 active everywhere.
abbrev pub with_first_banks : PageMap → PageMap
with_first_banks pages = record pages { chosen = replicate page_count First }

-- The word at an address in an image, or EmptyPage (09) if there is no image.
abbrev pub word_in : ℕ → Option PageImage → Result ℕ FetchRefusal
word_in address None = Err (EmptyPage address)
word_in address (Some image) = Ok (slice_index image.words (offset_of address))

-- The word that is fetched at an address: SystemRom (08) in the system's pages, which are not
-- supported, EmptyPage (09) if the active bank of the address's page is not plugged.
unfoldable pub fetched : PageMap → ℕ → Result ℕ FetchRefusal
fetched pages address =
    if is_system address then Err (SystemRom address)
    else word_in address (chosen_image pages (page_of address))

-- The reason why no word is fetched at an address.
abbrev pub fetch_refusal : PageMap → ℕ → Option FetchRefusal
fetch_refusal pages address = result_err (fetched pages address)

-- The words of the active bank from an address to the end of its page.
abbrev pub words_from : PageMap → ℕ → List ℕ
words_from pages address =
    option_map_or (λ image. drop (offset_of address) image.words)
    (chosen_image pages (page_of address)) []

-- Whether microcode can write the words of an image: it must be plugged, and as writable.
abbrev pub is_writable : Option PageImage → Bool
is_writable image = option_map_or (λ it. it.writable) image false

-- The reason why a word is not written: ReadOnly (12) if the active bank of the address's page is
-- not plugged as writable.
abbrev pub write_refusal : PageMap → ℕ → Option ReadOnly
write_refusal pages address =
    then_some (not (is_writable (chosen_image pages (page_of address))))
    (record { address = address })

-- An image with another word at an offset.
abbrev pub with_word : ℕ → ℕ → PageImage → PageImage
with_word offset word image = record image { words = slice_set image.words offset word }

-- The pages with another word at an address.
unfoldable pub written : PageMap → ℕ → ℕ → PageMap
written pages address word =
    with_image pages (page_of address) (chosen_at pages (page_of address))
    (option_map (with_word (offset_of address) word) (chosen_image pages (page_of address)))
