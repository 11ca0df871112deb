-- Consequences of the definitions of pages and images alone.
use Rattle.std.specs.Prelude.{◌≡◌, ◌≢◌, ◌⊎◌, ℕ, ◌+◌, ◌*◌, ◌<◌, ◌≤◌, Bool, true, List, slice_index}
use Rattle.std.specs.Prelude.{IfSome, Some, None, Ok, Err}
use Rattle.h41_words.specs.declared.rows.Bank.{Bank}
use Rattle.h41_pages.specs.Addresses.{page_size, first_page, last_page, page_of}
use Rattle.h41_pages.specs.PageMap.{PageMap, PageImage, IsPageMap, image_at, chosen_at}
use Rattle.h41_pages.specs.PageMap.{bank_numbered, is_image, with_page_image, without_images}
use Rattle.h41_pages.specs.PageMap.{with_chosen, fetched, write_refusal, written}
use Rattle.h41_pages.specs.Images.{image_bytes, words_in, read_refusal, IsImageAt}
use Rattle.h41_pages.specs.declared.refusal.FetchRefusal.TheVariants.{EmptyPage}

-- The image round trip: an image that is written as bytes is read as the same words.
abbrev pub ImageRoundTrip : Type 0
ImageRoundTrip = (words : List ℕ) → is_image words ≡ true → words_in (image_bytes words) ≡ words

-- The bytes of an image are never refused.
abbrev pub ImageIsRead : Type 0
ImageIsRead = (words : List ℕ) → is_image words ≡ true → read_refusal (image_bytes words) ≡ None

-- The bytes of the image of a bank of a page are read as the words that are plugged there, and are
-- not refused.
abbrev pub PluggedImageIsRead : Type 0
PluggedImageIsRead =
    (pages : PageMap) (page number : ℕ) (bytes : List ℕ) → IsPageMap pages
    → IsImageAt pages page number bytes
    → IfSome (image_at pages page (bank_numbered number))
    (λ image. (read_refusal bytes ≡ None) × (words_in bytes ≡ image.words))

-- The address of an offset in a page.
abbrev pub address_in : ℕ → ℕ → ℕ
address_in page offset = page * page_size + offset

-- The words that are plugged at the active bank of a page are fetched there.
abbrev pub PluggedIsFetched : Type 0
PluggedIsFetched =
    (pages : PageMap) (page number offset : ℕ) (writable : Bool) (words : List ℕ) → IsPageMap pages
    → first_page ≤ page → page ≤ last_page → offset < page_size
    → chosen_at pages page ≡ bank_numbered number
    → fetched (with_page_image pages page number writable words) (address_in page offset)
    ≡ Ok (slice_index words offset)

-- The words that are plugged at a bank are fetched once this bank is active.
abbrev pub ChosenIsFetched : Type 0
ChosenIsFetched =
    (pages : PageMap) (page offset : ℕ) (bank : Bank) (image : PageImage) → IsPageMap pages
    → first_page ≤ page → page ≤ last_page → offset < page_size
    → image_at pages page bank ≡ Some image
    → fetched (with_chosen pages page bank) (address_in page offset)
    ≡ Ok (slice_index image.words offset)

-- An unplugged page is empty.
abbrev pub UnpluggedIsEmpty : Type 0
UnpluggedIsEmpty =
    (pages : PageMap) (page offset : ℕ) → IsPageMap pages
    → first_page ≤ page → page ≤ last_page → offset < page_size
    → fetched (without_images pages page) (address_in page offset)
    ≡ Err (EmptyPage (address_in page offset))

-- Plugging a page changes no other page.
abbrev pub PluggingKeepsOthers : Type 0
PluggingKeepsOthers =
    (pages : PageMap) (page number : ℕ) (writable : Bool) (words : List ℕ) (address : ℕ)
    → page_of address ≢ page
    → fetched (with_page_image pages page number writable words) address ≡ fetched pages address

-- Unplugging a page changes no other page.
abbrev pub UnpluggingKeepsOthers : Type 0
UnpluggingKeepsOthers =
    (pages : PageMap) (page address : ℕ) → page_of address ≢ page
    → fetched (without_images pages page) address ≡ fetched pages address

-- Activating a bank of a page changes no other page.
abbrev pub ChoosingKeepsOthers : Type 0
ChoosingKeepsOthers =
    (pages : PageMap) (page : ℕ) (bank : Bank) (address : ℕ) → page_of address ≢ page
    → fetched (with_chosen pages page bank) address ≡ fetched pages address

-- A written word is fetched if the write is not refused.
abbrev pub WrittenIsFetched : Type 0
WrittenIsFetched =
    (pages : PageMap) (address word : ℕ) → IsPageMap pages → write_refusal pages address ≡ None
    → fetched (written pages address word) address ≡ Ok word

-- Writing a word changes no other address, even in the same page.
abbrev pub WritingKeepsOthers : Type 0
WritingKeepsOthers =
    (pages : PageMap) (written_address word address : ℕ) → IsPageMap pages
    → address ≢ written_address
    → fetched (written pages written_address word) address ≡ fetched pages address

-- Plugging a bank changes no other bank, even in the same page.
abbrev pub PluggingKeepsOtherBanks : Type 0
PluggingKeepsOtherBanks =
    (pages : PageMap) (page number : ℕ) (writable : Bool) (words : List ℕ) (other : ℕ) (bank : Bank)
    → (other ≢ page) ⊎ (bank ≢ bank_numbered number)
    → image_at (with_page_image pages page number writable words) other bank
    ≡ image_at pages other bank

-- Writing a word changes no bank other than the active bank of its page.
abbrev pub WritingKeepsOtherBanks : Type 0
WritingKeepsOtherBanks =
    (pages : PageMap) (address word other : ℕ) (bank : Bank)
    → (other ≢ page_of address) ⊎ (bank ≢ chosen_at pages (page_of address))
    → image_at (written pages address word) other bank ≡ image_at pages other bank

-- Unplugging a page changes no bank of another page.
abbrev pub UnpluggingKeepsOtherBanks : Type 0
UnpluggingKeepsOtherBanks =
    (pages : PageMap) (page other : ℕ) (bank : Bank) → other ≢ page
    → image_at (without_images pages page) other bank ≡ image_at pages other bank

-- Activating a bank changes no image.
abbrev pub ChoosingKeepsBanks : Type 0
ChoosingKeepsBanks =
    (pages : PageMap) (page : ℕ) (chosen : Bank) (other : ℕ) (bank : Bank)
    → image_at (with_chosen pages page chosen) other bank ≡ image_at pages other bank
