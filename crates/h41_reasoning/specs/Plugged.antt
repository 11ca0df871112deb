-- Where the words of a module are: at the banks of pages.
use Rattle.std.specs.Prelude.{◌≡◌, ℕ, ◌<◌, List, Some, length, slice_index}
use Rattle.h41_pages.specs.PageMap.{PageImage, PageMap, image_at}
use Rattle.h41_words.specs.declared.rows.Bank.{Bank}

-- These words are plugged at a bank of a page, from its first address on, whichever bank is active.
pub record IsPlugged (pages : PageMap) (page : ℕ) (bank : Bank) (words : List ℕ) : Type 0 where
  pub image : PageImage
  pub is : image_at pages page bank ≡ Some image
  pub each : (index : ℕ) → index < length words
      → slice_index image.words index ≡ slice_index words index
