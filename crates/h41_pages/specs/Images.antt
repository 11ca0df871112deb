-- Images as bytes: two bytes for each word, the high byte first, in the order of the words'
-- offsets.
use Rattle.std.specs.Prelude.{◌≡◌, ◌⊎◌, ℕ, ◌+◌, ◌*◌, ◌/◌, ◌%◌, Bool, not, ◌&&◌, List, [], ◌∷◌, map}
use Rattle.std.specs.Prelude.{length, slice_index, is_none, nat_le, ◌==◌, Option, Some, None}
use Rattle.std.specs.Prelude.{IfSome}
use Rattle.std.specs.Bool.{then_some}
use Rattle.std.specs.List.{flat_map, list_all, range_with_len}
use Rattle.std.specs.Option.{option_or}
use Rattle.h41_pages.specs.Addresses.{page_size, last_word}
use Rattle.h41_pages.specs.PageMap.{PageMap, image_at, bank_numbered, is_held}
use Rattle.h41_pages.specs.declared.refusal.ReadRefusal as read
use Rattle.h41_pages.specs.declared.refusal.ReadRefusal.TheVariants as reads
use Rattle.h41_pages.specs.declared.refusal.ImageRefusal as image
use Rattle.h41_pages.specs.declared.refusal.ImageRefusal.TheVariants as images

-- The two bytes of a word.
abbrev pub word_bytes : ℕ → List ℕ
word_bytes word = word / 256 ∷ word % 256 ∷ []

-- The bytes of words.
abbrev pub image_bytes : List ℕ → List ℕ
image_bytes words = flat_map word_bytes words

-- The number of bytes of an image.
abbrev pub image_size : ℕ
image_size = 2 * page_size

-- The word that two bytes form, from a position on.
abbrev pub word_from : List ℕ → ℕ → ℕ
word_from bytes place = slice_index bytes place * 256 + slice_index bytes (place + 1)

-- The word at an offset is at twice this position.
abbrev pub word_in_bytes : List ℕ → ℕ → ℕ
word_in_bytes bytes offset = word_from bytes (2 * offset)

-- The first words that bytes form.
unfoldable pub first_words : List ℕ → ℕ → List ℕ
first_words bytes count = map (word_in_bytes bytes) (range_with_len 0 count)

-- The words of an image with these bytes.
abbrev pub words_in : List ℕ → List ℕ
words_in bytes = first_words bytes page_size

-- Whether a number is that of a word: up to 3FF.
abbrev pub is_word : ℕ → Bool
is_word number = nat_le number last_word

-- Whether no word of an image is above 3FF.
abbrev pub all_fit : List ℕ → Bool
all_fit bytes = list_all is_word (words_in bytes)

-- Whether bytes are those of an image: 8,192 bytes, with no word above 3FF.
abbrev pub is_image_bytes : List ℕ → Bool
is_image_bytes bytes = length bytes == image_size && all_fit bytes

-- The reason why bytes are not read as an image: BadImage (04).
abbrev pub read_refusal : List ℕ → Option read.ReadRefusal
read_refusal bytes = then_some (not (is_image_bytes bytes)) reads.BadImage

-- The refusal is this reason, or OutOfMemory (21) if there is none.
abbrev pub RefusesRead : List ℕ → read.ReadRefusal → Type 0
RefusesRead bytes refusal =
    (read_refusal bytes ≡ Some refusal)
    ⊎ ((read_refusal bytes ≡ None) × (refusal ≡ reads.OutOfMemory))

-- The reason why an image is not written: NoSuchPage (01) if the page or the bank is not supported,
-- NotPlugged (03) if the bank is not plugged.
abbrev pub image_refusal : PageMap → ℕ → ℕ → Option image.ImageRefusal
image_refusal pages page number =
    option_or (then_some (not (is_held page number)) images.NoSuchPage)
    (then_some (is_none (image_at pages page (bank_numbered number))) images.NotPlugged)

-- The refusal is this reason, or OutOfMemory (21) if there is none.
abbrev pub RefusesImage : PageMap → ℕ → ℕ → image.ImageRefusal → Type 0
RefusesImage pages page number refusal =
    (image_refusal pages page number ≡ Some refusal)
    ⊎ ((image_refusal pages page number ≡ None) × (refusal ≡ images.OutOfMemory))

-- The bytes are those of the image of a bank of a page.
abbrev pub IsImageAt : PageMap → ℕ → ℕ → List ℕ → Type 0
IsImageAt pages page number bytes =
    IfSome (image_at pages page (bank_numbered number))
    (λ plugged. bytes ≡ image_bytes plugged.words)
