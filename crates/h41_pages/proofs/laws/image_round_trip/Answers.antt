use Rattle.std.proofs.Common.{◌≡◌, ℕ, List, Option, None, length, true, arith, ap, sym, ◌∙◌, rules}
use Rattle.std.specs.Prelude.{IfSome}
use Rattle.std.proofs.lemmas.Grind.{common_steps}
use Rattle.h41_pages.specs.Addresses.{page_size}
use Rattle.h41_pages.specs.PageMap.{PageImage, IsHeldImage, is_image}
use Rattle.h41_pages.specs.Images.{image_bytes, first_words, words_in, read_refusal}
use Rattle.h41_pages.proofs.RoundTrip.{read_back, bytes_count}
use Rattle.h41_pages.proofs.laws.image_round_trip.Goals as goal

is_whole : (words : List ℕ) → is_image words ≡ true → length words ≡ page_size
is_whole words image = grind (arith, common_steps)

same_words : (words : List ℕ) → length words ≡ page_size → words_in (image_bytes words) ≡ words
same_words words whole = ap (first_words (image_bytes words)) (sym whole) ∙ read_back words

pub returns-clause-words : goal.returns-clause-words
returns-clause-words c = λ words image. same_words words (is_whole words image)

read_again : (words : List ℕ) → is_image words ≡ true → read_refusal (image_bytes words) ≡ None
read_again words image = search (rules, is_whole, common_steps, bytes_count, same_words)

pub returns-clause-read : goal.returns-clause-read
returns-clause-read c = read_again

-- The bytes of a supported image, if there is one.
read_of : (page place : ℕ) (image : Option PageImage) (bytes : List ℕ) → IfSome image (IsHeldImage page place)
    → IfSome image (λ plugged. bytes ≡ image_bytes plugged.words)
    → IfSome image (λ plugged. (read_refusal bytes ≡ None) × (words_in bytes ≡ plugged.words))
read_of page place image bytes held are = grind (arith, read_again, same_words, is_whole)

pub returns-clause-plugged : goal.returns-clause-plugged
returns-clause-plugged c = search (rules, read_of)
