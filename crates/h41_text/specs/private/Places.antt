-- The indices of names by their hashes, which the code uses to find names fast. They are defined
-- only to connect the code with `with_text`.
use Rattle.std.specs.Prelude.{◌≡◌, ℕ, ◌<◌, false, length, slice_index, slice_index_or, All, List}
use Rattle.std.specs.Prelude.{Some, None}
use Rattle.std.specs.Str.{bytes_eq}
use Rattle.h41_lines.specs.private.Hashes.{word_hash}
use Rattle.h41_text.specs.private.TextParts.{with_text}

-- The hash of a name.
abbrev pub name_hash : List ℕ → ℕ
name_hash name = word_hash 18352 6855 name

-- The number of hashes.
abbrev pub place_count : ℕ
place_count = 256

-- The item at the index of a name's hash.
abbrev pub at_place : {A : Type 0} → List A → List ℕ → List ℕ → A → A
at_place items places name other = slice_index_or items (slice_index places (name_hash name)) other

-- Each item is found by its text, and if the item at a text's hash has another text, no item has
-- this one.
pub record IsPlaced {A : Type 0} (text_of : A → List ℕ)
    (items : List A) (places : List ℕ) : Type 0 where
  pub count : length places ≡ place_count
  pub within : (k : ℕ) → k < length places → slice_index places k < length items
  pub found : All (λ item. with_text text_of items (text_of item) ≡ Some item) items
  pub missed : (name : List ℕ) (other : A)
      → bytes_eq (text_of (at_place items places name other)) name ≡ false
      → with_text text_of items name ≡ None
