-- An image, from only those of its bytes that are kept.
use Rattle.std.proofs.Common.{inl, inr, ◌≡◌, ℕ, zero, suc, Bool, true, false, not, cond, List, [], ◌∷◌, ◌++◌, length, length-take, take}
use Rattle.std.proofs.Common.{◌⊎◌, ◌+◌, ◌≤◌, ◌&&◌, if◌then◌else◌, flat_map, is_ok, Option, Some, None, Result, Ok, Err, refl, append-nil}
use Rattle.std.proofs.Common.{sym, ap, ◌∙◌, arith}
use Rattle.std.specs.List.{list_all}
use Rattle.std.specs.Result.{result_unwrap_or}
use Rattle.std.proofs.Math.Seq.{take-append-add}
use Rattle.std.proofs.lemmas.Bool.{cases_lt, ne_eqb}
use Rattle.std.proofs.lemmas.List.{take_all}
use Rattle.std.proofs.lemmas.List.Elements.{filter-append}
use Rattle.std.proofs.lemmas.List.Folds.{list_all-append}
use Rattle.std.proofs.lemmas.Grind.{flat_map-append}
use Rattle.h41_pages.specs.Images.{all_fit, image_size, words_in}
use Rattle.h41_commands.specs.Blocks.{block_bytes, bytes_values, image_content, line_bytes, said_lines, whole_said}
use Rattle.h41_commands.specs.private.TakenBlocks.{kept_bytes, kept_of, most_kept}
use Rattle.h41_commands.specs.private.Contents.{KeepsMore, image_in}
use Rattle.h41_commands.specs.DeckLines.{is_skipped}
use Rattle.h41_commands.specs.declared.blocks.image_bytes.ImageBytes.{ImageBytes}
use Rattle.h41_commands.specs.declared.commands.BlockKind.{BlockKind}
use Rattle.h41_commands.specs.declared.commands.BlockKind.TheVariants.{Page, Program}
use Rattle.h41_commands.specs.declared.commands.PageKind.TheVariants.{Words, Image, Asm}
use Rattle.h41_commands.specs.declared.refusal.LineRefusal.{LineRefusal}
use Rattle.h41_commands.specs.declared.refusal.LineRefusal.TheVariants.{BadImage, BadNumber}

no_image : (bytes : List ℕ) → (length bytes ≡ image_size → ⊥) → image_content (Ok bytes) ≡ Err BadImage
no_image bytes other =
    ap (λ (b : Bool). if b && all_fit bytes then Ok (words_in bytes) else Err BadImage) (ne_eqb (length bytes) image_size other)

kept_image : (bytes : List ℕ) → image_content (Ok (take most_kept bytes)) ≡ image_content (Ok bytes)
kept_image bytes = elim (cases_lt most_kept (length bytes)) [
  | inl long ↦
      no_image (take most_kept bytes) (λ e. absurd (omega (arith, e, long, length-take most_kept bytes)))
      ∙ sym (no_image bytes (λ e. absurd (omega (arith, e, long))))
  | inr short ↦ ap (λ (all : List ℕ). image_content (Ok all)) (take_all most_kept bytes (omega (arith, short)))
]

-- The values of a block are the same from what it keeps.
pub whole_kept : (kind : Option BlockKind) (said : Result (List ℕ) LineRefusal) → whole_said kind (kept_of kind said) ≡ whole_said kind said
whole_kept None said = refl
whole_kept (Some (Page Words)) said = refl
whole_kept (Some (Page Image)) (Ok bytes) = kept_image bytes
whole_kept (Some (Page Image)) (Err refusal) = refl
whole_kept (Some (Page Asm)) said = refl
whole_kept (Some (Program kind)) said = refl

-- One more line of bytes.
abbrev more_of : Result (List ℕ) LineRefusal → List ℕ → Result (List ℕ) LineRefusal
more_of (Ok bytes) more = Ok (bytes ++ more)
more_of (Err refusal) more = Err refusal

abbrev is_row : List ℕ → Bool
is_row line = is_ok (line_bytes line)

abbrev row_bytes : List ℕ → List ℕ
row_bytes line = result_unwrap_or (line_bytes line) []

last_row : (all : Bool) (before bytes : List ℕ)
    → (if all && true then Ok (before ++ (bytes ++ [])) else Err BadNumber) ≡ more_of (if all then Ok before else Err BadNumber) bytes
last_row true before bytes = ap (λ (rest : List ℕ). Ok (before ++ rest)) (append-nil bytes)
last_row false before bytes = refl

values-push : (said : List (List ℕ)) (line bytes : List ℕ) → line_bytes line ≡ Ok bytes
    → bytes_values (said ++ line ∷ []) ≡ more_of (bytes_values said) bytes
values-push said line bytes is =
    (λ i. if list_all-append is_row said (line ∷ []) i then Ok (flat_map-append row_bytes said (line ∷ []) i) else Err BadNumber)
    ∙ (λ i. if list_all is_row said && (is_ok (is i) && true) then Ok (flat_map row_bytes said ++ (result_unwrap_or (is i) [] ++ []))
    else Err BadNumber)
    ∙ last_row (list_all is_row said) (flat_map row_bytes said) bytes

block_bytes-push : (lines : List (List ℕ)) (line bytes : List ℕ) → is_skipped line ≡ false → line_bytes line ≡ Ok bytes
    → block_bytes (lines ++ line ∷ []) ≡ more_of (block_bytes lines) bytes
block_bytes-push lines line bytes says is =
    ap bytes_values
    (filter-append (λ (one : List ℕ). not (is_skipped one)) lines (line ∷ [])
    ∙ ap (λ (b : Bool). said_lines lines ++ cond (not b) (line ∷ []) []) says)
    ∙ values-push (said_lines lines) line bytes is

take_more : (n : ℕ) (bytes more : List ℕ) → take n (take n bytes ++ more) ≡ take n (bytes ++ more)
take_more zero bytes more = refl
take_more (suc n) [] more = refl
take_more (suc n) (byte ∷ bytes) more = ap (λ (rest : List ℕ). byte ∷ rest) (take_more n bytes more)

kept-more : (said : Result (List ℕ) LineRefusal) (more : List ℕ)
    → kept_bytes (more_of (kept_bytes said) more) ≡ kept_bytes (more_of said more)
kept-more (Ok bytes) more = ap (λ (kept : List ℕ). Ok kept) (take_more most_kept bytes more)
kept-more (Err refusal) more = refl

-- Whatever was kept, one line more is now kept.
pub takes_row : (lines : List (List ℕ)) (line bytes : List ℕ) (old new : Result (List ℕ) LineRefusal) → is_skipped line ≡ false
    → line_bytes line ≡ Ok bytes → new ≡ kept_bytes (more_of old bytes) → old ≡ kept_bytes (block_bytes lines)
    → new ≡ kept_bytes (block_bytes (lines ++ line ∷ []))
takes_row lines line bytes old new says is more e =
    more ∙ ap (λ (said : Result (List ℕ) LineRefusal). kept_bytes (more_of said bytes)) e ∙ kept-more (block_bytes lines) bytes
    ∙ ap kept_bytes (sym (block_bytes-push lines line bytes says is))

pub keeps_row : (old new : ImageBytes) (bytes : List ℕ) → old.is_wrong ≡ false → KeepsMore old bytes new
    → image_in new ≡ kept_bytes (more_of (image_in old) bytes)
keeps_row old new bytes right more =
    (λ i. if (more.same ∙ right) i then Err BadNumber else Ok new.bytes.items) ∙ ap (λ (kept : List ℕ). Ok kept) more.bytes
    ∙ sym (ap (λ (b : Bool). kept_bytes (more_of (if b then Err BadNumber else Ok old.bytes.items) bytes)) right)

pub stays_wrong : (old : ImageBytes) (bytes : List ℕ) → old.is_wrong ≡ true → image_in old ≡ kept_bytes (more_of (image_in old) bytes)
stays_wrong old bytes wrong =
    ap (λ (b : Bool). if b then Err BadNumber else Ok old.bytes.items) wrong
    ∙ sym (ap (λ (b : Bool). kept_bytes (more_of (if b then Err BadNumber else Ok old.bytes.items) bytes)) wrong)

-- More bytes after those that are kept, as far as there is room.
pub fits_more : (kept more : List ℕ) (room count : ℕ) → length kept + room ≡ most_kept
    → (count ≡ room) ⊎ ((count ≡ length more) × (length more ≤ room)) → kept ++ take count more ≡ take most_kept (kept ++ more)
fits_more kept more room count whole (inl full) =
    ap (λ (k : ℕ). kept ++ take k more) full ∙ sym (take-append-add kept more room) ∙ ap (λ (k : ℕ). take k (kept ++ more)) whole
fits_more kept more room count whole (inr (all, short)) =
    ap (λ (k : ℕ). kept ++ take k more) all
    ∙ ap (λ (rest : List ℕ). kept ++ rest) (take_all (length more) more (omega arith) ∙ sym (take_all room more short))
    ∙ sym (take-append-add kept more room) ∙ ap (λ (k : ℕ). take k (kept ++ more)) whole
