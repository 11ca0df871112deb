-- A block whose end was read.
use Rattle.std.proofs.Common.{◌≡◌, ◌∙◌, ℕ, Bool, true, false, not, if◌then◌else◌, List, [], Option, Some, None, Ok, Err, refl, ap}
use Rattle.std.proofs.Common.{◌||◌, flat_map, is_ok, length, map, nat_lt}
use Rattle.std.specs.List.{list_all, list_any}
use Rattle.std.specs.Result.{result_unwrap_or}
use Rattle.std.specs.Str.Parse.{digits_value}
use Rattle.h41_lines.specs.Numbers.{is_hexadecimal}
use Rattle.h41_pages.specs.Addresses.{last_word, page_size}
use Rattle.h41_pages.specs.Images.{is_image_bytes, words_in}
use Rattle.h41_commands.specs.Blocks.{block_words, image_content, line_bytes, said_by, said_lines, short_lines, unless_long, whole_said}
use Rattle.h41_commands.specs.private.TakenBlocks.{HasTaken, TakenBlock, judgement}
use Rattle.h41_commands.specs.Items.{is_open, with_values}
use Rattle.h41_commands.specs.declared.commands.BlockKind.{BlockKind}
use Rattle.h41_commands.specs.declared.commands.BlockKind.TheVariants.{Page, Program}
use Rattle.h41_commands.specs.declared.commands.Command.{Command}
use Rattle.h41_commands.specs.declared.commands.PageKind.TheVariants.{Words, Image, Asm}
use Rattle.h41_commands.specs.declared.commands.ProgramKind.TheVariants.{Bytes, Text}
use Rattle.h41_commands.specs.declared.refusal.LineRefusal.TheVariants.{BadImage, BadNumber}
use Rattle.h41_commands.proofs.KeptBytes.{whole_kept}

abbrev are_rows : List (List ℕ) → Bool
are_rows lines = list_all (λ line. is_ok (line_bytes line)) (said_lines lines)

abbrev bytes_of : List (List ℕ) → List ℕ
bytes_of lines = flat_map (λ line. result_unwrap_or (line_bytes line) []) (said_lines lines)

module _ (command : Command) where
  shut_words : (hex image : Bool) (values : List ℕ)
      → is_open (with_values (if not hex then Err BadNumber else (if image then Err BadImage else Ok values)) command) ≡ false
  shut_words false image values = refl
  shut_words true true values = refl
  shut_words true false values = refl

  shut_image : (fits : Bool) (words : List ℕ) → is_open (with_values (if fits then Ok words else Err BadImage) command) ≡ false
  shut_image true words = refl
  shut_image false words = refl

  shut_rows : (rows : Bool) (bytes : List ℕ)
      → is_open (with_values (image_content (if rows then Ok bytes else Err BadNumber)) command) ≡ false
  shut_rows true bytes = shut_image (is_image_bytes bytes) (words_in bytes)
  shut_rows false bytes = refl

  shut_bytes : (rows : Bool) (bytes : List ℕ) → is_open (with_values (if rows then Ok bytes else Err BadNumber) command) ≡ false
  shut_bytes true bytes = refl
  shut_bytes false bytes = refl

  pub shut_said : (has_long : Bool) (kind : Option BlockKind) (lines : List (List ℕ))
      → is_open (with_values (unless_long has_long (whole_said kind (said_by kind lines))) command) ≡ false
  shut_said true kind lines = refl
  shut_said false None lines = refl
  shut_said false (Some (Page Words)) lines =
      let words = block_words lines in
      shut_words (list_all (is_hexadecimal 1 3) words)
      (nat_lt page_size (length words) || list_any (λ word. nat_lt last_word (digits_value 16 word)) words) (map (digits_value 16) words)
  shut_said false (Some (Page Image)) lines = shut_rows (are_rows lines) (bytes_of lines)
  shut_said false (Some (Page Asm)) lines = refl
  shut_said false (Some (Program Bytes)) lines = shut_bytes (are_rows lines) (bytes_of lines)
  shut_said false (Some (Program Text)) lines = refl

pub never_open : (block : TakenBlock) (lines : List (List ℕ)) (command : Command) → HasTaken block lines
    → is_open (with_values (judgement block) command) ≡ false
never_open block lines command taken =
    ap (λ said. is_open (with_values (unless_long block.has_long said) command))
    (ap (whole_said block.kind) taken.content ∙ whole_kept block.kind (said_by block.kind (short_lines lines)))
    ∙ shut_said command block.has_long block.kind (short_lines lines)
