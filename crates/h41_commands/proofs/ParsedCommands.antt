-- The command of a line is never refused as an open block.
use Rattle.std.proofs.Common.{◌≡◌, ℕ, Bool, true, false, if◌then◌else◌, List, [], ◌∷◌, Option, Some, None, Result, Ok, Err, bytes_eq, codes}
use Rattle.std.proofs.Common.{refl, drop, length}
use Rattle.std.specs.Option.{option_map_or}
use Rattle.h41_breakpoints.specs.declared.location.Location.{Location}
use Rattle.h41_keys.specs.Keyboard.{key_named}
use Rattle.h41_commands.specs.Commands
use Rattle.std.specs.Prelude.{◌==◌}
use Rattle.h41_commands.specs.Commands.{bank_number, first_bank, is_bank_word, plug_at_bank}
use Rattle.h41_commands.specs.Commands.{and_then, command_by, command_of, counted_command, key_of, keys_of, kind_of_word}
use Rattle.h41_commands.specs.Commands.{list_command, load_command, location_by, named_in, opening_command}
use Rattle.h41_commands.specs.Commands.{plain_of_word, plug_at, plug_command, read_plain, view_named, view_of, views_by_name}
use Rattle.h41_commands.specs.Commands.{most_position, most_registers, most_steps, most_words}
use Rattle.h41_commands.specs.private.ItemReading.{is_unended}
use Rattle.h41_commands.specs.Numbers.{count_up_to, hexadecimal, number_up_to}
use Rattle.h41_commands.specs.declared.commands.BlockKind.{BlockKind}
use Rattle.h41_commands.specs.declared.commands.BlockKind.TheVariants.{Page, Program}
use Rattle.h41_commands.specs.declared.commands.Command.{Command}
use Rattle.h41_commands.specs.declared.commands.PageKind.{PageKind}
use Rattle.h41_commands.specs.declared.commands.PlainKind.{PlainKind}
use Rattle.h41_commands.specs.declared.commands.PlainKind.TheVariants as plain
use Rattle.h41_commands.specs.declared.commands.ProgramKind.{ProgramKind}
use Rattle.h41_commands.specs.declared.refusal.LineRefusal.{LineRefusal}
use Rattle.h41_commands.specs.declared.refusal.LineRefusal.TheVariants.{BadCommand, BadNumber}

module _ {A B : Type 0} where
  shut_then : (value : Result A LineRefusal) (next : A → Result B LineRefusal) → is_unended value ≡ false
      → ((given : A) → is_unended (next given) ≡ false) → is_unended (and_then value next) ≡ false
  shut_then (Ok given) next first later = later given
  shut_then (Err why) next first later = first

shut_number : {A : Type 0} (good : Bool) (value : A) → is_unended (if good then Ok value else Err BadNumber) ≡ false
shut_number true value = refl
shut_number false value = refl

shut_choice : {A : Type 0} (good : Bool) (value : Result A LineRefusal) → is_unended value ≡ false
    → is_unended (if good then value else Err BadCommand) ≡ false
shut_choice true value shut = shut
shut_choice false value shut = refl

shut_either : {A : Type 0} (good : Bool) (value other : Result A LineRefusal) → is_unended value ≡ false → is_unended other ≡ false
    → is_unended (if good then value else other) ≡ false
shut_either true value other shut others = shut
shut_either false value other shut others = others

shut_named : {A : Type 0} (found : Option A) → is_unended (option_map_or (λ value. Ok value) found (Err BadCommand)) ≡ false
shut_named None = refl
shut_named (Some value) = refl

shut_bank : (bank : List ℕ) → is_unended (bank_number bank) ≡ false
shut_bank bank = shut_either (length bank == 2) (number_up_to 9 10 (drop 1 bank)) (Err BadNumber) (shut_number _ _) refl

shut_plug_at : (kind : PageKind) (page : List ℕ) (bank : ℕ) (writable : Bool) → is_unended (plug_at kind page bank writable) ≡ false
shut_plug_at kind page bank writable = shut_then (hexadecimal 1 page) _ (shut_number _ _) (λ given. refl)

shut_plug_at_bank : (kind : PageKind) (page bank : List ℕ) (writable : Bool)
    → is_unended (plug_at_bank kind page bank writable) ≡ false
shut_plug_at_bank kind page bank writable =
    shut_choice (is_bank_word bank) _
    (shut_then (bank_number bank) _ (shut_bank bank) (λ given. shut_plug_at kind page given writable))

shut_plug : (kind : PageKind) (operands : List (List ℕ)) → is_unended (plug_command kind operands) ≡ false
shut_plug kind [] = refl
shut_plug kind (page ∷ []) = shut_plug_at kind page first_bank false
shut_plug kind (page ∷ option ∷ []) =
    shut_either (bytes_eq option (codes "rw")) _ _ (shut_plug_at kind page first_bank true)
    (shut_plug_at_bank kind page option false)
shut_plug kind (page ∷ bank ∷ option ∷ []) =
    shut_choice (bytes_eq option (codes "rw")) _ (shut_plug_at_bank kind page bank true)
shut_plug kind (page ∷ bank ∷ option ∷ other ∷ others) = refl

shut_load : (kind : ProgramKind) (operands : List (List ℕ)) → is_unended (load_command kind operands) ≡ false
shut_load kind [] = refl
shut_load kind (word ∷ words) = refl

shut_opening : (kind : BlockKind) (operands : List (List ℕ)) → is_unended (opening_command kind operands) ≡ false
shut_opening (Page kind) operands = shut_plug kind operands
shut_opening (Program kind) operands = shut_load kind operands

shut_counted : (command : ℕ → Command) (operands : List (List ℕ)) → is_unended (counted_command command operands) ≡ false
shut_counted command [] = refl
shut_counted command (count ∷ []) = shut_then (number_up_to most_steps 10 count) _ (shut_number _ _) (λ given. refl)
shut_counted command (count ∷ other ∷ others) = refl

shut_location : (kind number : List ℕ) → is_unended (location_by kind number) ≡ false
shut_location kind number = shut_either (bytes_eq kind (codes "w")) _ _ (shut_then (hexadecimal 4 number) _ (shut_number _ _) (λ given.
    refl))
    (shut_either (bytes_eq kind (codes "l")) _ _ (shut_then (number_up_to most_position 10 number) _ (shut_number _ _) (λ given. refl))
    (shut_choice (bytes_eq kind (codes "p")) _ (shut_then (hexadecimal 4 number) _ (shut_number _ _) (λ given. refl))))

shut_placed : (command : Location → Command) (operands : List (List ℕ)) → is_unended (Commands.placed_command command operands) ≡ false
shut_placed command [] = refl
shut_placed command (kind ∷ []) = refl
shut_placed command (kind ∷ number ∷ []) = shut_then (location_by kind number) _ (shut_location kind number) (λ given. refl)
shut_placed command (kind ∷ number ∷ other ∷ others) = refl

shut_keys : (names : List (List ℕ)) → is_unended (keys_of names) ≡ false
shut_keys [] = refl
shut_keys (name ∷ names) =
    shut_then (key_of name) _ (shut_named (key_named name)) (λ key. shut_then (keys_of names) _ (shut_keys names) (λ keys. refl))

shut_key : (operands : List (List ℕ)) → is_unended (Commands.key_command operands) ≡ false
shut_key [] = refl
shut_key (name ∷ names) = shut_then (keys_of (name ∷ names)) _ (shut_keys (name ∷ names)) (λ keys. refl)

shut_list : (operands : List (List ℕ)) → is_unended (list_command operands) ≡ false
shut_list [] = refl
shut_list (address ∷ []) = refl
shut_list (address ∷ count ∷ []) =
    shut_then (hexadecimal 4 address) _ (shut_number _ _)
    (λ given. shut_then (count_up_to most_words count) _ (shut_number _ _) (λ counted. refl))
shut_list (address ∷ count ∷ other ∷ others) = refl

shut_view_named : (what : List ℕ) → is_unended (view_named what) ≡ false
unfolding view_named
shut_view_named what = shut_named (named_in views_by_name what)

shut_view : (operands : List (List ℕ)) → is_unended (view_of operands) ≡ false
shut_view [] = refl
shut_view (what ∷ []) = shut_view_named what
shut_view (what ∷ address ∷ []) =
    shut_either (bytes_eq what (codes "ram")) _ _ (shut_then (hexadecimal 3 address) _ (shut_number _ _) (λ given. refl))
    (shut_choice (bytes_eq what (codes "image")) _ (shut_then (hexadecimal 1 address) _ (shut_number _ _) (λ given. refl)))
shut_view (what ∷ page ∷ bank ∷ []) =
    shut_choice (bytes_eq what (codes "image")) _
    (shut_choice (is_bank_word bank) _
    (shut_then (bank_number bank) _ (shut_bank bank)
    (λ given. shut_then (hexadecimal 1 page) _ (shut_number _ _) (λ number. refl))))
shut_view (what ∷ page ∷ bank ∷ other ∷ others) = refl

shut_show : (operands : List (List ℕ)) → is_unended (Commands.show_command operands) ≡ false
shut_show operands = shut_then (view_of operands) _ (shut_view operands) (λ given. refl)

shut_unplug : (operands : List (List ℕ)) → is_unended (Commands.unplug_command operands) ≡ false
shut_unplug [] = refl
shut_unplug (page ∷ []) = shut_then (hexadecimal 1 page) _ (shut_number _ _) (λ given. refl)
shut_unplug (page ∷ other ∷ others) = refl

shut_size : (operands : List (List ℕ)) → is_unended (Commands.size_command operands) ≡ false
shut_size [] = refl
shut_size (count ∷ []) = shut_then (number_up_to most_registers 10 count) _ (shut_number _ _) (λ given. refl)
shut_size (count ∷ other ∷ others) = refl

shut_reset : (operands : List (List ℕ)) → is_unended (Commands.reset_command operands) ≡ false
shut_reset [] = refl
shut_reset (word ∷ words) = refl

shut_call : (operands : List (List ℕ)) → is_unended (Commands.call_command operands) ≡ false
shut_call [] = refl
shut_call (address ∷ []) = shut_then (hexadecimal 4 address) _ (shut_number _ _) (λ given. refl)
shut_call (address ∷ other ∷ others) = refl

shut_step : (operands : List (List ℕ)) → is_unended (Commands.step_command operands) ≡ false
shut_step [] = refl
shut_step (count ∷ []) = shut_then (number_up_to most_steps 10 count) _ (shut_number _ _) (λ given. refl)
shut_step (count ∷ other ∷ others) = refl

shut_plain : (kind : PlainKind) (operands : List (List ℕ)) → is_unended (read_plain kind operands) ≡ false
shut_plain plain.Unplug operands = shut_unplug operands
shut_plain plain.Size operands = shut_size operands
shut_plain plain.Reset operands = shut_reset operands
shut_plain plain.Call operands = shut_call operands
shut_plain plain.Step operands = shut_step operands
shut_plain plain.Run operands = shut_counted _ operands
shut_plain plain.Trace operands = shut_counted _ operands
shut_plain plain.Break operands = shut_placed _ operands
shut_plain plain.Unbreak operands = shut_placed _ operands
shut_plain plain.List operands = shut_list operands
shut_plain plain.Show operands = shut_show operands
shut_plain plain.Key operands = shut_key operands

shut_by_name : (kind : Option PlainKind) (operands : List (List ℕ))
    → is_unended (option_map_or (λ kind. read_plain kind operands) kind (Err BadCommand)) ≡ false
shut_by_name None operands = refl
shut_by_name (Some kind) operands = shut_plain kind operands

shut_by : (kind : Option BlockKind) (name : List ℕ) (operands : List (List ℕ)) → is_unended (command_by kind name operands) ≡ false
shut_by None name operands = shut_by_name (plain_of_word name) operands
shut_by (Some kind) name operands = shut_opening kind operands

pub never_unended : (words : List (List ℕ)) → is_unended (command_of words) ≡ false
never_unended [] = refl
never_unended (name ∷ operands) = shut_by (kind_of_word name) name operands
