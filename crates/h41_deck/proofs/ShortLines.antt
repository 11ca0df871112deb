-- How a line that opens no block is answered, and what the first line of a block is.
use Rattle.std.proofs.Common.{◌≡◌, ℕ, true, List, [], ◌++◌, Option, Some, None, Result, Ok, Err, ap, refl, subst, ◌∙◌}
use Rattle.std.proofs.KnownBytes.{Appends-nil}
use Rattle.std.specs.Io.KnownBytes.{Appends}
use Rattle.h41_commands.proofs.FirstLines.{block_fault, first_block}
use Rattle.h41_commands.specs.private.BlockReading.{ReadsBlock}
use Rattle.h41_commands.specs.Commands.{and_then, command_of}
use Rattle.h41_commands.specs.private.Entries.{what_is_spelled}
use Rattle.h41_commands.specs.FirstLines.{opens_block}
use Rattle.h41_commands.specs.private.ItemReading.{ReadsFirst, ReadsNext}
use Rattle.h41_commands.specs.declared.fault.ItemFault.{ItemFault}
use Rattle.h41_commands.specs.declared.item.Item.{Item}
use Rattle.h41_commands.specs.declared.line.LineKind.{LineKind}
use Rattle.h41_ends.specs.InputLines.{line_in}
use Rattle.h41_ends.specs.declared.fault.LineReadFault.{LineReadFault}
use Rattle.h41_ends.specs.declared.input_lines.InputLines.{InputLines}
use Rattle.h41_commands.specs.Items.{line_spelled}
use Rattle.h41_commands.specs.declared.commands.Command.{Command}
use Rattle.h41_commands.specs.declared.commands.Command.TheVariants as commands
use Rattle.h41_commands.specs.declared.commands.FirstWord.TheVariants.{Opening}
use Rattle.h41_commands.specs.declared.commands.View.TheVariants as views
use Rattle.h41_commands.specs.declared.line.LineKind.TheVariants.{Named}
use Rattle.h41_lines.specs.Words.{words_of}
use Rattle.h41_debug.specs.Bench.{BenchState}
use Rattle.h41_debug.specs.Positions.{position_text}
use Rattle.h41_ends.specs.Ends.{AppendsPart}
use Rattle.h41_deck.specs.Answers.{says}
use Rattle.h41_deck.specs.Views.{line_of}
use Rattle.h41_deck.specs.private.Writing.{RepliesInPart, SaysText}
use Rattle.h41_commands.specs.declared.refusal.LineRefusal.{LineRefusal}
use Rattle.h41_refusals.specs.declared.refusal.Refusal.TheVariants.{Line}
use Rattle.h41_deck.proofs.Commanded.{part_longer}

-- A line by what it specifies.
module _ (line : List ℕ) (read : Result Command LineRefusal)
    (spelled : line_spelled line ≡ and_then read (λ command. Ok (command, []))) where
  pub command_spelled : (command : Command) → read ≡ Ok command → line_spelled line ≡ Ok (command, [])
  command_spelled command is = spelled ∙ ap (λ of. and_then of (λ command. Ok (command, []))) is

  pub refusal_spelled : (why : LineRefusal) → read ≡ Err why → line_spelled line ≡ Err why
  refusal_spelled why is = spelled ∙ ap (λ of. and_then of (λ command. Ok (command, []))) is

-- Lines that are refused.
pub refused_said : (why : LineRefusal) (s : BenchState) (old : Option (List ℕ)) → SaysText (Err why) s s old old (Some (Line why))
refused_said why s old = record { text = []; reply = (refl, refl); written = Appends-nil old }

-- The position, written without an allocation.
pub position_said : (s : BenchState) (values text : List ℕ) (old new : Option (List ℕ)) → text ≡ position_text s
    → Appends old new (line_of text) → SaysText (Ok (commands.Show views.Position, values)) s s old new None
position_said s values text old new is written = record {
  text = line_of (position_text s);
  reply = (refl, Ok (line_of (position_text s)), refl, refl);
  written = subst (λ (of : List ℕ). Appends old new (line_of of)) is written;
}

pub position_part : (s : BenchState) (values text : List ℕ) (old new : Option (List ℕ)) → text ≡ position_text s
    → AppendsPart old new (line_of text) → RepliesInPart (Ok (commands.Show views.Position, values)) s s old new
position_part s values text old new is part = record {
  text = line_of (position_text s) ++ [];
  printed_until = (says (line_of (position_text s)), (refl, Ok (line_of (position_text s)), refl, refl), refl);
  written = part_longer old new (line_of (position_text s)) [] (subst (λ (of : List ℕ). AppendsPart old new (line_of of)) is part);
}

-- A block by the kind of its first line.
module _ (before mid after : Option (List ℕ)) (old first_at new : InputLines) where
  pub block_next : (kind : LineKind) → opens_block kind ≡ true
      → ReadsFirst {E = LineReadFault} (Ok (Some kind)) before mid old first_at → (item : Item)
      → ReadsBlock {E = ItemFault} (Ok item) (command_of (words_of (line_in first_at))) mid after first_at new
      → ReadsNext (Ok (Some (what_is_spelled item))) before after old new
  block_next (Named (Opening kind)) opens first item block = first_block before mid after old first_at new kind first item block
  block_next kind opens first item block = cc

  pub block_failed : (kind : LineKind) → opens_block kind ≡ true
      → ReadsFirst {E = LineReadFault} (Ok (Some kind)) before mid old first_at → (why : ItemFault)
      → ReadsBlock (Err why) (command_of (words_of (line_in first_at))) mid after first_at new
      → ReadsNext (Err why) before after old new
  block_failed (Named (Opening kind)) opens first why block = block_fault before mid after old first_at new kind first why block
  block_failed kind opens first why block = cc
