-- What was written before each read, while the lines of an item are read.
use Rattle.std.proofs.Common.{◌≡◌, ℕ, true, false, List, [], ◌∷◌, ◌++◌, Option, Some, None, Result, Ok, Err, refl, sym, subst}
use Rattle.std.specs.Io.KnownBytes.{Keeps}
use Rattle.h41_ends.specs.HeardLines.{AreNone, Hears}
use Rattle.h41_ends.specs.InputLines.{line_in}
use Rattle.h41_ends.specs.ReadEvents.{ReadEvent}
use Rattle.h41_ends.specs.declared.fault.LineReadFault.{LineReadFault}
use Rattle.h41_ends.specs.declared.input_lines.InputLines.{InputLines}
use Rattle.h41_ends.proofs.HeardReads.{hears_as, hears_both, reads_of}
use Rattle.h41_commands.specs.private.BlockReading.{HaveNoEnd, HearsBlock}
use Rattle.h41_commands.specs.private.Entries.{what_is_spelled}
use Rattle.h41_commands.specs.private.ItemReading.{HearsFirst, HearsNext, ReadsFirst, SpellNoneEnded, SpellNothing}
use Rattle.h41_commands.specs.Commands.{command_of, is_opening}
use Rattle.h41_commands.specs.DeckLines.{is_long, is_skipped}
use Rattle.h41_commands.specs.Faults.{of_line}
use Rattle.h41_commands.specs.FirstLines.{kind_by_words, opens_block}
use Rattle.h41_commands.specs.Items.{line_spelled}
use Rattle.h41_commands.specs.declared.commands.BlockKind.{BlockKind}
use Rattle.h41_commands.specs.declared.commands.FirstWord.TheVariants.{Opening}
use Rattle.h41_commands.specs.declared.fault.ItemFault.{ItemFault}
use Rattle.h41_commands.specs.declared.item.Item.{Item}
use Rattle.h41_commands.specs.declared.line.LineKind.{LineKind}
use Rattle.h41_commands.specs.declared.line.LineKind.TheVariants.{Named}
use Rattle.h41_commands.proofs.FirstLines.{named, opening_words, spells}
use Rattle.h41_commands.proofs.ItemLines.{endless_still, fault_before, fault_inside, nothing_still, spells_block, spells_none, spells_open}
use Rattle.h41_lines.specs.Words.{words_of}

-- One more call that reads lines which spell nothing, or which contain no `end`.
nothing_on : (told : List (List ℕ)) → SpellNothing told → (lines : List (List ℕ)) → AreNone lines → SpellNothing (told ++ lines)
nothing_on told nothing lines none =
    subst (λ (more : List (List ℕ)). SpellNothing (told ++ more)) (sym none) (nothing_still told nothing)

endless_on : (told : List (List ℕ)) → HaveNoEnd told → (lines : List (List ℕ)) → AreNone lines → HaveNoEnd (told ++ lines)
endless_on told endless lines none =
    subst (λ (more : List (List ℕ)). HaveNoEnd (told ++ more)) (sym none) (endless_still told endless)

module _ (first second third : Option (List ReadEvent)) (written between : Option (List ℕ)) (old mid new : InputLines)
    (told more : List (List ℕ)) (kept : Keeps written between) where
  pub hears_skipped : SpellNothing told → Hears SpellNothing first second written old mid told
      → Hears AreNone second third between mid new more → Hears SpellNothing first third written old new (told ++ more)
  hears_skipped nothing p q =
      hears_both SpellNothing AreNone SpellNothing written between told (λ lines is. is) (nothing_on told nothing) kept first second third
      old mid new more p q

  pub hears_inside : HaveNoEnd told → Hears HaveNoEnd first second written old mid told
      → Hears AreNone second third between mid new more → Hears HaveNoEnd first third written old new (told ++ more)
  hears_inside endless p q =
      hears_both HaveNoEnd AreNone HaveNoEnd written between told (λ lines is. is) (endless_on told endless) kept first second third
      old mid new more p q

-- The first line of an item. The source that it was read from does not matter.
abbrev first_of : {E : Type 0} {result : Result (Option LineKind) E} {before after : Option (List ReadEvent)}
    {written : Option (List ℕ)} {old new : InputLines} → HearsFirst result before after written old new
    → ReadsFirst result None None old new
first_of first = record { skipped = first.skipped; nothing = first.nothing; reads = reads_of first.hears; kind = first.kind }

module _ (before after : Option (List ReadEvent)) (written : Option (List ℕ)) (old new : InputLines) where
  pub heard_none : HearsFirst {E = LineReadFault} (Ok None) before after written old new
      → HearsNext (Ok None) before after written old new
  heard_none first = record {
    lines = first.skipped ++ [];
    hears = hears_as SpellNothing SpellNoneEnded spells_none before after written old new (first.skipped ++ []) first.hears;
    spelled = λ more may. nothing_still first.skipped first.nothing more;
  }

  pub heard_fault : (why : LineReadFault) → HearsFirst (Err why) before after written old new
      → HearsNext (Err (of_line why)) before after written old new
  heard_fault why first = record {
    lines = first.skipped ++ [];
    hears = hears_as SpellNothing SpellNoneEnded spells_none before after written old new (first.skipped ++ []) first.hears;
    spelled = fault_before why new.at_end (first.skipped ++ []) (nothing_still first.skipped first.nothing);
  }

  pub heard_line : (kind : LineKind) → HearsFirst {E = LineReadFault} (Ok (Some kind)) before after written old new
      → opens_block kind ≡ false → HearsNext (Ok (Some (line_spelled (line_in new)))) before after written old new
  heard_line kind first shut = record {
    lines = first.skipped ++ line_in new ∷ [];
    hears = hears_as SpellNothing SpellNoneEnded spells_none before after written old new (first.skipped ++ line_in new ∷ []) first.hears;
    spelled = spells None None old new kind (first_of first) shut;
  }

-- A block, and a block that was not read to its end.
module _ (before mid after : Option (List ReadEvent)) (written between : Option (List ℕ)) (old first_at new : InputLines) (kind : BlockKind)
    (kept : Keeps written between)
    (first : HearsFirst {E = LineReadFault} (Ok (Some (Named (Opening kind)))) before mid written old first_at) where
  parts : (is_long (line_in first_at) ≡ false) × (is_skipped (line_in first_at) ≡ false)
      × (kind_by_words (words_of (line_in first_at)) ≡ Some (Named (Opening kind)))
  parts = named (line_in first_at) (Opening kind) first.kind

  opens : is_opening (words_of (line_in first_at)) ≡ true
  opens = opening_words (words_of (line_in first_at)) kind parts.2

  inside_heard : (inside : List (List ℕ)) → Hears HaveNoEnd mid after between first_at new inside
      → Hears SpellNoneEnded before after written old new ((first.skipped ++ line_in first_at ∷ []) ++ inside)
  inside_heard inside hears =
      hears_both SpellNothing HaveNoEnd SpellNoneEnded written between (first.skipped ++ line_in first_at ∷ []) spells_none
      (λ lines endless. spells_open first.skipped lines (line_in first_at) first.nothing parts.0 parts.1 opens endless) kept
      before mid after old first_at new inside first.hears hears

  pub heard_block : (item : Item)
      → HearsBlock {E = ItemFault} (Ok item) (command_of (words_of (line_in first_at))) mid after between first_at new
      → HearsNext (Ok (Some (what_is_spelled item))) before after written old new
  heard_block item block = record {
    lines = (first.skipped ++ line_in first_at ∷ []) ++ block.lines;
    hears = inside_heard block.lines block.hears;
    spelled = spells_block new.at_end first.skipped block.lines (line_in first_at) _ _ first.nothing parts.0 parts.1 opens refl
        block.spelled;
  }

  pub heard_block_fault : (why : ItemFault)
      → HearsBlock (Err why) (command_of (words_of (line_in first_at))) mid after between first_at new
      → HearsNext (Err why) before after written old new
  heard_block_fault why block = record {
    lines = (first.skipped ++ line_in first_at ∷ []) ++ block.lines;
    hears = inside_heard block.lines block.hears;
    spelled = fault_inside why new.at_end first.skipped block.lines (line_in first_at) first.nothing parts.0 parts.1 opens block.spelled;
  }
