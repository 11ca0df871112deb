-- What was read up to the first line of an item, as the next of a deck's items.
use Rattle.std.proofs.Common.{inl, inr, ◌≡◌, ◌⊎◌, ◌≤◌, ℕ, Bool, true, false, if◌then◌else◌, List, [], ◌∷◌, ◌++◌, drop, length, Option, Some}
use Rattle.std.proofs.Common.{None, Result, Ok, Err, IfOk, refl, sym, ap, subst, ◌∙◌}
use Rattle.std.specs.Option.{is_some}
use Rattle.std.proofs.lemmas.Bool.{cond-true, cond-false, eq-eqb, ltb-false, or_left}
use Rattle.h41_ends.specs.InputLines.{line_in}
use Rattle.h41_ends.specs.declared.fault.LineReadFault.{LineReadFault}
use Rattle.h41_ends.specs.declared.input_lines.InputLines.{InputLines}
use Rattle.h41_ends.proofs.InputReading.{reads_both}
use Rattle.h41_commands.specs.private.BlockReading.{ReadsBlock}
use Rattle.h41_commands.specs.Blocks.{block_values}
use Rattle.h41_commands.specs.Commands.{and_then, command_of, is_opening, kind_of, kind_of_word, plain_of_word, read_plain}
use Rattle.h41_commands.specs.DeckLines.{is_long, is_skipped, longest_line}
use Rattle.h41_commands.specs.private.Entries.{what_is_spelled}
use Rattle.h41_commands.specs.Faults.{of_line}
use Rattle.h41_commands.specs.FirstLines.{first_word, kind_by_words, line_kind, opens_block, word_by}
use Rattle.h41_commands.specs.private.ItemReading.{is_unended, ReadsFirst, ReadsNext, Spell, SpellNothing}
use Rattle.h41_commands.specs.Items.{Spelled, is_open, line_spelled, spelled_by, with_values}
use Rattle.h41_commands.specs.declared.commands.BlockKind.{BlockKind}
use Rattle.h41_commands.specs.declared.commands.Command.{Command}
use Rattle.h41_commands.specs.declared.commands.FirstWord.{FirstWord}
use Rattle.h41_commands.specs.declared.commands.FirstWord.TheVariants.{Opening, Plain, Unknown}
use Rattle.h41_commands.specs.declared.commands.PlainKind.{PlainKind}
use Rattle.h41_commands.specs.declared.fault.ItemFault.{ItemFault}
use Rattle.h41_commands.specs.declared.item.Item.{Item}
use Rattle.h41_commands.specs.declared.line.LineKind.{LineKind}
use Rattle.h41_commands.specs.declared.line.LineKind.TheVariants.{Long, Named}
use Rattle.h41_commands.specs.declared.refusal.LineRefusal.{LineRefusal}
use Rattle.h41_commands.specs.declared.refusal.LineRefusal.TheVariants.{BadCommand, LineTooLong}
use Rattle.h41_commands.proofs.ClosedBlocks.{shut_said}
use Rattle.h41_commands.proofs.ParsedCommands.{never_unended}
use Rattle.h41_commands.proofs.ItemLines.{fault_before, fault_inside, nothing_still, skips_more, spells_block, spells_line, spells_long}
use Rattle.h41_lines.specs.Words.{words_of}

-- A line that is not skipped is too long, or has words.
by_words : (long skipped : Bool) (words : List (List ℕ)) (kind : LineKind)
    → (if long then Some Long else (if skipped then None else kind_by_words words)) ≡ Some kind
    → ((long ≡ true) × (kind ≡ Long)) ⊎ ((long ≡ false) × (skipped ≡ false) × (kind_by_words words ≡ Some kind))
by_words true skipped words kind e = let same : Long ≡ kind = cc in inl (refl, sym same)
by_words false true words kind e = cc
by_words false false words kind e = inr (refl, refl, e)

pub says : (line : List ℕ) (kind : LineKind) → line_kind line ≡ Some kind
    → ((is_long line ≡ true) × (kind ≡ Long))
    ⊎ ((is_long line ≡ false) × (is_skipped line ≡ false) × (kind_by_words (words_of line) ≡ Some kind))
says line kind e = by_words (is_long line) (is_skipped line) (words_of line) kind e

-- A line with a first word.
pub named : (line : List ℕ) (word : FirstWord) → line_kind line ≡ Some (Named word)
    → (is_long line ≡ false) × (is_skipped line ≡ false) × (kind_by_words (words_of line) ≡ Some (Named word))
named line word e = elim (says line (Named word) e) [
  | inl long ↦ let never : Named word ≡ Long = long.1 in cc
  | inr short ↦ short
]

-- A line that is skipped.
unsaid : (long skipped : Bool) (words : List (List ℕ)) → (skipped ≡ false → length words ≡ 0 → ⊥)
    → (if long then Some Long else (if skipped then None else kind_by_words words)) ≡ None → (long ≡ false) × (skipped ≡ true)
unsaid true skipped words some e = cc
unsaid false true words some e = (refl, refl)
unsaid false false [] some e = absurd (some refl refl)
unsaid false false (name ∷ operands) some e = cc

no_words : (line : List ℕ) → is_skipped line ≡ false → length (words_of line) ≡ 0 → ⊥
no_words line says none =
    let blank : is_skipped line ≡ true = or_left _ _ (eq-eqb (length (words_of line)) 0 none) in
    let never : true ≡ false = sym blank ∙ says in cc

pub skips_line : (lines : List (List ℕ)) (line : List ℕ) → SpellNothing lines → line_kind line ≡ None → SpellNothing (lines ++ line ∷ [])
skips_line lines line before e =
    let parts = unsaid (is_long line) (is_skipped line) (words_of line) (no_words line) e in
    skips_more lines line before parts.0 parts.1

opening_by : (kind : BlockKind) (own : Option BlockKind) (plain : Option PlainKind) → word_by own plain ≡ Opening kind → own ≡ Some kind
opening_by kind (Some own) plain e = let same : own ≡ kind = cc in ap (λ (of : BlockKind). Some of) same
opening_by kind None (Some other) e = cc
opening_by kind None None e = cc

plain_by : (kind : PlainKind) (own : Option BlockKind) (plain : Option PlainKind) → word_by own plain ≡ Plain kind
    → (own ≡ None) × (plain ≡ Some kind)
plain_by kind (Some own) plain e = cc
plain_by kind None (Some other) e = let same : other ≡ kind = cc in (refl, ap (λ (of : PlainKind). Some of) same)
plain_by kind None None e = cc

unknown_by : (own : Option BlockKind) (plain : Option PlainKind) → word_by own plain ≡ Unknown → (own ≡ None) × (plain ≡ None)
unknown_by (Some own) plain e = cc
unknown_by None (Some other) e = cc
unknown_by None None e = (refl, refl)

pub opening_words : (words : List (List ℕ)) (kind : BlockKind) → kind_by_words words ≡ Some (Named (Opening kind)) → is_opening words ≡ true
opening_words [] kind e = cc
opening_words (name ∷ operands) kind e =
    let word : first_word name ≡ Opening kind = cc in
    ap is_some (opening_by kind (kind_of_word name) (plain_of_word name) word)

plain_words : (words : List (List ℕ)) (kind : PlainKind) → kind_by_words words ≡ Some (Named (Plain kind))
    → (is_opening words ≡ false) × (command_of words ≡ read_plain kind (drop 1 words))
plain_words [] kind e = cc
plain_words (name ∷ operands) kind e =
    let word : first_word name ≡ Plain kind = cc in
    let own = plain_by kind (kind_of_word name) (plain_of_word name) word in
    (ap is_some own.0, rw (own.0, own.1) refl)

unknown_words : (words : List (List ℕ)) → kind_by_words words ≡ Some (Named Unknown)
    → (is_opening words ≡ false) × (command_of words ≡ Err BadCommand)
unknown_words [] e = cc
unknown_words (name ∷ operands) e =
    let word : first_word name ≡ Unknown = cc in
    let own = unknown_by (kind_of_word name) (plain_of_word name) word in
    (ap is_some own.0, rw (own.0, own.1) refl)

-- A command without a block, from its operands.
abbrev pub plain_spelled : Result Command LineRefusal → Spelled
plain_spelled command = and_then command (λ given. with_values (block_values (kind_of given) []) given)

pub named_spelled : (line : List ℕ) (kind : PlainKind) → line_kind line ≡ Some (Named (Plain kind))
    → line_spelled line ≡ plain_spelled (read_plain kind (drop 1 (words_of line)))
named_spelled line kind e =
    let parts = named line (Plain kind) e in
    cond-false (is_long line) _ _ parts.0 ∙ ap plain_spelled (plain_words (words_of line) kind parts.2).1

-- No command without a block has values.
without_values : (command : Result Command LineRefusal) → IfOk command (λ given. kind_of given ≡ None)
    → plain_spelled command ≡ and_then command (λ given. Ok (given, []))
without_values (Ok given) alone = ap (λ (kind : Option BlockKind). with_values (block_values kind []) given) alone
without_values (Err why) alone = refl

pub alone_spelled : (line : List ℕ) (kind : PlainKind) (command : Result Command LineRefusal)
    → line_kind line ≡ Some (Named (Plain kind)) → command ≡ read_plain kind (drop 1 (words_of line))
    → IfOk command (λ given. kind_of given ≡ None) → line_spelled line ≡ and_then command (λ given. Ok (given, []))
alone_spelled line kind command is read alone =
    named_spelled line kind is ∙ ap plain_spelled (sym read) ∙ without_values command alone

pub named_short : (line : List ℕ) (word : FirstWord) → line_kind line ≡ Some (Named word) → length line ≤ longest_line
named_short line word e = ltb-false longest_line (length line) (named line word e).0

-- It is not an open block.
shut_command : (command : Result Command LineRefusal) → is_unended command ≡ false → is_open (plain_spelled command) ≡ false
shut_command (Ok given) shut = shut_said given false (kind_of given) []
shut_command (Err why) shut = shut

pub shut_line : (line : List ℕ) → is_open (line_spelled line) ≡ false
shut_line line = by_length (is_long line)
  where
    by_length : (long : Bool) → is_open (if long then Err LineTooLong else spelled_by line []) ≡ false
    by_length true = refl
    by_length false = shut_command (command_of (words_of line)) (never_unended (words_of line))

-- The line is too long, or is an item of its own.
shut_words : (words : List (List ℕ)) (kind : LineKind) → kind_by_words words ≡ Some kind → opens_block kind ≡ false
    → is_opening words ≡ false
shut_words [] kind e shut = cc
shut_words (name ∷ operands) Long e shut = cc
shut_words (name ∷ operands) (Named (Opening kind)) e shut = cc
shut_words (name ∷ operands) (Named (Plain kind)) e shut = (plain_words (name ∷ operands) kind e).0
shut_words (name ∷ operands) (Named Unknown) e shut = (unknown_words (name ∷ operands) e).0

module _ (before after : Option (List ℕ)) (old new : InputLines) where
  pub first_none : ReadsFirst {E = LineReadFault} (Ok None) before after old new → ReadsNext (Ok None) before after old new
  first_none first = record {
    lines = first.skipped ++ [];
    reads = first.reads;
    spelled = λ more may. nothing_still first.skipped first.nothing more;
  }

  pub first_fault : (why : LineReadFault) → ReadsFirst (Err why) before after old new → ReadsNext (Err (of_line why)) before after old new
  first_fault why first = record {
    lines = first.skipped ++ [];
    reads = first.reads;
    spelled = fault_before why new.at_end (first.skipped ++ []) (nothing_still first.skipped first.nothing);
  }

  pub spells : (kind : LineKind) (first : ReadsFirst {E = LineReadFault} (Ok (Some kind)) before after old new) → opens_block kind ≡ false
      → Spell new.at_end (first.skipped ++ line_in new ∷ []) (line_spelled (line_in new) ∷ [])
  spells kind first shut =
      let line = line_in new in
      elim (says line kind first.kind) [
        | inl long ↦
            subst (λ (item : Spelled). Spell new.at_end (first.skipped ++ line ∷ []) (item ∷ []))
            (sym (cond-true (is_long line) _ _ long.0)) (spells_long new.at_end first.skipped line first.nothing long.0)
        | inr short ↦
            spells_line new.at_end first.skipped line (line_spelled line) first.nothing short.0 short.1
            (shut_words (words_of line) kind short.2 shut) (cond-false (is_long line) _ _ short.0)
      ]

  pub first_line : (kind : LineKind) → ReadsFirst {E = LineReadFault} (Ok (Some kind)) before after old new → opens_block kind ≡ false
      → ReadsNext (Ok (Some (line_spelled (line_in new)))) before after old new
  first_line kind first shut = record {
    lines = first.skipped ++ line_in new ∷ [];
    reads = first.reads;
    spelled = spells kind first shut;
  }

-- A block, and one that was not read to its end.
module _ (before mid after : Option (List ℕ)) (old first_at new : InputLines) (kind : BlockKind)
    (first : ReadsFirst {E = LineReadFault} (Ok (Some (Named (Opening kind)))) before mid old first_at) where
  parts : (is_long (line_in first_at) ≡ false) × (is_skipped (line_in first_at) ≡ false)
      × (kind_by_words (words_of (line_in first_at)) ≡ Some (Named (Opening kind)))
  parts = named (line_in first_at) (Opening kind) first.kind

  pub first_block : (item : Item)
      → ReadsBlock {E = ItemFault} (Ok item) (command_of (words_of (line_in first_at))) mid after first_at new
      → ReadsNext (Ok (Some (what_is_spelled item))) before after old new
  first_block item block = record {
    lines = (first.skipped ++ line_in first_at ∷ []) ++ block.lines;
    reads = reads_both before mid after old first_at new _ _ first.reads block.reads;
    spelled = spells_block new.at_end first.skipped block.lines (line_in first_at) _ _ first.nothing parts.0 parts.1
        (opening_words (words_of (line_in first_at)) kind parts.2) refl block.spelled;
  }

  pub block_fault : (why : ItemFault)
      → ReadsBlock (Err why) (command_of (words_of (line_in first_at))) mid after first_at new
      → ReadsNext (Err why) before after old new
  block_fault why block = record {
    lines = (first.skipped ++ line_in first_at ∷ []) ++ block.lines;
    reads = reads_both before mid after old first_at new _ _ first.reads block.reads;
    spelled = fault_inside why new.at_end first.skipped block.lines (line_in first_at) first.nothing parts.0 parts.1
        (opening_words (words_of (line_in first_at)) kind parts.2) block.spelled;
  }
