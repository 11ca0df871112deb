-- What the lines of an item specify, whatever lines follow.
use Rattle.std.proofs.Common.{◌≡◌, ℕ, Bool, true, false, if◌then◌else◌, List, [], ◌∷◌, ◌++◌, length, Option}
use Rattle.std.proofs.Common.{Result, Ok, Err, refl, sym, ap, ◌∙◌, append_assoc, append-nil, arith}
use Rattle.std.specs.List.{after_first, before_first, list_any, position_or_len}
use Rattle.std.proofs.lemmas.Bool.{cond-true, cond-false, or_from}
use Rattle.std.proofs.lemmas.List.{drop_all}
use Rattle.std.proofs.lemmas.List.Folds.{list_any-append}
use Rattle.h41_ends.specs.InputLines.{MayFollow}
use Rattle.h41_ends.specs.declared.fault.LineReadFault.{LineReadFault}
use Rattle.h41_ends.specs.declared.fault.LineReadFault.TheVariants as read
use Rattle.h41_commands.specs.private.BlockReading.{AreTaken}
use Rattle.h41_commands.specs.Blocks.{block_values, said_by, short_lines, unless_long, whole_said}
use Rattle.h41_commands.specs.private.TakenBlocks.{TakenBlock, Takes, judgement, kept_of}
use Rattle.h41_commands.specs.Commands.{and_then, command_of, is_opening, kind_of}
use Rattle.h41_commands.specs.DeckLines.{is_end, is_long, is_skipped}
use Rattle.h41_commands.specs.private.Entries.{IsTaken}
use Rattle.h41_commands.specs.private.ItemReading.{Spell, SpellNext, SpellNothing, opened_by}
use Rattle.h41_commands.specs.Items.{Spelled, commands, opened_block, opens_first, spelled_by, with_values, without_open_block}
use Rattle.h41_commands.specs.declared.commands.BlockKind.{BlockKind}
use Rattle.h41_commands.specs.declared.commands.Command.{Command}
use Rattle.h41_commands.specs.Faults.{of_line}
use Rattle.h41_commands.specs.declared.fault.ItemFault.{ItemFault}
use Rattle.h41_commands.specs.declared.fault.ItemFault.TheVariants as fault
use Rattle.h41_commands.specs.declared.refusal.LineRefusal.{LineRefusal}
use Rattle.h41_commands.specs.declared.refusal.LineRefusal.TheVariants.{LineTooLong, NoEnd}
use Rattle.h41_commands.proofs.BlockLines.{EndsBlock, ends_block, no_end}
use Rattle.h41_commands.proofs.KeptBytes.{whole_kept}
use Rattle.h41_commands.proofs.DeckItems.{commands-cons, commands-line, commands-long, commands-opening}
use Rattle.h41_lines.specs.Words.{words_of}

pub skips_more : (lines : List (List ℕ)) (line : List ℕ) → SpellNothing lines → is_long line ≡ false → is_skipped line ≡ true
    → SpellNothing (lines ++ line ∷ [])
skips_more lines line before short skipped more =
    ap commands (append_assoc lines (line ∷ []) more) ∙ before (line ∷ more)
    ∙ commands-cons line more ∙ cond-false (is_long line) _ _ short ∙ cond-true (is_skipped line) _ _ skipped

-- An item of one line.
pub spells_long : (at_end : Bool) (lines : List (List ℕ)) (line : List ℕ) → SpellNothing lines → is_long line ≡ true
    → Spell at_end (lines ++ line ∷ []) (Err LineTooLong ∷ [])
spells_long at_end lines line before long more may =
    ap commands (append_assoc lines (line ∷ []) more) ∙ before (line ∷ more) ∙ commands-long line more long

pub spells_line : (at_end : Bool) (lines : List (List ℕ)) (line : List ℕ) (item : Spelled) → SpellNothing lines → is_long line ≡ false
    → is_skipped line ≡ false → is_opening (words_of line) ≡ false → item ≡ spelled_by line []
    → Spell at_end (lines ++ line ∷ []) (item ∷ [])
spells_line at_end lines line item before short says other is more may =
    ap commands (append_assoc lines (line ∷ []) more) ∙ before (line ∷ more) ∙ commands-line line more short says other
    ∙ ap (λ (first : Spelled). first ∷ commands more) (sym is)

-- An item with a block.
pub spells_block : (at_end : Bool) (lines inside : List (List ℕ)) (line : List ℕ) (command : Result Command LineRefusal) (item : Spelled)
    → SpellNothing lines → is_long line ≡ false → is_skipped line ≡ false → is_opening (words_of line) ≡ true
    → command ≡ command_of (words_of line)
    → ((more : List (List ℕ)) → MayFollow at_end more
    → (opened_by command (inside ++ more) ≡ item) × (after_first is_end (inside ++ more) ≡ more))
    → Spell at_end ((lines ++ line ∷ []) ++ inside) (item ∷ [])
spells_block at_end lines inside line command item before short says opening is block more may =
    let parts : ((lines ++ line ∷ []) ++ inside) ++ more ≡ lines ++ (line ∷ (inside ++ more)) =
    append_assoc (lines ++ line ∷ []) inside more ∙ append_assoc lines (line ∷ []) (inside ++ more) in
    let own = block more may in
    ap commands parts ∙ before (line ∷ (inside ++ more)) ∙ commands-opening line (inside ++ more) short says opening
    ∙ (λ i. opened_by (sym is i) (inside ++ more) ∷ commands (own.1 i))
    ∙ ap (λ (first : Spelled). first ∷ commands more) own.0

-- An open block.
pub spells_open : (lines inside : List (List ℕ)) (line : List ℕ) → SpellNothing lines → is_long line ≡ false → is_skipped line ≡ false
    → is_opening (words_of line) ≡ true → list_any is_end inside ≡ false
    → without_open_block (commands ((lines ++ line ∷ []) ++ inside)) ≡ []
spells_open lines inside line before short says opening endless =
    let end : position_or_len is_end inside ≡ length inside = no_end inside endless in
    let after : after_first is_end inside ≡ [] = drop_all _ inside (omega (arith, end)) in
    let ends_open : opened_block line inside ≡ Err NoEnd = cond-false (list_any is_end inside) _ _ endless in
    ap without_open_block
    (ap commands (append_assoc lines (line ∷ []) inside) ∙ before (line ∷ inside) ∙ commands-opening line inside short says opening
    ∙ (λ i. ends_open i ∷ commands (after i)))

pub spells_none : (lines : List (List ℕ)) → SpellNothing lines → without_open_block (commands lines) ≡ []
spells_none lines nothing = ap without_open_block (ap commands (sym (append-nil lines)) ∙ nothing [])

-- The values of a block from the lines that it has taken.
block_judged : (kind : Option BlockKind) (lines : List (List ℕ)) (block : TakenBlock) → IsTaken kind lines block
    → block_values kind lines ≡ judgement block
block_judged kind lines block taken =
    ap (unless_long (list_any is_long lines)) (sym (whole_kept kind (said_by kind (short_lines lines))))
    ∙ (λ i. unless_long (sym taken.lines_are.long i) (whole_said (sym taken.kind_is i) (kept i)))
  where
    kept : kept_of kind (said_by kind (short_lines lines)) ≡ block.content
    kept = sym (taken.lines_are.content ∙ ap (λ (of : Option BlockKind). kept_of of (said_by of (short_lines lines))) taken.kind_is)

-- A block whose end was read.
block_ended : (kind : Option BlockKind) (lines : List (List ℕ)) (block : TakenBlock) (more : List (List ℕ)) → AreTaken kind lines block
    → EndsBlock kind (lines ++ more) more block
block_ended kind lines block more taken = ends_block kind taken.last taken.inside (lines ++ more) more block
    (record {
      parts = ap (λ (all : List (List ℕ)). all ++ more) taken.parts ∙ append_assoc taken.inside (taken.last ∷ []) more;
      endless = taken.endless;
      taken = taken.taken;
    })
    taken.ended

pub block_given : (kind : Option BlockKind) (lines : List (List ℕ)) (block : TakenBlock) (command : Result Command LineRefusal)
    (given : Command) (more : List (List ℕ))
    → AreTaken kind lines block → command ≡ Ok given → kind ≡ kind_of given
    → (opened_by command (lines ++ more) ≡ with_values (judgement block) given) × (after_first is_end (lines ++ more) ≡ more)
block_given kind lines block command given more are is kind_is =
    let ended = block_ended kind lines block more are in
    let all = lines ++ more in
    let inside = before_first is_end all in
    let own : block_values (kind_of given) inside ≡ judgement block =
    ap (λ (of : Option BlockKind). block_values of inside) (sym kind_is) ∙ block_judged kind inside block ended.taken in (
      cond-true (list_any is_end all) _ _ (sym ended.ended)
          ∙ ap (λ (from : Result Command LineRefusal). and_then from (λ c. with_values (block_values (kind_of c) inside) c)) is
          ∙ ap (λ (values : Result (List ℕ) LineRefusal). with_values values given) own,
      sym ended.rest_is,
    )

pub block_refused : (kind : Option BlockKind) (lines : List (List ℕ)) (block : TakenBlock) (command : Result Command LineRefusal)
    (why : LineRefusal) (more : List (List ℕ))
    → AreTaken kind lines block → command ≡ Err why
    → (opened_by command (lines ++ more) ≡ Err why) × (after_first is_end (lines ++ more) ≡ more)
block_refused kind lines block command why more are is =
    let ended = block_ended kind lines block more are in
    let all = lines ++ more in
    let inside = before_first is_end all in (
      cond-true (list_any is_end all) _ _ (sym ended.ended)
          ∙ ap (λ (from : Result Command LineRefusal). and_then from (λ c. with_values (block_values (kind_of c) inside) c)) is,
      sym ended.rest_is,
    )

pub block_open : (lines : List (List ℕ)) (command : Result Command LineRefusal) (more : List (List ℕ)) → list_any is_end lines ≡ false
    → more ≡ [] → (opened_by command (lines ++ more) ≡ Err NoEnd) × (after_first is_end (lines ++ more) ≡ more)
block_open lines command more endless none =
    let all : lines ++ more ≡ lines = ap (λ (rest : List (List ℕ)). lines ++ rest) none ∙ append-nil lines in
    let end : position_or_len is_end lines ≡ length lines = no_end lines endless in (
      ap (opened_by command) all ∙ cond-false (list_any is_end lines) _ _ endless,
      ap (after_first is_end) all ∙ drop_all _ lines (omega (arith, end)) ∙ sym none,
    )

-- One more line that does not end the block.
pub takes_more : (kind : Option BlockKind) (lines : List (List ℕ)) (line : List ℕ) (block next : TakenBlock) → IsTaken kind lines block
    → Takes block line next → IsTaken kind (lines ++ line ∷ []) next
takes_more kind lines line block next taken takes = record {
  kind_is = takes.kind_is ∙ taken.kind_is;
  lines_are = takes.more lines taken.lines_are;
}

pub endless_more : (lines : List (List ℕ)) (line : List ℕ) → list_any is_end lines ≡ false → is_end line ≡ false
    → list_any is_end (lines ++ line ∷ []) ≡ false
endless_more lines line before other = list_any-append is_end lines (line ∷ []) ∙ or_from _ _ before (or_from _ _ other refl)

pub endless_still : (lines : List (List ℕ)) → list_any is_end lines ≡ false → list_any is_end (lines ++ []) ≡ false
endless_still lines before = ap (list_any is_end) (append-nil lines) ∙ before

-- No further line was returned.
pub nothing_still : (lines : List (List ℕ)) → SpellNothing lines → SpellNothing (lines ++ [])
nothing_still lines before more = ap (λ (all : List (List ℕ)). commands (all ++ more)) (append-nil lines) ∙ before more

-- Lines that specify nothing are skipped.
says_none : (long skipped opening : Bool) (refused block other : Spelled) (rest after : List Spelled)
    → (if long then refused ∷ rest else (if skipped then rest else (if opening then block ∷ after else other ∷ rest))) ≡ []
    → (long ≡ false) × (skipped ≡ true) × (rest ≡ [])
says_none true skipped opening refused block other rest after e = cc
says_none false true opening refused block other rest after e = (refl, refl, e)
says_none false false true refused block other rest after e = cc
says_none false false false refused block other rest after e = cc

passed_over : (lines more : List (List ℕ)) → commands lines ≡ [] → opens_first (lines ++ more) ≡ opens_first more
passed_over [] more e = refl
passed_over (line ∷ lines) more e =
    let none =
    says_none (is_long line) (is_skipped line) (is_opening (words_of line)) _ _ _ _ _ (sym (commands-cons line lines) ∙ e) in
    (λ i. if none.0 i then false else (if none.1 i then opens_first (lines ++ more) else is_opening (words_of line)))
    ∙ passed_over lines more none.2

-- An I/O error before an item, and within its block.
pub fault_before : (why : LineReadFault) (at_end : Bool) (lines : List (List ℕ)) → SpellNothing lines
    → SpellNext (Err (of_line why)) at_end lines
fault_before read.ReadFault at_end lines before = spells_none lines before
fault_before read.WriteFault at_end lines before = tt

pub fault_inside : (why : ItemFault) (at_end : Bool) (lines inside : List (List ℕ)) (line : List ℕ) → SpellNothing lines
    → is_long line ≡ false → is_skipped line ≡ false → is_opening (words_of line) ≡ true → list_any is_end inside ≡ false
    → SpellNext (Err why) at_end ((lines ++ line ∷ []) ++ inside)
fault_inside fault.OutOfMemory at_end lines inside line before short says opening endless =
    ap opens_first (append_assoc lines (line ∷ []) inside)
    ∙ passed_over lines (line ∷ inside) (ap commands (sym (append-nil lines)) ∙ before [])
    ∙ (λ i. if short i then false else (if says i then opens_first inside else opening i))
fault_inside fault.ReadFault at_end lines inside line before short says opening endless =
    spells_open lines inside line before short says opening endless
fault_inside fault.WriteFault at_end lines inside line before short says opening endless = tt
