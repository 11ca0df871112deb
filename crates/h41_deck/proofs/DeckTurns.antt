-- What was written before each read of a deck.
use Rattle.std.proofs.Common.{◌≡◌, ℕ, ◌<◌, Bool, not, true, false, List, [], ◌∷◌, ◌++◌, length, flat_map, Option, Some, Ok, Err}
use Rattle.std.proofs.Common.{refl, sym, subst, ap, ◌∙◌, append_assoc, arith}
use Rattle.std.specs.List.{list_any}
use Rattle.std.specs.Io.KnownBytes.{Keeps}
use Rattle.std.proofs.KnownBytes.{Appends-kept}
use Rattle.std.proofs.lemmas.Bool.{false_from_ne_true, or_from}
use Rattle.std.proofs.lemmas.List.{append-nil}
use Rattle.std.proofs.lemmas.List.Elements.{filter-append}
use Rattle.std.proofs.lemmas.List.Folds.{list_any-append}
use Rattle.h41_commands.specs.Commands.{command_of}
use Rattle.h41_commands.specs.FirstLines.{opens_block}
use Rattle.h41_commands.specs.private.BlockReading.{HearsBlock}
use Rattle.h41_commands.specs.private.Entries.{what_is_spelled}
use Rattle.h41_commands.specs.private.ItemReading.{HearsFirst, HearsNext, Spell, SpellNoneEnded}
use Rattle.h41_commands.specs.declared.commands.FirstWord.TheVariants.{Opening}
use Rattle.h41_commands.specs.declared.fault.ItemFault.{ItemFault}
use Rattle.h41_commands.specs.declared.item.Item.{Item}
use Rattle.h41_commands.specs.declared.line.LineKind.{LineKind}
use Rattle.h41_commands.specs.declared.line.LineKind.TheVariants.{Named}
use Rattle.h41_commands.proofs.HeardItems.{heard_block, heard_block_fault}
use Rattle.h41_commands.specs.Items.{Spelled, commands, is_open, without_open_block}
use Rattle.h41_debug.specs.Bench.{BenchState, start}
use Rattle.h41_ends.specs.HeardLines.{AreMore, ComesWith, Hears}
use Rattle.h41_ends.specs.InputLines.{HasRead, MayFollow, bytes_within, line_in, most_left}
use Rattle.h41_ends.specs.ReadEvents.{AddsReads, EachRead, ReadEvent, bytes_in}
use Rattle.h41_ends.specs.declared.fault.LineReadFault.{LineReadFault}
use Rattle.h41_ends.specs.declared.input_lines.InputLines.{InputLines}
use Rattle.h41_ends.proofs.HeardReads.{adds_both, adds_none, bytes_both, each_as, each_both}
use Rattle.h41_lines.specs.Lines.{ended_lines}
use Rattle.h41_lines.specs.Words.{words_of}
use Rattle.h41_deck.specs.Answers.{printed_text}
use Rattle.h41_deck.specs.Deck.{AnswersInTurn, ComesInTurn, ReadsInTurn, commands_ended}
use Rattle.h41_deck.specs.declared.replies.Outcome.{Outcome}
use Rattle.h41_deck.proofs.AnswersInTurn.{Told, done_answered}
use Rattle.h41_deck.proofs.DeckReading.{held_nothing, same_commands, shut_all}

-- The reads of a deck so far, and the items that its lines spell.
pub record HeardSoFar (registers : ℕ) (before after : Option (List ReadEvent)) (old : Option (List ℕ)) (input : InputLines)
    (done : List Spelled) : Type 0 where
  pub reads : List ReadEvent
  pub added : AddsReads before after reads
  pub told : List (List ℕ)
  pub read : HasRead (bytes_in reads) told input
  pub spelled : Spell input.at_end told done
  pub shut : input.at_end ≡ false → list_any is_open done ≡ false
  pub each : EachRead (ComesInTurn registers old) [] reads

pub heard_nothing : (registers : ℕ) (before : Option (List ReadEvent)) (old : Option (List ℕ)) (input : InputLines) → HasRead [] [] input
    → HeardSoFar registers before before old input []
heard_nothing registers before old input read = record {
  reads = [];
  added = adds_none before;
  told = [];
  read = read;
  spelled = λ more may. refl;
  shut = λ on. refl;
  each = tt;
}

module _ {registers : ℕ} (before mid after : Option (List ReadEvent)) (old written : Option (List ℕ)) (input next : InputLines)
    (done : List Spelled) (s : BenchState) (outcome : Outcome) (so_far : HeardSoFar registers before mid old input done)
    (told : Told registers old written done s outcome) where
  -- At a read, the items that were answered are those whose last line end was read.
  comes : input.at_end ≡ false → (bytes : List ℕ) (read : ReadEvent) → ComesWith written (AreMore SpellNoneEnded so_far.told) bytes read
      → ComesInTurn registers old bytes read
  comes goes bytes read comes_with =
      let more = comes_with.ended.0 in
      let ended : commands_ended bytes ≡ done =
      ap without_open_block
      (same_commands (ended_lines bytes) (so_far.told ++ more) comes_with.ended.2
      ∙ so_far.spelled more (subst (λ (ended : Bool). MayFollow ended more) (sym goes) tt))
      ∙ filter-append (λ item. not (is_open item)) done (commands more)
      ∙ (λ i. shut_all done (so_far.shut goes) i ++ comes_with.ended.1 i) ∙ append-nil done in
      record {
        within = comes_with.within;
        answered = (
          flat_map printed_text told.answers,
          (
            told.answers,
            subst (λ (items : List Spelled). AnswersInTurn items (start registers) told.answers) (sym ended)
                (done_answered old written done s outcome told),
            refl,
          ),
          Appends-kept old written read.written (flat_map printed_text told.answers) told.written comes_with.kept,
        );
        flushed = comes_with.flushed;
      }

  more_come : (lines : List (List ℕ)) (hears : Hears SpellNoneEnded mid after written input next lines)
      → EachRead (ComesInTurn registers old) [] (so_far.reads ++ hears.reads)
  more_come lines hears =
      each_both (ComesInTurn registers old) [] so_far.reads hears.reads so_far.each
      (elim input.at_end as
      (λ (ended : Bool). input.at_end ≡ ended → EachRead (ComesInTurn registers old) (bytes_in so_far.reads) hears.reads) [
        | true ↦ λ end.
            subst (EachRead (ComesInTurn registers old) (bytes_in so_far.reads)) (sym (hears.stays end).1) tt
        | false ↦ λ goes.
            each_as (ComesWith written (AreMore SpellNoneEnded so_far.told)) (ComesInTurn registers old) (comes goes)
            (bytes_in so_far.reads) hears.reads (hears.each (bytes_in so_far.reads) so_far.told so_far.read)
      ] refl)

  -- The reads of a deck that ends here.
  pub turns_end : (lines : List (List ℕ)) → Hears SpellNoneEnded mid after written input next lines
      → ReadsInTurn registers before after old
  turns_end lines hears =
      (so_far.reads ++ hears.reads, adds_both before mid after so_far.reads hears.reads so_far.added hears.added, more_come lines hears)

  -- The end of the deck was not reached before more lines were read.
  heard_on : (lines : List (List ℕ)) → Hears SpellNoneEnded mid after written input next lines → most_left next < most_left input
      → input.at_end ≡ false
  heard_on lines hears less = false_from_ne_true input.at_end (λ end.
      let read = hears.read (bytes_in so_far.reads) so_far.told so_far.read in
      let none : bytes_in hears.reads ≡ [] = ap bytes_in (hears.stays end).1 in
      let same : bytes_in so_far.reads ++ bytes_in hears.reads ≡ bytes_in so_far.reads =
      ap (λ (rest : List ℕ). bytes_in so_far.reads ++ rest) none ∙ append-nil (bytes_in so_far.reads) in
      let count : next.count ≡ input.count =
      read.count ∙ ap (λ (bytes : List ℕ). length (bytes_within bytes)) same ∙ sym so_far.read.count in
      absurd (omega (arith, less, count, ap length (held_nothing input end))))

  pub heard_item : (item : Spelled) → HearsNext (Ok (Some item)) mid after written input next → most_left next < most_left input
      → (is_open item ≡ true → next.at_end ≡ true) → HeardSoFar registers before after old next (done ++ item ∷ [])
  heard_item item more less open_at_end =
      let goes = heard_on more.lines more.hears less in
      record {
        reads = so_far.reads ++ more.hears.reads;
        added = adds_both before mid after so_far.reads more.hears.reads so_far.added more.hears.added;
        told = so_far.told ++ more.lines;
        read = subst (λ (bytes : List ℕ). HasRead bytes (so_far.told ++ more.lines) next) (sym (bytes_both so_far.reads more.hears.reads))
            (more.hears.read (bytes_in so_far.reads) so_far.told so_far.read);
        spelled = λ rest may.
            ap commands (append_assoc so_far.told more.lines rest)
            ∙ so_far.spelled (more.lines ++ rest) (subst (λ (ended : Bool). MayFollow ended (more.lines ++ rest)) (sym goes) tt)
            ∙ ap (λ (items : List Spelled). done ++ items) (more.spelled rest may)
            ∙ sym (append_assoc done (item ∷ []) (commands rest));
        shut = λ on.
            let here : is_open item ≡ false =
            false_from_ne_true (is_open item)
            (λ is. let never : true ≡ false = sym (open_at_end is) ∙ on in cc) in
            list_any-append is_open done (item ∷ []) ∙ or_from _ _ (so_far.shut goes) (or_from _ _ here refl);
        each = more_come more.lines more.hears;
      }

-- The next item is a block, or one that was not read to its end.
module _ (before mid after : Option (List ReadEvent)) (written between : Option (List ℕ)) (old first_at new : InputLines) where
  pub block_heard : (kind : LineKind) → Keeps written between → opens_block kind ≡ true
      → HearsFirst {E = LineReadFault} (Ok (Some kind)) before mid written old first_at → (item : Item)
      → HearsBlock {E = ItemFault} (Ok item) (command_of (words_of (line_in first_at))) mid after between first_at new
      → HearsNext (Ok (Some (what_is_spelled item))) before after written old new
  block_heard (Named (Opening kind)) kept opens first item block =
      heard_block before mid after written between old first_at new kind kept first item block
  block_heard kind kept opens first item block = cc

  pub block_unheard : (kind : LineKind) → Keeps written between → opens_block kind ≡ true
      → HearsFirst {E = LineReadFault} (Ok (Some kind)) before mid written old first_at → (why : ItemFault)
      → HearsBlock (Err why) (command_of (words_of (line_in first_at))) mid after between first_at new
      → HearsNext (Err why) before after written old new
  block_unheard (Named (Opening kind)) kept opens first why block =
      heard_block_fault before mid after written between old first_at new kind kept first why block
  block_unheard kind kept opens first why block = cc
