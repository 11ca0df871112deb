-- What was read of a deck so far, and the items that its lines specify.
use Rattle.std.proofs.Common.{inl, inr, ◌≡◌, ℕ, ◌+◌, ◌<◌, ◌≤◌, Bool, true, false, List, [], ◌∷◌, ◌++◌, length, drop, take, not}
use Rattle.std.proofs.Common.{if◌then◌else◌, Option, Some, None, IfSome, Ok, Err, refl, sym, subst, ap, ◌∙◌, arith, append_assoc}
use Rattle.std.specs.List.{list_any}
use Rattle.std.specs.Io.KnownBytes.{Consumes, IsAtEnd}
use Rattle.std.proofs.lemmas.Bool.{false_from_ne_true, ltb-false, or_from, or_parts}
use Rattle.std.proofs.lemmas.List.{append-nil, length-append, take_all}
use Rattle.std.proofs.lemmas.List.Elements.{filter-append}
use Rattle.std.proofs.lemmas.List.Folds.{list_any-append}
use Rattle.h41_commands.specs.private.ItemReading.{ReadsNext, Spell}
use Rattle.h41_commands.specs.Commands.{is_opening}
use Rattle.h41_commands.specs.DeckLines.{is_long, is_skipped}
use Rattle.h41_commands.specs.Items.{Spelled, commands, is_open, opens_first, without_open_block}
use Rattle.h41_commands.specs.declared.fault.ItemFault.TheVariants as item
use Rattle.h41_commands.proofs.ToldCommands.{told_commands}
use Rattle.h41_ends.specs.Ends.{most_bytes}
use Rattle.h41_ends.specs.InputLines.{HasRead, IsStopped, IsTold, MayFollow, bytes_within, held_in, most_left, told_lines}
use Rattle.h41_ends.specs.declared.input_lines.InputLines.{InputLines}
use Rattle.h41_ends.proofs.EndedLines.{stopped_lines}
use Rattle.h41_ends.proofs.InputBuffers.{nothing_behind}
use Rattle.h41_ends.proofs.InputReading.{consumes-both, end_comes, end_stays}
use Rattle.h41_lines.specs.Lines.{ended_lines, lines}
use Rattle.h41_lines.specs.Words.{words_of}
use Rattle.h41_deck.specs.Deck.{commands_ended}
use Rattle.h41_deck.proofs.LinesLeft.{OpensLeft, opens_left}

pub record ReadSoFar (before after : Option (List ℕ)) (input : InputLines) (done : List Spelled) : Type 0 where
  pub bytes : List ℕ
  pub told : List (List ℕ)
  pub consumed : Consumes before after bytes
  pub read : HasRead bytes told input
  pub spelled : Spell input.at_end told done
  pub shut : input.at_end ≡ false → list_any is_open done ≡ false
  pub ended : input.at_end ≡ true → IfSome before (λ all. IsAtEnd after)

pub read_none : (before : Option (List ℕ)) (input : InputLines) → Consumes before before [] → HasRead [] [] input → input.at_end ≡ false
    → ReadSoFar before before input []
read_none before input none read goes = record {
  bytes = [];
  told = [];
  consumed = none;
  read = read;
  spelled = λ more may. refl;
  shut = λ on. refl;
  ended = λ end. let never : true ≡ false = sym end ∙ goes in cc;
}

-- After the end nothing is buffered, and no further line is returned.
pub held_nothing : (input : InputLines) → input.at_end ≡ true → held_in input ≡ []
held_nothing input end =
    ap (λ (k : ℕ). drop k (take input.end input.buffer)) (input.nothing end) ∙ nothing_behind input.buffer input.end

-- What the lines of the bytes within the limit specify.
pub same_commands : (bytes : List ℕ) (told : List (List ℕ)) → told_lines bytes ≡ told → commands (lines bytes) ≡ commands told
same_commands bytes told is = sym (told_commands (lines bytes)) ∙ ap commands is

module _ (before mid after : Option (List ℕ)) (old new : InputLines) (done : List Spelled) (so_far : ReadSoFar before mid old done) where
  -- Before a further line is returned, the end was not reached.
  goes_on : (next : Option Spelled) (more : ReadsNext (Ok next) mid after old new) → most_left new < most_left old → old.at_end ≡ false
  goes_on next more less = false_from_ne_true old.at_end (λ end.
      let read = more.reads.read so_far.bytes so_far.told so_far.read in
      let none : more.reads.bytes ≡ [] = (more.reads.stays end).1 in
      let same : so_far.bytes ++ more.reads.bytes ≡ so_far.bytes =
      ap (λ (rest : List ℕ). so_far.bytes ++ rest) none ∙ append-nil so_far.bytes in
      let count : new.count ≡ old.count =
      read.count ∙ ap (λ (bytes : List ℕ). length (bytes_within bytes)) same ∙ sym so_far.read.count in
      absurd (omega (arith, less, count, ap length (held_nothing old end))))

  pub read_item : (next : Spelled) → ReadsNext (Ok (Some next)) mid after old new → most_left new < most_left old
      → (is_open next ≡ true → new.at_end ≡ true) → ReadSoFar before after new (done ++ next ∷ [])
  read_item next more less open_at_end =
      let goes = goes_on (Some next) more less in
      record {
        bytes = so_far.bytes ++ more.reads.bytes;
        told = so_far.told ++ more.lines;
        consumed = consumes-both before mid after so_far.bytes more.reads.bytes so_far.consumed more.reads.consumed;
        read = more.reads.read so_far.bytes so_far.told so_far.read;
        spelled = λ rest may.
            ap commands (append_assoc so_far.told more.lines rest)
            ∙ so_far.spelled (more.lines ++ rest) (subst (λ (ended : Bool). MayFollow ended (more.lines ++ rest)) (sym goes) tt)
            ∙ ap (λ (items : List Spelled). done ++ items) (more.spelled rest may)
            ∙ sym (append_assoc done (next ∷ []) (commands rest));
        shut = λ on.
            let here : is_open next ≡ false =
            false_from_ne_true (is_open next)
            (λ is. let never : true ≡ false = sym (open_at_end is) ∙ on in cc) in
            list_any-append is_open done (next ∷ []) ∙ or_from _ _ (so_far.shut goes) (or_from _ _ here refl);
        ended = λ end. elim (more.reads.ended end) [
          | inl ends ↦ let never : true ≡ false = sym ends ∙ goes in cc
          | inr comes ↦ end_comes before mid after so_far.bytes so_far.consumed comes
        ];
      }

-- The bytes that were read begin with the items that are done.
pub record Begins (bytes : List ℕ) (done : List Spelled) : Type 0 where
  pub rest : List Spelled
  pub begins : commands (lines (bytes_within bytes)) ≡ done ++ rest

whole_lines : (bytes : List ℕ) (told : List (List ℕ)) (input : InputLines) → HasRead bytes told input
    → told_lines (bytes_within bytes) ≡ told ++ told_lines (held_in input ++ [])
whole_lines bytes told input read =
    ap told_lines (sym (append-nil (bytes_within bytes))) ∙ read.others [] (none_may input.at_end)
  where
    none_may : (at_end : Bool) → MayFollow {A = ℕ} at_end []
    none_may true = refl
    none_may false = tt

done_at_end : (before after : Option (List ℕ)) (input : InputLines) (done : List Spelled) (so_far : ReadSoFar before after input done)
    → input.at_end ≡ true → commands (lines (bytes_within so_far.bytes)) ≡ done
done_at_end before after input done so_far end =
    let none : told_lines (held_in input ++ []) ≡ [] = ap (λ (bytes : List ℕ). told_lines (bytes ++ [])) (held_nothing input end) in
    same_commands (bytes_within so_far.bytes) _ (whole_lines so_far.bytes so_far.told input so_far.read)
    ∙ ap (λ (rest : List (List ℕ)). commands (so_far.told ++ rest)) none
    ∙ so_far.spelled [] (subst (λ (ended : Bool). MayFollow {A = List ℕ} ended []) (sym end) refl) ∙ append-nil done

pub begins_done : (before after : Option (List ℕ)) (input : InputLines) (done : List Spelled) (so_far : ReadSoFar before after input done)
    → Begins so_far.bytes done
begins_done before after input done so_far =
    let all = same_commands (bytes_within so_far.bytes) _ (whole_lines so_far.bytes so_far.told input so_far.read) in
    let held = told_lines (held_in input ++ []) in
    elim input.at_end as (λ (ended : Bool). input.at_end ≡ ended → Begins so_far.bytes done) [
      | true ↦ λ end. record { rest = []; begins = done_at_end before after input done so_far end ∙ sym (append-nil done) }
      | false ↦ λ goes. record {
        rest = commands held;
        begins = all ∙ so_far.spelled held (subst (λ (ended : Bool). MayFollow ended held) (sym goes) tt);
      }
    ] refl

-- They also do if more was read that is not answered yet.
pub begins_more : (before mid after : Option (List ℕ)) (old new : InputLines) (done : List Spelled) (so_far : ReadSoFar before mid old done)
    (bytes : List ℕ) (told : List (List ℕ)) → HasRead (so_far.bytes ++ bytes) (so_far.told ++ told) new
    → (old.at_end ≡ true → bytes ≡ []) → Begins (so_far.bytes ++ bytes) done
begins_more before mid after old new done so_far bytes told read stays =
    elim old.at_end as (λ (ended : Bool). old.at_end ≡ ended → Begins (so_far.bytes ++ bytes) done) [
      | true ↦ λ end.
          let same : so_far.bytes ++ bytes ≡ so_far.bytes =
          ap (λ (rest : List ℕ). so_far.bytes ++ rest) (stays end) ∙ append-nil so_far.bytes in
          subst (λ (all : List ℕ). Begins all done) (sym same) (begins_done before mid old done so_far)
      | false ↦ λ goes.
          let held = told_lines (held_in new ++ []) in
          let all = same_commands (bytes_within (so_far.bytes ++ bytes)) _ (whole_lines (so_far.bytes ++ bytes) (so_far.told ++ told) new
          read) in
          record {
            rest = commands (told ++ held);
            begins =
                all ∙ ap commands (append_assoc so_far.told told held)
                ∙ so_far.spelled (told ++ held) (subst (λ (ended : Bool). MayFollow ended (told ++ held)) (sym goes) tt);
          }
    ] refl

-- If allocation failed, the lines after the items that are done open a block.
opens_step : (long skipped opening first next : Bool) → (first ≡ true → next ≡ true)
    → (if long then false else (if skipped then first else opening)) ≡ true
    → (if long then false else (if skipped then next else opening)) ≡ true
opens_step true skipped opening first next more e = e
opens_step false true opening first next more e = more e
opens_step false false opening first next more e = e

opens_more : (lines more : List (List ℕ)) → opens_first lines ≡ true → opens_first (lines ++ more) ≡ true
opens_more [] more e = cc
opens_more (line ∷ lines) more e =
    opens_step (is_long line) (is_skipped line) (is_opening (words_of line)) (opens_first lines) (opens_first (lines ++ more))
    (opens_more lines more) e

opens_some : (lines : List (List ℕ)) → opens_first lines ≡ true → 0 < length lines
opens_some [] e = cc
opens_some (line ∷ lines) e = omega arith

pub begins_block : (before mid after : Option (List ℕ)) (old new : InputLines) (done : List Spelled)
    (so_far : ReadSoFar before mid old done) (more : ReadsNext (Err item.OutOfMemory) mid after old new)
    → OpensLeft (bytes_within (so_far.bytes ++ more.reads.bytes)) done
begins_block before mid after old new done so_far more =
    let bytes = so_far.bytes ++ more.reads.bytes in
    let read = more.reads.read so_far.bytes so_far.told so_far.read in
    let held = told_lines (held_in new ++ []) in
    let told = whole_lines bytes (so_far.told ++ more.lines) new read in
    elim old.at_end as (λ (ended : Bool). old.at_end ≡ ended → OpensLeft (bytes_within bytes) done) [
      | true ↦ λ end.
          let same : bytes ≡ so_far.bytes =
          ap (λ (rest : List ℕ). so_far.bytes ++ rest) (more.reads.stays end).1 ∙ append-nil so_far.bytes in
          let none : told_lines (held_in old ++ []) ≡ [] = ap (λ (rest : List ℕ). told_lines (rest ++ [])) (held_nothing old end) in
          let count =
          sym (length-append so_far.told (told_lines (held_in old ++ [])))
          ∙ ap length (sym (whole_lines so_far.bytes so_far.told old so_far.read)
          ∙ ap (λ (all : List ℕ). told_lines (bytes_within all)) (sym same) ∙ told)
          ∙ length-append (so_far.told ++ more.lines) held
          ∙ ap (λ (k : ℕ). k + length held) (length-append so_far.told more.lines) in
          absurd (omega (arith, count, ap length none, opens_some more.lines more.spelled))
      | false ↦ λ goes.
          opens_left (bytes_within bytes) done so_far.told (more.lines ++ held) (told ∙ append_assoc so_far.told more.lines held)
          (λ others. so_far.spelled others (subst (λ (ended : Bool). MayFollow ended others) (sym goes) tt))
          (opens_more more.lines held more.spelled)
    ] refl

-- When reading stops, the items that are done are those whose last line end was read.
pub shut_all : (items : List Spelled) → list_any is_open items ≡ false → without_open_block items ≡ items
shut_all [] shut = refl
shut_all (item ∷ items) shut =
    let parts = or_parts (is_open item) (list_any is_open items) shut in
    (λ i. if not (parts.0 i) then item ∷ without_open_block items else without_open_block items)
    ∙ ap (λ (rest : List Spelled). item ∷ rest) (shut_all items parts.1)

pub ended_done : (before mid after : Option (List ℕ)) (old new : InputLines) (done : List Spelled) (so_far : ReadSoFar before mid old done)
    (more : ReadsNext (Err item.ReadFault) mid after old new) → IsStopped new
    → commands_ended (bytes_within (so_far.bytes ++ more.reads.bytes)) ≡ done
ended_done before mid after old new done so_far more stopped =
    let read = more.reads.read so_far.bytes so_far.told so_far.read in
    let goes : old.at_end ≡ false = false_from_ne_true old.at_end
    (λ end. let never : true ≡ false = sym (more.reads.stays end).0 ∙ stopped.goes_on in cc) in
    let told = stopped_lines (so_far.bytes ++ more.reads.bytes) (so_far.told ++ more.lines) new read stopped in
    ap without_open_block
    (same_commands (ended_lines (bytes_within (so_far.bytes ++ more.reads.bytes))) (so_far.told ++ more.lines) told
    ∙ so_far.spelled more.lines (subst (λ (ended : Bool). MayFollow ended more.lines) (sym goes) tt))
    ∙ filter-append (λ item. not (is_open item)) done (commands more.lines)
    ∙ (λ i. shut_all done (so_far.shut goes) i ++ more.spelled i) ∙ append-nil done

-- The whole deck was read.
pub record IsWholeDeck (before after : Option (List ℕ)) (done : List Spelled) : Type 0 where
  pub bytes : List ℕ
  pub consumed : Consumes before after bytes
  pub ended : IfSome before (λ all. IsAtEnd after)
  pub bound : length bytes ≤ most_bytes
  pub spelled : commands (lines bytes) ≡ done

told_whole : (before mid after : Option (List ℕ)) (old new : InputLines) (done : List Spelled) (so_far : ReadSoFar before mid old done)
    (more : ReadsNext (Ok None) mid after old new) → IsTold new
    → commands (lines (bytes_within (so_far.bytes ++ more.reads.bytes))) ≡ done
told_whole before mid after old new done so_far more is_told =
    let bytes = so_far.bytes ++ more.reads.bytes in
    let read = more.reads.read so_far.bytes so_far.told so_far.read in
    elim old.at_end as (λ (ended : Bool). old.at_end ≡ ended → commands (lines (bytes_within bytes)) ≡ done) [
      | true ↦ λ end.
          let same : bytes ≡ so_far.bytes =
          ap (λ (rest : List ℕ). so_far.bytes ++ rest) (more.reads.stays end).1 ∙ append-nil so_far.bytes in
          ap (λ (all : List ℕ). commands (lines (bytes_within all))) same ∙ done_at_end before mid old done so_far end
      | false ↦ λ goes.
          let none : told_lines (held_in new ++ []) ≡ [] = ap (λ (held : List ℕ). told_lines (held ++ [])) is_told.nothing in
          let may : MayFollow new.at_end [] = subst (λ (ended : Bool). MayFollow {A = List ℕ} ended []) (sym is_told.at_end) refl in
          same_commands (bytes_within bytes) _ (whole_lines bytes (so_far.told ++ more.lines) new read)
          ∙ ap (λ (rest : List (List ℕ)). commands ((so_far.told ++ more.lines) ++ rest)) none
          ∙ ap commands (append_assoc so_far.told more.lines [])
          ∙ so_far.spelled (more.lines ++ []) (subst (λ (ended : Bool). MayFollow ended (more.lines ++ [])) (sym goes) tt)
          ∙ ap (λ (items : List Spelled). done ++ items) (more.spelled [] may) ∙ append-nil done
    ] refl

pub whole_done : (before mid after : Option (List ℕ)) (old new : InputLines) (done : List Spelled) (so_far : ReadSoFar before mid old done)
    → ReadsNext (Ok None) mid after old new → IsTold new → IsWholeDeck before after done
whole_done before mid after old new done so_far more is_told =
    let bytes = so_far.bytes ++ more.reads.bytes in
    let read = more.reads.read so_far.bytes so_far.told so_far.read in
    let bound : length bytes ≤ most_bytes = ltb-false most_bytes (length bytes) (sym read.over ∙ new.within is_told.at_end) in
    let whole : bytes_within bytes ≡ bytes = take_all most_bytes bytes bound in
    record {
      bytes = bytes;
      consumed = consumes-both before mid after so_far.bytes more.reads.bytes so_far.consumed more.reads.consumed;
      ended = elim (more.reads.ended is_told.at_end) [
        | inl ends ↦
            end_stays before mid after so_far.bytes more.reads.bytes so_far.consumed (so_far.ended ends) more.reads.consumed
            (more.reads.stays ends).1
        | inr comes ↦ end_comes before mid after so_far.bytes so_far.consumed comes
      ];
      bound = bound;
      spelled = ap (λ (all : List ℕ). commands (lines all)) (sym whole) ∙ told_whole before mid after old new done so_far more is_told;
    }

-- A deck that was read completely.
pub deck_is : (known after : Option (List ℕ)) (done : List Spelled) (P : List ℕ → Type 0) (whole : IsWholeDeck known after done)
    → P whole.bytes → IfSome known P
deck_is None after done P whole holds = tt
deck_is (Some deck) None done P whole holds = absurd whole.consumed
deck_is (Some deck) (Some rest) done P whole holds =
    let all : deck ≡ whole.bytes =
    whole.consumed ∙ ap (λ (more : List ℕ). whole.bytes ++ more) whole.ended ∙ append-nil whole.bytes in
    subst P (sym all) holds
