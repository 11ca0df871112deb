-- What a deck leaves written at its end and after an error.
use Rattle.std.proofs.Common.{inl, inr, ◌≡◌, ◌≢◌, ◌⊎◌, ℕ, true, false, List, [], ◌∷◌, ◌++◌, length, Option, IfSome}
use Rattle.std.proofs.Common.{◌<◌, ◌≤◌, Result, Ok, Err, flat_map, refl, sym, subst, ap, ◌∙◌, arith}
use Rattle.std.specs.Io.KnownBytes.{Appends, Keeps}
use Rattle.std.proofs.KnownBytes.{Appends-kept}
use Rattle.std.proofs.lemmas.Bool.{ltb-true}
use Rattle.std.proofs.lemmas.List.{append-nil, length-take, take_all}
use Rattle.h41_commands.proofs.FirstLines.{first_fault}
use Rattle.h41_commands.specs.private.ItemReading.{ReadsFirst, ReadsNext}
use Rattle.h41_commands.specs.Faults as items
use Rattle.h41_commands.specs.Items.{Spelled, commands}
use Rattle.h41_commands.specs.declared.fault.ItemFault.{ItemFault}
use Rattle.h41_commands.specs.declared.fault.ItemFault.TheVariants as item
use Rattle.h41_debug.specs.Bench.{BenchState, start}
use Rattle.h41_ends.specs.Ends as reading
use Rattle.h41_ends.specs.Ends.{most_bytes}
use Rattle.h41_ends.specs.InputLines.{IsCounted, IsStopped, bytes_within}
use Rattle.h41_ends.specs.declared.fault.LineReadFault.{LineReadFault}
use Rattle.h41_ends.specs.declared.fault.LineReadFault.TheVariants as read
use Rattle.h41_ends.specs.declared.input_lines.InputLines.{InputLines}
use Rattle.h41_ends.specs.declared.sink.Sink as sinks
use Rattle.h41_ends.specs.declared.source.Source as sources
use Rattle.h41_ends.proofs.InputReading.{consumes-both, consumes-nothing, gives_too_many}
use Rattle.h41_lines.specs.Lines.{lines}
use Rattle.h41_deck.specs.Answers.{printed_text}
use Rattle.h41_deck.specs.Deck.{AnswersInTurn, Deck, DeckEnds, FaultLeaves, WritesText, is_of_write}
use Rattle.h41_refusals.specs.Faults.{of_command, of_item, of_line}
use Rattle.h41_deck.specs.Replies.{item_takes_memory}
use Rattle.h41_deck.specs.private.Writing as answering
use Rattle.h41_deck.specs.private.Writing.{Leaves}
use Rattle.h41_deck.specs.private.AnsweredLines.{AnswersLines}
use Rattle.h41_refusals.specs.declared.fault.CommandFault.{CommandFault}
use Rattle.h41_refusals.specs.declared.fault.CommandFault.TheVariants as command
use Rattle.h41_refusals.specs.declared.fault.Fault.{Fault}
use Rattle.h41_refusals.specs.declared.fault.Fault.TheVariants.{OutOfMemory, ReadFault, WriteFault}
use Rattle.h41_deck.specs.declared.replies.Outcome.{Outcome}
use Rattle.h41_deck.proofs.AnswersInTurn.{Told, done_answered, leaves_all, leaves_at, leaves_ended, leaves_unpassed, told_kept, told_none}
use Rattle.h41_deck.proofs.LinesLeft.{left_spelled}
use Rattle.h41_deck.proofs.DeckReading.{Begins, IsWholeDeck, ReadSoFar, begins_block, begins_done, begins_more, deck_is, ended_done}

-- A result that is not an error, and one that is.
pub never_failed : {T E : Type 0} {x : T} {why : E} → Ok x ≡ Err why → ⊥
never_failed is = cc

pub same_fault : {T E : Type 0} {a b : E} (r : Result T E) → r ≡ Err a → r ≡ Err b → a ≡ b
same_fault r is other = let same = sym is ∙ other in cc

-- A number below one that is at most another.
pub below_most : (a b c : ℕ) → a ≤ b → b < c → a < c
below_most a b c most below = omega arith

-- The whole deck.
module _ {registers : ℕ} (known after old new : Option (List ℕ)) (done : List Spelled) (s : BenchState) (outcome : Outcome)
    (whole : IsWholeDeck known after done) (told : Told registers old new done s outcome) where
  answered : AnswersInTurn (commands (lines whole.bytes)) (start registers) told.answers
  answered = subst (λ (items : List Spelled). AnswersInTurn items (start registers) told.answers) (sym whole.spelled)
      (done_answered old new done s outcome told)

  pub deck_written : IfSome known (WritesText (Deck registers) old new)
  deck_written = deck_is known after done (WritesText (Deck registers) old new) whole (
    flat_map printed_text told.answers,
    (told.answers, record { bound = whole.bound; answered = answered }, refl),
    told.written,
  )

  pub deck_ended : IfSome known (λ deck. DeckEnds registers deck outcome)
  deck_ended = deck_is known after done (λ deck. DeckEnds registers deck outcome) whole
      (told.answers, record { bound = whole.bound; answered = answered }, told.outcome_is)

more_begins : (known mid after : Option (List ℕ)) (input next : InputLines) (done : List Spelled) (so_far : ReadSoFar known mid input done)
    (fault : ItemFault) (more : ReadsNext (Err fault) mid after input next) → Begins (so_far.bytes ++ more.reads.bytes) done
more_begins known mid after input next done so_far fault more =
    begins_more known mid after input next done so_far more.reads.bytes more.lines
    (more.reads.read so_far.bytes so_far.told so_far.read) (λ end. (more.reads.stays end).1)

never_read : (fault : CommandFault) → of_command fault ≢ ReadFault
never_read command.OutOfMemory is = cc
never_read command.WriteFault is = cc

module _ {R W : Type 0} (registers : ℕ) (source : sources.Ghosts R) (sink : sinks.Ghosts W) where
  -- An error before anything was read.
  pub leaves_none : (reader : R) (writer : W) → FaultLeaves registers OutOfMemory source sink reader reader writer writer
  leaves_none reader writer = record {
    bytes = [];
    read = consumes-nothing (source.remaining reader);
    leaves = leaves_all _ _ [] (start registers) _ (told_none registers (sink.contents writer)) (bytes_within [])
        (commands (lines (bytes_within []))) refl (inl refl);
    cause = λ is. cc;
    why = λ is. cc;
  }

  -- The next item was not read.
  pub leaves_item : (first mid after : R) (old before new : W) (input next : InputLines) (done : List Spelled) (s : BenchState)
      (outcome : Outcome) (fault : ItemFault) → ReadSoFar (source.remaining first) (source.remaining mid) input done
      → Told registers (sink.contents old) (sink.contents before) done s outcome
      → ReadsNext (Err fault) (source.remaining mid) (source.remaining after) input next
      → Keeps (sink.contents before) (sink.contents new) → (fault ≡ item.ReadFault → IsStopped next)
      → (fault ≡ item.ReadFault → (source.failed after ≡ true) ⊎ (next.is_over ≡ true))
      → IsCounted next (source.given first) (source.given after)
      → FaultLeaves registers (of_item fault) source sink first after old new
  leaves_item first mid after old before new input next done s outcome item.OutOfMemory so_far told more kept stopped cause counted =
      let block =
      begins_block (source.remaining first) (source.remaining mid) (source.remaining after) input next done so_far more in
      record {
        bytes = so_far.bytes ++ more.reads.bytes;
        read = consumes-both _ _ _ so_far.bytes more.reads.bytes so_far.consumed more.reads.consumed;
        leaves = leaves_all _ _ done s outcome (told_kept _ _ _ done s outcome told kept)
            (bytes_within (so_far.bytes ++ more.reads.bytes)) (commands block.left)
            (left_spelled (bytes_within (so_far.bytes ++ more.reads.bytes)) done block.left block.lines_left)
            (inr (inr (block.left, block.lines_left, block.opens)));
        cause = λ is. cc;
        why = λ is. cc;
      }
  leaves_item first mid after old before new input next done s outcome item.ReadFault so_far told more kept stopped cause counted =
      let begins = more_begins (source.remaining first) (source.remaining mid) (source.remaining after) input next done so_far
      item.ReadFault more in
      let read = more.reads.read so_far.bytes so_far.told so_far.read in
      record {
        bytes = so_far.bytes ++ more.reads.bytes;
        read = consumes-both _ _ _ so_far.bytes more.reads.bytes so_far.consumed more.reads.consumed;
        leaves = leaves_ended _ _ done s outcome (told_kept _ _ _ done s outcome told kept)
            (bytes_within (so_far.bytes ++ more.reads.bytes)) begins.rest begins.begins
            (ended_done _ _ _ input next done so_far more (stopped refl));
        cause = λ is. elim (cause refl) [
          | inl failed ↦ inl failed
          | inr over ↦ inr (ltb-true most_bytes (length (so_far.bytes ++ more.reads.bytes)) (sym read.over ∙ over))
        ];
        why = λ is. elim (cause refl) [
          | inl failed ↦ inl failed
          | inr over ↦
              let beyond : most_bytes < length (so_far.bytes ++ more.reads.bytes) =
              ltb-true most_bytes (length (so_far.bytes ++ more.reads.bytes)) (sym read.over ∙ over) in
              inr (gives_too_many next (source.given first) (source.given after) counted over
              (omega (arith, read.count, beyond, length-take most_bytes (so_far.bytes ++ more.reads.bytes))))
        ];
      }
  leaves_item first mid after old before new input next done s outcome item.WriteFault so_far told more kept stopped cause counted =
      let begins = more_begins (source.remaining first) (source.remaining mid) (source.remaining after) input next done so_far
      item.WriteFault more in
      record {
        bytes = so_far.bytes ++ more.reads.bytes;
        read = consumes-both _ _ _ so_far.bytes more.reads.bytes so_far.consumed more.reads.consumed;
        leaves = leaves_unpassed _ _ done s outcome (told_kept _ _ _ done s outcome told kept)
            (bytes_within (so_far.bytes ++ more.reads.bytes)) begins.rest begins.begins;
        cause = λ is. cc;
        why = λ is. cc;
      }

  -- The first line of the next item was not read.
  pub leaves_first : (first mid after : R) (old before new : W) (input next : InputLines) (done : List Spelled) (s : BenchState)
      (outcome : Outcome) (why : LineReadFault) → ReadSoFar (source.remaining first) (source.remaining mid) input done
      → Told registers (sink.contents old) (sink.contents before) done s outcome
      → ReadsFirst (Err why) (source.remaining mid) (source.remaining after) input next
      → Keeps (sink.contents before) (sink.contents new) → (why ≡ read.ReadFault → IsStopped next)
      → (why ≡ read.ReadFault → (source.failed after ≡ true) ⊎ (next.is_over ≡ true))
      → IsCounted next (source.given first) (source.given after)
      → FaultLeaves registers (of_line why) source sink first after old new
  leaves_first first mid after old before new input next done s outcome read.ReadFault so_far told more kept stopped cause counted =
      leaves_item first mid after old before new input next done s outcome item.ReadFault so_far told
      (first_fault (source.remaining mid) (source.remaining after) input next read.ReadFault more) kept
      (λ is. stopped refl) (λ is. cause refl) counted
  leaves_first first mid after old before new input next done s outcome read.WriteFault so_far told more kept stopped cause counted =
      leaves_item first mid after old before new input next done s outcome item.WriteFault so_far told
      (first_fault (source.remaining mid) (source.remaining after) input next read.WriteFault more) kept
      (λ is. cc) (λ is. cc) counted

  -- The next item was not answered.
  pub leaves_answer : (first after : R) (old before new : W) (next : InputLines) (done : List Spelled) (s t : BenchState)
      (outcome : Outcome) (given : Spelled) (fault : CommandFault)
      → ReadSoFar (source.remaining first) (source.remaining after) next (done ++ given ∷ [])
      → Told registers (sink.contents old) (sink.contents before) done s outcome → Leaves (Err fault) given s t sink.contents before new
      → (fault ≡ command.OutOfMemory → item_takes_memory given ≡ true)
      → FaultLeaves registers (of_command fault) source sink first after old new
  leaves_answer first after old before new next done s t outcome given fault so_far told leaves memory =
      let begins = begins_done (source.remaining first) (source.remaining after) next (done ++ given ∷ []) so_far in
      record {
        bytes = so_far.bytes;
        read = so_far.consumed;
        leaves = leaves_at sink.contents old before new done begins.rest s t outcome given
            (bytes_within so_far.bytes) fault told begins.begins leaves memory;
        cause = λ is. absurd (never_read fault is);
        why = λ is. absurd (never_read fault is);
      }

  -- The whole deck was answered, but not flushed.
  pub leaves_whole : (first after : R) (old before new : W) (done : List Spelled) (s : BenchState) (outcome : Outcome)
      → IsWholeDeck (source.remaining first) (source.remaining after) done
      → Told registers (sink.contents old) (sink.contents before) done s outcome → Keeps (sink.contents before) (sink.contents new)
      → FaultLeaves registers WriteFault source sink first after old new
  leaves_whole first after old before new done s outcome whole told kept = record {
    bytes = whole.bytes;
    read = whole.consumed;
    leaves = leaves_unpassed _ _ done s outcome (told_kept _ _ _ done s outcome told kept) (bytes_within whole.bytes) []
        (ap (λ (bytes : List ℕ). commands (lines bytes)) (take_all most_bytes whole.bytes whole.bound)
        ∙ whole.spelled ∙ sym (append-nil done));
    cause = λ is. cc;
    why = λ is. cc;
  }

  -- What is written when allocation failed is flushed, or is not.
  pub leaves_passed : (first after : R) (old before new : W) → FaultLeaves registers OutOfMemory source sink first after old before
      → Keeps (sink.contents before) (sink.contents new) → FaultLeaves registers OutOfMemory source sink first after old new
  leaves_passed first after old before new left kept = record {
    bytes = left.bytes;
    read = left.read;
    leaves = (left.leaves.0, left.leaves.1, Appends-kept _ _ _ left.leaves.0 left.leaves.2 kept);
    cause = λ is. cc;
    why = λ is. cc;
  }

  pub leaves_stuck : (first after : R) (old before new : W) → FaultLeaves registers OutOfMemory source sink first after old before
      → Keeps (sink.contents before) (sink.contents new) → FaultLeaves registers WriteFault source sink first after old new
  leaves_stuck first after old before new left kept = record {
    bytes = left.bytes;
    read = left.read;
    leaves = (
      left.leaves.0,
      left.leaves.1.0,
      length left.leaves.0,
      subst (Appends (sink.contents old) (sink.contents new)) (sym (take_all (length left.leaves.0) left.leaves.0 (omega arith)))
          (Appends-kept _ _ _ left.leaves.0 left.leaves.2 kept),
    );
    cause = λ is. cc;
    why = λ is. cc;
  }

  -- Everything that an end without an error leaves.
  pub ended : (first after : R) (old new : W) (outcome : Outcome)
      → IfSome (source.remaining first) (WritesText (Deck registers) (sink.contents old) (sink.contents new))
      → IfSome (source.remaining first) (λ deck. DeckEnds registers deck outcome) → sink.flushed new ≡ true
      → source.failed after ≡ false → sink.failed new ≡ false → AnswersLines registers (Ok outcome) source sink first after old new
  ended first after old new outcome written ends flushed reader writer = record {
    deck = written;
    outcome = ends;
    flushed = flushed;
    left = tt;
    passed = λ is. cc;
    reader = λ other. reader;
    writer = writer;
  }

  -- Everything that an error leaves, by the stream that failed.
  pub failed : (first after : R) (old new : W) (fault : Fault) → FaultLeaves registers fault source sink first after old new
      → (fault ≡ ReadFault → sink.flushed new ≡ true) → (fault ≢ ReadFault → source.failed after ≡ false)
      → sink.failed new ≡ is_of_write fault → AnswersLines registers (Err fault) source sink first after old new
  failed first after old new fault left passed reader writer = record {
    deck = tt;
    outcome = tt;
    flushed = tt;
    left = left;
    passed = λ is. passed cc;
    reader = λ other. reader (λ is. other (ap (λ why. Err why) is));
    writer = writer;
  }

  -- The error in a result.
  pub told_fault : (first after : R) (old new : W) (result : Result Outcome Fault) (fault other : Fault) → result ≡ Err fault
      → fault ≡ other → AnswersLines registers (Err other) source sink first after old new
      → AnswersLines registers result source sink first after old new
  told_fault first after old new result fault other is was lines =
      subst (λ (of : Result Outcome Fault). AnswersLines registers of source sink first after old new)
      (sym (is ∙ ap (λ (why : Fault). Err why) was)) lines

  pub failed_first : (first after : R) (old new : W) (why : LineReadFault)
      → FaultLeaves registers (of_line why) source sink first after old new
      → (why ≡ read.ReadFault → sink.flushed new ≡ true) → (why ≢ read.ReadFault → source.failed after ≡ false)
      → sink.failed new ≡ reading.is_of_write why → AnswersLines registers (Err (of_line why)) source sink first after old new
  failed_first first after old new read.ReadFault left passed reader writer = failed first after old new ReadFault left
      (λ is. passed refl) (λ other. absurd (other refl)) writer
  failed_first first after old new read.WriteFault left passed reader writer = failed first after old new WriteFault left
      (λ is. cc) (λ other. reader (λ is. cc)) writer

  pub failed_item : (first after : R) (old new : W) (fault : ItemFault)
      → FaultLeaves registers (of_item fault) source sink first after old new
      → (fault ≡ item.ReadFault → sink.flushed new ≡ true) → (fault ≢ item.ReadFault → source.failed after ≡ false)
      → sink.failed new ≡ items.is_of_write fault → AnswersLines registers (Err (of_item fault)) source sink first after old new
  failed_item first after old new item.OutOfMemory left passed reader writer = failed first after old new OutOfMemory left
      (λ is. cc) (λ other. reader (λ is. cc)) writer
  failed_item first after old new item.ReadFault left passed reader writer = failed first after old new ReadFault left
      (λ is. passed refl) (λ other. absurd (other refl)) writer
  failed_item first after old new item.WriteFault left passed reader writer = failed first after old new WriteFault left
      (λ is. cc) (λ other. reader (λ is. cc)) writer

  pub failed_answer : (first after : R) (old new : W) (fault : CommandFault)
      → FaultLeaves registers (of_command fault) source sink first after old new → source.failed after ≡ false
      → sink.failed new ≡ answering.is_of_write fault → AnswersLines registers (Err (of_command fault)) source sink first after old new
  failed_answer first after old new command.OutOfMemory left reader writer = failed first after old new OutOfMemory left
      (λ is. cc) (λ other. reader) writer
  failed_answer first after old new command.WriteFault left reader writer = failed first after old new WriteFault left
      (λ is. cc) (λ other. reader) writer

  pub failed_write : (first after : R) (old new : W) → FaultLeaves registers WriteFault source sink first after old new
      → sink.failed new ≡ true → source.failed after ≡ false → AnswersLines registers (Err WriteFault) source sink first after old new
  failed_write first after old new left marked reader = failed first after old new WriteFault left
      (λ is. cc) (λ other. reader) marked
