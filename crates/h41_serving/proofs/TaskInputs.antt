-- What a task whose input is read completely leaves.
use Rattle.std.proofs.Common.{inl, inr, ◌≡◌, ◌≢◌, ◌⊎◌, ℕ, ◌<◌, true, false, List, [], length, take, Option, Some}
use Rattle.std.proofs.Common.{None, Result, Err, Ok, IfErr, IfSome, refl, sym, subst, ◌∙◌}
use Rattle.std.proofs.lemmas.List.{append-nil}
use Rattle.std.specs.Io.KnownBytes.{Appends, Keeps}
use Rattle.h41_jobs.specs.declared.arguments.Task.TheVariants as tasks
use Rattle.h41_ends.specs.declared.sink.Sink as sinks
use Rattle.h41_ends.specs.declared.source.Source as sources
use Rattle.h41_ends.specs.Ends.{GivesWithin, most_bytes}
use Rattle.h41_refusals.specs.declared.fault.Fault.{Fault}
use Rattle.h41_refusals.specs.declared.fault.Fault.TheVariants.{OutOfMemory, ReadFault, WriteFault}
use Rattle.h41_jobs.specs.declared.ended.Ended.{Ended}
use Rattle.h41_jobs.specs.Inputs.{IsAllOfInput}
use Rattle.h41_jobs.specs.Texts.{AssemblyEnds, AssemblyText, HasNoWrongWord, IsNotRefused, ListingEnds, ListingText}
use Rattle.h41_serving.specs.Tasks.{IsTooLong, WritesFrontOf, WritesTextOf}
use Rattle.h41_serving.specs.private.CarriedOut.{CarriesOut, CarriesOutWhole}

-- What holds of the bytes holds of the input, because they are the whole of it.
whole_holds : (known : Option (List ℕ)) (bytes : List ℕ) (P : List ℕ → Type 0) → IfSome known (IsAllOfInput bytes)
    → P bytes → IfSome known P
whole_holds None bytes P read holds = tt
whole_holds (Some input) bytes P read holds = subst P read.all holds

-- A text of the bytes is written, or a prefix of it.
whole_text : (text_of : List ℕ → List ℕ → Type 0) (known old new : Option (List ℕ)) (bytes text : List ℕ)
    → IfSome known (IsAllOfInput bytes) → text_of bytes text → Appends old new text → IfSome known (WritesTextOf text_of old new)
whole_text text_of known old new bytes text read has written =
    whole_holds known bytes (WritesTextOf text_of old new) read (text, has, written)

whole_front : (text_of : List ℕ → List ℕ → Type 0) (known old new : Option (List ℕ)) (bytes text : List ℕ)
    → IfSome known (IsAllOfInput bytes) → text_of bytes text → (count : ℕ) × Appends old new (take count text)
    → IfSome known (WritesFrontOf text_of old new)
whole_front text_of known old new bytes text read has front =
    whole_holds known bytes (WritesFrontOf text_of old new) read (text, has, front.0, front.1)

-- Nothing is written for an input that is too long.
nothing_long : (known old new : Option (List ℕ)) → Keeps old new → IfSome known (λ input. most_bytes < length input)
    → IfSome known (WritesTextOf IsTooLong old new)
nothing_long None old new kept long = tt
nothing_long (Some input) None new kept long = ([], record { too_long = long; nothing = refl }, tt)
nothing_long (Some input) (Some before) None kept long = absurd kept
nothing_long (Some input) (Some before) (Some after) kept long =
    ([], record { too_long = long; nothing = refl }, kept ∙ sym (append-nil before))

-- Why an input was not read completely, with nothing written.
why_unread : {F G : Type 0} (known old new : Option (List ℕ)) → Keeps old new
    → F ⊎ (G × IfSome known (λ input. most_bytes < length input)) → F ⊎ (G × IfSome known (WritesTextOf IsTooLong old new))
why_unread known old new kept unread = elim unread [
  | inl failed ↦ inl failed
  | inr long ↦ inr (long.0, nothing_long known old new kept long.1)
]

-- For such a task nothing has to be flushed.
passed_none : (result : Result Ended Fault) → IfErr result (λ fault. fault ≢ WriteFault → Unit {0})
passed_none (Ok ended) = tt
passed_none (Err fault) = λ other. tt

module _ {R W : Type 0} (result : Result Ended Fault) (source : sources.Ghosts R) (sink : sinks.Ghosts W) (before after : R)
    (old new : W) where
  -- Unless writing failed, nothing is written.
  kept : (fault : Fault) → fault ≢ WriteFault → result ≡ Err fault
      → IfErr result (λ fault. fault ≢ WriteFault → Keeps (sink.contents old) (sink.contents new))
      → Keeps (sink.contents old) (sink.contents new)
  kept fault other is nothing = subst (λ (of : Result Ended Fault). IfErr of
      (λ fault. fault ≢ WriteFault → Keeps (sink.contents old) (sink.contents new))) is nothing other

  kept_unread : result ≡ Err ReadFault → IfErr result (λ fault. fault ≢ WriteFault → Keeps (sink.contents old) (sink.contents new))
      → Keeps (sink.contents old) (sink.contents new)
  kept_unread = kept ReadFault (λ same. cc)

  kept_memory : result ≡ Err OutOfMemory → IfErr result (λ fault. fault ≢ WriteFault → Keeps (sink.contents old) (sink.contents new))
      → Keeps (sink.contents old) (sink.contents new)
  kept_memory = kept OutOfMemory (λ same. cc)

  -- What is promised for a source, or for a list of words, is what a task promises.
  pub assembled : (origin : ℕ)
      → CarriesOutWhole (AssemblyText origin) (AssemblyEnds origin) HasNoWrongWord result source sink before after old new
      → CarriesOut (tasks.Assemble origin) result source sink before after old new
  assembled origin whole = record {
    text = whole.text;
    ends = whole.ends;
    kind = whole.kind;
    flushed = whole.flushed;
    read = λ is. why_unread _ _ _ (kept_unread is whole.nothing) (whole.unread is);
    partial = whole.nothing;
    unread = λ is. kept_unread is whole.nothing;
    memory = λ is. kept_memory is whole.nothing;
    cut = whole.cut;
    passed = passed_none result;
    within = whole.within;
    reader = whole.reader;
    writer = whole.writer;
  }

  pub listed : (origin : ℕ) → CarriesOutWhole ListingText ListingEnds IsNotRefused result source sink before after old new
      → CarriesOut (tasks.List origin) result source sink before after old new
  listed origin whole = record {
    text = whole.text;
    ends = whole.ends;
    kind = whole.kind;
    flushed = whole.flushed;
    read = λ is. why_unread _ _ _ (kept_unread is whole.nothing) (whole.unread is);
    partial = whole.nothing;
    unread = λ is. kept_unread is whole.nothing;
    memory = λ is. kept_memory is whole.nothing;
    cut = whole.cut;
    passed = passed_none result;
    within = whole.within;
    reader = whole.reader;
    writer = whole.writer;
  }

module _ {R W : Type 0} (text_of : List ℕ → List ℕ → Type 0) (ends_of : Ended → List ℕ → Type 0) (may_end : Ended → Type 0)
    (source : sources.Ghosts R) (sink : sinks.Ghosts W) (before after : R) (old new : W) (bytes text : List ℕ)
    (read : IfSome (source.remaining before) (IsAllOfInput bytes)) (has : text_of bytes text) (reader : source.failed after ≡ false)
    (within : GivesWithin (source.given before) (source.given after)) where
  -- Writing the text fails.
  pub not_written : (count : ℕ) × Appends (sink.contents old) (sink.contents new) (take count text) → sink.failed new ≡ true
      → CarriesOutWhole text_of ends_of may_end (Err WriteFault) source sink before after old new
  not_written front mark = record {
    text = tt;
    ends = tt;
    kind = tt;
    flushed = tt;
    unread = λ is. cc;
    nothing = λ other. absurd (other refl);
    cut = λ is. whole_front text_of _ _ _ bytes text read has front;
    within = within;
    reader = λ other. reader;
    writer = mark;
  }

  -- The text is written completely.
  pub written_whole : (ended : Ended) → ends_of ended bytes → may_end ended
      → Appends (sink.contents old) (sink.contents new) text → sink.flushed new ≡ true → sink.failed new ≡ false
      → CarriesOutWhole text_of ends_of may_end (Ok ended) source sink before after old new
  written_whole ended ends kind written flushed writer = record {
    text = whole_text text_of _ _ _ bytes text read has written;
    ends = whole_holds _ bytes (ends_of ended) read ends;
    kind = kind;
    flushed = flushed;
    unread = λ is. cc;
    nothing = tt;
    cut = λ is. cc;
    within = within;
    reader = λ other. reader;
    writer = writer;
  }
