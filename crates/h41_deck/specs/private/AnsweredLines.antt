-- What executing all lines of a deck leaves. This is what the whole deck promises, except that what
-- is written need not be flushed if allocation failed.
use Rattle.std.specs.Prelude.{◌≡◌, ◌≢◌, ℕ, true, false, Result, Err, IfOk, OnOk}
use Rattle.h41_ends.specs.declared.source.Source as sources
use Rattle.h41_ends.specs.declared.sink.Sink as sinks
use Rattle.h41_refusals.specs.declared.fault.Fault.{Fault}
use Rattle.h41_refusals.specs.declared.fault.Fault.TheVariants.{ReadFault}
use Rattle.h41_deck.specs.declared.replies.Outcome.{Outcome}
use Rattle.h41_deck.specs.Deck.{EndsKnown, LeavesDeck, WritesDeck, is_write_fault}

-- What executing the lines of a deck leaves, by its result.
pub record AnswersLines {R W : Type 0} (registers : ℕ) (result : Result Outcome Fault)
    (source : sources.Ghosts R) (sink : sinks.Ghosts W) (before after : R) (old new : W)
    : Type 0 where
  pub deck : WritesDeck registers result (source.remaining before) sink.contents old new
  pub outcome : IfOk result (EndsKnown registers (source.remaining before))
  pub flushed : OnOk result (sink.flushed new ≡ true)
  pub left : LeavesDeck registers result source sink before after old new
  pub passed : result ≡ Err ReadFault → sink.flushed new ≡ true
  pub reader : result ≢ Err ReadFault → source.failed after ≡ false
  pub writer : sink.failed new ≡ is_write_fault result
