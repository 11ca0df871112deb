-- Which line a text is read as.
use Rattle.std.specs.Prelude.{◌≡◌, ◌≢◌, ℕ, List}
use Rattle.h41_codes.specs.declared.line.Line.{Line}
use Rattle.h41_codes.specs.declared.line.Line.TheVariants.{Null}
use Rattle.h41_codes.specs.ByteGrammar.{IsLine}
use Rattle.h41_codes.specs.Canon.{canonical_line}
use Rattle.h41_text.specs.LineText.{line_text}

-- The lines that have a text are all but the null.
pub record HasText (line : Line) : Type 0 where
  pub valid : IsLine line
  pub shown : line ≢ Null

-- A text is read as a line if the line is canonical and has this text.
pub record IsTextOf (text : List ℕ) (line : Line) : Type 0 where
  pub has : HasText line
  pub shortest : canonical_line line ≡ line
  pub same : line_text line ≡ text
