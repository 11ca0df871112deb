-- How it is reported why a file cannot be read.
use Rattle.std.specs.Prelude.{◌≡◌, ℕ, Bool, true, false, List, [], ◌++◌, codes}
use Rattle.h41_ends.specs.declared.sink.Sink as sinks
use Rattle.h41_serving.specs.Tasks.{Tells}

-- The line with the operating system's message about a file, after the name of the program and the
-- name of the file.
abbrev pub cause_line : List ℕ → List ℕ → List ℕ
cause_line file cause =
    codes "bench" ++ (codes ": " ++ (file ++ (codes ": " ++ (cause ++ codes "\n"))))

-- A text is written after others. If the stream has failed before, nothing is written.
pub record TellsOn {E : Type 0} (stderr : sinks.Ghosts E) (old new : E) (text : List ℕ)
    : Type 0 where
  pub clear : stderr.failed old ≡ false → Tells stderr old new text
  pub failed : stderr.failed old ≡ true → new ≡ old

-- The operating system's message about this file is written in this way.
abbrev pub SaysCause : {E : Type 0} → sinks.Ghosts E → E → E → List ℕ → Type 0
SaysCause stderr old new file = (cause : List ℕ) × TellsOn stderr old new (cause_line file cause)

-- What is reported of a file after the line of the error: the operating system's message, if a read
-- has failed.
abbrev pub IsSaid : List ℕ → Bool → List ℕ → Type 0
IsSaid file false said = said ≡ []
IsSaid file true said = (cause : List ℕ) × (said ≡ cause_line file cause)
