-- What a command answers, and how the answer is printed. The language is this project's own.
use Rattle.std.specs.Prelude.{ℕ, List, [], ◌++◌, Option, Some, None, Result, Ok, Err}
use Rattle.h41_refusals.specs.declared.refusal.Refusal.{Refusal}
use Rattle.h41_refusals.specs.Refusals.{refusal_line}

-- The answer of a command: a text, followed by its refusal, if it is refused.
pub record Answer : Type 0 where
  pub text : List ℕ
  pub refusal : Option Refusal

-- No text, and a refusal if there is one.
abbrev pub ends_by : Option Refusal → Answer
ends_by refusal = record { text = []; refusal = refusal }

-- A text, followed by a refusal if there is one.
abbrev pub says_and_ends : List ℕ → Option Refusal → Answer
says_and_ends text refusal = record { text = text; refusal = refusal }

-- A text without a refusal.
abbrev pub says : List ℕ → Answer
says text = record { text = text; refusal = None }

-- A text, or a refusal without a text.
abbrev pub says_or_ends : Result (List ℕ) Refusal → Answer
says_or_ends (Ok text) = says text
says_or_ends (Err refusal) = ends_by (Some refusal)

-- A text, unless there is a refusal.
abbrev pub text_unless : Option Refusal → List ℕ → Result (List ℕ) Refusal
text_unless None text = Ok text
text_unless (Some refusal) text = Err refusal

-- The line of a refusal, if there is one.
abbrev pub ending_line : Option Refusal → List ℕ
ending_line None = []
ending_line (Some refusal) = refusal_line refusal

-- How an answer is printed.
abbrev pub printed_text : Answer → List ℕ
printed_text answer = answer.text ++ ending_line answer.refusal
