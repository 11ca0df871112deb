-- What `run` prints. The form is this project's choice.
use Rattle.std.specs.Prelude.{ℕ, List, ◌++◌, codes, Option, Some, None}
use Rattle.std.specs.Fmt.{decimal}
use Rattle.h41_debug.specs.declared.run.Stop.{Stop}
use Rattle.h41_debug.specs.declared.run.Stop.TheVariants.{Break, Idle, Limit, Refused}
use Rattle.h41_refusals.specs.declared.refusal.Refusal.{Refusal}
use Rattle.h41_refusals.specs.declared.refusal.Refusal.TheVariants.{Calculator}
use Rattle.h41_deck.specs.Answers.{Answer, says_and_ends}

-- Why a run stopped, as the word that is printed.
abbrev pub stop_name : Stop → List ℕ
stop_name Idle = codes "Idle"
stop_name Break = codes "Break"
stop_name Limit = codes "Limit"
stop_name (Refused refusal) = codes "Refused"

-- The refusal that a run stopped for, if it did.
abbrev pub stop_refusal : Stop → Option Refusal
stop_refusal Idle = None
stop_refusal Break = None
stop_refusal Limit = None
stop_refusal (Refused refusal) = Some (Calculator refusal)

-- The line of a run: how many steps it made, and why it stopped.
abbrev pub ran_text : ℕ → Stop → List ℕ
ran_text made why = codes "ran " ++ decimal made ++ codes " " ++ stop_name why ++ codes "\n"

-- The answer of `run`.
abbrev pub run_answer : ℕ → Stop → Answer
run_answer made why = says_and_ends (ran_text made why) (stop_refusal why)
