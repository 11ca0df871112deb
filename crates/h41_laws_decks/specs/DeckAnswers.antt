-- Views, blocks and commands have a result.
use Rattle.std.specs.Prelude.{ℕ, List}
use Rattle.h41_commands.specs.PageBlocks.{Fills}
use Rattle.h41_commands.specs.ProgramBlocks.{Means}
use Rattle.h41_commands.specs.declared.commands.Command.{Command}
use Rattle.h41_commands.specs.declared.commands.Command.TheVariants as commands
use Rattle.h41_commands.specs.declared.commands.PageKind.{PageKind}
use Rattle.h41_commands.specs.declared.commands.ProgramKind.{ProgramKind}
use Rattle.h41_commands.specs.declared.commands.ProgramKind.TheVariants.{Bytes, Text}
use Rattle.h41_commands.specs.declared.commands.View.{View}
use Rattle.h41_debug.specs.Bench.{BenchState}
use Rattle.h41_deck.specs.Answers.{Answer}
use Rattle.h41_deck.specs.Replies.{Reply}
use Rattle.h41_deck.specs.Views.{Shows}
use Rattle.h41_laws_words.specs.HasOne.{HasOne}
use Rattle.h41_laws_calculator.specs.BenchOutcomes.{KeysLeave, LeadsToRegisters}

-- Each view has exactly one text, or one refusal, in any state.
abbrev pub ViewHasOneText : Type 0
ViewHasOneText = (view : View) (s : BenchState) → HasOne (Shows view s)

-- A block for a page defines exactly one list of words, or one refusal, whatever its values.
abbrev pub PageBlockSaysOne : Type 0
PageBlockSaysOne = (kind : PageKind) (page : ℕ) (values : List ℕ) → HasOne (Fills kind page values)

-- A block of a program's bytes or text means exactly one program, or one refusal.
abbrev pub ProgramBlockMeansOne : Type 0
ProgramBlockMeansOne = (kind : ProgramKind) (values : List ℕ) → HasOne (Means kind values)

-- A state and an answer are those of a command.
abbrev pub ReplyLeaves : Command → List ℕ → BenchState → BenchState × Answer → Type 0
ReplyLeaves command values s left = Reply command values s left.0 left.1

-- The results that a load depends on: the text of a program must have a meaning.
abbrev pub LoadRestsOn : ProgramKind → List ℕ → Type 0
LoadRestsOn Bytes values = Unit {0}
LoadRestsOn Text source = HasOne (Means Text source)

-- The results that a command depends on: the meaning of a program's text, the outcome of keys, and
-- for steps that A, B and C have 14 digits in each state that they lead to.
abbrev pub RestsOn : Command → List ℕ → BenchState → Type 0
RestsOn (commands.Load kind) values s = LoadRestsOn kind values
RestsOn (commands.Key keys) values s = HasOne (KeysLeave keys s)
RestsOn (commands.Step count) values s = LeadsToRegisters s
RestsOn (commands.Run limit) values s = LeadsToRegisters s
RestsOn (commands.Trace count) values s = LeadsToRegisters s
RestsOn command values s = Unit {0}

-- Each command has exactly one reply from each state: one state, and one answer.
abbrev pub ReplyHasOneAnswer : Type 0
ReplyHasOneAnswer =
    (command : Command) (values : List ℕ) (s : BenchState) → RestsOn command values s
    → HasOne (ReplyLeaves command values s)
