-- What the execution of a block leaves. This file only connects the code with the other
-- definitions.
use Rattle.std.specs.Global.{Global}
use Rattle.std.specs.Prelude.{◌≡◌, ℕ, Bool, Vec, List, Option, Some, Ok}
use Rattle.h41_commands.specs.declared.commands.BlockKind.TheVariants.{Page, Program}
use Rattle.h41_commands.specs.declared.commands.PageKind.{PageKind}
use Rattle.h41_commands.specs.declared.commands.ProgramKind.{ProgramKind}
use Rattle.h41_commands.specs.private.TakenBlocks.{TakenBlock, judgement}
use Rattle.h41_debug.specs.Bench.{BenchState}
use Rattle.h41_refusals.specs.declared.refusal.Refusal.{Refusal}
use Rattle.h41_deck.specs.Answers.{ends_by}
use Rattle.h41_deck.specs.Replies.{LoadsBlock, Plugs, PlugsWords}

-- Words are plugged, or refused.
abbrev pub PlugsWordsOf : Vec ℕ Global → ℕ → ℕ → Bool → BenchState → BenchState → Option Refusal
    → Type 0
PlugsWordsOf words page bank writable s t refusal =
    PlugsWords page bank writable (Ok words.items) s t (ends_by refusal)

-- A block for a page is plugged, by its values, or refused.
pub record PlugsTaken (block : TakenBlock) (page bank : ℕ) (writable : Bool)
    (s t : BenchState) (refusal : Option Refusal) : Type 0 where
  pub kind : PageKind
  pub kind_is : block.kind ≡ Some (Page kind)
  pub values : List ℕ
  pub said : judgement block ≡ Ok values
  pub plugs : Plugs kind page bank writable values s t (ends_by refusal)

-- A block that is a program is loaded, by its values, or refused.
pub record LoadsTaken (block : TakenBlock) (s t : BenchState)
    (refusal : Option Refusal) : Type 0 where
  pub kind : ProgramKind
  pub kind_is : block.kind ≡ Some (Program kind)
  pub values : List ℕ
  pub said : judgement block ≡ Ok values
  pub loads : LoadsBlock kind values s t (ends_by refusal)
