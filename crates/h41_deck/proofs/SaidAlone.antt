-- What a command prints, by the results of the code.
use Rattle.std.proofs.Common.{◌≡◌, ℕ, List, Option, Result, Ok, Err, subst, sym}
use Rattle.std.proofs.KnownBytes.{Keeps-refl}
use Rattle.h41_commands.specs.Items.{Spelled}
use Rattle.h41_commands.specs.declared.commands.Command.{Command}
use Rattle.h41_debug.specs.Bench.{BenchState}
use Rattle.h41_refusals.specs.declared.fault.CommandFault.{CommandFault}
use Rattle.h41_refusals.specs.declared.fault.CommandFault.TheVariants.{OutOfMemory, WriteFault}
use Rattle.h41_refusals.specs.declared.refusal.Refusal.{Refusal}
use Rattle.h41_deck.specs.private.Writing.{LeavesText, RepliesInPart}

-- What holds whatever values a block would have holds for the command.
pub alone_is : (P : Spelled → Type 0) (command other : Command) → command ≡ other → ((values : List ℕ) → P (Ok (other, values)))
    → (values : List ℕ) → P (Ok (command, values))
alone_is P command other is told values = subst (λ (of : Command). P (Ok (of, values))) (sym is) (told values)

module _ {W : Type 0} (result : Result (Option Refusal) CommandFault) (why : CommandFault) (is : result ≡ Err why) (item : Spelled)
    (s t : BenchState) (contents : W → Option (List ℕ)) (old : W) where
  -- If allocation failed nothing is written, and if writing failed a part.
  pub nothing_said : why ≡ OutOfMemory → LeavesText result item s t contents old old
  nothing_said was = rw (is, was) (Keeps-refl (contents old))

  pub part_said : (new : W) → why ≡ WriteFault → RepliesInPart item s t (contents old) (contents new)
      → LeavesText result item s t contents old new
  part_said new was part = rw (is, was) part
