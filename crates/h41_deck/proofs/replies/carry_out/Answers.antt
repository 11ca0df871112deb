use Rattle.std.proofs.Common.{◌≡◌, ◌≢◌, ℕ, true, refl}
use Rattle.h41_breakpoints.specs.declared.location.Location.{Location}
use Rattle.h41_commands.specs.declared.commands.Command.{Command}
use Rattle.h41_commands.specs.declared.commands.Command.TheVariants.{Break, Call, Key, Reset, Size, Step, Unbreak, Unplug}
use Rattle.h41_commands.specs.declared.commands.keys.PressedKeys.{PressedKeys}
use Rattle.h41_deck.specs.Replies.{is_silent}
use Rattle.h41_deck.proofs.replies.carry_out.Goals as goal

pub returns-in-Unplug : goal.returns-in-Unplug
returns-in-Unplug g c = rw c.in-Unplug.is (λ values. c.unplug.ensures)

pub returns-in-Size : goal.returns-in-Size
returns-in-Size g c = rw c.in-Size.is (λ values. c.size.ensures)

pub returns-in-Reset : goal.returns-in-Reset
returns-in-Reset g c = rw c.in-Reset.is (λ values. c.reset.ensures)

pub returns-in-Call : goal.returns-in-Call
returns-in-Call g c = rw c.in-Call.is (λ values. c.call.ensures)

pub returns-in-Key : goal.returns-in-Key
returns-in-Key g c = rw c.in-Key.is (λ values. c.press.ensures)

pub returns-in-Step : goal.returns-in-Step
returns-in-Step g c = rw c.in-Step.is (λ values. c.step.ensures)

pub returns-in-Break : goal.returns-in-Break
returns-in-Break g c = rw c.in-Break.is (λ values. c.set_break.ensures)

pub returns-in-Unbreak : goal.returns-in-Unbreak
returns-in-Unbreak g c = rw c.in-Unbreak.is (λ values. c.unbreak.ensures)

-- A command that prints nothing is one of these.
silent_named : (command : Command) → is_silent command ≡ true → ((page : ℕ) → command ≢ Unplug page)
    → ((count : ℕ) → command ≢ Size count) → command ≢ Reset → ((address : ℕ) → command ≢ Call address)
    → ((keys : PressedKeys) → command ≢ Key keys) → ((count : ℕ) → command ≢ Step count)
    → ((location : Location) → command ≢ Break location) → ((location : Location) → command ≢ Unbreak location) → ⊥
silent_named (Unplug page) silent unplug size reset call key step break unbreak = unplug page refl
silent_named (Size count) silent unplug size reset call key step break unbreak = size count refl
silent_named Reset silent unplug size reset call key step break unbreak = reset refl
silent_named (Call address) silent unplug size reset call key step break unbreak = call address refl
silent_named (Key keys) silent unplug size reset call key step break unbreak = key keys refl
silent_named (Step count) silent unplug size reset call key step break unbreak = step count refl
silent_named (Break location) silent unplug size reset call key step break unbreak = break location refl
silent_named (Unbreak location) silent unplug size reset call key step break unbreak = unbreak location refl
silent_named command silent unplug size reset call key step break unbreak = cc

pub unreachable-requires : goal.unreachable-requires
unreachable-requires g c =
    let other = c.in_default in
    silent_named c.args.command c.requires other.not-Unplug other.not-Size other.not-Reset other.not-Call other.not-Key
    other.not-Step other.not-Break other.not-Unbreak
