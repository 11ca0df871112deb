-- What is found at a byte of memory.
use Rattle.std.proofs.Common.{ℕ, Ok, Err, refl}
use Rattle.h41_codes.specs.declared.line.Line.{Line}
use Rattle.h41_pages.specs.PageMap.{PageMap}
use Rattle.h41_positions.specs.Positions.{LineAndNext, in_memory}
use Rattle.h41_positions.specs.declared.position.Position.TheVariants.{Memory}
use Rattle.h41_program.specs.ProgramLines.{AnswersBoth}
use Rattle.h41_program.specs.declared.refusal.ProgramRefusal.{ProgramRefusal}
use Rattle.h41_program.specs.declared.refusal.ProgramRefusal.TheVariants.{BrokenProgram}
use Rattle.h41_ram.specs.RegisterMap.{RegisterMap}

pub both_here : (pages : PageMap) (memory : RegisterMap) (at : ℕ) (line : Line) (byte : ℕ)
    → AnswersBoth memory at (Ok (line, byte)) → LineAndNext pages memory (Memory at) (Ok (line, Memory byte))
both_here pages memory at line byte both = ((in_memory both.0.0, (Ok both.0.0, both.0.1, refl), both.0.2), (Ok byte, both.1, refl))

pub none_here : (pages : PageMap) (memory : RegisterMap) (at : ℕ) (refusal : ProgramRefusal)
    → AnswersBoth memory at (Err refusal) → LineAndNext pages memory (Memory at) (Err refusal)
none_here pages memory at refusal both = (both.0, (Err BrokenProgram, (refl, both.1), refl))
