-- The words that a source makes for a page.
use Rattle.std.proofs.Common.{◌≡◌, ℕ, List, Some, Ok, Err, Result, Vec, IfOk, refl, sym}
use Rattle.std.specs.Global.{Global}
use Rattle.h41_asm.specs.Assembly.{Assembles}
use Rattle.h41_asm.specs.Faults.{assembly_fault}
use Rattle.h41_asm.specs.declared.fault.SourceFault.{SourceFault}
use Rattle.h41_commands.specs.declared.commands.PageKind.TheVariants.{Asm}
use Rattle.h41_commands.specs.declared.refusal.LineRefusal.{LineRefusal}
use Rattle.h41_commands.specs.private.Contents.{values_in}
use Rattle.h41_commands.specs.PageBlocks.{Fills, words_of_page, page_address}
use Rattle.h41_commands.specs.declared.refusal.LineRefusal.TheVariants.{Source}

-- The words of the source.
pub fills_words : {E : Type 0} (source text : List ℕ) (page origin : ℕ)
    (words : List ℕ) (ended : Result (Result (Vec ℕ Global) LineRefusal) E)
    → text ≡ source → origin ≡ page_address page → Assembles text origin words → IfOk ended (λ made. values_in made ≡ words_of_page words)
    → IfOk ended (λ made. Fills Asm page source (values_in made))
fills_words source text page origin words (Ok made) same at spelled fits = (Ok words, rw (sym same, sym at) spelled, fits)
fills_words source text page origin words (Err why) same at spelled fits = fits

-- A source with an error.
pub fills_fault : (source text : List ℕ) (page origin line : ℕ) (fault : SourceFault) (why : LineRefusal) → text ≡ source
    → origin ≡ page_address page → assembly_fault text origin ≡ Some (fault, line) → why ≡ Source fault line
    → Fills Asm page source (Err why)
fills_fault source text page origin line fault why same at found own =
    (Err why, rw (sym same, sym at) (rw (found, own) refl), refl)
