-- The contents of views and blocks.
use Rattle.h41_laws_calculator.proofs.Chosen.{one_made}
use Rattle.std.proofs.Common.{◌≡◌, ◌⊎◌, ℕ, List, Option, Some, None, Result, Ok, Err, flat_map, inl, inr, refl, ap, arith, rules}
use Rattle.std.specs.Prelude.{IsSome, option_map}
use Rattle.h41_asm.specs.Assembly.{Assembles}
use Rattle.h41_asm.specs.AssemblyLaws.{HasFault, HasWords, HasWordsOrFault, NeverBoth, WordsAreDetermined}
use Rattle.h41_asm.specs.Faults.{assembly_fault}
use Rattle.h41_asm.specs.declared.fault.SourceFault.{SourceFault}
use Rattle.h41_commands.specs.Commands.{and_then}
use Rattle.h41_commands.specs.PageBlocks.{SourceMakes, page_address, source_refusal, words_of_page}
use Rattle.h41_commands.specs.declared.commands.PageKind.TheVariants.{Asm, Image, Words}
use Rattle.h41_commands.specs.declared.commands.View.TheVariants as views
use Rattle.h41_commands.specs.declared.refusal.LineRefusal.{LineRefusal}
use Rattle.h41_commands.specs.declared.refusal.LineRefusal.TheVariants.{Source}
use Rattle.h41_program.specs.ProgramLaws.{ListsAreDetermined, OneList}
use Rattle.h41_views.specs.ProgramListing.{listed_line}
use Rattle.h41_deck.specs.Views.{line_of}
use Rattle.h41_laws_words.specs.HasOne.{HasOne}
use Rattle.h41_laws_calculator.specs.CalculatorAnswers.{DisplayHasOneText}
use Rattle.h41_laws_decks.specs.DeckAnswers.{PageBlockSaysOne, ViewHasOneText}

-- An answer that an equation gives.
pub given : {A : Type 0} (other : A) → HasOne (λ answer. answer ≡ other)
given other = record { answer = other; right = refl; only = λ answer is. is }

-- Views.
pub one_view : OneList → ListsAreDetermined → DisplayHasOneText → ViewHasOneText
one_view lists same display views.Lines s =
    let all = lists s.calculator.nut.ram 0 in
    one_made (λ (text : List ℕ). Ok text) (one_made (flat_map listed_line) (record {
      answer = all.lines;
      right = all.from;
      only = λ other is. same s.calculator.nut.ram 0 other all.lines is all.from;
    }))
one_view lists same display views.Display s = one_made (λ (text : List ℕ). Ok (line_of text)) (display s.calculator)
one_view lists same display view s = given _

-- The refusal for an error.
refusal_of : {A B : Type 0} (of : A → B) (found : Option A) → IsSome found → (refusal : B) × (option_map of found ≡ Some refusal)
refusal_of of None is = cc
refusal_of of (Some fault) is = (of fault, refl)

fault_of : {A B : Type 0} (of : A → B) (found : Option A) (refusal : B) → option_map of found ≡ Some refusal → IsSome found
fault_of of None refusal is = cc
fault_of of (Some fault) refusal is = refl

same_some : {B : Type 0} (a b : B) → Some a ≡ Some b → a ≡ b
same_some a b is = cc

-- Sources.
abbrev told : SourceFault × ℕ → LineRefusal
told found = Source found.0 found.1

module _ (either : HasWordsOrFault) (never : NeverBoth) (same : WordsAreDetermined) where
  has_fault : (source : List ℕ) (origin : ℕ) (refusal : LineRefusal) → source_refusal source origin ≡ Some refusal → HasFault source origin
  has_fault source origin refusal is = fault_of told (assembly_fault source origin) refusal is

  only_words : (source : List ℕ) (origin : ℕ) (words : List ℕ) → Assembles source origin words → (other : Result (List ℕ) LineRefusal)
      → SourceMakes source origin other → other ≡ Ok words
  only_words source origin words spells (Ok more) is = ap (λ (of : List ℕ). Ok of) (same source origin more words is spells)
  only_words source origin words spells (Err refusal) is = search (rules, has_fault)

  only_refusal : (source : List ℕ) (origin : ℕ) (refusal : LineRefusal) → source_refusal source origin ≡ Some refusal
      → (other : Result (List ℕ) LineRefusal) → SourceMakes source origin other → other ≡ Err refusal
  only_refusal source origin refusal refused (Ok words) is = search (rules, has_fault)
  only_refusal source origin refusal refused (Err why) is = search (rules, same_some)

  one_source : (source : List ℕ) (origin : ℕ) → HasWords source origin ⊎ HasFault source origin → HasOne (SourceMakes source origin)
  one_source source origin (inl words) = record { answer = Ok words.0; right = words.1; only = only_words source origin words.0 words.1 }
  one_source source origin (inr fault) =
      let refusal = refusal_of told (assembly_fault source origin) fault in
      record { answer = Err refusal.0; right = refusal.1; only = only_refusal source origin refusal.0 refusal.1 }

  pub one_block : PageBlockSaysOne
  one_block Words page values = given (Ok values)
  one_block Image page values = given (Ok values)
  one_block Asm page source =
      one_made (λ (of : Result (List ℕ) LineRefusal). and_then of words_of_page)
      (one_source source (page_address page) (either source (page_address page) (omega arith)))
