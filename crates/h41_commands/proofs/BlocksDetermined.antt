-- Why a block determines its result, since the words of a source and the line of a text are
-- determined.
use Rattle.std.proofs.Common.{inl, inr, ◌≡◌, ℕ, suc, Result, option_map, IsSome, Option, Some, None, Ok, Err, List, [], ◌∷◌, refl, sym, ap}
use Rattle.std.proofs.Common.{◌∙◌}
use Rattle.h41_asm.specs.AssemblyLaws.{NeverBoth, WordsAreDetermined}
use Rattle.h41_asm.specs.Faults.{assembly_fault}
use Rattle.h41_asm.specs.declared.fault.SourceFault as asm
use Rattle.h41_codes.specs.declared.line.Line.{Line}
use Rattle.h41_program.specs.Packing.{packed_lines}
use Rattle.h41_text.specs.TextLaws.{OneLineOfText}
use Rattle.h41_commands.specs.declared.commands.PageKind.{PageKind}
use Rattle.h41_commands.specs.declared.commands.PageKind.TheVariants as kinds
use Rattle.h41_commands.specs.declared.commands.ProgramKind.{ProgramKind}
use Rattle.h41_commands.specs.declared.commands.ProgramKind.TheVariants as programs
use Rattle.h41_commands.specs.declared.refusal.LineRefusal.{LineRefusal}
use Rattle.h41_commands.specs.declared.refusal.LineRefusal.TheVariants.{Source}
use Rattle.h41_commands.specs.Commands.{and_then}
use Rattle.h41_commands.specs.PageBlocks.{Fills, SourceMakes, words_of_page, page_address}
use Rattle.h41_commands.specs.ProgramBlocks.{IsBadText, Means, SayLines, SaysLine, texts_of, with_more}

same_fault : (fault other : Option (asm.SourceFault × ℕ)) (why : LineRefusal)
    → option_map (λ found. Source found.0 found.1) fault ≡ Some why → fault ≡ other → IsSome other
same_fault None other why e same = cc
same_fault (Some found) other why e same = rw (sym same) refl

-- A text that is bad defines no line.
not_both : (text : List ℕ) (said : List Line) → IsBadText text → SaysLine text said → ⊥
not_both [] said bad says = bad
not_both (byte ∷ rest) said bad says = bad says.0 says.1

module _ (never_both : NeverBoth) (same_words : WordsAreDetermined) (same_line : OneLineOfText) where
  -- What texts define.
  same_said : (text : List ℕ) (a b : List Line) → SaysLine text a → SaysLine text b → a ≡ b
  same_said [] a b p q = p ∙ sym q
  same_said (byte ∷ rest) a b p q = p.2 ∙ ap (λ (line : Line). line ∷ []) (same_line (byte ∷ rest) p.0 q.0 p.1 q.1) ∙ sym q.2

  same_say : (number : ℕ) (texts : List (List ℕ)) (a b : Result (List Line) LineRefusal) → SayLines number texts a → SayLines number texts b
      → a ≡ b
  same_say number [] a b p q = p ∙ sym q
  same_say number (text ∷ texts) a b (inl p) (inl q) = p.1 ∙ sym q.1
  same_say number (text ∷ texts) a b (inl p) (inr q) = absurd (not_both text q.0 p.0 q.1)
  same_say number (text ∷ texts) a b (inr p) (inl q) = absurd (not_both text p.0 q.0 p.1)
  same_say number (text ∷ texts) a b (inr p) (inr q) =
      let said : p.0 ≡ q.0 = same_said text p.0 q.0 p.1 q.1 in
      let more : p.2 ≡ q.2 = same_say (suc number) texts p.2 q.2 p.3 q.3 in
      p.4 ∙ (λ i. with_more (said i) (more i)) ∙ sym q.4

  pub same_meaning : (kind : ProgramKind) (values : List ℕ) (a b : Result (List ℕ) LineRefusal) → Means kind values a → Means kind values b
      → a ≡ b
  same_meaning programs.Bytes values a b p q = p ∙ sym q
  same_meaning programs.Text values a b p q =
      p.2
      ∙ ap (λ (lines : Result (List Line) LineRefusal). and_then lines (λ lines. Ok (packed_lines lines)))
      (same_say 1 (texts_of values) p.0 q.0 p.1 q.1)
      ∙ sym q.2

  -- What a source makes.
  same_given : (source : List ℕ) (origin : ℕ) (one other : Result (List ℕ) LineRefusal) → SourceMakes source origin one
      → SourceMakes source origin other → one ≡ other
  same_given source origin (Ok one) (Ok other) p q = ap Ok (same_words source origin one other p q)
  same_given source origin (Ok one) (Err why) p q =
      absurd (never_both source origin (one, p) (same_fault (assembly_fault source origin) _ why q refl))
  same_given source origin (Err why) (Ok other) p q =
      absurd (never_both source origin (other, q) (same_fault (assembly_fault source origin) _ why p refl))
  same_given source origin (Err why) (Err other) p q = let same : why ≡ other = cc in ap Err same

  pub same_filling : (kind : PageKind) (page : ℕ) (values : List ℕ) (one other : Result (List ℕ) LineRefusal)
      → Fills kind page values one → Fills kind page values other → one ≡ other
  same_filling kinds.Words page values one other p q = p ∙ sym q
  same_filling kinds.Image page values one other p q = p ∙ sym q
  same_filling kinds.Asm page values one other p q =
      p.2 ∙ ap (λ given. and_then given words_of_page) (same_given values (page_address page) p.0 q.0 p.1 q.1) ∙ sym q.2
