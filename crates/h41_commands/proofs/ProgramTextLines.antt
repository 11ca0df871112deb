-- Texts of programs: their lines in turn, and the bytes of these.
use Rattle.std.proofs.Common.{inl, inr, ◌≡◌, ℕ, ◌+◌, ◌≤◌, suc, Bool, false, ◌==◌, List, [], ◌∷◌, ◌++◌, length, take, drop, Some, None}
use Rattle.std.proofs.Common.{Result, Ok, Err, refl, sym, ◌∙◌, ap, subst, append_assoc, append-nil, arith}
use Rattle.std.specs.List.{position, position_or_len, All}
use Rattle.std.specs.Option.{option_map_or}
use Rattle.std.proofs.lemmas.List.Splits.{slice_split_first, slice_split_none, length-slice_split}
use Rattle.std.proofs.lemmas.List.Sums.{count_by-le-length, fails_before_first}
use Rattle.h41_codes.specs.ByteGrammar.{spelling}
use Rattle.h41_codes.specs.declared.line.Line.{Line}
use Rattle.h41_program.specs.Lines.{is_number}
use Rattle.h41_program.specs.Packing.{gap, last_line, packed_lines}
use Rattle.h41_text.specs.LineReading.{IsTextOf}
use Rattle.h41_commands.specs.declared.refusal.LineRefusal.{LineRefusal}
use Rattle.h41_commands.specs.declared.refusal.LineRefusal.TheVariants.{BadText}
use Rattle.h41_commands.specs.ProgramBlocks.{IsBadText, SayLines, SaysLine, texts_of, with_more}
use Rattle.h41_commands.specs.declared.blocks.program_text.Packed.{Packed}
use Rattle.h41_commands.specs.private.ProgramTexts.{IsPacked, null_between}
use Rattle.h41_lines.proofs.Positions.{position_none, position_some}

-- The first text, and those after it.
pub texts_at : (text : List ℕ) (n : ℕ) → Some n ≡ position (λ byte. byte == 10) text
    → texts_of text ≡ take n text ∷ texts_of (drop (n + 1) text)
texts_at text n e =
    let p : ℕ → Bool = λ byte. byte == 10 in
    let at = position_some p text n e in
    let here : n ≡ position_or_len p text = at.0 in
    slice_split_first p text 0 (omega (arith, at.1)) ∙ ap (λ (k : ℕ). take k text ∷ texts_of (drop (k + 1) text)) (sym here)

pub texts_last : (text : List ℕ) → None ≡ position (λ byte. byte == 10) text → texts_of text ≡ text ∷ []
texts_last text e =
    let p : ℕ → Bool = λ byte. byte == 10 in
    let end : position_or_len p text ≡ length text = position_none p text e in
    let none : All (λ x. p x ≡ false) text = λ k d l. fails_before_first p text k d (omega arith) in
    slice_split_none p text none

abbrev pub ends_with_number : List Line → Bool
ends_with_number lines = option_map_or is_number (last_line lines) false

last_line-more : (lines : List Line) (line : Line) → last_line (lines ++ line ∷ []) ≡ Some line
last_line-more [] line = refl
last_line-more (one ∷ []) line = refl
last_line-more (one ∷ next ∷ lines) line = last_line-more (next ∷ lines) line

-- A line after others, by its bytes.
packed-more : (lines : List Line) (line : Line)
    → packed_lines (lines ++ line ∷ []) ≡ packed_lines lines ++ null_between (ends_with_number lines) (is_number line) ++ spelling line
packed-more [] line = simp append-nil
packed-more (one ∷ []) line = simp (append-nil, append_assoc)
packed-more (one ∷ next ∷ lines) line =
    ap (λ (rest : List ℕ). spelling one ++ gap one (next ∷ lines) ++ rest) (packed-more (next ∷ lines) line)
    ∙ simp append_assoc

pub pushed : (lines : List Line) (line : Line) (old new : Packed) → IsPacked lines old
    → new.bytes.items ≡ (old.bytes.items ++ null_between old.ends_with_number (is_number line)) ++ spelling line
    → new.ends_with_number ≡ is_number line → IsPacked (lines ++ line ∷ []) new
pushed lines line old new packed_is bytes last = record {
  bytes =
      bytes ∙ ap (λ (front : List ℕ). (front ++ null_between old.ends_with_number (is_number line)) ++ spelling line) packed_is.bytes
      ∙ ap (λ (ends : Bool). (packed_lines lines ++ null_between ends (is_number line)) ++ spelling line) packed_is.last
      ∙ sym (packed-more lines line);
  last = last ∙ sym (ap (λ found. option_map_or is_number found false) (last_line-more lines line));
}

-- Lines that are known, and more lines.
pub with_more-nil : (more : Result (List Line) LineRefusal) → with_more [] more ≡ more
with_more-nil (Ok lines) = refl
with_more-nil (Err why) = refl

with_more-append : (front said : List Line) (more : Result (List Line) LineRefusal)
    → with_more (front ++ said) more ≡ with_more front (with_more said more)
with_more-append front said (Ok lines) = ap (λ (all : List Line). Ok all) (append_assoc front said lines)
with_more-append front said (Err why) = refl

-- The result for all texts continues with the result for those that remain.
abbrev pub Tells : List (List ℕ) → List Line → ℕ → List (List ℕ) → Type 0
Tells all front number left = (more : Result (List Line) LineRefusal) → SayLines number left more → SayLines 1 all (with_more front more)

pub tells_none : (all : List (List ℕ)) → Tells all [] 1 all
tells_none all more say = subst (SayLines 1 all) (sym (with_more-nil more)) say

pub tells_more : (all left : List (List ℕ)) (front said : List Line) (number : ℕ) (text : List ℕ) → Tells all front number (text ∷ left)
    → SaysLine text said → Tells all (front ++ said) (number + 1) left
tells_more all left front said number text tells says more say =
    let next : number + 1 ≡ suc number = omega arith in
    subst (SayLines 1 all) (sym (with_more-append front said more))
    (tells (with_more said more) (inr (said, says, more, subst (λ n. SayLines n left more) next say, refl)))

pub tells_bad : (all left : List (List ℕ)) (front : List Line) (number : ℕ) (text : List ℕ) → Tells all front number (text ∷ left)
    → IsBadText text → SayLines 1 all (Err (BadText number))
tells_bad all left front number text tells bad = tells (Err (BadText number)) (inl (bad, refl))

pub tells_all : (all : List (List ℕ)) (front : List Line) (number : ℕ) → Tells all front number [] → SayLines 1 all (Ok front)
tells_all all front number tells = subst (SayLines 1 all) (ap (λ (lines : List Line). Ok lines) (append-nil front)) (tells (Ok []) refl)

-- An empty text defines no line; another one defines its line, or is bad.
pub says_nothing : (text : List ℕ) → length text ≡ 0 → SaysLine text []
says_nothing [] none = refl
says_nothing (byte ∷ rest) none = cc

pub says_line : (text : List ℕ) (line : Line) → IsTextOf text line → (length text ≡ 0 → ⊥) → SaysLine text (line ∷ [])
says_line [] line of some = absurd (some refl)
says_line (byte ∷ rest) line of some = (line, of, refl)

pub is_bad : (text : List ℕ) → ((line : Line) → IsTextOf text line → ⊥) → (length text ≡ 0 → ⊥) → IsBadText text
is_bad [] none some = absurd (some refl)
is_bad (byte ∷ rest) none some = none

-- A text has at most one line more than it has bytes.
pub count_texts : (text : List ℕ) → length (texts_of text) ≤ length text + 1
count_texts text = omega (arith, length-slice_split (λ byte. byte == 10) text, count_by-le-length (λ byte. byte == 10) text)
