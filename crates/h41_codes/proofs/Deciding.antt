-- Bytes begin with a line or with none.
use Rattle.std.proofs.Common.{◌≡◌, ℕ, zero, suc, ◌<◌, ◌≤◌, ◌⊎◌, List, [], ◌∷◌, length, take, drop, refl, sym, ◌∙◌, ap, subst, arith, inl}
use Rattle.std.proofs.Common.{inr}
use Rattle.std.proofs.lemmas.Bool.{cases_eq, cases_lt}
use Rattle.h41_codes.specs.ByteGrammar.{spelling, IsBytes, IsText, IsLine, IsOperand, IsComplete, GoesOn, Begins}
use Rattle.h41_codes.specs.ByteLaws.{LineOrNone}
use Rattle.h41_codes.specs.declared.line.Line.{Line}
use Rattle.h41_codes.specs.declared.line.Line.TheVariants.{Null, LocalLabel, Number, Named, Register, Plain, WithOperand, Module}
use Rattle.h41_codes.specs.declared.line.Line.TheVariants.{BranchIndirect, ShortGoTo, GlobalLabel, End, FinalEnd, BranchTo, Text}
use Rattle.h41_codes.specs.declared.line.Operand.{Operand}
use Rattle.h41_codes.specs.declared.line.Operand.TheVariants.{Direct, Indirect}
use Rattle.h41_codes.proofs.Beginnings.{length_of, line_of}
use Rattle.h41_codes.proofs.Reading.{line_at}

-- A fact is true or false.
abbrev pub Either : Type 0 → Type 0
Either A = A ⊎ (A → ⊥)

below : (a b : ℕ) → Either (a < b)
below a b = elim (cases_lt a b) [
  | inl less ↦ inl less
  | inr more ↦ inr (λ less. omega (arith, less, more))
]

at_most : (a b : ℕ) → Either (a ≤ b)
at_most a b = elim (cases_lt b a) [
  | inl more ↦ inr (λ less. omega (arith, less, more))
  | inr less ↦ inl less
]

pub both : {A B : Type 0} → Either A → Either B → Either (A × B)
both (inl a) (inl b) = inl (a, b)
both (inl a) (inr lacks) = inr (λ pair. lacks pair.1)
both (inr lacks) other = inr (λ pair. lacks pair.0)

follows : {A B : Type 0} → Either A → Either B → Either (A → B)
follows (inr lacks) other = inl (λ a. absurd (lacks a))
follows (inl a) (inl b) = inl (λ _. b)
follows (inl a) (inr lacks) = inr (λ f. lacks (f a))

-- It is decidable whether the parts of a line are in their ranges.
operand_either : (operand : Operand) → Either (IsOperand operand)
operand_either (Direct parameter) = below parameter 128
operand_either (Indirect parameter) = below parameter 128

more_bytes : (byte : ℕ) (bytes : List ℕ) → byte < 256 → IsBytes bytes → IsBytes (byte ∷ bytes)
more_bytes byte bytes first rest zero inside = first
more_bytes byte bytes first rest (suc index) inside = rest index (omega arith)

are_bytes_either : (bytes : List ℕ) → Either (IsBytes bytes)
are_bytes_either [] = inl (λ index inside. absurd (omega (arith, inside)))
are_bytes_either (byte ∷ bytes) = elim (both (below byte 256) (are_bytes_either bytes)) [
  | inl all ↦ inl (more_bytes byte bytes all.0 all.1)
  | inr lacks ↦ inr (λ all. lacks (all 0 (omega arith), λ index inside. all (suc index) (omega (arith, inside))))
]

text_either : (most : ℕ) (characters : List ℕ) → Either (IsText most characters)
text_either most characters = elim (both (at_most (length characters) most) (are_bytes_either characters)) [
  | inl all ↦ inl (record { fits = all.0; bytes = all.1 })
  | inr lacks ↦ inr (λ text. lacks (text.fits, text.bytes))
]

pub valid_either : (line : Line) → Either (IsLine line)
valid_either Null = inl tt
valid_either (LocalLabel label) = below label 15
valid_either (Number characters) = both (at_most 1 (length characters)) (at_most (length characters) 16)
valid_either (Named function name) = text_either 15 name
valid_either (Register function register) = below register 16
valid_either (Plain function) = inl tt
valid_either (WithOperand function operand) = operand_either operand
valid_either (Module number entry) = both (below number 32) (below entry 64)
valid_either (BranchIndirect branch register) = below register 128
valid_either (ShortGoTo label distance) = both (below label 15) (below distance 256)
valid_either (GlobalLabel link key name) = elim (both (below link 3584) (both (below key 256) (text_either 14 name))) [
  | inl all ↦ inl (all.0, all.1.0, all.1.1)
  | inr lacks ↦ inr (λ all. lacks (all.0, (all.1, all.2)))
]
valid_either (End link marks) = both (below link 3584) (below marks 128)
valid_either (FinalEnd link marks) = both (below link 3584) (below marks 112)
valid_either (BranchTo branch distance backwards label) = both (below distance 4096) (below label 128)
valid_either (Text characters) = text_either 15 characters

-- It is decidable whether bytes are equal.
pub bytes_either : (bytes others : List ℕ) → Either (bytes ≡ others)
bytes_either [] [] = inl refl
bytes_either [] (other ∷ others) = inr (λ same. cc)
bytes_either (byte ∷ bytes) [] = inr (λ same. cc)
bytes_either (byte ∷ bytes) (other ∷ others) = elim (cases_eq byte other) [
  | inl first ↦ elim (bytes_either bytes others) [
    | inl rest ↦ inl (ap (λ (b : ℕ). b ∷ bytes) first ∙ ap (λ (all : List ℕ). other ∷ all) rest)
    | inr lacks ↦ inr (λ same. lacks (ap (drop 1) same))
  ]
  | inr lacks ↦ inr (λ same. let first : byte ≡ other = cc in lacks first)
]

-- It is decidable whether a line is complete before other bytes.
goes_either : (bytes : List ℕ) → Either (GoesOn bytes)
goes_either [] = inr (λ goes. goes)
goes_either (byte ∷ bytes) = both (at_most 0x10 byte) (at_most byte 0x1C)

equal_either : (a b : ℕ) → Either (a ≡ b)
equal_either a b = elim (cases_eq a b) [
  | inl same ↦ inl same
  | inr lacks ↦ inr lacks
]

whole_either : (line : Line) (rest : List ℕ) → Either (IsComplete line rest)
whole_either (Number characters) rest = follows (goes_either rest) (equal_either (length characters) 16)
whole_either Null rest = inl tt
whole_either line rest = inl tt

-- It is decidable whether bytes begin with a line of this many bytes.
begins_either : (bytes : List ℕ) (line : Line) (count : ℕ) → Either (Begins bytes line count)
begins_either bytes line count = elim (at_most count (length bytes)) [
  | inr lacks ↦ inr (λ begins. lacks begins.inside)
  | inl inside ↦ elim (valid_either line) [
    | inr lacks ↦ inr (λ begins. lacks begins.spells.valid)
    | inl valid ↦ elim (bytes_either (take count bytes) (spelling line)) [
      | inr lacks ↦ inr (λ begins. lacks begins.spells.same)
      | inl same ↦ elim (whole_either line (drop count bytes)) [
        | inr lacks ↦ inr (λ begins. lacks begins.whole)
        | inl whole ↦ inl (record { inside = inside; spells = record { valid = valid; same = same }; whole = whole })
      ]
    ]
  ]
]

-- The only line that bytes can begin with is the one that their first byte determines.
pub line_or_none : LineOrNone
line_or_none bytes =
    let line = line_at bytes in
    let count = length (spelling line) in
    elim (begins_either bytes line count) [
      | inl begins ↦ inl (line, count, begins)
      | inr lacks ↦ inr (λ other size begins.
          let same = line_of bytes other size begins in
          let long : size ≡ count = sym (length_of bytes other size begins) ∙ ap (λ (l : Line). length (spelling l)) (sym same) in
          lacks (subst (λ (l : Line). Begins bytes l count) (sym same) (subst (λ (n : ℕ). Begins bytes other n) long begins)))
    ]
