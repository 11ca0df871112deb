-- The conditions on bytes that begin with a line of the kind of their first byte.
use Rattle.std.proofs.Common.{◌≡◌, ℕ, ◌+◌, ◌/◌, ◌<◌, ◌≤◌, true, List, [], ◌∷◌, ◌++◌, length, drop, get_or, ◌⊎◌, inl, inr, refl, sym, ap}
use Rattle.std.proofs.Common.{subst, arith, length-append}
use Rattle.std.proofs.lemmas.Bool.Decides.{leb_tells}
use Rattle.h41_codes.specs.declared.functions.ParameterFunction.{ParameterFunction}
use Rattle.h41_codes.specs.declared.functions.ParameterFunction.TheVariants.{Recall}
use Rattle.h41_codes.specs.declared.line.Line.{Line}
use Rattle.h41_codes.specs.declared.line.Line.TheVariants.{Null, LocalLabel, Number, Named, Register, Plain, WithOperand, Module}
use Rattle.h41_codes.specs.declared.line.Line.TheVariants.{BranchIndirect, ShortGoTo, GlobalLabel, End, FinalEnd, BranchTo, Text}
use Rattle.h41_codes.specs.Codes.{parameter_function_code}
use Rattle.h41_codes.specs.Heads.{IsTwoBytes, LacksText}
use Rattle.h41_codes.specs.ByteGrammar.{spelling, IsLine, BeginsNoLine}
use Rattle.h41_codes.proofs.Beginnings.{parted}
use Rattle.h41_codes.proofs.Intervals.{edges, kind, is_interval, kind_at}
use Rattle.h41_codes.proofs.Reading.{byte, name_function_range, branch_range, register_range}
use Rattle.h41_codes.proofs.Tables.{function_range, character_range}

-- Lines of one byte and numbers have no further condition; a byte of no kind begins no line.
abbrev pub Any : List ℕ → Type 0
Any bytes = Unit {0}

abbrev pub Never : List ℕ → Type 0
Never bytes = ⊥

abbrev pub Two : List ℕ → Type 0
Two bytes = 2 ≤ length bytes

abbrev pub Three : List ℕ → Type 0
Three bytes = 3 ≤ length bytes

-- The condition on a text after the first byte, and on a text.
abbrev pub NamedFits : List ℕ → Type 0
NamedFits bytes = (2 ≤ length bytes) × (0xF0 ≤ byte bytes 1) × (2 + byte bytes 1 ≤ 0xF0 + length bytes)

abbrev pub TextFits : List ℕ → Type 0
TextFits bytes = 1 + byte bytes 0 ≤ 0xF0 + length bytes

-- The condition on a global label, an END or .END.
abbrev pub LinkedFits : List ℕ → Type 0
LinkedFits bytes = (3 ≤ length bytes) × (0xF0 ≤ byte bytes 2 → (0xF0 < byte bytes 2) × (3 + byte bytes 2 ≤ 0xF0 + length bytes))

abbrev pub needs : List (List ℕ → Type 0)
needs =
    Any ∷ Any ∷ Any ∷ NamedFits ∷ Any ∷ Any ∷ Two ∷ Two ∷ Two ∷ Two ∷ Never ∷ Two ∷ LinkedFits ∷ Two ∷ Three ∷ TextFits ∷ []

abbrev pub Needs : ℕ → List ℕ → Type 0
Needs k bytes = get_or needs k Any bytes

-- The condition on bytes whose first byte is of a kind, in both directions.
by_kind : (k low high : ℕ) (bytes : List ℕ) → is_interval edges k low high ≡ true → low ≤ byte bytes 0 → byte bytes 0 < high
    → Needs k bytes → Needs (kind (byte bytes 0)) bytes
by_kind k low high bytes fits from below need =
    subst (λ (n : ℕ). Needs n bytes) (sym (kind_at k low high (byte bytes 0) fits from below)) need

operand_needs : (function : ParameterFunction) (bytes : List ℕ) → 2 ≤ length bytes → Needs (kind (parameter_function_code function)) bytes
unfolding kind
operand_needs Recall bytes inside = inside
operand_needs function bytes inside = inside

number_needs : (characters : List _) (rest : List ℕ) → IsLine (Number characters)
    → Needs (kind (byte (spelling (Number characters) ++ rest) 0)) (spelling (Number characters) ++ rest)
number_needs [] rest valid = absurd (omega (arith, valid.0))
number_needs (character ∷ characters) rest valid =
    let range = character_range character in
    by_kind 2 0x10 0x1D (spelling (Number (character ∷ characters)) ++ rest) refl range.0 (omega (arith, range.1)) tt

-- The bytes of a line satisfy their condition.
needs_of : (line : Line) (rest : List ℕ) → IsLine line → Needs (kind (byte (spelling line ++ rest) 0)) (spelling line ++ rest)
needs_of Null rest valid = by_kind 0 0x00 0x01 (0x00 ∷ rest) refl (omega arith) (omega arith) tt
needs_of (LocalLabel label) rest valid = by_kind 1 0x01 0x10 ((0x01 + label) ∷ rest) refl (omega arith) (omega arith) tt
needs_of (Number characters) rest valid = number_needs characters rest valid
needs_of (Named function name) rest valid =
    let range = name_function_range function in
    by_kind 3 0x1D 0x20 (spelling (Named function name) ++ rest) refl range.0 range.1
    (omega arith, omega arith, omega (arith, length-append name rest))
needs_of (Register function register) rest valid =
    let range = register_range function register valid in
    by_kind 4 0x20 0x40 (spelling (Register function register) ++ rest) refl range.0 range.1 tt
needs_of (Plain function) rest valid =
    let range = function_range function in
    by_kind 5 0x40 0x90 (spelling (Plain function) ++ rest) refl range.0 range.1 tt
needs_of (WithOperand function operand) rest valid = operand_needs function (spelling (WithOperand function operand) ++ rest) (omega arith)
needs_of (Module number entry) rest valid =
    by_kind 7 0xA0 0xA8 (spelling (Module number entry) ++ rest) refl (omega arith) (omega (arith, valid.0)) (omega arith)
needs_of (BranchIndirect branch register) rest valid =
    by_kind 9 0xAE 0xAF (spelling (BranchIndirect branch register) ++ rest) refl (omega arith) (omega arith) (omega arith)
needs_of (ShortGoTo label distance) rest valid =
    by_kind 11 0xB1 0xC0 (spelling (ShortGoTo label distance) ++ rest) refl (omega arith) (omega (arith, valid.0)) (omega arith)
needs_of (GlobalLabel link key name) rest valid =
    by_kind 12 0xC0 0xCE (spelling (GlobalLabel link key name) ++ rest) refl (omega arith) (omega (arith, valid.0))
    (omega arith, (λ label. (omega arith, omega (arith, length-append name rest))))
needs_of (End link marks) rest valid =
    by_kind 12 0xC0 0xCE (spelling (End link marks) ++ rest) refl (omega arith) (omega (arith, valid.0))
    (omega arith, (λ label. absurd (omega (arith, valid.1))))
needs_of (FinalEnd link marks) rest valid =
    by_kind 12 0xC0 0xCE (spelling (FinalEnd link marks) ++ rest) refl (omega arith) (omega (arith, valid.0))
    (omega arith, (λ label. absurd (omega (arith, valid.1))))
needs_of (BranchTo branch distance backwards label) rest valid =
    let range = branch_range branch (distance / 256) (omega (arith, valid.0)) in
    by_kind 14 0xD0 0xF0 (spelling (BranchTo branch distance backwards label) ++ rest) refl range.0 range.1 (omega arith)
needs_of (Text characters) rest valid =
    by_kind 15 0xF0 0x100 (spelling (Text characters) ++ rest) refl (omega arith)
    (omega (arith, valid.fits)) (omega (arith, length-append characters rest))

-- Bytes that do not satisfy the condition of their first byte begin with no line.
pub broken_at : (k low high : ℕ) (bytes : List ℕ) → is_interval edges k low high ≡ true → low ≤ byte bytes 0 → byte bytes 0 < high
    → (Needs k bytes → ⊥) → BeginsNoLine bytes
broken_at k low high bytes fits from below lacks line count spelled =
    let same = parted bytes line count spelled in
    let need : Needs (kind (byte bytes 0)) bytes =
    subst (λ (all : List ℕ). Needs (kind (byte all 0)) all) (sym same) (needs_of line (drop count bytes) spelled.valid) in
    lacks (subst (λ (n : ℕ). Needs n bytes) (kind_at k low high (byte bytes 0) fits from below) need)

-- Bytes that begin with no complete text do not satisfy the condition of a text.
pub text_broken : (bytes : List ℕ) → 0 < length bytes → 0xF0 ≤ byte bytes 0 → LacksText bytes → TextFits bytes → ⊥
text_broken bytes some from lacks fits =
    elim lacks [ inl none ↦ omega (arith, ap length none) | inr (inl low) ↦ omega arith | inr (inr cut) ↦ omega arith ]

pub named_broken : (bytes : List ℕ) → LacksText (drop 1 bytes) → NamedFits bytes → ⊥
named_broken [] lacks fits = omega (arith, fits.0)
named_broken (first ∷ bytes) lacks fits =
    elim lacks [
      | inl none ↦ omega (arith, fits.0, ap length none)
      | inr (inl low) ↦ omega (arith, fits.1, low)
      | inr (inr cut) ↦ omega (arith, fits.2, cut)
    ]

-- One of two numbers is lower, or they are equal.
order : (a b : ℕ) → (a < b) ⊎ (b ≤ a)
order a b = elim (leb_tells b a) [ inl low ↦ inr low.1 | inr high ↦ inl high.1 ]

-- Incomplete lines of two bytes.
broken_from_90 : (bytes : List ℕ) → 0x90 ≤ byte bytes 0 → byte bytes 0 < 0xAF → length bytes < 2 → BeginsNoLine bytes
broken_from_90 bytes from below cut =
    elim (order (byte bytes 0) 0xA0) [
      | inl below_a0 ↦ broken_at 6 0x90 0xA0 bytes refl from below_a0 (λ need. omega arith)
      | inr from_a0 ↦
          elim (order (byte bytes 0) 0xA8) [
            | inl below_a8 ↦ broken_at 7 0xA0 0xA8 bytes refl from_a0 below_a8 (λ need. omega arith)
            | inr from_a8 ↦
                elim (order (byte bytes 0) 0xAE) [
                  | inl below_ae ↦ broken_at 8 0xA8 0xAE bytes refl from_a8 below_ae (λ need. omega arith)
                  | inr from_ae ↦ broken_at 9 0xAE 0xAF bytes refl from_ae below (λ need. omega arith)
                ]
          ]
    ]

pub broken_pair : (bytes : List ℕ) → IsTwoBytes (byte bytes 0) → length bytes < 2 → BeginsNoLine bytes
broken_pair bytes first cut =
    elim first [
      | inl at ↦ broken_from_90 bytes at.0 at.1 cut
      | inr (inl at) ↦ broken_at 11 0xB1 0xC0 bytes refl at.0 at.1 (λ need. omega arith)
      | inr (inr at) ↦ broken_at 13 0xCE 0xD0 bytes refl at.0 at.1 (λ need. omega arith)
    ]

-- An incomplete line of three bytes, and the bytes of no kind.
pub broken_triple : (bytes : List ℕ) → 0xD0 ≤ byte bytes 0 → byte bytes 0 < 0xF0 → length bytes < 3 → BeginsNoLine bytes
broken_triple bytes from below cut = broken_at 14 0xD0 0xF0 bytes refl from below (λ need. omega arith)

pub broken_af_b0 : (bytes : List ℕ) → 0xAF ≤ byte bytes 0 → byte bytes 0 < 0xB1 → BeginsNoLine bytes
broken_af_b0 bytes from below = broken_at 10 0xAF 0xB1 bytes refl from below (λ need. need)
