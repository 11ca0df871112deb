-- Bytes begin with a line of the size that their first bytes determine, if there are as many.
use Rattle.std.proofs.Common.{◌≡◌, ℕ, zero, suc, ◌+◌, ◌-◌, ◌*◌, ◌/◌, ◌%◌, ◌<◌, ◌≤◌, Bool, true, false, ◌&&◌, List, [], ◌∷◌, map, length}
use Rattle.std.proofs.Common.{take, drop, get_or, refl, sym, ◌∙◌, ap, subst, arith, inl, inr, length-take-le, length-take, rules}
use Rattle.std.specs.Prelude.{◌==◌}
use Rattle.std.proofs.lemmas.Bool.{and_parts, cases_lt, cases_eq, eqb-true}
use Rattle.std.proofs.lemmas.List.{get_or-take, get_or-drop, length-map}
use Rattle.h41_codes.specs.ByteGrammar.{operand_byte, label_byte, IsBytes, IsOperand, IsComplete, GoesOn, Begins, Spells}
use Rattle.h41_codes.specs.Codes.{parameter_function_code, name_function_code, branch_code, character_code}
use Rattle.h41_codes.specs.Functions.{characters, parameter_functions}
use Rattle.h41_codes.specs.Heads.{IsIn, IsTwoBytes}
use Rattle.h41_codes.specs.declared.characters.Character.{Character}
use Rattle.h41_codes.specs.declared.characters.Character.TheVariants.{Zero}
use Rattle.h41_codes.specs.declared.functions.Branch.{Branch}
use Rattle.h41_codes.specs.declared.functions.Branch.TheVariants.{GoTo, Execute}
use Rattle.h41_codes.specs.declared.functions.NameFunction.{NameFunction}
use Rattle.h41_codes.specs.declared.functions.NameFunction.TheVariants.{GoToName, ExecuteName, Wordless}
use Rattle.h41_codes.specs.declared.functions.ParameterFunction.{ParameterFunction}
use Rattle.h41_codes.specs.declared.functions.ParameterFunction.TheVariants.{Recall}
use Rattle.h41_codes.specs.declared.line.Line.{Line}
use Rattle.h41_codes.specs.declared.line.Line.TheVariants.{Number, Named, WithOperand, Module, BranchIndirect, ShortGoTo, GlobalLabel}
use Rattle.h41_codes.specs.declared.line.Line.TheVariants.{End, FinalEnd, BranchTo, Text}
use Rattle.h41_codes.specs.declared.line.Operand.{Operand}
use Rattle.h41_codes.specs.declared.line.Operand.TheVariants.{Direct, Indirect}
use Rattle.h41_codes.proofs.Beginnings.{begins_by, begins_label}
use Rattle.h41_program.specs.private.Reading.{EndsNothing}
use Rattle.std.proofs.lemmas.Grind.{common_steps}

-- Bytes begin with a line of this many bytes that ends neither a program nor memory.
abbrev pub Sized : List ℕ → ℕ → Type 0
Sized bytes size = (line : Line) × Begins bytes line size × EndsNothing line

-- Bytes are all those of a line that is no number and ends neither a program nor memory.
abbrev Spelled : List ℕ → Type 0
Spelled bytes = (line : Line) × Spells bytes line × ((rest : List ℕ) → IsComplete line rest) × EndsNothing line

-- The first numbers of a list, this many, are bytes.
abbrev pub Bytes : List ℕ → ℕ → Type 0
Bytes bytes size = (k : ℕ) → k < size → get_or bytes k 0 < 256

in_front : (bytes : List ℕ) (size : ℕ) → size ≤ length bytes → Spelled (take size bytes) → Sized bytes size
in_front bytes size inside line = (line.0, record { inside = inside; spells = line.1; whole = line.2 (drop size bytes) }, line.3)

are_bytes : (bytes : List ℕ) (from count size : ℕ) → from + count ≤ size → Bytes bytes size → IsBytes (take count (drop from bytes))
are_bytes bytes from count size within all index inside = search (rules, length-take, get_or-take, get_or-drop)

-- A test of each number below a bound.
abbrev every : ℕ → (ℕ → Bool) → Bool
every zero test = true
every (suc n) test = test n && every n test

every_holds : (n : ℕ) (test : ℕ → Bool) → every n test ≡ true → (k : ℕ) → k < n → test k ≡ true
every_holds zero test all k inside = absurd (omega (arith, inside))
every_holds (suc n) test all k inside =
    let parts = and_parts (test n) (every n test) all in
    elim (cases_lt k n) [
      | inl less ↦ every_holds n test parts.1 k less
      | inr here ↦ let same : n ≡ k = omega (arith, here, inside) in subst (λ (m : ℕ). test m ≡ true) same parts.0
    ]

-- Lines of two bytes: the function with an operand that has a code, by the first code of its kind.
function_of : (first count index : ℕ)
    → every count (λ k. parameter_function_code (get_or parameter_functions (index + k) Recall) == first + k) ≡ true
    → (code : ℕ) → first ≤ code → code < first + count
    → (function : ParameterFunction) × (parameter_function_code function ≡ code)
function_of first count index all code from below =
    let k = code - first in
    let here = every_holds count (λ n. parameter_function_code (get_or parameter_functions (index + n) Recall) == first + n)
    all k (omega (arith, from, below)) in
    let same : first + k ≡ code = omega (arith, from) in
    (get_or parameter_functions (index + k) Recall, eqb-true _ _ here ∙ same)

operand_of : (byte : ℕ) → byte < 256 → (operand : Operand) × IsOperand operand × (operand_byte operand ≡ byte)
operand_of byte inside = elim (cases_lt byte 0x80) [
  | inl low ↦ (Direct byte, low, refl)
  | inr high ↦ (Indirect (byte - 0x80), omega (arith, inside, high), omega (arith, high))
]

with_operand : (first second : ℕ) → second < 256 → (function : ParameterFunction) × (parameter_function_code function ≡ first)
    → Spelled (first ∷ second ∷ [])
with_operand first second inside function =
    let operand = operand_of second inside in (
      WithOperand function.0 operand.0,
      record {
        valid = operand.1;
        same =
            ap (λ (byte : ℕ). byte ∷ second ∷ []) (sym function.1)
            ∙ ap (λ (byte : ℕ). parameter_function_code function.0 ∷ byte ∷ []) (sym operand.2);
      },
      λ rest. tt,
      (refl, refl),
    )

pair_of : (a b c d : ℕ) → a ≡ c → b ≡ d → ◌≡◌ {A = List ℕ} (a ∷ b ∷ []) (c ∷ d ∷ [])
pair_of a b c d first second = ap (λ (byte : ℕ). byte ∷ b ∷ []) first ∙ ap (λ (byte : ℕ). c ∷ byte ∷ []) second

module_line : (first second : ℕ) → 0xA0 ≤ first → first < 0xA8 → second < 256 → Spelled (first ∷ second ∷ [])
module_line first second from below inside =
    let number = (first - 0xA0) * 4 + second / 64 in (
      Module number (second % 64),
      record {
        valid = (omega (arith, from, below, inside), omega arith);
        same =
            pair_of first second (0xA0 + number / 4) (number % 4 * 64 + second % 64) (omega (arith, from, inside))
            (omega (arith, inside));
      },
      λ rest. tt,
      (refl, refl),
    )

indirect_line : (first second : ℕ) → first ≡ 0xAE → second < 256 → Spelled (first ∷ second ∷ [])
indirect_line first second is inside = elim (cases_lt second 0x80) [
  | inl low ↦
      (BranchIndirect GoTo second, record { valid = low; same = pair_of first second 0xAE second is refl }, λ rest. tt, (refl, refl))
  | inr high ↦ (
    BranchIndirect Execute (second - 0x80),
    record {
      valid = omega (arith, inside, high);
      same = pair_of first second 0xAE (0x80 + (second - 0x80)) is (omega (arith, high));
    },
    λ rest. tt,
    (refl, refl),
  )
]

short_line : (first second : ℕ) → 0xB1 ≤ first → first < 0xC0 → second < 256 → Spelled (first ∷ second ∷ [])
short_line first second from below inside = (
  ShortGoTo (first - 0xB1) second,
  record {
    valid = (omega (arith, from, below), inside);
    same = pair_of first second (0xB1 + (first - 0xB1)) second (omega (arith, from)) refl;
  },
  λ rest. tt,
  (refl, refl),
)

pair_line : (first second : ℕ) → IsTwoBytes first → second < 256 → Spelled (first ∷ second ∷ [])
pair_line first second (inl low) inside = elim (cases_lt first 0xA0) [
  | inl row ↦ with_operand first second inside (function_of 0x90 16 0 refl first low.0 row)
  | inr on ↦ elim (cases_lt first 0xA8) [
    | inl modules ↦ module_line first second on modules inside
    | inr further ↦ elim (cases_lt first 0xAE) [
      | inl flags ↦ with_operand first second inside (function_of 0xA8 6 16 refl first further flags)
      | inr last ↦ indirect_line first second (omega (arith, low.1, last)) inside
    ]
  ]
]
pair_line first second (inr (inl short)) inside = short_line first second short.0 short.1 inside
pair_line first second (inr (inr high)) inside = with_operand first second inside (function_of 0xCE 2 22 refl first high.0 high.1)

pub pair_sized : (bytes : List ℕ) → 2 ≤ length bytes → IsTwoBytes (get_or bytes 0 0) → Bytes bytes 2 → Sized bytes 2
pair_sized [] some two all = absurd (omega (arith, some))
pair_sized (first ∷ []) some two all = absurd (omega (arith, some))
pair_sized (first ∷ second ∷ rest) some two all =
    in_front (first ∷ second ∷ rest) 2 some (pair_line first second two (all 1 (omega arith)))

-- Branches of three bytes.
branch_of : (first : ℕ) → 0xD0 ≤ first → first < 0xF0
    → (branch : Branch) × (high : ℕ) × (high < 16) × (branch_code branch + high ≡ first)
branch_of first from below = elim (cases_lt first 0xE0) [
  | inl low ↦ (GoTo, first - 0xD0, omega (arith, from, low), omega (arith, from))
  | inr high ↦ (Execute, first - 0xE0, omega (arith, below, high), omega (arith, high))
]

label_of : (byte : ℕ) → byte < 256 → (backwards : Bool) × (label : ℕ) × (label < 128) × (label_byte backwards label ≡ byte)
label_of byte inside = elim (cases_lt byte 0x80) [
  | inl low ↦ (false, byte, low, refl)
  | inr high ↦ (true, byte - 0x80, omega (arith, inside, high), omega (arith, high))
]

three_of : (a b c d e f : ℕ) → a ≡ d → b ≡ e → c ≡ f → ◌≡◌ {A = List ℕ} (a ∷ b ∷ c ∷ []) (d ∷ e ∷ f ∷ [])
three_of a b c d e f first second third =
    ap (λ (byte : ℕ). byte ∷ b ∷ c ∷ []) first ∙ ap (λ (byte : ℕ). d ∷ byte ∷ c ∷ []) second ∙ ap (λ (byte : ℕ). d ∷ e ∷ byte ∷ []) third

triple_line : (first second third : ℕ) → 0xD0 ≤ first → first < 0xF0 → second < 256 → third < 256 → Spelled (first ∷ second ∷ third ∷ [])
triple_line first second third from below inside last =
    let branch = branch_of first from below in
    let label = label_of third last in
    let distance = branch.1 * 256 + second in
    let high : distance / 256 ≡ branch.1 = omega (arith, inside) in
    let low : second ≡ distance % 256 = omega (arith, inside) in (
      BranchTo branch.0 distance label.0 label.1,
      record {
        valid = (omega (arith, branch.2, inside), label.2);
        same = three_of first second third (branch_code branch.0 + distance / 256) (distance % 256) (label_byte label.0 label.1)
            (sym (ap (λ n. branch_code branch.0 + n) high ∙ branch.3)) low (sym label.3);
      },
      λ rest. tt,
      (refl, refl),
    )

pub triple_sized : (bytes : List ℕ) → 3 ≤ length bytes → 0xD0 ≤ get_or bytes 0 0 → get_or bytes 0 0 < 0xF0 → Bytes bytes 3 → Sized bytes 3
triple_sized [] some from below all = absurd (omega (arith, some))
triple_sized (first ∷ []) some from below all = absurd (omega (arith, some))
triple_sized (first ∷ second ∷ []) some from below all = absurd (omega (arith, some))
triple_sized (first ∷ second ∷ third ∷ rest) some from below all =
    in_front (first ∷ second ∷ third ∷ rest) 3 some
    (triple_line first second third from below (all 1 (omega arith)) (all 2 (omega arith)))

-- Texts, and functions with a text.
pub text_sized : (bytes : List ℕ) (n : ℕ) → get_or bytes 0 0 ≡ 0xF0 + n → n ≤ 15 → suc n ≤ length bytes → Bytes bytes (suc n)
    → Sized bytes (suc n)
text_sized [] n is few inside all = absurd (omega (arith, inside))
text_sized (first ∷ rest) n is few inside all =
    let long : length (take n rest) ≡ n = length-take-le n rest (omega (arith, inside)) in
    in_front (first ∷ rest) (suc n) inside (
      Text (take n rest),
      record {
        valid = record { fits = omega (arith, long, few); bytes = are_bytes (first ∷ rest) 1 n (suc n) (omega arith) all };
        same = ap (λ (byte : ℕ). byte ∷ take n rest) (is ∙ ap (λ m. 0xF0 + m) (sym long));
      },
      λ _. tt,
      (refl, refl),
    )

name_function_of : (first : ℕ) → IsIn 0x1D 0x20 first → (function : NameFunction) × (name_function_code function ≡ first)
name_function_of first range = elim (cases_eq first 0x1D) [
  | inl is ↦ (GoToName, sym is)
  | inr other ↦ elim (cases_eq first 0x1E) [
    | inl is ↦ (ExecuteName, sym is)
    | inr last ↦ (Wordless, omega (arith, range.0, range.1, other, last))
  ]
]

pub named_sized : (bytes : List ℕ) (n : ℕ) → IsIn 0x1D 0x20 (get_or bytes 0 0) → get_or bytes 1 0 ≡ 0xF0 + n → n ≤ 15
    → suc (suc n) ≤ length bytes → Bytes bytes (suc (suc n)) → Sized bytes (suc (suc n))
named_sized [] n range is few inside all = absurd (omega (arith, inside))
named_sized (first ∷ []) n range is few inside all = absurd (omega (arith, inside))
named_sized (first ∷ second ∷ rest) n range is few inside all =
    let long : length (take n rest) ≡ n = length-take-le n rest (omega (arith, inside)) in
    let function = name_function_of first range in
    in_front (first ∷ second ∷ rest) (suc (suc n)) inside (
      Named function.0 (take n rest),
      record {
        valid = record {
          fits = omega (arith, long, few);
          bytes = are_bytes (first ∷ second ∷ rest) 2 n (suc (suc n)) (omega arith) all;
        };
        same =
            ap (λ (byte : ℕ). byte ∷ second ∷ take n rest) (sym function.1)
            ∙ ap (λ (byte : ℕ). name_function_code function.0 ∷ byte ∷ take n rest) (is ∙ ap (λ m. 0xF0 + m) (sym long));
      },
      λ _. tt,
      (refl, refl),
    )

-- END and .END., by bit 5 of the third byte.
pub end_sized : (bytes : List ℕ) → 3 ≤ length bytes → IsIn 0xC0 0xCE (get_or bytes 0 0) → get_or bytes 2 0 < 0xF0
    → get_or bytes 2 0 / 32 % 2 ≡ 0 → Bytes bytes 3 → (link marks : ℕ) × Begins bytes (End link marks) 3
end_sized [] some range below clear all = absurd (omega (arith, some))
end_sized (first ∷ []) some range below clear all = absurd (omega (arith, some))
end_sized (first ∷ second ∷ []) some range below clear all = absurd (omega (arith, some))
end_sized (first ∷ second ∷ third ∷ rest) some range below clear all =
    let link = (first - 0xC0) * 256 + second in
    let marks = third / 64 * 32 + third % 32 in
    let second_inside : second < 256 = all 1 (omega arith) in (
      link,
      marks,
      begins_by (first ∷ second ∷ third ∷ rest) (End link marks) 3 some
          (omega (arith, range.0, range.1, second_inside), omega (arith, below))
          (three_of (0xC0 + link / 256) (link % 256) (marks / 32 * 64 + marks % 32) first second third
          (omega (arith, range.0, second_inside)) (omega (arith, second_inside)) (omega (arith, clear)))
          tt,
    )

pub final_sized : (bytes : List ℕ) → 3 ≤ length bytes → IsIn 0xC0 0xCE (get_or bytes 0 0) → get_or bytes 2 0 < 0xF0
    → (get_or bytes 2 0 / 32 % 2 ≡ 0 → ⊥) → Bytes bytes 3 → (link marks : ℕ) × Begins bytes (FinalEnd link marks) 3
final_sized [] some range below set all = absurd (omega (arith, some))
final_sized (first ∷ []) some range below set all = absurd (omega (arith, some))
final_sized (first ∷ second ∷ []) some range below set all = absurd (omega (arith, some))
final_sized (first ∷ second ∷ third ∷ rest) some range below set all =
    let link = (first - 0xC0) * 256 + second in
    let marks = third / 64 * 32 + third % 32 in
    let second_inside : second < 256 = all 1 (omega arith) in
    let bit : third / 32 % 2 ≡ 1 = omega (arith, set) in (
      link,
      marks,
      begins_by (first ∷ second ∷ third ∷ rest) (FinalEnd link marks) 3 some
          (omega (arith, range.0, range.1, second_inside), omega (arith, below, bit))
          (three_of (0xC0 + link / 256) (link % 256) (0x20 + (marks / 32 * 64 + marks % 32)) first second third
          (omega (arith, range.0, second_inside)) (omega (arith, second_inside)) (omega (arith, bit)))
          tt,
    )

-- Global labels, with one character less than the third byte counts.
pub label_sized : (bytes : List ℕ) (n : ℕ) → IsIn 0xC0 0xCE (get_or bytes 0 0) → get_or bytes 2 0 ≡ 0xF1 + n → n ≤ 14
    → 4 + n ≤ length bytes → Bytes bytes (4 + n) → Sized bytes (4 + n)
label_sized bytes n range is few inside all =
    let size : 3 + (1 + n) ≡ 4 + n = omega arith in
    let name : take n (drop 4 bytes) ≡ take (3 + (1 + n) - 4) (drop 4 bytes) = ap (λ m. take m (drop 4 bytes)) (omega arith) in (
      GlobalLabel ((get_or bytes 0 0 - 0xC0) * 256 + get_or bytes 1 0) (get_or bytes 3 0) (take n (drop 4 bytes)),
      subst (λ (m : ℕ). Begins bytes (GlobalLabel ((get_or bytes 0 0 - 0xC0) * 256 + get_or bytes 1 0)
          (get_or bytes 3 0) (take n (drop 4 bytes))) m) size
          (begins_label bytes ((get_or bytes 0 0 - 0xC0) * 256 + get_or bytes 1 0) (1 + n) (take n (drop 4 bytes))
          range.0 range.1 (all 1 (omega arith)) refl (omega (arith, is)) (omega (arith, is, few)) (all 3 (omega arith))
          (omega (arith, is)) (omega arith) (omega (arith, inside)) name (are_bytes bytes 4 n (4 + n) (omega arith) all)),
      (refl, refl),
    )

-- Numbers.
character_of : (code : ℕ) → IsIn 0x10 0x1D code → (character : Character) × (character_code character ≡ code)
character_of code range =
    let k = code - 0x10 in
    let all : every 13 (λ n. character_code (get_or characters n Zero) == 0x10 + n) ≡ true = refl in
    let here = every_holds 13 (λ n. character_code (get_or characters n Zero) == 0x10 + n) all k (omega (arith, range.0, range.1)) in
    let same : 0x10 + k ≡ code = omega (arith, range.0) in
    (get_or characters k Zero, eqb-true _ _ here ∙ same)

characters_of : (count : ℕ) (bytes : List ℕ) → count ≤ length bytes → ((k : ℕ) → k < count → IsIn 0x10 0x1D (get_or bytes k 0))
    → (found : List Character) × (map character_code found ≡ take count bytes)
characters_of zero bytes inside each = ([], refl)
characters_of (suc n) [] inside each = absurd (omega (arith, inside))
characters_of (suc n) (code ∷ bytes) inside each =
    let first = character_of code (each 0 (omega arith)) in
    let rest = characters_of n bytes (omega (arith, inside)) (λ k below. each (suc k) (omega (arith, below))) in (
      first.0 ∷ rest.0,
      ap (λ (byte : ℕ). byte ∷ map character_code rest.0) first.1 ∙ ap (λ (all : List ℕ). code ∷ all) rest.1,
    )

goes_on : (bytes : List ℕ) (n : ℕ) → GoesOn (drop n bytes) → (n < length bytes) × IsIn 0x10 0x1D (get_or bytes n 0)
goes_on bytes n on = grind (arith, common_steps)

pub number_sized : (bytes : List ℕ) (count : ℕ) → 1 ≤ count → count ≤ 16 → count ≤ length bytes
    → ((k : ℕ) → k < count → IsIn 0x10 0x1D (get_or bytes k 0))
    → (count < length bytes → IsIn 0x10 0x1D (get_or bytes count 0) → count ≡ 16) → Sized bytes count
number_sized bytes count some most inside each whole =
    let found = characters_of count bytes inside each in
    let long : length found.0 ≡ count =
    sym (length-map found.0 character_code) ∙ ap length found.1 ∙ length-take-le count bytes inside in (
      Number found.0,
      begins_by bytes (Number found.0) count inside (omega (arith, long, some), omega (arith, long, most)) found.1
          (λ on. let next = goes_on bytes count on in long ∙ whole next.0 next.1),
      (refl, refl),
    )
