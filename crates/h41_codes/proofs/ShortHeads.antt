-- The first byte of a short line determines how many bytes it has.
use Rattle.std.proofs.Common.{◌≡◌, ℕ, zero, suc, ◌/◌, ◌<◌, ◌≤◌, List, ◌∷◌, length, take, get_or, inl, inr, refl, sym, ap, subst, arith}
use Rattle.std.proofs.lemmas.List.{length-take}
use Rattle.h41_codes.specs.ByteGrammar.{spelling, Begins, IsLine}
use Rattle.h41_codes.specs.Codes.{parameter_function_code}
use Rattle.h41_codes.specs.Heads.{IsIn, IsOneByte, IsShort, IsTwoBytes}
use Rattle.h41_codes.specs.ShortLines.{BeginsShorts, line_of}
use Rattle.h41_codes.specs.declared.functions.ParameterFunction.{ParameterFunction}
use Rattle.h41_codes.specs.declared.functions.ParameterFunction.TheVariants.{Exchange, Label}
use Rattle.h41_codes.specs.declared.line.Line.{Line}
use Rattle.h41_codes.specs.declared.short_lines.ShortLine.{ShortLine}
use Rattle.h41_codes.specs.declared.short_lines.ShortLine.TheVariants as short
use Rattle.h41_codes.proofs.LineLengths.{spelling_least}
use Rattle.h41_codes.proofs.Reading.{branch_range, register_range}
use Rattle.h41_codes.proofs.Tables.{function_range}

operand_head : (function : ParameterFunction) → IsTwoBytes (parameter_function_code function)
operand_head Exchange = inr (inr (omega arith, omega arith))
operand_head Label = inr (inr (omega arith, omega arith))
operand_head function = inl (omega arith, omega arith)

head_of : (one : ShortLine) → IsLine (line_of one) → IsShort (get_or (spelling (line_of one)) 0 0) (length (spelling (line_of one)))
head_of (short.LocalLabel label) valid = inl (refl, inl (omega (arith, valid)), λ null. omega (arith, null))
head_of (short.Register function register) valid =
    let range = register_range function register valid in
    inl (refl, inr (range.0, omega (arith, range.1)), λ null. omega (arith, null, range.0))
head_of (short.Plain function) valid =
    let range = function_range function in
    inl (refl, inr (omega (arith, range.0), omega (arith, range.1)), λ null. omega (arith, null, range.0))
head_of (short.WithOperand function operand) valid = inr (inl (refl, operand_head function))
head_of (short.Module number entry) valid = inr (inl (refl, inl (omega arith, omega (arith, valid.0))))
head_of (short.BranchIndirect branch register) valid = inr (inl (refl, inl (omega arith, omega arith)))
head_of (short.ShortGoTo label distance) valid = inr (inl (refl, inr (inl (omega arith, omega (arith, valid.0)))))
head_of (short.BranchTo branch distance backwards label) valid =
    let range = branch_range branch (distance / 256) (omega (arith, valid.0)) in
    inr (inr (refl, (omega (arith, range.0), range.1)))

low : (first : ℕ) → IsOneByte first → first < 0x90
low first (inl a) = omega (arith, a)
low first (inr a) = a.1

middle : (first : ℕ) → IsTwoBytes first → IsIn 0x90 0xD0 first
middle first (inl a) = (a.0, omega (arith, a.1))
middle first (inr (inl a)) = (omega (arith, a.0), omega (arith, a.1))
middle first (inr (inr a)) = (omega (arith, a.0), a.1)

one_size : (first a b : ℕ) → IsShort first a → IsShort first b → a ≡ b
one_size first a b (inl x) (inl y) = omega (arith, x.0, y.0)
one_size first a b (inl x) (inr (inl y)) = absurd (omega (arith, low first x.1, (middle first y.1).0))
one_size first a b (inl x) (inr (inr y)) = absurd (omega (arith, low first x.1, y.1.0))
one_size first a b (inr (inl x)) (inl y) = absurd (omega (arith, low first y.1, (middle first x.1).0))
one_size first a b (inr (inl x)) (inr (inl y)) = omega (arith, x.0, y.0)
one_size first a b (inr (inl x)) (inr (inr y)) = absurd (omega (arith, (middle first x.1).1, y.1.0))
one_size first a b (inr (inr x)) (inl y) = absurd (omega (arith, low first y.1, x.1.0))
one_size first a b (inr (inr x)) (inr (inl y)) = absurd (omega (arith, (middle first y.1).1, x.1.0))
one_size first a b (inr (inr x)) (inr (inr y)) = omega (arith, x.0, y.0)

first_of : (first : ℕ) (rest : List ℕ) (line : Line) (size : ℕ) → 1 ≤ length (spelling line) → take size (first ∷ rest) ≡ spelling line
    → get_or (spelling line) 0 0 ≡ first
first_of first rest line zero some same = absurd (omega (arith, some, ap length same))
first_of first rest line (suc n) some same = sym (ap (λ (bytes : List ℕ). get_or bytes 0 0) same)

-- The first byte of a short line with this many bytes is the first byte of such lines.
pub short_head : (first : ℕ) (rest : List ℕ) (line : ShortLine) (count : ℕ) → Begins (first ∷ rest) (line_of line) count
    → IsShort first count
short_head first rest line count begins =
    let valid = begins.spells.valid in
    let same = first_of first rest (line_of line) count (spelling_least (line_of line) valid) begins.spells.same in
    let count_is : length (spelling (line_of line)) ≡ count =
    omega (arith, ap length begins.spells.same, length-take count (first ∷ rest), begins.inside) in
    subst (λ (n : ℕ). IsShort first n) count_is
    (subst (λ (byte : ℕ). IsShort byte (length (spelling (line_of line)))) same (head_of line valid))

-- All short lines with the same first byte have the same number of bytes.
pub size_of_head : (first size : ℕ) → IsShort first size → BeginsShorts first size
size_of_head first size is rest line count begins = one_size first count size (short_head first rest line count begins) is
