-- A line of one byte is the line of all bytes that begin with this byte.
use Rattle.std.proofs.Common.{◌≡◌, ℕ, suc, ◌+◌, ◌-◌, ◌<◌, ◌≤◌, List, [], ◌∷◌, ◌++◌, map, take, Ok, Result, sym, ◌∙◌, ap, subst, arith}
use Rattle.std.proofs.Common.{inl, inr, min, rules}
use Rattle.std.specs.List.{range_with_len}
use Rattle.std.proofs.lemmas.List.{length-take, take-take}
use Rattle.std.proofs.lemmas.List.FromFn.{take-map-range_with_len}
use Rattle.h41_codes.specs.Heads.{IsOneByte}
use Rattle.h41_codes.specs.ByteGrammar.{AnswersLine, Begins, GoesOn, IsLine, IsComplete, spelling}
use Rattle.h41_codes.specs.ByteLaws.{NumberBegins, OneLine}
use Rattle.h41_codes.specs.declared.line.Line.{Line}
use Rattle.h41_codes.specs.declared.line.Line.TheVariants.{Number}
use Rattle.h41_program.proofs.Windows.{begins_least}
use Rattle.h41_program.specs.ProgramBytes.{program_byte}
use Rattle.h41_program.specs.private.Reading.{bytes_seen}
use Rattle.h41_ram.specs.RegisterMap.{RegisterMap}

-- A byte with which no number begins.
abbrev pub BeginsNoNumber : ℕ → Type 0
BeginsNoNumber byte = 0x10 ≤ byte → byte ≤ 0x1C → ⊥

whole_alone : (numbers : NumberBegins) (line : Line) (byte : ℕ) (rest : List ℕ) → IsLine line → byte ∷ [] ≡ spelling line
    → BeginsNoNumber byte → IsComplete line rest
whole_alone numbers (Number characters) byte rest valid same other = λ goes.
    let begun : GoesOn (spelling (Number characters) ++ []) = (numbers (Number characters) [] valid).1 tt in
    let own : GoesOn (byte ∷ []) = subst (λ (bytes : List ℕ). GoesOn (bytes ++ [])) (sym same) begun in
    absurd (other own.0 own.1)
whole_alone numbers line byte rest valid same other = tt

one_byte : (byte : ℕ) (line : Line) (count : ℕ) → count ≡ 1 → take count (byte ∷ []) ≡ spelling line → byte ∷ [] ≡ spelling line
one_byte byte line count is same = subst (λ (n : ℕ). take n (byte ∷ []) ≡ spelling line) is same

pub begins_by : (numbers : NumberBegins) (byte : ℕ) (rest : List ℕ) (line : Line) → IsLine line → byte ∷ [] ≡ spelling line
    → BeginsNoNumber byte → Begins (byte ∷ rest) line 1
begins_by numbers byte rest line valid same other = search (rules, whole_alone)

pub begins_alone : (numbers : NumberBegins) (byte : ℕ) (rest : List ℕ) (line : Line) (count : ℕ) → BeginsNoNumber byte
    → Begins (byte ∷ []) line count → Begins (byte ∷ rest) line count
begins_alone numbers byte rest line count other begins = search (rules, begins_least, begins_by, one_byte)

pub answers_alone : {E : Type 0} (one : OneLine) (bytes : List ℕ) (line : Line) (count : ℕ) → Begins bytes line count
    → AnswersLine {E = E} (Ok (line, count)) bytes
answers_alone one bytes line count begins = search rules

-- The bytes that are examined begin with the first one.
pub seen_first : (memory : RegisterMap) (at limit : ℕ) → at < limit
    → bytes_seen memory at limit ≡ program_byte memory at ∷ map (program_byte memory) (range_with_len (at + 1) (min 18 (limit - at) - 1))
seen_first memory at limit before = search rules

answers_same : {E : Type 0} (found : Result (Line × ℕ) E) (bytes other : List ℕ) → bytes ≡ other → AnswersLine found bytes
    → AnswersLine found other
answers_same found bytes other same answers = subst (λ (of : List ℕ). AnswersLine found of) same answers

-- A line that was read from the first byte alone.
pub seen_alone : {E : Type 0} (one : OneLine) (numbers : NumberBegins) (memory : RegisterMap) (at limit byte : ℕ) (line : Line) (count : ℕ)
    → at < limit → byte ≡ program_byte memory at → BeginsNoNumber byte → Begins (byte ∷ []) line count
    → AnswersLine {E = E} (Ok (line, count)) (bytes_seen memory at limit)
seen_alone one numbers memory at limit byte line count before is other begins =
    let rest : List ℕ = map (program_byte memory) (range_with_len (at + 1) (min 18 (limit - at) - 1)) in
    let same : byte ∷ rest ≡ bytes_seen memory at limit = ap (λ first. first ∷ rest) is ∙ sym (seen_first memory at limit before) in
    let alone = begins_alone numbers byte rest line count other begins in
    answers_same (Ok (line, count)) (byte ∷ rest) (bytes_seen memory at limit) same (answers_alone one (byte ∷ rest) line count alone)

-- A byte that is a line on its own begins no number.
pub no_number : (byte : ℕ) → IsOneByte byte → BeginsNoNumber byte
no_number byte (inl low) = λ from to. omega (arith, low, from)
no_number byte (inr high) = λ from to. omega (arith, high.0, to)

pub whole_narrow : (numbers : NumberBegins) (line : Line) (byte count : ℕ) (more rest : List ℕ) → IsLine line
    → take (suc count) (byte ∷ more) ≡ spelling line → BeginsNoNumber byte → IsComplete line rest
whole_narrow numbers (Number characters) byte count more rest valid same other = λ goes.
    let begun : GoesOn (spelling (Number characters) ++ []) = (numbers (Number characters) [] valid).1 tt in
    let own : GoesOn (byte ∷ []) = subst (λ (bytes : List ℕ). GoesOn (bytes ++ [])) (sym same) begun in
    absurd (other own.0 own.1)
whole_narrow numbers line byte count more rest valid same other = tt

-- A line of the first bytes that is no number is the line of all bytes.
pub begins_narrow : (numbers : NumberBegins) (byte m : ℕ) (more : List ℕ) (line : Line) (count : ℕ) → BeginsNoNumber byte
    → Begins (take m (byte ∷ more)) line count → Begins (byte ∷ more) line count
begins_narrow numbers byte m more line count other begins = search (rules, begins_least, length-take, take-take, whole_narrow)

-- If fewer bytes are examined, they are the first ones.
seen_fewer : (memory : RegisterMap) (at near limit : ℕ) → near ≤ limit
    → take (min 18 (near - at)) (bytes_seen memory at limit) ≡ bytes_seen memory at near
seen_fewer memory at near limit inside =
    take-map-range_with_len (program_byte memory) at (min 18 (limit - at)) (min 18 (near - at)) (omega (arith, inside))

-- A line that was read from fewer bytes, the first of which begins no number.
pub seen_narrow : {E : Type 0} (one : OneLine) (numbers : NumberBegins)
    (memory : RegisterMap) (at near limit byte : ℕ) (line : Line) (count : ℕ)
    → at < limit → near ≤ limit → byte ≡ program_byte memory at → BeginsNoNumber byte → Begins (bytes_seen memory at near) line count
    → AnswersLine {E = E} (Ok (line, count)) (bytes_seen memory at limit)
seen_narrow one numbers memory at near limit byte line count before inside is other begins =
    let rest : List ℕ = map (program_byte memory) (range_with_len (at + 1) (min 18 (limit - at) - 1)) in
    let same : byte ∷ rest ≡ bytes_seen memory at limit = ap (λ first. first ∷ rest) is ∙ sym (seen_first memory at limit before) in
    let fewer : bytes_seen memory at near ≡ take (min 18 (near - at)) (byte ∷ rest) =
    sym (seen_fewer memory at near limit inside) ∙ ap (take (min 18 (near - at))) (sym same) in
    let narrow =
    begins_narrow numbers byte (min 18 (near - at)) rest line count other
    (subst (λ (bytes : List ℕ). Begins bytes line count) fewer begins) in
    answers_same (Ok (line, count)) (byte ∷ rest) (bytes_seen memory at limit) same (answers_alone one (byte ∷ rest) line count narrow)
