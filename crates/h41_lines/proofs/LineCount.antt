-- A text has no more lines than bytes.
use Rattle.std.proofs.Common.{ℕ, ◌+◌, ◌≤◌, Bool, true, false, cond, ◌==◌, List, [], ◌∷◌, length, arith}
use Rattle.std.specs.List.{onto_first, slice_split}
use Rattle.std.specs.Str.Lines.{lines_of_parts}
use Rattle.h41_lines.specs.Lines.{lines}

-- An empty part before the others adds at most one line.
count_empty : (parts : List (List ℕ)) → length (lines_of_parts ([] ∷ parts)) ≤ length (lines_of_parts parts) + 1
count_empty [] = omega arith
count_empty (part ∷ parts) = omega arith

-- One part is at most one line.
count_one : (none : Bool) (part : List ℕ) → length (cond none [] (part ∷ [])) ≤ 1
count_one true part = omega arith
count_one false part = omega arith

-- A byte before the others adds at most one line, too.
count_byte : (byte : ℕ) (parts : List (List ℕ)) → length (lines_of_parts (onto_first byte parts)) ≤ length (lines_of_parts parts) + 1
count_byte byte [] = omega arith
count_byte byte (part ∷ []) = let one = count_one (length (byte ∷ part) == 0) (byte ∷ part) in omega (arith, one)
count_byte byte (part ∷ other ∷ parts) = omega arith

count_next : (ends : Bool) (byte : ℕ) (parts : List (List ℕ))
    → length (lines_of_parts (cond ends ([] ∷ parts) (onto_first byte parts))) ≤ length (lines_of_parts parts) + 1
count_next true byte parts = count_empty parts
count_next false byte parts = count_byte byte parts

pub length-lines : (text : List ℕ) → length (lines text) ≤ length text
length-lines [] = omega arith
length-lines (byte ∷ text) =
    let next = count_next (byte == 10) byte (slice_split (λ b. b == 10) text) in
    let rest = length-lines text in
    omega (arith, next, rest)
