-- Packed lines are read again.
use Rattle.std.proofs.Common.{◌≡◌, ℕ, suc, ◌+◌, ◌-◌, ◌<◌, ◌≤◌, Bool, false, List, [], ◌∷◌, ◌++◌, length, take, get_or}
use Rattle.std.proofs.Common.{replicate, refl, sym, ◌∙◌, ap, subst, arith, append_assoc, append-nil, length-append, All, rules}
use Rattle.std.specs.Prelude.{MatchBool, ◌&&◌, if◌then◌else◌}
use Rattle.std.specs.Option.{option_map_or}
use Rattle.std.proofs.lemmas.List.{length-replicate, get_or_append_left, get_or-append-add, get_or-replicate}
use Rattle.std.proofs.Math.ListN.{get_or-eq_default}
use Rattle.std.proofs.Math.Seq.{drop-append_seam}
use Rattle.h41_codes.specs.ByteGrammar.{spelling, IsLine, IsComplete, GoesOn, Begins}
use Rattle.h41_codes.specs.ByteLaws.{ByteRoundTrip}
use Rattle.h41_codes.specs.declared.line.Line.{Line}
use Rattle.h41_codes.specs.declared.line.Line.TheVariants.{FinalEnd}
use Rattle.h41_codes.proofs.FirstBytes.{number_begins}
use Rattle.h41_codes.proofs.LineLengths.{spelling_least}
use Rattle.h41_program.specs.declared.listed_line.ListedLine.{ListedLine}
use Rattle.h41_program.specs.Edits.{lines_of}
use Rattle.h41_program.specs.Lines.{is_number}
use Rattle.h41_program.specs.Packing.{gap, last_line, packed_lines, filler, packing, written_end}
use Rattle.h41_program.specs.private.Packers.{null_between}
use Rattle.h41_program.specs.ProgramLaws.{IsInner, PackingRoundTrip}
use Rattle.h41_program.specs.FirstLines.{line_bytes, FirstFrom, behind}
use Rattle.h41_program.specs.ProgramLines.{Reads}
use Rattle.h41_program.proofs.FirstLines.{line_bytes-below, line_bytes-at}
use Rattle.h41_program.proofs.Inner.{not_final, not_null}
use Rattle.h41_program.proofs.Packings.{length-packing, packed-join}
use Rattle.std.proofs.lemmas.Grind.{common_steps}

-- The bytes of the first line, of the gap after it, and of the others.
parts : (next : Line) (lines : List Line) (n : ℕ)
    → packed_lines (next ∷ lines) ++ replicate n 0 ≡ spelling next ++ (gap next lines ++ (packed_lines lines ++ replicate n 0))
parts next lines n = simp append_assoc

abbrev one_null : Bool → List ℕ
one_null b = if b then 0 ∷ [] else []

chosen_null : (b : Bool) (k : ℕ) → get_or (one_null b) k 0 ≡ 0
chosen_null b k = search rules

all_null : (n k : ℕ) → ◌≡◌ {A = ℕ} (get_or (replicate n 0) k 0) 0
all_null n k = search (rules, get_or-replicate, get_or-eq_default, length-replicate)

after_front : (xs ys : List ℕ) (k : ℕ) → length xs ≤ k → get_or (xs ++ ys) k 0 ≡ get_or ys (k - length xs) 0
after_front xs ys k above = search (rules, get_or-append-add)

-- The first line, and the others.
pub first_inner : (line : Line) (lines : List Line) → All IsInner (line ∷ lines) → IsInner line
first_inner line lines inner = inner 0 line (omega arith)

pub others_inner : (line : Line) (lines : List Line) → All IsInner (line ∷ lines) → All IsInner lines
others_inner line lines inner = λ k d below. inner (suc k) d (omega (arith, below))

-- Bytes that end in nulls, followed by more nulls.
body_null : (front : List ℕ) (n at : ℕ) → ((k : ℕ) → at ≤ k → k < length front → get_or front k 0 ≡ 0) → (k : ℕ) → at ≤ k
    → get_or (front ++ replicate n 0) k 0 ≡ 0
body_null front n at nulls k low = search (rules, get_or_append_left, after_front, all_null)

-- The bytes of .END.
end_begins : Begins written_end (FinalEnd 0 0) 3
end_begins = record { inside = omega arith; spells = record { valid = (omega arith, omega arith); same = refl }; whole = tt }

-- The bytes of the lines after a number do not continue the number.
number_stops : (next : Line) (behind : List ℕ) → IsLine next → GoesOn ((if is_number next then 0 ∷ [] else []) ++ (spelling next ++ behind))
    → ⊥
number_stops next behind valid goes = search (rules, number_begins)

-- A line is complete before the lines after it.
follows_whole : (line : Line) (lines : List Line) (n : ℕ) → All IsInner lines
    → IsComplete line (gap line lines ++ (packed_lines lines ++ replicate n 0))
follows_whole line lines n inner = search (rules, number_stops, first_inner, parts)

-- The bytes after other bytes.
take-front : (xs ys : List ℕ) → take (length xs) (xs ++ ys) ≡ xs
take-front [] ys = refl
take-front (x ∷ xs) ys = ap (λ (l : List ℕ). x ∷ l) (take-front xs ys)

-- The bytes that a line may take between other bytes and the last three.
between : (front middle end : List ℕ) → 1 ≤ length middle
    → line_bytes ((front ++ middle) ++ end) (length (front ++ middle)) (length front) ≡ middle
between front middle end some = grind (arith, common_steps, length-append, line_bytes-below, append_assoc, drop-append_seam, take-front)

-- The bytes between lines are nulls.
gap_null : (line : Line) (lines : List Line) (k : ℕ) → get_or (gap line lines) k 0 ≡ 0
gap_null line [] k = refl
gap_null line (next ∷ lines) k = chosen_null (is_number line && is_number next) k

-- Lines are read again after other bytes, which may end in nulls.
module _ (again : ByteRoundTrip) where
  pub trip : (lines : List Line) (front : List ℕ) (at n : ℕ) → All IsInner lines → at ≤ length front
      → ((k : ℕ) → at ≤ k → k < length front → get_or front k 0 ≡ 0)
      → (listed : List ListedLine)
      × Reads ((front ++ (packed_lines lines ++ replicate n 0)) ++ written_end) (length (front ++ (packed_lines lines ++ replicate n 0))) at
      listed
      × (lines_of listed ≡ lines ++ FinalEnd 0 0 ∷ [])
  trip [] front at n inner inside nulls =
      let body = front ++ replicate n 0 in
      let final = length body in
      let last : ListedLine = record { position = final; line = FinalEnd 0 0 } in
      let size : length body ≡ length front + n = length-append front (replicate n 0) ∙ ap (λ m. length front + m) (length-replicate n 0) in
      let taken : line_bytes (body ++ written_end) final final ≡ written_end =
      line_bytes-at (body ++ written_end) final ∙ drop-append_seam body written_end in
      let first : FirstFrom (body ++ written_end) final at last = record {
        from = omega (arith, size, inside);
        nulls = λ k low high. get_or_append_left body written_end 0 k high ∙ body_null front n at nulls k low;
        begins = subst (λ (l : List ℕ). Begins l (FinalEnd 0 0) 3) (sym taken) end_begins;
        not_null = λ same. cc;
      } in
      (last ∷ [], (first, refl), refl)
  trip (line ∷ lines) front at n inner inside nulls =
      let this = first_inner line lines inner in
      let tail = packed_lines lines ++ replicate n 0 in
      let middle = packed_lines (line ∷ lines) ++ replicate n 0 in
      let next = front ++ spelling line ++ gap line lines in
      let least = spelling_least line this.valid in
      let size : length middle ≡ length (spelling line) + length (gap line lines ++ tail) =
      ap length (parts line lines n) ∙ length-append (spelling line) (gap line lines ++ tail) in
      let whole : length (front ++ middle) ≡ length front + length middle = length-append front middle in
      let first : ListedLine = record { position = length front; line = line } in
      let taken = between front middle written_end (omega (arith, size, least)) in
      let begins = again line (gap line lines ++ tail) this.valid (follows_whole line lines n (others_inner line lines inner)) in
      let is_first : FirstFrom ((front ++ middle) ++ written_end) (length (front ++ middle)) at first = record {
        from = inside;
        nulls =
            λ k low high. get_or_append_left (front ++ middle) written_end 0 k (omega (arith, whole, high))
            ∙ get_or_append_left front middle 0 k high ∙ nulls k low high;
        begins = subst (λ (l : List ℕ). Begins l line (length (spelling line))) (sym (parts line lines n) ∙ sym taken) begins;
        not_null = not_null line this.inner;
      } in
      let before : length (front ++ spelling line) ≡ length front + length (spelling line) = length-append front (spelling line) in
      let ahead : length next ≡ length (front ++ spelling line) + length (gap line lines) =
      length-append (front ++ spelling line) (gap line lines) in
      let rest = trip lines next (length front + length (spelling line)) n (others_inner line lines inner) (omega (arith, before, ahead))
      (λ k low high. after_front (front ++ spelling line) (gap line lines) k (omega (arith, before, low))
      ∙ gap_null line lines (k - length (front ++ spelling line))) in
      let same : next ++ tail ≡ front ++ middle = simp append_assoc in
      let reads : Reads ((front ++ middle) ++ written_end) (length (front ++ middle)) (behind first) rest.0 =
      subst (λ (body : List ℕ). Reads (body ++ written_end) (length body) (length front + length (spelling line)) rest.0) same rest.1 in (
        first ∷ rest.0,
        (
          is_first,
          subst (λ (b : Bool).
              MatchBool b (rest.0 ≡ []) (Reads ((front ++ middle) ++ written_end) (length (front ++ middle)) (behind first) rest.0))
              (sym (not_final line this.inner)) reads,
        ),
        ap (λ (l : List Line). line ∷ l) rest.2,
      )

  -- Lines after others are read from the byte after these on.
  pub reads_behind : (lines rest : List Line) → All IsInner rest → (listed : List ListedLine)
      × Reads (packing (lines ++ rest)) (length (packing (lines ++ rest)) - 3) (length (packed_lines lines)) listed
      × (lines_of listed ≡ rest ++ FinalEnd 0 0 ∷ [])
  reads_behind lines [] inner =
      let count = filler (length (packed_lines lines)) in
      let found =
      trip [] (packed_lines lines) (length (packed_lines lines)) count inner (omega arith) (λ k low high. absurd (omega (arith, low, high)))
      in
      let none : lines ++ [] ≡ lines = append-nil lines in
      let size : length (packed_lines lines ++ replicate count 0) ≡ length (packing lines) - 3 =
      omega (arith, length-packing lines, length-append (packed_lines lines) (replicate count 0), length-replicate {A = ℕ} count 0) in
      let read = subst (λ (n : ℕ). Reads (packing lines) n (length (packed_lines lines)) found.0) size found.1 in (
        found.0,
        subst (λ (all : List Line). Reads (packing all) (length (packing all) - 3) (length (packed_lines lines)) found.0) (sym none) read,
        found.2,
      )
  reads_behind lines (line ∷ rest) inner =
      let all = lines ++ line ∷ rest in
      let count = filler (length (packed_lines all)) in
      let middle = null_between (is_number line) (last_line lines) in
      let front = packed_lines lines ++ middle in
      let ahead : length front ≡ length (packed_lines lines) + length middle = length-append (packed_lines lines) middle in
      let found = trip (line ∷ rest) front (length (packed_lines lines)) count inner (omega (arith, ahead))
      (λ k low high. after_front (packed_lines lines) middle k low
      ∙ chosen_null (option_map_or is_number (last_line lines) false && is_number line) (k - length (packed_lines lines))) in
      let body : front ++ (packed_lines (line ∷ rest) ++ replicate count 0) ≡ packed_lines all ++ replicate count 0 =
      sym (append_assoc front (packed_lines (line ∷ rest)) (replicate count 0))
      ∙ ap (λ (bytes : List ℕ). bytes ++ replicate count 0) (sym (packed-join lines line rest)) in
      let size : length (packed_lines all ++ replicate count 0) ≡ length (packing all) - 3 =
      omega (arith, length-packing all, length-append (packed_lines all) (replicate count 0), length-replicate {A = ℕ} count 0) in
      let read = subst (λ (bytes : List ℕ). Reads (bytes ++ written_end) (length bytes) (length (packed_lines lines)) found.0) body found.1
      in
      (found.0, subst (λ (n : ℕ). Reads (packing all) n (length (packed_lines lines)) found.0) size read, found.2)

pub reads_packing : ByteRoundTrip → PackingRoundTrip
reads_packing again lines inner =
    let count = filler (length (packed_lines lines)) in
    let found = trip again lines [] 0 count inner (omega arith) (λ k low high. absurd (omega (arith, high))) in
    let size : length (packed_lines lines ++ replicate count 0) ≡ length (packing lines) - 3 =
    omega (arith, length-packing lines, length-append (packed_lines lines) (replicate count 0), length-replicate {A = ℕ} count 0) in
    (found.0, (subst (λ (n : ℕ). Reads (packing lines) n 0 found.0) size found.1, found.2))
