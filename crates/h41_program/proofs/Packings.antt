-- Lines packed one after another.
use Rattle.std.proofs.Common.{◌≡◌, ℕ, ◌+◌, ◌/◌, ◌<◌, ◌≤◌, List, [], ◌∷◌, ◌++◌, length, refl, sym, ◌∙◌, ap, arith, inl, inr}
use Rattle.std.proofs.Common.{append_assoc, append-nil, length-append, true≢false, Some, rules}
use Rattle.std.proofs.lemmas.Bool.{cases_Bool}
use Rattle.std.proofs.lemmas.List.{length-replicate}
use Rattle.h41_codes.specs.ByteGrammar.{spelling}
use Rattle.h41_codes.specs.declared.line.Line.{Line}
use Rattle.h41_program.specs.declared.packer.Packer.{Packer}
use Rattle.h41_program.specs.Lines.{is_number}
use Rattle.h41_program.specs.Packing.{last_line, packed_lines, filler, filled_up, packing}
use Rattle.h41_program.specs.private.Packers.{Packs, Pushes, null_between}

pub last_line-more : (lines : List Line) (line : Line) → last_line (lines ++ line ∷ []) ≡ Some line
last_line-more [] line = refl
last_line-more (one ∷ []) line = refl
last_line-more (one ∷ next ∷ lines) line = last_line-more (next ∷ lines) line

-- One more line is separated from the last.
pub packed-more : (lines : List Line) (line : Line)
    → packed_lines (lines ++ line ∷ []) ≡ packed_lines lines ++ null_between (is_number line) (last_line lines) ++ spelling line
packed-more [] line = simp append-nil
packed-more (one ∷ []) line = simp (append-nil, append_assoc)
packed-more (one ∷ next ∷ lines) line = search (rules, append-nil, append_assoc, packed-more (next ∷ lines) line)

-- Lines after others are separated from the last of these.
pub packed-join : (lines : List Line) (line : Line) (rest : List Line)
    → packed_lines (lines ++ line ∷ rest) ≡ packed_lines lines ++ null_between (is_number line) (last_line lines)
    ++ packed_lines (line ∷ rest)
packed-join [] line rest = refl
packed-join (one ∷ []) line rest = simp (append-nil, append_assoc)
packed-join (one ∷ next ∷ lines) line rest = search (rules, append-nil, append_assoc, packed-join (next ∷ lines) line rest)

-- Lines without more lines after them have no more bytes.
pub packed-less : (lines others : List Line) → length (packed_lines lines) ≤ length (packed_lines (lines ++ others))
packed-less [] others = omega arith
packed-less (line ∷ []) others = search (rules, length-append)
packed-less (line ∷ next ∷ lines) others = search (rules, length-append, packed-less (next ∷ lines) others)

-- A line was appended to others.
pub puts : (old mid new : Packer) (line : Line) (lines : List Line) → Packs old lines
    → Pushes old mid (null_between (is_number line) old.last)
    → Pushes mid new (spelling line) → Packs (record { bytes = new.bytes; full = new.full; last = Some line }) (lines ++ line ∷ [])
puts old mid new line lines packs parts pushes =
    let front = packed_lines lines in
    let middle = null_between (is_number line) (last_line lines) in
    let same : null_between (is_number line) old.last ≡ middle = ap (null_between (is_number line)) packs.last in
    let all = packed-more lines line in
    let long : length (packed_lines (lines ++ line ∷ [])) ≡ length front + length middle + length (spelling line) =
    ap length all ∙ length-append (front ++ middle) (spelling line) ∙ ap (λ n. n + length (spelling line)) (length-append front middle) in
    record {
      held = λ room.
          let second = pushes.held room in
          let first = parts.held second.0 in
          second.1
          ∙ ap (λ (bytes : List ℕ). bytes ++ spelling line)
          (first.1 ∙ ap (λ (bytes : List ℕ). bytes ++ null_between (is_number line) old.last) (packs.held first.0)
          ∙ ap (λ (bytes : List ℕ). front ++ bytes) same)
          ∙ sym all;
      full = λ mark. elim (cases_Bool mid.full) [
        | inl middle_full ↦ elim (cases_Bool old.full) [
          | inl old_full ↦ let many = packs.full old_full in omega (arith, many, long)
          | inr old_room ↦
              let size = ap length (packs.held old_room) in
              let part = ap length same in
              elim (parts.full middle_full) [
                | inl old_full ↦ let many = packs.full old_full in omega (arith, many, long)
                | inr many ↦ omega (arith, many, long, size, part)
              ]
        ]
        | inr middle_room ↦
            let first = parts.held middle_room in
            let size = ap length (packs.held first.0) in
            let part = ap length same in
            let both = ap length first.1 ∙ length-append old.bytes.items (null_between (is_number line) old.last) in
            elim (pushes.full mark) [
              | inl middle_full ↦ absurd (true≢false (sym middle_full ∙ middle_room))
              | inr many ↦ omega (arith, many, long, size, part, both)
            ]
      ];
      last = sym (last_line-more lines line);
    }

-- The number of bytes with their nulls and .END.
pub length-filled_up : (bytes : List ℕ) → length (filled_up bytes) ≡ length bytes + filler (length bytes) + 3
length-filled_up bytes = search (rules, length-append, length-replicate)

-- The number of bytes of a packing.
pub length-packing : (lines : List Line) → length (packing lines) ≡ length (packed_lines lines) + filler (length (packed_lines lines)) + 3
length-packing lines = length-filled_up (packed_lines lines)

-- There is no room for too many bytes.
pub no_room : (count registers : ℕ) → 2237 < count → count + filler count + 3 ≡ registers → 320 < registers / 7
no_room count registers many size = omega arith
