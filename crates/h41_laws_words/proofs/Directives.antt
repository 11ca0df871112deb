-- The directives of a source are read.
use Rattle.std.proofs.Common.{◌≡◌, ℕ, ◌+◌, ◌*◌, ◌/◌, ◌%◌, ◌==◌, List, [], ◌∷◌, ◌++◌, length, Ok, Option, Some, if◌then◌else◌, sym}
use Rattle.std.proofs.Common.{ap, subst, ◌∙◌, arith, append_assoc, length-append}
use Rattle.std.specs.Prelude.{slice_index}
use Rattle.std.proofs.lemmas.List.{get_or_at}
use Rattle.h41_asm.specs.Placing.{Labels, LinesSpell, SpellsRead, entry_words}
use Rattle.h41_asm.specs.SourceLines.{SourceLine}
use Rattle.h41_asm.specs.Statements.{EntryAt, name_words, reading_of}
use Rattle.h41_pages.specs.FunctionTables.{entry_offset, spelled_name, words_before}
use Rattle.h41_pages.specs.KeystrokeCode.{code_from, label_name}
use Rattle.h41_laws_words.specs.DirectivesRead.{NameIsRead, EntryIsRead, FocalIsRead, FunctionIsRead, SpellsBy, name_line, entry_line}
use Rattle.h41_laws_words.specs.DirectivesRead.{IsEntryOf, focal_line, lines_length}
use Rattle.h41_laws_words.proofs.SourcePlaces.{IsPlaced, placed, name_reading, entry_reading, focal_reading}
use Rattle.h41_laws_words.proofs.NameTexts.{length-name_words, name_spelled}

-- The place of a line of a source.
line_placed : (labels : Labels) (source words : List ℕ) (origin : ℕ)
    (before : List SourceLine) (line : SourceLine) (behind : List SourceLine)
    → SpellsBy labels source origin words (before ++ line ∷ behind) → IsPlaced labels origin before line behind words
line_placed labels source words origin before line behind by =
    placed labels origin before line behind words (subst (λ lines. LinesSpell labels origin lines words) by.split by.assembled.spelled)

pub name_is_read : NameIsRead
name_is_read labels source words fill text origin label before behind good by =
    let at = line_placed labels source words origin before (name_line label text) behind by in
    let own : at.own ≡ name_words text =
    subst (λ read. SpellsRead labels (origin + length at.front) read at.own) (name_reading text good) at.spells.words in
    let all : words ++ fill ≡ (at.front ++ name_words text) ++ (at.others ++ fill) =
    ap (λ (all : List ℕ). all ++ fill) (at.parts ∙ ap (λ (mine : List ℕ). at.front ++ (mine ++ at.others)) own)
    ∙ ap (λ (all : List ℕ). all ++ fill) (sym (append_assoc at.front (name_words text) at.others))
    ∙ append_assoc (at.front ++ name_words text) at.others fill in
    ap (λ (all : List ℕ). spelled_name (words_before all (lines_length before + length text))) all
    ∙ ap (λ count. spelled_name (words_before ((at.front ++ name_words text) ++ (at.others ++ fill)) (count + length text))) (sym at.size)
    ∙ name_spelled at.front text (at.others ++ fill) good

-- The two words of a table entry.
entry_at : (front others fill : List ℕ) (first second entry : ℕ) → length front ≡ 2 + 2 * entry
    → (slice_index ((front ++ (first ∷ second ∷ others)) ++ fill) (2 + 2 * entry) ≡ first)
    × (slice_index ((front ++ (first ∷ second ∷ others)) ++ fill) (3 + 2 * entry) ≡ second)
entry_at front others fill first second entry size =
    let whole : (front ++ (first ∷ second ∷ others)) ++ fill ≡ front ++ first ∷ second ∷ (others ++ fill) =
    append_assoc front (first ∷ second ∷ others) fill in
    let next : (front ++ first ∷ []) ++ second ∷ (others ++ fill) ≡ front ++ first ∷ second ∷ (others ++ fill) =
    append_assoc front (first ∷ []) (second ∷ (others ++ fill)) in (
      ap (λ (all : List ℕ). slice_index all (2 + 2 * entry)) whole
          ∙ get_or_at front first (second ∷ (others ++ fill)) 0 (2 + 2 * entry) size,
      ap (λ (all : List ℕ). slice_index all (3 + 2 * entry)) (whole ∙ sym next)
          ∙ get_or_at (front ++ first ∷ []) second (others ++ fill) 0
          (3 + 2 * entry) (omega (arith, size, length-append front (first ∷ []))),
    )

offset_read : (mark address first second : ℕ) → first ≡ 512 * mark + address % 0x1000 / 0x100 → second ≡ address % 0x100
    → first % 16 * 256 + second % 256 ≡ address % 0x1000
offset_read mark address first second e f = omega arith

kind_read : (mark address first : ℕ) → first ≡ 512 * mark + address % 0x1000 / 0x100 → first / 512 % 2 ≡ mark % 2
kind_read mark address first e = omega arith

-- The line of a table entry, of microcode or with the mark of a keystroke function.
entry_line_is_read : (mark : ℕ) (labels : Labels) (source words fill name : List ℕ) (origin entry : ℕ) (line : SourceLine)
    (before behind : List SourceLine) → reading_of line.code ≡ Ok (EntryAt (512 * mark) name) → lines_length before ≡ 2 + 2 * entry
    → SpellsBy labels source origin words (before ++ line ∷ behind)
    → (target : ℕ) × (labels name ≡ Some target) × IsEntryOf (words ++ fill) entry target (mark % 2 == 1)
entry_line_is_read mark labels source words fill name origin entry line before behind reading count by =
    let at = line_placed labels source words origin before line behind by in
    let own = subst (λ read. SpellsRead labels (origin + length at.front) read at.own) reading at.spells.words in
    let target = own.0 in
    let parts : words ++ fill ≡ (at.front ++ (entry_words (512 * mark) target ++ at.others)) ++ fill =
    ap (λ (all : List ℕ). all ++ fill) (at.parts ∙ ap (λ (mine : List ℕ). at.front ++ (mine ++ at.others)) own.2) in
    let two = entry_at at.front at.others fill (512 * mark + target % 0x1000 / 0x100) (target % 0x100) entry (at.size ∙ count) in
    let first : slice_index (words ++ fill) (2 + 2 * entry) ≡ 512 * mark + target % 0x1000 / 0x100 =
    ap (λ (all : List ℕ). slice_index all (2 + 2 * entry)) parts ∙ two.0 in
    let second : slice_index (words ++ fill) (3 + 2 * entry) ≡ target % 0x100 =
    ap (λ (all : List ℕ). slice_index all (3 + 2 * entry)) parts ∙ two.1 in
    let kind = ap (λ bit. bit == 1) (kind_read mark target _ first) in
    (target, own.1, record { offset = offset_read mark target _ _ first second; kind = kind })

pub entry_is_read : EntryIsRead
entry_is_read labels source words fill name origin entry label before behind good count by =
    entry_line_is_read 0 labels source words fill name origin entry (entry_line label name) before behind (entry_reading name good) count by

pub focal_is_read : FocalIsRead
focal_is_read labels source words fill name origin entry label before behind good count by =
    entry_line_is_read 1 labels source words fill name origin entry (focal_line label name) before behind (focal_reading name good) count by

-- Two addresses of the same label.
same_target : (found : Option ℕ) (one other : ℕ) → found ≡ Some one → found ≡ Some other → one ≡ other
same_target found one other e f = let g : Some one ≡ Some other = sym e ∙ f in cc

pub function_is_read : FunctionIsRead
function_is_read labels source words fill name text origin entry label other
    code before behind first rest named quoted start count inside by by_name =
    let read = entry_is_read labels source words fill name origin entry label before behind named count by in
    let next : SourceLine = record { label = Some name; code = code } in
    let at = line_placed labels source words origin first (name_line other text) (next ∷ rest) by_name in
    let own : at.own ≡ name_words text =
    subst (λ read. SpellsRead labels (origin + length at.front) read at.own) (name_reading text quoted) at.spells.words in
    let here : labels name ≡ Some (origin + length at.front + length at.own) = at.rest.3.label in
    let target : read.0 ≡ origin + length at.front + length at.own = same_target (labels name) _ _ read.1 here in
    let size : length at.own ≡ length text = ap length own ∙ length-name_words text in
    let offset : entry_offset (words ++ fill) entry ≡ lines_length first + length text =
    read.2.offset ∙ omega (arith, target, size, at.size, start, inside) in
    ap (λ keystroke.
    if keystroke then label_name (code_from (words ++ fill) (entry_offset (words ++ fill) entry))
    else spelled_name (words_before (words ++ fill) (entry_offset (words ++ fill) entry)))
    read.2.kind
    ∙ ap (λ o. spelled_name (words_before (words ++ fill) o)) offset
    ∙ name_is_read labels source words fill text origin other first (next ∷ rest) quoted by_name
