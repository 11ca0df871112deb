-- The errors of lines and the addresses of labels as walks over the lines, as the code performs them: each walk carries the number and the
-- address of the next line. They are the errors and the addresses of the numbered lines.
use Rattle.std.proofs.Common.{◌≡◌, ℕ, suc, ◌+◌, if◌then◌else◌, List, [], ◌∷◌, ◌++◌, length, refl, ap, ◌∙◌, Some, None, Option, inl, inr}
use Rattle.std.proofs.Common.{append_assoc, length-append, arith, map, slice_get, filter_map}
use Rattle.std.specs.List.{cons_option, enumerate_from, sum_by}
use Rattle.std.specs.Option.{option_or}
use Rattle.std.proofs.Math.Seq.{take-append_seam}
use Rattle.std.proofs.lemmas.Bool.{cases_Bool}
use Rattle.std.proofs.lemmas.List.Sums.{sum_by_push}
use Rattle.h41_asm.specs.declared.fault.SourceFault.{SourceFault}
use Rattle.h41_asm.specs.Faults.{FaultOnLine, NumberedSourceLine, at_line, first_fault, has_label, is_labelled_twice, label_address}
use Rattle.h41_asm.specs.Faults.{line_length, line_at_place, numbered_lines, own_fault, own_fault_at, read_fault, reference_fault_at}
use Rattle.h41_asm.specs.Placing.{Labels}
use Rattle.h41_asm.specs.SourceLines.{SourceLine}
use Rattle.h41_asm.specs.Statements.{reading_of}

-- The first error that does not depend on the addresses of labels; the first line has this number and address, and these lines are before
-- it.
abbrev pub own_faults : ℕ → ℕ → List SourceLine → List SourceLine → FaultOnLine
own_faults number address earlier [] = None
own_faults number address earlier (line ∷ rest) =
    option_or (at_line number (own_fault (is_labelled_twice earlier line.label) address line))
    (own_faults (suc number) (address + line_length line) (earlier ++ line ∷ []) rest)

-- The first error of the references of lines.
abbrev pub reference_faults : Labels → ℕ → ℕ → List SourceLine → FaultOnLine
reference_faults labels number address [] = None
reference_faults labels number address (line ∷ rest) =
    option_or (at_line number (read_fault labels address (reading_of line.code)))
    (reference_faults labels (suc number) (address + line_length line) rest)

-- The address of the first line with a label.
abbrev pub address_from : ℕ → List SourceLine → Labels
address_from address [] name = None
address_from address (line ∷ rest) name =
    if has_label name line.label then Some address else address_from (address + line_length line) rest name

-- The lines after others, each with its number and address.
abbrev numbered_behind : ℕ → List SourceLine → List SourceLine → List NumberedSourceLine
numbered_behind origin earlier rest =
    map (λ entry. line_at_place origin (earlier ++ rest) entry.0 entry.1) (enumerate_from (length earlier) rest)

abbrev next : ℕ → List SourceLine → SourceLine → NumberedSourceLine
next origin earlier line =
    record { number = length earlier + 1; address = origin + sum_by line_length earlier; earlier = earlier; line = line }

next_behind : (origin : ℕ) (earlier : List SourceLine) (line : SourceLine) (rest : List SourceLine)
    → numbered_behind origin earlier (line ∷ rest) ≡ next origin earlier line ∷ numbered_behind origin (earlier ++ line ∷ []) rest
next_behind origin earlier line rest =
    rw (append_assoc earlier (line ∷ []) rest, length-append earlier (line ∷ []), take-append_seam earlier (line ∷ rest)) refl

-- The address of the next line.
abbrev StandsAt : ℕ → List SourceLine → ℕ → ℕ → Type 0
StandsAt origin earlier number address = (number ≡ length earlier + 1) × (address ≡ origin + sum_by line_length earlier)

stands_next : (origin : ℕ) (earlier : List SourceLine) (line : SourceLine) (number address : ℕ) → StandsAt origin earlier number address
    → StandsAt origin (earlier ++ line ∷ []) (suc number) (address + line_length line)
stands_next origin earlier line number address stands =
    let more = length-append earlier (line ∷ []) in
    let longer = sum_by_push line_length earlier line in
    (omega (arith, stands.0, more), omega (arith, stands.1, longer))

stands_first : (origin : ℕ) → StandsAt origin [] 1 origin
stands_first origin = (refl, omega arith)

-- The errors of lines, and the first of them.
abbrev told : (NumberedSourceLine → Option SourceFault) → List NumberedSourceLine → List (SourceFault × ℕ)
told fault all = filter_map (λ at. at_line at.number (fault at)) all

first_or : {T : Type 0} (found : Option T) (others : List T) → slice_get (cons_option found others) 0 ≡ option_or found (slice_get others 0)
first_or None others = refl
first_or (Some found) others = refl

own_behind : (origin : ℕ) (rest earlier : List SourceLine) (number address : ℕ) → StandsAt origin earlier number address
    → first_fault own_fault_at (numbered_behind origin earlier rest) ≡ own_faults number address earlier rest
own_behind origin [] earlier number address stands = refl
own_behind origin (line ∷ rest) earlier number address stands =
    let others =
    own_behind origin rest (earlier ++ line ∷ []) (suc number) (address + line_length line)
    (stands_next origin earlier line number address stands) in
    let at = next origin earlier line in
    let own : at_line at.number (own_fault_at at) ≡ at_line number (own_fault (is_labelled_twice earlier line.label) address line) =
    rw (stands.0, stands.1) refl in
    ap (first_fault own_fault_at) (next_behind origin earlier line rest)
    ∙ first_or (at_line at.number (own_fault_at at)) (told own_fault_at (numbered_behind origin (earlier ++ line ∷ []) rest))
    ∙ ap (λ first. option_or first (first_fault own_fault_at (numbered_behind origin (earlier ++ line ∷ []) rest))) own
    ∙ ap (option_or (at_line number (own_fault (is_labelled_twice earlier line.label) address line))) others

references_behind : (labels : Labels) (origin : ℕ) (rest earlier : List SourceLine) (number address : ℕ)
    → StandsAt origin earlier number address
    → first_fault (reference_fault_at labels) (numbered_behind origin earlier rest) ≡ reference_faults labels number address rest
references_behind labels origin [] earlier number address stands = refl
references_behind labels origin (line ∷ rest) earlier number address stands =
    let others =
    references_behind labels origin rest (earlier ++ line ∷ []) (suc number)
    (address + line_length line) (stands_next origin earlier line number address stands) in
    let at = next origin earlier line in
    let fault = reference_fault_at labels in
    let own : at_line at.number (fault at) ≡ at_line number (read_fault labels address (reading_of line.code)) =
    rw (stands.0, stands.1) refl in
    ap (first_fault fault) (next_behind origin earlier line rest)
    ∙ first_or (at_line at.number (fault at)) (told fault (numbered_behind origin (earlier ++ line ∷ []) rest))
    ∙ ap (λ first. option_or first (first_fault fault (numbered_behind origin (earlier ++ line ∷ []) rest))) own
    ∙ ap (option_or (at_line number (read_fault labels address (reading_of line.code)))) others

addresses_behind : (origin : ℕ) (rest earlier : List SourceLine) (number address : ℕ) (name : List ℕ)
    → StandsAt origin earlier number address → label_address (numbered_behind origin earlier rest) name ≡ address_from address rest name
addresses_behind origin [] earlier number address name stands = refl
addresses_behind origin (line ∷ rest) earlier number address name stands =
    let others =
    addresses_behind origin rest (earlier ++ line ∷ []) (suc number) (address + line_length line)
    name (stands_next origin earlier line number address stands) in
    ap (λ all. label_address all name) (next_behind origin earlier line rest) ∙ elim (cases_Bool (has_label name line.label)) [
      | inl here ↦ rw (here, stands.1) refl
      | inr other ↦ rw other others
    ]

-- The walks over all lines.
pub own_faults_of : (origin : ℕ) (all : List SourceLine) → first_fault own_fault_at (numbered_lines origin all) ≡ own_faults 1 origin [] all
own_faults_of origin all = own_behind origin all [] 1 origin (stands_first origin)

pub reference_faults_of : (labels : Labels) (origin : ℕ) (all : List SourceLine)
    → first_fault (reference_fault_at labels) (numbered_lines origin all) ≡ reference_faults labels 1 origin all
reference_faults_of labels origin all = references_behind labels origin all [] 1 origin (stands_first origin)

pub addresses_of : (origin : ℕ) (all : List SourceLine) (name : List ℕ)
    → label_address (numbered_lines origin all) name ≡ address_from origin all name
addresses_of origin all name = addresses_behind origin all [] 1 origin name (stands_first origin)
