-- The addresses of labels: the names that have one, and that lines without an error of their own are ready to be spelled.
use Rattle.std.proofs.Common.{◌≡◌, ℕ, ◌+◌, ◌<◌, if◌then◌else◌, List, [], ◌∷◌, ◌++◌, refl, ap, ◌∙◌, IfSome, Some, None, Option, inl, inr}
use Rattle.std.proofs.Common.{is_some, bytes_eq}
use Rattle.std.specs.List.{cons_option, list_any}
use Rattle.std.specs.Cmp.Lexicographic.{nat_list_eq_equiv}
use Rattle.std.proofs.lemmas.Bool.{cases_Bool}
use Rattle.h41_asm.specs.Assembly.{address_count}
use Rattle.h41_asm.specs.Faults.{has_label, line_length}
use Rattle.h41_asm.specs.Placing.{Labels}
use Rattle.h41_asm.specs.private.LabelTable.{IsReady}
use Rattle.h41_asm.specs.SourceLines.{SourceLine, labels_of}
use Rattle.h41_asm.proofs.Faultless.{AreFaultless, IsNew, new_before}
use Rattle.h41_asm.proofs.Walks.{address_from}

-- The names with an address are those that label a line.
with_name : (name : List ℕ) (label : Option (List ℕ)) (found : Option ℕ) (names : List (List ℕ)) (address : ℕ)
    → is_some found ≡ list_any (bytes_eq name) names
    → is_some (if has_label name label then Some address else found) ≡ list_any (bytes_eq name) (cons_option label names)
with_name name None found names address same = same
with_name name (Some own) found names address same =
    elim (cases_Bool (bytes_eq name own)) [ inl here ↦ rw here refl | inr other ↦ rw other same ]

pub named : (rest : List SourceLine) (address : ℕ) (name : List ℕ)
    → is_some (address_from address rest name) ≡ list_any (bytes_eq name) (labels_of rest)
named [] address name = refl
named (line ∷ rest) address name =
    with_name name line.label (address_from (address + line_length line) rest name)
    (labels_of rest) address (named rest (address + line_length line) name)

-- No label of lines without an error is after the last address.
low_with : (name : List ℕ) (label : Option (List ℕ)) (found : Option ℕ) (address : ℕ) → IfSome label (λ own. address < address_count)
    → IfSome found (λ a. a < address_count) → IfSome (if has_label name label then Some address else found) (λ a. a < address_count)
low_with name None found address low others = others
low_with name (Some own) found address low others =
    elim (cases_Bool (bytes_eq name own)) [ inl here ↦ rw here low | inr other ↦ rw other others ]

pub labels_low : (rest earlier : List SourceLine) (address : ℕ) (name : List ℕ) → AreFaultless earlier address rest
    → IfSome (address_from address rest name) (λ a. a < address_count)
labels_low [] earlier address name fits = tt
labels_low (line ∷ rest) earlier address name fits =
    low_with name line.label (address_from (address + line_length line) rest name) address fits.0.low
    (labels_low rest (earlier ++ line ∷ []) (address + line_length line) name fits.1)

-- A new label has the address of its line.
label_here : (labels others : Labels) (earlier : List SourceLine) (address : ℕ) (label : Option (List ℕ)) → IfSome label (IsNew earlier)
    → ((name : List ℕ) → IsNew earlier name → labels name ≡ (if has_label name label then Some address else others name))
    → IfSome label (λ name. labels name ≡ Some address)
label_here labels others earlier address None new same = tt
label_here labels others earlier address (Some own) new same =
    same own new ∙ ap (λ here. if here then Some address else others own) (nat_list_eq_equiv.refl own)

-- Lines without an error are ready if their new names have the addresses of their lines.
pub ready : (labels : Labels) (rest earlier : List SourceLine) (address : ℕ) → AreFaultless earlier address rest
    → ((name : List ℕ) → IsNew earlier name → labels name ≡ address_from address rest name) → IsReady labels address rest
ready labels [] earlier address fits same = tt
ready labels (line ∷ rest) earlier address fits same =
    let next : Labels = address_from (address + line_length line) rest in
    let behind : (name : List ℕ) → IsNew (earlier ++ line ∷ []) name → labels name ≡ next name =
    λ name new.
    let before = new_before earlier line name new in
    same name before.0 ∙ ap (λ here. if here then Some address else next name) before.1 in (
      fits.0.readable,
      fits.0.ends,
      label_here labels next earlier address line.label fits.0.new same,
      ready labels rest (earlier ++ line ∷ []) (address + line_length line) fits.1 behind,
    )
