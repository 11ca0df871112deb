-- Lines without an error of their own, and their labels.
use Rattle.std.proofs.Common.{◌≡◌, ℕ, suc, ◌+◌, ◌<◌, ◌≤◌, true, false, ◌&&◌, List, [], ◌∷◌, ◌++◌, refl, sym, ◌∙◌, IfSome, Some, None}
use Rattle.std.proofs.Common.{Option, Ok, Err, Result, IsOk, arith, is_some, nat_le, nat_lt, bytes_eq}
use Rattle.std.specs.Bool.{then_some}
use Rattle.std.specs.List.{AllByRecursion, IsDistinct, cons_option, list_any}
use Rattle.std.proofs.lemmas.Bool.Decides.{nat_tests}
use Rattle.std.specs.Result.{result_err}
use Rattle.std.specs.Cmp.Lexicographic.{nat_list_eq_equiv}
use Rattle.std.proofs.lemmas.Bool.{leb-false, ltb-false}
use Rattle.std.proofs.lemmas.List.Folds.{list_any-append}
use Rattle.std.proofs.lemmas.Option.{none-some}
use Rattle.std.proofs.lemmas.Map.Keys.{IsDistinct-cons, IsDistinct-head, IsDistinct-tail}
use Rattle.h41_asm.specs.declared.fault.SourceFault.{SourceFault}
use Rattle.h41_asm.specs.declared.fault.SourceFault.TheVariants.{LabelTwice, TooLong}
use Rattle.h41_asm.specs.Assembly.{address_count}
use Rattle.h41_asm.specs.Faults.{at_line, has_label, is_labelled_twice, is_past, line_length, own_fault}
use Rattle.h41_asm.specs.SourceLines.{SourceLine, labels_of}
use Rattle.h41_asm.specs.Statements.{Statement, reading_of}
use Rattle.h41_asm.proofs.Found.{both_false, or_none, not_then_some}
use Rattle.h41_asm.proofs.Walks.{own_faults}

-- No line of the list has this label.
abbrev pub IsNew : List SourceLine → List ℕ → Type 0
IsNew earlier name = list_any (λ line. has_label name line.label) earlier ≡ false

-- A line that can be read, whose label is new and within the addresses, and which ends within them.
pub record IsFaultless (earlier : List SourceLine) (address : ℕ) (line : SourceLine) : Type 0 where
  pub readable : IsOk (reading_of line.code)
  pub new : IfSome line.label (IsNew earlier)
  pub low : IfSome line.label (λ name. address < address_count)
  pub ends : address + line_length line ≤ address_count

abbrev pub AreFaultless : List SourceLine → ℕ → List SourceLine → Type 0
AreFaultless earlier address [] = Unit {0}
AreFaultless earlier address (line ∷ rest) =
    IsFaultless earlier address line × AreFaultless (earlier ++ line ∷ []) (address + line_length line) rest

-- The error of a line, and the facts that follow from there being none.
readable_from : (read : Result Statement SourceFault) → result_err read ≡ None → IsOk read
readable_from (Ok said) none = refl
readable_from (Err fault) none = let no : Some fault ≡ None = none in cc

new_from : (earlier : List SourceLine) (label : Option (List ℕ)) → is_labelled_twice earlier label ≡ false → IfSome label (IsNew earlier)
new_from earlier None none = tt
new_from earlier (Some name) none = none

low_from : (address : ℕ) (label : Option (List ℕ)) → (is_some label && nat_le address_count address) ≡ false
    → IfSome label (λ name. address < address_count)
low_from address None none = tt
low_from address (Some name) none = leb-false address_count address none

faultless_line : (earlier : List SourceLine) (address : ℕ) (line : SourceLine)
    → own_fault (is_labelled_twice earlier line.label) address line ≡ None → IsFaultless earlier address line
faultless_line earlier address line none =
    let read = or_none (result_err (reading_of line.code)) _ none in
    let twice = or_none (then_some (is_labelled_twice earlier line.label) LabelTwice) _ read.1 in
    let long =
    both_false (is_some line.label && nat_le address_count address) _
    (not_then_some (is_past address line.label (line_length line)) TooLong twice.1) in
    record {
      readable = readable_from (reading_of line.code) read.0;
      new = new_from earlier line.label (not_then_some _ LabelTwice twice.0);
      low = low_from address line.label long.0;
      ends = ltb-false address_count (address + line_length line) long.1;
    }

none_readable : (read : Result Statement SourceFault) → IsOk read → result_err read ≡ None
none_readable (Ok said) ok = refl
none_readable (Err fault) ok = let no : false ≡ true = ok in cc

none_new : (earlier : List SourceLine) (label : Option (List ℕ)) → IfSome label (IsNew earlier) → is_labelled_twice earlier label ≡ false
none_new earlier None new = refl
none_new earlier (Some name) new = new

none_low : (address : ℕ) (label : Option (List ℕ)) → IfSome label (λ name. address < address_count)
    → (is_some label && nat_le address_count address) ≡ false
none_low address None low = refl
none_low address (Some name) low = grind (arith, nat_tests)

none_line : (earlier : List SourceLine) (address : ℕ) (line : SourceLine) → IsFaultless earlier address line
    → own_fault (is_labelled_twice earlier line.label) address line ≡ None
none_line earlier address line fits =
    let long : nat_lt address_count (address + line_length line) ≡ false = grind (arith, nat_tests, fits.ends) in
    rw (
      none_readable (reading_of line.code) fits.readable,
      none_new earlier line.label fits.new,
      none_low address line.label fits.low,
      long,
    )
    refl

-- The errors of all lines.
pub at_no_line : (number : ℕ) (fault : Option SourceFault) → at_line number fault ≡ None → fault ≡ None
at_no_line number None none = refl
at_no_line number (Some fault) none = absurd (none-some (fault, number) (sym none))

pub faultless : (number address : ℕ) (earlier rest : List SourceLine) → own_faults number address earlier rest ≡ None
    → AreFaultless earlier address rest
faultless number address earlier [] none = tt
faultless number address earlier (line ∷ rest) none =
    let fault = own_fault (is_labelled_twice earlier line.label) address line in
    let parts = or_none (at_line number fault) _ none in (
      faultless_line earlier address line (at_no_line number fault parts.0),
      faultless (suc number) (address + line_length line) (earlier ++ line ∷ []) rest parts.1,
    )

pub no_own_faults : (number address : ℕ) (earlier rest : List SourceLine) → AreFaultless earlier address rest
    → own_faults number address earlier rest ≡ None
no_own_faults number address earlier [] fits = refl
no_own_faults number address earlier (line ∷ rest) fits =
    rw (none_line earlier address line fits.0) (no_own_faults (suc number) (address + line_length line) (earlier ++ line ∷ []) rest fits.1)

-- A name that is new after a line was new before it, and is not its label.
pub new_before : (earlier : List SourceLine) (line : SourceLine) (name : List ℕ) → IsNew (earlier ++ line ∷ []) name
    → IsNew earlier name × (has_label name line.label ≡ false)
new_before earlier line name new =
    let both =
    both_false (list_any (λ line. has_label name line.label) earlier) _
    (sym (list_any-append (λ line. has_label name line.label) earlier (line ∷ [])) ∙ new) in
    (both.0, (both_false (has_label name line.label) false both.1).0)

new_after : (earlier : List SourceLine) (line : SourceLine) (name : List ℕ) → IsNew earlier name → has_label name line.label ≡ false
    → IsNew (earlier ++ line ∷ []) name
new_after earlier line name new other = list_any-append (λ line. has_label name line.label) earlier (line ∷ []) ∙ rw (new, other) refl

all_before : (earlier : List SourceLine) (line : SourceLine) (names : List (List ℕ)) → AllByRecursion (IsNew (earlier ++ line ∷ [])) names
    → AllByRecursion (IsNew earlier) names × AllByRecursion (λ name. has_label name line.label ≡ false) names
all_before earlier line [] new = (tt, tt)
all_before earlier line (name ∷ names) new =
    let here = new_before earlier line name new.0 in
    let others = all_before earlier line names new.1 in
    ((here.0, others.0), (here.1, others.1))

all_after : (earlier : List SourceLine) (line : SourceLine) (names : List (List ℕ)) → AllByRecursion (IsNew earlier) names
    → AllByRecursion (λ name. has_label name line.label ≡ false) names → AllByRecursion (IsNew (earlier ++ line ∷ [])) names
all_after earlier line [] new other = tt
all_after earlier line (name ∷ names) new other = (new_after earlier line name new.0 other.0, all_after earlier line names new.1 other.1)

-- A label that is none of some names; none of these names is the label.
turned : (own : List ℕ) (names : List (List ℕ)) → AllByRecursion (λ name. bytes_eq name own ≡ false) names
    → AllByRecursion (λ name. bytes_eq own name ≡ false) names
turned own [] other = tt
turned own (name ∷ names) other = (nat_list_eq_equiv.symm own name ∙ other.0, turned own names other.1)

turned_back : (own : List ℕ) (names : List (List ℕ)) → AllByRecursion (λ name. bytes_eq own name ≡ false) names
    → AllByRecursion (λ name. bytes_eq name own ≡ false) names
turned_back own [] other = tt
turned_back own (name ∷ names) other = (nat_list_eq_equiv.symm name own ∙ other.0, turned_back own names other.1)

no_names : IsDistinct {K = List ℕ} bytes_eq []
unfolding IsDistinct
no_names = tt

-- The names of a label and of the lines after it.
with_names : (earlier : List SourceLine) (label : Option (List ℕ)) (names : List (List ℕ)) → IfSome label (IsNew earlier)
    → AllByRecursion (IsNew earlier) names → AllByRecursion (λ name. has_label name label ≡ false) names → IsDistinct bytes_eq names
    → AllByRecursion (IsNew earlier) (cons_option label names) × IsDistinct bytes_eq (cons_option label names)
with_names earlier None names new others apart distinct = (others, distinct)
with_names earlier (Some own) names new others apart distinct =
    ((new, others), IsDistinct-cons bytes_eq own names (turned own names apart) distinct)

-- The labels of lines without an error are new and distinct.
pub names_distinct : (earlier rest : List SourceLine) (address : ℕ) → AreFaultless earlier address rest
    → AllByRecursion (IsNew earlier) (labels_of rest) × IsDistinct bytes_eq (labels_of rest)
names_distinct earlier [] address fits = (tt, no_names)
names_distinct earlier (line ∷ rest) address fits =
    let others = names_distinct (earlier ++ line ∷ []) rest (address + line_length line) fits.1 in
    let before = all_before earlier line (labels_of rest) others.0 in
    with_names earlier line.label (labels_of rest) fits.0.new before.0 before.1 others.1

all_apart : (names : List (List ℕ)) → AllByRecursion (λ name. has_label name None ≡ false) names
all_apart [] = tt
all_apart (name ∷ names) = (refl, all_apart names)

-- The names without the first label.
without_names : (earlier : List SourceLine) (label : Option (List ℕ)) (names : List (List ℕ))
    → AllByRecursion (IsNew earlier) (cons_option label names) → IsDistinct bytes_eq (cons_option label names)
    → IfSome label (IsNew earlier)
    × AllByRecursion (IsNew earlier) names
    × AllByRecursion (λ name. has_label name label ≡ false) names
    × IsDistinct bytes_eq names
without_names earlier None names new distinct = (tt, new, all_apart names, distinct)
without_names earlier (Some own) names new distinct =
    (new.0, new.1, turned_back own names (IsDistinct-head bytes_eq own names distinct), IsDistinct-tail bytes_eq own names distinct)

pub names_behind : (earlier : List SourceLine) (line : SourceLine) (rest : List SourceLine)
    → AllByRecursion (IsNew earlier) (labels_of (line ∷ rest)) → IsDistinct bytes_eq (labels_of (line ∷ rest))
    → IfSome line.label (IsNew earlier)
    × AllByRecursion (IsNew (earlier ++ line ∷ [])) (labels_of rest)
    × IsDistinct bytes_eq (labels_of rest)
names_behind earlier line rest new distinct =
    let parts = without_names earlier line.label (labels_of rest) new distinct in
    (parts.0, all_after earlier line (labels_of rest) parts.1 parts.2, parts.3)
