-- The first pass: the facts that its loop keeps over the lines.
use Rattle.std.proofs.Common.{◌≡◌, ℕ, suc, ◌+◌, ◌≤◌, Bool, false, ◌&&◌, ◌||◌, List, [], ◌∷◌, ◌++◌, refl, sym, ap, ◌∙◌, Some, None, Option}
use Rattle.std.proofs.Common.{is_some, add-one, nat_le, bytes_eq, inl, inr, if◌then◌else◌}
use Rattle.std.specs.Bool.{then_some}
use Rattle.std.specs.List.{list_any}
use Rattle.std.specs.Option.{option_or}
use Rattle.std.specs.Result.{result_err}
use Rattle.std.proofs.Math.Bool.{or-false, or-true}
use Rattle.std.proofs.lemmas.Bool.{cases_Bool, ltb-false}
use Rattle.std.proofs.lemmas.List.Folds.{list_any-append}
use Rattle.std.specs.Cmp.Lexicographic.{nat_list_eq_equiv}
use Rattle.std.proofs.lemmas.Slice.Eq.{bytes_eq-Decides}
use Rattle.h41_asm.specs.declared.fault.SourceFault.TheVariants.{LabelTwice, TooLong}
use Rattle.h41_asm.specs.Assembly.{address_count}
use Rattle.h41_asm.specs.Faults.{at_line, first_fault, has_label, is_labelled_twice, is_past, label_address, line_length, numbered_lines}
use Rattle.h41_asm.specs.Faults.{own_fault, own_fault_at}
use Rattle.h41_asm.specs.Placing.{Labels}
use Rattle.h41_asm.specs.private.LabelTable.{is_held, with_label}
use Rattle.h41_asm.specs.SourceLines.{SourceLine}
use Rattle.h41_asm.specs.Statements.{reading_of}
use Rattle.h41_asm.proofs.Found.{both_false, not_then_some, or_none, unfound}
use Rattle.h41_asm.proofs.Walks.{address_from, addresses_of, own_faults, own_faults_of}

-- The lines before some others are placed: they have no errors, their labels have addresses, and with the labels of the lines that are left
-- the addresses are those of all lines.
pub record IsPlaced (labels : Labels) (all : List SourceLine) (origin number address : ℕ) (rest : List SourceLine) : Type 0 where
  pub earlier : List SourceLine
  pub faults : own_faults number address earlier rest ≡ first_fault own_fault_at (numbered_lines origin all)
  pub known : (name : List ℕ) → is_some (labels name) ≡ list_any (λ line. has_label name line.label) earlier
  pub addresses : (name : List ℕ)
      → option_or (labels name) (address_from address rest name) ≡ label_address (numbered_lines origin all) name

pub placed_none : (labels : Labels) (all : List SourceLine) (origin : ℕ) → ((name : List ℕ) → labels name ≡ None)
    → IsPlaced labels all origin 1 origin all
placed_none labels all origin none = record {
  earlier = [];
  faults = sym (own_faults_of origin all);
  known = λ name. ap is_some (none name);
  addresses = λ name. ap (λ found. option_or found (address_from origin all name)) (none name) ∙ sym (addresses_of origin all name);
}

-- A label is in the table twice exactly if it is in the lines before twice.
held_twice : (labels : Labels) (earlier : List SourceLine)
    → ((name : List ℕ) → is_some (labels name) ≡ list_any (λ line. has_label name line.label) earlier) → (label : Option (List ℕ))
    → is_held labels label ≡ is_labelled_twice earlier label
held_twice labels earlier known None = refl
held_twice labels earlier known (Some name) = known name

-- The labels of the lines with one more line.
known_next : (labels : Labels) (earlier : List SourceLine) (address : ℕ)
    → ((name : List ℕ) → is_some (labels name) ≡ list_any (λ line. has_label name line.label) earlier)
    → (label : Option (List ℕ)) (name : List ℕ)
    → is_some (with_label labels label address name)
    ≡ (list_any (λ line. has_label name line.label) earlier || (has_label name label || false))
known_next labels earlier address known None name = known name ∙ sym (or-false (list_any (λ line. has_label name line.label) earlier))
known_next labels earlier address known (Some own) name =
    let turned : bytes_eq name own ≡ bytes_eq own name = nat_list_eq_equiv.symm name own in
    elim (cases_Bool (bytes_eq own name)) [
      | inl same ↦ rw (turned, same) (sym (or-true (list_any (λ line. has_label name line.label) earlier)))
      | inr other ↦ rw (turned, other) (known name ∙ sym (or-false (list_any (λ line. has_label name line.label) earlier)))
    ]

-- The addresses with one more label.
addresses_next : (labels : Labels) (address : ℕ) (behind : Labels) (label : Option (List ℕ)) → is_held labels label ≡ false
    → (name : List ℕ)
    → option_or (with_label labels label address name) (behind name)
    ≡ option_or (labels name) (if has_label name label then Some address else behind name)
addresses_next labels address behind None none name = refl
addresses_next labels address behind (Some own) none name =
    let turned : bytes_eq name own ≡ bytes_eq own name = nat_list_eq_equiv.symm name own in
    elim (cases_Bool (bytes_eq own name)) [
      | inl same ↦
          let new : labels name ≡ None = ap labels (sym ((bytes_eq-Decides own name).0 same)) ∙ unfound (labels own) none in
          rw (turned, same, new) refl
      | inr other ↦ rw (turned, other) refl
    ]

-- A line without an error ends within the addresses.
pub placed_within : (twice : Bool) (address : ℕ) (line : SourceLine) → own_fault twice address line ≡ None
    → address + line_length line ≤ address_count
placed_within twice address line none =
    let parts = or_none (result_err (reading_of line.code)) _ none in
    let long = or_none (then_some twice LabelTwice) _ parts.1 in
    let both =
    both_false (is_some line.label && nat_le address_count address) _
    (not_then_some (is_past address line.label (line_length line)) TooLong long.1) in
    ltb-false address_count (address + line_length line) both.1

-- The next lines are after it.
pub placed_next : (labels after : Labels) (all : List SourceLine) (origin number address : ℕ) (line : SourceLine) (rest : List SourceLine)
    → IsPlaced labels all origin number address (line ∷ rest) → own_fault (is_held labels line.label) address line ≡ None
    → ((name : List ℕ) → after name ≡ with_label labels line.label address name)
    → IsPlaced after all origin (number + 1) (address + line_length line) rest
placed_next labels after all origin number address line rest placed none added =
    let twice = held_twice labels placed.earlier placed.known line.label in
    let own : own_fault (is_labelled_twice placed.earlier line.label) address line ≡ None = rw twice at none in
    let parts = or_none (result_err (reading_of line.code)) _ none in
    let new = or_none (then_some (is_held labels line.label) LabelTwice) _ parts.1 in
    record {
      earlier = placed.earlier ++ line ∷ [];
      faults =
          rw add-one (sym (ap
          (λ own. option_or (at_line number own) (own_faults (suc number) (address + line_length line) (placed.earlier ++ line ∷ []) rest))
          own)
          ∙ placed.faults);
      known =
          λ name. ap is_some (added name) ∙ known_next labels placed.earlier address placed.known line.label name
          ∙ sym (list_any-append (λ line. has_label name line.label) placed.earlier (line ∷ []));
      addresses = λ name. ap (λ found. option_or found (address_from (address + line_length line) rest name)) (added name)
          ∙ addresses_next labels address (address_from (address + line_length line) rest)
          line.label (not_then_some _ LabelTwice new.0) name
          ∙ placed.addresses name;
    }
