-- Sets of breakpoints as lists of their members.
use Rattle.std.proofs.Common.{◌≡◌, ◌≤◌, ◌<◌, ℕ, suc, ◌+◌, Bool, true, false, cond, Some, None, List, [], ◌∷◌, ◌++◌, length, length-append}
use Rattle.std.proofs.Common.{get_or, set, refl, sym, ap, subst, ◌∙◌, arith}
use Rattle.std.specs.Prelude.{not, ◌&&◌, ◌||◌, ◌==◌, nat_lt, position}
use Rattle.std.specs.Cmp.{IsTotalOrder, Equal-is, tied_then, unsigned_tied}
use Rattle.std.specs.FinSet.{contains, contains-empty, contains-from_list, contains-insert, contains-remove, empty_of_len}
use Rattle.std.specs.FinSet.{from_list_push, insert, len, len-empty, len-insert, nat_cmp-IsAntisymmetric, remove, same_set}
use Rattle.std.specs.List.{list_any, prefix_len, swap_remove}
use borrow.Author.Tests.{ltb-false}
use Rattle.std.specs.Ordering.{eq_by_cmp, nat_cmp}
use Rattle.std.specs.declared.cmp.Ordering.TheVariants.{Equal}
use Rattle.std.proofs.lemmas.Cmp.{nat_cmp_total, on_total, then_total}
use Rattle.std.proofs.lemmas.List.Quantifiers.{position-Some}
use Rattle.std.proofs.lemmas.List.Sorted.{IsPermutation-swap_remove, list_any-IsPermutation}
use Rattle.h41_breakpoints.specs.Breakpoints.{BreakpointSet, is_set, kind_of, location_cmp, location_number}
use Rattle.h41_breakpoints.specs.Breakpoints.{with_breakpoint, without_breakpoint}
use Rattle.h41_breakpoints.specs.private.Members.{IsEachOnce, is_same, set_of}
use Rattle.h41_breakpoints.specs.declared.location.Location.{Location}
use Rattle.h41_breakpoints.specs.declared.location.Location.TheVariants.{Line, Word}
use Rattle.h41_positions.specs.declared.position.Position.TheVariants.{Memory, Page}

-- The order of locations is total, and only equal locations compare as equal.
pub cmp_total : IsTotalOrder location_cmp
cmp_total = then_total (on_total kind_of nat_cmp_total) (on_total location_number nat_cmp_total)

pub cmp_apart : (x y : Location) → location_cmp x y ≡ Equal → x ≡ y
cmp_apart (Word a) (Word b) p = ap Word (nat_cmp-IsAntisymmetric a b p)
cmp_apart (Word a) (Line (Memory b)) p = cc
cmp_apart (Word a) (Line (Page b)) p = cc
cmp_apart (Line (Memory a)) (Word b) p = cc
cmp_apart (Line (Memory a)) (Line (Memory b)) p = ap (λ (n : ℕ). Line (Memory n)) (nat_cmp-IsAntisymmetric a b p)
cmp_apart (Line (Memory a)) (Line (Page b)) p = cc
cmp_apart (Line (Page a)) (Word b) p = cc
cmp_apart (Line (Page a)) (Line (Memory b)) p = cc
cmp_apart (Line (Page a)) (Line (Page b)) p = ap (λ (n : ℕ). Line (Page n)) (nat_cmp-IsAntisymmetric a b p)

pub same_is : (x y : Location) → is_same x y ≡ eq_by_cmp location_cmp x y
same_is x y =
    ap (λ (same : Bool). same && (location_number x == location_number y)) (sym (unsigned_tied (kind_of x) (kind_of y)))
    ∙ ap (λ (same : Bool). eq_by_cmp nat_cmp (kind_of x) (kind_of y) && same) (sym (unsigned_tied (location_number x) (location_number y)))
    ∙ tied_then (nat_cmp (kind_of x) (kind_of y)) (nat_cmp (location_number x) (location_number y))

pub equal_are : (x y : Location) → eq_by_cmp location_cmp x y ≡ true → x ≡ y
equal_are x y p = cmp_apart x y ((Equal-is (location_cmp x y)).0 p)

-- A location is found in the list if and only if it is in the set.
pub set_has : (members : List Location) (q : Location) → list_any (is_same q) members ≡ is_set (set_of members) q
set_has members q =
    ap (λ (test : Location → Bool). list_any test members) (λ i x. same_is q x i) ∙ sym (contains-from_list cmp_total members q)

-- If no member passes a test, none is found by it.
all_fail : (test : Location → Bool) (members : List Location) → length members ≤ prefix_len (λ b. not (test b)) members
    → list_any test members ≡ false
all_fail test [] long = refl
all_fail test (b ∷ members) long =
    elim (test b) as (λ passes. length (b ∷ members) ≤ cond (not passes) (1 + prefix_len (λ b. not (test b)) members) 0
    → (passes || list_any test members) ≡ false) [
      | true ↦ λ is. absurd (omega (arith, is))
      | false ↦ λ is. all_fail test members (omega (arith, is))
    ] long

pub none_found : (test : Location → Bool) (members : List Location) → position test members ≡ None → list_any test members ≡ false
none_found test members none =
    let at = prefix_len (λ b. not (test b)) members in
    elim (nat_lt at (length members)) as (λ inside. nat_lt at (length members) ≡ inside → cond inside (Some at) None ≡ None
    → list_any test members ≡ false) [
      | true ↦ λ _ is. cc
      | false ↦ λ is _. all_fail test members (ltb-false _ _ is)
    ] refl none

-- A member that is appended is added to the set.
pub set_pushed : (members : List Location) (b : Location) → set_of (members ++ b ∷ []) ≡ with_breakpoint b (set_of members)
set_pushed members b = from_list_push cmp_total cmp_apart members b

pub once_pushed : (members : List Location) (b : Location) → IsEachOnce members → is_set (set_of members) b ≡ false
    → IsEachOnce (members ++ b ∷ [])
once_pushed members b once fresh =
    ap len (set_pushed members b) ∙ len-insert cmp_total (set_of members) b
    ∙ ap (λ (had : Bool). cond had (len (set_of members)) (len (set_of members) + 1)) fresh
    ∙ omega (arith, once, length-append members (b ∷ []))

-- Adding a breakpoint that is already set changes nothing.
there : (set : BreakpointSet) (b : Location) → is_set set b ≡ true
    → (q : Location) → contains set q ≡ (eq_by_cmp location_cmp q b || contains set q)
there set b had q =
    elim (eq_by_cmp location_cmp q b) as (λ same. eq_by_cmp location_cmp q b ≡ same → contains set q ≡ (same || contains set q)) [
      | true ↦ λ same. ap (contains set) (equal_are q b same) ∙ had
      | false ↦ λ same. refl
    ] refl

pub set_again : (set : BreakpointSet) (b : Location) → is_set set b ≡ true → set ≡ with_breakpoint b set
set_again set b had = same_set cmp_total cmp_apart set (insert set b) (λ q. there set b had q ∙ sym (contains-insert cmp_total set b q))

-- A set has at most as many members as the list.
most_len : (members : List Location) → len (set_of members) ≤ length members
most_len [] = omega (arith, len-empty location_cmp)
most_len (b ∷ members) =
    let more : len (set_of (b ∷ members)) ≡ cond (contains (set_of members) b) (len (set_of members)) (len (set_of members) + 1) =
    len-insert cmp_total (set_of members) b in
    elim (contains (set_of members) b) as (λ had. len (set_of (b ∷ members)) ≡ cond had (len (set_of members)) (len (set_of members) + 1)
    → len (set_of (b ∷ members)) ≤ suc (length members)) [
      | true ↦ λ is. omega (arith, is, most_len members)
      | false ↦ λ is. omega (arith, is, most_len members)
    ] more

-- A member is removed from a list that has each of its members once.
module _ (members : List Location) (b x : Location) (i : ℕ) (once : IsEachOnce members) (inside : i < length members)
    (at : x ≡ get_or members i x) (same : is_same b x ≡ true) (size : length (swap_remove members i x) + 1 ≡ length members) where
  abbrev rest : List Location
  rest = swap_remove members i x

  x_is : b ≡ x
  x_is = equal_are b x (sym (same_is b x) ∙ same)

  whole : set_of members ≡ insert (set_of rest) x
  whole = same_set cmp_total cmp_apart (set_of members) (set_of (x ∷ rest)) (λ q.
      contains-from_list cmp_total members q
      ∙ list_any-IsPermutation (eq_by_cmp location_cmp q) members (x ∷ rest) (IsPermutation-swap_remove members i x inside at)
      ∙ sym (contains-from_list cmp_total (x ∷ rest) q))

  sizes : len (set_of members) ≡ cond (contains (set_of rest) x) (len (set_of rest)) (len (set_of rest) + 1)
  sizes = ap len whole ∙ len-insert cmp_total (set_of rest) x

  absent : contains (set_of rest) x ≡ false
  absent =
      elim (contains (set_of rest) x) as (λ had. len (set_of members) ≡ cond had (len (set_of rest)) (len (set_of rest) + 1)
      → had ≡ false) [
        | true ↦ λ is. absurd (omega (arith, is, once, size, most_len rest))
        | false ↦ λ is. refl
      ] sizes

  pub once_taken : IsEachOnce rest
  once_taken =
      let is : len (set_of members) ≡ len (set_of rest) + 1 =
      sizes ∙ ap (λ (had : Bool). cond had (len (set_of rest)) (len (set_of rest) + 1)) absent in
      omega (arith, is, once, size)

  left : (q : Location) → contains (set_of rest) q ≡ (not (eq_by_cmp location_cmp q b) && contains (set_of members) q)
  left q =
      let has : contains (set_of members) q ≡ (eq_by_cmp location_cmp q b || contains (set_of rest) q) =
      ap (λ (set : BreakpointSet). contains set q) whole ∙ contains-insert cmp_total (set_of rest) x q
      ∙ ap (λ (y : Location). eq_by_cmp location_cmp q y || contains (set_of rest) q) (sym x_is) in
      elim (eq_by_cmp location_cmp q b) as (λ tied. eq_by_cmp location_cmp q b ≡ tied
      → contains (set_of members) q ≡ (tied || contains (set_of rest) q)
      → contains (set_of rest) q ≡ (not tied && contains (set_of members) q)) [
        | true ↦ λ tied _. ap (contains (set_of rest)) (equal_are q b tied ∙ x_is) ∙ absent
        | false ↦ λ _ is. sym is
      ] refl has

  pub set_taken : set_of rest ≡ without_breakpoint b (set_of members)
  set_taken =
      same_set cmp_total cmp_apart (set_of rest) (remove (set_of members) b)
      (λ q. left q ∙ sym (contains-remove cmp_total (set_of members) b q))

-- The list after the first occurrence of a location is removed.
pub record IsTaken (members : List Location) (b : Location) (fewer : List Location) : Type 0 where
  pub once : IsEachOnce fewer
  pub set : set_of fewer ≡ without_breakpoint b (set_of members)

pub taken : (members fewer : List Location) (b x : Location) (i : ℕ) → IsEachOnce members → position (is_same b) members ≡ Some i
    → x ≡ get_or members i x → fewer ≡ swap_remove members i x → length fewer + 1 ≡ length members → IsTaken members b fewer
taken members fewer b x i once found at is size =
    let place = position-Some (is_same b) members i x found in
    let same : is_same b x ≡ true = ap (is_same b) at ∙ place.1 in
    let sizes : length (swap_remove members i x) + 1 ≡ length members =
    ap (λ (left : List Location). length left + 1) (sym is) ∙ size in
    subst (IsTaken members b) (sym is) (record {
      once = once_taken members b x i once place.0 at same sizes;
      set = set_taken members b x i once place.0 at same sizes;
    })

-- An empty set contains no location.
pub none_set : (set : BreakpointSet) (q : Location) → len set ≡ 0 → false ≡ is_set set q
none_set set q none =
    sym (ap (λ (of : BreakpointSet). is_set of q) (empty_of_len set none) ∙ contains-empty location_cmp q)
