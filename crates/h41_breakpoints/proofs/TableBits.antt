-- The tables of bits after a breakpoint is set or removed.
use Rattle.std.proofs.Common.{◌≡◌, ◌≢◌, ℕ, zero, suc, Bool, true, false, Some, List, [], ◌∷◌, ◌++◌, set, eq-eqb, refl, sym, ap, ◌∙◌}
use Rattle.std.specs.Prelude.{All, not, ◌&&◌, ◌||◌, ◌==◌, slice_get}
use Rattle.std.specs.FinSet.{contains, contains-from_list, contains-insert, contains-remove}
use Rattle.std.specs.Ordering.{eq_by_cmp}
use Rattle.std.proofs.lemmas.Option.{get_or_from_slice_get, same_Some, slice_get_within}
use Rattle.h41_breakpoints.specs.Breakpoints.{BreakpointSet, location_cmp, is_set, without_breakpoint}
use Rattle.h41_breakpoints.specs.private.Members.{is_same, set_of}
use Rattle.h41_breakpoints.specs.private.Tables.{AreTablesOf, BitTables, location_bit, with_location_bit}
use Rattle.h41_breakpoints.specs.declared.location.Location.{Location}
use Rattle.h41_breakpoints.specs.declared.location.Location.TheVariants.{Line, Word}
use Rattle.h41_positions.specs.declared.position.Position.TheVariants.{Memory, Page}
use Rattle.h41_breakpoints.proofs.Members.{cmp_total, equal_are, same_is, set_pushed}

-- A bit that was set or cleared is read back, and every other bit is as before.
read_same : (bits : List Bool) (i : ℕ) (bit read : Bool) → slice_get (set bits i bit) i ≡ Some read → read ≡ bit
read_same [] i bit read is = cc
read_same (b ∷ bits) zero bit read is = sym (same_Some bit read is)
read_same (b ∷ bits) (suc i) bit read is = read_same bits i bit read is

read_other : (bits : List Bool) (i k : ℕ) (bit : Bool) → i ≢ k → slice_get (set bits k bit) i ≡ slice_get bits i
read_other [] i k bit apart = refl
read_other (b ∷ bits) zero zero bit apart = absurd (apart refl)
read_other (b ∷ bits) zero (suc k) bit apart = refl
read_other (b ∷ bits) (suc i) zero bit apart = refl
read_other (b ∷ bits) (suc i) (suc k) bit apart = read_other bits i k bit (λ same. apart (ap suc same))

bit_same : (tables : BitTables) (b : Location) (bit read : Bool) → location_bit (with_location_bit tables b bit) b ≡ Some read → read ≡ bit
bit_same tables (Word address) bit read is = read_same tables.words address bit read is
bit_same tables (Line (Memory byte)) bit read is = read_same tables.lines byte bit read is
bit_same tables (Line (Page address)) bit read is = read_same tables.page_lines address bit read is

two : (a b : ℕ) → (a == b) ≡ false → a ≢ b
two a b apart same = let one : (a == b) ≡ true = eq-eqb a b same in cc

bit_other : (tables : BitTables) (q b : Location) (bit : Bool) → is_same q b ≡ false
    → location_bit (with_location_bit tables b bit) q ≡ location_bit tables q
bit_other tables (Word a) (Word b) bit apart = read_other tables.words a b bit (two a b apart)
bit_other tables (Word a) (Line (Memory b)) bit apart = refl
bit_other tables (Word a) (Line (Page b)) bit apart = refl
bit_other tables (Line (Memory a)) (Word b) bit apart = refl
bit_other tables (Line (Memory a)) (Line (Memory b)) bit apart = read_other tables.lines a b bit (two a b apart)
bit_other tables (Line (Memory a)) (Line (Page b)) bit apart = refl
bit_other tables (Line (Page a)) (Word b) bit apart = refl
bit_other tables (Line (Page a)) (Line (Memory b)) bit apart = refl
bit_other tables (Line (Page a)) (Line (Page b)) bit apart = read_other tables.page_lines a b bit (two a b apart)

itself : (b : Location) → is_same b b ≡ true
itself (Word a) = eq-eqb a a refl
itself (Line (Memory a)) = eq-eqb a a refl
itself (Line (Page a)) = eq-eqb a a refl

-- If two lists agree on all locations but one, the tables with that location's bit changed are those of the other list.
tables_changed : (members others : List Location) (tables : BitTables) (b : Location) (bit : Bool) → AreTablesOf members tables
    → is_set (set_of others) b ≡ bit
    → ((q : Location) → eq_by_cmp location_cmp q b ≡ false → is_set (set_of others) q ≡ is_set (set_of members) q)
    → AreTablesOf others (with_location_bit tables b bit)
tables_changed members others tables b bit right here alike q read is =
    elim (eq_by_cmp location_cmp q b) as (λ tied. eq_by_cmp location_cmp q b ≡ tied → read ≡ is_set (set_of others) q) [
      | true ↦ λ tied.
          let same = equal_are q b tied in
          bit_same tables b bit read (ap (location_bit (with_location_bit tables b bit)) (sym same) ∙ is)
          ∙ sym here ∙ ap (is_set (set_of others)) (sym same)
      | false ↦ λ apart.
          right q read (sym (bit_other tables q b bit (same_is q b ∙ apart)) ∙ is) ∙ sym (alike q apart)
    ] refl

pub tables_pushed : (members : List Location) (tables : BitTables) (b : Location) → AreTablesOf members tables
    → AreTablesOf (members ++ b ∷ []) (with_location_bit tables b true)
tables_pushed members tables b right =
    tables_changed members (members ++ b ∷ []) tables b true right
    (has b ∙ ap (λ (tied : Bool). tied || contains (set_of members) b) (sym (same_is b b) ∙ itself b))
    (λ q apart. has q ∙ ap (λ (tied : Bool). tied || contains (set_of members) q) apart)
  where
    has : (q : Location) → is_set (set_of (members ++ b ∷ [])) q ≡ (eq_by_cmp location_cmp q b || contains (set_of members) q)
    has q = ap (λ (set : BreakpointSet). is_set set q) (set_pushed members b) ∙ contains-insert cmp_total (set_of members) b q

pub tables_left : (members fewer : List Location) (tables : BitTables) (b : Location) → set_of fewer ≡ without_breakpoint b (set_of members)
    → AreTablesOf members tables → AreTablesOf fewer (with_location_bit tables b false)
tables_left members fewer tables b left right =
    tables_changed members fewer tables b false right
    (has b ∙ ap (λ (tied : Bool). not tied && contains (set_of members) b) (sym (same_is b b) ∙ itself b))
    (λ q apart. has q ∙ ap (λ (tied : Bool). not tied && contains (set_of members) q) apart)
  where
    has : (q : Location) → is_set (set_of fewer) q ≡ (not (eq_by_cmp location_cmp q b) && contains (set_of members) q)
    has q = ap (λ (set : BreakpointSet). is_set set q) left ∙ contains-remove cmp_total (set_of members) b q

-- Clear tables are those of the empty set.
clear_read : (bits : List Bool) (i : ℕ) (read : Bool) → All (λ bit. bit ≡ false) bits → slice_get bits i ≡ Some read → read ≡ false
clear_read bits i read clear is = sym (get_or_from_slice_get bits i read false is) ∙ clear i false (slice_get_within bits i read is)

pub tables_of_none : (tables : BitTables) → All (λ bit. bit ≡ false) tables.words → All (λ bit. bit ≡ false) tables.lines
    → All (λ bit. bit ≡ false) tables.page_lines → AreTablesOf [] tables
tables_of_none tables words lines page_lines q read is = clear q is ∙ sym (contains-from_list cmp_total [] q)
  where
    clear : (q : Location) → location_bit tables q ≡ Some read → read ≡ false
    clear (Word address) is = clear_read tables.words address read words is
    clear (Line (Memory byte)) is = clear_read tables.lines byte read lines is
    clear (Line (Page address)) is = clear_read tables.page_lines address read page_lines is
