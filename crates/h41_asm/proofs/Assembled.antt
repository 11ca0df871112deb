-- A source at an origin has words or a first error, and never both.
use Rattle.std.proofs.Common.{◌≡◌, ℕ, suc, ◌+◌, ◌<◌, ◌≤◌, ℤ, pos, ◌+ℤ◌, ◌-ℤ◌, Bool, true, false, not, List, [], ◌∷◌, ◌++◌, length, refl}
use Rattle.std.proofs.Common.{sym, ap, ◌∙◌, subst, IfSome, IsOk, Some, None, Option, Ok, Err, Result, inl, inr, is_some, bytes_eq, arith}
use Rattle.std.proofs.Common.{length-append}
use mathlib.Core.Path.{fun_ext}
use Rattle.std.specs.Option.{option_or}
use Rattle.std.specs.List.{AllByRecursion, IsDistinct}
use Rattle.std.specs.Cmp.Lexicographic.{nat_list_eq_equiv}
use Rattle.std.proofs.lemmas.Bool.{cases_Bool}
use Rattle.std.proofs.lemmas.Int.{ints}
use Rattle.std.proofs.lemmas.Map.Views.{Contains-from_any, list_any-from_Contains}
use Rattle.std.proofs.lemmas.Option.{none-some}
use Rattle.std.proofs.lemmas.Slice.Eq.{bytes_eq-Decides}
use Rattle.h41_words.specs.declared.rows.Row.TheVariants.{ShortJump}
use Rattle.h41_words.specs.WordTable.{number_of}
use Rattle.h41_asm.specs.declared.fault.SourceFault.{SourceFault}
use Rattle.h41_asm.specs.declared.fault.SourceFault.TheVariants.{NoLabel, TooFar}
use Rattle.h41_asm.specs.Assembly.{Assembles, address_count}
use Rattle.h41_asm.specs.AssemblyLaws.{HasWordsOrFault, NeverBoth}
use Rattle.h41_asm.specs.Faults.{assembly_fault, at_line, first_fault, label_address, line_length, missing_fault, numbered_lines}
use Rattle.h41_asm.specs.Faults.{own_fault_at, reach_fault, read_fault, reference_fault, reference_fault_at}
use Rattle.h41_asm.specs.Placing.{IsDisplacement, Labels, LinesSpell, StatementSpells, SpellsRead, entry_words}
use Rattle.h41_asm.specs.private.LabelTable.{IsReady}
use Rattle.h41_asm.specs.SourceLines.{SourceLine, labels_of, source_lines}
use Rattle.h41_asm.specs.Statements.{Statement, Words, OutOfReach, LongJumpTo, ShortJumpTo, EntryAt, is_in_reach, long_jump_words}
use Rattle.h41_asm.specs.Statements.{reading_of}
use Rattle.h41_asm.proofs.Addresses.{labels_low, named, ready}
use Rattle.h41_asm.proofs.Determined.{labels_agree, length-line, lines_spell_once}
use Rattle.h41_asm.proofs.Faultless.{AreFaultless, IsNew, at_no_line, faultless, names_behind, names_distinct, no_own_faults}
use Rattle.h41_asm.proofs.Found.{not_then_some, or_none, unfound}
use Rattle.h41_asm.proofs.Walks.{address_from, addresses_of, own_faults, own_faults_of, reference_faults, reference_faults_of}

-- The words of ready lines end within the addresses.
spelled_within : (labels : Labels) (rest : List SourceLine) (address : ℕ) (words : List ℕ) → address ≤ address_count
    → IsReady labels address rest → LinesSpell labels address rest words → address + length words ≤ address_count
spelled_within labels [] address words low ready spelled = omega (arith, ap length spelled)
spelled_within labels (line ∷ rest) address words low ready spelled =
    let long : length spelled.0 ≡ line_length line = length-line labels address (reading_of line.code) spelled.0 spelled.3.words in
    let behind =
    spelled_within labels rest (address + line_length line) spelled.1 ready.1 ready.3
    (subst (λ (n : ℕ). LinesSpell labels (address + n) rest spelled.1) long spelled.4) in
    omega (arith, behind, long, ap length spelled.2, length-append spelled.0 spelled.1)

-- The words of lines without an error, with their labels, are those of the source.
assembles : (labels : Labels) (source : List ℕ) (origin : ℕ) (words : List ℕ) → origin ≤ address_count
    → own_faults 1 origin [] (source_lines source) ≡ None → ((name : List ℕ) → labels name ≡ address_from origin (source_lines source) name)
    → LinesSpell labels origin (source_lines source) words → Assembles source origin words
assembles labels source origin words low none same spelled =
    let all : List SourceLine = source_lines source in
    let fits = faultless 1 origin [] all none in
    let exact : (x y : List ℕ) → bytes_eq x y ≡ true → x ≡ y = λ x y. (bytes_eq-Decides x y).0 in
    record {
      distinct = (names_distinct [] all origin fits).1;
      fits = spelled_within labels all origin words low (ready labels all [] origin fits (λ name new. same name)) spelled;
      placed = (
        labels,
        record {
          names = λ name. (
            (λ some. Contains-from_any exact name (labels_of all) (sym (named all origin name) ∙ ap is_some (sym (same name)) ∙ some)),
            (λ stands.
                ap is_some (same name) ∙ named all origin name ∙ list_any-from_Contains nat_list_eq_equiv name (labels_of all) stands),
          );
          within = λ name. rw (same name) (labels_low all [] origin name fits);
          spelled = spelled;
        },
      );
    }

-- The first error, as the walks over the lines find it.
fault_by_walks : (source : List ℕ) (origin : ℕ) → let all = source_lines source in
    assembly_fault source origin ≡ option_or (own_faults 1 origin [] all) (reference_faults (address_from origin all) 1 origin all)
fault_by_walks source origin =
    let all : List SourceLine = source_lines source in
    let lines = numbered_lines origin all in
    let these : label_address lines ≡ address_from origin all = fun_ext (addresses_of origin all) in
    ap (λ own. option_or own (first_fault (reference_fault_at (label_address lines)) lines)) (own_faults_of origin all)
    ∙ ap (option_or (own_faults 1 origin [] all))
    (reference_faults_of (label_address lines) origin all ∙ ap (λ (labels : Labels). reference_faults labels 1 origin all) these)

-- The first error if no line has an error of its own.
fault_of_references : (labels : Labels) (source : List ℕ) (origin : ℕ) → own_faults 1 origin [] (source_lines source) ≡ None
    → ((name : List ℕ) → labels name ≡ address_from origin (source_lines source) name)
    → assembly_fault source origin ≡ reference_faults labels 1 origin (source_lines source)
fault_of_references labels source origin none same =
    let all : List SourceLine = source_lines source in
    let these : address_from origin all ≡ labels = fun_ext (λ name. sym (same name)) in
    fault_by_walks source origin ∙ ap (λ own. option_or own (reference_faults (address_from origin all) 1 origin all)) none
    ∙ ap (λ (labels : Labels). reference_faults labels 1 origin all) these

-- The first error of a source is that of a reference, if the table has the labels of the lines.
pub fault_by_labels : (labels : Labels) (source : List ℕ) (origin : ℕ) → let lines = numbered_lines origin (source_lines source) in
    first_fault own_fault_at lines ≡ None → ((name : List ℕ) → labels name ≡ label_address lines name)
    → assembly_fault source origin ≡ first_fault (reference_fault_at labels) lines
fault_by_labels labels source origin none same =
    let lines = numbered_lines origin (source_lines source) in
    let these : label_address lines ≡ labels = fun_ext (λ name. sym (same name)) in
    ap (λ own. option_or own (first_fault (reference_fault_at (label_address lines)) lines)) none
    ∙ ap (λ (labels : Labels). first_fault (reference_fault_at labels) lines) these

-- Lines that have no errors of their own are ready if the labels are theirs, and the source spells what they spell.
pub ready_by : (labels : Labels) (source : List ℕ) (origin : ℕ) → let lines = numbered_lines origin (source_lines source) in
    first_fault own_fault_at lines ≡ None → ((name : List ℕ) → labels name ≡ label_address lines name)
    → IsReady labels origin (source_lines source)
ready_by labels source origin none same =
    let all : List SourceLine = source_lines source in
    ready labels all [] origin (faultless 1 origin [] all (sym (own_faults_of origin all) ∙ none))
    (λ name new. same name ∙ addresses_of origin all name)

pub assembles_by : (labels : Labels) (source : List ℕ) (origin : ℕ) (words : List ℕ) → origin ≤ address_count → let lines =
    numbered_lines origin (source_lines source) in
    first_fault own_fault_at lines ≡ None → ((name : List ℕ) → labels name ≡ label_address lines name)
    → LinesSpell labels origin (source_lines source) words → Assembles source origin words
assembles_by labels source origin words low none same spelled =
    let all : List SourceLine = source_lines source in
    assembles labels source origin words low (sym (own_faults_of origin all) ∙ none)
    (λ name. same name ∙ addresses_of origin all name) spelled

-- Lines that spell words have no error of a reference.
no_reach_fault : (address target : ℕ) (displacement : ℤ) → IsDisplacement address target displacement
    → is_in_reach (pos target -ℤ pos address) ≡ true
no_reach_fault address target displacement by =
    let same : displacement ≡ pos target -ℤ pos address =
    let difference = by.difference in omega (arith, ints) in
    subst (λ d. is_in_reach d ≡ true) same by.in_reach

no_reference_fault : (labels : Labels) (address : ℕ) (said : Statement) (own : List ℕ) → StatementSpells labels address said own
    → reference_fault labels address said ≡ None
no_reference_fault labels address (Words words) own spelled = refl
no_reference_fault labels address OutOfReach own spelled = absurd spelled
no_reference_fault labels address (LongJumpTo condition kind name) own spelled = rw spelled.1 refl
no_reference_fault labels address (ShortJumpTo condition name) own spelled =
    rw (spelled.2, no_reach_fault address spelled.0 spelled.1 spelled.3) refl
no_reference_fault labels address (EntryAt bits name) own spelled = rw spelled.1 refl

no_read_fault : (labels : Labels) (address : ℕ) (read : Result Statement SourceFault) (own : List ℕ) → SpellsRead labels address read own
    → read_fault labels address read ≡ None
no_read_fault labels address (Ok said) own spelled = no_reference_fault labels address said own spelled
no_read_fault labels address (Err fault) own spelled = absurd spelled

no_reference_faults : (labels : Labels) (rest : List SourceLine) (number address : ℕ) (words : List ℕ)
    → LinesSpell labels address rest words → reference_faults labels number address rest ≡ None
no_reference_faults labels [] number address words spelled = refl
no_reference_faults labels (line ∷ rest) number address words spelled =
    let long : length spelled.0 ≡ line_length line = length-line labels address (reading_of line.code) spelled.0 spelled.3.words in
    rw (no_read_fault labels address (reading_of line.code) spelled.0 spelled.3.words)
    (no_reference_faults labels rest (suc number) (address + line_length line) spelled.1
    (subst (λ (n : ℕ). LinesSpell labels (address + n) rest spelled.1) long spelled.4))

-- A line that spells words has no error of its own.
was_read : (labels : Labels) (address : ℕ) (read : Result Statement SourceFault) (own : List ℕ) → SpellsRead labels address read own
    → IsOk read
was_read labels address (Ok said) own spelled = refl
was_read labels address (Err fault) own spelled = absurd spelled

is_low : (labels : Labels) (address : ℕ) (label : Option (List ℕ)) → ((name : List ℕ) → IfSome (labels name) (λ a. a < address_count))
    → IfSome label (λ name. labels name ≡ Some address) → IfSome label (λ name. address < address_count)
is_low labels address None within own = tt
is_low labels address (Some name) within own = subst (λ found. IfSome found (λ a. a < address_count)) own (within name)

spelled_faultless : (labels : Labels) (rest earlier : List SourceLine) (address : ℕ) (words : List ℕ)
    → AllByRecursion (IsNew earlier) (labels_of rest) → IsDistinct bytes_eq (labels_of rest)
    → ((name : List ℕ) → IfSome (labels name) (λ a. a < address_count)) → address + length words ≤ address_count
    → LinesSpell labels address rest words → AreFaultless earlier address rest
spelled_faultless labels [] earlier address words new distinct within fits spelled = tt
spelled_faultless labels (line ∷ rest) earlier address words new distinct within fits spelled =
    let names = names_behind earlier line rest new distinct in
    let long : length spelled.0 ≡ line_length line = length-line labels address (reading_of line.code) spelled.0 spelled.3.words in
    let all : length words ≡ length spelled.0 + length spelled.1 = ap length spelled.2 ∙ length-append spelled.0 spelled.1 in (
      record {
        readable = was_read labels address (reading_of line.code) spelled.0 spelled.3.words;
        new = names.0;
        low = is_low labels address line.label within spelled.3.label;
        ends = omega (arith, long, all);
      },
      spelled_faultless labels rest (earlier ++ line ∷ []) (address + line_length line)
          spelled.1 names.1 names.2 within (omega (arith, long, all))
          (subst (λ (n : ℕ). LinesSpell labels (address + n) rest spelled.1) long spelled.4),
    )

all_new : (names : List (List ℕ)) → AllByRecursion (IsNew []) names
all_new [] = tt
all_new (name ∷ names) = (refl, all_new names)

-- A source that spells words has no error.
pub no_fault : (source : List ℕ) (origin : ℕ) (words : List ℕ) → Assembles source origin words → assembly_fault source origin ≡ None
no_fault source origin words assembled =
    let labels = assembled.placed.0 in
    let by = assembled.placed.1 in
    let own : own_faults 1 origin [] (source_lines source) ≡ None =
    no_own_faults 1 origin [] (source_lines source)
    (spelled_faultless labels (source_lines source) [] origin words
    (all_new (labels_of (source_lines source))) assembled.distinct by.within assembled.fits by.spelled) in
    fault_of_references labels source origin own (labels_agree labels source origin words by)
    ∙ no_reference_faults labels (source_lines source) 1 origin words by.spelled

-- Without an error of a reference, ready lines spell words.
spelled_long : (found : Option ℕ) → missing_fault found ≡ None → (target : ℕ) × (found ≡ Some target)
spelled_long None none = absurd (none-some NoLabel (sym none))
spelled_long (Some target) none = (target, refl)

spelled_short : (address : ℕ) (found : Option ℕ) → reach_fault address found ≡ None
    → (target : ℕ) × (found ≡ Some target) × (is_in_reach (pos target -ℤ pos address) ≡ true)
spelled_short address None none = absurd (none-some NoLabel (sym none))
spelled_short address (Some target) none =
    (target, refl, not_false _ (not_then_some (not (is_in_reach (pos target -ℤ pos address))) TooFar none))
  where
    not_false : (test : Bool) → not test ≡ false → test ≡ true
    not_false true e = refl
    not_false false e = let no : true ≡ false = e in cc

difference : (from to : ℕ) → pos to ≡ pos from +ℤ (pos to -ℤ pos from)
difference from to = omega (arith, ints)

spelled_statement : (labels : Labels) (address : ℕ) (said : Statement) → reference_fault labels address said ≡ None
    → (own : List ℕ) × StatementSpells labels address said own
spelled_statement labels address (Words words) none = (words, refl)
spelled_statement labels address OutOfReach none = absurd (none-some TooFar (sym none))
spelled_statement labels address (LongJumpTo condition kind name) none =
    let found = spelled_long (labels name) none in (long_jump_words condition kind found.0, (found.0, found.1, refl))
spelled_statement labels address (ShortJumpTo condition name) none =
    let found = spelled_short address (labels name) none in
    let displacement : ℤ = pos found.0 -ℤ pos address in (
      number_of (ShortJump condition displacement) ∷ [],
      (found.0, displacement, found.1, record { difference = difference address found.0; in_reach = found.2 }, refl),
    )
spelled_statement labels address (EntryAt bits name) none =
    let found = spelled_long (labels name) none in (entry_words bits found.0, (found.0, found.1, refl))

spelled_line : (labels : Labels) (address : ℕ) (read : Result Statement SourceFault) → IsOk read → read_fault labels address read ≡ None
    → (own : List ℕ) × SpellsRead labels address read own
spelled_line labels address (Ok said) ok none = spelled_statement labels address said none
spelled_line labels address (Err fault) ok none = let no : false ≡ true = ok in cc

spelled_lines : (labels : Labels) (rest : List SourceLine) (number address : ℕ) → IsReady labels address rest
    → reference_faults labels number address rest ≡ None → (words : List ℕ) × LinesSpell labels address rest words
spelled_lines labels [] number address ready none = ([], refl)
spelled_lines labels (line ∷ rest) number address ready none =
    let parts = or_none (at_line number (read_fault labels address (reading_of line.code))) _ none in
    let own =
    spelled_line labels address (reading_of line.code) ready.0
    (at_no_line number (read_fault labels address (reading_of line.code)) parts.0) in
    let long : line_length line ≡ length own.0 = sym (length-line labels address (reading_of line.code) own.0 own.1) in
    let others = spelled_lines labels rest (suc number) (address + line_length line) ready.3 parts.1 in (
      own.0 ++ others.0,
      (
        own.0,
        others.0,
        refl,
        record { label = ready.2; words = own.1 },
        subst (λ (n : ℕ). LinesSpell labels (address + n) rest others.0) long others.1,
      ),
    )

-- A source without an error spells words.
pub some_words : (source : List ℕ) (origin : ℕ) → origin ≤ address_count → assembly_fault source origin ≡ None
    → (words : List ℕ) × Assembles source origin words
some_words source origin low none =
    let all : List SourceLine = source_lines source in
    let labels : Labels = address_from origin all in
    let parts = or_none (own_faults 1 origin [] all) (reference_faults labels 1 origin all) (sym (fault_by_walks source origin) ∙ none) in
    let fits = faultless 1 origin [] all parts.0 in
    let spelled = spelled_lines labels all 1 origin (ready labels all [] origin fits (λ name new. refl)) parts.1 in
    (spelled.0, assembles labels source origin spelled.0 low parts.0 (λ name. refl) spelled.1)

-- A source spells only one list of words.
pub one_words : (source : List ℕ) (origin : ℕ) (one other : List ℕ) → Assembles source origin one → Assembles source origin other
    → one ≡ other
one_words source origin one other first second =
    let all : List SourceLine = source_lines source in
    let here : first.placed.0 ≡ address_from origin all = fun_ext (labels_agree first.placed.0 source origin one first.placed.1) in
    let there : second.placed.0 ≡ address_from origin all = fun_ext (labels_agree second.placed.0 source origin other second.placed.1) in
    lines_spell_once (address_from origin all) all origin one other
    (subst (λ (labels : Labels). LinesSpell labels origin all one) here first.placed.1.spelled)
    (subst (λ (labels : Labels). LinesSpell labels origin all other) there second.placed.1.spelled)

-- A source has words, or it has a first error.
pub one_holds : HasWordsOrFault
one_holds source origin low = elim (cases_Bool (is_some (assembly_fault source origin))) [
  | inl some ↦ inr some
  | inr none ↦ inl (some_words source origin (omega arith) (unfound (assembly_fault source origin) none))
]

-- A source never has both.
pub no_fault_of_words : NeverBoth
no_fault_of_words source origin words some =
    let no : true ≡ false = sym some ∙ ap is_some (no_fault source origin words.0 words.1) in cc
