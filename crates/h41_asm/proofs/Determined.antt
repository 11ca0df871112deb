-- With given labels, lines spell one list of words, and the labels with which lines spell are those of the lines.
use Rattle.std.proofs.Common.{◌≡◌, ℕ, ◌+◌, ℤ, pos, ◌+ℤ◌, true, false, List, [], ◌∷◌, ◌++◌, length, refl, sym, ap, ◌∙◌, subst, IfSome, Some}
use Rattle.std.proofs.Common.{None, Option, Ok, Err, Result, inl, inr, is_some, bytes_eq, arith}
use Rattle.std.specs.Cmp.Lexicographic.{nat_list_eq_equiv}
use Rattle.std.specs.List.{list_any}
use Rattle.std.proofs.lemmas.Bool.{cases_Bool}
use Rattle.std.proofs.lemmas.Int.{ints}
use Rattle.std.proofs.lemmas.Map.Views.{list_any-from_Contains}
use Rattle.std.proofs.lemmas.Option.{none-some, same_Some}
use Rattle.std.proofs.lemmas.Slice.Eq.{bytes_eq-Decides}
use Rattle.h41_words.specs.declared.rows.Row.TheVariants.{ShortJump}
use Rattle.h41_words.specs.WordTable.{number_of}
use Rattle.h41_asm.specs.declared.fault.SourceFault.{SourceFault}
use Rattle.h41_asm.specs.Assembly.{AssemblesBy}
use Rattle.h41_asm.specs.Faults.{has_label, line_length, read_length}
use Rattle.h41_asm.specs.Placing.{Labels, LinesSpell, StatementSpells, SpellsRead, entry_words}
use Rattle.h41_asm.specs.SourceLines.{SourceLine, labels_of, source_lines}
use Rattle.h41_asm.specs.Statements.{Statement, Words, OutOfReach, LongJumpTo, ShortJumpTo, EntryAt, long_jump_words, reading_of}
use Rattle.h41_asm.proofs.Addresses.{named}
use Rattle.h41_asm.proofs.Found.{unfound}
use Rattle.h41_asm.proofs.Spelling.{length-spelled}
use Rattle.h41_asm.proofs.Walks.{address_from}

-- The number of words that a line spells is its length.
pub length-line : (labels : Labels) (address : ℕ) (read : Result Statement SourceFault) (own : List ℕ) → SpellsRead labels address read own
    → length own ≡ read_length read
length-line labels address (Ok said) own spelled = length-spelled labels address said own spelled
length-line labels address (Err fault) own spelled = absurd spelled

-- Only one displacement leads from one address to another.
one_displacement : (from to : ℕ) (one other : ℤ) → pos to ≡ pos from +ℤ one → pos to ≡ pos from +ℤ other → one ≡ other
one_displacement from to one other first second = omega (arith, ints)

-- A statement spells one list of words.
spells_once : (labels : Labels) (address : ℕ) (said : Statement) (one other : List ℕ) → StatementSpells labels address said one
    → StatementSpells labels address said other → one ≡ other
spells_once labels address (Words words) one other first second = first ∙ sym second
spells_once labels address OutOfReach one other first second = absurd first
spells_once labels address (LongJumpTo condition kind name) one other first second =
    let same : first.0 ≡ second.0 = same_Some first.0 second.0 (sym first.1 ∙ second.1) in
    first.2 ∙ ap (long_jump_words condition kind) same ∙ sym second.2
spells_once labels address (ShortJumpTo condition name) one other first second =
    let same : first.0 ≡ second.0 = same_Some first.0 second.0 (sym first.2 ∙ second.2) in
    let by : first.1 ≡ second.1 =
    one_displacement address second.0 first.1 second.1 (ap (λ (n : ℕ). pos n) (sym same) ∙ first.3.difference) second.3.difference in
    first.4 ∙ ap (λ displacement. number_of (ShortJump condition displacement) ∷ []) by ∙ sym second.4
spells_once labels address (EntryAt bits name) one other first second =
    let same : first.0 ≡ second.0 = same_Some first.0 second.0 (sym first.1 ∙ second.1) in
    first.2 ∙ ap (entry_words bits) same ∙ sym second.2

line_spells_once : (labels : Labels) (address : ℕ) (read : Result Statement SourceFault) (one other : List ℕ)
    → SpellsRead labels address read one → SpellsRead labels address read other → one ≡ other
line_spells_once labels address (Ok said) one other first second = spells_once labels address said one other first second
line_spells_once labels address (Err fault) one other first second = absurd first

pub lines_spell_once : (labels : Labels) (rest : List SourceLine) (address : ℕ) (one other : List ℕ) → LinesSpell labels address rest one
    → LinesSpell labels address rest other → one ≡ other
lines_spell_once labels [] address one other first second = first ∙ sym second
lines_spell_once labels (line ∷ rest) address one other first second =
    let own : first.0 ≡ second.0 = line_spells_once labels address (reading_of line.code) first.0 second.0 first.3.words second.3.words in
    let behind : LinesSpell labels (address + length second.0) rest first.1 =
    subst (λ words. LinesSpell labels (address + length words) rest first.1) own first.4 in
    let others : first.1 ≡ second.1 = lines_spell_once labels rest (address + length second.0) first.1 second.1 behind second.4 in
    first.2 ∙ ap (λ words. words ++ first.1) own ∙ ap (λ words. second.0 ++ words) others ∙ sym second.2

-- The address of a line's label is that of the line.
labelled_here : (labels : Labels) (address : ℕ) (name : List ℕ) (label : Option (List ℕ)) → has_label name label ≡ true
    → IfSome label (λ own. labels own ≡ Some address) → labels name ≡ Some address
labelled_here labels address name None here own = let no : false ≡ true = here in cc
labelled_here labels address name (Some label) here own = ap labels ((bytes_eq-Decides name label).0 here) ∙ own

-- The address of the line of a label is the address of the label.
pub labelled_at : (labels : Labels) (rest : List SourceLine) (address : ℕ) (words name : List ℕ) (found : ℕ)
    → LinesSpell labels address rest words → address_from address rest name ≡ Some found → labels name ≡ Some found
labelled_at labels [] address words name found spelled at = absurd (none-some found at)
labelled_at labels (line ∷ rest) address words name found spelled at = elim (cases_Bool (has_label name line.label)) [
  | inl here ↦
      let same : Some address ≡ Some found = rw here at at in
      labelled_here labels address name line.label here spelled.3.label ∙ same
  | inr other ↦
      let behind : address_from (address + line_length line) rest name ≡ Some found = rw other at at in
      let long : length spelled.0 ≡ line_length line = length-line labels address (reading_of line.code) spelled.0 spelled.3.words in
      labelled_at labels rest (address + line_length line) spelled.1 name found
      (subst (λ (n : ℕ). LinesSpell labels (address + n) rest spelled.1) long spelled.4) behind
]

-- The labels with which a source is spelled are those of its lines.
pub labels_agree : (labels : Labels) (source : List ℕ) (origin : ℕ) (words : List ℕ) → AssemblesBy labels source origin words
    → (name : List ℕ) → labels name ≡ address_from origin (source_lines source) name
labels_agree labels source origin words assembled name = by (address_from origin (source_lines source) name) refl
  where
    by : (found : Option ℕ) → address_from origin (source_lines source) name ≡ found → labels name ≡ found
    by (Some found) at = labelled_at labels (source_lines source) origin words name found assembled.spelled at
    by None at = elim (cases_Bool (is_some (labels name))) [
      | inl some ↦
          let stands : list_any (bytes_eq name) (labels_of (source_lines source)) ≡ true =
          list_any-from_Contains nat_list_eq_equiv name (labels_of (source_lines source)) ((assembled.names name).0 some) in
          let no : true ≡ false = sym stands ∙ sym (named (source_lines source) origin name) ∙ ap is_some at in cc
      | inr none ↦ unfound (labels name) none
    ]
