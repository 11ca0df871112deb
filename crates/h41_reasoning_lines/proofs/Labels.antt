-- Where GTO leads: to a label of the program of its position.
use Rattle.std.proofs.Common.{◌≡◌, ℕ, ◌≤◌, Bool, true, false, List, [], ◌∷◌, ◌++◌, Option, Some, None, refl, sym, ap, ◌∙◌, subst, arith}
use Rattle.std.specs.Prelude.{◌&&◌, MatchBool, find, nat_lt, reverse, if◌then◌else◌}
use Rattle.std.specs.Option.{option_map_or, option_or}
use Rattle.std.proofs.lemmas.Bool.{le-ltb, lt-ltb, ltb-true}
use Rattle.std.proofs.lemmas.List.{reverse-append, reverse-reverse}
use Rattle.std.proofs.lemmas.List.Folds.{find-append}
use Rattle.h41_codes.specs.declared.line.Line.{Line}
use Rattle.h41_codes.specs.declared.line.Line.TheVariants.{End}
use Rattle.h41_program.specs.Lines.{is_end, is_final_end, is_label}
use Rattle.h41_program.specs.ProgramBytes.{final_position, program_bytes}
use Rattle.h41_program.specs.ProgramLaws.{ReadIsDetermined}
use Rattle.h41_program.specs.FirstLines.{behind}
use Rattle.h41_program.specs.ProgramLines.{LinesFrom, Reads}
use Rattle.h41_program.specs.Searches.{AnswersLocal, end_before, label_in, position_of, start_in}
use Rattle.h41_program.specs.declared.listed_line.ListedLine.{ListedLine}
use Rattle.h41_program.proofs.SearchSteps.{label_in-end, label_in-here, label_in-other, none_or, some_or}
use Rattle.h41_ram.specs.RegisterMap.{RegisterMap, is_sound}
use Rattle.h41_reasoning_lines.proofs.Listed.{BeginsAt, IsListed, lines_from, rest_read}

-- A test is false for each element of a list.
abbrev pub NoneOf : {A : Type 0} → (A → Bool) → List A → Type 0
NoneOf test [] = Unit {0}
NoneOf test (x ∷ xs) = (test x ≡ false) × NoneOf test xs

-- Whether a line is an END before a position.
abbrev pub ends_before : ℕ → ListedLine → Bool
ends_before at each = is_end each.line && nat_lt each.position at

passed : {A : Type 0} (test : A → Bool) (x : A) → test x ≡ false → find test (x ∷ []) ≡ None
passed test x fails = ap (λ (holds : Bool). if holds then Some x else None) fails

neither : {A : Type 0} (first second : Option A) → first ≡ None → second ≡ None → option_or first second ≡ None
neither None second one two = two
neither (Some x) second one two = absurd (cc)

pub find_none : {A : Type 0} (test : A → Bool) (xs : List A) → NoneOf test xs → find test (reverse xs) ≡ None
find_none test [] none = refl
find_none test (x ∷ xs) none =
    ap (find test) (reverse-append (x ∷ []) xs)
    ∙ find-append test (reverse xs) (x ∷ [])
    ∙ neither (find test (reverse xs)) (find test (x ∷ [])) (find_none test xs none.1) (passed test x none.0)

-- What a search finds is in the list.
pub record IsFound {A : Type 0} (test : A → Bool) (xs : List A) (found : A) : Type 0 where
  pub before : List A
  pub after : List A
  pub parts : xs ≡ before ++ found ∷ after
  pub holds : test found ≡ true

same_value : {A : Type 0} (x y : A) → Some x ≡ Some y → x ≡ y
same_value x y same = cc

found_first : {A : Type 0} (test : A → Bool) (x : A) (xs : List A) (found : A) (holds : Bool) → test x ≡ holds
    → (find test xs ≡ Some found → IsFound test xs found) → (if holds then Some x else find test xs) ≡ Some found
    → IsFound test (x ∷ xs) found
found_first test x xs found true is more here =
    let same = same_value x found here in
    record { before = []; after = xs; parts = ap (λ y. y ∷ xs) same; holds = subst (λ y. test y ≡ true) same is }
found_first test x xs found false is more here =
    let there = more here in
    record { before = x ∷ there.before; after = there.after; parts = ap (λ ys. x ∷ ys) there.parts; holds = there.holds }

find_some : {A : Type 0} (test : A → Bool) (xs : List A) (found : A) → find test xs ≡ Some found → IsFound test xs found
find_some test [] found is = absurd (cc)
find_some test (x ∷ xs) found is = found_first test x xs found (test x) refl (find_some test xs found) is

end_is_not_final : (line : Line) → is_end line ≡ true → is_final_end line ≡ false
end_is_not_final (End link marks) is = refl
end_is_not_final line is = absurd (cc)

first_holds : (one two : Bool) → (one && two) ≡ true → one ≡ true
first_holds true two both = refl
first_holds false two both = both

later_too : (one : Bool) (position start at : ℕ) → (one && nat_lt position start) ≡ true → start ≤ at → (one && nat_lt position at) ≡ true
later_too true position start at both from = lt-ltb position at (omega (arith, ltb-true position start both, from))
later_too false position start at both from = both

late : (one : Bool) (position at : ℕ) → at ≤ position → (one && nat_lt position at) ≡ false
late true position at from = le-ltb position at from
late false position at from = refl

no_end_there : (end : Bool) (position at : ℕ) → end ≡ false → (end && nat_lt position at) ≡ false
no_end_there true position at is = absurd (cc)
no_end_there false position at is = refl

not_nil : {A : Type 0} (early : List A) (x : A) (later : List A) → (early ++ x ∷ []) ++ later ≡ [] → ⊥
not_nil [] x later nil = cc
not_nil (y ∷ early) x later nil = cc

module _ (memory : RegisterMap) (sound : is_sound memory ≡ true) where
  abbrev ReadsThere : ℕ → List ListedLine → Type 0
  ReadsThere at listed = Reads (program_bytes memory) (final_position memory) at listed

  -- The lines from a position on are not before it.
  none_late_by : (at : ℕ) (first : ListedLine) (rest : List ListedLine) (final : Bool)
      → (ReadsThere (behind first) rest → NoneOf (ends_before at) rest)
      → MatchBool final (rest ≡ []) (ReadsThere (behind first) rest) → NoneOf (ends_before at) rest
  none_late_by at first rest true more reads = subst (NoneOf (ends_before at)) (sym reads) tt
  none_late_by at first rest false more reads = more reads

  pub none_late : (at from : ℕ) (listed : List ListedLine) → at ≤ from → ReadsThere from listed → NoneOf (ends_before at) listed
  none_late at from [] order reads = tt
  none_late at from (first ∷ rest) order reads =
      let low : from ≤ first.position = reads.0.from in (
        late (is_end first.line) first.position at (omega (arith, order, low)),
        none_late_by at first rest (is_final_end first.line)
            (none_late at (behind first) rest (omega (arith, order, low))) reads.1,
      )

  -- A line that is no END adds none before a position.
  pub no_end : (at from : ℕ) (listed : List ListedLine) (line : Line) (here : IsListed memory from listed line) → is_end line ≡ false
      → NoneOf (ends_before at) here.rest → NoneOf (ends_before at) listed
  no_end at from listed line here other rest =
      subst (NoneOf (ends_before at)) (sym here.is_list)
      (no_end_there (is_end here.first.line) here.first.position at (ap is_end here.is ∙ other), rest)

  reads_later_by : (first : ListedLine) (rest : List ListedLine) (final : Bool) → (rest ≡ [] → ⊥)
      → MatchBool final (rest ≡ []) (ReadsThere (behind first) rest) → ReadsThere (behind first) rest
  reads_later_by first rest true some reads = absurd (some reads)
  reads_later_by first rest false some reads = reads

  -- The lines after a line of a list are read from the byte after it.
  pub reads_later : (at : ℕ) (early : List ListedLine) (last : ListedLine) (later : List ListedLine) → is_final_end last.line ≡ false
      → ReadsThere at ((early ++ last ∷ []) ++ later) → ReadsThere (behind last) later
  reads_later at [] last later open_end reads = rest_read memory sound last later (is_final_end last.line) open_end reads.1
  reads_later at (first ∷ early) last later open_end reads =
      reads_later (behind first) early last later open_end
      (reads_later_by first ((early ++ last ∷ []) ++ later) (is_final_end first.line) (not_nil early last later) reads.1)

  -- Of a program that begins at a position, each position before which it has no END belongs to it.
  module _ (determined : ReadIsDetermined) (start at : ℕ) (all listed : List ListedLine) (all_read : ReadsThere 0 all)
      (read : ReadsThere start listed) (begins : start ≡ start_in start all) (from : start ≤ at)
      (none : NoneOf (ends_before at) listed) where
    by_found : (found : Option ListedLine) → end_before start all ≡ found → start_in at all ≡ start
    by_found None is =
        let first : start ≡ 0 = begins ∙ ap (λ (found : Option ListedLine). option_map_or behind found 0) is in
        let same : listed ≡ all =
        determined is_final_end (program_bytes memory) (final_position memory) 0 listed all
        (subst (λ (n : ℕ). ReadsThere n listed) first read) all_read in
        ap (λ (found : Option ListedLine). option_map_or behind found 0)
        (find_none (ends_before at) all (subst (NoneOf (ends_before at)) same none))
        ∙ sym first
    by_found (Some last) is =
        let there : IsFound (ends_before start) (reverse all) last = find_some (ends_before start) (reverse all) last is in
        let later = reverse there.before in
        let parts : all ≡ (reverse there.after ++ last ∷ []) ++ later =
        sym (reverse-reverse all)
        ∙ ap reverse there.parts
        ∙ reverse-append there.before (last ∷ there.after)
        ∙ ap (λ (early : List ListedLine). early ++ later) (reverse-append (last ∷ []) there.after) in
        let end_line : is_end last.line ≡ true = first_holds (is_end last.line) (nat_lt last.position start) there.holds in
        let behind_last : start ≡ behind last = begins ∙ ap (λ (found : Option ListedLine). option_map_or behind found 0) is in
        let rest_reads : ReadsThere (behind last) later =
        reads_later 0 (reverse there.after) last later (end_is_not_final last.line end_line) (subst (ReadsThere 0) parts all_read) in
        let same : listed ≡ later =
        determined is_final_end (program_bytes memory) (final_position memory) (behind last) listed later
        (subst (λ (n : ℕ). ReadsThere n listed) behind_last read) rest_reads in
        let nothing : find (ends_before at) there.before ≡ None =
        ap (find (ends_before at)) (sym (reverse-reverse there.before))
        ∙ find_none (ends_before at) later (subst (NoneOf (ends_before at)) same none) in
        let holds : ends_before at last ≡ true = later_too (is_end last.line) last.position start at there.holds from in
        let chosen : find (ends_before at) (reverse all) ≡ Some last =
        ap (find (ends_before at)) there.parts
        ∙ find-append (ends_before at) there.before (last ∷ there.after)
        ∙ ap (λ (found : Option ListedLine). option_or found (find (ends_before at) (last ∷ there.after))) nothing
        ∙ ap (λ (yes : Bool). if yes then Some last else find (ends_before at) there.after) holds in
        ap (λ (found : Option ListedLine). option_map_or behind found 0) chosen ∙ sym behind_last

    pub own_start : start_in at all ≡ start
    own_start = by_found (end_before start all) refl

  -- GTO searches downwards to the END, and then from the start of the program.
  module _ (determined : ReadIsDetermined) (start at n target : ℕ) (all listed onward : List ListedLine) (all_read : ReadsThere 0 all)
      (read : ReadsThere start listed) (onward_read : ReadsThere at onward) (begins : start ≡ start_in start all) (from : start ≤ at)
      (none : NoneOf (ends_before at) listed) where
    found_either : Some target ≡ position_of (option_or (label_in n onward) (label_in n listed)) → AnswersLocal memory at n (Some target)
    found_either is = record {
      lines = all;
      onward = onward;
      own = listed;
      all = lines_from memory sound 0 all all_read;
      from = lines_from memory sound at onward onward_read;
      program =
          subst (λ (own : ℕ). LinesFrom memory own listed)
          (sym (own_start determined start at all listed all_read read begins from none)) (lines_from memory sound start listed read);
      is = is;
    }

    -- There is no such label between GTO and the END.
    pub found_back : position_of (label_in n onward) ≡ None → Some target ≡ position_of (label_in n listed)
        → AnswersLocal memory at n (Some target)
    found_back nothing found = found_either (none_or (label_in n onward) (label_in n listed) (Some target) nothing found)

    -- The label is between them.
    pub found_onward : Some target ≡ position_of (label_in n onward) → AnswersLocal memory at n (Some target)
    found_onward found = found_either (some_or (label_in n onward) (label_in n listed) target (sym found))

  -- Searches in a list of lines.
  pub label_here : (at n : ℕ) (listed : List ListedLine) (line : Line) (here : IsListed memory at listed line) → is_label n line ≡ true
      → Some here.first.position ≡ position_of (label_in n listed)
  label_here at n listed line here is =
      sym
      (ap (λ (lines : List ListedLine). position_of (label_in n lines)) here.is_list
      ∙ ap position_of (label_in-here n here.first here.rest (ap (is_label n) here.is ∙ is)))

  pub label_after : (at n : ℕ) (listed : List ListedLine) (line : Line) (here : IsListed memory at listed line) → is_end line ≡ false
      → is_label n line ≡ false
      → position_of (label_in n listed) ≡ position_of (label_in n here.rest)
  label_after at n listed line here other no_label =
      ap (λ (lines : List ListedLine). position_of (label_in n lines)) here.is_list
      ∙ ap position_of
      (label_in-other n here.first here.rest (ap is_end here.is ∙ other) (ap (is_label n) here.is ∙ no_label))

  -- A search ends at END.
  pub label_at_end : (at n : ℕ) (listed : List ListedLine) (line : Line) (here : IsListed memory at listed line) → is_end line ≡ true
      → position_of (label_in n listed) ≡ None
  label_at_end at n listed line here is =
      ap (λ (lines : List ListedLine). position_of (label_in n lines)) here.is_list
      ∙ ap position_of (label_in-end n here.first here.rest (ap is_end here.is ∙ is))

  -- The next line after a line begins at the next position.
  pub position_next : (at : ℕ) (listed : List ListedLine) (line : Line) (here : IsListed memory at listed line) (other : Line)
      (there : IsListed memory here.next here.rest other)
      → here.next ≡ there.first.position
  position_next at listed line here other there =
      begin_at here.rest there.first there.rest here.next there.is_list here.begins
    where
      begin_at : (rest : List ListedLine) (first : ListedLine) (more : List ListedLine) (next : ℕ) → rest ≡ first ∷ more
          → BeginsAt rest next → next ≡ first.position
      begin_at rest first more next is begins = subst (λ lines. BeginsAt lines next) is begins
