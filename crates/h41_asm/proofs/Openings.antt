-- The result of a table of first words for a word, and that a word that is not in the table begins nothing.
use Rattle.std.proofs.Common.{◌≡◌, ℕ, ◌<◌, Bool, true, false, List, [], ◌∷◌, length, Some, None, refl, sym, ◌∙◌, inl, inr, bytes_eq}
use Rattle.std.proofs.Common.{slice_index, slice_index_or, subst}
use Rattle.std.specs.Prelude.{find}
use Rattle.std.proofs.lemmas.List.{get_or-map, length-map}
use Rattle.std.specs.Borrow.{Bor}
use Rattle.std.specs.List.{list_all, list_any, starts_with}
use Rattle.std.proofs.lemmas.Bool.{and_parts, cases_Bool}
use Rattle.std.proofs.lemmas.Slice.Eq.{bytes_eq-Decides}
use Rattle.h41_asm.specs.declared.table.Opening.{Opening}
use Rattle.h41_asm.specs.SourceLines.{words_of}
use Rattle.h41_asm.specs.Statements.{begins, is_whole, singles, takers}
use Rattle.h41_asm.specs.private.Openings.{TableEntry, IsTable, OpensAs, TellsWords, entries_in, hash_of, place_count}

-- The word of the table entry to which a word's hash leads.
abbrev pub slot : List TableEntry → List ℕ → TableEntry → List ℕ → List ℕ
slot entries places other word = (slice_index_or entries (slice_index places (hash_of word)) other).0

-- Whether the hash of a mnemonic's first word leads to it.
abbrev pub leads_home : List TableEntry → List ℕ → TableEntry → List (List ℕ) → Bool
leads_home entries places other [] = false
leads_home entries places other (part ∷ parts) = bytes_eq part (slot entries places other part)

abbrev pub is_placed : List TableEntry → List ℕ → TableEntry → List ℕ → Bool
is_placed entries places other name = leads_home entries places other (words_of name)

same_bytes : (a b : List ℕ) → bytes_eq a b ≡ true → a ≡ b
same_bytes a b e = (bytes_eq-Decides a b).0 e

no_both : (test : Bool) → test ≡ true → test ≡ false → true ≡ false
no_both test holds fails = sym holds ∙ fails

module _ (entries : List TableEntry) (places : List ℕ) (other : TableEntry) (word : List ℕ)
    (missed : bytes_eq word (slot entries places other word) ≡ false) where
  unlike : (part : List ℕ) → bytes_eq part (slot entries places other part) ≡ true → bytes_eq word part ≡ false
  unlike part home = elim (cases_Bool (bytes_eq word part)) [
    | inl same ↦
        let here : bytes_eq part (slot entries places other part) ≡ false =
        subst (λ (w : List ℕ). bytes_eq w (slot entries places other w) ≡ false) (same_bytes word part same) missed in
        let no : true ≡ false = no_both _ home here in cc
    | inr differs ↦ differs
  ]

  unbegun : (parts others : List (List ℕ)) → leads_home entries places other parts ≡ true
      → starts_with (λ part word. bytes_eq word part) (word ∷ others) parts ≡ false
  unbegun [] others home = let no : false ≡ true = home in cc
  unbegun (part ∷ parts) others home = rw (unlike part home) refl

  -- Words that begin with it begin with no mnemonic whose first word is at its place in the table.
  abbrev homes : {T : Type 0} → List (List ℕ × T) → Bool
  homes some = list_all (λ entry. is_placed entries places other entry.0) some

  none_begun : {T : Type 0} (some : List (List ℕ × T)) (others : List (List ℕ)) → homes some ≡ true
      → list_any (λ entry. begins (word ∷ others) entry.0) some ≡ false
  none_begun [] others home = refl
  none_begun (entry ∷ some) others home =
      let both = and_parts (is_placed entries places other entry.0) (homes some) home in
      rw (unbegun (words_of entry.0) others both.0) (none_begun some others both.1)

  none_found : {T : Type 0} (some : List (List ℕ × T)) (others : List (List ℕ)) → homes some ≡ true
      → find (λ entry. begins (word ∷ others) entry.0) some ≡ None
  none_found [] others home = refl
  none_found (entry ∷ some) others home =
      let both = and_parts (is_placed entries places other entry.0) (homes some) home in
      rw (unbegun (words_of entry.0) others both.0) (none_found some others both.1)

  none_whole : {T : Type 0} (some : List (List ℕ × T)) (others : List (List ℕ)) → homes some ≡ true
      → find (λ entry. is_whole (word ∷ others) entry.0) some ≡ None
  none_whole [] others home = refl
  none_whole (entry ∷ some) others home =
      let both = and_parts (is_placed entries places other entry.0) (homes some) home in
      rw (unbegun (words_of entry.0) others both.0) (none_whole some others both.1)

  pub begins_nothing : homes singles ≡ true → homes takers ≡ true → OpensAs word None
  begins_nothing at_singles at_takers others =
      let whole = none_whole singles others at_singles in
      let statement_by = none_found takers others at_takers in
      let begun = none_begun singles others at_singles in
      rw (whole, statement_by, begun) refl

-- The entry to which a word's hash leads in the code's table.
module _ (openings : List (Bor (List ℕ) × Opening)) (places word : List ℕ) (place : ℕ)
    (d : Bor (List ℕ) × Opening) (table : IsTable (entries_in openings) places)
    (near : hash_of word < place_count) (here : place ≡ slice_index places (hash_of word)) where
  inside : place < length (entries_in openings)
  inside = rw here (table.within (hash_of word) (rw table.count near))

  within : place < length openings
  within = rw length-map at inside

  mapped : slice_index_or (entries_in openings) place (d.0.now, d.1)
      ≡ ((slice_index_or openings place d).0.now, (slice_index_or openings place d).1)
  mapped = get_or-map (λ (opening : Bor (List ℕ) × Opening). (opening.0.now, opening.1)) openings place d (d.0.now, d.1) within

  pub found_at : bytes_eq word (slice_index_or openings place d).0.now ≡ true → OpensAs word (Some (slice_index_or openings place d).1)
  found_at same =
      rw (same_bytes word (slice_index_or openings place d).0.now same) (rw mapped at (table.sound place (d.0.now, d.1) inside))

  pub words_at : TellsWords (slice_index_or openings place d).1
  words_at = rw mapped at (table.words place (d.0.now, d.1) inside)

  pub missed_at : bytes_eq word (slice_index_or openings place d).0.now ≡ false → OpensAs word None
  missed_at differs = table.complete word (d.0.now, d.1) (rw (← here) (rw mapped differs))
