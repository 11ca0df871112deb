-- Lists of cached answers.
use Rattle.std.proofs.Common.{◌≡◌, ◌≢◌, ◌+◌, ◌<◌, ℕ, Bool, true, false, Some, None, refl, sym, ap, ◌∙◌}
use Rattle.std.proofs.Common.{List, ◌∷◌, ◌++◌, drop, get_or, length, map}
use Rattle.std.specs.Prelude.{◌&&◌, ◌==◌, Option, find}
use Rattle.std.specs.Option.{option_map, option_or}
use Rattle.std.proofs.lemmas.Bool.{eqb-true, false_from_ne_true}
use Rattle.std.proofs.lemmas.List.{drop_more, get_or-map, get_or_default}
use Rattle.std.proofs.lemmas.List.Folds.{find-append}
use Rattle.std.proofs.lemmas.Slice.Eq.{bytes_eq-Decides}
use Rattle.h41_labels.specs.KeptAnswers.{answer_of, is_same}
use Rattle.h41_labels.specs.declared.search.KeptAnswer.{KeptAnswer}
use Rattle.h41_labels.specs.declared.search.Search.{Search}
use Rattle.h41_labels.specs.declared.search.Search.TheVariants.{Global, Local}
use Rattle.h41_labels.specs.private.Slots.{mark_beside, mark_of}

both : (p q : Bool) → (p && q) ≡ true → (p ≡ true) × (q ≡ true)
both true true h = (refl, refl)
both true false h = cc
both false q h = cc

-- Equal searches have the same key.
pub same_search : (search other : Search) → is_same search other ≡ true → search ≡ other
same_search (Local at n) (Local other m) same =
    let parts = both (at == other) (n == m) same in
    ap (λ (from : ℕ). Local from n) (eqb-true at other parts.0) ∙ ap (Local other) (eqb-true n m parts.1)
same_search (Local at n) (Global name) same = cc
same_search (Global name) (Local at n) same = cc
same_search (Global name) (Global other) same = ap Global ((bytes_eq-Decides name other).0 same)

other_mark : (search other : Search) → mark_of search ≢ mark_of other → is_same search other ≡ false
other_mark search other apart =
    false_from_ne_true (is_same search other) (λ same. apart (ap mark_of (same_search search other same)))

-- An answer is skipped if its search is another one,
module _ (search : Search) (slots : List KeptAnswer) (index : ℕ) (first : KeptAnswer) (inside : index < length slots) where
  pub passed : first ≡ get_or slots index first → is_same search first.search ≡ false
      → answer_of search (drop index slots) ≡ answer_of search (drop (index + 1) slots)
  passed here other =
      ap (answer_of search) (drop_more slots index first inside ∙ ap (λ one. one ∷ drop (index + 1) slots) (sym here))
      ∙ over other
    where
      over : is_same search first.search ≡ false
          → answer_of search (first ∷ drop (index + 1) slots) ≡ answer_of search (drop (index + 1) slots)
      over other = rw other refl

-- or if its key is different.
pub passed_by_mark : (search : Search) (slots : List KeptAnswer) (marks : List ℕ) (index : ℕ) (blank : KeptAnswer) → index < length slots
    → marks ≡ map mark_beside slots → get_or marks index 0 ≢ mark_of search
    → answer_of search (drop index slots) ≡ answer_of search (drop (index + 1) slots)
passed_by_mark search slots marks index blank inside marked apart =
    let first = get_or slots index blank in
    let at_mark : get_or marks index 0 ≡ mark_beside first =
    ap (λ (all : List ℕ). get_or all index 0) marked ∙ get_or-map mark_beside slots index blank 0 inside in
    passed search slots index first inside (get_or_default slots index blank first inside)
    (other_mark search first.search (λ same. apart (at_mark ∙ sym same)))

-- The first answer in two lists is that of the first list if it has one, otherwise that of the second.
taken : (found other : Option KeptAnswer) (answer : Option ℕ) → option_map (λ one. one.answer) found ≡ Some answer
    → option_map (λ one. one.answer) (option_or found other) ≡ Some answer
taken (Some one) other answer is = is
taken None other answer is = cc

left : (found other : Option KeptAnswer) → option_map (λ one. one.answer) found ≡ None
    → option_map (λ one. one.answer) (option_or found other) ≡ option_map (λ one. one.answer) other
left (Some one) other is = cc
left None other is = refl

module _ (search : Search) (front back : List KeptAnswer) where
  pub answer_of-front : (answer : Option ℕ) → answer_of search front ≡ Some answer → answer_of search (front ++ back) ≡ Some answer
  answer_of-front answer is =
      ap (option_map (λ one. one.answer)) (find-append (λ one. is_same search one.search) front back)
      ∙ taken (find (λ one. is_same search one.search) front) (find (λ one. is_same search one.search) back) answer is

  pub answer_of-back : answer_of search front ≡ None → answer_of search (front ++ back) ≡ answer_of search back
  answer_of-back is =
      ap (option_map (λ one. one.answer)) (find-append (λ one. is_same search one.search) front back)
      ∙ left (find (λ one. is_same search one.search) front) (find (λ one. is_same search one.search) back) is
