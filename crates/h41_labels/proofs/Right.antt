-- Cached answers that are what their searches find.
use Rattle.std.proofs.Common.{◌≡◌, ℕ, Bool, true, false, None, Some, refl, sym, subst, arith, List, [], ◌∷◌, drop, length}
use Rattle.std.specs.Prelude.{MatchOption, Option, is_some, nat_lt, if◌then◌else◌, slice_index_or}
use Rattle.std.proofs.lemmas.List.Elements.{All-drop, All-push, All-tail}
use Rattle.h41_labels.specs.KeptAnswers.{Finds, IsRight, KeepsSearch, answer_of, is_same, with_answer}
use Rattle.h41_labels.specs.declared.search.KeptAnswer.{KeptAnswer}
use Rattle.h41_labels.specs.KeptLaws.{RightnessDepends}
use Rattle.h41_labels.specs.declared.search.Search.{Search}
use Rattle.h41_labels.specs.declared.search.Search.TheVariants.{Global, Local}
use Rattle.h41_labels.proofs.Kept.{same_search}
use Rattle.h41_program.specs.Dependence.{AnswersDepend, LocalDepends}
use Rattle.h41_program.specs.Searches.{named_in, position_of}
use Rattle.h41_ram.specs.RamState.{SameProgram}
use Rattle.h41_ram.specs.RegisterMap.{RegisterMap}

-- A cached answer is what its search finds.
pub right_found : (memory : RegisterMap) (search : Search) (kept : List KeptAnswer) (answer : Option ℕ)
    → answer_of search kept ≡ Some answer → IsRight kept memory → Finds memory search answer
right_found memory search [] answer is right = cc
right_found memory search (first ∷ rest) answer is right =
    by_first (λ later. right_found memory search rest answer later (All-tail (λ one. Finds memory one.search one.answer) first rest right))
    (is_same search first.search) refl
  where
    by_first : (answer_of search rest ≡ Some answer → Finds memory search answer) → (test : Bool) → is_same search first.search ≡ test
        → Finds memory search answer
    by_first others true same =
        let here : Some first.answer ≡ Some answer = rw same at is in
        let it : first.answer ≡ answer = cc in
        subst (Finds memory search) it
        (subst (λ (asked : Search). Finds memory asked first.answer) (sym (same_search search first.search same))
        (right 0 first (omega arith)))
    by_first others false other = others (rw other at is)

-- If a search's own answer is appended, all answers stay right.
pub right_put : (memory : RegisterMap) (search : Search) (answer : Option ℕ) (kept : List KeptAnswer)
    → IsRight kept memory → Finds memory search answer → IsRight (with_answer search answer kept) memory
right_put memory search answer kept right finds =
    All-push (λ one. Finds memory one.search one.answer) (left (nat_lt (length kept) 64)) (record { search = search; answer = answer })
    (left_right (nat_lt (length kept) 64)) finds
  where
    left : Bool → List KeptAnswer
    left room = if room then kept else drop 1 kept

    left_right : (room : Bool) → IsRight (left room) memory
    left_right true = right
    left_right false = All-drop (λ one. Finds memory one.search one.answer) 1 kept right

-- After a search all answers are right, whether its answer was cached or not.
pub stays_right : (memory : RegisterMap) (search : Option Search) (old new : List KeptAnswer) → KeepsSearch memory search old new
    → IsRight old memory → IsRight new memory
stays_right memory None old new is right = rw is right
stays_right memory (Some search) old new (answer, answers, is) right =
    rw is (by_known (answer_of search old) answers)
  where
    by_known : (known : Option (Option ℕ)) → MatchOption known (Finds memory search answer) (λ one. answer ≡ one)
        → IsRight (if is_some known then old else with_answer search answer old) memory
    by_known None finds = right_put memory search answer old right finds
    by_known (Some one) same = right

-- What a search finds depends on the program alone.
finds_depend : (memory other : RegisterMap) (search : Search) (answer : Option ℕ) → AnswersDepend (Option ℕ) → LocalDepends
    → SameProgram memory other → Finds memory search answer → Finds other search answer
finds_depend memory other (Local at n) answer lists labels same finds = labels memory other at n answer same finds
finds_depend memory other (Global name) answer lists labels same finds =
    lists memory other (λ lines. position_of (named_in name lines)) 0 answer same finds

pub right_depends : AnswersDepend (Option ℕ) → LocalDepends → RightnessDepends
right_depends lists labels memory other kept same right k d inside =
    let one = slice_index_or kept k d in
    finds_depend memory other one.search one.answer lists labels same (right k d inside)
