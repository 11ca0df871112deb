-- The label cache as a list of searches with their answers, the oldest first. That answers are
-- cached, and how many, is this project's choice.
use Rattle.std.specs.Prelude.{◌≡◌, ℕ, Bool, false, ◌&&◌, ◌==◌, All, List, [], ◌∷◌, ◌++◌, drop}
use Rattle.std.specs.Prelude.{find, if◌then◌else◌, is_some, length, nat_lt, MatchOption, None}
use Rattle.std.specs.Prelude.{Option, Some}
use Rattle.std.specs.Option.{option_map}
use Rattle.std.specs.Str.{bytes_eq}
use Rattle.h41_labels.specs.declared.search.KeptAnswer.{KeptAnswer}
use Rattle.h41_labels.specs.declared.search.Search.{Search}
use Rattle.h41_labels.specs.declared.search.Search.TheVariants.{Global, Local}
use Rattle.h41_program.specs.ProgramLines.{AnswersOf}
use Rattle.h41_program.specs.Searches.{AnswersLocal, named_in, position_of}
use Rattle.h41_ram.specs.RegisterMap.{RegisterMap}

-- Two searches are the same if they are for the same LBL n from the same byte, or for the same
-- name.
abbrev pub is_same : Search → Search → Bool
is_same (Local at n) (Local other m) = (at == other) && (n == m)
is_same (Local at n) (Global name) = false
is_same (Global name) (Local at n) = false
is_same (Global name) (Global other) = bytes_eq name other

-- The cached answer of a search, if there is one. The answer itself is None if there is no such
-- label.
abbrev pub answer_of : Search → List KeptAnswer → Option (Option ℕ)
answer_of search kept =
    option_map (λ one. one.answer) (find (λ one. is_same search one.search) kept)

-- The most answers that the cache stores.
abbrev pub most_answers : ℕ
most_answers = 64

-- The cache after an answer is appended. If it is full, the oldest answer is dropped.
abbrev pub with_answer : Search → Option ℕ → List KeptAnswer → List KeptAnswer
with_answer search answer kept =
    (if nat_lt (length kept) most_answers then kept else drop 1 kept)
    ++ record { search = search; answer = answer } ∷ []

-- The cache after a search. A cached answer leaves the cache as it is, so its place does not
-- change; the answer of any other search is appended.
abbrev pub after_search : Search → Option ℕ → List KeptAnswer → List KeptAnswer
after_search search answer kept =
    if is_some (answer_of search kept) then kept else with_answer search answer kept

-- What a search finds in program memory, without the cache.
abbrev pub Finds : RegisterMap → Search → Option ℕ → Type 0
Finds memory (Local at n) answer = AnswersLocal memory at n answer
Finds memory (Global name) answer =
    AnswersOf (λ lines. position_of (named_in name lines)) memory 0 answer

-- The answer of a search is the cached one; if there is none, it is what the search finds in
-- memory.
abbrev pub Answers : RegisterMap → List KeptAnswer → Search → Option ℕ → Type 0
Answers memory kept search answer =
    MatchOption (answer_of search kept) (Finds memory search answer) (λ known. answer ≡ known)

-- The cache is right for a memory if each answer is what its search finds in this memory.
abbrev pub IsRight : List KeptAnswer → RegisterMap → Type 0
IsRight kept memory = All (λ one. Finds memory one.search one.answer) kept

-- The cache after an optional search: without a search it is unchanged, otherwise it is the one
-- after that search.
abbrev pub KeepsSearch : RegisterMap → Option Search → (old new : List KeptAnswer) → Type 0
KeepsSearch memory None old new = new ≡ old
KeepsSearch memory (Some search) old new =
    (answer : Option ℕ) × Answers memory old search answer × (new ≡ after_search search answer old)
