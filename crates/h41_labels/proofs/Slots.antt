-- The slots in which the cache stores its answers.
use Rattle.std.proofs.Common.{◌≡◌, ◌+◌, ◌-◌, ◌%◌, ◌<◌, ◌≤◌, ◌⊎◌, ℕ, inl, inr, sym, ap, subst, ◌∙◌, arith, List, [], ◌∷◌, ◌++◌, drop, length}
use Rattle.std.proofs.Common.{map, set, take, append-nil, append_assoc, length-append, length-drop, length-set, take_all}
use Rattle.std.specs.List.{refill}
use Rattle.std.proofs.lemmas.Bool.{cases_eq}
use Rattle.std.proofs.lemmas.List.{drop-append-le, drop-map, drop-set-lt, drop_all, drop_more, length-take, map-set}
use Rattle.std.proofs.lemmas.List.{take-map, take_more_set, take_rest}
use Rattle.std.specs.Prelude.{Option, nat_lt, if◌then◌else◌}
use Rattle.h41_labels.specs.KeptAnswers.{with_answer}
use Rattle.h41_labels.specs.declared.search.KeptAnswer.{KeptAnswer}
use Rattle.h41_labels.specs.declared.search.Search.{Search}
use Rattle.h41_labels.specs.private.Slots.{IsRing, in_turn, mark_beside}

-- A list is replaced as a whole by one of the same length.
pub refilled : {X : Type 0} (xs ws : List X) → length ws ≡ length xs → refill (length xs) xs ws ≡ ws
refilled xs ws same =
    ap (λ rest. take (length xs) (ws ++ rest)) (drop_all (length ws) xs (omega (arith, same))) ∙ ap (take (length xs)) (append-nil ws)
    ∙ take_all (length xs) ws (omega (arith, same))

-- A write through a slice changes one element of the list.
pub in_place : {X : Type 0} (xs ws : List X) (i : ℕ) (y : X) → ws ≡ xs → refill (length xs) xs (set ws i y) ≡ set xs i y
in_place xs ws i y same = ap (λ all. refill (length xs) xs (set all i y)) same ∙ refilled xs (set xs i y) (length-set xs i y)

pub length-in_turn : (oldest : ℕ) (slots : List KeptAnswer) → oldest ≤ length slots → length (in_turn oldest slots) ≡ length slots
length-in_turn oldest slots inside =
    omega (arith, length-append (drop oldest slots) (take oldest slots), length-drop oldest slots, length-take oldest slots)

-- The slot after the oldest answer's is the next one; after the last slot it is the first.
next_slot : (oldest : ℕ) → oldest < 64 → ((oldest < 63) × ((oldest + 1) % 64 ≡ oldest + 1)) ⊎ ((oldest ≡ 63) × ((oldest + 1) % 64 ≡ 0))
next_slot oldest inside =
    elim (cases_eq oldest 63) [
      | inl last ↦ inr (last, omega (arith, last))
      | inr other ↦ inl (omega (arith, other), omega (arith, other))
    ]

-- An answer that replaces the oldest one is the last in order of age.
module _ (slots : List KeptAnswer) (oldest : ℕ) (kept : KeptAnswer) (inside : oldest < length slots) where
  behind : in_turn (oldest + 1) (set slots oldest kept) ≡ drop 1 (in_turn oldest slots) ++ kept ∷ []
  behind =
      ap (λ front. front ++ take (oldest + 1) (set slots oldest kept)) (drop-set-lt (oldest + 1) slots oldest kept (omega arith))
      ∙ ap (λ back. drop (oldest + 1) slots ++ back) (take_more_set slots oldest kept inside)
      ∙ sym (append_assoc (drop (oldest + 1) slots) (take oldest slots) (kept ∷ []))
      ∙ ap (λ front. (front ++ take oldest slots) ++ kept ∷ [])
      (sym (ap (drop 1) (drop_more slots oldest kept inside)))
      ∙ ap (λ all. all ++ kept ∷ [])
      (sym (drop-append-le 1 (drop oldest slots) (take oldest slots) (omega (arith, length-drop oldest slots))))

pub turned : (slots : List KeptAnswer) (oldest : ℕ) (kept : KeptAnswer) → length slots ≡ 64 → oldest < 64
    → in_turn ((oldest + 1) % 64) (set slots oldest kept) ≡ drop 1 (in_turn oldest slots) ++ kept ∷ []
turned slots oldest kept full inside =
    let last = behind slots oldest kept (omega (arith, full, inside)) in
    elim (next_slot oldest inside) [
      | inl onward ↦ ap (λ next. in_turn next (set slots oldest kept)) onward.1 ∙ last
      | inr around ↦ ap (λ next. in_turn next (set slots oldest kept)) around.1 ∙ whole around.0 ∙ last
    ]
  where
    whole : oldest ≡ 63 → in_turn 0 (set slots oldest kept) ≡ in_turn (oldest + 1) (set slots oldest kept)
    whole last =
        append-nil (set slots oldest kept)
        ∙ sym (ap (λ front. front ++ take (oldest + 1) (set slots oldest kept))
        (drop_all (oldest + 1) (set slots oldest kept) (omega (arith, length-set slots oldest kept, full, last)))
        ∙ take_all (oldest + 1) (set slots oldest kept) (omega (arith, length-set slots oldest kept, full, last)))

pub ring_turned : (slots : List KeptAnswer) (marks : List ℕ) (oldest : ℕ) (kept : KeptAnswer) → IsRing slots marks oldest
    → length slots ≡ 64 → IsRing (set slots oldest kept) (set marks oldest (mark_beside kept)) ((oldest + 1) % 64)
ring_turned slots marks oldest kept ring full = record {
  marked = ap (λ all. set all oldest (mark_beside kept)) ring.marked ∙ sym (map-set mark_beside slots oldest kept);
  most = omega (arith, length-set slots oldest kept, full);
  inside = omega arith;
  taken = λ _. length-set slots oldest kept ∙ full;
}

-- Equal slots and keys keep the invariant.
pub same_ring : (slots others : List KeptAnswer) (marks more : List ℕ) (oldest : ℕ) → others ≡ slots → more ≡ marks
    → IsRing slots marks oldest → IsRing others more oldest
same_ring slots others marks more oldest same too ring =
    subst (λ (all : List KeptAnswer). IsRing all more oldest) (sym same)
    (subst (λ (all : List ℕ). IsRing slots all oldest) (sym too) ring)

-- From a full list the oldest answer is dropped.
put_last : (search : Search) (answer : Option ℕ) (kept : List KeptAnswer) → length kept ≡ 64
    → with_answer search answer kept ≡ drop 1 kept ++ record { search = search; answer = answer } ∷ []
put_last search answer kept full =
    ap (λ (size : ℕ). (if nat_lt size 64 then kept else drop 1 kept) ++ record { search = search; answer = answer } ∷ []) full

pub put_in_slot : (search : Search) (answer : Option ℕ) (slots kept : List KeptAnswer) (oldest : ℕ) → length slots ≡ 64 → oldest < 64
    → in_turn oldest slots ≡ kept
    → in_turn ((oldest + 1) % 64) (set slots oldest (record { search = search; answer = answer })) ≡ with_answer search answer kept
put_in_slot search answer slots kept oldest full inside view =
    turned slots oldest (record { search = search; answer = answer }) full inside
    ∙ sym (put_last search answer (in_turn oldest slots) (length-in_turn oldest slots (omega (arith, full, inside)) ∙ full))
    ∙ ap (with_answer search answer) view

-- The keys of the slots from the oldest answer's on, and of those before it.
pub behind_marked : (slots : List KeptAnswer) (marks : List ℕ) (oldest : ℕ) → marks ≡ map mark_beside slots
    → take (length marks - oldest) (drop oldest marks) ≡ map mark_beside (take (length slots - oldest) (drop oldest slots))
behind_marked slots marks oldest marked =
    take_rest marks oldest ∙ ap (drop oldest) marked ∙ drop-map mark_beside oldest slots
    ∙ ap (map mark_beside) (sym (take_rest slots oldest))

pub before_marked : (slots : List KeptAnswer) (marks : List ℕ) (oldest : ℕ) → marks ≡ map mark_beside slots
    → take oldest marks ≡ map mark_beside (take oldest slots)
before_marked slots marks oldest marked = ap (take oldest) marked ∙ take-map mark_beside oldest slots
