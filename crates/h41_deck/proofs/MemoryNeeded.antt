-- Why allocation fails only at a command that needs memory.
use Rattle.std.proofs.Common.{inl, inr, ◌≡◌, ℕ, Bool, true, false, if◌then◌else◌, List, [], ◌∷◌, ◌++◌, flat_map, refl, sym, ap, subst, ◌∙◌}
use Rattle.std.proofs.lemmas.Bool.{false≢true, or_parts}
use Rattle.std.proofs.lemmas.List.Folds.{list_any-append}
use Rattle.std.specs.List.{list_any}
use Rattle.h41_commands.specs.Commands.{is_opening}
use Rattle.h41_commands.specs.DeckLines.{is_long, is_skipped}
use Rattle.h41_commands.specs.Items.{Spelled, commands, opens_first}
use Rattle.h41_debug.specs.Bench.{BenchState, start}
use Rattle.h41_lines.specs.Lines.{lines}
use Rattle.h41_lines.specs.Words.{words_of}
use Rattle.h41_deck.specs.Answers.{Answer, printed_text}
use Rattle.h41_deck.specs.Deck.{AnswersInTurn, next_takes_memory}
use Rattle.h41_deck.specs.MemoryLaws.{MemoryIsNeeded, opens}
use Rattle.h41_deck.specs.Replies.{item_takes_memory}

-- A property that no element has is a property of none of the last elements.
none_later : {A : Type 0} (p : A → Bool) (all first rest : List A) → all ≡ first ++ rest → list_any p all ≡ false → list_any p rest ≡ false
none_later p all first rest is none = (or_parts _ _ (sym (list_any-append p first rest) ∙ ap (list_any p) (sym is) ∙ none)).1

never_next : (items : List Spelled) → list_any item_takes_memory items ≡ false → next_takes_memory items ≡ false
never_next [] none = refl
never_next (item ∷ items) none = (or_parts (item_takes_memory item) (list_any item_takes_memory items) none).0

opens_step : (long skipped opening first : Bool) → first ≡ false
    → (if long then false else (if skipped then false else opening)) ≡ false
    → (if long then false else (if skipped then first else opening)) ≡ false
opens_step true skipped opening first none e = e
opens_step false true opening first none e = none
opens_step false false opening first none e = e

never_opens : (left : List (List ℕ)) → list_any opens left ≡ false → opens_first left ≡ false
never_opens [] none = refl
never_opens (line ∷ left) none =
    let parts = or_parts (opens line) (list_any opens left) none in
    opens_step (is_long line) (is_skipped line) (is_opening (words_of line)) (opens_first left) (never_opens left parts.1) parts.0

none_answered : (s : BenchState) (answers : List Answer) → AnswersInTurn [] s answers → answers ≡ []
none_answered s [] answered = refl
none_answered s (answer ∷ answers) answered = absurd answered

none_first : (first rest : List Spelled) → first ++ rest ≡ [] → first ≡ []
none_first [] rest none = refl
none_first (item ∷ first) rest none = cc

pub memory_needed : MemoryIsNeeded
memory_needed registers deck text memory takes lines_open = elim memory.1 [
  | inl unread ↦
      let none : memory.0.first ≡ [] = none_first memory.0.first memory.0.rest
      (sym memory.0.begins ∙ ap (λ (bytes : List ℕ). commands (lines bytes)) unread) in
      let answered = subst (λ (items : List Spelled). AnswersInTurn items (start registers) memory.0.answers) none memory.0.answered in
      (unread, memory.0.text_is ∙ ap (flat_map printed_text) (none_answered (start registers) memory.0.answers answered))
  | inr (inl next) ↦
      let never = never_next memory.0.rest (none_later item_takes_memory _ memory.0.first memory.0.rest memory.0.begins takes) in
      absurd (false≢true (sym never ∙ next))
  | inr (inr block) ↦
      let never = never_opens block.0 (none_later opens _ block.1.taken block.0 block.1.whole lines_open) in
      absurd (false≢true (sym never ∙ block.2))
]
