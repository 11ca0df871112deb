-- How the replies of a deck follow one another.
use Rattle.std.proofs.Common.{inl, inr, ◌≡◌, ℕ, ◌+◌, true, false, ◌||◌, if◌then◌else◌, Option, Some, None, is_some, List, [], ◌∷◌, ◌++◌}
use Rattle.std.proofs.Common.{flat_map, length, take, Err, refl, sym, ap, subst, append_assoc, arith, ◌∙◌}
use Rattle.std.specs.List.{list_any}
use Rattle.std.specs.Io.KnownBytes.{Appends, Keeps}
use Rattle.std.proofs.KnownBytes.{Appends-kept, Appends-nil, Appends-trans}
use Rattle.std.proofs.Math.Seq.{take-append-add}
use Rattle.std.proofs.lemmas.List.{append-nil, take_all}
use Rattle.std.proofs.lemmas.Grind.{flat_map-append}
use Rattle.h41_refusals.specs.declared.fault.CommandFault.{CommandFault}
use Rattle.h41_refusals.specs.declared.fault.CommandFault.TheVariants as command
use Rattle.h41_refusals.specs.declared.fault.Fault.TheVariants.{OutOfMemory, ReadFault, WriteFault}
use Rattle.h41_deck.specs.declared.replies.Outcome.{Outcome}
use Rattle.h41_deck.specs.declared.replies.Outcome.TheVariants.{Accepted, Refused}
use Rattle.h41_commands.specs.Items.{Spelled, commands}
use Rattle.h41_debug.specs.Bench.{BenchState, start}
use Rattle.h41_lines.specs.Lines.{lines}
use Rattle.h41_deck.specs.private.AnsweredItems.{outcome_and}
use Rattle.h41_deck.specs.Answers.{Answer, printed_text}
use Rattle.h41_deck.specs.Deck.{AnswersInTurn, FirstReplies, LeavesOf, MayBeRefused, commands_ended, outcome_of}
use Rattle.h41_deck.specs.Replies.{item_takes_memory}
use Rattle.h41_refusals.specs.Faults.{of_command}
use Rattle.h41_deck.specs.private.Writing.{Leaves, Replies, RepliesInPart, outcome_in}

-- What is known of a deck so far: its answers to the items that are done, which are written and which determine the outcome, and that they
-- continue, from the state now, with the answers to further items.
pub record Told (registers : ℕ) (old new : Option (List ℕ)) (done : List Spelled) (s : BenchState) (outcome : Outcome) : Type 0 where
  pub answers : List Answer
  pub written : Appends old new (flat_map printed_text answers)
  pub outcome_is : outcome ≡ outcome_of answers
  pub goes_on : (items : List Spelled) (more : List Answer) → AnswersInTurn items s more
      → AnswersInTurn (done ++ items) (start registers) (answers ++ more)

pub told_none : (registers : ℕ) (old : Option (List ℕ)) → Told registers old old [] (start registers) Accepted
told_none registers old = record {
  answers = [];
  written = Appends-nil old;
  outcome_is = refl;
  goes_on = λ items more rest. rest;
}

pub told_kept : {registers : ℕ} (old mid new : Option (List ℕ)) (done : List Spelled) (s : BenchState) (outcome : Outcome)
    → Told registers old mid done s outcome → Keeps mid new → Told registers old new done s outcome
told_kept old mid new done s outcome told kept = record {
  answers = told.answers;
  written = Appends-kept old mid new (flat_map printed_text told.answers) told.written kept;
  outcome_is = told.outcome_is;
  goes_on = told.goes_on;
}

-- The outcome of the answers with one more.
outcome_of-push : (answers : List Answer) (answer : Answer)
    → outcome_of (answers ++ answer ∷ []) ≡ outcome_and (outcome_of answers) (outcome_in answer.refusal)
outcome_of-push [] answer = elim answer.refusal as
    (λ refusal. (if is_some refusal || false then Refused else Accepted) ≡ outcome_in refusal) [
      | None ↦ refl
      | Some why ↦ refl
    ]
outcome_of-push (first ∷ answers) answer =
    elim (is_some first.refusal) as
    (λ refused. (if refused || list_any (λ each. is_some each.refusal) (answers ++ answer ∷ []) then Refused else Accepted)
    ≡ outcome_and (if refused || list_any (λ each. is_some each.refusal) answers then Refused else Accepted) (outcome_in answer.refusal))
    [ true ↦ refl | false ↦ outcome_of-push answers answer ]

pub told_more : {registers : ℕ} (old mid new : Option (List ℕ)) (done : List Spelled) (s t : BenchState) (outcome next : Outcome)
    (item : Spelled) → Told registers old mid done s outcome → Replies item s t mid new next
    → Told registers old new (done ++ item ∷ []) t (outcome_and outcome next)
told_more {registers} old mid new done s t outcome next item told replied = record {
  answers = told.answers ++ replied.answer ∷ [];
  written =
      subst (Appends old new) (sym (flat_map-append printed_text told.answers (replied.answer ∷ [])
      ∙ ap (λ text. flat_map printed_text told.answers ++ text) (append-nil (printed_text replied.answer))))
      (Appends-trans old mid new (flat_map printed_text told.answers) (printed_text replied.answer) told.written replied.written);
  outcome_is = rw (told.outcome_is, replied.outcome_is) (sym (outcome_of-push told.answers replied.answer));
  goes_on =
      λ items more later. subst (λ (of : List Spelled). AnswersInTurn of (start registers) ((told.answers ++ replied.answer ∷ []) ++ more))
      (sym (append_assoc done (item ∷ []) items))
      (subst (AnswersInTurn (done ++ item ∷ items) (start registers)) (sym (append_assoc told.answers (replied.answer ∷ []) more))
      (told.goes_on (item ∷ items) (replied.answer ∷ more) (t, replied.reply, later)));
}

-- What is written so far are the replies to the first commands.
module _ {registers : ℕ} (old new : Option (List ℕ)) (done : List Spelled) (s : BenchState) (outcome : Outcome)
    (told : Told registers old new done s outcome) where
  pub done_answered : AnswersInTurn done (start registers) told.answers
  done_answered = subst (λ (items : List Spelled). AnswersInTurn items (start registers) told.answers) (append-nil done)
      (subst (AnswersInTurn (done ++ []) (start registers)) (append-nil told.answers) (told.goes_on [] [] tt))

  abbrev first_replies : (all rest : List Spelled) → all ≡ done ++ rest → FirstReplies registers all (flat_map printed_text told.answers)
  first_replies all rest begins =
      record { first = done; rest = rest; begins = begins; answers = told.answers; answered = done_answered; text_is = refl }

  -- An error of allocation, of reading, and of writing after everything was written.
  pub leaves_all : (bytes : List ℕ) (rest : List Spelled) → commands (lines bytes) ≡ done ++ rest → MayBeRefused bytes done rest
      → LeavesOf registers OutOfMemory old new bytes
  leaves_all bytes rest begins may =
      (flat_map printed_text told.answers, (first_replies (commands (lines bytes)) rest begins, may), told.written)

  pub leaves_ended : (bytes : List ℕ) (rest : List Spelled) → commands (lines bytes) ≡ done ++ rest → commands_ended bytes ≡ done
      → LeavesOf registers ReadFault old new bytes
  leaves_ended bytes rest begins ended =
      let text = flat_map printed_text told.answers in (
        text,
        first_replies (commands (lines bytes)) rest begins,
        (
          told.answers,
          subst (λ (items : List Spelled). AnswersInTurn items (start registers) told.answers) (sym ended) done_answered,
          refl,
        ),
        told.written,
      )

  pub leaves_unpassed : (bytes : List ℕ) (rest : List Spelled) → commands (lines bytes) ≡ done ++ rest
      → LeavesOf registers WriteFault old new bytes
  leaves_unpassed bytes rest begins =
      let text = flat_map printed_text told.answers in (
        text,
        first_replies (commands (lines bytes)) rest begins,
        length text,
        subst (Appends old new) (sym (take_all (length text) text (omega arith))) told.written,
      )

-- The next reply is written in part.
pub leaves_part : {registers : ℕ} (old mid new : Option (List ℕ)) (done rest : List Spelled) (s t : BenchState) (outcome : Outcome)
    (item : Spelled) (bytes : List ℕ) → Told registers old mid done s outcome → commands (lines bytes) ≡ (done ++ item ∷ []) ++ rest
    → RepliesInPart item s t mid new → LeavesOf registers WriteFault old new bytes
leaves_part old mid new done rest s t outcome item bytes told begins part =
    let next = part.printed_until.0 in
    let before = flat_map printed_text told.answers in
    let texts : flat_map printed_text (told.answers ++ next ∷ []) ≡ before ++ part.text =
    flat_map-append printed_text told.answers (next ∷ [])
    ∙ ap (λ text. before ++ text) (append-nil (printed_text next) ∙ sym part.printed_until.2) in (
      before ++ part.text,
      record {
        first = done ++ item ∷ [];
        rest = rest;
        begins = begins;
        answers = told.answers ++ next ∷ [];
        answered = told.goes_on (item ∷ []) (next ∷ []) (t, part.printed_until.1, tt);
        text_is = sym texts;
      },
      length before + part.written.0,
      subst (Appends old new) (sym (take-append-add before part.text part.written.0))
          (Appends-trans old mid new before (take part.written.0 part.text) told.written part.written.2),
    )

-- The deck ends with an error at the next item.
pub leaves_at : {W : Type 0} {registers : ℕ} (contents : W → Option (List ℕ)) (old before after : W) (done rest : List Spelled)
    (s t : BenchState) (outcome : Outcome) (item : Spelled) (bytes : List ℕ) (fault : CommandFault)
    → Told registers (contents old) (contents before) done s outcome
    → commands (lines bytes) ≡ (done ++ item ∷ []) ++ rest → Leaves (Err fault) item s t contents before after
    → (fault ≡ command.OutOfMemory → item_takes_memory item ≡ true)
    → LeavesOf registers (of_command fault) (contents old) (contents after) bytes
leaves_at contents old before after done rest s t outcome item bytes command.OutOfMemory told begins kept memory =
    leaves_all _ _ done s outcome (told_kept _ _ _ done s outcome told kept) bytes (item ∷ rest)
    (begins ∙ append_assoc done (item ∷ []) rest) (inr (inl (memory refl)))
leaves_at contents old before after done rest s t outcome item bytes command.WriteFault told begins part memory =
    leaves_part _ _ _ done rest s t outcome item bytes told begins part
