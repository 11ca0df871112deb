-- What decks print.
use Rattle.h41_laws_calculator.proofs.Chosen.{one_made}
use Rattle.std.proofs.Common.{◌≡◌, List, [], ◌∷◌, flat_map, Ok, Err, refl, ap}
use Rattle.h41_commands.specs.Items.{Spelled, commands}
use Rattle.h41_debug.specs.Bench.{BenchState, start}
use Rattle.h41_deck.specs.Answers.{Answer, printed_text}
use Rattle.h41_deck.specs.Deck.{AnswersDeck, AnswersInTurn, outcome_of}
use Rattle.h41_deck.specs.Replies.{ItemReply}
use Rattle.h41_lines.specs.Lines.{lines}
use Rattle.h41_laws_words.specs.HasOne.{HasOne}
use Rattle.h41_laws_decks.specs.DeckAnswers.{ReplyHasOneAnswer}
use Rattle.h41_laws_decks.specs.DeckTexts.{AnswersHaveOneList, DeckHasOneText, ItemRestsOn}
use Rattle.h41_laws_decks.proofs.Replied.{both_given}

module _ (replies : ReplyHasOneAnswer) where
  item_reply : (item : Spelled) (s : BenchState) → ItemRestsOn item s
      → HasOne {A = BenchState × Answer} (λ left. ItemReply item s left.0 left.1)
  item_reply (Ok given) s rests = replies given.0 given.1 s rests
  item_reply (Err refusal) s rests = both_given _ _

  only_list : (item : Spelled) (items : List Spelled) (s : BenchState)
      (reply : HasOne {A = BenchState × Answer} (λ left. ItemReply item s left.0 left.1))
      (rest : HasOne (AnswersInTurn items reply.answer.0)) (other : List Answer)
      → AnswersInTurn (item ∷ items) s other → other ≡ reply.answer.1 ∷ rest.answer
  only_list item items s reply rest [] is = absurd is
  only_list item items s reply rest (answer ∷ answers) is =
      let same = reply.only (is.0, answer) is.1 in
      let state = ap (λ (left : BenchState × Answer). left.0) same in
      let first = ap (λ (left : BenchState × Answer). left.1) same in
      let more = rest.only answers (rw (← state) is.2) in cc

  only_none : (s : BenchState) (other : List Answer) → AnswersInTurn [] s other → other ≡ []
  only_none s [] is = refl
  only_none s (answer ∷ answers) is = absurd is

  pub one_list : AnswersHaveOneList
  one_list [] s rests = record { answer = []; right = tt; only = only_none s }
  one_list (item ∷ items) s rests =
      let reply = item_reply item s rests.0 in
      let rest = one_list items reply.answer.0 (rests.1 reply.answer.0 reply.answer.1 reply.right) in
      record {
        answer = reply.answer.1 ∷ rest.answer;
        right = (reply.answer.0, reply.right, rest.right);
        only = only_list item items s reply rest;
      }

  pub one_text : DeckHasOneText
  one_text registers deck bound rests =
      let all = one_list (commands (lines deck)) (start registers) rests in
      let answers : HasOne (AnswersDeck registers deck) = record {
        answer = all.answer;
        right = record { bound = bound; answered = all.right };
        only = λ other is. all.only other is.answered;
      } in
      (one_made (flat_map printed_text) answers, one_made outcome_of answers)
