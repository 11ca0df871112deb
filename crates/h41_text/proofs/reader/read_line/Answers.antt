use Rattle.std.proofs.Common.{refl}
use Rattle.std.proofs.lemmas.Bool.{false≢true}
use Rattle.h41_text.proofs.OneText.{read_is, read_line_is, other_text, no_text}
use Rattle.h41_text.proofs.reader.read_line.Goals as goal

pub returns-then-has_text-clause-line : goal.returns-then-has_text-clause-line
returns-then-has_text-clause-line c =
    read_line_is c.args.text.now c.in-Some.line c.canon.result (c.if-has_text.ensures.0 refl) c.in-Some.ensures.text c.canon.ensures

pub returns-then-has_text-clause-refused : goal.returns-then-has_text-clause-refused
returns-then-has_text-clause-refused c = (
  λ same. absurd (false≢true same),
  λ none. absurd (none _ (read_is c.args.text.now c.in-Some.line (c.if-has_text.ensures.0 refl) c.in-Some.ensures.text)),
)

pub returns-else-has_text-clause-line : goal.returns-else-has_text-clause-line
returns-else-has_text-clause-line c =
    λ line. (
      λ same. cc,
      λ of. absurd
          (other_text c.args.text.now c.in-Some.line c.in-Some.ensures.line (λ same. false≢true (c.if-has_text.ensures.1 same)) line of),
    )

pub returns-else-has_text-clause-refused : goal.returns-else-has_text-clause-refused
returns-else-has_text-clause-refused c = (
  λ same. other_text c.args.text.now c.in-Some.line c.in-Some.ensures.line (λ same. false≢true (c.if-has_text.ensures.1 same)),
  λ none. refl,
)

pub returns-in-None-clause-line : goal.returns-in-None-clause-line
returns-in-None-clause-line c = λ line. (λ same. cc, λ of. absurd (no_text c.args.text.now c.in-None.ensures.line line of))

pub returns-in-None-clause-refused : goal.returns-in-None-clause-refused
returns-in-None-clause-refused c = (λ same. no_text c.args.text.now c.in-None.ensures.line, λ none. refl)
