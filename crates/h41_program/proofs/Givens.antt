-- The lines of given bytes.
use Rattle.std.proofs.Common.{◌≡◌, ◌≢◌, ℕ, ◌+◌, ◌<◌, ◌≤◌, List, length, drop, get_or, sym, ◌∙◌, ap, subst, arith, Result, Ok}
use Rattle.std.proofs.Common.{Err, rules}
use Rattle.std.proofs.lemmas.List.{take_all, length-drop}
use Rattle.h41_codes.specs.ByteGrammar.{spelling, Begins, AnswersLine}
use Rattle.h41_codes.specs.ByteLaws.{OneLine}
use Rattle.h41_codes.specs.declared.line.Line.{Line}
use Rattle.h41_program.specs.declared.listed_line.ListedLine.{ListedLine}
use Rattle.h41_program.specs.FirstLines.{line_bytes, FirstFrom}
use Rattle.h41_program.specs.GivenLines.{BytesHaveFirst, BytesHaveNone}
use Rattle.h41_program.proofs.FirstLines.{line_bytes-below, line_bytes-at, Passed, stands_there, found_first}
use Rattle.h41_program.proofs.Memory.{ok_line, no_error}
use Rattle.h41_program.proofs.Windows.{begins_count, begins_least}

-- A line may take all bytes from its position on.
pub line_bytes-all : (bytes : List ℕ) (position : ℕ) → position ≤ length bytes
    → line_bytes bytes (length bytes) position ≡ drop position bytes
line_bytes-all bytes position inside = search (rules, line_bytes-below, take_all, length-drop, line_bytes-at)

module _ {E : Type 0} (one : OneLine) (bytes : List ℕ) (at p : ℕ) (from : at ≤ p) (to : p ≤ length bytes)
    (nulls : (k : ℕ) → at ≤ k → k < p → get_or bytes k 0 ≡ 0) (stop : p < length bytes → get_or bytes p 0 ≢ 0)
    (result : Result (Line × ℕ) E) (answer : AnswersLine result (drop p bytes)) where
  passed : Passed bytes (length bytes) at p
  passed = record { from = from; to = to; nulls = nulls; stop = stop; inside = omega arith }

  same : line_bytes bytes (length bytes) p ≡ drop p bytes
  same = line_bytes-all bytes p to

  taken_other : (first : ListedLine) → FirstFrom bytes (length bytes) at first → result ≡ Ok (first.line, length (spelling first.line))
  taken_other first is =
      let here = stands_there one bytes (length bytes) at p passed first is in
      let begins = subst (λ (n : ℕ). Begins (line_bytes bytes (length bytes) n) first.line (length (spelling first.line))) here is.begins in
      (answer first.line (length (spelling first.line))).1
      (subst (λ (rest : List ℕ). Begins rest first.line (length (spelling first.line))) same begins)

  pub taken_first : (line : Line) (size : ℕ) → result ≡ Ok (line, size)
      → BytesHaveFirst bytes at (record { position = p; line = line; behind = p + size })
  taken_first line size is =
      let begins = (answer line size).0 is in
      let taken = subst (λ (rest : List ℕ). Begins rest line size) (sym same) begins in
      let long = begins_count (drop p bytes) line size begins in
      let least = begins_least (drop p bytes) line size begins in
      let inside = begins.inside in
      let before : p < length bytes = omega (arith, least, inside, length-drop p bytes) in
      record {
        first = found_first bytes (length bytes) at p line size passed (stop before) taken;
        one = λ first is_other.
            let here = stands_there one bytes (length bytes) at p passed first is_other in
            let same_line = ok_line first.line line (length (spelling first.line)) size (sym (taken_other first is_other) ∙ is) in
            (λ i. record { position = here i; line = same_line i });
        behind = ap (λ n. p + n) long;
        inside = omega (arith, inside, before, length-drop p bytes);
        onward = omega (arith, least, from);
      }

  pub taken_none : (error : E) → result ≡ Err error → BytesHaveNone bytes at
  taken_none error is first is_first = no_error (first.line, length (spelling first.line)) error (sym (taken_other first is_first) ∙ is)
