-- A text is read as one canonical line at most.
use Rattle.std.proofs.Common.{◌≡◌, ℕ, ◌<◌, List, Some, None, Ok, Result, refl, sym, ◌∙◌, ap, subst, arith}
use Rattle.std.specs.Prelude.{◌↔◌, nat_lt}
use Rattle.std.specs.Option.{option_map}
use Rattle.std.proofs.lemmas.Bool.{cond_both, cond-false, ltb-true}
use Rattle.std.proofs.lemmas.Option.{none-some, same_Some}
use Rattle.h41_codes.specs.declared.functions.Branch.{Branch}
use Rattle.h41_codes.specs.declared.functions.Branch.TheVariants.{GoTo, Execute}
use Rattle.h41_codes.specs.declared.functions.ParameterFunction.{ParameterFunction}
use Rattle.h41_codes.specs.declared.functions.ParameterFunction.TheVariants.{Recall, Store, Label}
use Rattle.h41_codes.specs.declared.line.Operand.{Operand}
use Rattle.h41_codes.specs.declared.line.Operand.TheVariants.{Direct}
use Rattle.h41_codes.specs.declared.line.Line.{Line}
use Rattle.h41_codes.specs.declared.line.Line.TheVariants.{Null, WithOperand, ShortGoTo, GlobalLabel, End, FinalEnd, BranchTo}
use Rattle.h41_codes.specs.ByteGrammar.{IsOperand}
use Rattle.h41_codes.specs.ByteLaws.{CanonicalIsShortest}
use Rattle.h41_codes.specs.Canon.{canonical_line, shortest_function, shortest_branch}
use Rattle.h41_text.specs.LineText.{line_text}
use Rattle.h41_text.specs.LineReading.{HasText, IsTextOf}
use Rattle.h41_text.specs.TextLaws.{LineTextRoundTrip, OneLineOfText, CanonicalIsShortestOfText}
use Rattle.h41_text.specs.private.TextParts.{candidate_line}
use Rattle.h41_text.proofs.Canonical.{same_text}
use Rattle.h41_text.proofs.Reading.{reading_again}

-- A line that has a text and is its own canonical line.
IsRead : Line → Type 0
IsRead line = HasText line × (canonical_line line ≡ line)

function_read : (function : ParameterFunction) (operand : Operand) → IsOperand operand → IsRead (shortest_function function operand)
unfolding IsRead
function_read Recall (Direct register) inside =
    cond_both (nat_lt register 16) _ _ IsRead (λ short. (record { valid = ltb-true register 16 short; shown = λ same. cc }, refl))
    (λ long. (record { valid = inside; shown = λ same. cc }, cond-false (nat_lt register 16) _ _ long))
function_read Store (Direct register) inside =
    cond_both (nat_lt register 16) _ _ IsRead (λ short. (record { valid = ltb-true register 16 short; shown = λ same. cc }, refl))
    (λ long. (record { valid = inside; shown = λ same. cc }, cond-false (nat_lt register 16) _ _ long))
function_read Label (Direct label) inside =
    cond_both (nat_lt label 15) _ _ IsRead (λ short. (record { valid = ltb-true label 15 short; shown = λ same. cc }, refl))
    (λ long. (record { valid = inside; shown = λ same. cc }, cond-false (nat_lt label 15) _ _ long))
function_read function operand inside = (record { valid = inside; shown = λ same. cc }, refl)

branch_read : (branch : Branch) (label : ℕ) → label < 128 → IsRead (shortest_branch branch label)
unfolding IsRead
branch_read GoTo label inside =
    cond_both (nat_lt label 15) _ _ IsRead (λ short. (record { valid = (ltb-true label 15 short, omega arith); shown = λ same. cc }, refl))
    (λ long. (record { valid = (omega arith, inside); shown = λ same. cc }, cond-false (nat_lt label 15) _ _ long))
branch_read Execute label inside = (record { valid = (omega arith, inside); shown = λ same. cc }, refl)

canonical_read : (line : Line) → HasText line → IsRead (canonical_line line)
unfolding IsRead
canonical_read (WithOperand function operand) has = function_read function operand has.valid
canonical_read (BranchTo branch distance backwards label) has = branch_read branch label has.valid.1
canonical_read (ShortGoTo label distance) has = (record { valid = (has.valid.0, omega arith); shown = λ same. cc }, refl)
canonical_read (GlobalLabel link key name) has =
    (record { valid = (omega arith, omega arith, has.valid.2); shown = λ same. cc }, refl)
canonical_read (End link marks) has = (record { valid = (omega arith, omega arith); shown = λ same. cc }, refl)
canonical_read (FinalEnd link marks) has = (record { valid = (omega arith, omega arith); shown = λ same. cc }, refl)
canonical_read Null has = absurd (has.shown refl)
canonical_read line has = (has, refl)

-- The text of a line is read as its canonical line.
pub round_trip : LineTextRoundTrip
unfolding IsRead
round_trip line has =
    let read = canonical_read line has in
    record { has = read.0; shortest = read.1; same = same_text line }

-- The line as which the text of a line is read.
read_of : (text : List ℕ) (line : Line) → IsTextOf text line → option_map canonical_line (candidate_line text) ≡ Some line
read_of text line of =
    ap (λ t. option_map canonical_line (candidate_line t)) (sym of.same) ∙ reading_again line of.has ∙ ap Some of.shortest

pub one_line : OneLineOfText
one_line text line other of also = same_Some line other (sym (read_of text line of) ∙ read_of text other also)

-- Lines with the same text have the same canonical line, which is the shortest.
pub shortest_of_text : CanonicalIsShortest → CanonicalIsShortestOfText
shortest_of_text shortest line other has also same =
    let own = round_trip line has in
    let others = subst (λ (text : List ℕ). IsTextOf text (canonical_line other)) (sym same) (round_trip other also) in
    shortest line other (one_line (line_text line) (canonical_line other) (canonical_line line) others own)

-- A line that has the text.
pub read_is : (text : List ℕ) (line : Line) → line_text line ≡ text → HasText line → IsTextOf text (canonical_line line)
read_is text line same has = subst (λ (t : List ℕ). IsTextOf t (canonical_line line)) same (round_trip line has)

pub read_line_is : {E : Type 0} (text : List ℕ) (line read : Line) → line_text line ≡ text → HasText line → read ≡ canonical_line line
    → (other : Line) → (◌≡◌ {A = Result Line E} (Ok read) (Ok other)) ↔ IsTextOf text other
read_line_is text line read same has is other =
    let of = read_is text line same has in (
      λ equal. let e : canonical_line line ≡ other = cc in subst (λ (l : Line). IsTextOf text l) e of,
      λ also. ap Ok (is ∙ one_line text (canonical_line line) other of also),
    )

-- If the only line that can have a text has another text, no line has it.
pub other_text : (text : List ℕ) (line : Line) → Some line ≡ candidate_line text → (line_text line ≡ text → ⊥) → (other : Line)
    → IsTextOf text other → ⊥
other_text text line found differs other of =
    let read : Some (canonical_line line) ≡ Some other = ap (option_map canonical_line) found ∙ read_of text other of in
    differs (sym (same_text line) ∙ ap line_text (same_Some (canonical_line line) other read) ∙ of.same)

pub no_text : (text : List ℕ) → None ≡ candidate_line text → (other : Line) → IsTextOf text other → ⊥
no_text text none other of = none-some other (ap (option_map canonical_line) none ∙ read_of text other of)
