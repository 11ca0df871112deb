-- Laws of the byte grammar, and of the shortest spelling.
use Rattle.std.proofs.Common.{◌≡◌, ℕ, ◌<◌, ◌≤◌, List, [], ◌++◌, length, nat_lt, refl, sym, ◌∙◌, ap, arith, subst}
use Rattle.std.proofs.lemmas.Bool.{cond_both, cond-false, ltb-true}
use Rattle.std.proofs.lemmas.List.{append_cancel_left, append-nil}
use Rattle.h41_codes.specs.declared.functions.Branch.{Branch}
use Rattle.h41_codes.specs.declared.functions.Branch.TheVariants.{GoTo, Execute}
use Rattle.h41_codes.specs.declared.functions.ParameterFunction.{ParameterFunction}
use Rattle.h41_codes.specs.declared.functions.ParameterFunction.TheVariants.{Recall, Store, Label}
use Rattle.h41_codes.specs.declared.line.Operand.{Operand}
use Rattle.h41_codes.specs.declared.line.Operand.TheVariants.{Direct}
use Rattle.h41_codes.specs.declared.line.Line.{Line}
use Rattle.h41_codes.specs.declared.line.Line.TheVariants.{Null, Number, WithOperand, ShortGoTo, GlobalLabel, End, FinalEnd, BranchTo}
use Rattle.h41_codes.specs.ByteGrammar.{spelling, IsLine, IsComplete}
use Rattle.h41_codes.specs.ByteLaws.{IsNumber, NoPrefix, CanonicalIsLine, CanonicalIsShortest, CanonicalOnce}
use Rattle.h41_codes.specs.Canon.{canonical_line, shortest_function, shortest_branch}
use Rattle.h41_codes.proofs.Reading.{line_at, line_again}

-- A line that is no number is complete, and so is any line at the end of the bytes.
whole_unless : (line : Line) (rest : List ℕ) → (IsNumber line → ⊥) → IsComplete line rest
whole_unless (Number characters) rest other = absurd (other tt)
whole_unless Null rest other = tt
whole_unless line rest other = tt

whole_end : (line : Line) → IsComplete line []
whole_end (Number characters) = λ on. absurd on
whole_end Null = tt
whole_end line = tt

pub no_prefix : NoPrefix
no_prefix line other rest valid other_valid no_number same =
    let first : line_at (spelling other ++ []) ≡ other = line_again other [] other_valid (whole_end other) in
    let second : line_at (spelling line ++ rest) ≡ line = line_again line rest valid (whole_unless line rest no_number) in
    let one : other ≡ line = sym first ∙ ap line_at (append-nil (spelling other) ∙ same) ∙ second in
    (one, append_cancel_left (spelling line) rest [] (sym same ∙ ap spelling one ∙ sym (append-nil (spelling line))))

-- The canonical line is a line.
function_is_line : (function : ParameterFunction) (operand : Operand) → IsLine (WithOperand function operand)
    → IsLine (shortest_function function operand)
function_is_line Recall (Direct register) valid =
    cond_both (nat_lt register 16) _ _ IsLine (λ short. ltb-true register 16 short) (λ long. valid)
function_is_line Store (Direct register) valid =
    cond_both (nat_lt register 16) _ _ IsLine (λ short. ltb-true register 16 short) (λ long. valid)
function_is_line Label (Direct label) valid =
    cond_both (nat_lt label 15) _ _ IsLine (λ short. ltb-true label 15 short) (λ long. valid)
function_is_line function operand valid = valid

branch_is_line : (branch : Branch) (label : ℕ) → label < 128 → IsLine (shortest_branch branch label)
branch_is_line GoTo label valid =
    cond_both (nat_lt label 15) _ _ IsLine (λ short. (ltb-true label 15 short, omega arith)) (λ long. (omega arith, valid))
branch_is_line Execute label valid = (omega arith, valid)

pub canonical_is_line : CanonicalIsLine
canonical_is_line (WithOperand function operand) valid = function_is_line function operand valid
canonical_is_line (BranchTo branch distance backwards label) valid = branch_is_line branch label valid.1
canonical_is_line (ShortGoTo label distance) valid = (valid.0, omega arith)
canonical_is_line (GlobalLabel link key name) valid = (omega arith, omega arith, valid.2)
canonical_is_line (End link marks) valid = (omega arith, omega arith)
canonical_is_line (FinalEnd link marks) valid = (omega arith, omega arith)
canonical_is_line Null valid = valid
canonical_is_line line valid = valid

-- The canonical line has no more bytes than the line.
function_is_shortest : (function : ParameterFunction) (operand : Operand) → length (spelling (shortest_function function operand)) ≤ 2
function_is_shortest Recall (Direct register) =
    cond_both (nat_lt register 16) _ _ (λ line. length (spelling line) ≤ 2) (λ short. omega arith) (λ long. omega arith)
function_is_shortest Store (Direct register) =
    cond_both (nat_lt register 16) _ _ (λ line. length (spelling line) ≤ 2) (λ short. omega arith) (λ long. omega arith)
function_is_shortest Label (Direct label) =
    cond_both (nat_lt label 15) _ _ (λ line. length (spelling line) ≤ 2) (λ short. omega arith) (λ long. omega arith)
function_is_shortest function operand = omega arith

branch_is_shortest : (branch : Branch) (label : ℕ) → length (spelling (shortest_branch branch label)) ≤ 3
branch_is_shortest GoTo label =
    cond_both (nat_lt label 15) _ _ (λ line. length (spelling line) ≤ 3) (λ short. omega arith) (λ long. omega arith)
branch_is_shortest Execute label = omega arith

canonical_is_no_longer : (line : Line) → length (spelling (canonical_line line)) ≤ length (spelling line)
canonical_is_no_longer (WithOperand function operand) = function_is_shortest function operand
canonical_is_no_longer (BranchTo branch distance backwards label) = branch_is_shortest branch label
canonical_is_no_longer Null = omega arith
canonical_is_no_longer line = omega arith

pub canonical_is_shortest : CanonicalIsShortest
canonical_is_shortest line other same =
    subst (λ shortest. length (spelling shortest) ≤ length (spelling other)) same (canonical_is_no_longer other)

-- The canonical line is its own canonical line.
function_once : (function : ParameterFunction) (operand : Operand)
    → canonical_line (shortest_function function operand) ≡ shortest_function function operand
function_once Recall (Direct register) =
    cond_both (nat_lt register 16) _ _ (λ line. canonical_line line ≡ line) (λ short. refl)
    (λ long. cond-false (nat_lt register 16) _ _ long)
function_once Store (Direct register) =
    cond_both (nat_lt register 16) _ _ (λ line. canonical_line line ≡ line) (λ short. refl)
    (λ long. cond-false (nat_lt register 16) _ _ long)
function_once Label (Direct label) =
    cond_both (nat_lt label 15) _ _ (λ line. canonical_line line ≡ line) (λ short. refl) (λ long. cond-false (nat_lt label 15) _ _ long)
function_once function operand = refl

branch_once : (branch : Branch) (label : ℕ) → canonical_line (shortest_branch branch label) ≡ shortest_branch branch label
branch_once GoTo label =
    cond_both (nat_lt label 15) _ _ (λ line. canonical_line line ≡ line) (λ short. refl) (λ long. cond-false (nat_lt label 15) _ _ long)
branch_once Execute label = refl

pub canonical_once : CanonicalOnce
canonical_once (WithOperand function operand) = function_once function operand
canonical_once (BranchTo branch distance backwards label) = branch_once branch label
canonical_once Null = refl
canonical_once line = refl
