-- The canonical line has the text of the line.
use Rattle.std.proofs.Common.{◌≡◌, ℕ, ◌<◌, nat_lt, true, false, refl, sym, ap, arith}
use Rattle.std.proofs.lemmas.Bool.{cond_both, cond-true, ltb-true, lt-ltb}
use Rattle.h41_codes.specs.declared.functions.Branch.{Branch}
use Rattle.h41_codes.specs.declared.functions.Branch.TheVariants.{GoTo, Execute}
use Rattle.h41_codes.specs.declared.functions.ParameterFunction.{ParameterFunction}
use Rattle.h41_codes.specs.declared.functions.ParameterFunction.TheVariants.{Recall, Store, Label}
use Rattle.h41_codes.specs.declared.line.Operand.{Operand}
use Rattle.h41_codes.specs.declared.line.Operand.TheVariants.{Direct}
use Rattle.h41_codes.specs.declared.line.Line.TheVariants.{Null, WithOperand, BranchTo}
use Rattle.h41_codes.specs.Canon.{shortest_function, shortest_branch}
use Rattle.h41_lines.specs.Characters.{two_digits}
use Rattle.h41_text.specs.Names.{parameter_function_name, branch_name}
use Rattle.h41_text.specs.LineText.{line_text, parameter_text, ◌&◌}
use Rattle.h41_text.specs.TextLaws.{SameText}

-- The text of a parameter below 100 is two digits.
pub two_digits_of : (number most : ℕ) → most < 101 → nat_lt number most ≡ true → two_digits number ≡ parameter_text number
two_digits_of number most small short =
    let below : number < most = ltb-true number most short in
    sym (cond-true (nat_lt number 100) _ _ (lt-ltb number 100 (omega arith)))

function_text : (function : ParameterFunction) (operand : Operand)
    → line_text (shortest_function function operand) ≡ line_text (WithOperand function operand)
function_text Recall (Direct register) =
    cond_both (nat_lt register 16) _ _ (λ line. line_text line ≡ line_text (WithOperand Recall (Direct register)))
    (λ short. ap (λ text. parameter_function_name Recall & text) (two_digits_of register 16 (omega arith) short)) (λ long. refl)
function_text Store (Direct register) =
    cond_both (nat_lt register 16) _ _ (λ line. line_text line ≡ line_text (WithOperand Store (Direct register)))
    (λ short. ap (λ text. parameter_function_name Store & text) (two_digits_of register 16 (omega arith) short)) (λ long. refl)
function_text Label (Direct label) =
    cond_both (nat_lt label 15) _ _ (λ line. line_text line ≡ line_text (WithOperand Label (Direct label)))
    (λ short. ap (λ text. parameter_function_name Label & text) (two_digits_of label 15 (omega arith) short)) (λ long. refl)
function_text function operand = refl

branch_text : (branch : Branch) (label : ℕ) → line_text (shortest_branch branch label) ≡ line_text (BranchTo branch 0 false label)
branch_text GoTo label =
    cond_both (nat_lt label 15) _ _ (λ line. line_text line ≡ line_text (BranchTo GoTo 0 false label))
    (λ short. ap (λ text. branch_name GoTo & text) (two_digits_of label 15 (omega arith) short)) (λ long. refl)
branch_text Execute label = refl

pub same_text : SameText
same_text (WithOperand function operand) = function_text function operand
same_text (BranchTo branch distance backwards label) = branch_text branch label
same_text Null = refl
same_text line = refl
