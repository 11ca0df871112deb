-- The kinds of lines that program memory treats differently.
use Rattle.std.specs.Prelude.{ℕ, Bool, true, false, List, ◌==◌}
use Rattle.std.specs.Str.{bytes_eq}
use Rattle.h41_codes.specs.declared.line.Line.{Line}
use Rattle.h41_codes.specs.declared.line.Line.TheVariants.{Null, LocalLabel, Number, WithOperand}
use Rattle.h41_codes.specs.declared.line.Line.TheVariants.{GlobalLabel, End, FinalEnd}
use Rattle.h41_codes.specs.declared.functions.ParameterFunction.TheVariants.{Label}
use Rattle.h41_codes.specs.declared.line.Operand.TheVariants.{Direct}

-- .END., the last line of program memory.
abbrev pub is_final_end : Line → Bool
is_final_end (FinalEnd link marks) = true
is_final_end line = false

-- An inner line, which programs can contain, is neither a null nor .END.
abbrev pub is_inner : Line → Bool
is_inner Null = false
is_inner (FinalEnd link marks) = false
is_inner line = true

-- END, the last line of a program. .END. is not.
abbrev pub is_end : Line → Bool
is_end (End link marks) = true
is_end line = false

-- A number.
abbrev pub is_number : Line → Bool
is_number (Number characters) = true
is_number line = false

-- LBL n, in one byte or in two. LBL IND is never found as a label.
abbrev pub is_label : ℕ → Line → Bool
is_label n (LocalLabel label) = label == n
is_label n (WithOperand Label (Direct label)) = label == n
is_label n line = false

-- LBL with this name.
abbrev pub is_named : List ℕ → Line → Bool
is_named name (GlobalLabel link key label) = bytes_eq label name
is_named name line = false
