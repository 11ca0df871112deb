-- The bytes of a line determine it: reading them by their first byte gives the line again, whatever follows.
use Rattle.std.proofs.Common.{◌≡◌, ℕ, zero, suc, ◌+◌, ◌-◌, ◌*◌, ◌/◌, ◌%◌, ◌<◌, ◌≤◌, Bool, true, false, ◌&&◌, ◌==◌, List, [], ◌∷◌, ◌++◌, map}
use Rattle.std.proofs.Common.{length, take, drop, get_or, leb, if◌then◌else◌, refl, ◌∙◌, ap, arith, inl, inr}
use Rattle.std.proofs.lemmas.Bool.{le-leb, lt-leb, cond-true, cond-false, eq-eqb, ne_eqb}
use Rattle.std.proofs.lemmas.Bool.Decides.{leb_tells}
use Rattle.std.proofs.lemmas.List.{take_at}
use Rattle.h41_codes.specs.declared.characters.Character.{Character}
use Rattle.h41_codes.specs.declared.characters.Character.TheVariants.{Zero}
use Rattle.h41_codes.specs.declared.functions.Branch.{Branch}
use Rattle.h41_codes.specs.declared.functions.Branch.TheVariants.{GoTo, Execute}
use Rattle.h41_codes.specs.declared.functions.NameFunction.{NameFunction}
use Rattle.h41_codes.specs.declared.functions.NameFunction.TheVariants.{GoToName, ExecuteName, Wordless}
use Rattle.h41_codes.specs.declared.functions.ParameterFunction.{ParameterFunction}
use Rattle.h41_codes.specs.declared.functions.ParameterFunction.TheVariants.{Recall}
use Rattle.h41_codes.specs.declared.functions.RegisterFunction.{RegisterFunction}
use Rattle.h41_codes.specs.declared.functions.RegisterFunction.TheVariants.{RecallRegister, StoreRegister}
use Rattle.h41_codes.specs.declared.line.Operand.{Operand}
use Rattle.h41_codes.specs.declared.line.Operand.TheVariants.{Direct, Indirect}
use Rattle.h41_codes.specs.declared.line.Line.{Line}
use Rattle.h41_codes.specs.declared.line.Line.TheVariants.{Null, LocalLabel, Number, Named, Register, Plain, WithOperand, Module}
use Rattle.h41_codes.specs.declared.line.Line.TheVariants.{BranchIndirect, ShortGoTo, GlobalLabel, End, FinalEnd, BranchTo, Text}
use Rattle.h41_codes.specs.Codes.{parameter_function_code, register_function_code, name_function_code, character_code, branch_code}
use Rattle.h41_codes.specs.ByteGrammar.{spelling, operand_byte, indirect_byte, mark_bits, label_byte, IsLine, IsOperand, IsComplete, GoesOn}
use Rattle.h41_codes.proofs.Intervals.{edges, kind, is_interval, kind_at}
use Rattle.h41_codes.proofs.Tables.{function_at, function_again, function_range, parameter_function_at, parameter_function_again}
use Rattle.h41_codes.proofs.Tables.{character_at, character_again, character_range}

-- The byte at an index.
abbrev pub byte : List ℕ → ℕ → ℕ
byte bytes k = get_or bytes k 0

-- The characters of a number, at most this many.
abbrev pub is_number : ℕ → Bool
is_number code = leb 0x10 code && leb code 0x1C

abbrev pub leading : ℕ → List ℕ → List Character
leading zero bytes = []
leading (suc n) [] = []
leading (suc n) (code ∷ bytes) = if is_number code then character_at code ∷ leading n bytes else []

-- The parts of each kind of line, read from its bytes.
abbrev pub name_function_at : ℕ → NameFunction
name_function_at code = get_or (GoToName ∷ ExecuteName ∷ Wordless ∷ []) (code - 0x1D) GoToName

abbrev pub operand_at : ℕ → Operand
operand_at code = if leb 0x80 code then Indirect (code - 0x80) else Direct code

abbrev pub register_line : ℕ → Line
register_line code = if leb 0x30 code then Register StoreRegister (code - 0x30) else Register RecallRegister (code - 0x20)

abbrev pub operand_line : List ℕ → Line
operand_line bytes = WithOperand (parameter_function_at (byte bytes 0)) (operand_at (byte bytes 1))

abbrev pub indirect_line : ℕ → Line
indirect_line code = if leb 0x80 code then BranchIndirect Execute (code - 0x80) else BranchIndirect GoTo code

abbrev pub marks_of : ℕ → ℕ
marks_of code = code / 64 * 32 + code % 32

abbrev pub end_line : ℕ → ℕ → Line
end_line link code = if code / 32 % 2 == 0 then End link (marks_of code) else FinalEnd link (marks_of code)

abbrev pub link_of : List ℕ → ℕ
link_of bytes = (byte bytes 0 - 0xC0) * 256 + byte bytes 1

abbrev pub linked_line : List ℕ → Line
linked_line bytes =
    if leb 0xF0 (byte bytes 2) then GlobalLabel (link_of bytes) (byte bytes 3) (take (byte bytes 2 - 0xF1) (drop 4 bytes))
    else end_line (link_of bytes) (byte bytes 2)

abbrev pub branch_at : ℕ → Branch
branch_at code = if leb 0xE0 code then Execute else GoTo

abbrev pub backwards_at : ℕ → Bool
backwards_at code = leb 0x80 code

abbrev pub branch_line : List ℕ → Line
branch_line bytes =
    BranchTo (branch_at (byte bytes 0)) (byte bytes 0 % 16 * 256 + byte bytes 1) (backwards_at (byte bytes 2)) (byte bytes 2 % 0x80)

-- The lines of the kinds, in the order of the kinds.
abbrev pub lines : List (List ℕ → Line)
lines =
    (λ bytes. Null)
    ∷ (λ bytes. LocalLabel (byte bytes 0 - 1))
    ∷ (λ bytes. Number (leading 16 bytes))
    ∷ (λ bytes. Named (name_function_at (byte bytes 0)) (take (byte bytes 1 - 0xF0) (drop 2 bytes)))
    ∷ (λ bytes. register_line (byte bytes 0))
    ∷ (λ bytes. Plain (function_at (byte bytes 0)))
    ∷ (λ bytes. operand_line bytes)
    ∷ (λ bytes. Module ((byte bytes 0 - 0xA0) * 4 + byte bytes 1 / 64) (byte bytes 1 % 64))
    ∷ (λ bytes. operand_line bytes)
    ∷ (λ bytes. indirect_line (byte bytes 1))
    ∷ (λ bytes. Null)
    ∷ (λ bytes. ShortGoTo (byte bytes 0 - 0xB1) (byte bytes 1))
    ∷ (λ bytes. linked_line bytes)
    ∷ (λ bytes. operand_line bytes)
    ∷ (λ bytes. branch_line bytes)
    ∷ (λ bytes. Text (take (byte bytes 0 - 0xF0) (drop 1 bytes)))
    ∷ []

abbrev pub line_of_kind : ℕ → List ℕ → Line
line_of_kind k bytes = get_or lines k (λ (_ : List ℕ). Null) bytes

unfoldable pub line_at : List ℕ → Line
line_at bytes = line_of_kind (kind (byte bytes 0)) bytes

-- The line of bytes whose first byte is of a kind.
by_kind : (k low high : ℕ) (bytes : List ℕ) (line : Line) → is_interval edges k low high ≡ true → low ≤ byte bytes 0 → byte bytes 0 < high
    → line_of_kind k bytes ≡ line → line_at bytes ≡ line
unfolding line_at
by_kind k low high bytes line fits from below same =
    ap (λ n. line_of_kind n bytes) (kind_at k low high (byte bytes 0) fits from below) ∙ same

-- The function of a name is read again, and so is an operand.
name_function_again : (function : NameFunction) → name_function_at (name_function_code function) ≡ function
name_function_again GoToName = refl
name_function_again function = refl

pub name_function_range : (function : NameFunction) → (0x1D ≤ name_function_code function) × (name_function_code function < 0x20)
name_function_range GoToName = (omega arith, omega arith)
name_function_range function = (omega arith, omega arith)

operand_again : (operand : Operand) → IsOperand operand → operand_at (operand_byte operand) ≡ operand
operand_again (Direct parameter) inside = cond-false (leb 0x80 parameter) _ _ (lt-leb 0x80 parameter (omega arith))
operand_again (Indirect parameter) inside =
    cond-true (leb 0x80 (0x80 + parameter)) _ _ (le-leb 0x80 (0x80 + parameter) (omega arith)) ∙ ap Indirect (omega arith)

indirect_again : (branch : Branch) (register : ℕ) → register < 0x80
    → indirect_line (indirect_byte branch register) ≡ BranchIndirect branch register
indirect_again GoTo register inside = cond-false (leb 0x80 register) _ _ (lt-leb 0x80 register (omega arith))
indirect_again Execute register inside =
    cond-true (leb 0x80 (0x80 + register)) _ _ (le-leb 0x80 (0x80 + register) (omega arith)) ∙ ap (BranchIndirect Execute) (omega arith)

register_again : (function : RegisterFunction) (register : ℕ) → register < 16
    → register_line (register_function_code function + register) ≡ Register function register
register_again RecallRegister register inside =
    cond-false (leb 0x30 (0x20 + register)) _ _ (lt-leb 0x30 (0x20 + register) (omega arith)) ∙ ap (Register RecallRegister) (omega arith)
register_again StoreRegister register inside =
    cond-true (leb 0x30 (0x30 + register)) _ _ (le-leb 0x30 (0x30 + register) (omega arith)) ∙ ap (Register StoreRegister) (omega arith)

-- The functions with an operand have three kinds.
operand_kinds : (function : ParameterFunction) (bytes : List ℕ)
    → line_of_kind (kind (parameter_function_code function)) bytes ≡ operand_line bytes
unfolding kind
operand_kinds Recall bytes = refl
operand_kinds function bytes = refl

-- The characters of a number are read again.
number_code : (character : Character) → is_number (character_code character) ≡ true
number_code Zero = refl
number_code character = refl

no_number : (code : ℕ) → ((0x10 ≤ code) × (code ≤ 0x1C) → ⊥) → is_number code ≡ false
no_number code other =
    elim (leb_tells 0x10 code) [
      | inl low ↦ elim (leb_tells code 0x1C) [ inl high ↦ absurd (other (low.1, high.1)) | inr high ↦ rw (low.0, high.0) refl ]
      | inr low ↦ rw low.0 refl
    ]

leading_again : (n : ℕ) (characters : List Character) (rest : List ℕ) → length characters ≤ n → (GoesOn rest → length characters ≡ n)
    → leading n (map character_code characters ++ rest) ≡ characters
leading_again zero [] rest room whole = refl
leading_again zero (character ∷ characters) rest room whole = absurd (omega arith)
leading_again (suc n) [] [] room whole = refl
leading_again (suc n) [] (code ∷ rest) room whole =
    cond-false (is_number code) _ _ (no_number code (λ on. let none : 0 ≡ suc n = whole on in absurd (omega arith)))
leading_again (suc n) (character ∷ characters) rest room whole =
    cond-true (is_number (character_code character)) _ _ (number_code character)
    ∙ ap (λ c. c ∷ leading n (map character_code characters ++ rest)) (character_again character)
    ∙ ap (λ cs. character ∷ cs)
    (leading_again n characters rest (omega arith) (λ on. let all : suc (length characters) ≡ suc n = whole on in omega arith))

number_again : (characters : List Character) (rest : List ℕ) → IsLine (Number characters) → IsComplete (Number characters) rest
    → line_at (spelling (Number characters) ++ rest) ≡ Number characters
number_again [] rest valid whole = absurd (omega (arith, valid.0))
number_again (character ∷ characters) rest valid whole =
    let range = character_range character in
    by_kind 2 0x10 0x1D (spelling (Number (character ∷ characters)) ++ rest)
    (Number (character ∷ characters)) refl range.0 (omega (arith, range.1))
    (ap Number (leading_again 16 (character ∷ characters) rest valid.1 whole))

-- The status bits of an END are read again.
end_again : (link marks : ℕ) → marks < 128 → end_line link (mark_bits marks) ≡ End link marks
end_again link marks inside =
    cond-true (mark_bits marks / 32 % 2 == 0) _ _ (eq-eqb _ 0 (omega arith)) ∙ ap (End link) (omega arith)

final_again : (link marks : ℕ) → marks < 112 → end_line link (0x20 + mark_bits marks) ≡ FinalEnd link marks
final_again link marks inside =
    cond-false ((0x20 + mark_bits marks) / 32 % 2 == 0) _ _ (ne_eqb _ 0 (λ e. omega (arith, e))) ∙ ap (FinalEnd link) (omega arith)

linked_end : (bytes : List ℕ) (line : Line) → byte bytes 2 < 0xF0 → end_line (link_of bytes) (byte bytes 2) ≡ line
    → linked_line bytes ≡ line
linked_end bytes line below same = cond-false (leb 0xF0 (byte bytes 2)) _ _ (lt-leb 0xF0 (byte bytes 2) below) ∙ same

-- The parts of a branch are read again.
backwards_again : (backwards : Bool) (label : ℕ) → label < 0x80
    → (backwards_at (label_byte backwards label) ≡ backwards) × (label_byte backwards label % 0x80 ≡ label)
backwards_again false label inside = (lt-leb 0x80 label (omega arith), omega arith)
backwards_again true label inside = (le-leb 0x80 (0x80 + label) (omega arith), omega arith)

branch_again : (branch : Branch) (high : ℕ) → high < 16
    → (branch_at (branch_code branch + high) ≡ branch) × ((branch_code branch + high) % 16 ≡ high)
branch_again GoTo high inside = (cond-false (leb 0xE0 (0xD0 + high)) _ _ (lt-leb 0xE0 (0xD0 + high) (omega arith)), omega arith)
branch_again Execute high inside = (cond-true (leb 0xE0 (0xE0 + high)) _ _ (le-leb 0xE0 (0xE0 + high) (omega arith)), omega arith)

pub branch_range : (branch : Branch) (high : ℕ) → high < 16 → (0xD0 ≤ branch_code branch + high) × (branch_code branch + high < 0xF0)
branch_range GoTo high inside = (omega arith, omega arith)
branch_range Execute high inside = (omega arith, omega arith)

pub register_range : (function : RegisterFunction) (register : ℕ) → register < 16
    → (0x20 ≤ register_function_code function + register) × (register_function_code function + register < 0x40)
register_range RecallRegister register inside = (omega arith, omega arith)
register_range StoreRegister register inside = (omega arith, omega arith)

-- The bytes of a line are read as that line.
pub line_again : (line : Line) (rest : List ℕ) → IsLine line → IsComplete line rest → line_at (spelling line ++ rest) ≡ line
unfolding line_at
line_again Null rest valid whole = by_kind 0 0x00 0x01 (0x00 ∷ rest) Null refl (omega arith) (omega arith) refl
line_again (LocalLabel label) rest valid whole =
    by_kind 1 0x01 0x10 ((0x01 + label) ∷ rest) (LocalLabel label) refl (omega arith) (omega arith) (ap LocalLabel (omega arith))
line_again (Number characters) rest valid whole = number_again characters rest valid whole
line_again (Named function name) rest valid whole =
    let range = name_function_range function in
    by_kind 3 0x1D 0x20 (spelling (Named function name) ++ rest) (Named function name) refl range.0 range.1
    (ap (λ f. Named f (take (0xF0 + length name - 0xF0) (name ++ rest))) (name_function_again function)
    ∙ ap (Named function) (take_at name rest (0xF0 + length name - 0xF0) (omega arith)))
line_again (Register function register) rest valid whole =
    let range = register_range function register valid in
    by_kind 4 0x20 0x40 (spelling (Register function register) ++ rest)
    (Register function register) refl range.0 range.1 (register_again function register valid)
line_again (Plain function) rest valid whole =
    let range = function_range function in
    by_kind 5 0x40 0x90 (spelling (Plain function) ++ rest) (Plain function) refl range.0 range.1 (ap Plain (function_again function))
line_again (WithOperand function operand) rest valid whole =
    operand_kinds function (spelling (WithOperand function operand) ++ rest)
    ∙ ap (λ f. WithOperand f (operand_at (operand_byte operand))) (parameter_function_again function)
    ∙ ap (WithOperand function) (operand_again operand valid)
line_again (Module number entry) rest valid whole =
    let first : (0xA0 + number / 4 - 0xA0) * 4 + (number % 4 * 64 + entry) / 64 ≡ number = omega (arith, valid.0, valid.1) in
    let second : (number % 4 * 64 + entry) % 64 ≡ entry = omega (arith, valid.1) in
    by_kind 7 0xA0 0xA8 (spelling (Module number entry) ++ rest) (Module number entry) refl (omega arith) (omega (arith, valid.0))
    (ap (λ n. Module n ((number % 4 * 64 + entry) % 64)) first ∙ ap (Module number) second)
line_again (BranchIndirect branch register) rest valid whole =
    by_kind 9 0xAE 0xAF (spelling (BranchIndirect branch register) ++ rest)
    (BranchIndirect branch register) refl (omega arith) (omega arith)
    (indirect_again branch register valid)
line_again (ShortGoTo label distance) rest valid whole =
    by_kind 11 0xB1 0xC0 (spelling (ShortGoTo label distance) ++ rest)
    (ShortGoTo label distance) refl (omega arith) (omega (arith, valid.0))
    (ap (λ n. ShortGoTo n distance) (omega arith))
line_again (GlobalLabel link key name) rest valid whole =
    let link_same : (0xC0 + link / 256 - 0xC0) * 256 + link % 256 ≡ link = omega arith in
    by_kind 12 0xC0 0xCE (spelling (GlobalLabel link key name) ++ rest)
    (GlobalLabel link key name) refl (omega arith) (omega (arith, valid.0))
    (cond-true (leb 0xF0 (0xF1 + length name)) _ _ (le-leb 0xF0 (0xF1 + length name) (omega arith))
    ∙ ap (λ n. GlobalLabel n key (take (0xF1 + length name - 0xF1) (name ++ rest))) link_same
    ∙ ap (GlobalLabel link key) (take_at name rest (0xF1 + length name - 0xF1) (omega arith)))
line_again (End link marks) rest valid whole =
    let link_same : (0xC0 + link / 256 - 0xC0) * 256 + link % 256 ≡ link = omega arith in
    by_kind 12 0xC0 0xCE (spelling (End link marks) ++ rest) (End link marks) refl (omega arith) (omega (arith, valid.0))
    (linked_end (spelling (End link marks) ++ rest) (End link marks) (omega (arith, valid.1))
    (ap (λ n. end_line n (mark_bits marks)) link_same ∙ end_again link marks valid.1))
line_again (FinalEnd link marks) rest valid whole =
    let link_same : (0xC0 + link / 256 - 0xC0) * 256 + link % 256 ≡ link = omega arith in
    by_kind 12 0xC0 0xCE (spelling (FinalEnd link marks) ++ rest) (FinalEnd link marks) refl (omega arith) (omega (arith, valid.0))
    (linked_end (spelling (FinalEnd link marks) ++ rest) (FinalEnd link marks) (omega (arith, valid.1))
    (ap (λ n. end_line n (0x20 + mark_bits marks)) link_same ∙ final_again link marks valid.1))
line_again (BranchTo branch distance backwards label) rest valid whole =
    let high : distance / 256 < 16 = omega (arith, valid.0) in
    let range = branch_range branch (distance / 256) high in
    let parts = branch_again branch (distance / 256) high in
    let ends = backwards_again backwards label valid.1 in
    let first = branch_code branch + distance / 256 in
    let last = label_byte backwards label in
    let distance_same : first % 16 * 256 + distance % 256 ≡ distance = omega (arith, parts.1) in
    by_kind 14 0xD0 0xF0 (spelling (BranchTo branch distance backwards label) ++ rest)
    (BranchTo branch distance backwards label) refl range.0 range.1
    (ap (λ b. BranchTo b (first % 16 * 256 + distance % 256) (backwards_at last) (last % 0x80)) parts.0
    ∙ ap (λ n. BranchTo branch n (backwards_at last) (last % 0x80)) distance_same
    ∙ ap (λ b. BranchTo branch distance b (last % 0x80)) ends.0
    ∙ ap (BranchTo branch distance backwards) ends.1)
line_again (Text characters) rest valid whole =
    by_kind 15 0xF0 0x100 (spelling (Text characters) ++ rest) (Text characters) refl (omega arith) (omega (arith, valid.fits))
    (ap Text (take_at characters rest (0xF0 + length characters - 0xF0) (omega arith)))
