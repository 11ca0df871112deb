-- Lines with a register: the register that an operand means, and the state after RCL, STO, arithmetic in a register, ISG
-- and DSE.
use Rattle.std.proofs.Common.{◌≡◌, ℕ, ◌-◌, ◌/◌, ◌<◌, Bool, true, false, List, Some, Result, Ok, Err}
use Rattle.std.proofs.Common.{refl, sym, ap, ◌∙◌, subst, arith, inl}
use Rattle.std.specs.Prelude.{MatchBool, ◌&&◌, if◌then◌else◌, is_some, ℤ, unsigned_abs}
use Rattle.std.proofs.lemmas.Bool.Decides.{nat_tests}
use Rattle.std.proofs.lemmas.Bool.{lt-ltb}
use Rattle.h41_codes.specs.declared.characters.Character.{Character}
use Rattle.h41_codes.specs.declared.functions.ParameterFunction.{ParameterFunction}
use Rattle.h41_codes.specs.declared.functions.ParameterFunction.TheVariants as functions
use Rattle.h41_codes.specs.declared.functions.RegisterFunction.{RegisterFunction}
use Rattle.h41_codes.specs.declared.functions.RegisterFunction.TheVariants.{RecallRegister, StoreRegister}
use Rattle.h41_codes.specs.declared.line.Line.{Line}
use Rattle.h41_codes.specs.declared.line.Line.TheVariants.{Number as NumberLine, Register, WithOperand}
use Rattle.h41_codes.specs.declared.line.Operand.{Operand}
use Rattle.h41_codes.specs.declared.line.Operand.TheVariants.{Direct, Indirect}
use Rattle.h41_decimal.specs.Holding.{Holding, Number, holding_of, number_in, worth}
use Rattle.h41_decimal.specs.NearestDecimal.{Nearest}
use Rattle.h41_decimal.specs.Units.{one, units}
use Rattle.h41_decimal.specs.declared.ten.Ten.{Ten}
use Rattle.h41_focal.specs.Destinations.{Arrives, Stepped}
use Rattle.h41_focal.specs.LineStep.{Applies, AppliesTo, CarriesOut, Left, StepsLine, Works}
use Rattle.h41_focal.specs.declared.refusal.FocalRefusal.{FocalRefusal}
use Rattle.h41_focal.specs.declared.refusal.FocalRefusal.TheVariants.{NotInProfile}
use Rattle.h41_pages.specs.PageMap.{PageMap}
use Rattle.h41_positions.specs.FocalState.{Machine}
use Rattle.h41_positions.specs.declared.position.Position.{Position}
use Rattle.h41_positions.specs.declared.position.Position.TheVariants.{Memory}
use Rattle.h41_ram.specs.NamedRegisters.{data_address, size_of}
use Rattle.h41_ram.specs.RegisterMap.{RegisterMap, register_at, with_register, zeros}
use Rattle.h41_rows.specs.Counters.{Way, Up, Down, goes_on, number_after}
use Rattle.h41_rows.specs.LineRows.{into_register, loop, register_row, short_row}
use Rattle.h41_rows.specs.Operands.{Address, Meant, RegisterKind, address_of, data_register, Kind, kind_of, meant_as, meant_of}
use Rattle.h41_rows.specs.Operands.{parameter_register, then_find, whole_at, whole_of}
use Rattle.h41_rows.specs.Places.{Named, X, amount_in}
use Rattle.h41_rows.specs.Profile.{is_left_out, is_parameter_left_out}
use Rattle.h41_rows.specs.RowEffects.{holds_in}
use Rattle.h41_rows.specs.Rows as rows
use Rattle.h41_rows.specs.Values.{IsRegisterOf, IsValue, Value}
use Rattle.h41_rows.specs.Values as values
use Rattle.h41_rows.specs.declared.fault.LineFault.{LineFault}
use Rattle.h41_rows.specs.declared.fault.LineFault.TheVariants.{Nonexistent}
use Rattle.h41_reasoning_lines.specs.LineRuns.{Continues}
use Rattle.h41_reasoning_lines.specs.Stacks.{Stack, with_stack}
use Rattle.h41_reasoning_lines.proofs.Computing.{amount_of, both, number_there, there}
use Rattle.h41_reasoning_lines.proofs.Listed.{IsLineAt}
use Rattle.h41_reasoning_lines.proofs.Stepping.{after_line, before_line, holding_true, taken}

-- The register of a number below SIZE.
pub data_found : (memory : RegisterMap) (n : ℕ) → n < size_of memory → data_register memory n ≡ Ok (data_address memory n)
data_found memory n below =
    ap (λ (yes : Bool). let found : Result ℕ LineFault = if yes then Ok (data_address memory n) else Err Nonexistent in found)
    (lt-ltb n (size_of memory) below)

-- A direct operand below 100 means the data register with this number.
pub direct : (memory : RegisterMap) (n : ℕ) → n < 100 → n < size_of memory → address_of memory (Direct n) ≡ Ok (data_address memory n)
direct memory n small below =
    ap (λ (yes : Bool). let found : Result ℕ LineFault = if yes then data_register memory n else Ok (n - 112) in found)
    (lt-ltb n 100 small)
    ∙ data_found memory n below

-- An indirect operand means the data register whose number is in another register.
pub indirect : (memory : RegisterMap) (parameter address n : ℕ) (number : ℤ) → parameter_register memory parameter ≡ Ok address
    → holding_of (register_at memory address) ≡ Number number → unsigned_abs number / one ≡ n → n < size_of memory
    → address_of memory (Indirect parameter) ≡ Ok (data_address memory n)
indirect memory parameter address n number is_address holds whole below =
    ap (λ (found : Result ℕ LineFault). then_find (then_find found (whole_at memory)) (data_register memory)) is_address
    ∙ ap (λ (content : Holding). then_find (whole_of (worth content)) (data_register memory)) holds
    ∙ ap (data_register memory) whole
    ∙ data_found memory n below

-- Operands of the lower registers are supported.
pub supported : (n : ℕ) → n < 100 → is_parameter_left_out n ≡ false
supported n small = grind (arith, nat_tests)

module _ (pages : PageMap) (memory : RegisterMap) (at next : ℕ) (zero : Bool) (returns : List Position) (lift : Bool) where
  abbrev here : Machine
  here = before_line memory at zero returns lift

  -- A line with a register is executed, given its row.
  module _ (address : ℕ) (left : Left) where
    -- A line with a parameter.
    pub with_parameter : (function : ParameterFunction) (operand : Operand) (row : rows.LineRow) → register_row function ≡ row
        → kind_of function ≡ RegisterKind → is_left_out (WithOperand function operand) ≡ false
        → address_of memory operand ≡ Ok address → IsLineAt memory at (WithOperand function operand) next
        → Applies pages (Stepped (Memory next)) row address here (Ok left)
        → StepsLine pages here (Ok left)
    with_parameter function operand row has kind known means is applies =
        let meant : meant_of memory (WithOperand function operand) ≡ Ok (Address address) =
        ap (λ (k : Kind). meant_as k memory operand) kind
        ∙ ap (λ (found : Result ℕ LineFault). then_find found (λ (a : ℕ). let m : Result Meant LineFault = Ok (Address a) in m)) means in
        taken pages memory at next zero returns lift (WithOperand function operand) left is
        (subst
        (λ (out : Bool). MatchBool out (let carried : Result Left FocalRefusal = Ok left in carried ≡ Err NotInProfile)
        (CarriesOut pages (Stepped (Memory next)) (WithOperand function operand) here (Ok left)))
        (sym known)
        (subst
        (λ (m : Result Meant LineFault). AppliesTo pages (Stepped (Memory next)) (WithOperand function operand) here m (Ok left))
        (sym meant)
        (subst (λ (r : rows.LineRow). Applies pages (Stepped (Memory next)) r address here (Ok left)) (sym has) applies)))

    -- RCL and STO of the registers 00 to 15.
    pub short : (function : RegisterFunction) (n : ℕ) → data_register memory n ≡ Ok address → IsLineAt memory at (Register function n) next
        → Applies pages (Stepped (Memory next)) (short_row function) address here (Ok left)
        → StepsLine pages here (Ok left)
    short function n means is applies =
        taken pages memory at next zero returns lift (Register function n) left is
        (subst
        (λ (m : Result Meant LineFault). AppliesTo pages (Stepped (Memory next)) (Register function n) here m (Ok left))
        (sym
        (ap (λ (found : Result ℕ LineFault). then_find found (λ (a : ℕ). let m : Result Meant LineFault = Ok (Address a) in m)) means))
        applies)

  -- Lines that write the register at an address, and continue.
  module _ (address : ℕ) (result : List ℕ) where
    abbrev written : Machine
    written = after_line (with_register memory address result) next returns true

    -- ST+ and the others: the register receives a value of itself and X.
    pub computed_there : (function : ParameterFunction) (operand : Operand) (value : Value) → register_row function ≡ into_register value
        → kind_of function ≡ RegisterKind → is_left_out (WithOperand function operand) ≡ false
        → address_of memory operand ≡ Ok address → IsLineAt memory at (WithOperand function operand) next
        → Works memory address (into_register value) (Ok result)
        → Continues pages here written
    computed_there function operand value has kind known means is works =
        with_parameter address _ function operand (into_register value) has kind known means is
        (Ok result, works, (Arrives (Memory next) returns, refl, refl))

    -- ISG and DSE.
    module _ (function : ParameterFunction) (operand : Operand) (way : Way) (has : register_row function ≡ loop way)
        (kind : kind_of function ≡ RegisterKind) (known : is_left_out (WithOperand function operand) ≡ false)
        (means : address_of memory operand ≡ Ok address) (is : IsLineAt memory at (WithOperand function operand) next)
        (works : Works memory address (loop way) (Ok result)) where
      -- The loop continues with the next line.
      pub counts_on : holds_in memory address (rows.Loops way Named) ≡ true → Continues pages here written
      counts_on holds =
          with_parameter address _ function operand (loop way) has kind known means is
          (Ok result, works, (Arrives (Memory next) returns, rw holds refl, refl))

      -- The loop ends, and the next line is skipped.
      pub counts_out : (skipped : Line) (after : ℕ) → IsLineAt memory next skipped after
          → holds_in memory address (rows.Loops way Named) ≡ false
          → Continues pages here (after_line (with_register memory address result) after returns true)
      counts_out skipped after other fails =
          with_parameter address _ function operand (loop way) has kind known means is (
            Ok result,
            works,
            (Arrives (Memory after) returns, rw fails (inl (Memory after, (Ok after, other.onward, refl), refl)), refl),
          )

-- The stack after a register has come into X, with stack lift on and off.
abbrev pub coming : Bool → Stack → List ℕ → Stack
coming true stack register = record { t = stack.z; z = stack.y; y = stack.x; x = register; last = stack.last }
coming false stack register = record stack { x = register }

-- RCL and STO.
module _ (pages : PageMap) (stack : Stack) (memory : RegisterMap) (at next : ℕ) (zero : Bool) (returns : List Position) (address : ℕ) where
  abbrev own : RegisterMap
  own = with_stack stack memory

  abbrev before : Bool → Machine
  before lift = before_line own at zero returns lift

  abbrev gone : Stack → Machine
  gone other = after_line (with_stack other memory) next returns true

  module _ (operand : Operand) (known : is_left_out (WithOperand functions.Recall operand) ≡ false)
      (means : address_of own operand ≡ Ok address) (is : IsLineAt own at (WithOperand functions.Recall operand) next) where
    pub recalled : (lift : Bool) → Continues pages (before lift) (gone (coming lift stack (register_at own address)))
    recalled true =
        with_parameter pages own at next zero returns true address _ functions.Recall operand _ refl refl known means is
        (Ok zeros, refl, (Arrives (Memory next) returns, refl, refl))
    recalled false =
        with_parameter pages own at next zero returns false address _ functions.Recall operand _ refl refl known means is
        (Ok zeros, refl, (Arrives (Memory next) returns, refl, refl))

  module _ (n : ℕ) (means : data_register own n ≡ Ok address) (is : IsLineAt own at (Register RecallRegister n) next) where
    pub recalled_short : (lift : Bool) → Continues pages (before lift) (gone (coming lift stack (register_at own address)))
    recalled_short true =
        short pages own at next zero returns true address _ RecallRegister n means is
        (Ok zeros, refl, (Arrives (Memory next) returns, refl, refl))
    recalled_short false =
        short pages own at next zero returns false address _ RecallRegister n means is
        (Ok zeros, refl, (Arrives (Memory next) returns, refl, refl))

  -- STO changes nothing of the stack.
  module _ (lift : Bool) where
    abbrev stored_there : Machine
    stored_there = after_line (with_register own address stack.x) next returns true

    pub stored : (operand : Operand) → is_left_out (WithOperand functions.Store operand) ≡ false → address_of own operand ≡ Ok address
        → IsLineAt own at (WithOperand functions.Store operand) next
        → Continues pages (before lift) stored_there
    stored operand known means is =
        with_parameter pages own at next zero returns lift address _ functions.Store operand _ refl refl known means is
        (Ok zeros, refl, (Arrives (Memory next) returns, refl, refl))

    pub stored_short : (n : ℕ) → data_register own n ≡ Ok address → IsLineAt own at (Register StoreRegister n) next
        → Continues pages (before lift) stored_there
    stored_short n means is =
        short pages own at next zero returns lift address _ StoreRegister n means is
        (Ok zeros, refl, (Arrives (Memory next) returns, refl, refl))

  -- A number line.
  module _ (characters : List Character) (number : Ten) (register : List ℕ)
      (is_number : IsValue (values.Written characters) own 0 (Ok number))
      (is_register : IsRegisterOf (units number) register) (is : IsLineAt own at (NumberLine characters) next) where
    abbrev row : rows.LineRow
    row = record (rows.coming_in (rows.compute X)) { value = Some (values.Written characters) }

    written_number : Works own 0 row (Ok register)
    written_number = record { answer = Ok number; nearest = is_number; kept = is_register }

    pub number_in_x : (lift : Bool) → Continues pages (before lift) (gone (coming lift stack register))
    number_in_x true =
        taken pages own at next zero returns true (NumberLine characters) _ is
        (Ok register, written_number, (Arrives (Memory next) returns, refl, refl))
    number_in_x false =
        taken pages own at next zero returns false (NumberLine characters) _ is
        (Ok register, written_number, (Arrives (Memory next) returns, refl, refl))

-- What ISG and DSE compute.
module _ (memory : RegisterMap) (address : ℕ) (way : Way) (x : ℤ) (holds : holding_of (register_at memory address) ≡ Number x) where
  one_there : is_some (number_in (register_at memory address)) ≡ true
  one_there = there (number_in (register_at memory address)) x (number_there (register_at memory address) x holds)

  pub counted : (answer : Ten) (result : List ℕ) → IsRegisterOf (units answer) result → Nearest (number_after way x) 1 (Ok answer)
      → Works memory address (loop way) (Ok result)
  counted answer result is nearest = works way (subst (λ (a : ℤ). Nearest (number_after way a) 1 (Ok answer)) (sym amount) nearest)
    where
      amount : amount_in memory address Named ≡ x
      amount = amount_of (register_at memory address) x holds

      twice : (is_some (number_in (register_at memory address)) && (is_some (number_in (register_at memory address)) && true)) ≡ true
      twice = both (is_some (number_in (register_at memory address))) (is_some (number_in (register_at memory address))) one_there one_there

      works : (way : Way) → Nearest (number_after way (amount_in memory address Named)) 1 (Ok answer)
          → Works memory address (loop way) (Ok result)
      works Up nearest = holding_true _ _ _ twice record { answer = Ok answer; nearest = nearest; kept = is }
      works Down nearest = holding_true _ _ _ twice record { answer = Ok answer; nearest = nearest; kept = is }

  -- Whether the loop continues.
  pub tells_loop : holds_in memory address (rows.Loops way Named) ≡ goes_on way x
  tells_loop = ap (goes_on way) (amount_of (register_at memory address) x holds)
