-- The bytes of GCD are read as its lines.
use Rattle.std.proofs.Common.{◌≡◌, ◌≢◌, ℕ, zero, suc, ◌<◌, ◌≤◌, List, [], ◌∷◌, length, refl, ap, ◌∙◌, arith, inl, inr}
use Rattle.std.specs.Prelude.{EachIndex, codes, slice_index}
use Rattle.std.proofs.lemmas.Bool.{cases_lt}
use Rattle.h41_codes.specs.ByteGrammar.{Begins, IsText, spelling}
use Rattle.h41_codes.specs.Counts.{name_most}
use Rattle.h41_codes.specs.declared.functions.Function.TheVariants.{ExchangeXY, LastX, Modulo, TestXNotZero}
use Rattle.h41_codes.specs.declared.line.Line.{Line}
use Rattle.h41_codes.specs.declared.line.Line.TheVariants.{End, GlobalLabel, LocalLabel, Null, Plain, ShortGoTo}
use Rattle.h41_codes.proofs.LineLengths.{spelling_least}
use Rattle.h41_program.specs.LastProgram.{ClosedIsNotOpen}
use Rattle.h41_program.specs.ProgramLaws.{ListsAreDetermined, LoadIsRead, ReadIsDetermined}
use Rattle.h41_program.specs.FirstLines.{FirstFrom, NoneFrom, line_bytes}
use Rattle.h41_program.specs.ProgramLines.{Reads}
use Rattle.h41_program.specs.declared.listed_line.ListedLine.{ListedLine}
use Rattle.h41_program.proofs.FirstLines.{line_bytes-above, line_bytes-at}
use Rattle.h41_reasoning_lines.specs.Loads.{AreBytesOf}
use Rattle.h41_reasoning_lines.proofs.Loads.{first_loaded_is_program, loaded_is_program}
use Rattle.h41_proved_lines.specs.GreatestCommonDivisor.{gcd_body}
use Rattle.h41_proved_lines.specs.LoadedDivisor.{GcdIsFirst, GcdIsLoaded, gcd_bytes}

-- A line at its own position.
abbrev at_position : ℕ → Line → ListedLine
at_position position line = record { position = position; line = line }

first_here : (position : ℕ) (line : Line) → Begins (line_bytes gcd_bytes 18 position) line (length (spelling line)) → line ≢ Null
    → FirstFrom gcd_bytes 18 position (at_position position line)
first_here position line begins some = record {
  from = omega arith;
  nulls = λ k low high. absurd (omega (arith, low, high));
  begins = begins;
  not_null = some;
}

-- The bytes of a name are bytes.
name_bytes : EachIndex (codes "GCD") (λ index. slice_index (codes "GCD") index < 256)
name_bytes zero inside = omega arith
name_bytes (suc zero) inside = omega arith
name_bytes (suc (suc zero)) inside = omega arith
name_bytes (suc (suc (suc index))) inside = absurd (omega (arith, inside))

name_text : IsText name_most (codes "GCD")
name_text = record { fits = omega arith; bytes = name_bytes }

-- No line begins at the end.
no_bytes : (position : ℕ) → 18 ≤ position → line_bytes gcd_bytes 18 position ≡ []
no_bytes position past = elim (cases_lt 18 position) [
  | inl above ↦ line_bytes-above gcd_bytes 18 position above
  | inr most ↦
      let same : position ≡ 18 = omega (arith, past, most) in
      ap (line_bytes gcd_bytes 18) same ∙ line_bytes-at gcd_bytes 18
]

none_after : NoneFrom gcd_bytes 18 18
none_after first is =
    let size : length (line_bytes gcd_bytes 18 first.position) ≡ 0 = ap length (no_bytes first.position is.from) in
    let inside : length (spelling first.line) ≤ length (line_bytes gcd_bytes 18 first.position) = is.begins.inside in
    let some : 1 ≤ length (spelling first.line) = spelling_least first.line is.begins.spells.valid in
    omega (arith, size, inside, some)

label_begins : Begins (line_bytes gcd_bytes 18 0) (GlobalLabel 0 0 (codes "GCD")) 7
label_begins = record {
  inside = omega arith;
  spells = record { valid = (omega arith, omega arith, name_text); same = refl };
  whole = tt;
}

abbrev gcd_listed : List ListedLine
gcd_listed =
    at_position 0 (GlobalLabel 0 0 (codes "GCD")) ∷ at_position 7 (LocalLabel 1) ∷ at_position 8 (Plain Modulo)
    ∷ at_position 9 (Plain LastX)
    ∷ at_position 10 (Plain ExchangeXY) ∷ at_position 11 (Plain TestXNotZero) ∷ at_position 12 (ShortGoTo 1 0)
    ∷ at_position 14 (Plain ExchangeXY) ∷ at_position 15 (End 0 13) ∷ []

gcd_reads : Reads gcd_bytes 18 0 gcd_listed
gcd_reads = (
  first_here 0 (GlobalLabel 0 0 (codes "GCD")) label_begins (λ same. cc),
  (
    first_here 7 (LocalLabel 1) record { inside = omega arith; spells = record { valid = omega arith; same = refl }; whole = tt }
        (λ same. cc),
    (
      first_here 8 (Plain Modulo) record { inside = omega arith; spells = record { valid = tt; same = refl }; whole = tt } (λ same. cc),
      (
        first_here 9 (Plain LastX) record { inside = omega arith; spells = record { valid = tt; same = refl }; whole = tt } (λ same. cc),
        (
          first_here 10 (Plain ExchangeXY) record { inside = omega arith; spells = record { valid = tt; same = refl }; whole = tt }
              (λ same. cc),
          (
            first_here 11 (Plain TestXNotZero) record { inside = omega arith; spells = record { valid = tt; same = refl }; whole = tt }
                (λ same. cc),
            (
              first_here 12 (ShortGoTo 1 0)
                  record { inside = omega arith; spells = record { valid = (omega arith, omega arith); same = refl }; whole = tt }
                  (λ same. cc),
              (
                first_here 14 (Plain ExchangeXY) record { inside = omega arith; spells = record { valid = tt; same = refl }; whole = tt }
                    (λ same. cc),
                (
                  first_here 15 (End 0 13)
                      record { inside = omega arith; spells = record { valid = (omega arith, omega arith); same = refl }; whole = tt }
                      (λ same. cc),
                  none_after,
                ),
              ),
            ),
          ),
        ),
      ),
    ),
  ),
)

pub are_bytes : AreBytesOf (gcd_body 0 0 0) gcd_bytes
are_bytes = (gcd_listed, gcd_reads, refl)

pub gcd_is_loaded : LoadIsRead → ClosedIsNotOpen → ReadIsDetermined → GcdIsLoaded
gcd_is_loaded read closed determined memory new start loads =
    loaded_is_program read closed determined memory new gcd_bytes start (gcd_body 0 0 0) loads are_bytes

pub gcd_is_first : LoadIsRead → ReadIsDetermined → ListsAreDetermined → GcdIsFirst
gcd_is_first read determined one_list memory new start none loads =
    first_loaded_is_program read determined one_list memory new gcd_bytes start (gcd_body 0 0 0) none loads are_bytes
