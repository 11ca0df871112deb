-- Memories with the same program.
use Rattle.std.proofs.Common.{◌≡◌, ℕ, ◌-◌, ◌<◌, Bool, true, List, sym, ◌∙◌, ap, subst, arith, Ok, Err, rules}
use Rattle.std.specs.Prelude.{◌⊎◌, MatchBool}
use Rattle.std.proofs.lemmas.List.{ext_get_or}
use Rattle.std.proofs.lemmas.List.FromFn.{get_or-map-range_with_len, length-map-range_with_len}
use Rattle.h41_ram.specs.RegisterMap.{RegisterMap, curtain_of, end_of, constant_of, is_sound, three_digits}
use Rattle.h41_program.specs.declared.listed_line.ListedLine.{ListedLine}
use Rattle.h41_ram.specs.RamState.{SameProgram}
use Rattle.h41_program.specs.Dependence.{AnswersDepend, SoundnessDepends, ListsDepend, FirstsDepend, NonesDepend}
use Rattle.h41_program.specs.Dependence.{LineDepends, NextDepends, LocalDepends, ProgramDepends}
use Rattle.h41_program.specs.Lines.{is_final_end as ends_list}
use Rattle.h41_program.specs.ProgramBytes.{byte_count, program_byte, program_bytes, final_position}
use Rattle.h41_program.specs.FirstLines.{behind, FirstFrom, IsFirst, NoneFrom}
use Rattle.h41_program.specs.ProgramLines.{Reads}
use Rattle.h41_program.proofs.Addresses.{sound_by}
use Rattle.h41_program.proofs.Sound.{bounds, constant, ends}

module _ (memory other : RegisterMap) (agree : SameProgram memory other) where
  same_end : end_of memory ≡ end_of other
  same_end = ap (λ (c : List ℕ). three_digits c 0) agree.c

  same_curtain : curtain_of memory ≡ curtain_of other
  same_curtain = ap (λ (c : List ℕ). three_digits c 3) agree.c

  same_constant : constant_of memory ≡ constant_of other
  same_constant = ap (λ (c : List ℕ). three_digits c 6) agree.c

  pub agrees_back : SameProgram other memory
  agrees_back = search (rules, same_end, same_curtain)

  pub sound_too : is_sound memory ≡ true → is_sound other ≡ true
  sound_too sound = search (rules, bounds, same_end, sound_by, same_constant, constant, same_curtain, ends)

  same_count : byte_count memory ≡ byte_count other
  same_count = omega (arith, same_end, same_curtain)

  pub same_final : final_position memory ≡ final_position other
  same_final = ap (λ n. n - 3) same_count

  same_byte : (p : ℕ) → p < byte_count memory → program_byte memory p ≡ program_byte other p
  same_byte p inside = search (rules, same_curtain)

  pub same_bytes : program_bytes memory ≡ program_bytes other
  same_bytes =
      let own = length-map-range_with_len (program_byte memory) 0 (byte_count memory) in
      let all = length-map-range_with_len (program_byte other) 0 (byte_count other) in
      ext_get_or 0 (program_bytes memory) (program_bytes other) (own ∙ same_count ∙ sym all)
      (λ p inside.
      get_or-map-range_with_len (program_byte memory) 0 (byte_count memory) p p 0 (omega (arith, own, inside)) (omega arith)
      ∙ same_byte p (omega (arith, own, inside))
      ∙ sym
      (get_or-map-range_with_len (program_byte other) 0 (byte_count other) p p 0 (omega (arith, own, inside, same_count)) (omega arith)))

  -- What is true of the bytes of one is true of those of the other.
  carried : (P : List ℕ → ℕ → Type 0) → P (program_bytes memory) (final_position memory) → P (program_bytes other) (final_position other)
  carried P holds =
      subst (λ (n : ℕ). P (program_bytes other) n) same_final (subst (λ (bytes : List ℕ). P bytes (final_position memory)) same_bytes holds)

same_test : (b c : Bool) → (b ≡ true → c ≡ true) → (c ≡ true → b ≡ true) → b ≡ c
same_test b c there back = search rules

pub soundness : SoundnessDepends
soundness memory other agree =
    same_test (is_sound memory) (is_sound other) (sound_too memory other agree) (sound_too other memory (agrees_back memory other agree))

pub lists : ListsDepend
lists memory other at lines agree from = record {
  sound = λ sound.
      carried memory other agree (λ bytes final. Reads bytes final at lines) (from.sound (soundness memory other agree ∙ sound));
  lost = λ lost. from.lost (soundness memory other agree ∙ lost);
}

pub firsts : FirstsDepend
firsts memory other at found agree is = carried memory other agree (λ bytes final. IsFirst bytes final at found.listed found.behind) is

pub nones : NonesDepend
nones memory other at agree none = carried memory other agree (λ bytes final. NoneFrom bytes final at) none

pub line : LineDepends
line memory other at (Ok first) agree answers = carried memory other agree (λ bytes final. FirstFrom bytes final at first) answers
line memory other at (Err refusal) agree answers = (answers.0, nones memory other at agree answers.1)

-- The position after a line, by bytes.
abbrev BehindIn : List ℕ → ℕ → ListedLine → ℕ → Type 0
BehindIn bytes final first position =
    MatchBool (ends_list first.line) (position ≡ first.position)
    (((second : ListedLine) × FirstFrom bytes final (behind first) second × (position ≡ second.position))
    ⊎ (NoneFrom bytes final (behind first) × (position ≡ behind first)))

pub next : NextDepends
next memory other at (Ok position) agree answers = (
  answers.0,
  carried memory other agree (λ bytes final. FirstFrom bytes final at answers.0) answers.1,
  carried memory other agree (λ bytes final. BehindIn bytes final answers.0 position) answers.2,
)
next memory other at (Err refusal) agree answers = (answers.0, nones memory other at agree answers.1)

pub answers : {A : Type 0} → AnswersDepend A
answers memory other answer at result agree is = (is.0, lists memory other at is.0 agree is.1, is.2)

pub program : {A : Type 0} → ProgramDepends A
program memory other answer at result agree is = search (rules, lists)

pub local : LocalDepends
local memory other at n result agree answers = search (rules, answers, lists, program)
