-- The second word round trip.
use Rattle.std.specs.Prelude.{◌≡◌, ℕ, zero, suc, ◌+◌, ◌*◌, ◌/◌, ◌%◌, ◌<◌, ◌⊎◌, refl}
use Rattle.std.proofs.Common.{arith, inl, inr}
use Rattle.h41_words.specs.declared.rows.Condition.{Condition}
use Rattle.h41_words.specs.declared.rows.Condition.TheVariants.{NoCarry, Carry}
use Rattle.h41_words.specs.declared.second_word.LongJumpKind.{LongJumpKind}
use Rattle.h41_words.specs.declared.second_word.LongJumpKind.TheVariants.{Execute, Go}
use Rattle.h41_words.specs.SecondWord.{second_of, long_jump_number, SaidByWord, WordOfSecond}

-- The two low bits are one of four numbers.
four : (bits : ℕ) → bits < 4 → (bits ≡ 0) ⊎ (bits ≡ 1) ⊎ (bits ≡ 2) ⊎ (bits ≡ 3)
four zero inside = inl refl
four (suc zero) inside = inr (inl refl)
four (suc (suc zero)) inside = inr (inr (inl refl))
four (suc (suc (suc zero))) inside = inr (inr (inr refl))
four (suc (suc (suc (suc more)))) inside = absurd (omega arith)

pub said_by_word : SaidByWord
said_by_word word =
    let low : word % 4 < 4 = omega arith in
    elim (four (word % 4) low) [
      | inl e ↦ rw e (omega arith)
      | inr (inl e) ↦ rw e (omega arith)
      | inr (inr (inl e)) ↦ rw e (omega arith)
      | inr (inr (inr e)) ↦ rw e (omega arith)
    ]

word_of_parts : (condition : Condition) (kind : LongJumpKind) (high_byte : ℕ)
    → second_of (high_byte * 4 + long_jump_number condition kind) ≡ record { condition = condition; kind = kind; high_byte = high_byte }
word_of_parts NoCarry Execute high_byte =
    let low : (high_byte * 4 + 0) % 4 ≡ 0 = omega arith in
    let high : (high_byte * 4 + 0) / 4 ≡ high_byte = omega arith in
    rw (low, high) refl
word_of_parts Carry Execute high_byte =
    let low : (high_byte * 4 + 1) % 4 ≡ 1 = omega arith in
    let high : (high_byte * 4 + 1) / 4 ≡ high_byte = omega arith in
    rw (low, high) refl
word_of_parts NoCarry Go high_byte =
    let low : (high_byte * 4 + 2) % 4 ≡ 2 = omega arith in
    let high : (high_byte * 4 + 2) / 4 ≡ high_byte = omega arith in
    rw (low, high) refl
word_of_parts Carry Go high_byte =
    let low : (high_byte * 4 + 3) % 4 ≡ 3 = omega arith in
    let high : (high_byte * 4 + 3) / 4 ≡ high_byte = omega arith in
    rw (low, high) refl

pub word_of_second : WordOfSecond
word_of_second second = word_of_parts second.condition second.kind second.high_byte
