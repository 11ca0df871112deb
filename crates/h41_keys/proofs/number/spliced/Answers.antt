use Rattle.std.proofs.Common.{◌≡◌, ℕ, ◌+◌, ◌-◌, ◌≤◌, List, ◌++◌, ap, arith, drop, length, length-append, length-drop, refl, sym, take, ◌∙◌}
use Rattle.std.proofs.lemmas.Bool.Decides.{nat_tests}
use Rattle.std.proofs.lemmas.List.{length-take, take_at}
use Rattle.std.proofs.lemmas.Slice.{take-put_mid}
use Rattle.h41_codes.specs.Counts.{number_most}
use Rattle.h41_codes.specs.declared.characters.Character.{Character}
use Rattle.h41_keys.specs.KeyPress.{number_becomes}
use Rattle.h41_keys.specs.NumberTyping.{kept_within}
use Rattle.h41_keys.proofs.number.spliced.Goals as goal
use borrow.Rule.Slice.PartMut.{put_mid}

-- The cells after the first two parts: `first` and `second` are what was written for `front` and `more`.
abbrev two_parts : (cells front more first second : List Character) → List Character
two_parts cells front more first second =
    put_mid (length front) (length front + length more - length front) (first ++ drop (length front) cells) second

two_parts-length : (cells front more first second : List Character) → first ≡ front → second ≡ more
    → length front + length more ≤ length cells → length (two_parts cells front more first second) ≡ length cells
two_parts-length cells front more first second is1 is2 within =
    simp (length-append, length-take, length-drop) (omega (arith, ap length is1, ap length is2))

-- The part that is written next has its length.
part_length : (a n : ℕ) (cells : List Character) → a + n ≤ length cells → length (take (a + n - a) (drop a cells)) ≡ n
part_length a n cells within = simp (length-take, length-drop) (omega arith)

rest_length : (cells front more first second : List Character) (n : ℕ) → first ≡ front → second ≡ more
    → length front + length more + n ≤ length cells
    → length (take (length front + length more + n - (length front + length more))
    (drop (length front + length more) (two_parts cells front more first second)))
    ≡ n
rest_length cells front more first second n is1 is2 within =
    let same = two_parts-length cells front more first second is1 is2 (omega arith) in
    part_length (length front + length more) n (two_parts cells front more first second) (omega arith)

-- After the third part, the three parts are read.
three_parts : (cells front more rest first second third : List Character) → first ≡ front → second ≡ more → third ≡ rest
    → length front + length more + length rest ≤ length cells
    → take (length front + length more + length rest)
    (put_mid (length front + length more) (length front + length more + length rest - (length front + length more))
    (two_parts cells front more first second) third)
    ≡ front ++ more ++ rest
three_parts cells front more rest first second third is1 is2 is3 within =
    let begun : length (first ++ drop (length front) cells) ≡ length cells =
    simp (length-append, length-drop) (omega (arith, ap length is1)) in
    let same = two_parts-length cells front more first second is1 is2 (omega arith) in
    rw (
      take-put_mid (length front + length more) (length front + length more + length rest - (length front + length more))
          (two_parts cells front more first second) third (length front + length more + length rest)
          (omega (arith, ap length is3)) (omega arith),
      take-put_mid (length front) (length front + length more - length front) (first ++ drop (length front) cells) second
          (length front + length more) (omega (arith, ap length is2)) (omega arith),
      take_at first (drop (length front) cells) (length front) (ap length is1),
      is1,
      is2,
      is3,
    )
    refl

kept : (before after : List Character) → length after ≤ number_most → kept_within before after ≡ after
kept before after within = grind (arith, nat_tests)

pub copy_from_slice-requires-2 : goal.copy_from_slice-requires-2
copy_from_slice-requires-2 c =
    part_length (length c.args.front.now) (length c.args.more.now) (c.copy_from_slice.new.self ++ _)
    (simp (length-append, length-drop) (omega (arith, ap length c.copy_from_slice.ensures.after)))

pub copy_from_slice-requires-3 : goal.copy_from_slice-requires-3
copy_from_slice-requires-3 c =
    rest_length _ c.args.front.now c.args.more.now _ _ (length c.args.rest.now) c.copy_from_slice.ensures.after
    c.copy_from_slice-2.ensures.after (omega arith)

pub returns : goal.returns
returns c =
    c.becomes-2.ensures
    ∙ ap (number_becomes c.args.input c.args.text.now)
    (three_parts _ c.args.front.now c.args.more.now c.args.rest.now _ _ _ c.copy_from_slice.ensures.after
    c.copy_from_slice-2.ensures.after c.copy_from_slice-3.ensures.after (omega arith)
    ∙ sym (kept c.args.text.now (c.args.front.now ++ c.args.more.now ++ c.args.rest.now) (simp length-append (omega arith))))
