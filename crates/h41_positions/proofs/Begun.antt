-- A program of a page begins somewhere.
use Rattle.std.proofs.Common.{◌⊎◌, ℕ, zero, suc, ◌+◌, ◌<◌, ◌≤◌, List, length, arith, inl, inr, sym, ◌∙◌, add-one}
use Rattle.std.specs.Prelude.{is_some, slice_index}
use Rattle.std.proofs.lemmas.Bool.{cases_Bool, cases_lt, true≢false}
use Rattle.h41_positions.specs.PageLines.{Reaches, StartsAt, is_page_end}
use Rattle.h41_positions.proofs.PageStarts.{IsKept, least_starts, none_kept, none_starts, passed, taken}
use Rattle.h41_program.specs.Numbering.{number_in}
use Rattle.h41_program.specs.ProgramLaws.{EachHasFirst, EachIsListed, FirstIsDetermined, ReadIsDetermined}

module _ (firsts : EachHasFirst) (each : EachIsListed) (determined : FirstIsDetermined) (read : ReadIsDetermined)
    (code begins : List ℕ) (at : ℕ) where
  -- A function reaches the offset, or does not.
  reaches : (begin : ℕ) → Reaches code at begin ⊎ (Reaches code at begin → ⊥)
  reaches begin = elim (firsts code (length code) at) [
    | inr none ↦ inr (λ again. none again.first again.stands)
    | inl found ↦ elim (cases_lt at begin) [
      | inl late ↦ inr (λ again. let before = again.before in omega (arith, late, before))
      | inr early ↦
          let all = each is_page_end code (length code) begin in
          elim (cases_Bool (is_some (number_in found.0.position all.0))) [
            | inl has ↦
                inl (record { before = omega (arith, early); first = found.0; lines = all.0; stands = found.1; from = all.1; has = has })
            | inr lost ↦ inr (λ again.
                let line = determined code (length code) at again.first found.0 again.stands found.1 in
                let lines = read is_page_end code (length code) begin again.lines all.0 again.from all.1 in
                true≢false (sym (rw (line, lines) at again.has) ∙ lost))
          ]
    ]
  ]

  kept_among : (count : ℕ) → count ≤ length begins → (least : ℕ) × IsKept code begins at count least
  kept_among zero few = (at + 1, none_kept code begins at)
  kept_among (suc count) few =
      let so_far = kept_among count (omega (arith, few)) in
      let inside : count < length begins = omega (arith, few) in
      rw (← (add-one count)) (elim (reaches (slice_index begins count)) [
        | inl here ↦ elim (cases_lt (slice_index begins count) so_far.0) [
          | inl lower ↦ (slice_index begins count, taken code begins at count so_far.0 inside so_far.1 lower here)
          | inr higher ↦ (so_far.0, passed code begins at count so_far.0 inside so_far.1 (λ again. higher))
        ]
        | inr lost ↦ (so_far.0, passed code begins at count so_far.0 inside so_far.1 (λ again. absurd (lost again)))
      ])

  pub start_some : (start : ℕ) × StartsAt code begins at start
  start_some =
      let all = kept_among (length begins) (omega arith) in
      elim (cases_lt at all.0) [
        | inl none ↦ (at, none_starts code begins at (length begins) all.0 (omega arith) all.1 (λ low. omega (arith, none, low)))
        | inr low ↦ (all.0, least_starts code begins at (length begins) all.0 (omega arith) all.1 low)
      ]
