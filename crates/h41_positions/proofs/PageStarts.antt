-- The start of a page's programs.
use Rattle.std.proofs.Common.{◌≡◌, ℕ, ◌+◌, ◌<◌, ◌≤◌, false, List, length, Option, Some, None, refl, sym, ap, ◌∙◌, arith, ◌⊎◌}
use Rattle.std.proofs.Common.{inl, inr}
use Rattle.std.specs.Prelude.{is_some, slice_index}
use Rattle.std.specs.Option.{option_or}
use Rattle.std.proofs.lemmas.Bool.{cases_lt, true≢false}
use Rattle.h41_positions.specs.PageLines.{AnswersLabel, IsAmong, LinesIn, Reaches, StartsAt, is_page_end}
use Rattle.h41_program.specs.Numbering.{number_in}
use Rattle.h41_program.specs.ProgramLaws.{EachIsListed}
use Rattle.h41_program.specs.Searches.{label_in, position_of}
use Rattle.h41_program.specs.declared.listed_line.ListedLine.{ListedLine}
use Rattle.h41_program.specs.declared.reading.Found.{Found}
use Rattle.h41_program.specs.Sources.{HasFirst, bytes_source}
use Rattle.h41_walk.specs.Searches.{AnswersProgram, Otherwise, label_position}
use Rattle.h41_walk.specs.Searches as walk

-- A list that does not contain it does not reach the offset.
pub lost_reaches : (code : List ℕ) (at begin : ℕ) (first : Found)
    → HasFirst (bytes_source code) at first
    → ((lines : List ListedLine) → LinesIn code begin lines → false ≡ is_some (number_in first.listed.position lines))
    → Reaches code at begin → ⊥
lost_reaches code at begin first is lost reaches =
    let same : reaches.first ≡ first.listed = is.one reaches.first reaches.stands in
    true≢false (sym (rw same at reaches.has) ∙ sym (lost reaches.lines reaches.from))

-- One of the offsets so far.
abbrev pub IsSoFar : List ℕ → ℕ → ℕ → Type 0
IsSoFar begins count begin = (k : ℕ) × (k < count) × (k < length begins) × (slice_index begins k ≡ begin)

-- The least of the offsets so far that reach an offset; if none does, one more than that offset.
pub record IsKept (code begins : List ℕ) (at count least : ℕ) : Type 0 where
  pub most : least ≤ at + 1
  pub own : least ≤ at → IsSoFar begins count least × Reaches code at least
  pub each : (begin : ℕ) → IsSoFar begins count begin → Reaches code at begin → least ≤ begin

pub none_kept : (code begins : List ℕ) (at : ℕ) → IsKept code begins at 0 (at + 1)
none_kept code begins at = record {
  most = omega arith;
  own = λ low. absurd (omega (arith, low));
  each = λ begin so_far reaches. absurd (omega (arith, so_far.1));
}

module _ (code begins : List ℕ) (at count least : ℕ) (inside : count < length begins) (kept : IsKept code begins at count least) where
  last_or_before : (begin : ℕ) → IsSoFar begins (count + 1) begin → IsSoFar begins count begin ⊎ (slice_index begins count ≡ begin)
  last_or_before begin so_far = elim (cases_lt so_far.0 count) [
    | inl sooner ↦ inl (so_far.0, sooner, so_far.2, so_far.3)
    | inr here ↦ let same : count ≡ so_far.0 = omega (arith, so_far.1, here) in inr (rw same so_far.3)
  ]

  -- The next offset is taken.
  pub taken : slice_index begins count < least → Reaches code at (slice_index begins count)
      → IsKept code begins at (count + 1) (slice_index begins count)
  taken below reaches = record {
    most = let most = kept.most in omega (arith, below, most);
    own = λ low. ((count, omega arith, inside, refl), reaches);
    each = λ begin so_far again. elim (last_or_before begin so_far) [
      | inl before ↦ let more = kept.each begin before again in omega (arith, more, below)
      | inr is ↦ omega (arith, is)
    ];
  }

  -- The next offset is skipped.
  pub passed : (Reaches code at (slice_index begins count) → least ≤ slice_index begins count) → IsKept code begins at (count + 1) least
  passed late = record {
    most = kept.most;
    own = λ low. let own = kept.own low in ((own.0.0, omega (arith, own.0.1), own.0.2, own.0.3), own.1);
    each = λ begin so_far again. elim (last_or_before begin so_far) [
      | inl before ↦ kept.each begin before again
      | inr is ↦ rw (← is) (late (rw (← is) at again))
    ];
  }

-- All offsets were examined.
module _ (code begins : List ℕ) (at count least : ℕ) (all : length begins ≤ count) (kept : IsKept code begins at count least) where
  each_among : (begin : ℕ) → IsAmong begins begin → Reaches code at begin → least ≤ begin
  each_among begin among reaches = kept.each begin (among.0, omega (arith, among.1, all), among.1, among.2) reaches

  pub least_starts : least ≤ at → StartsAt code begins at least
  least_starts low =
      let own = kept.own low in inl ((own.0.0, own.0.2, own.0.3), own.1, each_among)

  pub none_starts : (least ≤ at → ⊥) → StartsAt code begins at at
  none_starts late =
      inr ((λ begin among reaches. let more = each_among begin among reaches in late (omega (arith, more, reaches.before))), refl)

-- An answer for a label is the one for the lines from the program's start.
none_or : (first second : Option ListedLine) (found : Option ℕ) → position_of first ≡ None → found ≡ position_of second
    → found ≡ position_of (option_or first second)
none_or None second found none is = is
none_or (Some listed) second found none is = cc

module _ (code begins : List ℕ) (at n : ℕ) (lists : EachIsListed) (some : (start : ℕ) × StartsAt code begins at start) where
  by_label : (onward : List ListedLine) → LinesIn code at onward → (first : Option ListedLine) → first ≡ label_in n onward
      → (found : Option ℕ)
      → Otherwise (position_of first) (AnswersProgram (label_position n) (bytes_source code) (StartsAt code begins) at) found
      → AnswersLabel code begins at n found
  by_label onward from (Some listed) here found is =
      let own = lists is_page_end code (length code) some.0 in
      record {
        start = some.0;
        onward = onward;
        own = own.0;
        starts = some.1;
        from = from;
        program = own.1;
        is = is ∙ ap (λ (o : Option ListedLine). position_of (option_or o (label_in n own.0))) here;
      }
  by_label onward from None none found is = record {
    start = is.start;
    onward = onward;
    own = is.own;
    starts = is.starts;
    from = from;
    program = is.program;
    is = none_or (label_in n onward) (label_in n is.own) found (sym (ap position_of none)) is.is;
  }

  pub labelled : (found : Option ℕ) → walk.AnswersLabel n (bytes_source code) (StartsAt code begins) at found
      → AnswersLabel code begins at n found
  labelled found is = by_label is.0 is.1 (label_in n is.0) refl found is.2
