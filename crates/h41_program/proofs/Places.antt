-- The place of the line at a position, by the first of the bytes that are examined there.
use Rattle.std.proofs.Common.{◌≡◌, ℕ, suc, ◌+◌, ◌-◌, ◌/◌, ◌%◌, ◌<◌, ◌≤◌, true, false, List, min, length, get_or, Option, Some, None, rules}
use Rattle.std.proofs.Common.{IfSome, IfNone, [], refl, sym, ◌∙◌, ap, subst, arith, inl, inr}
use Rattle.std.proofs.lemmas.Bool.{cases_eq}
use Rattle.std.proofs.lemmas.List.FromFn.{get_or-map-range_with_len, length-map-range_with_len}
use Rattle.h41_codes.specs.ByteGrammar.{BeginsNoLine}
use Rattle.h41_codes.specs.ByteLaws.{NumberBegins}
use Rattle.h41_codes.specs.Heads.{IsAlone, IsIn, IsOneByte, IsTwoBytes}
use Rattle.h41_codes.specs.declared.line.Line.TheVariants.{End, FinalEnd}
use Rattle.h41_codes.proofs.Beginnings as beginnings
use Rattle.h41_codes.proofs.Broken.{broken_af_b0, broken_at, broken_pair, broken_triple}
use Rattle.h41_ram.specs.RegisterMap.{RegisterMap}
use Rattle.h41_program.specs.ProgramBytes.{program_byte}
use Rattle.h41_program.specs.declared.reading.LinePlace.{LinePlace}
use Rattle.h41_program.specs.private.Reading.{bytes_seen, BeginsAt, BeginsNothing, BeginsSized, Fits}
use Rattle.h41_program.proofs.ByteLines.{ends_no_memory, ends_no_program}
use Rattle.h41_program.proofs.ShortLines.{begins_by, no_number, seen_alone}
use Rattle.h41_program.proofs.Sizes.{Bytes, end_sized, final_sized, label_sized, named_sized, number_sized, pair_sized, text_sized}
use Rattle.h41_program.proofs.Sizes.{triple_sized}

module _ (memory : RegisterMap) (at limit : ℕ) where
  abbrev seen : List ℕ
  seen = bytes_seen memory at limit

  pub seen_length : length seen ≡ min 18 (limit - at)
  seen_length = length-map-range_with_len (program_byte memory) at (min 18 (limit - at))

  pub seen_byte : (k : ℕ) → k < 18 → at + k < limit → get_or seen k 0 ≡ program_byte memory (at + k)
  seen_byte k few inside =
      get_or-map-range_with_len (program_byte memory) at (min 18 (limit - at)) k (at + k) 0 (omega (arith, few, inside)) refl

  pub seen_here : at < limit → get_or seen 0 0 ≡ program_byte memory at
  seen_here inside = seen_byte 0 (omega arith) (omega (arith, inside)) ∙ ap (program_byte memory) (omega arith)

  pub seen_bytes : (size : ℕ) → size ≤ 18 → at + size ≤ limit → ((k : ℕ) → at ≤ k → k < at + size → program_byte memory k < 256)
      → Bytes seen size
  seen_bytes size few inside all k below = search (rules, seen_byte)

  -- There is no line, because the bytes do not satisfy the condition of their first byte.
  pub nothing : BeginsNoLine seen → BeginsNothing memory at limit
  nothing broken line size begins = broken line size begins.spells

  -- The place of a line that ends neither a program nor memory.
  pub place_fits : (size : ℕ) (place : LinePlace) → Fits memory at limit size place → BeginsSized memory at limit size
      → BeginsAt memory at limit place
  place_fits size place fits line = search rules

  pub some_fits : (size : ℕ) (found : Option LinePlace) → IfSome found (λ place. Fits memory at limit size place)
      → (((place : LinePlace) → Fits memory at limit size place → BeginsSized memory at limit size))
      → IfSome found (λ place. BeginsAt memory at limit place)
  some_fits size None fits sized = tt
  some_fits size (Some place) fits sized = place_fits size place fits (sized place fits)

  pub none_fits : (size : ℕ) (found : Option LinePlace) → IfNone found (limit < at + size)
      → (limit < at + size → BeginsNothing memory at limit) → IfNone found (BeginsNothing memory at limit)
  none_fits size None cut lacks = lacks cut
  none_fits size (Some place) cut lacks = tt

  -- The place, by the first byte.
  module _ (before : at < limit) (byte : ℕ) (is : byte ≡ program_byte memory at) where
    first : get_or seen 0 0 ≡ byte
    first = seen_here before ∙ sym is

    pub pair_there : IsTwoBytes byte → (place : LinePlace) → Fits memory at limit 2 place → BeginsSized memory at limit 2
    pair_there two place fits =
        let inside = fits.inside in
        pair_sized seen (omega (arith, seen_length, inside)) (subst (λ (b : ℕ). IsTwoBytes b) (sym first) two)
        (seen_bytes 2 (omega arith) inside fits.bytes)

    pub pair_lacks : IsTwoBytes byte → limit < at + 2 → BeginsNothing memory at limit
    pair_lacks two cut =
        nothing (broken_pair seen (subst (λ (b : ℕ). IsTwoBytes b) (sym first) two) (omega (arith, seen_length, cut)))

    pub triple_there : 0xD0 ≤ byte → byte < 0xF0 → (place : LinePlace) → Fits memory at limit 3 place → BeginsSized memory at limit 3
    triple_there from below place fits =
        let inside = fits.inside in
        triple_sized seen (omega (arith, seen_length, inside)) (omega (arith, first, from)) (omega (arith, first, below))
        (seen_bytes 3 (omega arith) inside fits.bytes)

    pub triple_lacks : 0xD0 ≤ byte → byte < 0xF0 → limit < at + 3 → BeginsNothing memory at limit
    triple_lacks from below cut =
        nothing (broken_triple seen (omega (arith, first, from)) (omega (arith, first, below)) (omega (arith, seen_length, cut)))

    pub text_there : 0xF0 ≤ byte → byte < 256 → (size : ℕ) → size ≡ byte - 0xF0 + 1 → (place : LinePlace)
        → Fits memory at limit size place → BeginsSized memory at limit size
    text_there from below size long place fits =
        let inside = fits.inside in
        let n = byte - 0xF0 in
        let same : size ≡ suc n = omega (arith, long) in
        subst (λ (m : ℕ). BeginsSized memory at limit m) (sym same)
        (text_sized seen n (omega (arith, first, from)) (omega (arith, below)) (omega (arith, seen_length, inside, same, below))
        (subst (λ (m : ℕ). Bytes seen m) same (seen_bytes size (omega (arith, same, below)) inside fits.bytes)))

    pub text_lacks : 0xF0 ≤ byte → byte < 256 → (size : ℕ) → size ≡ byte - 0xF0 + 1 → limit < at + size → BeginsNothing memory at limit
    text_lacks from below size long cut =
        nothing (broken_at 15 0xF0 0x100 seen refl (omega (arith, first, from)) (omega (arith, first, below))
        (λ need. omega (arith, need, first, from, long, cut, seen_length)))

    pub never : 0xAF ≤ byte → byte < 0xB1 → BeginsNothing memory at limit
    never from below = nothing (broken_af_b0 seen (omega (arith, first, from)) (omega (arith, first, below)))

  -- A function with a text.
  module _ (before : at < limit) (range : IsIn 0x1D 0x20 (program_byte memory at)) where
    named_first : IsIn 0x1D 0x20 (get_or seen 0 0)
    named_first = subst (λ (b : ℕ). IsIn 0x1D 0x20 b) (sym (seen_here before)) range

    pub named_cut : limit < at + 2 → BeginsNothing memory at limit
    named_cut cut =
        nothing (broken_at 3 0x1D 0x20 seen refl named_first.0 named_first.1 (λ need. omega (arith, need.0, cut, seen_length)))

    module _ (second : ℕ) (is : second ≡ program_byte memory (at + 1)) (more : at + 1 < limit) where
      named_second : get_or seen 1 0 ≡ second
      named_second = seen_byte 1 (omega arith) more ∙ sym is

      pub named_low : second < 0xF0 → BeginsNothing memory at limit
      named_low low =
          nothing (broken_at 3 0x1D 0x20 seen refl named_first.0 named_first.1 (λ need. omega (arith, need.1, low, named_second)))

      pub named_there : 0xF0 ≤ second → second < 256 → (size : ℕ) → size ≡ second - 0xF0 + 2 → (place : LinePlace)
          → Fits memory at limit size place → BeginsSized memory at limit size
      named_there from below size long place fits =
          let inside = fits.inside in
          let n = second - 0xF0 in
          let same : size ≡ suc (suc n) = omega (arith, long) in
          subst (λ (m : ℕ). BeginsSized memory at limit m) (sym same)
          (named_sized seen n named_first (omega (arith, named_second, from)) (omega (arith, below))
          (omega (arith, seen_length, inside, same, below))
          (subst (λ (m : ℕ). Bytes seen m) same (seen_bytes size (omega (arith, same, below)) inside fits.bytes)))

      pub named_lacks : 0xF0 ≤ second → (size : ℕ) → size ≡ second - 0xF0 + 2 → limit < at + size → BeginsNothing memory at limit
      named_lacks from size long cut =
          nothing (broken_at 3 0x1D 0x20 seen refl named_first.0 named_first.1
          (λ need. omega (arith, need.2, named_second, from, long, cut, seen_length)))

  -- A global label, an END or .END.
  module _ (before : at < limit) (range : IsIn 0xC0 0xCE (program_byte memory at)) where
    linked_first : IsIn 0xC0 0xCE (get_or seen 0 0)
    linked_first = subst (λ (b : ℕ). IsIn 0xC0 0xCE b) (sym (seen_here before)) range

    pub linked_cut : limit < at + 3 → BeginsNothing memory at limit
    linked_cut cut =
        nothing (broken_at 12 0xC0 0xCE seen refl linked_first.0 linked_first.1 (λ need. omega (arith, need.0, cut, seen_length)))

    module _ (third : ℕ) (is : third ≡ program_byte memory (at + 2)) (more : at + 2 < limit) where
      linked_third : get_or seen 2 0 ≡ third
      linked_third = seen_byte 2 (omega arith) more ∙ sym is

      pub linked_none : third ≡ 0xF0 → BeginsNothing memory at limit
      linked_none none =
          nothing (broken_at 12 0xC0 0xCE seen refl linked_first.0 linked_first.1
          (λ need. let label = need.1 (omega (arith, linked_third, none)) in omega (arith, label.0, linked_third, none)))

      pub label_there : 0xF0 < third → third < 256 → (size : ℕ) → size ≡ third - 0xF0 + 3 → (place : LinePlace)
          → Fits memory at limit size place → BeginsSized memory at limit size
      label_there from below size long place fits =
          let inside = fits.inside in
          let n = third - 0xF1 in
          let same : size ≡ 4 + n = omega (arith, long, from) in
          subst (λ (m : ℕ). BeginsSized memory at limit m) (sym same)
          (label_sized seen n linked_first (omega (arith, linked_third, from)) (omega (arith, below))
          (omega (arith, seen_length, inside, same, below))
          (subst (λ (m : ℕ). Bytes seen m) same (seen_bytes size (omega (arith, same, below)) inside fits.bytes)))

      pub label_lacks : 0xF0 < third → (size : ℕ) → size ≡ third - 0xF0 + 3 → limit < at + size → BeginsNothing memory at limit
      label_lacks from size long cut =
          nothing (broken_at 12 0xC0 0xCE seen refl linked_first.0 linked_first.1
          (λ need. let label = need.1 (omega (arith, linked_third, from)) in
          omega (arith, label.1, linked_third, from, long, cut, seen_length)))

      three_bytes : program_byte memory at < 256 → program_byte memory (at + 1) < 256 → third < 256 → Bytes seen 3
      three_bytes own next last k below = elim (cases_eq k 0) [
        | inl zero ↦ omega (arith, ap (λ n. get_or seen n 0) zero, seen_here before, own)
        | inr some ↦ elim (cases_eq k 1) [
          | inl one ↦ omega (arith, ap (λ n. get_or seen n 0) one, seen_byte 1 (omega arith) (omega (arith, more)), next)
          | inr rest ↦
              let two : k ≡ 2 = omega (arith, below, some, rest) in
              omega (arith, ap (λ n. get_or seen n 0) two, linked_third, last)
        ]
      ]

      module _ (own : program_byte memory at < 256) (next : program_byte memory (at + 1) < 256)
          (last : third < 256) (low : third < 0xF0) where
        pub end_there : third / 32 % 2 ≡ 0
            → BeginsAt memory at limit (record { position = at; behind = at + 3; ends_program = true; ends_memory = false })
        end_there clear =
            let end =
            end_sized seen (omega (arith, seen_length, more)) linked_first (omega (arith, linked_third, low))
            (ap (λ b. b / 32 % 2) linked_third ∙ clear) (three_bytes own next last) in
            (End end.0 end.1, 3, end.2, refl)

        pub final_there : (third / 32 % 2 ≡ 0 → ⊥)
            → BeginsAt memory at limit (record { position = at; behind = at + 3; ends_program = false; ends_memory = true })
        final_there set =
            let end =
            final_sized seen (omega (arith, seen_length, more)) linked_first (omega (arith, linked_third, low))
            (λ clear. set (ap (λ b. b / 32 % 2) (sym linked_third) ∙ clear)) (three_bytes own next last) in
            (FinalEnd end.0 end.1, 3, end.2, refl)

  -- A number, with all bytes that can belong to it.
  pub number_there : (size : ℕ) → 1 ≤ size → size ≤ 16 → at + size ≤ limit
      → ((k : ℕ) → at ≤ k → k < at + size → IsIn 0x10 0x1D (program_byte memory k))
      → (at + size < limit → IsIn 0x10 0x1D (program_byte memory (at + size)) → size ≡ 16) → BeginsSized memory at limit size
  number_there size some most inside each whole = search (rules, number_sized, seen_length, seen_byte)

  -- A line of one byte.
  pub alone_there : NumberBegins → at < limit → (byte : ℕ) → byte ≡ program_byte memory at → IsOneByte byte → IsAlone byte
      → BeginsAt memory at limit (record { position = at; behind = at + 1; ends_program = false; ends_memory = false })
  alone_there numbers before byte is own line =
      let begins = (seen_alone {E = Unit {0}} beginnings.one_line numbers memory at limit byte line.0 1 before is (no_number byte own)
      (begins_by numbers byte [] line.0 line.1.valid line.1.same (no_number byte own)) line.0 1).0 refl in (
        line.0,
        1,
        begins,
        λ i. record {
          position = at;
          behind = at + 1;
          ends_program = ends_no_program byte line.0 line.1.same i;
          ends_memory = ends_no_memory byte line.0 line.1.same i;
        },
      )
