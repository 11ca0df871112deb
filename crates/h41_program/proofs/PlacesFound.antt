-- The first line from a position on, by the line with which the bytes there begin.
use Rattle.std.proofs.Common.{◌≡◌, ℕ, ◌+◌, ◌-◌, ◌<◌, ◌≤◌, true, List, [], map, min, length, take, get_or, Option, Some, None, Result, Ok}
use Rattle.std.proofs.Common.{Err, IfSome, IfNone, refl, sym, ◌∙◌, ap, subst, arith, inl, inr, length-take-le, rules}
use Rattle.std.specs.List.{range_with_len}
use Rattle.std.proofs.Math.ListN.{drop_of_length-le}
use Rattle.std.proofs.lemmas.Bool.{cases_lt}
use Rattle.std.proofs.lemmas.List.{get_or-take, take-take}
use Rattle.std.proofs.lemmas.List.FromFn.{length-map-range_with_len, take-map-range_with_len}
use Rattle.h41_codes.specs.ByteGrammar.{spelling, AnswersLine, Begins, IsComplete}
use Rattle.h41_codes.specs.ByteLaws.{OneLine}
use Rattle.h41_codes.proofs.LineLengths.{spelling_least}
use Rattle.h41_codes.specs.declared.line.Line.{Line}
use Rattle.h41_codes.specs.declared.line.Line.TheVariants.{Number}
use Rattle.h41_ram.specs.RegisterMap.{RegisterMap, is_sound}
use Rattle.h41_program.specs.ProgramBytes.{byte_count, program_byte, program_bytes, final_position}
use Rattle.h41_program.specs.FirstLines.{line_bytes}
use Rattle.h41_program.specs.ProgramLines.{HasFirst, HasNoLine, HasPlace}
use Rattle.h41_program.specs.declared.reading.LinePlace.{LinePlace}
use Rattle.h41_program.specs.private.Reading.{bytes_seen, BeginsAt, BeginsNothing}
use Rattle.h41_program.proofs.FirstLines.{first_inside}
use Rattle.h41_program.proofs.Memory.{Looked, looked_first, looked_none, no_error, ok_line, window_bytes}
use Rattle.h41_program.proofs.Places.{seen_byte}
use Rattle.h41_program.proofs.ShortLines.{answers_alone}
use Rattle.h41_program.proofs.Sound.{bounds}
use Rattle.h41_program.proofs.Windows.{begins_in, begins_most}

module _ (one : OneLine) (memory : RegisterMap) (sound : is_sound memory ≡ true) (at p last limit : ℕ)
    (looked : Looked memory at p last limit (bytes_seen memory p limit)) where
  pub some_place : (found : Option LinePlace) → IfSome found (λ place. BeginsAt memory p limit place)
      → IfSome found (λ place. HasPlace memory at place)
  some_place None found = tt
  some_place (Some place) found =
      let answer : Result (Line × ℕ) (Unit {0}) = Ok (found.0, found.1) in
      let has : HasFirst memory at (record { listed = record { position = p; line = found.0 }; behind = p + found.1 }) =
      looked_first one memory sound at p last limit (bytes_seen memory p limit) looked answer
      (answers_alone one (bytes_seen memory p limit) found.0 found.1 found.2) found.0 found.1 (p + found.1) refl refl in
      subst (λ (there : LinePlace). HasPlace memory at there) (sym found.3) (found.0, has, refl, refl)

  answers_none : BeginsNothing memory p limit → AnswersLine {E = Unit {0}} (Err tt) (bytes_seen memory p limit)
  answers_none lacks line size =
      ((λ same. absurd (no_error (line, size) tt (sym same))), (λ begins. absurd (lacks line size begins)))

  pub none_place : (found : Option LinePlace) → IfNone found (BeginsNothing memory p limit) → IfNone found (HasNoLine memory at)
  none_place None lacks =
      let answer : Result (Line × ℕ) (Unit {0}) = Err tt in
      looked_none one memory sound at p last limit (bytes_seen memory p limit) looked answer (answers_none lacks) tt refl
  none_place (Some place) lacks = tt

-- The bytes of the line are among those that are examined.
pub some_behind : (memory : RegisterMap) (p limit most : ℕ) → limit ≤ most → p ≤ limit → (found : Option LinePlace)
    → IfSome found (λ place. BeginsAt memory p limit place) → IfSome found (λ place. place.behind ≤ most)
some_behind memory p limit most few from inside found = search (rules, length-map-range_with_len)

-- The bytes of a line alone begin with it.
whole_alone : (line : Line) → IsComplete line []
whole_alone (Number characters) = λ goes. absurd goes
whole_alone line = tt

pub begins_own : (bytes : List ℕ) (line : Line) (size : ℕ) → Begins bytes line size → Begins (take size bytes) line size
begins_own bytes line size begins = search (rules, length-take-le, take-take, drop_of_length-le, whole_alone)

-- The bytes of a place begin with its line.
module _ (memory : RegisterMap) (sound : is_sound memory ≡ true) (at p next : ℕ) (line : Line)
    (has : HasFirst memory at (record { listed = record { position = p; line = line }; behind = next })) where
  abbrev final : ℕ
  final = final_position memory

  abbrev taken : List ℕ
  taken = line_bytes (program_bytes memory) final p

  count : byte_count memory ≡ final + 3
  count = let order = (bounds memory sound).order in omega (arith, order)

  abbrev size : ℕ
  size = length (spelling line)

  inside : p ≤ final
  inside = first_inside (program_bytes memory) final at (record { position = p; line = line }) has.first

  -- The end of the bytes that the line may take.
  end_of_bytes : (end : ℕ) × (p < final → end ≡ final) × (p ≡ final → end ≡ final + 3)
  end_of_bytes = elim (cases_lt p final) [
    | inl before ↦ (final, (λ _. refl), (λ here. absurd (omega (arith, before, here))))
    | inr last ↦ (final + 3, (λ before. absurd (omega (arith, before, last))), (λ _. refl))
  ]

  pub place_begins : Begins (bytes_seen memory p next) line (next - p)
  place_begins =
      let end = end_of_bytes in
      let f = program_byte memory in
      let m = min 18 (end.0 - p) in
      let window = window_bytes f (byte_count memory) final p end.0 count inside end.1 end.2 in
      let begins = begins_in taken line size has.first.begins in
      let own = begins_own (take 18 taken) line size begins in
      let most = begins_most taken line size has.first.begins in
      let long : length (take 18 taken) ≡ m = ap length window ∙ length-map-range_with_len f p m in
      let few : size ≤ m = let less = begins.inside in omega (arith, less, long) in
      let span : next - p ≡ size = let behind = has.behind in omega (arith, behind) in
      let wide : size ≡ min 18 (next - p) = omega (arith, span, most) in
      let same : take size (take 18 taken) ≡ bytes_seen memory p next =
      ap (take size) window ∙ take-map-range_with_len f p m size few ∙ ap (λ n. map f (range_with_len p n)) wide in
      subst (λ (n : ℕ). Begins (bytes_seen memory p next) line n) (sym span)
      (subst (λ (bytes : List ℕ). Begins bytes line size) same own)

  -- The bytes of a place are those of memory.
  pub place_byte : (k : ℕ) → p + k < next → get_or (spelling line) k 0 ≡ program_byte memory (p + k)
  place_byte k below = search (rules, place_begins, begins_most, get_or-take, seen_byte)

  pub place_some : p < next
  place_some = search (rules, spelling_least)

  pub place_inside : next ≤ byte_count memory
  place_inside = search (rules, inside, length-map-range_with_len)

  pub place_from_to : p ≤ next
  place_from_to = let behind = has.behind in omega (arith, behind)

-- A line that is decoded from them is the same.
pub same_answer : {E : Type 0} (bytes : List ℕ) (line other : Line) (size count : ℕ) (result : Result (Line × ℕ) E) → Begins bytes line size
    → AnswersLine result bytes → result ≡ Ok (other, count) → other ≡ line
same_answer bytes line other size count result begins answers is = search (rules, count, ok_line)
