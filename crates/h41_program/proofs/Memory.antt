-- The lines of sound memory.
use Rattle.std.proofs.Common.{◌≡◌, ◌≢◌, ℕ, ◌+◌, ◌-◌, ◌<◌, ◌≤◌, true, List, map, min, length, take, get_or, sym, ◌∙◌, ap, subst, arith}
use Rattle.std.proofs.Common.{Result, Ok, Err, rules}
use Rattle.std.specs.List.{range_with_len}
use Rattle.std.proofs.lemmas.List.FromFn.{get_or-map-range_with_len, length-map-range_with_len, take-map-range_with_len}
use Rattle.std.proofs.lemmas.List.{length-take, length-drop}
use Rattle.h41_codes.specs.ByteGrammar.{spelling, Begins, AnswersLine}
use Rattle.h41_codes.specs.ByteLaws.{OneLine}
use Rattle.h41_codes.specs.declared.line.Line.{Line}
use Rattle.h41_ram.specs.RegisterMap.{RegisterMap, is_sound}
use Rattle.h41_program.specs.declared.listed_line.ListedLine.{ListedLine}
use Rattle.h41_program.specs.ProgramBytes.{byte_count, program_byte, program_bytes, final_position}
use Rattle.h41_program.specs.FirstLines.{line_bytes, FirstFrom}
use Rattle.h41_program.specs.ProgramLines.{HasFirst, HasNoLine}
use Rattle.h41_program.proofs.FirstLines.{line_bytes-below, line_bytes-at, Passed, stands_there, found_first}
use Rattle.h41_program.proofs.Sound.{final_byte}
use Rattle.h41_program.proofs.Windows.{drop-map-range, take-window, begins_count, begins_least, begins_in, begins_out}

-- The bytes that are examined.
pub window_bytes : (f : ℕ → ℕ) (n final p limit : ℕ) → n ≡ final + 3 → p ≤ final → (p < final → limit ≡ final)
    → (p ≡ final → limit ≡ final + 3)
    → take 18 (line_bytes (map f (range_with_len 0 n)) final p) ≡ map f (range_with_len p (min 18 (limit - p)))
window_bytes f n final p limit count inside below last =
    search (rules, line_bytes-below, drop-map-range, take-map-range_with_len, take-window, line_bytes-at)

-- The byte at a position.
pub byte_there : (memory : RegisterMap) (k : ℕ) → k < byte_count memory → get_or (program_bytes memory) k 0 ≡ program_byte memory k
byte_there memory k inside = get_or-map-range_with_len (program_byte memory) 0 (byte_count memory) k k 0 inside (omega arith)

-- Nulls that were skipped.
pub passed_nulls : (memory : RegisterMap) (at p : ℕ) → final_position memory + 3 ≡ byte_count memory → at ≤ p → p ≤ final_position memory
    → ((k : ℕ) → at ≤ k → k < p → program_byte memory k ≡ 0) → (p < final_position memory → program_byte memory p ≢ 0)
    → Passed (program_bytes memory) (final_position memory) at p
passed_nulls memory at p count from to nulls stop = search (rules, byte_there, length-map-range_with_len)

-- The byte after them is no null, because memory ends in .END.
pub stops_there : (memory : RegisterMap) (p : ℕ) → is_sound memory ≡ true → final_position memory + 3 ≡ byte_count memory
    → p ≤ final_position memory → (p < final_position memory → program_byte memory p ≢ 0) → get_or (program_bytes memory) p 0 ≢ 0
stops_there memory p sound count to stop = search (rules, byte_there, final_byte)

-- A line has no more bytes than there are.
line_takes : (bytes : List ℕ) (final p : ℕ) (line : Line) (size : ℕ) → p ≤ final → final ≤ length bytes
    → Begins (line_bytes bytes final p) line size → p + size ≤ length bytes
line_takes bytes final p line size inside all begins = search (rules, line_bytes-below, length-take, length-drop, line_bytes-at)

-- An answer contains one line.
pub ok_line : {E : Type 0} (one other : Line) (size count : ℕ) → ◌≡◌ {A = Result (Line × ℕ) E} (Ok (one, size)) (Ok (other, count))
    → one ≡ other
ok_line one other size count same = search rules

pub no_error : {E : Type 0} (answer : Line × ℕ) (error : E) → ◌≡◌ {A = Result (Line × ℕ) E} (Ok answer) (Err error) → ⊥
no_error answer error same = cc

-- A line that was decoded is the first one.
module _ {E : Type 0} (one : OneLine) (memory : RegisterMap)
    (sound : is_sound memory ≡ true) (count : final_position memory + 3 ≡ byte_count memory)
    (at p : ℕ) (passed : Passed (program_bytes memory) (final_position memory) at p) (other : get_or (program_bytes memory) p 0 ≢ 0)
    (window : List ℕ) (same : take 18 (line_bytes (program_bytes memory) (final_position memory) p) ≡ window)
    (result : Result (Line × ℕ) E) (answer : AnswersLine result window) where
  abbrev pub taken : List ℕ
  taken = line_bytes (program_bytes memory) (final_position memory) p

  pub decoded : (line : Line) (size : ℕ) → result ≡ Ok (line, size) → Begins taken line size
  decoded line size is =
      begins_out taken line size (subst (λ (bytes : List ℕ). Begins bytes line size) (sym same) ((answer line size).0 is))

  pub decoded_other : (first : ListedLine) → FirstFrom (program_bytes memory) (final_position memory) at first
      → result ≡ Ok (first.line, length (spelling first.line))
  decoded_other first is =
      let here = stands_there one (program_bytes memory) (final_position memory) at p passed first is in
      let begins : Begins taken first.line (length (spelling first.line)) =
      subst (λ (n : ℕ). Begins (line_bytes (program_bytes memory) (final_position memory) n) first.line (length (spelling first.line)))
      here is.begins in
      (answer first.line (length (spelling first.line))).1
      (subst (λ (bytes : List ℕ). Begins bytes first.line (length (spelling first.line)))
      same (begins_in taken first.line (length (spelling first.line)) begins))

  line_inside : (line : Line) (size : ℕ) → Begins taken line size → p + size ≤ length (program_bytes memory)
  line_inside line size begins = line_takes (program_bytes memory) (final_position memory) p line size passed.to passed.inside begins

  pub is_first : (line : Line) (size next : ℕ) → result ≡ Ok (line, size) → next ≡ p + size
      → HasFirst memory at (record { listed = record { position = p; line = line }; behind = next })
  is_first line size next is sum =
      let begins = decoded line size is in
      let long = begins_count taken line size begins in
      let least = begins_least taken line size begins in
      record {
        first = found_first (program_bytes memory) (final_position memory) at p line size passed other begins;
        one = λ first is_other.
            let here = stands_there one (program_bytes memory) (final_position memory) at p passed first is_other in
            let same_result = sym (decoded_other first is_other) ∙ is in
            let same_line = ok_line first.line line (length (spelling first.line)) size same_result in
            (λ i. record { position = here i; line = same_line i });
        behind = sum ∙ ap (λ n. p + n) long;
        inside = subst (λ (n : ℕ). n ≤ length (program_bytes memory)) (sym sum) (line_inside line size begins);
        onward = omega (arith, sum, least, passed.from);
      }

  pub none_first : (error : E) → result ≡ Err error → HasNoLine memory at
  none_first error is first is_first = no_error (first.line, length (spelling first.line)) error (sym (decoded_other first is_first) ∙ is)

-- The facts about a search for a line: the position of the last three bytes, the end of the nulls, and the bytes that are examined.
pub record Looked (memory : RegisterMap) (at p last limit : ℕ) (window : List ℕ) : Type 0 where
  pub last_is : last ≡ final_position memory
  pub count : last + 3 ≡ byte_count memory
  pub from : at ≤ p
  pub to : p ≤ last
  pub nulls : (k : ℕ) → at ≤ k → k < p → program_byte memory k ≡ 0
  pub stop : p < last → program_byte memory p ≢ 0
  pub before : p < last → limit ≡ last
  pub behind : p ≡ last → limit ≡ last + 3
  pub bytes : window ≡ map (program_byte memory) (range_with_len p (min 18 (limit - p)))

module _ {E : Type 0} (one : OneLine) (memory : RegisterMap) (sound : is_sound memory ≡ true) (at p last limit : ℕ) (window : List ℕ)
    (looked : Looked memory at p last limit window) (result : Result (Line × ℕ) E) (answer : AnswersLine result window) where
  count : final_position memory + 3 ≡ byte_count memory
  count = ap (λ n. n + 3) (sym looked.last_is) ∙ looked.count

  inside : p ≤ final_position memory
  inside = subst (λ (n : ℕ). p ≤ n) looked.last_is looked.to

  stops : p < final_position memory → program_byte memory p ≢ 0
  stops before = looked.stop (subst (λ (n : ℕ). p < n) (sym looked.last_is) before)

  passed : Passed (program_bytes memory) (final_position memory) at p
  passed = passed_nulls memory at p count looked.from inside looked.nulls stops

  same : take 18 (line_bytes (program_bytes memory) (final_position memory) p) ≡ window
  same = search (rules, window_bytes, count, inside)

  pub looked_first : (line : Line) (size next : ℕ) → result ≡ Ok (line, size) → next ≡ p + size
      → HasFirst memory at (record { listed = record { position = p; line = line }; behind = next })
  looked_first = is_first one memory sound count at p passed (stops_there memory p sound count inside stops) window same result answer

  pub looked_none : (error : E) → result ≡ Err error → HasNoLine memory at
  looked_none = none_first one memory sound count at p passed (stops_there memory p sound count inside stops) window same result answer
