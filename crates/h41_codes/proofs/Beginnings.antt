-- Bytes begin with one line at most; how to prove that they begin with a line.
use Rattle.std.proofs.Common.{◌≡◌, ℕ, suc, zero, ◌+◌, ◌-◌, ◌*◌, ◌<◌, ◌≤◌, ◌↔◌, List, [], ◌∷◌, ◌++◌, length, take, drop, get_or, refl, sym}
use Rattle.std.proofs.Common.{◌∙◌, ap, subst, arith, Result, Ok, Err, IfOk, OnErr, IsErr, length-append, length-take-le, take-append-drop}
use Rattle.std.proofs.lemmas.Bool.{false≢true}
use Rattle.std.proofs.lemmas.List.{take_at, length-drop}
use Rattle.std.proofs.Math.Seq.{drop-append_seam}
use Rattle.h41_codes.specs.declared.line.Line.{Line}
use Rattle.h41_codes.specs.declared.line.Line.TheVariants.{GlobalLabel}
use Rattle.h41_codes.specs.Heads.{IsIn}
use Rattle.h41_codes.specs.ByteGrammar.{spelling, link_high, link_low, GoesOn, IsBytes, IsLine, IsComplete, Spells, Begins, BeginsNoLine}
use Rattle.h41_codes.proofs.Reading.{line_at, line_again}

-- The bytes are those of the line and the rest.
pub parted : (bytes : List ℕ) (line : Line) (count : ℕ) → Spells (take count bytes) line → bytes ≡ spelling line ++ drop count bytes
parted bytes line count spelled = sym (take-append-drop count bytes) ∙ ap (λ front. front ++ drop count bytes) spelled.same

-- The line that bytes begin with.
pub line_of : (bytes : List ℕ) (line : Line) (count : ℕ) → Begins bytes line count → line_at bytes ≡ line
line_of bytes line count begins =
    ap line_at (parted bytes line count begins.spells) ∙ line_again line (drop count bytes) begins.spells.valid begins.whole

pub length_of : (bytes : List ℕ) (line : Line) (count : ℕ) → Begins bytes line count → length (spelling line) ≡ count
length_of bytes line count begins = ap length (sym begins.spells.same) ∙ length-take-le count bytes begins.inside

-- There is only one such line.
pub one_line : (bytes : List ℕ) (line other : Line) (count size : ℕ) → Begins bytes line count → Begins bytes other size
    → (line ≡ other) × (count ≡ size)
one_line bytes line other count size first second =
    let same : line ≡ other = sym (line_of bytes line count first) ∙ line_of bytes other size second in
    (same, sym (length_of bytes line count first) ∙ ap (λ l. length (spelling l)) same ∙ length_of bytes other size second)

same_answer : {E : Type 0} (line other : Line) (count size : ℕ) → line ≡ other → count ≡ size
    → let answer : Line → ℕ → Result (Line × ℕ) E = λ l n. Ok (l, n) in answer line count ≡ answer other size
same_answer line other count size first second = λ i. Ok (first i, second i)

-- The result of a decoder is the line that the bytes begin with.
pub answers_line : {E : Type 0} (bytes : List ℕ) (result : Result (Line × ℕ) E) → IfOk result (λ found. Begins bytes found.0 found.1)
    → OnErr result (BeginsNoLine bytes) → (line : Line) (count : ℕ) → (result ≡ Ok (line, count)) ↔ Begins bytes line count
answers_line {E} bytes (Ok found) begins broken line count = (
  (λ same. let first : found.0 ≡ line = cc in let second : found.1 ≡ count = cc in
      subst (λ (n : ℕ). Begins bytes line n) second (subst (λ (l : Line). Begins bytes l found.1) first begins)),
  (λ other.
      let one = one_line bytes found.0 line found.1 count begins other in
      same_answer found.0 line found.1 count one.0 one.1),
)
answers_line {E} bytes (Err fault) begins broken line count =
    ((λ same. cc), (λ other. absurd (broken line count other.spells)))

-- Bytes whose first ones are those of a line begin with it.
pub begins_by : (bytes : List ℕ) (line : Line) (count : ℕ) → count ≤ length bytes → IsLine line → spelling line ≡ take count bytes
    → IsComplete line (drop count bytes) → Begins bytes line count
begins_by bytes line count inside valid same whole =
    record { inside = inside; spells = record { valid = valid; same = sym same }; whole = whole }

-- The bytes of a line begin with it, whatever follows.
pub begins_spelled : (line : Line) (rest : List ℕ) → IsLine line → IsComplete line rest
    → Begins (spelling line ++ rest) line (length (spelling line))
begins_spelled line rest valid whole = record {
  inside = omega (arith, length-append (spelling line) rest);
  spells = record { valid = valid; same = take_at (spelling line) rest (length (spelling line)) refl };
  whole = subst (λ (bytes : List ℕ). IsComplete line bytes) (sym (drop-append_seam (spelling line) rest)) whole;
}

pub take_four_and : (bytes : List ℕ) (n : ℕ) → 4 ≤ length bytes
    → take (4 + n) bytes ≡ get_or bytes 0 0 ∷ get_or bytes 1 0 ∷ get_or bytes 2 0 ∷ get_or bytes 3 0 ∷ take n (drop 4 bytes)
take_four_and [] n inside = absurd (omega arith)
take_four_and (a ∷ []) n inside = absurd (omega arith)
take_four_and (a ∷ b ∷ []) n inside = absurd (omega arith)
take_four_and (a ∷ b ∷ c ∷ []) n inside = absurd (omega arith)
take_four_and (a ∷ b ∷ c ∷ d ∷ bytes) n inside =
    let e : 4 + n ≡ suc (suc (suc (suc n))) = omega arith in rw e refl

pub answers_broken : {E : Type 0} (bytes : List ℕ) (result : Result (Line × ℕ) E) → IfOk result (λ found. Begins bytes found.0 found.1)
    → OnErr result (BeginsNoLine bytes) → IsErr result ↔ BeginsNoLine bytes
answers_broken bytes (Ok found) begins broken = ((λ none. absurd (false≢true none)), (λ none. absurd (none found.0 found.1 begins.spells)))
answers_broken bytes (Err fault) begins broken = ((λ is. broken), (λ none. refl))

-- Bytes that begin with a global label.
pub begins_label : (bytes : List ℕ) (link size : ℕ) (name : List ℕ) → 0xC0 ≤ get_or bytes 0 0 → get_or bytes 0 0 < 0xCE
    → get_or bytes 1 0 < 256 → link ≡ (get_or bytes 0 0 - 0xC0) * 256 + get_or bytes 1 0 → 0xF0 ≤ get_or bytes 2 0 → get_or bytes 2 0 < 256
    → get_or bytes 3 0 < 256 → size ≡ get_or bytes 2 0 - 0xF0 → 4 ≤ 3 + size → 3 + size ≤ length bytes
    → name ≡ take (3 + size - 4) (drop 4 bytes) → IsBytes name → Begins bytes (GlobalLabel link (get_or bytes 3 0) name) (3 + size)
begins_label bytes link size name from below second linked label third key sized some inside named characters =
    let n = 3 + size - 4 in
    let count : length name ≡ n = ap length named ∙ length-take-le n (drop 4 bytes) (omega (arith, length-drop 4 bytes)) in
    let a : link_high link ≡ get_or bytes 0 0 = omega arith in
    let b : link_low link ≡ get_or bytes 1 0 = omega arith in
    let d : 0xF1 + length name ≡ get_or bytes 2 0 = omega arith in
    let front : take (4 + n) bytes ≡ get_or bytes 0 0 ∷ get_or bytes 1 0 ∷ get_or bytes 2 0 ∷ get_or bytes 3 0 ∷ take n (drop 4 bytes) =
    take_four_and bytes n (omega arith) in
    let all : 4 + n ≡ 3 + size = omega arith in
    let spelled : spelling (GlobalLabel link (get_or bytes 3 0) name) ≡ take (4 + n) bytes = cc in
    begins_by bytes (GlobalLabel link (get_or bytes 3 0) name) (3 + size) inside
    (omega arith, key, record { fits = omega arith; bytes = characters })
    (spelled ∙ ap (λ k. take k bytes) all) tt

-- Bytes that begin with a number.
goes_on : (bytes : List ℕ) (n : ℕ) → GoesOn (drop n bytes) → (n < length bytes) × IsIn 0x10 0x1D (get_or bytes n 0)
goes_on [] zero on = absurd on
goes_on [] (suc n) on = absurd on
goes_on (code ∷ bytes) zero on = (omega arith, (on.0, omega (arith, on.1)))
goes_on (code ∷ bytes) (suc n) on = let more = goes_on bytes n on in (omega (arith, more.0), more.1)
