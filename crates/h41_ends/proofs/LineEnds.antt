-- The first line end of a text, by the bytes before it.
use Rattle.std.proofs.Common.{inl, inr, ◌≡◌, ℕ, ◌+◌, ◌-◌, ◌<◌, ◌≤◌, ◌%◌, ◌^◌, Bool, true, false, cond, eqb, get_or, List, length, map}
use Rattle.std.proofs.Common.{not, drop, take, replicate, Some, None, refl, sym, ap, ◌∙◌, arith, w8}
use Rattle.std.specs.List.{position, position_or_len}
use Rattle.std.specs.Int.{bit_at}
use Rattle.std.specs.Simd.Lanes.{mask_l, top, zip2}
use Rattle.std.proofs.Math.ListN.{get_or-map}
use Rattle.std.proofs.lemmas.Bool.{cases_lt, cond-false, cond-true, le-ltb, lt-ltb, ne_eqb}
use Rattle.std.proofs.lemmas.List.{get_or-drop, length-drop, length-take-le}
use Rattle.std.proofs.lemmas.List.Sums.{fails_before_first, passes_at_first, position_or_len_is, prefix_len-le-length}
use Rattle.std.proofs.lemmas.Simd.{bit_mask_l, bitmask_splat}
use Rattle.h41_lines.proofs.Positions.{position_none, position_some}

abbrev pub is_end_byte : ℕ → Bool
is_end_byte byte = eqb byte 10

-- No line ends before this index.
abbrev pub NoneBefore : List ℕ → ℕ → Type 0
NoneBefore text at = (k : ℕ) → k < at → is_end_byte (get_or text k 0) ≡ false

-- The bit of each of the first bytes.
pub bit_of_byte : (text : List ℕ) (k : ℕ) → 16 ≤ length text
    → bit_at (mask_l (map (top 7) (zip2 (λ a b. cond (eqb a b) 255 0) (take 16 text) (replicate 16 10))) % 2 ^ 64) k
    ≡ cond (is_end_byte (get_or (take 16 text) k 0)) 1 0
bit_of_byte text k long =
    ap (λ (m : ℕ). bit_at m k) (bitmask_splat w8 eqb (take 16 text) 16 10 (length-take-le 16 text long) (omega arith))
    ∙ bit_mask_l (map is_end_byte (take 16 text)) k ∙ ap (λ (b : Bool). cond b 1 0) (get_or-map is_end_byte (take 16 text) k 0)

pub set_is_end : (b : Bool) → cond {A = ℕ} b 1 0 ≡ 1 → b ≡ true
set_is_end true e = refl
set_is_end false e = cc

-- The line ends at the first index that was found.
pub ends_at : (text : List ℕ) (at : ℕ) → at < length text → NoneBefore text at → is_end_byte (get_or text at 0) ≡ true
    → Some at ≡ position is_end_byte text
ends_at text at within none here =
    let first : position_or_len is_end_byte text ≡ at =
    position_or_len_is is_end_byte text at 0 (omega arith) none (λ l. here) in
    ap (λ (n : ℕ). Some n) (sym first)
    ∙ sym (cond-true _ _ _ (lt-ltb (position_or_len is_end_byte text) (length text) (omega (arith, first))))

-- If there is no line end before an index, the search goes on after it.
pub ends_behind : (text : List ℕ) (at : ℕ) → at ≤ length text → NoneBefore text at
    → position_or_len is_end_byte text ≡ at + position_or_len is_end_byte (drop at text)
ends_behind text at within none =
    let n = position_or_len is_end_byte (drop at text) in
    let most = prefix_len-le-length (λ byte. not (is_end_byte byte)) (drop at text) in
    position_or_len_is is_end_byte text (at + n) 0 (omega (arith, most, length-drop at text))
    (λ k l. elim (cases_lt k at) [
      | inl before ↦ none k before
      | inr behind ↦
          let same : at + (k - at) ≡ k = omega arith in
          ap (λ (i : ℕ). is_end_byte (get_or text i 0)) (sym same) ∙ ap is_end_byte (sym (get_or-drop at text (k - at) 0))
          ∙ fails_before_first is_end_byte (drop at text) (k - at) 0 (omega arith)
    ])
    (λ l.
    ap is_end_byte (sym (get_or-drop at text n 0))
    ∙ passes_at_first is_end_byte (drop at text) 0 (omega (arith, length-drop at text)))

-- What is found after that index is the first line end, and if nothing is found there is none.
pub found_behind : (text : List ℕ) (at : ℕ) (end : ℕ) → at ≤ length text → NoneBefore text at
    → Some end ≡ position is_end_byte (drop at text) → Some (at + end) ≡ position is_end_byte text
found_behind text at end within none found =
    let here = position_some is_end_byte (drop at text) end found in
    let first : position_or_len is_end_byte text ≡ at + end = ends_behind text at within none ∙ ap (λ (n : ℕ). at + n) (sym here.0) in
    ap (λ (n : ℕ). Some n) (sym first)
    ∙ sym (cond-true _ _ _ (lt-ltb (position_or_len is_end_byte text) (length text) (omega (arith, first, here.1, length-drop at text))))

pub none_behind : (text : List ℕ) (at : ℕ) → at ≤ length text → NoneBefore text at → None ≡ position is_end_byte (drop at text)
    → None ≡ position is_end_byte text
none_behind text at within none found =
    let past = position_none is_end_byte (drop at text) found in
    let end : position_or_len is_end_byte text ≡ length text =
    ends_behind text at within none ∙ omega (arith, past, length-drop at text) in
    sym (cond-false _ _ _ (le-ltb (position_or_len is_end_byte text) (length text) (omega (arith, end))))

-- There is no line end in the bytes that were compared.
pub none_more : (text : List ℕ) (at n : ℕ) → NoneBefore text at
    → ((k : ℕ) → k < n → is_end_byte (get_or (drop at text) k 0) ≡ false) → NoneBefore text (at + n)
none_more text at n none more k l = elim (cases_lt k at) [
  | inl before ↦ none k before
  | inr behind ↦
      let same : at + (k - at) ≡ k = omega arith in
      ap (λ (i : ℕ). is_end_byte (get_or text i 0)) (sym same) ∙ ap is_end_byte (sym (get_or-drop at text (k - at) 0))
      ∙ more (k - at) (omega arith)
]

-- A bit that is not set belongs to a byte that is not LF.
pub other_byte : (bit byte : ℕ) → bit ≡ 0 → (byte ≡ 10 → bit ≡ 1) → is_end_byte byte ≡ false
other_byte bit byte unset set = ne_eqb byte 10 (λ same. absurd (omega (arith, unset, set same)))
