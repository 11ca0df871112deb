-- The offsets where keystroke functions begin, one entry more at a time.
use Rattle.std.proofs.Common.{◌≡◌, ℕ, suc, zero, ◌+◌, ◌<◌, ◌≤◌, true, false, List, [], ◌∷◌, ◌++◌, map, length, cond, ap, sym, ◌∙◌, rules}
use Rattle.std.proofs.Common.{arith, append-nil, length-append}
use Rattle.std.specs.Prelude.{All}
use Rattle.std.specs.List.{filter, range_with_len}
use Rattle.std.proofs.lemmas.List.{map-append}
use Rattle.std.proofs.lemmas.List.Elements.{filter-append, All-push}
use Rattle.h41_pages.specs.Addresses.{page_size}
use Rattle.h41_pages.specs.FunctionTables.{entry_offset, is_keystroke}

-- The offsets of the keystroke functions of the entries before one.
abbrev pub offsets_before : List ℕ → ℕ → List ℕ
offsets_before words entry = map (entry_offset words) (filter (is_keystroke words) (range_with_len 0 entry))

range_more : (start count end : ℕ) → end ≡ start + count
    → range_with_len start (suc count) ≡ range_with_len start count ++ end ∷ []
range_more start zero end at = let e : start ≡ end = omega (arith, at) in ap (λ first. first ∷ []) e
range_more start (suc count) end at = ap (λ rest. start ∷ rest) (range_more (start + 1) count end (omega (arith, at)))

one_more : (words : List ℕ) (entry : ℕ)
    → offsets_before words (entry + 1)
    ≡ offsets_before words entry ++ map (entry_offset words) (cond (is_keystroke words entry) (entry ∷ []) [])
one_more words entry =
    let before = range_with_len 0 entry in
    let e : entry + 1 ≡ suc entry = omega arith in
    ap (offsets_before words) e
    ∙ ap (λ all. map (entry_offset words) (filter (is_keystroke words) all)) (range_more 0 entry entry (omega arith))
    ∙ ap (map (entry_offset words)) (filter-append (is_keystroke words) before (entry ∷ []))
    ∙ map-append (entry_offset words) (filter (is_keystroke words) before) (cond (is_keystroke words entry) (entry ∷ []) [])

-- The offsets of the entries so far, as the loop computes them.
pub record AreOffsets (words : List ℕ) (entry : ℕ) (offsets : List ℕ) : Type 0 where
  pub items : offsets ≡ offsets_before words entry
  pub count : length offsets ≤ entry
  pub bound : All (λ offset. offset < page_size) offsets

-- One more entry: of a keystroke function, and of microcode.
pub keystroke_more : (words : List ℕ) (entry : ℕ) (offsets : List ℕ) (offset : ℕ) → AreOffsets words entry offsets
    → is_keystroke words entry ≡ true → offset ≡ entry_offset words entry → offset < page_size
    → AreOffsets words (entry + 1) (offsets ++ offset ∷ [])
keystroke_more words entry offsets offset before is at below = record {
  items = ap (λ all. all ++ offset ∷ []) before.items ∙ ap (λ last. offsets_before words entry ++ last ∷ []) at
      ∙ sym (one_more words entry ∙ ap (λ b. offsets_before words entry ++ map (entry_offset words) (cond b (entry ∷ []) [])) is);
  count = omega (arith, before.count, length-append offsets (offset ∷ []));
  bound = All-push (λ offset. offset < page_size) offsets offset before.bound below;
}

pub microcode_more : (words : List ℕ) (entry : ℕ) (offsets : List ℕ) → AreOffsets words entry offsets
    → is_keystroke words entry ≡ false → AreOffsets words (entry + 1) offsets
microcode_more words entry offsets before is = search (rules, one_more, append-nil)
