-- Keystroke code begins with a label exactly if its bytes say so.
use Rattle.std.proofs.Common.{◌≡◌, ℕ, suc, zero, ◌+◌, ◌-◌, ◌*◌, ◌<◌, ◌≤◌, ◌↔◌, Bool, true, List, [], ◌∷◌, ◌++◌, map, rules}
use Rattle.std.proofs.Common.{length, take, drop, Option, Some, None, Result, Ok, Err, refl, sym, ◌∙◌, ap, subst, arith, length-append}
use Rattle.std.proofs.Common.{length-take-le, take-append-drop}
use Rattle.std.specs.Bool.{then_some}
use Rattle.std.proofs.lemmas.Grind.{common_steps}
use Rattle.std.proofs.lemmas.List.{take_at}
use Rattle.h41_codes.specs.ByteGrammar.{spelling, link_high, link_low, IsBytes, Begins}
use Rattle.h41_codes.specs.declared.line.Line.{Line}
use Rattle.h41_codes.specs.declared.line.Line.TheVariants.{GlobalLabel}
use Rattle.h41_pages.specs.FunctionLaws.{BeginsLabel}
use Rattle.h41_pages.specs.KeystrokeCode.{code_byte, is_label, label_name}
use Rattle.h41_pages.specs.private.Labels.{name_of}

-- The keystroke code of words consists of bytes, and so do its first bytes.
are_bytes : (words : List ℕ) (count : ℕ) → IsBytes (take count (map code_byte words))
are_bytes words zero index inside = absurd (omega (arith, inside))
are_bytes [] (suc count) index inside = absurd (omega (arith, inside))
are_bytes (word ∷ words) (suc count) zero inside = omega arith
are_bytes (word ∷ words) (suc count) (suc index) inside = are_bytes words count index (omega (arith, inside))

-- A test that passes has the tested value.
taken : (b : Bool) (name own : List ℕ) → then_some b own ≡ Some name → (b ≡ true) × (own ≡ name)
taken b name own same = grind arith

-- The four bytes before a name, and the name.
front : (first second third key : ℕ) (behind : List ℕ) (n : ℕ) → n ≤ length behind
    → take (4 + n) (first ∷ second ∷ third ∷ key ∷ behind) ≡ first ∷ second ∷ third ∷ key ∷ take n behind
front first second third key behind n inside = let e : 4 + n ≡ suc (suc (suc (suc n))) = omega arith in rw e refl

begins : (first second third key : ℕ) (behind name : List ℕ) → second < 256 → third < 256 → key < 256 → is_label first third behind ≡ true
    → take (third - 0xF1) behind ≡ name → IsBytes name → BeginsLabel (first ∷ second ∷ third ∷ key ∷ behind) name
begins first second third key behind name low_second low_third low_key is own bytes =
    let link = (first - 0xC0) * 256 + second in
    let n = third - 0xF1 in
    let from : 0xC0 ≤ first = grind (arith, common_steps, is) in
    let to : first ≤ 0xCD = grind (arith, common_steps, is) in
    let some : 0xF1 ≤ third = grind (arith, common_steps, is) in
    let inside : n ≤ length behind = grind (arith, common_steps, is) in
    let size : length name ≡ n = ap length (sym own) ∙ length-take-le n behind inside in
    let a : link_high link ≡ first = omega arith in
    let b : link_low link ≡ second = omega arith in
    let d : 0xF1 + length name ≡ third = omega arith in
    let all : take (4 + n) (first ∷ second ∷ third ∷ key ∷ behind) ≡ first ∷ second ∷ third ∷ key ∷ take n behind =
    front first second third key behind n inside in
    let same : take (4 + n) (first ∷ second ∷ third ∷ key ∷ behind) ≡ spelling (GlobalLabel link key name) = cc in (
      link,
      key,
      4 + n,
      record {
        inside = omega arith;
        spells = record { valid = (omega arith, low_key, record { fits = omega arith; bytes = bytes }); same = same };
        whole = tt;
      },
    )

pub has_label : (words name : List ℕ) → label_name (map code_byte words) ≡ Some name → BeginsLabel (map code_byte words) name
has_label [] name same = cc
has_label (a ∷ []) name same = cc
has_label (a ∷ b ∷ []) name same = cc
has_label (a ∷ b ∷ c ∷ []) name same = cc
has_label (a ∷ b ∷ c ∷ d ∷ words) name same = search (rules, taken, begins, are_bytes)

-- Bytes that begin with a label have its name.
spelled : (link key : ℕ) (name rest : List ℕ) → link < 3584 → label_name (spelling (GlobalLabel link key name) ++ rest) ≡ Some name
spelled link key name rest fits = search (rules, common_steps, length-append, take_at)

pub label_has : (bytes name : List ℕ) → BeginsLabel bytes name → label_name bytes ≡ Some name
label_has bytes name (link, key, count, label) =
    ap label_name (sym (take-append-drop count bytes) ∙ ap (λ line. line ++ drop count bytes) label.spells.same)
    ∙ spelled link key name (drop count bytes) label.spells.valid.0

-- The name of a line that was read.
abbrev pub name_read : {E : Type 0} → Result (Line × ℕ) E → Option (List ℕ)
name_read (Ok found) = name_of found.0
name_read (Err fault) = None

label_line : (line : Line) (name : List ℕ) → name_of line ≡ Some name → (link : ℕ) × (key : ℕ) × (line ≡ GlobalLabel link key name)
label_line line name same = grind arith

none_read : (line : Line) (own : Option (List ℕ)) → name_of line ≡ own → ((name : List ℕ) → own ≡ Some name → ⊥) → name_of line ≡ None
none_read line own same none = grind arith

-- The name of the line that was read is that of the code.
named : {E : Type 0} (words : List ℕ) (result : Result (Line × ℕ) E)
    → ((line : Line) (count : ℕ) → (result ≡ Ok (line, count)) ↔ Begins (map code_byte words) line count)
    → (own : Option (List ℕ)) → label_name (map code_byte words) ≡ own → name_read result ≡ own
named words result means (Some name) own =
    let (link, key, count, label) = has_label words name own in
    ap name_read ((means (GlobalLabel link key name) count).1 label)
named words (Ok found) means None own =
    none_read found.0 (name_of found.0) refl (λ name same.
    let (link, key, is) = label_line found.0 name same in
    let label : Begins (map code_byte words) (GlobalLabel link key name) found.1 =
    subst (λ (line : Line). Begins (map code_byte words) line found.1) is ((means found.0 found.1).0 refl) in
    let some = label_has (map code_byte words) name (link, key, found.1, label) in cc)
named words (Err fault) means None own = refl

pub name_is_read : {E : Type 0} (words : List ℕ) (result : Result (Line × ℕ) E)
    → ((line : Line) (count : ℕ) → (result ≡ Ok (line, count)) ↔ Begins (map code_byte words) line count)
    → name_read result ≡ label_name (map code_byte words)
name_is_read words result means = named words result means (label_name (map code_byte words)) refl
