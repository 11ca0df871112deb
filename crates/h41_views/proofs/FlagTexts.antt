-- The numbers of flags, one after the other.
use Rattle.std.proofs.Common.{◌≡◌, ℕ, suc, ◌+◌, Bool, true, false, List, [], ◌∷◌, ◌++◌, map, filter, length, refl, sym, ap, ◌∙◌}
use Rattle.std.proofs.Common.{arith, append_assoc, cond, append-nil}
use Rattle.std.specs.List.{join_with_byte, range_with_len}
use Rattle.std.proofs.lemmas.List.Elements.{filter-append}
use Rattle.h41_ram.specs.RegisterMap.{RegisterMap, flag_of}
use Rattle.h41_views.proofs.Ranges.{range_more}
use Rattle.h41_lines.specs.Characters.{two_digits}
use Rattle.h41_views.specs.Views.{flags_below}

-- A text, followed by a space if it is not empty.
abbrev parted : List ℕ → List ℕ
parted [] = []
parted (byte ∷ bytes) = (byte ∷ bytes) ++ 32 ∷ []

abbrev joined : List ℕ → List ℕ
joined numbers = join_with_byte 32 (map two_digits numbers)

-- One more piece after others.
joined-more : (first : ℕ) (numbers : List ℕ) (last : ℕ)
    → joined ((first ∷ numbers) ++ last ∷ []) ≡ joined (first ∷ numbers) ++ 32 ∷ two_digits last
joined-more first [] last = refl
joined-more first (second ∷ numbers) last =
    ap (λ rest. two_digits first ++ 32 ∷ rest) (joined-more second numbers last)

below-more : (ram : RegisterMap) (flag : ℕ)
    → filter (flag_of ram) (range_with_len 0 (suc flag))
    ≡ filter (flag_of ram) (range_with_len 0 flag) ++ cond (flag_of ram flag) (flag ∷ []) []
below-more ram flag =
    let at : 0 + flag ≡ flag = omega arith in
    ap (filter (flag_of ram)) (range_more 0 flag ∙ ap (λ n. range_with_len 0 flag ++ n ∷ []) at)
    ∙ filter-append (flag_of ram) (range_with_len 0 flag) (flag ∷ [])

parted-joined : (numbers : List ℕ) (last : ℕ) → joined (numbers ++ last ∷ []) ≡ parted (joined numbers) ++ two_digits last
parted-joined [] last = refl
parted-joined (first ∷ []) last = refl
parted-joined (first ∷ second ∷ numbers) last =
    joined-more first (second ∷ numbers) last ∙ sym (append_assoc (joined (first ∷ second ∷ numbers)) (32 ∷ []) (two_digits last))

-- A flag that is clear changes nothing.
pub clear_flag : (ram : RegisterMap) (flag next : ℕ) → next ≡ flag + 1 → flag_of ram flag ≡ false
    → flags_below next ram ≡ flags_below flag ram
clear_flag ram flag next e clear =
    let at : next ≡ suc flag = omega arith in
    ap (λ n. flags_below n ram) at
    ∙ ap joined
    (below-more ram flag ∙ ap (λ (b : Bool). filter (flag_of ram) (range_with_len 0 flag) ++ cond b (flag ∷ []) []) clear ∙ append-nil _)

-- A flag that is set is the last, after a space if others precede it.
set_flag : (ram : RegisterMap) (flag next : ℕ) → next ≡ flag + 1 → flag_of ram flag ≡ true
    → flags_below next ram ≡ parted (flags_below flag ram) ++ two_digits flag
set_flag ram flag next e on =
    let at : next ≡ suc flag = omega arith in
    ap (λ n. flags_below n ram) at
    ∙ ap joined (below-more ram flag ∙ ap (λ (b : Bool). filter (flag_of ram) (range_with_len 0 flag) ++ cond b (flag ∷ []) []) on)
    ∙ parted-joined (filter (flag_of ram) (range_with_len 0 flag)) flag

parted-some : (text : List ℕ) → (length text ≡ 0 → ⊥) → parted text ≡ text ++ 32 ∷ []
parted-some [] some = absurd (some refl)
parted-some (byte ∷ bytes) some = refl

parted-none : (text : List ℕ) → length text ≡ 0 → parted text ≡ text
parted-none [] none = refl
parted-none (byte ∷ bytes) none = absurd (omega (arith, none))

pub first_flag : (ram : RegisterMap) (flag next : ℕ) (before text : List ℕ) → next ≡ flag + 1 → flag_of ram flag ≡ true
    → before ≡ flags_below flag ram → length before ≡ 0 → text ≡ before ++ two_digits flag → text ≡ flags_below next ram
first_flag ram flag next before text e on is none added =
    added ∙ ap (λ front. front ++ two_digits flag) (sym (parted-none before none) ∙ ap parted is) ∙ sym (set_flag ram flag next e on)

pub next_flag : (ram : RegisterMap) (flag next : ℕ) (before text : List ℕ) → next ≡ flag + 1 → flag_of ram flag ≡ true
    → before ≡ flags_below flag ram → (length before ≡ 0 → ⊥) → text ≡ (before ++ 32 ∷ []) ++ two_digits flag → text ≡ flags_below next ram
next_flag ram flag next before text e on is some added =
    added ∙ ap (λ front. front ++ two_digits flag) (sym (parted-some before some) ∙ ap parted is) ∙ sym (set_flag ram flag next e on)
