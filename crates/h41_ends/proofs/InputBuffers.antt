-- The bytes in the buffer of an input.
use Rattle.std.proofs.Common.{inl, inr, ◌≡◌, ℕ, ◌+◌, ◌-◌, ◌<◌, ◌≤◌, ◌==◌, List, [], ◌++◌, length, slice_index, take, drop, min, sym, ap}
use Rattle.std.proofs.Common.{◌∙◌, arith, length-append, length-take, length-drop, refl}
use Rattle.std.specs.List.{copy_within}
use Rattle.std.specs.Str.Lines.{strip_carriage_return}
use Rattle.std.proofs.lemmas.Bool.{cases_Bool, cond-true, cond-false}
use Rattle.std.proofs.lemmas.List.{drop-drop, drop-take, drop_all, take_all}
use Rattle.std.proofs.lemmas.List.Edits.{take-paste}
use Rattle.std.proofs.Math.Seq.{take-append-add}
use Rattle.std.proofs.lemmas.Slice.{take-put_mid, take-put_mid_below}
use borrow.Rule.Slice.PartMut.{put_mid}
use Rattle.h41_ends.proofs.InputReading.{front_of}
use Rattle.h41_ends.proofs.ToldLines.{take_within}

-- The bytes between two indices.
between_is : (buffer : List ℕ) (start stop : ℕ) → start ≤ stop → drop start (take stop buffer) ≡ take (stop - start) (drop start buffer)
between_is buffer start stop order =
    ap (λ (k : ℕ). drop start (take k buffer)) (omega (arith, order)) ∙ drop-take start (stop - start) buffer

pub between_long : (buffer : List ℕ) (start stop : ℕ) → start ≤ stop → stop ≤ length buffer
    → length (drop start (take stop buffer)) ≡ stop - start
between_long buffer start stop order within = omega (arith, length-drop start (take stop buffer), length-take stop buffer, order, within)

stripped_front : (line : List ℕ) → strip_carriage_return line ≡ take (length (strip_carriage_return line)) line
stripped_front line = elim (cases_Bool (slice_index line (length line - 1) == 13)) [
  | inl ends ↦
      let is : strip_carriage_return line ≡ take (length line - 1) line = cond-true _ _ _ ends in
      is ∙ ap (λ (k : ℕ). take k line) (omega (arith, ap length is, length-take (length line - 1) line))
  | inr other ↦
      let is : strip_carriage_return line ≡ line = cond-false _ _ _ other in
      is ∙ sym (take_all _ line (omega (arith, ap length is)))
]

stripped_short : (line : List ℕ) → length (strip_carriage_return line) ≤ length line
stripped_short line = omega (arith, ap length (stripped_front line), length-take (length (strip_carriage_return line)) line)

-- The last line.
pub last_line : (buffer : List ℕ) (start stop most : ℕ) → start ≤ stop → stop ≤ length buffer
    → drop start (take (start + min (stop - start) most) buffer) ≡ take most (drop start (take stop buffer))
last_line buffer start stop most order within =
    drop-take start (min (stop - start) most) buffer
    ∙ sym (front_of most (stop - start) (drop start buffer) (omega (arith, length-drop start buffer, within, order)))
    ∙ ap (take most) (sym (between_is buffer start stop order))

-- A line with its line end.
pub line_told : (buffer : List ℕ) (start stop end long most : ℕ) → start ≤ stop → stop ≤ length buffer → end < stop - start
    → long ≡ length (strip_carriage_return (take end (drop start (take stop buffer))))
    → drop start (take (start + min long most) buffer) ≡ take most (strip_carriage_return (take end (drop start (take stop buffer))))
line_told buffer start stop end long most order within inside is =
    let x = drop start buffer in
    let held = drop start (take stop buffer) in
    let front : take end held ≡ take end x =
    ap (take end) (between_is buffer start stop order)
    ∙ take_within end (stop - start) x (omega (arith, inside)) (omega (arith, length-drop start buffer, within, order)) in
    let line = take end x in
    let same : strip_carriage_return (take end held) ≡ strip_carriage_return line = ap strip_carriage_return front in
    let size : long ≡ length (strip_carriage_return line) = is ∙ ap length same in
    let short : long ≤ end = omega (arith, size, stripped_short line, length-take end x) in
    let whole : strip_carriage_return line ≡ take long x =
    stripped_front line ∙ ap (λ (k : ℕ). take k line) (sym size)
    ∙ take_within long end x short (omega (arith, length-drop start buffer, within, order, inside)) in
    drop-take start (min long most) buffer
    ∙ sym (front_of most long x (omega (arith, short, length-drop start buffer, within, order, inside)))
    ∙ ap (take most) (sym whole ∙ sym same)

pub held_behind : (buffer : List ℕ) (start stop end : ℕ) → drop (start + (end + 1)) (take stop buffer) ≡ drop (end + 1) (drop start (take
    stop buffer))
held_behind buffer start stop end = sym (drop-drop (end + 1) start (take stop buffer))

pub nothing_behind : (buffer : List ℕ) (stop : ℕ) → drop stop (take stop buffer) ≡ []
nothing_behind buffer stop = drop_all stop (take stop buffer) (omega (arith, length-take stop buffer))

-- The bytes that are moved to the start of the buffer.
pub moved_front : (buffer : List ℕ) (start stop most kept : ℕ) → start ≤ stop → stop ≤ length buffer → kept ≡ min (stop - start) most
    → take kept (copy_within buffer start (start + kept) 0) ≡ take most (drop start (take stop buffer))
moved_front buffer start stop most kept order within is =
    let moved : take (0 + ((start + kept) - start)) (copy_within buffer start (start + kept) 0)
    ≡ take 0 buffer ++ take ((start + kept) - start) (drop start buffer) =
    take-paste buffer 0 (drop start buffer) ((start + kept) - start) (omega arith) (omega (
      arith,
      length-drop start buffer,
      within,
      order,
      is,
    )) in
    let size : kept ≡ 0 + ((start + kept) - start) = omega arith in
    let front : (start + kept) - start ≡ min (stop - start) most = omega (arith, is) in
    ap (λ (k : ℕ). take k (copy_within buffer start (start + kept) 0)) size ∙ moved
    ∙ ap (λ (k : ℕ). take k (drop start buffer)) front
    ∙ sym (front_of most (stop - start) (drop start buffer) (omega (arith, length-drop start buffer, within, order)))
    ∙ ap (take most) (sym (between_is buffer start stop order))

-- The bytes that were read after them.
pub read_behind : (buffer tail : List ℕ) (end more taken : ℕ) → end ≤ length buffer → taken ≤ length tail
    → take (end + taken) (put_mid end more buffer tail) ≡ take end buffer ++ take taken tail
read_behind buffer tail end more taken within fits =
    let all : take (end + length tail) (put_mid end more buffer tail) ≡ take end buffer ++ tail = take-put_mid end more buffer tail _ refl
    within in
    let front : take (end + taken) (take (end + length tail) (put_mid end more buffer tail)) ≡ take (end + taken) (put_mid end more buffer
    tail) =
    take_within (end + taken) (end + length tail) (put_mid end more buffer tail) (omega (arith, fits)) (omega (
      arith,
      ap length all,
      length-append (take end buffer) tail,
      length-take end buffer,
      length-take (end + length tail) (put_mid end more buffer tail),
      within,
    )) in
    let place : end + taken ≡ length (take end buffer) + taken = omega (arith, length-take end buffer, within) in
    sym front ∙ ap (take (end + taken)) all
    ∙ ap (λ (k : ℕ). take k (take end buffer ++ tail)) place
    ∙ take-append-add (take end buffer) tail taken

pub held_more : (buffer tail front : List ℕ) (start end more taken : ℕ) → start ≡ 0 → end ≤ length buffer → taken ≤ length tail
    → drop start (take end buffer) ≡ front → drop start (take (end + taken) (put_mid end more buffer tail)) ≡ front ++ take taken tail
held_more buffer tail front start end more taken zero within fits held =
    ap (λ (k : ℕ). drop k (take (end + taken) (put_mid end more buffer tail))) zero ∙ read_behind buffer tail end more taken within fits
    ∙ ap (λ (part : List ℕ). part ++ take taken tail) (ap (λ (k : ℕ). drop k (take end buffer)) (sym zero) ∙ held)

pub held_kept : (buffer tail front : List ℕ) (start end more : ℕ) → end ≤ length buffer → drop start (take end buffer) ≡ front
    → drop start (take end (put_mid end more buffer tail)) ≡ front
held_kept buffer tail front start end more within held =
    ap (drop start) (take-put_mid_below end more buffer tail end (omega arith) within) ∙ held
