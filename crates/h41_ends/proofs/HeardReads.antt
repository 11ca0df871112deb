-- What was written before each read, while one line is read.
use Rattle.std.proofs.Common.{inr, ◌≡◌, ℕ, ◌≤◌, true, false, List, [], ◌∷◌, ◌++◌, length, Option, Some, None, refl, sym, subst, ap, ◌∙◌}
use Rattle.std.proofs.Common.{append_assoc, append-nil}
use Rattle.std.specs.Io.KnownBytes.{Keeps}
use Rattle.std.proofs.lemmas.Bool.{ltb-false}
use Rattle.std.proofs.lemmas.Grind.{flat_map-append}
use Rattle.std.proofs.lemmas.List.{take_all}
use Rattle.h41_lines.specs.Lines.{ended_lines}
use Rattle.h41_ends.specs.declared.input_lines.InputLines.{InputLines}
use Rattle.h41_ends.specs.Ends.{most_bytes}
use Rattle.h41_ends.specs.HeardLines.{AreMore, AreNone, ComesWith, Hears}
use Rattle.h41_ends.specs.InputLines.{HasRead, IsStopped, ReadsMore, told_lines}
use Rattle.h41_ends.specs.ReadEvents.{AddsReads, EachRead, ReadEvent, bytes_in}
use Rattle.h41_ends.proofs.EndedLines.{stopped_lines}
use Rattle.h41_ends.proofs.InputReading.{Reads, keeps-both}

-- Reads that are known, one list after the other.
pub adds_none : (known : Option (List ReadEvent)) → AddsReads known known []
adds_none None = tt
adds_none (Some reads) = sym (append-nil reads)

pub adds_both : (first second third : Option (List ReadEvent)) (xs ys : List ReadEvent) → AddsReads first second xs
    → AddsReads second third ys → AddsReads first third (xs ++ ys)
adds_both None second third xs ys p q = tt
adds_both (Some us) None third xs ys p q = absurd p
adds_both (Some us) (Some vs) None xs ys p q = absurd q
adds_both (Some us) (Some vs) (Some ws) xs ys p q =
    q ∙ ap (λ (front : List ReadEvent). front ++ ys) p ∙ append_assoc us xs ys

pub bytes_both : (xs ys : List ReadEvent) → bytes_in (xs ++ ys) ≡ bytes_in xs ++ bytes_in ys
bytes_both xs ys = flat_map-append (λ (read : ReadEvent). read.bytes) xs ys

-- A property of each read.
pub each_as : (fits others : List ℕ → ReadEvent → Type 0) → ((bytes : List ℕ) (read : ReadEvent) → fits bytes read → others bytes read)
    → (bytes : List ℕ) (reads : List ReadEvent) → EachRead fits bytes reads → EachRead others bytes reads
each_as fits others so bytes [] each = tt
each_as fits others so bytes (read ∷ reads) each =
    (so bytes read each.0, each_as fits others so (bytes ++ read.bytes) reads each.1)

pub each_both : (fits : List ℕ → ReadEvent → Type 0) (bytes : List ℕ) (xs ys : List ReadEvent) → EachRead fits bytes xs
    → EachRead fits (bytes ++ bytes_in xs) ys → EachRead fits bytes (xs ++ ys)
each_both fits bytes [] ys p q = subst (λ (front : List ℕ). EachRead fits front ys) (append-nil bytes) q
each_both fits bytes (x ∷ xs) ys p q = (
  p.0,
  each_both fits (bytes ++ x.bytes) xs ys p.1
      (subst (λ (front : List ℕ). EachRead fits front ys) (sym (append_assoc bytes x.bytes (bytes_in xs))) q),
)

module _ (fits : List (List ℕ) → Type 0) (known : Option (List ReadEvent)) (written : Option (List ℕ)) where
  -- No read was made.
  pub hears_still : (old new : InputLines) (told : List (List ℕ)) → Reads [] old new told → (old.at_end ≡ true → new.at_end ≡ true)
      → Hears fits known known written old new told
  hears_still old new told read stays = record {
    reads = [];
    added = adds_none known;
    read = read;
    each = λ first lines was. tt;
    stays = λ end. (stays end, refl);
  }

-- One read was made.
pub hears_one : (before after : Option (List ReadEvent)) (written : Option (List ℕ)) (old new : InputLines) (event : ReadEvent)
    → AddsReads before after (event ∷ []) → Keeps written event.written → event.flushed ≡ true → Reads event.bytes old new []
    → IsStopped old → old.is_over ≡ false → Hears AreNone before after written old new []
hears_one before after written old new event added kept flushed read stopped clear = record {
  reads = event ∷ [];
  added = added;
  read = λ first lines was.
      subst (λ (bytes : List ℕ). HasRead (first ++ bytes) (lines ++ []) new) (sym (append-nil event.bytes)) (read first lines was);
  each = λ first lines was.
      let short : length first ≤ most_bytes = ltb-false most_bytes (length first) (sym was.over ∙ clear) in
      let lines_are : told_lines (ended_lines first) ≡ lines ++ [] =
      ap (λ (bytes : List ℕ). told_lines (ended_lines bytes)) (sym (take_all most_bytes first short))
      ∙ stopped_lines first lines old was stopped ∙ sym (append-nil lines) in
      (record { within = short; kept = kept; flushed = flushed; ended = ([], refl, lines_are) }, tt);
  stays = λ end. let never : true ≡ false = sym end ∙ stopped.goes_on in cc;
}

-- Lines that satisfy one property satisfy another one too.
pub hears_as : (fits others : List (List ℕ) → Type 0) → ((lines : List (List ℕ)) → fits lines → others lines)
    → (before after : Option (List ReadEvent)) (written : Option (List ℕ)) (old new : InputLines) (told : List (List ℕ))
    → Hears fits before after written old new told → Hears others before after written old new told
hears_as fits others so before after written old new told hears = record {
  reads = hears.reads;
  added = hears.added;
  read = hears.read;
  each = λ first lines was.
      each_as (ComesWith written (AreMore fits lines)) (ComesWith written (AreMore others lines))
      (λ bytes read comes. record {
        within = comes.within;
        kept = comes.kept;
        flushed = comes.flushed;
        ended = (comes.ended.0, so comes.ended.0 comes.ended.1, comes.ended.2);
      }) first hears.reads (hears.each first lines was);
  stays = hears.stays;
}

-- What was read. The source that it was read from does not matter.
abbrev pub reads_of : {fits : List (List ℕ) → Type 0} {before after : Option (List ReadEvent)} {written : Option (List ℕ)}
    {old new : InputLines} {told : List (List ℕ)} → Hears fits before after written old new told → ReadsMore None None old new told
reads_of hears = record {
  bytes = bytes_in hears.reads;
  consumed = tt;
  read = hears.read;
  ended = λ end. inr tt;
  stays = λ end. ((hears.stays end).0, ap bytes_in (hears.stays end).1);
}

-- Both calls were made.
module _ (fits_one fits_other fits : List (List ℕ) → Type 0) (written between : Option (List ℕ)) (told : List (List ℕ))
    (as_one : (lines : List (List ℕ)) → fits_one lines → fits lines)
    (as_other : (lines : List (List ℕ)) → fits_other lines → fits (told ++ lines)) (kept : Keeps written between) where
  first_fits : (lines : List (List ℕ)) (bytes : List ℕ) (read : ReadEvent) → ComesWith written (AreMore fits_one lines) bytes read
      → ComesWith written (AreMore fits lines) bytes read
  first_fits lines bytes read comes = record {
    within = comes.within;
    kept = comes.kept;
    flushed = comes.flushed;
    ended = (comes.ended.0, as_one comes.ended.0 comes.ended.1, comes.ended.2);
  }

  second_fits : (lines : List (List ℕ)) (bytes : List ℕ) (read : ReadEvent)
      → ComesWith between (AreMore fits_other (lines ++ told)) bytes read → ComesWith written (AreMore fits lines) bytes read
  second_fits lines bytes read comes = record {
    within = comes.within;
    kept = keeps-both written between read.written kept comes.kept;
    flushed = comes.flushed;
    ended = (
      told ++ comes.ended.0,
      as_other comes.ended.0 comes.ended.1,
      comes.ended.2 ∙ append_assoc lines told comes.ended.0,
    );
  }

  pub hears_both : (first second third : Option (List ReadEvent)) (old mid new : InputLines) (more : List (List ℕ))
      → Hears fits_one first second written old mid told → Hears fits_other second third between mid new more
      → Hears fits first third written old new (told ++ more)
  hears_both first second third old mid new more p q = record {
    reads = p.reads ++ q.reads;
    added = adds_both first second third p.reads q.reads p.added q.added;
    read = λ bytes lines read.
        let both : (bytes ++ bytes_in p.reads) ++ bytes_in q.reads ≡ bytes ++ bytes_in (p.reads ++ q.reads) =
        append_assoc bytes (bytes_in p.reads) (bytes_in q.reads)
        ∙ ap (λ (rest : List ℕ). bytes ++ rest) (sym (bytes_both p.reads q.reads)) in
        subst (λ (all : List ℕ). HasRead all (lines ++ (told ++ more)) new) both
        (subst (λ (all : List (List ℕ)). HasRead ((bytes ++ bytes_in p.reads) ++ bytes_in q.reads) all new)
        (append_assoc lines told more)
        (q.read (bytes ++ bytes_in p.reads) (lines ++ told) (p.read bytes lines read)));
    each = λ bytes lines read.
        each_both (ComesWith written (AreMore fits lines)) bytes p.reads q.reads
        (each_as (ComesWith written (AreMore fits_one lines)) (ComesWith written (AreMore fits lines)) (first_fits lines) bytes p.reads
        (p.each bytes lines read))
        (each_as (ComesWith between (AreMore fits_other (lines ++ told))) (ComesWith written (AreMore fits lines)) (second_fits lines)
        (bytes ++ bytes_in p.reads) q.reads (q.each (bytes ++ bytes_in p.reads) (lines ++ told) (p.read bytes lines read)));
    stays = λ end.
        let before = p.stays end in
        let behind = q.stays before.0 in
        (behind.0, (λ i. before.1 i ++ behind.1 i));
  }

-- Two calls, of which the first returns no line.
pub hears_on : (first second third : Option (List ReadEvent)) (written between : Option (List ℕ)) (old mid new : InputLines)
    (more : List (List ℕ)) → Keeps written between → Hears AreNone first second written old mid []
    → Hears AreNone second third between mid new more → Hears AreNone first third written old new more
hears_on first second third written between old mid new more kept p q =
    hears_both AreNone AreNone AreNone written between [] (λ lines none. none) (λ lines none. none) kept first second third old mid new more
    p q
