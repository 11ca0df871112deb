-- The bytes that were read of an input and the lines that were returned, over several calls.
use Rattle.std.proofs.Common.{◌≡◌, inl, inr, ℕ, ◌+◌, ◌-◌, ◌<◌, ◌≤◌, Bool, true, false, nat_lt, List, [], ◌∷◌, ◌++◌, length, take, drop, min}
use Rattle.std.proofs.Common.{◌==◌, Option, Some, None, IfSome, refl, sym, subst, ap, ◌∙◌, arith, append_assoc, append-nil, length-append}
use Rattle.std.proofs.Common.{if◌then◌else◌, length-take}
use Rattle.std.specs.List.{position}
use Rattle.std.specs.Io.KnownBytes.{Consumes, IsAtEnd, Keeps}
use Rattle.std.specs.Str.Lines.{strip_carriage_return}
use Rattle.std.proofs.lemmas.Bool.{cases_Bool, cases_lt, lt-ltb, le-ltb, ltb-true, ltb-false}
use Rattle.std.proofs.lemmas.List.{take_all}
use Rattle.std.proofs.Math.Seq.{take-append-add}
use Rattle.h41_ends.specs.declared.input_lines.InputLines.{InputLines}
use Rattle.h41_ends.specs.Ends.{GivesTooMany, GivesWithin, given_after, most_bytes}
use Rattle.h41_ends.specs.InputLines.{CountsOn, HasRead, IsCounted, IsStopped, IsUnended, MayFollow, ReadsMore, bytes_within, held_in}
use Rattle.h41_ends.specs.InputLines.{line_if, line_in, read_count, told_lines, told_part}
use Rattle.h41_ends.specs.private.ReadingOn.{IsSameReading, ReachesEnd, TellsEnded, TellsLast}
use Rattle.h41_ends.proofs.ToldLines.{take_within, told_ended, told_last, told_shortened, unended_front}

-- No byte was read.
consumes-none : (known new : Option (List ℕ)) → Keeps known new → Consumes known new []
consumes-none None new kept = tt
consumes-none (Some xs) None kept = absurd kept
consumes-none (Some xs) (Some ys) kept = sym kept

pub keeps-known : (known : Option (List ℕ)) → Keeps known known
keeps-known None = tt
keeps-known (Some xs) = refl

pub consumes-nothing : (known : Option (List ℕ)) → Consumes known known []
consumes-nothing known = consumes-none known known (keeps-known known)

pub consumes-both : (first second third : Option (List ℕ)) (xs ys : List ℕ) → Consumes first second xs → Consumes second third ys
    → Consumes first third (xs ++ ys)
consumes-both None second third xs ys p q = tt
consumes-both (Some us) None third xs ys p q = absurd p
consumes-both (Some us) (Some bs) None xs ys p q = absurd q
consumes-both (Some us) (Some bs) (Some cs) xs ys p q = p ∙ ap (λ (rest : List ℕ). xs ++ rest) q ∙ sym (append_assoc xs ys cs)

pub keeps-both : (first second third : Option (List ℕ)) → Keeps first second → Keeps second third → Keeps first third
keeps-both None second third p q = tt
keeps-both (Some us) None third p q = absurd p
keeps-both (Some us) (Some bs) None p q = absurd q
keeps-both (Some us) (Some bs) (Some cs) p q = q ∙ p

-- The bytes read and the lines returned, with these bytes and lines added.
abbrev pub Reads : List ℕ → InputLines → InputLines → List (List ℕ) → Type 0
Reads bytes old new told =
    (first : List ℕ) (lines : List (List ℕ)) → HasRead first lines old → HasRead (first ++ bytes) (lines ++ told) new

-- One more line.
pub line_read : (old new : InputLines) (n : ℕ) → Some n ≡ position (λ byte. byte == 10) (held_in old) → TellsEnded old n new
    → Reads [] old new (line_in new ∷ [])
line_read old new n at tells first lines read = record {
  count = tells.same.count ∙ read.count ∙ ap (λ (bytes : List ℕ). length (bytes_within bytes)) (sym (append-nil first));
  over = tells.same.over ∙ read.over ∙ ap (λ (bytes : List ℕ). nat_lt most_bytes (length bytes)) (sym (append-nil first));
  others = λ more may.
      ap (λ (bytes : List ℕ). told_lines (bytes_within bytes ++ more)) (append-nil first)
      ∙ read.others more (subst (λ (ended : Bool). MayFollow ended more) tells.same.at_end may)
      ∙ ap (λ (rest : List (List ℕ)). lines ++ rest) (told_ended (held_in old) more n at)
      ∙ sym (append_assoc lines (told_part (strip_carriage_return (take n (held_in old))) ∷ []) (told_lines (drop (n + 1) (held_in old)
      ++ more)))
      ∙ (λ i. (lines ++ sym tells.line i ∷ []) ++ told_lines (sym tells.held i ++ more));
}

pub reads_line : (known : Option (List ℕ)) (old new : InputLines) (n : ℕ) → Some n ≡ position (λ byte. byte == 10) (held_in old)
    → TellsEnded old n new → ReadsMore known known old new (line_in new ∷ [])
reads_line known old new n at tells = record {
  bytes = [];
  consumed = consumes-none known known (keeps-known known);
  read = line_read old new n at tells;
  ended = λ end. inl (sym tells.same.at_end ∙ end);
  stays = λ end. (tells.same.at_end ∙ end, refl);
}

none_left : (bytes : List ℕ) → length bytes ≤ 0 → bytes ≡ []
none_left [] short = refl
none_left (byte ∷ bytes) short = absurd (omega (arith, short))

known_end : (known after : Option (List ℕ)) → IsAtEnd after → IfSome known (λ all. IsAtEnd after)
known_end None after end = tt
known_end (Some all) after end = end

same_test : (a b c d : ℕ) → (a < b → c < d) → (b ≤ a → d ≤ c) → nat_lt a b ≡ nat_lt c d
same_test a b c d less more = elim (cases_lt a b) [
  | inl is ↦ lt-ltb a b is ∙ sym (lt-ltb c d (less is))
  | inr is ↦ le-ltb a b is ∙ sym (le-ltb c d (more is))
]

-- The last line, or none.
last_told : (old new : InputLines) (said : Bool) (more : List ℕ) → IsUnended (held_in old) → TellsLast old said new → more ≡ []
    → told_lines (held_in old ++ more) ≡ line_if said new ++ told_lines (held_in new ++ more)
last_told old new said more none tells end =
    let before : told_lines (held_in old ++ more) ≡ told_lines (held_in old) =
    ap (λ (rest : List ℕ). told_lines (held_in old ++ rest)) end ∙ ap told_lines (append-nil (held_in old)) in
    let behind : told_lines (held_in new ++ more) ≡ [] = λ i. told_lines (tells.held i ++ end i) in
    elim said as (λ (it : Bool). it ≡ nat_lt 0 (length (held_in old)) → told_lines (held_in old ++ more) ≡ line_if it new ++ told_lines
    (held_in new ++ more)) [
      | true ↦ λ is.
          before ∙ told_last (held_in old) none (ltb-true 0 (length (held_in old)) (sym is))
          ∙ (λ i. sym tells.line i ∷ sym behind i)
      | false ↦ λ is.
          let empty : held_in old ≡ [] = none_left (held_in old) (ltb-false 0 (length (held_in old)) (sym is)) in
          before ∙ ap told_lines empty ∙ sym behind
    ] tells.said

pub last_read : (old new : InputLines) (said : Bool) → old.at_end ≡ false → IsUnended (held_in old) → TellsLast old said new
    → Reads [] old new (line_if said new)
last_read old new said goes none tells first lines read = record {
  count = tells.count ∙ read.count ∙ ap (λ (bytes : List ℕ). length (bytes_within bytes)) (sym (append-nil first));
  over = tells.over ∙ read.over ∙ ap (λ (bytes : List ℕ). nat_lt most_bytes (length bytes)) (sym (append-nil first));
  others = λ more may.
      let no_more : more ≡ [] = subst (λ (ended : Bool). MayFollow ended more) tells.at_end may in
      ap (λ (bytes : List ℕ). told_lines (bytes_within bytes ++ more)) (append-nil first)
      ∙ read.others more (subst (λ (ended : Bool). MayFollow ended more) (sym goes) tt)
      ∙ ap (λ (rest : List (List ℕ)). lines ++ rest) (last_told old new said more none tells no_more)
      ∙ sym (append_assoc lines (line_if said new) (told_lines (held_in new ++ more)));
}

pub reads_last : (known : Option (List ℕ)) (old new : InputLines) (said : Bool) → old.at_end ≡ false → ReachesEnd known old
    → TellsLast old said new → ReadsMore known known old new (line_if said new)
reads_last known old new said goes end tells = record {
  bytes = [];
  consumed = consumes-none known known (keeps-known known);
  read = last_read old new said goes end.unended tells;
  ended = λ at. inr end.known_end;
  stays = λ at. let never : true ≡ false = sym at ∙ goes in cc;
}

-- Nothing was read.
pub nothing_read : (input : InputLines) → Reads [] input input []
nothing_read input first lines read =
    subst (λ (bytes : List ℕ). HasRead bytes (lines ++ []) input) (sym (append-nil first))
    (subst (λ (told : List (List ℕ)). HasRead first told input) (sym (append-nil lines)) read)

pub reads_nothing : (known : Option (List ℕ)) (input : InputLines) → ReadsMore known known input input []
reads_nothing known input = record {
  bytes = [];
  consumed = consumes-none known known (keeps-known known);
  read = nothing_read input;
  ended = λ end. inl end;
  stays = λ end. (end, refl);
}

-- A read failed after the buffered bytes were shortened.
pub failed_read : (old new : InputLines) → IsUnended (held_in old) → held_in new ≡ take 202 (held_in old) → IsSameReading old new
    → Reads [] old new []
failed_read old new none held same first lines read = record {
  count = same.count ∙ read.count ∙ ap (λ (bytes : List ℕ). length (bytes_within bytes)) (sym (append-nil first));
  over = same.over ∙ read.over ∙ ap (λ (bytes : List ℕ). nat_lt most_bytes (length bytes)) (sym (append-nil first));
  others = λ more may.
      ap (λ (bytes : List ℕ). told_lines (bytes_within bytes ++ more)) (append-nil first)
      ∙ read.others more (subst (λ (ended : Bool). MayFollow ended more) same.at_end may)
      ∙ ap (λ (rest : List (List ℕ)). lines ++ rest) (told_shortened (held_in old) more none)
      ∙ (λ i. sym (append-nil lines) i ++ told_lines (sym held i ++ more));
}

pub reads_failed : (known after : Option (List ℕ)) (old new : InputLines) → IsUnended (held_in old) → old.at_end ≡ false
    → held_in new ≡ take 202 (held_in old) → IsSameReading old new → Keeps known after → ReadsMore known after old new []
reads_failed known after old new none goes held same kept = record {
  bytes = [];
  consumed = consumes-none known after kept;
  read = failed_read old new none held same;
  ended = λ end. inl (sym same.at_end ∙ end);
  stays = λ end. let never : true ≡ false = sym end ∙ goes in cc;
}

pub stopped_short : (old new : InputLines) → IsUnended (held_in old) → old.at_end ≡ false → held_in new ≡ take 202 (held_in old)
    → new.at_end ≡ old.at_end → IsStopped new
stopped_short old new none goes held same = record {
  unended = ap (position (λ byte. byte == 10)) held ∙ unended_front 202 (held_in old) none;
  goes_on = same ∙ goes;
}

-- Both calls read bytes.
pub end_stays : (known middle after : Option (List ℕ)) (xs ys : List ℕ) → Consumes known middle xs → IfSome known (λ all. IsAtEnd middle)
    → Consumes middle after ys → ys ≡ [] → IfSome known (λ all. IsAtEnd after)
end_stays None middle after xs ys first end second none = tt
end_stays (Some all) None after xs ys first end second none = absurd first
end_stays (Some all) (Some bs) None xs ys first end second none = absurd second
end_stays (Some all) (Some bs) (Some cs) xs ys first end second none =
    sym (ap (λ (front : List ℕ). front ++ cs) none) ∙ sym second ∙ end

pub end_comes : (known middle after : Option (List ℕ)) (xs : List ℕ) → Consumes known middle xs → IfSome middle (λ all. IsAtEnd after)
    → IfSome known (λ all. IsAtEnd after)
end_comes None middle after xs first end = tt
end_comes (Some all) None after xs first end = absurd first
end_comes (Some all) (Some bs) after xs first end = end

pub reads_both : (first second third : Option (List ℕ)) (old mid new : InputLines) (told more : List (List ℕ))
    → ReadsMore first second old mid told → ReadsMore second third mid new more → ReadsMore first third old new (told ++ more)
reads_both first second third old mid new told more p q = record {
  bytes = p.bytes ++ q.bytes;
  consumed = consumes-both first second third p.bytes q.bytes p.consumed q.consumed;
  read = λ bytes lines read.
      subst (λ (all : List ℕ). HasRead all (lines ++ (told ++ more)) new) (append_assoc bytes p.bytes q.bytes)
      (subst (λ (all : List (List ℕ)). HasRead ((bytes ++ p.bytes) ++ q.bytes) all new) (append_assoc lines told more)
      (q.read (bytes ++ p.bytes) (lines ++ told) (p.read bytes lines read)));
  ended = λ end. elim (q.ended end) [
    | inl middle ↦ elim (p.ended middle) [
      | inl before ↦ inl before
      | inr at ↦ inr (end_stays first second third p.bytes q.bytes p.consumed at q.consumed (q.stays middle).1)
    ]
    | inr at ↦ inr (end_comes first second third p.bytes p.consumed at)
  ];
  stays = λ end.
      let before = p.stays end in
      let behind = q.stays before.0 in
      (behind.0, (λ i. before.1 i ++ behind.1 i));
}

-- Some bytes were read.
pub front_of : (a b : ℕ) (xs : List ℕ) → b ≤ length xs → take a (take b xs) ≡ take (min b a) xs
front_of a b xs within = elim (cases_lt b a) [
  | inl less ↦
      take_all a (take b xs) (omega (arith, less, length-take b xs))
      ∙ ap (λ (k : ℕ). take k xs) (omega (arith, less))
  | inr more ↦ take_within a b xs more within ∙ ap (λ (k : ℕ). take k xs) (omega (arith, more))
]

pub some_read : (old new : InputLines) (count : ℕ) (tail : List ℕ) → IsUnended (held_in old) → old.at_end ≡ false
    → old.is_over ≡ false → held_in new ≡ take 202 (held_in old) ++ take (min count (most_bytes - old.count)) tail
    → new.count ≡ old.count + min count (most_bytes - old.count) → new.is_over ≡ nat_lt (most_bytes - old.count) count
    → count ≤ length tail → Reads (take count tail) old new []
some_read old new count tail none goes clear held total over fits first lines read =
    let short : length first ≤ most_bytes = ltb-false most_bytes (length first) (sym read.over ∙ clear) in
    let was : old.count ≡ length first = read.count ∙ ap length (take_all most_bytes first short) in
    let piece : length (take count tail) ≡ count = omega (arith, length-take count tail, fits) in
    let long : length (first ++ take count tail) ≡ old.count + count = omega (arith, length-append first (take count tail), was, piece) in
    let room : most_bytes ≡ length first + (most_bytes - old.count) = omega (arith, was, short) in
    let split : bytes_within (first ++ take count tail) ≡ first ++ take (min count (most_bytes - old.count)) tail =
    ap (λ (k : ℕ). take k (first ++ take count tail)) room
    ∙ take-append-add first (take count tail) (most_bytes - old.count)
    ∙ ap (λ (part : List ℕ). first ++ part) (front_of (most_bytes - old.count) count tail fits) in
    let size : old.count + min count (most_bytes - old.count) ≡ length (bytes_within (first ++ take count tail)) =
    omega (arith, length-take most_bytes (first ++ take count tail), long, was, short) in
    record {
      count = total ∙ size;
      over = over ∙ same_test (most_bytes - old.count) count most_bytes (length (first ++ take count tail))
          (λ less. omega (arith, less, long, was, short)) (λ most. omega (arith, most, long, was, short));
      others = λ more may.
          let next = take (min count (most_bytes - old.count)) tail in
          ap (λ (bytes : List ℕ). told_lines (bytes ++ more)) split
          ∙ ap told_lines (append_assoc first next more)
          ∙ ap (λ (bytes : List ℕ). told_lines (bytes ++ (next ++ more))) (sym (take_all most_bytes first short))
          ∙ read.others (next ++ more) (subst (λ (ended : Bool). MayFollow ended (next ++ more)) (sym goes) tt)
          ∙ ap (λ (rest : List (List ℕ)). lines ++ rest)
          (told_shortened (held_in old) (next ++ more) none ∙ ap told_lines (sym (append_assoc (take 202 (held_in old)) next more)))
          ∙ (λ i. sym (append-nil lines) i ++ told_lines (sym held i ++ more));
    }

pub reads_some : (known after : Option (List ℕ)) (old new : InputLines) (count : ℕ) (tail : List ℕ) → IsUnended (held_in old)
    → old.at_end ≡ false → old.is_over ≡ false → held_in new ≡ take 202 (held_in old) ++ take (min count (most_bytes - old.count)) tail
    → new.count ≡ old.count + min count (most_bytes - old.count) → new.is_over ≡ nat_lt (most_bytes - old.count) count
    → new.at_end ≡ false → Consumes known after (take count tail) → count ≤ length tail → ReadsMore known after old new []
reads_some known after old new count tail none goes clear held total over on consumed fits = record {
  bytes = take count tail;
  consumed = consumed;
  read = some_read old new count tail none goes clear held total over fits;
  ended = λ ends. let never : true ≡ false = sym ends ∙ on in cc;
  stays = λ ends. let never : true ≡ false = sym ends ∙ goes in cc;
}

-- Nothing was read, which is the end of the input.
pub reaches_end : (known : Option (List ℕ)) (old new : InputLines) (count : ℕ) (tail : List ℕ) → IsUnended (held_in old)
    → held_in new ≡ take 202 (held_in old) ++ take (min count (most_bytes - old.count)) tail
    → new.is_over ≡ nat_lt (most_bytes - old.count) count → count ≡ 0 → IsAtEnd known → ReachesEnd known new
reaches_end known old new count tail none held over zero end = record {
  known_end = known_end known known end;
  unended =
      ap (position (λ byte. byte == 10))
      (held ∙ ap (λ (k : ℕ). take 202 (held_in old) ++ take (min k (most_bytes - old.count)) tail) zero ∙ nothing)
      ∙ unended_front 202 (held_in old) none;
  clear = over ∙ le-ltb (most_bytes - old.count) count (omega (arith, zero));
}
  where
    nothing : take 202 (held_in old) ++ take (min 0 (most_bytes - old.count)) tail ≡ take 202 (held_in old)
    nothing = ap (λ (k : ℕ). take 202 (held_in old) ++ take k tail) none_taken ∙ append-nil (take 202 (held_in old))
      where
        none_taken : min 0 (most_bytes - old.count) ≡ 0
        none_taken = omega arith

-- The number of bytes that the reader has delivered.
pub counts_same : (old new : InputLines) (given : ℕ) → new.count ≡ old.count → new.is_over ≡ old.is_over → CountsOn old new given given
counts_same old new given count over first counted =
    counted ∙ ap (given_after first)
    ((λ i. sym count i + (if sym over i then 1 else 0)))

pub counts_both : (old mid new : InputLines) (a b c : ℕ) → CountsOn old mid a b → CountsOn mid new b c → CountsOn old new a c
counts_both old mid new a b c p q first counted = q first (p first counted)

one_over : (old new : InputLines) (n : ℕ) → old.is_over ≡ false → n ≤ most_bytes - old.count + 1
    → new.count ≡ old.count + min n (most_bytes - old.count) → new.is_over ≡ nat_lt (most_bytes - old.count) n
    → read_count new ≡ read_count old + n
one_over old new n clear fits count over =
    let was : read_count old ≡ old.count + 0 = ap (λ (is : Bool). old.count + (if is then 1 else 0)) clear in
    elim (cases_lt (most_bytes - old.count) n) [
      | inl long ↦
          let is : read_count new ≡ new.count + 1 =
          ap (λ (is : Bool). new.count + (if is then 1 else 0)) (over ∙ lt-ltb (most_bytes - old.count) n long) in
          omega (arith, was, is, long, fits, count, old.bound)
      | inr short ↦
          let is : read_count new ≡ new.count + 0 =
          ap (λ (is : Bool). new.count + (if is then 1 else 0)) (over ∙ le-ltb (most_bytes - old.count) n short) in
          omega (arith, was, is, short, count)
    ]

-- The count after more bytes is higher by their number.
given_both : (first a b : ℕ) → given_after (given_after first a) b ≡ given_after first (a + b)
given_both first a b = omega arith

pub counts_more : (old new : InputLines) (n given more : ℕ) → old.is_over ≡ false → n ≤ most_bytes - old.count + 1
    → more ≡ given_after given n → new.count ≡ old.count + min n (most_bytes - old.count)
    → new.is_over ≡ nat_lt (most_bytes - old.count) n → CountsOn old new given more
counts_more old new n given more clear fits is count over first counted =
    is ∙ ap (λ (before : ℕ). given_after before n) counted ∙ given_both first (read_count old) n
    ∙ ap (given_after first) (sym (one_over old new n clear fits count over))

-- If there are more bytes than the limit, the reader has delivered exactly one byte beyond it.
pub gives_too_many : (input : InputLines) (first given : ℕ) → IsCounted input first given → input.is_over ≡ true
    → input.count ≡ most_bytes → GivesTooMany first given
gives_too_many input first given counted over full =
    let all : read_count input ≡ input.count + 1 = ap (λ (is : Bool). input.count + (if is then 1 else 0)) over in
    omega (arith, counted, all, full)

pub gives_within : (input : InputLines) (first given : ℕ) → IsCounted input first given → GivesWithin first given
gives_within input first given counted = elim (cases_Bool input.is_over) [
  | inl over ↦
      let all : read_count input ≡ input.count + 1 = ap (λ (is : Bool). input.count + (if is then 1 else 0)) over in
      omega (arith, counted, all, input.bound)
  | inr clear ↦
      let all : read_count input ≡ input.count + 0 = ap (λ (is : Bool). input.count + (if is then 1 else 0)) clear in
      omega (arith, counted, all, input.bound)
]
