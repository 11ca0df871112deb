-- Why each source and each list of words has one text and one end.
use Rattle.std.proofs.Common.{◌≡◌, ◌⊎◌, ℕ, ◌+◌, ◌≤◌, Bool, true, false, List, [], ◌∷◌, ◌++◌, length, map, Option, Some, None}
use Rattle.std.proofs.Common.{Result, Ok, Err, ◌&&◌, inl, inr, refl, sym, ap, ◌∙◌, arith}
use Rattle.std.specs.Prelude.{IsSome, option_map}
use Rattle.std.proofs.lemmas.Bool.{cond-false}
use Rattle.std.specs.List.{list_all, position_from}
use Rattle.h41_asm.specs.Assembly.{Assembles}
use Rattle.h41_asm.specs.AssemblyLaws.{HasFault, HasWords, HasWordsOrFault, NeverBoth, WordsAreDetermined}
use Rattle.h41_asm.specs.Faults.{assembly_fault}
use Rattle.h41_asm.specs.declared.fault.SourceFault.{SourceFault}
use Rattle.h41_commands.specs.PageBlocks.{SourceMakes, source_refusal}
use Rattle.h41_commands.specs.declared.refusal.LineRefusal.{LineRefusal}
use Rattle.h41_commands.specs.declared.refusal.LineRefusal.TheVariants.{Source}
use Rattle.h41_ends.specs.Ends.{most_bytes}
use Rattle.h41_jobs.specs.JobLaws.{FaultIsPrinted, HasOne, IsFirstWrong, ListHasOneEnd, ListHasOneText, SourceHasOneEnd}
use Rattle.h41_jobs.specs.JobLaws.{SourceHasOneText, WordsAreListed, WordsArePrinted, WrongWordIsReported, is_word}
use Rattle.h41_jobs.specs.Texts.{ListReadsAs, ReadsAs, SourceAssemblesTo, ended_of_list, ended_of_source, given_text, list_text}
use Rattle.h41_jobs.specs.WordTexts.{parts_of, word_value}
use Rattle.h41_jobs.proofs.WordLemmas.{is_wrong}

-- What is made of the only answer is the only such result.
made_of_one : {A B : Type 0} (says : A → Type 0) (made : A → B) → HasOne says → HasOne (λ b. (a : A) × says a × (b ≡ made a))
made_of_one says made one =
    record {
      answer = made one.answer;
      right = (one.answer, one.right, refl);
      only = λ other is. is.2 ∙ ap made (one.only is.0 is.1);
    }

-- What an error says.
refusal_of : {A B : Type 0} (of : A → B) (found : Option A) → IsSome found → (refusal : B) × (option_map of found ≡ Some refusal)
refusal_of of None is = cc
refusal_of of (Some fault) is = (of fault, refl)

fault_of : {A B : Type 0} (of : A → B) (found : Option A) (refusal : B) → option_map of found ≡ Some refusal → IsSome found
fault_of of None refusal is = cc
fault_of of (Some fault) refusal is = refl

same_some : {B : Type 0} (a b : B) → Some a ≡ Some b → a ≡ b
same_some a b is = cc

-- Sources.
abbrev told : SourceFault × ℕ → LineRefusal
told found = Source found.0 found.1

module _ (either : HasWordsOrFault) (never : NeverBoth) (same : WordsAreDetermined) where
  has_fault : (source : List ℕ) (origin : ℕ) (refusal : LineRefusal) → source_refusal source origin ≡ Some refusal → HasFault source origin
  has_fault source origin refusal is = fault_of told (assembly_fault source origin) refusal is

  only_words : (source : List ℕ) (origin : ℕ) (words : List ℕ) → Assembles source origin words → (other : Result (List ℕ) LineRefusal)
      → SourceMakes source origin other → other ≡ Ok words
  only_words source origin words spells (Ok more) is = ap (λ (of : List ℕ). Ok of) (same source origin more words is spells)
  only_words source origin words spells (Err refusal) is =
      absurd (never source origin (words, spells) (has_fault source origin refusal is))

  only_refusal : (source : List ℕ) (origin : ℕ) (refusal : LineRefusal) → source_refusal source origin ≡ Some refusal
      → (other : Result (List ℕ) LineRefusal) → SourceMakes source origin other → other ≡ Err refusal
  only_refusal source origin refusal refused (Ok words) is =
      absurd (never source origin (words, is) (has_fault source origin refusal refused))
  only_refusal source origin refusal refused (Err why) is =
      ap (λ (of : LineRefusal). Err of) (same_some why refusal (sym is ∙ refused))

  one_given : (origin : ℕ) (source : List ℕ) → length source ≤ most_bytes → HasWords source origin ⊎ HasFault source origin
      → HasOne (SourceAssemblesTo origin source)
  one_given origin source short (inl words) =
      record {
        answer = Ok words.0;
        right = record { bound = short; gives = words.1 };
        only = λ other is. only_words source origin words.0 words.1 other is.gives;
      }
  one_given origin source short (inr fault) =
      let refusal = refusal_of told (assembly_fault source origin) fault in
      record {
        answer = Err refusal.0;
        right = record { bound = short; gives = refusal.1 };
        only = λ other is. only_refusal source origin refusal.0 refusal.1 other is.gives;
      }

  pub one_source_text : SourceHasOneText
  one_source_text origin source within short =
      made_of_one (SourceAssemblesTo origin source) given_text (one_given origin source short (either source origin within))

  pub one_source_end : SourceHasOneEnd
  one_source_end origin source within short =
      made_of_one (SourceAssemblesTo origin source) ended_of_source (one_given origin source short (either source origin within))

  pub words_printed : WordsArePrinted
  words_printed origin source words text ended spells is ends =
      let of_text : is.0 ≡ Ok words = only_words source origin words spells is.0 is.1.gives in
      let of_end : ends.0 ≡ Ok words = only_words source origin words spells ends.0 ends.1.gives in
      (is.2 ∙ ap given_text of_text, ends.2 ∙ ap ended_of_source of_end)

  pub fault_printed : FaultIsPrinted
  fault_printed origin source text ended fault line found is ends =
      let refused : source_refusal source origin ≡ Some (Source fault line) = ap (option_map told) found in
      let of_text : is.0 ≡ Err (Source fault line) = only_refusal source origin (Source fault line) refused is.0 is.1.gives in
      let of_end : ends.0 ≡ Err (Source fault line) = only_refusal source origin (Source fault line) refused ends.0 ends.1.gives in
      (is.2 ∙ ap given_text of_text, ends.2 ∙ ap ended_of_source of_end)

-- The content of the parts of a list, the first of which has this number.
abbrev PartsSay : ℕ → List (List ℕ) → Result (List ℕ) ℕ → Type 0
PartsSay start parts (Ok words) = map word_value parts ≡ map (λ word. Some word) words
PartsSay start parts (Err number) = position_from is_wrong start parts ≡ Some number

-- One more word before the others.
abbrev with_word : ℕ → Result (List ℕ) ℕ → Result (List ℕ) ℕ
with_word word (Ok words) = Ok (word ∷ words)
with_word word (Err number) = Err number

both_left : (a b : Bool) → (a && b) ≡ true → a ≡ true
both_left true b is = refl
both_left false b is = cc

both_right : (a b : Bool) → (a && b) ≡ true → b ≡ true
both_right true b is = is
both_right false b is = cc

-- A list has a content.
say_more : (start : ℕ) (part : List ℕ) (parts : List (List ℕ)) (word : ℕ) (said : Result (List ℕ) ℕ) → word_value part ≡ Some word
    → PartsSay (start + 1) parts said → PartsSay start (part ∷ parts) (with_word word said)
say_more start part parts word (Ok words) is says = λ i. is i ∷ says i
say_more start part parts word (Err number) is says =
    let good : is_wrong part ≡ false = rw is refl in
    cond-false (is_wrong part) (Some start) (position_from is_wrong (start + 1) parts) good ∙ says

say_part : (start : ℕ) (part : List ℕ) (parts : List (List ℕ)) (found : Option ℕ) → word_value part ≡ found
    → (said : Result (List ℕ) ℕ) × PartsSay (start + 1) parts said → (said : Result (List ℕ) ℕ) × PartsSay start (part ∷ parts) said
say_part start part parts (Some word) is more = (with_word word more.0, say_more start part parts word more.0 is more.1)
say_part start part parts None is more =
    let none : is_wrong part ≡ true = rw is refl in
    (Err start, rw none refl)

say : (start : ℕ) (parts : List (List ℕ)) → (said : Result (List ℕ) ℕ) × PartsSay start parts said
say start [] = (Ok [], refl)
say start (part ∷ parts) = say_part start part parts (word_value part) refl (say (start + 1) parts)

-- The first of some values, and those after it.
first_value : (a b : Option ℕ) (all others : List (Option ℕ)) → a ∷ all ≡ b ∷ others → a ≡ b
first_value a b all others is = cc

more_values : (a b : Option ℕ) (all others : List (Option ℕ)) → a ∷ all ≡ b ∷ others → all ≡ others
more_values a b all others is = cc

no_value : (a : Option ℕ) (all : List (Option ℕ)) → a ∷ all ≡ [] → ⊥
no_value a all is = cc

-- A list has no other content.
same_words : (a b : List ℕ) → map (λ word. Some word) a ≡ map (λ word. Some word) b → a ≡ b
same_words [] [] is = refl
same_words [] (y ∷ b) is = absurd (no_value _ _ (sym is))
same_words (x ∷ a) [] is = absurd (no_value _ _ is)
same_words (x ∷ a) (y ∷ b) is =
    let first : x ≡ y = same_some x y (first_value _ _ _ _ is) in
    let more : a ≡ b = same_words a b (more_values _ _ _ _ is) in
    λ i. first i ∷ more i

not_both : (start : ℕ) (parts : List (List ℕ)) (words : List ℕ) (number : ℕ) → map word_value parts ≡ map (λ word. Some word) words
    → position_from is_wrong start parts ≡ Some number → ⊥
not_both start [] words number says found = cc
not_both start (part ∷ parts) [] number says found = no_value _ _ says
not_both start (part ∷ parts) (word ∷ words) number says found =
    let first : word_value part ≡ Some word = first_value _ _ _ _ says in
    let good : is_wrong part ≡ false = rw first refl in
    not_both (start + 1) parts words number (more_values _ _ _ _ says)
    (sym (cond-false (is_wrong part) (Some start) (position_from is_wrong (start + 1) parts) good) ∙ found)

same_said : (start : ℕ) (parts : List (List ℕ)) (a b : Result (List ℕ) ℕ) → PartsSay start parts a → PartsSay start parts b → a ≡ b
same_said start parts (Ok a) (Ok b) p q = ap (λ (words : List ℕ). Ok words) (same_words a b (sym p ∙ q))
same_said start parts (Ok a) (Err number) p q = absurd (not_both start parts a number p q)
same_said start parts (Err number) (Ok b) p q = absurd (not_both start parts b number q p)
same_said start parts (Err a) (Err b) p q = ap (λ (number : ℕ). Err number) (same_some a b (sym p ∙ q))

-- A text of words.
reads_as : (text : List ℕ) (said : Result (List ℕ) ℕ) → PartsSay 1 (parts_of text) said → ReadsAs text said
reads_as text (Ok words) says = says
reads_as text (Err number) says = says

parts_say : (text : List ℕ) (said : Result (List ℕ) ℕ) → ReadsAs text said → PartsSay 1 (parts_of text) said
parts_say text (Ok words) says = says
parts_say text (Err number) says = says

one_said : (text : List ℕ) → length text ≤ most_bytes → HasOne (ListReadsAs text)
one_said text short =
    let found = say 1 (parts_of text) in
    record {
      answer = found.0;
      right = record { bound = short; says = reads_as text found.0 found.1 };
      only = λ other is. same_said 1 (parts_of text) other found.0 (parts_say text other is.says) found.1;
    }

pub one_list_text : ListHasOneText
one_list_text text short = made_of_one (ListReadsAs text) list_text (one_said text short)

pub one_list_end : ListHasOneEnd
one_list_end text short = made_of_one (ListReadsAs text) ended_of_list (one_said text short)

pub words_listed : WordsAreListed
words_listed list words text ended writes is ends =
    let of_text : is.0 ≡ Ok words = same_said 1 (parts_of list) is.0 (Ok words) (parts_say list is.0 is.1.says) writes in
    let of_end : ends.0 ≡ Ok words = same_said 1 (parts_of list) ends.0 (Ok words) (parts_say list ends.0 ends.1.says) writes in
    (is.2 ∙ ap list_text of_text, ends.2 ∙ ap ended_of_list of_end)

-- The index of the first wrong part.
found_at : (start : ℕ) (before : List (List ℕ)) (part : List ℕ) (after : List (List ℕ)) → list_all is_word before ≡ true
    → is_word part ≡ false → position_from is_wrong start (before ++ part ∷ after) ≡ Some (start + length before)
found_at start [] part after words wrong =
    let none : is_wrong part ≡ true = rw wrong refl in
    let same : start ≡ start + 0 = omega arith in
    rw none (ap (λ (n : ℕ). Some n) same)
found_at start (word ∷ before) part after words wrong =
    let good : is_word word ≡ true = both_left (is_word word) (list_all is_word before) words in
    let more : list_all is_word before ≡ true = both_right (is_word word) (list_all is_word before) words in
    let no : is_wrong word ≡ false = rw good refl in
    let same : start + 1 + length before ≡ start + length (word ∷ before) = omega arith in
    cond-false (is_wrong word) (Some start) (position_from is_wrong (start + 1) (before ++ part ∷ after)) no
    ∙ found_at (start + 1) before part after more wrong ∙ ap (λ (n : ℕ). Some n) same

first_found : (list : List ℕ) (number : ℕ) → IsFirstWrong list number → PartsSay 1 (parts_of list) (Err number)
first_found list number first =
    let same : 1 + length first.before ≡ number = omega (arith, first.place) in
    ap (position_from is_wrong 1) first.parts
    ∙ found_at 1 first.before first.part first.after first.words first.wrong
    ∙ ap (λ (n : ℕ). Some n) same

pub wrong_told : WrongWordIsReported
wrong_told list text number ended first is ends =
    let says : PartsSay 1 (parts_of list) (Err number) = first_found list number first in
    let of_text : is.0 ≡ Err number = same_said 1 (parts_of list) is.0 (Err number) (parts_say list is.0 is.1.says) says in
    let of_end : ends.0 ≡ Err number = same_said 1 (parts_of list) ends.0 (Err number) (parts_say list ends.0 ends.1.says) says in
    (is.2 ∙ ap list_text of_text, ends.2 ∙ ap ended_of_list of_end)
