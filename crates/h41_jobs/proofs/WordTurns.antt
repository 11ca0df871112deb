-- What one word does if a parse of `clap` does not take it as a command: a flag fails, and another word is a positional argument.
use Rattle.std.proofs.Common.{ap, ap₂, sym, refl, ℕ, Bool, true, false, List, Option, Some, None, [], ◌∷◌, ◌≡◌, ◌∙◌}
use Rattle.std.proofs.Common.{is_some, subst, length, drop, encode_utf8, ◌==◌, ◌&&◌, slice_get, cond}
use Rattle.std.specs.Option.{option_map_or}
use Rattle.std.specs.List.{before_first}
use Rattle.std.specs.Prelude.{option_and_then}
use Rattle.std.specs.Str.{chars}
use Rattle.std.proofs.lemmas.Bool.{eqb-true}
use Rattle.std.proofs.lemmas.Slice.Eq.{bytes_eq-Decides}
use Rattle.clap.specs.Words.{Row, Rule, Shape, Text}
use Rattle.clap.specs.Walk.{Outcome, after_flag, after_step, subcommand_met, subcommand_or_other, trailing, Held, Names, Step, Walk, idle}
use Rattle.clap.specs.Walk.{word_met, value, walked, arg_by_long, arg_by_short, arg_by_index, long_or_other, short_or_plain, to_positional}
use Rattle.clap.specs.Walk as outcome
use Rattle.clap.specs.Simple.{filled, help_rule, version_rule, with_index}
use Rattle.clap.specs.Lexer.{long_of, long_of_rest, short_of, short_of_rest, strip_byte}
use Rattle.clap.specs.Kinds.{Kinds, or_else}
use Rattle.clap.specs.Faults.{other_fault, word_fault, flag_word_fault, long_fault, short_fault, bundle_fault}
use Rattle.clap.specs.Faults.{bundle_step_fault, flags_fault, turn_fault, walk_fault, step_fault}
use Rattle.clap.specs.declared.error.kind.ErrorKind.{ErrorKind}
use Rattle.clap.specs.declared.error.kind.ErrorKind.TheVariants as kind
use Rattle.clap.proofs.FaultLemmas.{fault_ends}
use Rattle.clap.proofs.WalkLemmas.{both, bundle_ends}
use Rattle.h41_jobs.specs.CommandLine.{is_flag, is_last_flag}

-- ---- One word.

pub nothing_left : (a b : Kinds) → or_else a b ≡ [] → (a ≡ []) × (b ≡ [])
nothing_left [] b e = (refl, e)
nothing_left (k ∷ ks) b e = cc

answered : (a : Kinds) (k : ErrorKind) → or_else a (k ∷ []) ≡ [] → ⊥
answered a k e = let asked : k ∷ [] ≡ [] = (nothing_left a (k ∷ []) e).1 in cc

answered_then : (a b : Kinds) (k : ErrorKind) → or_else (or_else a (k ∷ [])) b ≡ [] → ⊥
answered_then a b k e = answered a k (nothing_left (or_else a (k ∷ [])) b e).0

abbrev pub holding : List Row → Option (Text × List Text) → Held
holding rows pending = record { rows = rows; pending = pending; skip = 0 }

abbrev pub help : Rule
help = with_index 1 (filled help_rule)

abbrev pub version : Rule
version = with_index 1 (filled version_rule)

module _ (rules : List Rule) (again : Bool) where
  -- No argument has the name, or the one that has it answers with a kind of error.
  abbrev pub Refuses : Option Rule → Type 0
  Refuses found = (v : Option Text) (rest : Text) (rows : List Row) (pending : Option (Text × List Text)) (next : Held → Kinds)
      → (long_fault rules again found v (holding rows pending) ≡ [] → ⊥)
      × (short_fault rules again found rest (holding rows pending) next ≡ [] → ⊥)

  -- That holds for all names except the long ones that are known.
  abbrev pub RefusesAll : (Text → Bool) → Type 0
  RefusesAll known = ((n : Text) → known n ≡ false → Refuses (arg_by_long rules n)) × ((x : ℕ) → Refuses (arg_by_short rules x))

  refuses_help : Refuses (Some help)
  refuses_help None rest rows pending next = (answered _ kind.DisplayHelp, answered_then _ _ kind.DisplayHelp)
  refuses_help (Some v) rest rows pending next = (λ e. cc, answered_then _ _ kind.DisplayHelp)

  refuses_version : Refuses (Some version)
  refuses_version None rest rows pending next = (answered _ kind.DisplayVersion, answered_then _ _ kind.DisplayVersion)
  refuses_version (Some v) rest rows pending next = (λ e. cc, answered_then _ _ kind.DisplayVersion)

  -- The flag for help, otherwise the one for the version, otherwise none.
  pub refuses_either : (t u : Bool) → Refuses (cond t (Some help) (cond u (Some version) None))
  refuses_either true u = refuses_help
  refuses_either false true = refuses_version
  refuses_either false false = λ v rest rows pending next. (λ e. cc, λ e. cc)

no_long : (d : ℕ) (rest : Text) → (d == 45) ≡ false → long_of (45 ∷ d ∷ rest) ≡ None
no_long d rest is = ap (λ t. option_and_then long_of_rest (cond t (Some rest) None)) is

is_short : (d : ℕ) (rest : Text) → (d == 45) ≡ false → short_of (45 ∷ d ∷ rest) ≡ Some (d ∷ rest)
is_short d rest is = ap (λ t. cond t None (Some (d ∷ rest))) is

no_chars : (c : ℕ) → is_flag (c ∷ []) ≡ true → (c == 45 && false) ≡ true
unfolding chars
no_chars c flag = flag

hyphen_spells : (rest : Text) → slice_get (chars (45 ∷ rest)) 0 ≡ None → ⊥
unfolding chars
hyphen_spells [] e = cc
hyphen_spells (x ∷ xs) e = cc

-- A word does not give a long name that is known.
abbrev pub NamesUnknown : (Text → Bool) → Text → Type 0
NamesUnknown known word = (rest : Text) → word ≡ 45 ∷ 45 ∷ rest → known (before_first (λ x. x == 61) rest) ≡ false

module _ (rules : List Rule) (again : Bool) (rows : List Row) (pending : Option (Text × List Text)) where
  -- The first character of a bundle of flags.
  first_fails : (known : Text → Bool) → RefusesAll rules again known → (o : Option ℕ) (flags : Text) (next : Text → ℕ → Held → Kinds)
      → is_some o ≡ true → bundle_step_fault rules again o flags 0 (holding rows pending) next ≡ [] → ⊥
  first_fails known all None flags next some e = cc
  first_fails known all (Some x) flags next some e =
      let rest : Text = drop (length (encode_utf8 x)) flags in
      (all.1 x None rest rows pending (next rest 0)).1 e

  bundle_fails : (known : Text → Bool) → RefusesAll rules again known → (d : ℕ) (flags : Text)
      → is_some (slice_get (chars (d ∷ flags)) 0) ≡ true → bundle_fault rules again (d ∷ flags) (holding rows pending) ≡ [] → ⊥
  unfolding flags_fault
  bundle_fails known all d flags some e =
      first_fails known all (slice_get (chars (d ∷ flags)) 0) (d ∷ flags) (flags_fault rules again (length flags)) some e

  bundle_read : (d : ℕ) (rest : Text) → (d == 45) ≡ false
      → flag_word_fault rules again (long_of (45 ∷ d ∷ rest)) (45 ∷ d ∷ rest) (holding rows pending)
      ≡ bundle_fault rules again (d ∷ rest) (holding rows pending)
  bundle_read d rest is =
      ap (λ o. flag_word_fault rules again o (45 ∷ d ∷ rest) (holding rows pending)) (no_long d rest is)
      ∙ ap (λ o. option_map_or (λ flags. bundle_fault rules again flags (holding rows pending)) o []) (is_short d rest is)

  dashed_fails : (known : Text → Bool) → RefusesAll rules again known → (d : ℕ) (rest : Text)
      → is_some (slice_get (chars (d ∷ rest)) 0) ≡ true → is_last_flag (45 ∷ d ∷ rest) ≡ false → NamesUnknown known (45 ∷ d ∷ rest)
      → (t : Bool) → (d == 45) ≡ t → flag_word_fault rules again (long_of (45 ∷ d ∷ rest)) (45 ∷ d ∷ rest) (holding rows pending) ≡ [] → ⊥
  dashed_fails known all d [] some more unknown true is e =
      let bad : is_last_flag (45 ∷ d ∷ []) ≡ true = ap (λ (x : ℕ). is_last_flag (45 ∷ x ∷ [])) (eqb-true d 45 is) in cc
  dashed_fails known all d (y ∷ ys) some more unknown true is e =
      let long = rw is at e in
      let other = unknown (y ∷ ys) (ap (λ (x : ℕ). 45 ∷ x ∷ y ∷ ys) (eqb-true d 45 is)) in
      (all.0 _ other _ [] rows pending (λ h. [])).0 long
  dashed_fails known all d rest some more unknown false is e = bundle_fails known all d rest some (sym (bundle_read d rest is) ∙ e)

  -- A flag fails, whatever is pending.
  flag_fails : (known : Text → Bool) → RefusesAll rules again known → (word : Text) → is_flag word ≡ true → is_last_flag word ≡ false
      → NamesUnknown known word → flag_word_fault rules again (long_of word) word (holding rows pending) ≡ [] → ⊥
  flag_fails known all [] flag more unknown e = cc
  flag_fails known all (c ∷ []) flag more unknown e = let none : false ≡ true = (both (c == 45) false (no_chars c flag)).1 in cc
  flag_fails known all (c ∷ d ∷ rest) flag more unknown e =
      let is : c ≡ 45 = eqb-true c 45 (both _ _ flag).0 in
      let P : ℕ → Type 0 = λ c. is_last_flag (c ∷ d ∷ rest) ≡ false → NamesUnknown known (c ∷ d ∷ rest)
      → flag_word_fault rules again (long_of (c ∷ d ∷ rest)) (c ∷ d ∷ rest) (holding rows pending) ≡ [] → ⊥ in
      subst P (sym is) (λ more unknown e. dashed_fails known all d rest (both _ _ flag).1 more unknown (d == 45) refl e) more unknown e

  -- A word that is not a flag names none.
  abbrev Passes : Text → Type 0
  Passes word = (flag_word_fault rules again (long_of word) word (holding rows pending) ≡ [])
      × (long_or_other rules idle word (long_of word) (holding rows pending) ≡ (holding rows pending, value))

  no_dash : (c : ℕ) (rest : Text) → (c == 45) ≡ false → Passes (c ∷ rest)
  no_dash c rest is =
      let h : Held = holding rows pending in
      let long : long_of (c ∷ rest) ≡ None =
      ap (λ t. option_and_then long_of_rest (option_and_then (strip_byte 45) (cond t (Some rest) None))) is in
      let short : short_of (c ∷ rest) ≡ None = ap (λ t. option_and_then short_of_rest (cond t (Some rest) None)) is in (
        ap (λ o. flag_word_fault rules again o (c ∷ rest) h) long
            ∙ ap (λ o. option_map_or (λ flags. bundle_fault rules again flags h) o []) short,
        ap (λ o. long_or_other rules idle (c ∷ rest) o h) long ∙ ap (λ o. short_or_plain rules idle (c ∷ rest) o h) short,
      )

  -- `-` and bytes that are not a character.
  dash_alone : (rest : Text) → (o : Option ℕ) → slice_get (chars rest) 0 ≡ o → is_some o ≡ false → Passes (45 ∷ rest)
  dash_alone [] o is none = (refl, refl)
  dash_alone (d ∷ rest) (Some x) is none = cc
  dash_alone (d ∷ rest) None is none = go (d == 45) refl
    where
      h : Held
      h = holding rows pending

      go : (t : Bool) → (d == 45) ≡ t → Passes (45 ∷ d ∷ rest)
      go true dash =
          absurd (hyphen_spells rest (subst (λ (x : ℕ). slice_get (chars (x ∷ rest)) 0 ≡ None) (eqb-true d 45 dash) is))
      go false other = (
        bundle_read d rest other ∙ sym (fault_ends rules again (length (d ∷ rest)) (d ∷ rest) 0 h (sym is)),
        ap (λ o. long_or_other rules idle (45 ∷ d ∷ rest) o h) (no_long d rest other)
            ∙ ap (λ o. short_or_plain rules idle (45 ∷ d ∷ rest) o h) (is_short d rest other)
            ∙ ap (λ (b : Held × Outcome). after_flag rules idle (45 ∷ d ∷ rest) b.0 b.1)
            (sym (bundle_ends rules (length (d ∷ rest)) (d ∷ rest) 0 outcome.plain h (sym is))),
      )

  plain_passes : (word : Text) → is_flag word ≡ false → Passes word
  plain_passes [] plain = (refl, refl)
  plain_passes (c ∷ rest) plain = go (c == 45) refl
    where
      go : (t : Bool) → (c == 45) ≡ t → Passes (c ∷ rest)
      go false is = no_dash c rest is
      go true is =
          let none : is_some (slice_get (chars rest) 0) ≡ false =
          ap (λ t. t && is_some (slice_get (chars rest) 0)) (sym is) ∙ plain in
          subst (λ (c : ℕ). Passes (c ∷ rest)) (sym (eqb-true c 45 is)) (dash_alone rest (slice_get (chars rest) 0) refl none)

-- ---- One turn of a walk.

abbrev pub last_flag : Text
last_flag = 45 ∷ 45 ∷ []

pub is_last : (word : Text) → is_last_flag word ≡ true → word ≡ last_flag
is_last word is = (bytes_eq-Decides word last_flag).0 is

last_is_flag : is_flag last_flag ≡ true
unfolding chars
last_is_flag = refl

plain_not_last : (word : Text) → is_flag word ≡ false → is_last_flag word ≡ false
plain_not_last word none = go (is_last_flag word) refl
  where
    go : (t : Bool) → is_last_flag word ≡ t → is_last_flag word ≡ false
    go false is = is
    go true is = let bad : true ≡ false = sym last_is_flag ∙ ap is_flag (sym (is_last word is)) ∙ none in cc

abbrev pub at : List Row → Option (Text × List Text) → ℕ → Bool → Walk
at rows pending position is_trailing =
    record { held = holding rows pending; waiting = idle; position = position; is_trailing = is_trailing; stopped = None }

module _ (s : Shape) (subs : Names) (rows : List Row) (pending : Option (Text × List Text)) (position : ℕ) (word : Text) where
  word_is : subcommand_met subs idle word ≡ None → is_last_flag word ≡ false
      → word_fault s subs false idle word (holding rows pending)
      ≡ flag_word_fault s.rules s.args_override_self (long_of word) word (holding rows pending)
  word_is none more =
      ap (λ o. other_fault s o word (holding rows pending)) none
      ∙ ap (λ t. cond t [] (flag_word_fault s.rules s.args_override_self (long_of word) word (holding rows pending))) more

  met_is : subcommand_met subs idle word ≡ None → is_last_flag word ≡ false
      → word_met s.rules subs false idle position word (holding rows pending)
      ≡ long_or_other s.rules idle word (long_of word) (holding rows pending)
  met_is none more =
      ap (λ o. subcommand_or_other s.rules o idle position word (holding rows pending)) none
      ∙ ap (λ t. cond t (holding rows pending, trailing position)
      (long_or_other s.rules idle word (long_of word) (holding rows pending))) more

  pub flag_turn : (known : Text → Bool) → RefusesAll s.rules s.args_override_self known → NamesUnknown known word
      → subcommand_met subs idle word ≡ None → is_last_flag word ≡ false → is_flag word ≡ true
      → turn_fault s subs (at rows pending position false) word ≡ [] → ⊥
  flag_turn known all unknown none more flag e =
      flag_fails s.rules s.args_override_self rows pending known all word flag more unknown
      (sym (word_is none more) ∙ (nothing_left _ _ e).0)

  pub plain_turn : subcommand_met subs idle word ≡ None → is_flag word ≡ false
      → (turn_fault s subs (at rows pending position false) word ≡ step_fault s position (holding rows pending) value)
      × (walked s.rules subs (at rows pending position false) word
      ≡ to_positional s.rules (arg_by_index s.rules position) word (at rows pending position false) (holding rows pending))
  unfolding walked
  plain_turn none plain =
      let more = plain_not_last word plain in
      let passes = plain_passes s.rules s.args_override_self rows pending word plain in
      let met = met_is none more ∙ passes.1 in (
        ap₂ or_else (word_is none more ∙ passes.0) (ap (λ (p : Held × Step). step_fault s position p.0 p.1) met),
        ap (λ (p : Held × Step). after_step s.rules word (at rows pending position false) p.0 p.1) met,
      )

pub walk_split : (s : Shape) (subs : Names) (w : Walk) (word : Text) (rest : List Text) → walk_fault s subs w (word ∷ rest) ≡ []
    → (turn_fault s subs w word ≡ []) × (walk_fault s subs (walked s.rules subs w word) rest ≡ [])
unfolding walk_fault
walk_split s subs w word rest e = nothing_left _ _ e
