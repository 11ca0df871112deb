-- What `clap` makes of the three commands of the bench and of the words after each.
use Rattle.std.proofs.Common.{ap, ap₂, sym, refl, codes, Bool, true, false, List, Some, None, [], ◌∷◌, ◌≡◌, ◌∙◌}
use Rattle.std.proofs.Common.{is_some, subst, cond, ◌||◌, ◌==◌, ℕ, ◌+◌, arith, take}
use Rattle.std.specs.Prelude.{suc}
use Rattle.std.specs.Str.{bytes_eq}
use Rattle.std.proofs.lemmas.Bool.{or_parts}
use Rattle.std.proofs.lemmas.Slice.Eq.{bytes_eq-Decides}
use Rattle.std.specs.List.{before_first, position_or_len}
use Rattle.clap.specs.Words.{App, Row, Rule, Shape, Text, subcommand_of}
use Rattle.clap.specs.Walk.{Names, Walk, walk, walk_from, walked, nothing_held, settled, finished, has_long, has_short}
use Rattle.clap.specs.Simple.{built, entered, built_leaf, filled, inherited, marked_built, with_index, with_leaf_noted, names_of}
use Rattle.clap.specs.Kinds.{Kinds, or_else}
use Rattle.clap.specs.Faults.{fault_of, turn_fault, walk_fault, settle_fault, defaults_fault, check_fault, level_fault, entered_fault}
use Rattle.clap.specs.declared.error.kind.ErrorKind.TheVariants as kind
use Rattle.clap.proofs.FaultLemmas.{stopped_fault}
use Rattle.clap.proofs.WalkLemmas.{walk_stopped}
use Rattle.h41_jobs.specs.BenchCommand.{bench_app, job_asked, job_in, memory_rule, origin_app, run_app}
use Rattle.h41_jobs.specs.declared.arguments.Task.{Task}
use Rattle.h41_jobs.specs.declared.arguments.Task.TheVariants as tasks
use Rattle.h41_jobs.specs.declared.memory.MemorySize.TheVariants as sizes
use Rattle.h41_jobs.specs.CommandLine.{give_memory, is_flag, is_last_flag, is_memory_flag, only_file, file_for}
use Rattle.h41_jobs.proofs.WordTurns.{nothing_left, help, version, NamesUnknown, Refuses, RefusesAll, refuses_either, last_flag, is_last}
use Rattle.h41_jobs.proofs.WordTurns.{at, flag_turn, plain_turn, walk_split}

-- ---- The three commands.

pub data CommandName : Type 0 where
  run_name : CommandName
  asm_name : CommandName
  dis_name : CommandName

abbrev pub name_text : CommandName → Text
name_text run_name = codes "run"
name_text asm_name = codes "asm"
name_text dis_name = codes "dis"

-- The task that a command asks for with only FILE.
abbrev pub task_named : CommandName → Task
task_named run_name = tasks.Run sizes.Cv
task_named asm_name = tasks.Assemble 0x8000
task_named dis_name = tasks.List 0x8000

abbrev pub app_named : CommandName → App
app_named run_name = run_app
app_named asm_name = origin_app (codes "asm")
app_named dis_name = origin_app (codes "dis")

-- The two levels, as they are built.
abbrev pub top : Shape
top = (built bench_app).top

abbrev pub names : Names
names = names_of (built bench_app)

abbrev pub leaf : CommandName → Shape
leaf c = built_leaf (inherited (with_leaf_noted (marked_built bench_app.top)) (app_named c).top)

pub top_refuses : RefusesAll top.rules false (λ n. false)
top_refuses = (
  λ n unknown. refuses_either top.rules false (has_long help n) (has_long version n),
  λ x. refuses_either top.rules false (has_short help x) (has_short version x),
)

-- The long name that is known after `run`.
is_memory : Text → Bool
is_memory n = bytes_eq (codes "memory") n

memory : Rule
memory = with_index 1 (filled memory_rule)

run_refuses : RefusesAll (leaf run_name).rules false is_memory
unfolding is_memory memory
run_refuses = (
  λ n unknown. subst (Refuses (leaf run_name).rules false)
      (sym (ap (λ t. cond (t || false) (Some memory) (cond (has_long help n) (Some help) None)) unknown))
      (refuses_either (leaf run_name).rules false (has_long help n) false),
  λ x. refuses_either (leaf run_name).rules false (has_short help x) false,
)

-- Two hyphens before a prefix.
two_more : (n : ℕ) (rest : Text) → take (1 + (1 + n)) (45 ∷ 45 ∷ rest) ≡ 45 ∷ 45 ∷ take n rest
two_more n rest =
    let count : 1 + (1 + n) ≡ suc (suc n) = omega arith in
    ap (λ (k : ℕ). take k (45 ∷ 45 ∷ rest)) count

-- A word that gives no size of memory does not name that option.
no_memory : (word : Text) → is_memory_flag word ≡ false → NamesUnknown is_memory word
unfolding is_memory
no_memory word none rest is = go (bytes_eq (codes "memory") (before_first (λ x. x == 61) rest)) refl
  where
    go : (t : Bool) → bytes_eq (codes "memory") (before_first (λ x. x == 61) rest) ≡ t
        → bytes_eq (codes "memory") (before_first (λ x. x == 61) rest) ≡ false
    go false other = other
    go true same =
        let named : codes "--memory" ≡ before_first (λ x. x == 61) (45 ∷ 45 ∷ rest) =
        ap (λ (name : Text). 45 ∷ 45 ∷ name) ((bytes_eq-Decides (codes "memory") (before_first (λ x. x == 61) rest)).0 same)
        ∙ sym (two_more (position_or_len (λ x. x == 61) rest) rest) in
        let given : is_memory_flag word ≡ true =
        subst (λ (w : Text). is_memory_flag w ≡ true) (sym is)
        ((bytes_eq-Decides (codes "--memory") (before_first (λ x. x == 61) (45 ∷ 45 ∷ rest))).1 named) in
        let bad : true ≡ false = sym given ∙ none in cc

-- ---- The words after a command that have one FILE.

abbrev pub taken : Text → Bool → Walk
taken file is_trailing = at [] (Some (codes "FILE", file ∷ [])) 2 is_trailing

pub first_plain : (c : CommandName) (word : Text) → is_flag word ≡ false
    → (turn_fault (leaf c) [] (at [] None 1 false) word ≡ [])
    × (walked (leaf c).rules [] (at [] None 1 false) word ≡ taken word false)
first_plain run_name word plain = plain_turn (leaf run_name) [] [] None 1 word refl plain
first_plain asm_name word plain = plain_turn (leaf asm_name) [] [] None 1 word refl plain
first_plain dis_name word plain = plain_turn (leaf dis_name) [] [] None 1 word refl plain

pub second_plain : (c : CommandName) (file word : Text) → is_flag word ≡ false
    → turn_fault (leaf c) [] (taken file false) word ≡ kind.UnknownArgument ∷ []
second_plain run_name file word plain = (plain_turn (leaf run_name) [] [] (Some (codes "FILE", file ∷ [])) 2 word refl plain).0
second_plain asm_name file word plain = (plain_turn (leaf asm_name) [] [] (Some (codes "FILE", file ∷ [])) 2 word refl plain).0
second_plain dis_name file word plain = (plain_turn (leaf dis_name) [] [] (Some (codes "FILE", file ∷ [])) 2 word refl plain).0

-- A level of a parse, by its walk.
abbrev pub level_end : Shape → Walk → Kinds → Bool → Kinds → Kinds
level_end s w kinds has_subcommand below = or_else kinds
    (or_else below (or_else (settle_fault s.rules s.args_override_self w.held)
    (or_else (defaults_fault (settled s.rules w.held).rows s.rules)
    (check_fault s (finished s.rules w.held) has_subcommand))))

leaf_end : (c : CommandName) (file : Text) (t : Bool) → level_end (leaf c) (taken file t) [] false [] ≡ []
unfolding defaults_fault
leaf_end run_name file t = refl
leaf_end asm_name file t = refl
leaf_end dis_name file t = refl

abbrev Reads : CommandName → List Text → Text → Type 0
Reads c rest file = (t : Bool) × (walk (leaf c).rules [] nothing_held rest ≡ taken file t)
    × (walk_fault (leaf c) [] (walk_from nothing_held) rest ≡ [])

-- `--` before FILE, and after it.
around_mark : (c : CommandName) (file : Text)
    → Reads c (last_flag ∷ file ∷ []) file
    × (walked (leaf c).rules [] (taken file false) last_flag ≡ taken file true)
    × (walk_fault (leaf c) [] (taken file false) (last_flag ∷ []) ≡ [])
unfolding walk_fault walked
around_mark run_name file = ((true, refl, refl), refl, refl)
around_mark asm_name file = ((true, refl, refl), refl, refl)
around_mark dis_name file = ((true, refl, refl), refl, refl)

module _ (c : CommandName) where
  reads_one : (file : Text) → is_flag file ≡ false → Reads c (file ∷ []) file
  unfolding walk_fault
  reads_one file plain = let first = first_plain c file plain in (false, first.1, ap (λ k. or_else k []) first.0)

  reads_before : (file : Text) → is_flag file ≡ false → Reads c (file ∷ last_flag ∷ []) file
  unfolding walk_fault
  reads_before file plain =
      let first = first_plain c file plain in
      let mark = around_mark c file in (
        true,
        ap (λ w. walked (leaf c).rules [] w last_flag) first.1 ∙ mark.1,
        ap₂ (λ k w. or_else k (walk_fault (leaf c) [] w (last_flag ∷ []))) first.0 first.1 ∙ mark.2,
      )

  reads_file : (rest : List Text) (file : Text) → only_file rest ≡ Some file → Reads c rest file
  reads_file [] file is = cc
  reads_file (a ∷ []) file is = go (is_flag a) refl
    where
      go : (t : Bool) → is_flag a ≡ t → Reads c (a ∷ []) file
      go true flag = let bad : None ≡ Some file = rw flag at is in cc
      go false plain =
          let same : Some a ≡ Some file = rw plain at is in
          let equal : a ≡ file = cc in
          subst (λ (x : Text). Reads c (a ∷ []) x) equal (reads_one a plain)
  reads_file (a ∷ b ∷ []) file is = go (is_last_flag a) refl (is_last_flag b) refl (is_flag a) refl
    where
      go : (t : Bool) → is_last_flag a ≡ t → (u : Bool) → is_last_flag b ≡ u → (v : Bool) → is_flag a ≡ v
          → Reads c (a ∷ b ∷ []) file
      go true last u _ v _ =
          let same : Some b ≡ Some file = rw last at is in
          let equal : b ≡ file = cc in
          subst (λ (x : Text). Reads c (a ∷ b ∷ []) x) equal
          (subst (λ (x : Text). Reads c (x ∷ b ∷ []) b) (sym (is_last a last)) (around_mark c b).0)
      go false more false none v _ = let bad : None ≡ Some file = rw (more, none) at is in cc
      go false more true last true flag = let bad : None ≡ Some file = rw (more, last, flag) at is in cc
      go false more true last false plain =
          let same : Some a ≡ Some file = rw (more, last, plain) at is in
          let equal : a ≡ file = cc in
          subst (λ (x : Text). Reads c (a ∷ b ∷ []) x) equal
          (subst (λ (x : Text). Reads c (a ∷ x ∷ []) a) (sym (is_last b last)) (reads_before a plain))
  reads_file (a ∷ b ∷ d ∷ rest) file is = cc

-- ---- The words after `run` that do not have one FILE.

-- The walk over the words fails from this point.
WalkFails : Walk → List Text → Type 0
WalkFails w rest = walk_fault (leaf run_name) [] w rest ≡ [] → ⊥

-- A parse of the words fails from the beginning.
Stops : List Text → Type 0
Stops rest = level_fault (leaf run_name) [] nothing_held rest false [] ≡ [] → ⊥

walk_stops : (rest : List Text) → WalkFails (walk_from nothing_held) rest → Stops rest
unfolding WalkFails Stops
walk_stops rest fails e = fails (nothing_left _ _ e).0

-- The walk after one word.
goes_on : (w to : Walk) (word : Text) (rest : List Text) → walked (leaf run_name).rules [] w word ≡ to
    → WalkFails to rest → WalkFails w (word ∷ rest)
unfolding WalkFails
goes_on w to word rest is fails e =
    fails (ap (λ (w : Walk). walk_fault (leaf run_name) [] w rest) (sym is) ∙ (walk_split (leaf run_name) [] w word rest e).1)

mark_first : walked (leaf run_name).rules [] (at [] None 1 false) last_flag ≡ at [] None 1 true
unfolding walked
mark_first = refl

file_after_mark : (file : Text) → walked (leaf run_name).rules [] (at [] None 1 true) file ≡ taken file true
unfolding walked
file_after_mark file = refl

-- A word after FILE and `--`.
third_fails : (file word : Text) (rest : List Text) → WalkFails (taken file true) (word ∷ rest)
unfolding WalkFails
third_fails file word rest e =
    let bad : kind.UnknownArgument ∷ [] ≡ [] = (walk_split (leaf run_name) [] (taken file true) word rest e).0 in cc

-- A second FILE.
second_fails : (file word : Text) (rest : List Text) → is_memory_flag word ≡ false → is_last_flag word ≡ false
    → WalkFails (taken file false) (word ∷ rest)
unfolding WalkFails
second_fails file word rest none more e = go (is_flag word) refl
  where
    turn : turn_fault (leaf run_name) [] (taken file false) word ≡ []
    turn = (walk_split (leaf run_name) [] (taken file false) word rest e).0

    go : (t : Bool) → is_flag word ≡ t → ⊥
    go true flag = flag_turn (leaf run_name) [] [] (Some (codes "FILE", file ∷ [])) 2 word is_memory run_refuses (no_memory word none)
        refl more flag turn
    go false plain = let bad : kind.UnknownArgument ∷ [] ≡ [] = sym (second_plain run_name file word plain) ∙ turn in cc

flag_first : (a : Text) (rest : List Text) → is_memory_flag a ≡ false → is_flag a ≡ true → is_last_flag a ≡ false
    → WalkFails (at [] None 1 false) (a ∷ rest)
unfolding WalkFails
flag_first a rest none flag more e =
    flag_turn (leaf run_name) [] [] None 1 a is_memory run_refuses (no_memory a none) refl more flag
    (walk_split (leaf run_name) [] (at [] None 1 false) a rest e).0

no_file : Stops []
unfolding Stops walk_fault defaults_fault
no_file e = let bad : kind.MissingRequiredArgument ∷ [] ≡ [] = e in cc

only_mark : Stops (last_flag ∷ [])
unfolding Stops walk_fault defaults_fault walked
only_mark e = let bad : kind.MissingRequiredArgument ∷ [] ≡ [] = e in cc

-- `--` first, and then not exactly one word.
stops_marked : (rest : List Text) → only_file (last_flag ∷ rest) ≡ None → Stops (last_flag ∷ rest)
stops_marked [] is = only_mark
stops_marked (b ∷ []) is = cc
stops_marked (b ∷ d ∷ rest) is =
    walk_stops (last_flag ∷ b ∷ d ∷ rest) (goes_on (at [] None 1 false) (at [] None 1 true) last_flag (b ∷ d ∷ rest) mark_first
    (goes_on (at [] None 1 true) (taken b true) b (d ∷ rest) (file_after_mark b) (third_fails b d rest)))

-- A FILE first, and then not only `--`.
stops_taken : (a : Text) (rest : List Text) → give_memory rest ≡ false → is_last_flag a ≡ false → is_flag a ≡ false
    → only_file (a ∷ rest) ≡ None → WalkFails (taken a false) rest
stops_taken a [] none more plain is = let bad : Some a ≡ None = rw plain at is in cc
stops_taken a (b ∷ rest) none more plain is = go (is_last_flag b) refl rest is
  where
    given : (is_memory_flag b ≡ false) × (give_memory rest ≡ false)
    given = or_parts (is_memory_flag b) (give_memory rest) none

    go : (u : Bool) → is_last_flag b ≡ u → (rest : List Text) → only_file (a ∷ b ∷ rest) ≡ None → WalkFails (taken a false) (b ∷ rest)
    go false other rest is = second_fails a b rest given.0 other
    go true last [] is = let bad : Some a ≡ None = rw (more, last, plain) at is in cc
    go true last (d ∷ rest) is =
        subst (λ (x : Text). WalkFails (taken a false) (x ∷ d ∷ rest)) (sym (is_last b last))
        (goes_on (taken a false) (taken a true) last_flag (d ∷ rest) (around_mark run_name a).1 (third_fails a d rest))

stops : (rest : List Text) → give_memory rest ≡ false → only_file rest ≡ None → Stops rest
stops [] none is = no_file
stops (a ∷ rest) none is = go (is_last_flag a) refl (is_flag a) refl
  where
    given : (is_memory_flag a ≡ false) × (give_memory rest ≡ false)
    given = or_parts (is_memory_flag a) (give_memory rest) none

    go : (t : Bool) → is_last_flag a ≡ t → (v : Bool) → is_flag a ≡ v → Stops (a ∷ rest)
    go true last v _ =
        subst (λ (x : Text). Stops (x ∷ rest)) (sym (is_last a last))
        (stops_marked rest (subst (λ (x : Text). only_file (x ∷ rest) ≡ None) (is_last a last) is))
    go false more true flag = walk_stops (a ∷ rest) (flag_first a rest given.0 flag more)
    go false more false plain =
        walk_stops (a ∷ rest) (goes_on (at [] None 1 false) (taken a false) a rest (first_plain run_name a plain).1
        (stops_taken a rest given.1 more plain is))

pub stops_at : (rest : List Text) → give_memory rest ≡ false → only_file rest ≡ None
    → level_fault (leaf run_name) [] nothing_held rest false [] ≡ [] → ⊥
unfolding Stops
stops_at rest none is = stops rest none is

-- ---- A command and the words after it.

abbrev meeting : Text → List Text → Walk
meeting command rest = record (walk_from nothing_held) { stopped = Some (command, rest) }

command_walk : (c : CommandName) (rest : List Text) → walk top.rules names nothing_held (name_text c ∷ rest) ≡ meeting (name_text c) rest
unfolding walked
command_walk run_name rest = sym (walk_stopped top.rules names (walk_from nothing_held) (codes "run") [] rest)
command_walk asm_name rest = sym (walk_stopped top.rules names (walk_from nothing_held) (codes "asm") [] rest)
command_walk dis_name rest = sym (walk_stopped top.rules names (walk_from nothing_held) (codes "dis") [] rest)

command_walk_fault : (c : CommandName) (rest : List Text) → walk_fault top names (walk_from nothing_held) (name_text c ∷ rest) ≡ []
unfolding walk_fault walked
command_walk_fault run_name rest = stopped_fault top names (walk_from nothing_held) (codes "run", []) rest
command_walk_fault asm_name rest = stopped_fault top names (walk_from nothing_held) (codes "asm", []) rest
command_walk_fault dis_name rest = stopped_fault top names (walk_from nothing_held) (codes "dis", []) rest

abbrev top_end : Walk → Kinds → Kinds
top_end w kinds = level_end top w kinds (is_some (entered (built bench_app) w.stopped)) (entered_fault (built bench_app) w.stopped)

-- What a parse finds wrong with the words.
abbrev pub below_fault : CommandName → List Text → Kinds
below_fault c rest = or_else (level_fault (leaf c) [] nothing_held rest false []) []

command_end : (c : CommandName) (rest : List Text) → top_end (meeting (name_text c) rest) [] ≡ below_fault c rest
unfolding defaults_fault
command_end run_name rest = refl
command_end asm_name rest = refl
command_end dis_name rest = refl

pub command_fault : (c : CommandName) (name : Text) (rest : List Text) → fault_of bench_app (name ∷ name_text c ∷ rest) ≡ below_fault c rest
command_fault c name rest = ap₂ top_end (command_walk c rest) (command_walk_fault c rest) ∙ command_end c rest

-- What a parse keeps of the words.
abbrev pub rows_below : CommandName → List Text → List Row
rows_below c rest = finished (leaf c).rules (walk (leaf c).rules [] nothing_held rest).held

command_rows : (c : CommandName) (rest : List Text)
    → entered (built bench_app) (Some (name_text c, rest)) ≡ Some (name_text c, rows_below c rest)
command_rows run_name rest = refl
command_rows asm_name rest = refl
command_rows dis_name rest = refl

pub command_met : (c : CommandName) (name : Text) (rest : List Text)
    → subcommand_of bench_app (name ∷ name_text c ∷ rest) ≡ Some (name_text c, rows_below c rest)
command_met c name rest = ap (λ (w : Walk). entered (built bench_app) w.stopped) (command_walk c rest) ∙ command_rows c rest

command_job : (c : CommandName) (file : Text) (t : Bool)
    → job_in (Some (name_text c, finished (leaf c).rules (taken file t).held)) ≡ Some (task_named c, file)
command_job run_name file t = refl
command_job asm_name file t = refl
command_job dis_name file t = refl

-- Only a FILE for a command: the parse accepts the words, and finds this job.
pub record Meets (words : List Text) (task : Task) (file : Text) : Type 0 where
  pub no_fault : fault_of bench_app words ≡ []
  pub asked : job_asked words ≡ Some (task, file)

command_meets : (c : CommandName) (name : Text) (rest : List Text) (file : Text) → only_file rest ≡ Some file
    → Meets (name ∷ name_text c ∷ rest) (task_named c) file
command_meets c name rest file is =
    let reads = reads_file c rest file is in
    let below : level_fault (leaf c) [] nothing_held rest false [] ≡ [] =
    ap₂ (λ w k. level_end (leaf c) w k false []) reads.1 reads.2 ∙ leaf_end c file reads.0 in
    let rows : rows_below c rest ≡ finished (leaf c).rules (taken file reads.0).held =
    ap (λ (w : Walk). finished (leaf c).rules w.held) reads.1 in
    record {
      no_fault = command_fault c name rest ∙ ap (λ k. or_else k []) below;
      asked = ap job_in (command_met c name rest) ∙ ap (λ rows. job_in (Some (name_text c, rows))) rows ∙ command_job c file reads.0;
    }

pub file_meets : (c : CommandName) (words : List Text) (file : Text) → file_for (name_text c) words ≡ Some file
    → Meets words (task_named c) file
file_meets c [] file is = cc
file_meets c (name ∷ []) file is = cc
file_meets c (name ∷ command ∷ rest) file is = go (bytes_eq (name_text c) command) refl
  where
    go : (t : Bool) → bytes_eq (name_text c) command ≡ t → Meets (name ∷ command ∷ rest) (task_named c) file
    go false other = let bad : None ≡ Some file = rw other at is in cc
    go true named =
        subst (λ (x : Text). Meets (name ∷ x ∷ rest) (task_named c) file) ((bytes_eq-Decides (name_text c) command).0 named)
        (command_meets c name rest file (rw named at is))
