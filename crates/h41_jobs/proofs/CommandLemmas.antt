-- What `clap` makes of the words of a command line of the bench, and the result of the program.
use Rattle.std.proofs.Common.{ap, ap₂, sym, refl, codes, ℕ, Bool, true, false, List, Option, Some, None, [], ◌∷◌, ◌≡◌}
use Rattle.std.proofs.Common.{◌∙◌, ◌⊎◌, inl, inr, subst, ◌&&◌, cond, not, option_map, ◌||◌, Result, Ok, Err}
use Rattle.std.specs.Box.{box_value}
use Rattle.std.specs.Prelude.{option_and_then, IfSome, IfNone}
use Rattle.std.specs.Str.{bytes_eq}
use Rattle.std.proofs.lemmas.Bool.{not-true, or_cases, or_parts}
use Rattle.std.proofs.lemmas.Option.{some_pair_parts}
use Rattle.std.proofs.lemmas.Slice.Eq.{bytes_eq-Decides}
use Rattle.clap.specs.Words.{HasMatchesOf, Row, Text, first_of, kind_of, subcommand_rows, subcommand_rows_of}
use Rattle.clap.specs.Walk.{subcommand_met, idle, walk_from, walked, nothing_held}
use Rattle.clap.specs.Kinds.{HasKind, IsAmong, Kinds, or_else}
use Rattle.clap.specs.Faults.{fault_of, turn_fault, walk_fault, level_fault}
use Rattle.clap.specs.Matches.{subcommand_name_of}
use Rattle.clap.specs.declared.error.Error.{Error}
use Rattle.clap.specs.declared.error.kind.ErrorKind.{ErrorKind}
use Rattle.clap.specs.declared.error.kind.ErrorKind.TheVariants as kind
use Rattle.clap.specs.declared.parser.matches.ArgMatches.{ArgMatches}
use Rattle.clap.specs.declared.parser.matches.ArgMatches.TheViews.{out-ArgMatches, out-SubCommand}
use Rattle.clap.proofs.OnLiterals.{clap_on_literals}
use Rattle.clap.proofs.WalkLemmas.{both}
use Rattle.h41_jobs.specs.BenchCommand.{bench_app, command_in, job_asked, job_in, origin_asked}
use Rattle.h41_jobs.specs.declared.arguments.Task.{Task}
use Rattle.h41_jobs.specs.declared.arguments.Task.TheVariants as tasks
use Rattle.h41_jobs.specs.declared.memory.MemorySize.{MemorySize}
use Rattle.h41_jobs.specs.declared.memory.MemorySize.TheVariants as sizes
use Rattle.h41_jobs.specs.declared.arguments.Ending.{Ending}
use Rattle.h41_jobs.specs.declared.arguments.Ending.TheVariants as endings
use Rattle.h41_jobs.specs.declared.arguments.Job.{Job}
use Rattle.h41_jobs.specs.Ending.{AsksFor, AsksForNoRun, AsksToRun, GivesJob, parts_of}
use Rattle.h41_jobs.specs.CommandLine.{asks_help, asks_version, has_wrong_files, is_command, is_help_flag, is_mistake}
use Rattle.h41_jobs.specs.CommandLine.{give_memory, is_flag, is_last_flag, is_memory_flag, file_to_run}
use Rattle.h41_jobs.proofs.WordTurns.{nothing_left, last_flag, is_last, at, flag_turn, plain_turn, walk_split}
use Rattle.h41_jobs.proofs.CommandWalks.{top, names, leaf, top_refuses, taken, first_plain, second_plain, stops_at, command_fault}
use Rattle.h41_jobs.proofs.CommandWalks.{rows_below, command_met, below_fault, CommandName, run_name, asm_name, dis_name, name_text}

-- ---- Words that a parse finds wrong.

abbrev FaultIs : List Text → ErrorKind → Type 0
FaultIs words k = fault_of bench_app words ≡ k ∷ []

no_word : FaultIs [] kind.MissingSubcommand
unfolding clap_on_literals
no_word = refl

no_command : (name : Text) → FaultIs (name ∷ []) kind.MissingSubcommand
unfolding clap_on_literals
no_command name = refl

mark_alone : (name : Text) → FaultIs (name ∷ last_flag ∷ []) kind.MissingSubcommand
unfolding clap_on_literals
mark_alone name = refl

help_turn : turn_fault top names (at [] None 1 false) (codes "help") ≡ kind.DisplayHelp ∷ kind.InvalidSubcommand ∷ []
unfolding clap_on_literals
help_turn = refl

top_walks : (name : Text) (rest : List Text) → fault_of bench_app (name ∷ rest) ≡ []
    → walk_fault top names (walk_from nothing_held) rest ≡ []
top_walks name rest e = (nothing_left _ _ e).0

mark_then : (rest : List Text) → walk_fault top names (walk_from nothing_held) (last_flag ∷ rest) ≡ []
    → walk_fault top names (at [] None 1 true) rest ≡ []
unfolding walk_fault walked
mark_then rest e = e

mark_fails : (name : Text) (rest : List Text) → fault_of bench_app (name ∷ last_flag ∷ rest) ≡ [] → ⊥
mark_fails name [] e = let bad : kind.MissingSubcommand ∷ [] ≡ [] = sym (mark_alone name) ∙ e in cc
mark_fails name (y ∷ ys) e =
    let bad : kind.UnknownArgument ∷ kind.InvalidSubcommand ∷ [] ≡ [] =
    (walk_split top names (at [] None 1 true) y ys (mark_then (y ∷ ys) (top_walks name (last_flag ∷ y ∷ ys) e))).0 in cc

-- A word that is not a command.
other_command : (word : Text) → is_command word ≡ false → bytes_eq (codes "help") word ≡ false → subcommand_met names idle word ≡ None
other_command word none no_help =
    let run = or_parts (bytes_eq (codes "run") word) (bytes_eq (codes "asm") word || bytes_eq (codes "dis") word) none in
    let two = or_parts (bytes_eq (codes "asm") word) (bytes_eq (codes "dis") word) run.1 in
    λ i. option_map (λ (s : Text × List Text). s.0) (cond (run.0 i || false) (Some (codes "run", []))
    (cond (two.0 i || false) (Some (codes "asm", [])) (cond (two.1 i || false) (Some (codes "dis", []))
    (cond (no_help i || false) (Some (codes "help", [])) None))))

-- One of two texts.
either_of : (P : Text → Type 0) (a b : Text) → P a → P b → (word : Text) → (bytes_eq word a || bytes_eq word b) ≡ true → P word
either_of P a b first second word is = elim (or_cases (bytes_eq word a) (bytes_eq word b) is) [
  | inl same ↦ subst P (sym ((bytes_eq-Decides word a).0 same)) first
  | inr same ↦ subst P (sym ((bytes_eq-Decides word b).0 same)) second
]

-- One of the three commands.
pub command_named : (word : Text) → is_command word ≡ true → (c : CommandName) × (name_text c ≡ word)
command_named word is = elim (or_cases (bytes_eq (codes "run") word) (bytes_eq (codes "asm") word || bytes_eq (codes "dis") word) is) [
  | inl same ↦ (run_name, (bytes_eq-Decides (codes "run") word).0 same)
  | inr other ↦ elim (or_cases (bytes_eq (codes "asm") word) (bytes_eq (codes "dis") word) other) [
    | inl same ↦ (asm_name, (bytes_eq-Decides (codes "asm") word).0 same)
    | inr same ↦ (dis_name, (bytes_eq-Decides (codes "dis") word).0 same)
  ]
]

-- ---- Words that ask for no run.

abbrev NoRun : List Text → Type 0
NoRun words = (size : MemorySize) (file : Text) → give_memory words ≡ false → file_to_run words ≡ None → fault_of bench_app words ≡ []
    → job_asked words ≡ Some (tasks.Run size, file) → ⊥

abbrev job_with : Option Text → Task → Option (Task × Text)
job_with found task = option_map (λ file. (task, file)) found

-- The task of another command, if its origin is right.
no_run_task : (make : ℕ → Task) (size : MemorySize) → ((a : ℕ) → make a ≡ tasks.Run size → ⊥) → (origin : Option ℕ)
    (found : Option Text) (file : Text) → option_and_then (job_with found) (option_map make origin) ≡ Some (tasks.Run size, file) → ⊥
no_run_task make size differs None found file is = cc
no_run_task make size differs (Some a) None file is = cc
no_run_task make size differs (Some a) (Some found) file is = differs a (some_pair_parts (make a) (tasks.Run size) found file is).0

-- The words after two that give no size of memory.
behind : (a b : Text) (rest : List Text) → give_memory (a ∷ b ∷ rest) ≡ false → give_memory rest ≡ false
behind a b rest none =
    (or_parts (is_memory_flag b) (give_memory rest) (or_parts (is_memory_flag a) (give_memory (b ∷ rest)) none).1).1

no_run_named : (c : CommandName) (name : Text) (rest : List Text) → NoRun (name ∷ name_text c ∷ rest)
no_run_named run_name name rest size file none is e asked =
    stops_at rest (behind name (codes "run") rest none) is (nothing_left _ _ (sym (command_fault run_name name rest) ∙ e)).0
no_run_named asm_name name rest size file none is e asked =
    no_run_task (λ a. tasks.Assemble a) size (λ a same. cc) (origin_asked (first_of (codes "origin") (rows_below asm_name rest)))
    (first_of (codes "FILE") (rows_below asm_name rest)) file (sym (ap job_in (command_met asm_name name rest)) ∙ asked)
no_run_named dis_name name rest size file none is e asked =
    no_run_task (λ a. tasks.List a) size (λ a same. cc) (origin_asked (first_of (codes "origin") (rows_below dis_name rest)))
    (first_of (codes "FILE") (rows_below dis_name rest)) file (sym (ap job_in (command_met dis_name name rest)) ∙ asked)

-- A parse accepts no other word in place of a command.
other_fails : (name word : Text) (rest : List Text) → is_command word ≡ false → fault_of bench_app (name ∷ word ∷ rest) ≡ [] → ⊥
other_fails name word rest none e = go (bytes_eq (codes "help") word) refl (is_last_flag word) refl (is_flag word) refl
  where
    turn : turn_fault top names (at [] None 1 false) word ≡ []
    turn = (walk_split top names (at [] None 1 false) word rest (top_walks name (word ∷ rest) e)).0

    go : (b : Bool) → bytes_eq (codes "help") word ≡ b → (t : Bool) → is_last_flag word ≡ t → (v : Bool) → is_flag word ≡ v → ⊥
    go true helps t _ v _ =
        let at_help = subst (λ (x : Text). turn_fault top names (at [] None 1 false) x ≡ [])
        (sym ((bytes_eq-Decides (codes "help") word).0 helps)) turn in
        let bad : kind.DisplayHelp ∷ kind.InvalidSubcommand ∷ [] ≡ [] = sym help_turn ∙ at_help in cc
    go false no_help true last v _ =
        mark_fails name rest (subst (λ (x : Text). fault_of bench_app (name ∷ x ∷ rest) ≡ []) (is_last word last) e)
    go false no_help false more true flag =
        flag_turn top names [] None 1 word (λ n. false) top_refuses (λ rest is. refl) (other_command word none no_help) more flag turn
    go false no_help false more false plain =
        let bad : kind.UnknownArgument ∷ kind.InvalidSubcommand ∷ [] ≡ [] =
        sym (plain_turn top names [] None 1 word (other_command word none no_help) plain).0 ∙ turn in cc

no_run : (words : List Text) → NoRun words
no_run [] size file none is e asked = let bad : kind.MissingSubcommand ∷ [] ≡ [] = sym no_word ∙ e in cc
no_run (name ∷ []) size file none is e asked = let bad : kind.MissingSubcommand ∷ [] ≡ [] = sym (no_command name) ∙ e in cc
no_run (name ∷ word ∷ rest) size file no_memory is e asked = go (is_command word) refl
  where
    go : (t : Bool) → is_command word ≡ t → ⊥
    go false none = other_fails name word rest none e
    go true named =
        let c = command_named word named in
        subst (λ (x : Text). NoRun (name ∷ x ∷ rest)) c.1 (no_run_named c.0 name rest) size file no_memory is e asked

-- ---- Words that ask for help or the version.

flags_alone : (name : Text)
    → FaultIs (name ∷ codes "--help" ∷ []) kind.DisplayHelp × FaultIs (name ∷ codes "-h" ∷ []) kind.DisplayHelp
    × FaultIs (name ∷ codes "--version" ∷ []) kind.DisplayVersion × FaultIs (name ∷ codes "-V" ∷ []) kind.DisplayVersion
unfolding clap_on_literals
flags_alone name = (refl, refl, refl, refl)

-- The two flags for help after a command, with nothing after them.
after_command : (c : CommandName) (name : Text)
    → FaultIs (name ∷ name_text c ∷ codes "--help" ∷ []) kind.DisplayHelp × FaultIs (name ∷ name_text c ∷ codes "-h" ∷ []) kind.DisplayHelp
    × FaultIs (name ∷ name_text c ∷ []) kind.MissingRequiredArgument
unfolding clap_on_literals
after_command run_name name = (refl, refl, refl)
after_command asm_name name = (refl, refl, refl)
after_command dis_name name = (refl, refl, refl)

pub helps : (words : List Text) → asks_help words ≡ true → FaultIs words kind.DisplayHelp
helps [] is = cc
helps (name ∷ []) is = cc
helps (name ∷ a ∷ []) is =
    let flags = flags_alone name in
    either_of (λ word. FaultIs (name ∷ word ∷ []) kind.DisplayHelp) (codes "--help") (codes "-h") flags.0 flags.1 a is
helps (name ∷ a ∷ b ∷ []) is =
    let parts = both (is_command a) (is_help_flag b) is in
    let c = command_named a parts.0 in
    let flags = after_command c.0 name in
    subst (λ (x : Text). FaultIs (name ∷ x ∷ b ∷ []) kind.DisplayHelp) c.1
    (either_of (λ word. FaultIs (name ∷ name_text c.0 ∷ word ∷ []) kind.DisplayHelp)
    (codes "--help") (codes "-h") flags.0 flags.1 b parts.1)
helps (name ∷ a ∷ b ∷ c ∷ rest) is = cc

pub versions : (words : List Text) → asks_version words ≡ true → FaultIs words kind.DisplayVersion
versions [] is = cc
versions (name ∷ []) is = cc
versions (name ∷ a ∷ []) is =
    let flags = flags_alone name in
    either_of (λ word. FaultIs (name ∷ word ∷ []) kind.DisplayVersion) (codes "--version") (codes "-V") flags.2 flags.3 a is
versions (name ∷ a ∷ b ∷ rest) is = cc

-- ---- Words that are wrong.

abbrev pub IsAnswerless : ErrorKind → Type 0
IsAnswerless k = (k ≡ kind.DisplayHelp → ⊥) × (k ≡ kind.DisplayVersion → ⊥)

-- There is a kind of error, and none of the kinds is help or the version.
pub record IsRefusal (kinds : Kinds) : Type 0 where
  pub some : kinds ≡ [] → ⊥
  pub no_answers : (k : ErrorKind) → IsAmong k kinds → IsAnswerless k

refusal : (kinds : Kinds) (x : ErrorKind) (xs : Kinds) → kinds ≡ x ∷ xs → IsAnswerless x
    → ((k : ErrorKind) → IsAmong k xs → IsAnswerless k) → IsRefusal kinds
refusal kinds x xs is first others = subst IsRefusal (sym is) (record { some = λ e. cc; no_answers = each })
  where
    each : (k : ErrorKind) → IsAmong k (x ∷ xs) → IsAnswerless k
    each k (inl same) = subst IsAnswerless (sym same) first
    each k (inr among) = others k among

pub one_refusal : (kinds : Kinds) (x : ErrorKind) → kinds ≡ x ∷ [] → IsAnswerless x → IsRefusal kinds
one_refusal kinds x is first = refusal kinds x [] is first (λ k none. absurd none)

pub first_kinds : (a b : Kinds) (x : ErrorKind) (xs : Kinds) → a ≡ x ∷ xs → or_else a b ≡ x ∷ xs
first_kinds a b x xs is = ap (λ k. or_else k b) is

-- Two FILEs, of which the first is accepted and the second is not.
two_files : (c : CommandName) (a b : Text) (rest : List Text) → is_flag a ≡ false → is_flag b ≡ false
    → below_fault c (a ∷ b ∷ rest) ≡ kind.UnknownArgument ∷ []
unfolding walk_fault
two_files c a b rest plain other =
    let first = first_plain c a plain in
    let walks : walk_fault (leaf c) [] (walk_from nothing_held) (a ∷ b ∷ rest) ≡ kind.UnknownArgument ∷ [] =
    ap₂ (λ k w. or_else k (walk_fault (leaf c) [] w (b ∷ rest))) first.0 first.1
    ∙ first_kinds _ (walk_fault (leaf c) [] (walked (leaf c).rules [] (taken a false) b) rest)
    kind.UnknownArgument [] (second_plain c a b other) in
    first_kinds (level_fault (leaf c) [] nothing_held (a ∷ b ∷ rest) false []) [] kind.UnknownArgument []
    (first_kinds (walk_fault (leaf c) [] (walk_from nothing_held) (a ∷ b ∷ rest)) _ kind.UnknownArgument [] walks)

wrong_files : (c : CommandName) (name : Text) (rest : List Text) → has_wrong_files rest ≡ true
    → IsRefusal (fault_of bench_app (name ∷ name_text c ∷ rest))
wrong_files c name [] is = one_refusal _ kind.MissingRequiredArgument (after_command c name).2 (λ e. cc, λ e. cc)
wrong_files c name (file ∷ []) is = cc
wrong_files c name (a ∷ b ∷ rest) is =
    let parts = both (not (is_flag a)) (not (is_flag b)) is in
    one_refusal _ kind.UnknownArgument
    (command_fault c name (a ∷ b ∷ rest) ∙ two_files c a b rest (not-true (is_flag a) parts.0) (not-true (is_flag b) parts.1))
    (λ e. cc, λ e. cc)

stray_walk : (word : Text) (rest : List Text) → subcommand_met names idle word ≡ None → is_flag word ≡ false
    → walk_fault top names (walk_from nothing_held) (word ∷ rest) ≡ kind.UnknownArgument ∷ kind.InvalidSubcommand ∷ []
unfolding walk_fault
stray_walk word rest none plain =
    first_kinds _ (walk_fault top names (walked top.rules names (walk_from nothing_held) word) rest) kind.UnknownArgument
    (kind.InvalidSubcommand ∷ []) (plain_turn top names [] None 1 word none plain).0

stray_word : (name word : Text) (rest : List Text) → subcommand_met names idle word ≡ None → is_flag word ≡ false
    → IsRefusal (fault_of bench_app (name ∷ word ∷ rest))
stray_word name word rest none plain =
    refusal _ kind.UnknownArgument (kind.InvalidSubcommand ∷ [])
    (first_kinds (walk_fault top names (walk_from nothing_held) (word ∷ rest)) _ kind.UnknownArgument (kind.InvalidSubcommand ∷ [])
    (stray_walk word rest none plain)) (λ e. cc, λ e. cc)
    (one_refusal (kind.InvalidSubcommand ∷ []) kind.InvalidSubcommand refl (λ e. cc, λ e. cc)).no_answers

pub mistakes : (words : List Text) → is_mistake words ≡ true → IsRefusal (fault_of bench_app words)
mistakes [] is = one_refusal _ kind.MissingSubcommand no_word (λ e. cc, λ e. cc)
mistakes (name ∷ []) is = one_refusal _ kind.MissingSubcommand (no_command name) (λ e. cc, λ e. cc)
mistakes (name ∷ word ∷ rest) is = go (is_command word) refl
  where
    stray : Bool
    stray = not (bytes_eq (codes "help") word) && not (is_flag word)

    go : (a : Bool) → is_command word ≡ a → IsRefusal (fault_of bench_app (name ∷ word ∷ rest))
    go true named =
        let wrong : has_wrong_files rest ≡ true = ap (λ t. cond t (has_wrong_files rest) stray) (sym named) ∙ is in
        let c = command_named word named in
        subst (λ (x : Text). IsRefusal (fault_of bench_app (name ∷ x ∷ rest))) c.1 (wrong_files c.0 name rest wrong)
    go false none =
        let wrong : stray ≡ true = ap (λ t. cond t (has_wrong_files rest) stray) (sym none) ∙ is in
        let parts = both (not (bytes_eq (codes "help") word)) (not (is_flag word)) wrong in
        stray_word name word rest (other_command word none (not-true (bytes_eq (codes "help") word) parts.0))
        (not-true (is_flag word) parts.1)

-- ---- The result of a parse.

-- The job in the matches is the one that the words ask for.
pub asked_of : (words : List Text) (m : ArgMatches) → HasMatchesOf bench_app words m → job_in (subcommand_rows_of m) ≡ job_asked words
asked_of words m matches = ap job_in (matches refl).1

-- A command that was found, by its name and its rows.
pub met_row : (row : Option (Text × List Row)) (name : Text) (rows : List Row) → Some name ≡ option_map (λ p. p.0) row
    → Some rows ≡ option_map (λ p. p.1) row → row ≡ Some (name, rows)
met_row None name rows named held = cc
met_row (Some p) name rows named held =
    let one : name ≡ p.0 = cc in
    let other : rows ≡ p.1 = cc in
    λ i. Some (sym one i, sym other i)

pub named_rows : (m : ArgMatches) → command_in (subcommand_rows_of m) ≡ subcommand_name_of m
named_rows m =
    elim (out-ArgMatches m).subcommand as
    (λ o. command_in (subcommand_rows o) ≡ option_map (λ b. (out-SubCommand (box_value b)).name.now) o) [
      | None ↦ refl
      | Some b ↦ refl
    ]

-- Words that a parse accepts fail only if allocation fails, and others also with their only kind of
-- error.
pub failed_memory : (words : List Text) (e : Error) → HasKind (fault_of bench_app words) e → fault_of bench_app words ≡ []
    → kind_of e ≡ kind.OutOfMemory
failed_memory words e has passed = go (subst (λ kinds. HasKind kinds e) passed has)
  where
    go : HasKind [] e → kind_of e ≡ kind.OutOfMemory
    go (inl memory) = memory
    go (inr none) = absurd none

pub failed_by : (k : ErrorKind) (words : List Text) (e : Error) → HasKind (fault_of bench_app words) e → FaultIs words k
    → (kind_of e ≡ kind.OutOfMemory) ⊎ (kind_of e ≡ k)
failed_by k words e has is = go (subst (λ kinds. HasKind kinds e) is has)
  where
    go : HasKind (k ∷ []) e → (kind_of e ≡ kind.OutOfMemory) ⊎ (kind_of e ≡ k)
    go (inl memory) = inl memory
    go (inr (inl own)) = inr own
    go (inr (inr none)) = absurd none

pub failed_refusal : (words : List Text) (e : Error) → HasKind (fault_of bench_app words) e → IsRefusal (fault_of bench_app words)
    → IsAnswerless (kind_of e)
failed_refusal words e (inl memory) refused = subst IsAnswerless (sym memory) (λ e. cc, λ e. cc)
failed_refusal words e (inr among) refused = refused.no_answers (kind_of e) among

pub not_taken : (k : ErrorKind) (words : List Text) → FaultIs words k → fault_of bench_app words ≡ [] → ⊥
not_taken k words is e = let bad : k ∷ [] ≡ [] = sym is ∙ e in cc

pub if_some : {X : Type 0} (o : Option X) (P : X → Type 0) → ((x : X) → o ≡ Some x → P x) → IfSome o P
if_some None P each = tt
if_some (Some x) P each = each x refl

pub if_none : {X : Type 0} (o : Option X) (P : Type 0) → (o ≡ None → P) → IfNone o P
if_none None P holds = holds refl
if_none (Some x) P holds = tt

-- ---- The result of the words.

-- A job with these parts.
pub gives_these : (asked : Option (Task × Text)) (result : Result Job Ending) (task : Task) (file : Text) → asked ≡ Some (task, file)
    → GivesJob asked result → AsksFor result (task, file)
gives_these asked result task file is gives = rw is at gives

-- A run of this file.
pub runs_file : (asked : Option (Task × Text)) (result : Result Job Ending) (file : Text) → asked ≡ Some (tasks.Run sizes.Cv, file)
    → GivesJob asked result → AsksToRun result file
runs_file asked (Ok job) file is gives =
    let parts : parts_of job ≡ (tasks.Run sizes.Cv, file) = rw is at gives in
    record { task_is = ap (λ (p : Task × Text). p.0) parts; file_is = ap (λ (p : Task × Text). p.1) parts }
runs_file asked (Err ending) file is gives = let parts : ending ≡ endings.OutOfMemory = rw is at gives in parts

-- No run.
pub runs_none : (words : List Text) (result : Result Job Ending) → give_memory words ≡ false → file_to_run words ≡ None
    → fault_of bench_app words ≡ [] → GivesJob (job_asked words) result → AsksForNoRun result
runs_none words (Ok job) given none passed gives = λ size run. go size (job_asked words) refl gives run
  where
    go : (size : MemorySize) (asked : Option (Task × Text)) → job_asked words ≡ asked → GivesJob asked (Ok job)
        → job.task ≡ tasks.Run size → ⊥
    go size None is gives run = absurd gives
    go size (Some parts) is gives run =
        no_run words size job.file.now given none passed
        (is ∙ sym (ap (λ (p : Task × Text). Some p) gives) ∙ ap (λ (t : Task). Some (t, job.file.now)) run)
runs_none words (Err ending) given none passed gives = tt

-- Allocation may fail.
pub runs_out : (asked : Option (Task × Text)) (ending : Ending) → ending ≡ endings.OutOfMemory → GivesJob asked (Err ending)
runs_out None ending is = inr is
runs_out (Some parts) ending is = is
