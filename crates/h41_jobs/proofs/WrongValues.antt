-- An option with a wrong value: a parse accepts the words, and they ask for no job.
use Rattle.std.proofs.Common.{ap, ap₂, sym, refl, codes, ℕ, Bool, true, false, List, Option, Some, None, [], ◌∷◌, ◌++◌, ◌≡◌}
use Rattle.std.proofs.Common.{◌∙◌, drop, inl, inr, is_none, option_map, subst}
use Rattle.std.specs.Prelude.{option_and_then}
use Rattle.std.proofs.lemmas.Bool.{not-true, or_cases}
use Rattle.clap.specs.Words.{Text}
use Rattle.clap.specs.Walk.{Walk, finished, nothing_held, walk, walk_from, walked}
use Rattle.clap.specs.Kinds.{or_else}
use Rattle.clap.specs.Faults.{defaults_fault, fault_of, level_fault, walk_fault}
use Rattle.clap.proofs.WalkLemmas.{both}
use Rattle.h41_jobs.specs.BenchCommand.{bench_app, job_asked, job_in, origin_value}
use Rattle.h41_jobs.specs.CommandLine.{give_value, gives_wrong_value, is_command, is_flag}
use Rattle.h41_jobs.specs.MemorySizes.{size_written}
use Rattle.h41_jobs.specs.declared.arguments.Task.{Task}
use Rattle.h41_jobs.specs.declared.arguments.Task.TheVariants as tasks
use Rattle.h41_jobs.proofs.WordTurns.{at}
use Rattle.h41_jobs.proofs.CommandWalks.{CommandName, asm_name, command_fault, command_met, dis_name, first_plain, leaf, level_end}
use Rattle.h41_jobs.proofs.CommandWalks.{name_text, run_name, taken}
use Rattle.h41_jobs.proofs.CommandLemmas.{command_named}
use Rattle.h41_jobs.proofs.TwiceGiven.{file_between, first_given, given_after, given_word, held_rows, option_text}

-- The task that a value asks for.
abbrev task_of_value : CommandName → Text → Option Task
task_of_value run_name text = option_map (λ size. tasks.Run size) (size_written text)
task_of_value asm_name text = option_map (λ origin. tasks.Assemble origin) (origin_value text)
task_of_value dis_name text = option_map (λ origin. tasks.List origin) (origin_value text)

-- The walk over the option and FILE, and over FILE and the option.
abbrev before_file : CommandName → Text → Text → Walk
before_file c a file = at (held_rows c a) (Some (codes "FILE", file ∷ [])) 2 false

abbrev behind_file : CommandName → Text → Text → Walk
behind_file c file a = walked (leaf c).rules [] (taken file false) (option_text c ++ a)

abbrev JobOf : CommandName → Walk → Text → Text → Type 0
JobOf c w a file = (level_end (leaf c) w [] false [] ≡ [])
    × (job_in (Some (name_text c, finished (leaf c).rules w.held)) ≡ option_and_then (λ task. Some (task, file)) (task_of_value c a))

job_before : (c : CommandName) (a file : Text) → JobOf c (before_file c a file) a file
unfolding defaults_fault walked
job_before run_name a file = (refl, refl)
job_before asm_name a file = (refl, refl)
job_before dis_name a file = (refl, refl)

job_behind : (c : CommandName) (file a : Text) → JobOf c (behind_file c file a) a file
unfolding defaults_fault walked
job_behind run_name file a = (refl, refl)
job_behind asm_name file a = (refl, refl)
job_behind dis_name file a = (refl, refl)

-- A parse accepts the words, and they ask for no job.
pub record AsksNothing (words : List Text) : Type 0 where
  pub no_fault : fault_of bench_app words ≡ []
  pub no_job : job_asked words ≡ None

asks_nothing : (c : CommandName) (name : Text) (rest : List Text) (w : Walk) (a file : Text)
    → walk (leaf c).rules [] nothing_held rest ≡ w → walk_fault (leaf c) [] (walk_from nothing_held) rest ≡ [] → JobOf c w a file
    → task_of_value c a ≡ None → AsksNothing (name ∷ name_text c ∷ rest)
asks_nothing c name rest w a file walks passes job wrong =
    let below : level_fault (leaf c) [] nothing_held rest false [] ≡ [] =
    ap₂ (λ w k. level_end (leaf c) w k false []) walks passes ∙ job.0 in
    record {
      no_fault = command_fault c name rest ∙ ap (λ k. or_else k []) below;
      no_job = ap job_in (command_met c name rest)
          ∙ ap (λ (w : Walk). job_in (Some (name_text c, finished (leaf c).rules w.held))) walks
          ∙ job.1 ∙ ap (option_and_then (λ (task : Task). Some (task, file))) wrong;
    }

option_first : (c : CommandName) (name a file : Text) → is_flag file ≡ false → task_of_value c a ≡ None
    → AsksNothing (name ∷ name_text c ∷ (option_text c ++ a) ∷ file ∷ [])
unfolding walk_fault
option_first c name a file plain wrong =
    let first = first_given c a in
    let second = file_between c a file plain in
    asks_nothing c name ((option_text c ++ a) ∷ file ∷ []) (before_file c a file) a file
    (ap (λ (w : Walk). walked (leaf c).rules [] w file) first.1 ∙ second.1)
    (ap₂ (λ k w. or_else k (walk_fault (leaf c) [] w (file ∷ []))) first.0 first.1 ∙ ap (λ k. or_else k []) second.0)
    (job_before c a file) wrong

file_first : (c : CommandName) (name file a : Text) → is_flag file ≡ false → task_of_value c a ≡ None
    → AsksNothing (name ∷ name_text c ∷ file ∷ (option_text c ++ a) ∷ [])
unfolding walk_fault
file_first c name file a plain wrong =
    let first = first_plain c file plain in
    let second = given_after c file a in
    asks_nothing c name (file ∷ (option_text c ++ a) ∷ []) (behind_file c file a) a file
    (ap (λ (w : Walk). walked (leaf c).rules [] w (option_text c ++ a)) first.1)
    (ap₂ (λ k w. or_else k (walk_fault (leaf c) [] w ((option_text c ++ a) ∷ []))) first.0 first.1 ∙ ap (λ k. or_else k []) second.0)
    (job_behind c file a) wrong

none_is : {X : Type 0} (o : Option X) → is_none o ≡ true → o ≡ None
none_is None is = refl
none_is (Some x) is = cc

-- A value of the command is wrong.
abbrev is_wrong : CommandName → Text → Bool
is_wrong run_name text = is_none (size_written text)
is_wrong asm_name text = is_none (origin_value text)
is_wrong dis_name text = is_none (origin_value text)

wrong_task : (c : CommandName) (text : Text) → is_wrong c text ≡ true → task_of_value c text ≡ None
wrong_task run_name text is = ap (option_map (λ size. tasks.Run size)) (none_is (size_written text) is)
wrong_task asm_name text is = ap (option_map (λ (origin : ℕ). tasks.Assemble origin)) (none_is (origin_value text) is)
wrong_task dis_name text is = ap (option_map (λ (origin : ℕ). tasks.List origin)) (none_is (origin_value text) is)

wrong_named : (c : CommandName) (name : Text) (rest : List Text) → give_value (is_wrong c) (name_text c) rest ≡ true
    → AsksNothing (name ∷ name_text c ∷ rest)
wrong_named c name [] is = cc
wrong_named c name (a ∷ []) is = cc
wrong_named c name (a ∷ b ∷ []) is = elim (or_cases _ _ is) [
  | inl first ↦ (
      let given = both _ _ first in
      let other = both _ _ given.1 in
      subst (λ (x : Text). AsksNothing (name ∷ name_text c ∷ x ∷ b ∷ [])) (given_word c a given.0)
      (option_first c name (drop 9 a) b (not-true (is_flag b) other.1) (wrong_task c (drop 9 a) other.0)))
  | inr second ↦ (
      let given = both _ _ second in
      let other = both _ _ given.1 in
      subst (λ (x : Text). AsksNothing (name ∷ name_text c ∷ a ∷ x ∷ [])) (given_word c b other.0)
      (file_first c name a (drop 9 b) (not-true (is_flag a) given.0) (wrong_task c (drop 9 b) other.1)))
]
wrong_named c name (a ∷ b ∷ d ∷ rest) is = cc

named_wrong : (c : CommandName) (name : Text) (rest : List Text) → gives_wrong_value (name ∷ name_text c ∷ rest) ≡ true
    → give_value (is_wrong c) (name_text c) rest ≡ true
named_wrong run_name name rest is = is
named_wrong asm_name name rest is = is
named_wrong dis_name name rest is = is

pub wrong_value : (words : List Text) → gives_wrong_value words ≡ true → AsksNothing words
wrong_value [] is = cc
wrong_value (name ∷ []) is = cc
wrong_value (name ∷ command ∷ rest) is =
    let parts = both (is_command command) _ is in
    let c = command_named command parts.0 in
    subst (λ (x : Text). AsksNothing (name ∷ x ∷ rest)) c.1
    (wrong_named c.0 name rest
    (named_wrong c.0 name rest (subst (λ (x : Text). gives_wrong_value (name ∷ x ∷ rest) ≡ true) (sym c.1) is)))
