-- What the words of a command line ask for. The first word is the program's name.
use Rattle.std.specs.Prelude.{map, ◌==◌, ◌&&◌, ◌||◌, ℕ, Bool, true, false, not, List, [], ◌∷◌}
use Rattle.std.specs.Prelude.{Option, Some, None, is_some, if◌then◌else◌, codes, slice_get, take}
use Rattle.std.specs.Prelude.{drop, is_none}
use Rattle.std.specs.Borrow.{Bor}
use Rattle.std.specs.List.{before_first, list_any}
use Rattle.std.specs.Str.{bytes_eq, chars}
use Rattle.h41_jobs.specs.BenchCommand.{origin_value}
use Rattle.h41_jobs.specs.MemorySizes.{size_written}

-- A flag: a hyphen (45), and at least one character after it.
abbrev pub is_flag : List ℕ → Bool
is_flag [] = false
is_flag (c ∷ rest) = c == 45 && is_some (slice_get (chars rest) 0)

-- The word `--`, after which no word is a flag.
abbrev pub is_last_flag : List ℕ → Bool
is_last_flag word = bytes_eq word (codes "--")

-- The only FILE of the words after a command, before or after `--`.
abbrev pub only_file : List (List ℕ) → Option (List ℕ)
only_file [] = None
only_file (file ∷ []) = if is_flag file then None else Some file
only_file (a ∷ b ∷ []) = if is_last_flag a then Some b
    else (if is_last_flag b && not (is_flag a) then Some a else None)
only_file (a ∷ b ∷ c ∷ rest) = None

-- The FILE that the words give to a command, with nothing else, if they do.
abbrev pub file_for : List ℕ → List (List ℕ) → Option (List ℕ)
file_for command [] = None
file_for command (name ∷ []) = None
file_for command (name ∷ word ∷ rest) = if bytes_eq command word then only_file rest else None

-- The FILE that the words ask to run, if they do.
abbrev pub file_to_run : List (List ℕ) → Option (List ℕ)
file_to_run = file_for (codes "run")

-- The word gives a size of memory, after `=` (61) or in the next word.
abbrev pub is_memory_flag : List ℕ → Bool
is_memory_flag word = bytes_eq (codes "--memory") (before_first (λ c. c == 61) word)

-- One of the words gives a size of memory.
abbrev pub give_memory : List (List ℕ) → Bool
give_memory words = list_any is_memory_flag words

-- The names of the commands.
abbrev pub is_command : List ℕ → Bool
is_command word =
    bytes_eq (codes "run") word || (bytes_eq (codes "asm") word || bytes_eq (codes "dis") word)

-- A flag for help.
abbrev pub is_help_flag : List ℕ → Bool
is_help_flag word = bytes_eq word (codes "--help") || bytes_eq word (codes "-h")

-- Help is asked for: the flag is the only word, or the only word after a command.
abbrev pub asks_help : List (List ℕ) → Bool
asks_help [] = false
asks_help (name ∷ []) = false
asks_help (name ∷ a ∷ []) = is_help_flag a
asks_help (name ∷ a ∷ b ∷ []) = is_command a && is_help_flag b
asks_help (name ∷ a ∷ b ∷ c ∷ rest) = false

-- A flag for the version.
abbrev pub is_version_flag : List ℕ → Bool
is_version_flag word = bytes_eq word (codes "--version") || bytes_eq word (codes "-V")

-- The version is asked for: the flag is the only word.
abbrev pub asks_version : List (List ℕ) → Bool
asks_version [] = false
asks_version (name ∷ []) = false
asks_version (name ∷ a ∷ []) = is_version_flag a
asks_version (name ∷ a ∷ b ∷ rest) = false

-- FILE is missing, or the first two words after a command are both FILEs.
abbrev pub has_wrong_files : List (List ℕ) → Bool
has_wrong_files [] = true
has_wrong_files (file ∷ []) = false
has_wrong_files (a ∷ b ∷ rest) = not (is_flag a) && not (is_flag b)

-- The command is missing or unknown, or FILE is missing, or there are two FILEs.
abbrev pub is_mistake : List (List ℕ) → Bool
is_mistake [] = true
is_mistake (name ∷ []) = true
is_mistake (name ∷ command ∷ rest) = if is_command command then has_wrong_files rest
    else (not (bytes_eq (codes "help") command) && not (is_flag command))

-- The only FILE that the words ask to assemble.
abbrev pub asm_file : List (Bor (List ℕ)) → Option (List ℕ)
asm_file words = file_for (codes "asm") (map (λ word. word.now) words)

-- The only FILE that the words ask to list.
abbrev pub dis_file : List (Bor (List ℕ)) → Option (List ℕ)
dis_file words = file_for (codes "dis") (map (λ word. word.now) words)

-- The word gives the option of this command its value, after `=`.
abbrev pub gives_option : List ℕ → List ℕ → Bool
gives_option command word = bytes_eq (take 9 word)
    (if bytes_eq (codes "run") command then codes "--memory=" else codes "--origin=")

-- The words after this command give its option twice: before and after FILE, or both on one side of
-- it.
abbrev pub give_two : List ℕ → List (List ℕ) → Bool
give_two command (a ∷ b ∷ c ∷ rest) =
    (gives_option command a && gives_option command b)
    || ((gives_option command a && (not (is_flag b) && gives_option command c))
    || (not (is_flag a) && (gives_option command b && gives_option command c)))
give_two command _ = false

-- The words give an option twice.
abbrev pub gives_twice : List (List ℕ) → Bool
gives_twice [] = false
gives_twice (name ∷ []) = false
gives_twice (name ∷ command ∷ rest) = is_command command && give_two command rest

-- The words after this command are FILE and its option, in any order, with such a value.
abbrev pub give_value : (List ℕ → Bool) → List ℕ → List (List ℕ) → Bool
give_value wrong command (a ∷ b ∷ []) =
    (gives_option command a && (wrong (drop 9 a) && not (is_flag b)))
    || (not (is_flag a) && (gives_option command b && wrong (drop 9 b)))
give_value wrong command _ = false

-- The words are a command with FILE, and a size of memory or an origin that is wrong.
abbrev pub gives_wrong_value : List (List ℕ) → Bool
gives_wrong_value [] = false
gives_wrong_value (name ∷ []) = false
gives_wrong_value (name ∷ command ∷ rest) = is_command command
    && give_value (λ text. if bytes_eq (codes "run") command
    then is_none (size_written text) else is_none (origin_value text)) command rest
