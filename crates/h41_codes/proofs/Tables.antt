-- From codes back to functions and characters.
use Rattle.std.proofs.Common.{◌≡◌, ℕ, ◌+◌, ◌-◌, ◌<◌, ◌≤◌, get_or, if◌then◌else◌, leb, refl, arith}
use Rattle.h41_codes.specs.declared.functions.Function.{Function}
use Rattle.h41_codes.specs.declared.functions.Function.TheVariants.{Add}
use Rattle.h41_codes.specs.declared.functions.ParameterFunction.{ParameterFunction}
use Rattle.h41_codes.specs.declared.functions.ParameterFunction.TheVariants.{Recall}
use Rattle.h41_codes.specs.declared.characters.Character.{Character}
use Rattle.h41_codes.specs.declared.characters.Character.TheVariants.{Zero}
use Rattle.h41_codes.specs.Codes.{function_code, parameter_function_code, character_code}
use Rattle.h41_codes.specs.Functions.{functions, parameter_functions, characters}

-- The function with a code.
abbrev pub function_at : ℕ → Function
function_at code = get_or functions (code - 0x40) Add

pub function_again : (function : Function) → function_at (function_code function) ≡ function
function_again Add = refl
function_again function = refl

pub function_range : (function : Function) → (0x40 ≤ function_code function) × (function_code function < 0x90)
function_range Add = (omega arith, omega arith)
function_range function = (omega arith, omega arith)

-- The function with a parameter that has a code.
abbrev pub parameter_function_at : ℕ → ParameterFunction
parameter_function_at code =
    get_or parameter_functions (if leb 0xCE code then code - 0xCE + 22 else if leb 0xA8 code then code - 0xA8 + 16 else code - 0x90) Recall

pub parameter_function_again : (function : ParameterFunction) → parameter_function_at (parameter_function_code function) ≡ function
parameter_function_again Recall = refl
parameter_function_again function = refl

-- The character with a code.
abbrev pub character_at : ℕ → Character
character_at code = get_or characters (code - 0x10) Zero

pub character_again : (character : Character) → character_at (character_code character) ≡ character
character_again Zero = refl
character_again character = refl

pub character_range : (character : Character) → (0x10 ≤ character_code character) × (character_code character ≤ 0x1C)
character_range Zero = (omega arith, omega arith)
character_range character = (omega arith, omega arith)
