-- A function of a module has numbers that a line can contain.
use Rattle.std.proofs.Common.{◌≡◌, ℕ, ◌<◌, ◌≤◌, Bool, true, false, List, [], ◌∷◌, Option, Some, None, arith, rules}
use Rattle.std.proofs.Common.{if◌then◌else◌, length, refl, slice_index}
use Rattle.std.specs.Prelude.{◌&&◌, IfSome, find, nat_le, option_map, All}
use Rattle.std.specs.List.{flat_map, range_with_len}
use Rattle.std.specs.Option.{option_map_or}
use Rattle.std.proofs.lemmas.Bool.Decides.{nat_tests}
use Rattle.std.proofs.lemmas.List.Elements.{All-append, All-map, All-nil, All-tail}
use Rattle.std.proofs.lemmas.List.FromFn.{get_or-range_with_len, length-range_with_len}
use Rattle.std.proofs.Math.ListN.{get_or}
use Rattle.h41_pages.specs.FunctionTables.{AreNumbers, all_pages, entry_count, first_image, function_in, function_of_name, functions}
use Rattle.h41_pages.specs.FunctionTables.{functions_at, functions_of, has_functions, is_named, numbers_of}
use Rattle.h41_pages.specs.PageMap.{PageImage, PageMap}
use Rattle.h41_pages.specs.declared.functions.ModuleFunction.{ModuleFunction}

abbrev IsNumbered : ModuleFunction → Type 0
IsNumbered function = AreNumbers (numbers_of function)

least : (n : ℕ) → nat_le 1 n ≡ true → 1 ≤ n
least n is = grind (arith, nat_tests)

most : (n : ℕ) → nat_le n 31 ≡ true → n < 32
most n is = grind (arith, nat_tests)

few : (count : ℕ) → nat_le count 64 ≡ true → count ≤ 64
few count is = grind (arith, nat_tests)

three : (a b c : Bool) → (a && b && c) ≡ true → (a ≡ true) × (b ≡ true) × (c ≡ true)
three true true true is = (refl, refl, refl)
three a b c is = cc

-- The table entries of a page.
counted : (words : List ℕ) (has : Bool) → has_functions words ≡ has → (k : ℕ) → k < (if has then slice_index words 1 else 0)
    → IsNumbered (function_in words k)
counted words true is k less = search (rules, three, few, least, most)
counted words false is k less = absurd (omega (arith, less))

below_count : (words : List ℕ) (k : ℕ) → k < entry_count words → IsNumbered (function_in words k)
below_count words k less = counted words (has_functions words) refl k less

in_range : (count i d : ℕ) → i < length (range_with_len 0 count) → get_or (range_with_len 0 count) i d < count
in_range count i d within = search (rules, length-range_with_len, get_or-range_with_len)

of_page : (words : List ℕ) → All IsNumbered (functions_of words)
of_page words = search (rules, All-map, below_count, in_range)

at_page : (image : Option PageImage) → All IsNumbered (option_map_or (λ image. functions_of image.words) image [])
at_page None = All-nil IsNumbered
at_page (Some image) = of_page image.words

all_numbered : (pages : PageMap) (places : List ℕ) → All IsNumbered (flat_map (functions_at pages) places)
all_numbered pages [] = All-nil IsNumbered
all_numbered pages (page ∷ places) =
    All-append IsNumbered (functions_at pages page) (flat_map (functions_at pages) places) (at_page (first_image pages page))
    (all_numbered pages places)

by_test : (t : Bool) (first : ModuleFunction) (more : Option ModuleFunction) → IsNumbered first
    → IfSome (option_map numbers_of more) AreNumbers → IfSome (option_map numbers_of (if t then Some first else more)) AreNumbers
by_test true first more own rest = own
by_test false first more own rest = rest

found : (name : List ℕ) (list : List ModuleFunction) → All IsNumbered list
    → IfSome (option_map numbers_of (find (is_named name) list)) AreNumbers
found name [] all = tt
found name (first ∷ rest) all =
    by_test (is_named name first) first (find (is_named name) rest) (all 0 first (omega arith))
    (found name rest (All-tail IsNumbered first rest all))

pub are_numbers : (pages : PageMap) (name : List ℕ) → IfSome (function_of_name pages name) AreNumbers
are_numbers pages name = found name (functions pages) (all_numbered pages all_pages)
