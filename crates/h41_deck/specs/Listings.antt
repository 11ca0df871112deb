-- What `list` prints: the lines of words of one page. The form is this project's choice.
use Rattle.std.specs.Prelude.{ℕ, List, length, take, nat_lt, Option, Result, option_map}
use Rattle.std.specs.Bool.{then_some}
use Rattle.std.specs.Option.{option_or}
use Rattle.h41_dis.specs.Spelling.{listing_text}
use Rattle.h41_pages.specs.PageMap.{PageMap, fetch_refusal, words_from}
use Rattle.h41_refusals.specs.declared.refusal.Refusal.{Refusal}
use Rattle.h41_commands.specs.declared.refusal.LineRefusal.TheVariants.{BadImage}
use Rattle.h41_refusals.specs.declared.refusal.Refusal.TheVariants.{Line}
use Rattle.h41_refusals.specs.Pages.{of_fetch}
use Rattle.h41_deck.specs.Answers.{text_unless}

-- Why words are not listed: SystemRom (08) or EmptyPage (09) if the first of them cannot be
-- fetched, BadImage (04) if they extend beyond its page.
abbrev pub list_refusal : PageMap → ℕ → ℕ → Option Refusal
list_refusal pages address count =
    option_or (option_map of_fetch (fetch_refusal pages address))
    (then_some (nat_lt (length (words_from pages address)) count) (Line BadImage))

-- So many words from an address on.
abbrev pub words_at : PageMap → ℕ → ℕ → List ℕ
words_at pages address count = take count (words_from pages address)

-- The listing of these words, or why they are not listed.
abbrev pub listing_at : PageMap → ℕ → ℕ → Result (List ℕ) Refusal
listing_at pages address count =
    text_unless (list_refusal pages address count)
    (listing_text (words_at pages address count) address)
