-- Why pages are not plugged, unplugged, shown or listed, as refusals of decks.
use Rattle.std.specs.Prelude.{ℕ, List, Option, option_map}
use Rattle.h41_nut.specs.PageWords as words
use Rattle.h41_pages.specs.declared.refusal.FetchRefusal as fetch
use Rattle.h41_pages.specs.declared.refusal.ImageRefusal as image
use Rattle.h41_pages.specs.declared.refusal.ImageRefusal.TheVariants as images
use Rattle.h41_pages.specs.declared.refusal.PlugRefusal as plug
use Rattle.h41_pages.specs.declared.refusal.PlugRefusal.TheVariants as plugs
use Rattle.h41_pages.specs.declared.refusal.UnplugRefusal as unplug
use Rattle.h41_pages.specs.declared.refusal.UnplugRefusal.TheVariants as unplugs
use Rattle.h41_pages.specs.Images as images_of
use Rattle.h41_pages.specs.PageMap as pages
use Rattle.h41_commands.specs.declared.refusal.LineRefusal.TheVariants.{BadImage}
use Rattle.h41_xrom.specs.declared.refusal.CalculatorRefusal.TheVariants.{Word}
use Rattle.h41_refusals.specs.declared.refusal.Refusal.{Refusal}
use Rattle.h41_refusals.specs.declared.refusal.Refusal.TheVariants.{NoSuchPage, Occupied}
use Rattle.h41_refusals.specs.declared.refusal.Refusal.TheVariants.{NotPlugged}
use Rattle.h41_refusals.specs.declared.refusal.Refusal.TheVariants.{Calculator, Line, OutOfMemory}

-- The refusal to plug a page.
abbrev pub of_plug : plug.PlugRefusal → Refusal
of_plug plugs.NoSuchPage = NoSuchPage
of_plug plugs.Occupied = Occupied
of_plug plugs.BadImage = Line BadImage
of_plug plugs.OutOfMemory = OutOfMemory

-- The refusal to unplug a page.
abbrev pub of_unplug : unplug.UnplugRefusal → Refusal
of_unplug unplugs.NoSuchPage = NoSuchPage
of_unplug unplugs.NotPlugged = NotPlugged

-- The refusal to show the image of a page.
abbrev pub of_image : image.ImageRefusal → Refusal
of_image images.NoSuchPage = NoSuchPage
of_image images.NotPlugged = NotPlugged
of_image images.OutOfMemory = OutOfMemory

-- The refusal to fetch a word.
abbrev pub of_fetch : fetch.FetchRefusal → Refusal
of_fetch refusal = Calculator (Word (words.of_fetch refusal))

-- Why words are not plugged into the bank of a page.
abbrev pub page_refusal : pages.PageMap → ℕ → ℕ → List ℕ → Option Refusal
page_refusal all page bank words = option_map of_plug (pages.plug_refusal all page bank words)

-- Why a page is not unplugged.
abbrev pub unplug_refusal : pages.PageMap → ℕ → Option Refusal
unplug_refusal all page = option_map of_unplug (pages.unplug_refusal all page)

-- Why the image in the bank of a page is not shown.
abbrev pub image_refusal : pages.PageMap → ℕ → ℕ → Option Refusal
image_refusal all page bank = option_map of_image (images_of.image_refusal all page bank)
