use Rattle.std.proofs.Common.{rules}
use Rattle.h41_pages.proofs.AddressSpaces.{pages_chosen}
use Rattle.h41_pages.proofs.pages.Pages.choose.Goals as goal

pub invariant_of-self : goal.invariant_of-self
invariant_of-self c = search (rules, pages_chosen)
