use Rattle.std.proofs.Common.{rules}
use Rattle.h41_pages.proofs.AddressSpaces.{pages_with_first_banks}
use Rattle.h41_pages.proofs.pages.Pages.choose_first_banks.Goals as goal

pub invariant_of-self : goal.invariant_of-self
invariant_of-self c = search (rules, pages_with_first_banks)
