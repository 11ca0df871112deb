use Rattle.std.proofs.Common.{replicate, subst, sym}
use Rattle.h41_words.specs.declared.rows.Bank.TheVariants.{First}
use Rattle.h41_pages.specs.private.AddressSpace.{IsPages, empty_space}
use Rattle.h41_pages.proofs.AddressSpaces.{pages_at_start}
use Rattle.h41_pages.proofs.pages.Pages.new.Goals as goal

pub invariant_of-result : goal.invariant_of-result
invariant_of-result c =
    subst (IsPages _) (sym c.in_ok-new.ensures)
    (subst (λ bank. IsPages (record { images = c.in_ok-no_images.field-0.items; chosen = replicate 16 bank }) empty_space)
    (sym c.of.ensures)
    (subst (λ images. IsPages (record { images = images; chosen = replicate 16 First }) empty_space) (sym c.in_ok-no_images.ensures)
    pages_at_start))
