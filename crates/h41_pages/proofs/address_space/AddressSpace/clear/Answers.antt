use Rattle.std.proofs.Common.{ap, ◌∙◌}
use Rattle.h41_words.specs.declared.rows.Bank.TheVariants.{Second, Third, Fourth}
use Rattle.h41_pages.specs.private.AddressSpace.{without_bank}
use Rattle.h41_pages.proofs.address_space.AddressSpace.clear.Goals as goal

pub returns : goal.returns
returns c =
    let page = c.args.page in
    let two = c.clear_bank-2.ensures ∙ ap (λ numbers. without_bank numbers Second page) c.clear_bank.ensures in
    let three = c.clear_bank-3.ensures ∙ ap (λ numbers. without_bank numbers Third page) two in
    c.clear_bank-4.ensures ∙ ap (λ numbers. without_bank numbers Fourth page) three
