use Rattle.std.proofs.Common.{◌∙◌}
use Rattle.h41_pages.specs.private.AddressSpace.{space_size, nothing}
use Rattle.h41_pages.proofs.AddressSpaces.{filled}
use Rattle.h41_pages.proofs.address_space.AddressSpace.new.Goals as goal

pub returns : goal.returns
returns c = c.in_ok-resize.ensures.items ∙ filled _ _ space_size nothing c.new-numbers.ensures.items c.new-numbers.ensures.len
