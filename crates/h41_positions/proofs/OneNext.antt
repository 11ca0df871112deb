-- A position has one next position.
use Rattle.std.proofs.Common.{◌≡◌, Ok}
use Rattle.h41_pages.specs.PageMap.{PageMap}
use Rattle.h41_positions.specs.PositionLaws.{IsReadOnce}
use Rattle.h41_positions.specs.Positions.{NextAt}
use Rattle.h41_positions.specs.declared.position.Position.{Position}
use Rattle.h41_ram.specs.RegisterMap.{RegisterMap}

pub same_next : (once : IsReadOnce) (pages : PageMap) (memory : RegisterMap) (at a b : Position)
    → NextAt pages memory at (Ok a) → NextAt pages memory at (Ok b) → a ≡ b
same_next once pages memory at a b p q = let same = once.next pages memory at (Ok a) (Ok b) p q in cc
