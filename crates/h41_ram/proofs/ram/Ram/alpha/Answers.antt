use Rattle.std.proofs.Common.{◌≡◌, ℕ, ◌++◌, List, drop, length, get_or, arith, ap}
use Rattle.h41_ram.specs.RegisterMap.{RegisterMap, alpha_of, bytes_of}
use Rattle.h41_ram.specs.RamState.{RamState}
use Rattle.h41_ram.proofs.Writes.{read_status}
use Rattle.h41_ram.proofs.ram.Ram.alpha.Goals as goal

-- ALPHA consists of these registers, whatever is read for an address without a register.
alpha_seen : (memory seen : RegisterMap) (text p o n m : List ℕ) → memory ≡ seen → length memory.status ≡ 16
    → text ≡ drop 4 (bytes_of (get_or memory.status 8 p)) ++ bytes_of (get_or memory.status 7 o)
    ++ bytes_of (get_or memory.status 6 n) ++ bytes_of (get_or memory.status 5 m)
    → text ≡ alpha_of seen
alpha_seen memory seen text p o n m same size is =
    rw (
      ← same,
      ← read_status memory 8 p size (omega arith),
      ← read_status memory 7 o size (omega arith),
      ← read_status memory 6 n size (omega arith),
      ← read_status memory 5 m size (omega arith),
    )
    is

pub returns : goal.returns
returns g c =
    alpha_seen (record { status = c.self.inside.status; main = c.self.inside.main }) c.args.self.now.registers c.text.result
    c.index-self-8.result c.index-self-7.result c.index-self-6.result c.index-self-5.result
    (ap (λ (ram : RamState). ram.registers) c.self.view_is) c.self.invariant.0.status c.text.ensures
