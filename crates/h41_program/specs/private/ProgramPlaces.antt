-- The place of programs in memory, for the private functions that write it.
use Rattle.std.specs.Prelude.{◌≡◌, ℕ, ◌<◌, ◌≤◌, ◌+◌, ◌-◌, ◌*◌}
use Rattle.h41_ram.specs.RegisterMap.{RegisterMap, main_start, top_of, curtain_of, end_of}

-- The end of programs with this many bytes, which fill registers.
pub record IsPlace (memory : RegisterMap) (count end : ℕ) : Type 0 where
  pub size : 7 * (curtain_of memory - end) ≡ count
  pub low : main_start ≤ end
  pub order : end ≤ curtain_of memory
  pub inside : curtain_of memory ≤ top_of memory
  pub small : top_of memory ≤ main_start + 320

-- The end and the curtain to which the programs of a memory move.
pub record IsMove (memory : RegisterMap) (curtain end : ℕ) : Type 0 where
  pub low : main_start ≤ end
  pub high : curtain ≤ top_of memory
  pub same : end + curtain_of memory ≡ curtain + end_of memory
  pub order : end_of memory < curtain_of memory
  pub inside : curtain_of memory ≤ top_of memory
  pub small : top_of memory ≤ main_start + 320
