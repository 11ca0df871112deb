-- The registers that program lines name: the status registers, among them T Z Y X L, and the data
-- registers by number. The layout is that of HP's calculator.
use Rattle.std.specs.Prelude.{ℕ, ◌+◌, ◌-◌, List, Option, nat_lt}
use Rattle.std.specs.Bool.{then_some}
use Rattle.h41_ram.specs.RegisterMap.{RegisterMap, address_of, register_at, with_register}
use Rattle.h41_ram.specs.RegisterMap.{curtain_of, top_of}
use Rattle.h41_ram.specs.declared.status.StatusRegister.{StatusRegister}

-- A status register by its name.
abbrev pub status_of : RegisterMap → StatusRegister → List ℕ
status_of memory name = register_at memory (address_of name)

-- The memory after a write of a status register.
abbrev pub with_status : RegisterMap → StatusRegister → List ℕ → RegisterMap
with_status memory name register = with_register memory (address_of name) register

-- The number of data registers: those from the curtain up to the top of memory.
abbrev pub size_of : RegisterMap → ℕ
size_of memory = top_of memory - curtain_of memory

-- The address of the data register with a number. R00 is at the curtain.
abbrev pub data_address : RegisterMap → ℕ → ℕ
data_address memory n = curtain_of memory + n

-- The data register with a number, if there is one.
abbrev pub data_of : RegisterMap → ℕ → Option (List ℕ)
data_of memory n =
    then_some (nat_lt n (size_of memory)) (register_at memory (data_address memory n))

-- The memory after a write of a data register.
abbrev pub with_data : RegisterMap → ℕ → List ℕ → RegisterMap
with_data memory n register = with_register memory (data_address memory n) register
