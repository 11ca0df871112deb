-- What is true of every memory, whatever the code does.
use Rattle.std.specs.Prelude.{◌≡◌, ◌≢◌, ℕ, ◌<◌, ◌≤◌, ◌⊎◌, Bool, List, length, take, true, Some}
use Rattle.h41_ram.specs.RegisterMap.{RegisterMap, main_start, status_end, top_of, register_at}
use Rattle.h41_ram.specs.RegisterMap.{with_register, is_sound, start, d_of, flag_of, with_flag}
use Rattle.h41_ram.specs.RegisterMap.{m_address, p_address, p_of, bytes_of, alpha_of, with_alpha}
use Rattle.h41_ram.specs.NamedRegisters.{status_of, with_status, size_of, data_of, with_data}
use Rattle.h41_ram.specs.declared.status.StatusRegister.{StatusRegister}

-- An address exists if there is a status register or a register of main memory at it.
abbrev pub Exists : RegisterMap → ℕ → Type 0
Exists memory address =
    (address < length memory.status) × (address < status_end)
    ⊎ (main_start ≤ address) × (address < top_of memory)

-- A register is read as it was written if its address exists.
abbrev pub ReadsWhatWasWritten : Type 0
ReadsWhatWasWritten =
    (memory : RegisterMap) (address : ℕ) (register : List ℕ) → Exists memory address
    → register_at (with_register memory address register) address ≡ register

-- A write changes no other address.
abbrev pub KeepsOtherAddresses : Type 0
KeepsOtherAddresses =
    (memory : RegisterMap) (address other : ℕ) (register : List ℕ) → other ≢ address
    → register_at (with_register memory address register) other ≡ register_at memory other

-- The start state is sound if main memory has 64 to 320 registers.
abbrev pub StartIsSound : Type 0
StartIsSound =
    (registers : ℕ) → 64 ≤ registers → registers ≤ 320 → is_sound (start registers) ≡ true

-- The memory of a calculator as far as the flags need it: sixteen status registers, and 14 digits
-- in register d.
pub record HasFlags (memory : RegisterMap) : Type 0 where
  pub status : length memory.status ≡ 16
  pub digits : length (d_of memory) ≡ 14

-- A flag is read as it was last set or cleared.
abbrev pub FlagIsRead : Type 0
FlagIsRead =
    (memory : RegisterMap) (flag : ℕ) (on : Bool) → HasFlags memory → flag < 56
    → flag_of (with_flag memory flag on) flag ≡ on

-- Writing a flag changes no other flag.
abbrev pub OtherFlagsStay : Type 0
OtherFlagsStay =
    (memory : RegisterMap) (flag other : ℕ) (on : Bool) → HasFlags memory → flag < 56 → other < 56
    → other ≢ flag
    → flag_of (with_flag memory flag on) other ≡ flag_of memory other

-- ALPHA is read as it was written.
abbrev pub AlphaIsRead : Type 0
AlphaIsRead =
    (memory : RegisterMap) (text : List ℕ) → length memory.status ≡ 16 → length text ≡ 24
    → alpha_of (with_alpha memory text) ≡ text

-- Writing ALPHA changes no register other than M, N, O and P.
abbrev pub AlphaKeepsOthers : Type 0
AlphaKeepsOthers =
    (memory : RegisterMap) (text : List ℕ) (address : ℕ)
    → (address < m_address) ⊎ (p_address < address)
    → register_at (with_alpha memory text) address ≡ register_at memory address

-- Writing ALPHA does not change the left four bytes of P.
abbrev pub AlphaKeepsLeftOfP : Type 0
AlphaKeepsLeftOfP =
    (memory : RegisterMap) (text : List ℕ) → length memory.status ≡ 16
    → take 4 (bytes_of (p_of (with_alpha memory text))) ≡ take 4 (bytes_of (p_of memory))

-- A status register is read by its name as it was written.
abbrev pub StatusIsRead : Type 0
StatusIsRead =
    (memory : RegisterMap) (name : StatusRegister) (register : List ℕ) → length memory.status ≡ 16
    → status_of (with_status memory name register) name ≡ register

-- Writing a status register changes no other status register.
abbrev pub OtherStatusStays : Type 0
OtherStatusStays =
    (memory : RegisterMap) (name other : StatusRegister) (register : List ℕ) → other ≢ name
    → status_of (with_status memory name register) other ≡ status_of memory other

-- In sound memory, a data register is read by its number as it was written.
abbrev pub DataIsRead : Type 0
DataIsRead =
    (memory : RegisterMap) (n : ℕ) (register : List ℕ) → is_sound memory ≡ true → n < size_of memory
    → data_of (with_data memory n register) n ≡ Some register

-- In sound memory, writing a data register changes no other data register.
abbrev pub OtherDataStay : Type 0
OtherDataStay =
    (memory : RegisterMap) (n other : ℕ) (register : List ℕ) → is_sound memory ≡ true → other ≢ n
    → data_of (with_data memory n register) other ≡ data_of memory other

-- Sound memory remains sound if a data register is written.
abbrev pub DataKeepSound : Type 0
DataKeepSound =
    (memory : RegisterMap) (n : ℕ) (register : List ℕ) → is_sound memory ≡ true
    → is_sound (with_data memory n register) ≡ true
