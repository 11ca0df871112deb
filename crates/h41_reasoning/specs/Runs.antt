-- Runs of microcode: steps in turn, of which none is refused.
use Rattle.std.specs.Prelude.{◌≡◌, ℕ, zero, suc, ◌≤◌, ◌<◌, ◌++◌, List, [], ◌∷◌, Ok, drop, length}
use Rattle.std.specs.Prelude.{slice_index, take}
use Rattle.h41_nut.specs.Addresses.{address_after}
use Rattle.h41_nut.specs.Arrivals.{address_after_both}
use Rattle.h41_nut.specs.Jumps.{newest_return}
use Rattle.h41_nut.specs.PageWords.{word_at}
use Rattle.h41_nut.specs.WordStep.{Micro, Nut}
use Rattle.h41_pages.specs.Addresses.{page_of}
use Rattle.h41_pages.specs.PageMap.{PageMap, with_chosen}
use Rattle.h41_words.specs.declared.rows.Bank.{Bank}

-- A run of exactly this many steps leads from s to t.
abbrev pub Runs : ℕ → Nut → Nut → Type 0
Runs zero s t = t ≡ s
Runs (suc count) s t = (next : Nut) × Micro s next × Runs count next t

-- A run of at most this many steps leads from s to a state with a property.
pub record Reaches (most : ℕ) (s : Nut) (Property : Nut → Type 0) : Type 0 where
  pub count : ℕ
  pub bound : count ≤ most
  pub end : Nut
  pub run : Runs count s end
  pub property : Property end

-- A run of exactly this many steps leads from s to a state with a property.
pub record Takes (count : ℕ) (s : Nut) (Property : Nut → Type 0) : Type 0 where
  pub end : Nut
  pub run : Runs count s end
  pub property : Property end

-- These words are in the pages, the first of them at an address, each in the active bank.
abbrev pub HasWords : PageMap → ℕ → List ℕ → Type 0
HasWords pages address words = (index : ℕ) → index < length words
    → word_at pages (address_after address index) ≡ Ok (slice_index words index)

-- A function that began in s has returned in t: its caller continues, and its return address is
-- removed.
pub record HasReturned (s t : Nut) : Type 0 where
  pub address : t.processor.pc ≡ newest_return s.processor
  pub returns : t.processor.returns ≡ drop 1 s.processor.returns ++ 0 ∷ []

-- Nothing has changed but C, the carry, the address and the return addresses.
abbrev pub OnlyC : Nut → Nut → Type 0
OnlyC s t =
    t ≡ record s {
      processor = record s.processor {
        c = t.processor.c;
        carry = t.processor.carry;
        pc = t.processor.pc;
        returns = t.processor.returns;
      };
    }

-- These words are in a bank of the page of an address: they would be read there if it was active.
abbrev pub HasBankWords : PageMap → Bank → ℕ → List ℕ → Type 0
HasBankWords pages bank address words =
    HasWords (with_chosen pages (page_of address) bank) address words

-- Between s and u, a call has made the address after both its words the newest return address.
abbrev pub IsCalled : Nut → Nut → Type 0
IsCalled s u =
    u.processor.returns ≡ address_after_both s.processor ∷ take 3 s.processor.returns

-- A call in s has returned in t: the words after it are next, and the other return addresses are as
-- before. There is room for four, so an oldest one was lost, and 0000 is in its place.
pub record HasCalled (s t : Nut) : Type 0 where
  pub address : t.processor.pc ≡ address_after_both s.processor
  pub returns : t.processor.returns ≡ take 3 s.processor.returns ++ 0 ∷ []

-- A function that began in s and has called others has returned in t. The oldest return address is
-- lost.
pub record HasReturnedCalling (s t : Nut) : Type 0 where
  pub address : t.processor.pc ≡ newest_return s.processor
  pub returns : t.processor.returns ≡ drop 1 (take 3 s.processor.returns) ++ 0 ∷ 0 ∷ []
