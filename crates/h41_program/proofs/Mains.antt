-- Main memory that is written as a whole, register by register.
use Rattle.std.proofs.Common.{◌≡◌, ℕ, ◌+◌, ◌<◌, List, length, map, get_or, sym, ◌∙◌, arith, refl, set}
use Rattle.std.specs.List.{range_with_len}
use Rattle.std.proofs.lemmas.List.{ext_get_or}
use Rattle.std.proofs.lemmas.List.FromFn.{get_or-map-range_with_len, length-map-range_with_len}
use Rattle.h41_ram.specs.RegisterMap.{RegisterMap, main_start, c_address, zeros, with_register}

-- The list of a function's values at each address.
pub listed_main : (f : ℕ → List ℕ) (old new : List (List ℕ)) → length new ≡ length old
    → ((k : ℕ) → k < length new → get_or new k zeros ≡ f (main_start + k)) → new ≡ map f (range_with_len main_start (length old))
listed_main f old new size each =
    let all = length-map-range_with_len f main_start (length old) in
    ext_get_or zeros new (map f (range_with_len main_start (length old))) (size ∙ sym all)
    (λ k inside. each k inside
    ∙ sym (get_or-map-range_with_len f main_start (length old) k (main_start + k) zeros (omega (arith, size, inside)) refl))

-- Register c and then main memory were written.
pub both_written : (memory written final : RegisterMap) (register wanted : List ℕ) (main new : List (List ℕ))
    → written ≡ with_register memory c_address register → final ≡ record written { main = main } → register ≡ wanted → main ≡ new
    → final ≡ record { status = set memory.status c_address wanted; main = new }
both_written memory written final register wanted main new c all same_c same = cc
