use Rattle.std.proofs.Common.{◌≡◌, ℕ, ◌-◌, List, length, take, drop, refl, subst, arith}
use Rattle.std.proofs.lemmas.List.{take_all, length-drop}
use Rattle.h41_codes.specs.Heads.{LacksText}
use Rattle.h41_codes.proofs.Broken.{broken_at, named_broken}
use Rattle.h41_codes.proofs.decoder.named.Goals as goal

pub returns-in-None-clause-broken : goal.returns-in-None-clause-broken
returns-in-None-clause-broken c =
    let bytes = c.args.bytes.now in
    let rest : take (length bytes - 1) (drop 1 bytes) ≡ drop 1 bytes = take_all _ (drop 1 bytes) (omega (arith, length-drop 1 bytes)) in
    broken_at 3 0x1D 0x20 bytes refl c.requires.first.0 c.requires.first.1
    (named_broken bytes (subst (λ (xs : List ℕ). LacksText xs) rest c.in-None.ensures.none))
