use Rattle.std.proofs.Common.{[], ◌∷◌, refl}
use Rattle.h41_ram.specs.RegisterMap.{d_of, register_at, zeros}
use Rattle.h41_rows.specs.Places.{Named, X, Y}
use Rattle.h41_laws_calculator.proofs.values.registers_have_places.Goals as goal

pub returns-clause-address : goal.returns-clause-address
returns-clause-address c address = (address, Named, refl)

pub returns-clause-both : goal.returns-clause-both
returns-clause-both c memory first second = record {
  other = record {
    status = zeros ∷ zeros ∷ register_at memory second ∷ register_at memory first ∷ zeros ∷ zeros ∷ zeros ∷ zeros ∷ zeros ∷ zeros
        ∷ zeros ∷ zeros ∷ zeros ∷ zeros ∷ d_of memory ∷ zeros ∷ [];
    main = [];
  };
  named = 0;
  a = X;
  b = Y;
  one = refl;
  two = refl;
  flag = refl;
}
