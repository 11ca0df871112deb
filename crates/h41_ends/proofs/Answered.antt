-- What a read returns: whether there is more, or which error.
use Rattle.std.proofs.Common.{◌≡◌, Bool, true, false, Result, Ok, Err}
use Rattle.h41_ends.specs.declared.fault.LineReadFault.{LineReadFault}

pub no_fault : (more : Bool) (fault : LineReadFault) → ◌≡◌ {A = Result Bool LineReadFault} (Ok more) (Err fault) → ⊥
no_fault more fault is = cc

pub no_answer : (more : Bool) (fault : LineReadFault) → ◌≡◌ {A = Result Bool LineReadFault} (Err fault) (Ok more) → ⊥
no_answer more fault is = cc

pub no_end : ◌≡◌ {A = Result Bool LineReadFault} (Ok true) (Ok false) → ⊥
no_end is = cc

pub no_more : ◌≡◌ {A = Result Bool LineReadFault} (Ok false) (Ok true) → ⊥
no_more is = cc
