-- What the end of a task says of the job's status.
use Rattle.std.proofs.Common.{◌≡◌, ◌≢◌, Bool, true, false, List, ℕ, Option, Some, None, Result, Err, IfSome, refl}
use Rattle.h41_deck.specs.Deck.{is_of_write}
use Rattle.h41_jobs.specs.declared.arguments.Task.{Task}
use Rattle.h41_refusals.specs.declared.fault.Fault.{Fault}
use Rattle.h41_refusals.specs.declared.fault.Fault.TheVariants.{OutOfMemory, ReadFault, WriteFault}
use Rattle.h41_jobs.specs.declared.ended.Ended.{Ended}
use Rattle.h41_serving.specs.Statuses.{EndsTask, status_of_ended}
use Rattle.h41_serving.specs.Tasks.{TaskEnds}

-- The error that belongs to a set error flag.
pub is_read : {T : Type 0} {mark : Bool} (fault : Fault) (result : Result T Fault) → result ≡ Err fault
    → (result ≢ Err ReadFault → mark ≡ false) → mark ≡ true → fault ≡ ReadFault
is_read OutOfMemory result is clear set = let unset = clear (λ same. cc) in cc
is_read ReadFault result is clear set = refl
is_read WriteFault result is clear set = let unset = clear (λ same. cc) in cc

pub is_write : (fault : Fault) → is_of_write fault ≡ true → fault ≡ WriteFault
is_write OutOfMemory set = cc
is_write ReadFault set = cc
is_write WriteFault set = refl

pub not_write : (fault : Fault) → fault ≢ WriteFault → is_of_write fault ≡ false
not_write OutOfMemory other = refl
not_write ReadFault other = refl
not_write WriteFault other = absurd (other refl)
