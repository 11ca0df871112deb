-- What is reported of a job's error, with the operating system's message after it.
use Rattle.std.proofs.Common.{◌≡◌, ◌≤◌, ℕ, true, false, List, [], arith, refl, subst, sym, ◌∙◌}
use Rattle.std.proofs.lemmas.List.{append-nil}
use Rattle.h41_ends.specs.declared.sink.Sink as sinks
use Rattle.h41_ends.specs.declared.source.Source as sources
use Rattle.h41_jobs.specs.declared.arguments.Job.{Job}
use Rattle.h41_serving.specs.Causes.{SaysCause, cause_line}
use Rattle.h41_serving.specs.Program.{TellsFaultOf}
use Rattle.h41_serving.specs.Statuses.{IsReported, fault_line}
use Rattle.h41_serving.specs.Tasks.{Tells}
use Rattle.h41_serving.proofs.Reported.{tells_both}

-- The status of an error is no other.
pub no_silence : {X : Type 0} {status : ℕ} → status ≡ 3 → status ≤ 1 → X
no_silence is few = let bad : 3 ≤ 1 = rw is at few in absurd (omega (arith, bad))

pub no_word : {X : Type 0} {status : ℕ} → status ≡ 3 → status ≡ 2 → X
no_word is two = let bad : 3 ≡ 2 = sym is ∙ two in absurd (omega (arith, bad))

module _ {R W E : Type 0} (source : sources.Ghosts R) (sink : sinks.Ghosts W) (stderr : sinks.Ghosts E) (before after : R) (old new : W)
    (stderr_old stderr_mid stderr_new : E) (status : ℕ) (job : Job) where
  -- A read failed.
  pub fault_said : IsReported job.task source sink stderr before after old new stderr_old stderr_mid → source.failed after ≡ true
      → SaysCause stderr stderr_mid stderr_new job.file.now
      → TellsFaultOf source sink stderr before after old new stderr_old stderr_new status job
  fault_said is set says = record {
    fault = is.fault;
    cause = is.cause;
    said = cause_line job.file.now says.0;
    says = rw set (says.0, refl);
    line = tells_both stderr stderr_old stderr_mid stderr_new (fault_line is.fault) (cause_line job.file.now says.0) is.line says.1;
  }

module _ {R W E : Type 0} (source : sources.Ghosts R) (sink : sinks.Ghosts W) (stderr : sinks.Ghosts E) (before after : R) (old new : W)
    (stderr_old stderr_new : E) (status : ℕ) (job : Job) where
  -- No read failed.
  pub fault_alone : IsReported job.task source sink stderr before after old new stderr_old stderr_new → source.failed after ≡ false
      → TellsFaultOf source sink stderr before after old new stderr_old stderr_new status job
  fault_alone is unset = record {
    fault = is.fault;
    cause = is.cause;
    said = [];
    says = rw unset refl;
    line = subst (λ (text : List ℕ). Tells stderr stderr_old stderr_new text) (sym (append-nil (fault_line is.fault))) is.line;
  }
