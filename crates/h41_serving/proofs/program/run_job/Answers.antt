use Rattle.std.proofs.Common.{Ok, refl, sym, ◌∙◌}
use Rattle.h41_serving.proofs.Reported.{not_chosen}
use Rattle.h41_serving.proofs.program.run_job.Goals as goal

pub returns-in-Ok : goal.returns-in-Ok
returns-in-Ok g c =
    not_chosen _ _ _ (sym c.eq.ensures ∙ c.if-eq.false) (record {
      unread = refl;
      opened = Ok c.in-Ok.opened;
      opens = record { shown = c.args.job.file; shows = refl; called = rw c.in-Ok.is at c.open_file.ensures };
      does = record {
        before = c.new-source.result;
        after = c.serve_named-status.new.reader;
        reader = c.new-source.ensures.reader;
        clear = c.new-source.ensures.clear;
        given = c.new-source.ensures.given;
        serves = c.serve_named-status.ensures;
        received = refl;
      };
    })
