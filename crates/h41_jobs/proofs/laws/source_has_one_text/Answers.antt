use Rattle.h41_jobs.proofs.OneText.{fault_printed, one_source_end, one_source_text, words_printed}
use Rattle.h41_jobs.proofs.laws.source_has_one_text.Goals as goal

pub returns : goal.returns
returns c =
    let one = c.words_or_fault.ensures.one_holds in
    let other = c.words_or_fault.ensures.never_both in
    let same = c.words_are_determined.ensures in
    record {
      text = one_source_text one other same;
      end = one_source_end one other same;
      words = words_printed one other same;
      fault = fault_printed one other same;
    }
