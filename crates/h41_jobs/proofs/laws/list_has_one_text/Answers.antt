use Rattle.h41_jobs.proofs.OneText.{one_list_end, one_list_text, words_listed, wrong_told}
use Rattle.h41_jobs.proofs.laws.list_has_one_text.Goals as goal

pub returns : goal.returns
returns c = record {
  text = one_list_text;
  end = one_list_end;
  words = words_listed;
  wrong = wrong_told;
}
