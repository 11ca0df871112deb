use Rattle.std.proofs.Common.{drop}
use Rattle.h41_pages.specs.KeystrokeCode.{code_from}
use Rattle.h41_pages.proofs.Labels.{has_label, label_has}
use Rattle.h41_pages.proofs.laws.name_is_of_label.Goals as goal

pub returns : goal.returns
returns c = λ words name offset. (has_label (drop offset words) name, label_has (code_from words offset) name)
