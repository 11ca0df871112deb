use Rattle.h41_pages.proofs.OtherPages.{plugging_keeps, writing_keeps, unplugging_keeps, choosing_keeps}
use Rattle.h41_pages.proofs.laws.other_banks_stay.Goals as goal

pub returns-clause-plug : goal.returns-clause-plug
returns-clause-plug c = plugging_keeps

pub returns-clause-write : goal.returns-clause-write
returns-clause-write c = writing_keeps

pub returns-clause-unplug : goal.returns-clause-unplug
returns-clause-unplug c = unplugging_keeps

pub returns-clause-choose : goal.returns-clause-choose
returns-clause-choose c = choosing_keeps
