use Rattle.h41_focal.proofs.LinesTaken.{rest_apart}
use Rattle.h41_focal.proofs.register_uses.use_register.Goals as goal

pub returns-in-Recall : goal.returns-in-Recall
returns-in-Recall g c =
    record {
      carried = rw c.in-Recall.is (c.recall.ensures.done c.args.pages.now);
      unchanged = tt;
      keeps = rest_apart _ _ _ c.recall.ensures.keeps;
    }

pub returns-in-Store : goal.returns-in-Store
returns-in-Store g c =
    record {
      carried = rw c.in-Store.is (c.store.ensures.done c.args.pages.now);
      unchanged = tt;
      keeps = c.store.ensures.keeps;
    }

pub returns-in-Combine : goal.returns-in-Combine
returns-in-Combine g c =
    record {
      carried = rw c.in-Combine.is (c.combine.ensures.done c.args.pages.now);
      unchanged = tt;
      keeps = c.combine.ensures.keeps;
    }

pub returns-in-CountUp : goal.returns-in-CountUp
returns-in-CountUp g c =
    record {
      carried = rw c.in-CountUp.is c.count_up.ensures.carried;
      unchanged = c.count_up.ensures.unchanged;
      keeps = c.count_up.ensures.keeps;
    }

pub returns-in-CountDown : goal.returns-in-CountDown
returns-in-CountDown g c =
    record {
      carried = rw c.in-CountDown.is c.count_down.ensures.carried;
      unchanged = c.count_down.ensures.unchanged;
      keeps = c.count_down.ensures.keeps;
    }

pub returns-in-View : goal.returns-in-View
returns-in-View g c =
    record {
      carried = rw c.in-View.is (c.view.ensures.done c.args.pages.now);
      unchanged = tt;
      keeps = rest_apart _ _ _ c.view.ensures.keeps;
    }

pub returns-in-StoreAlpha : goal.returns-in-StoreAlpha
returns-in-StoreAlpha g c =
    record {
      carried = rw c.in-StoreAlpha.is (c.store_alpha.ensures.done c.args.pages.now);
      unchanged = tt;
      keeps = c.store_alpha.ensures.keeps;
    }

pub returns-in-RecallAlpha : goal.returns-in-RecallAlpha
returns-in-RecallAlpha g c =
    record {
      carried = rw c.in-RecallAlpha.is (c.recall_alpha.ensures.done c.args.pages.now);
      unchanged = tt;
      keeps = rest_apart _ _ _ c.recall_alpha.ensures.keeps;
    }

pub returns-in-Exchange : goal.returns-in-Exchange
returns-in-Exchange g c =
    record {
      carried = rw c.in-Exchange.is (c.exchange_x.ensures.done c.args.pages.now);
      unchanged = tt;
      keeps = c.exchange_x.ensures.keeps;
    }
