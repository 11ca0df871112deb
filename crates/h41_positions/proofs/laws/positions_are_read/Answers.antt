use Rattle.h41_positions.proofs.PositionsFound as found
use Rattle.h41_positions.proofs.laws.positions_are_read.Goals as goal

pub returns : goal.returns
returns c =
    let lists = c.lists_are_determined.ensures in
    let searches = c.searches_are_determined.ensures in
    record {
      each = found.each c.each_is_listed.ensures.first;
      read = record {
        line = found.line lists.first lists.read searches.line;
        next = found.next lists.first lists.read searches.next;
      };
      onward = found.lines_have_next;
      start = found.start lists.first lists.read searches.start;
      local = found.local lists.first lists.read searches.local;
      end = found.end lists.first lists.read searches.program;
      before = found.before lists.first lists.read searches.program;
      number = found.number lists.first lists.read searches.program;
    }
