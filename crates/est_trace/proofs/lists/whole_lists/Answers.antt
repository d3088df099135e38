use Rattle.est_trace.proofs.LineLoop.{lists_read}
use Rattle.est_trace.proofs.lists.whole_lists.Goals as goal

pub returns : goal.returns
returns c = lists_read c.args.directory.now.ports.now c.lines-lists.result c.take_word.ensures
    c.number-version.ensures c.lines-lists.ensures c.take_word-2.ensures
