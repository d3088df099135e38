use Rattle.run_make.proofs.KnownEvents.{known_back, known_unseen}
use Rattle.run_make.proofs.recorded.known.Goals as goal

pub new-requires : goal.new-requires
new-requires c = known_unseen c.events.inside.items.items _
    (known_back c.events.inside.items.items c.put_known-put.new.expected.len
    c.new-expected.result.items c.put_known-put.new.expected.items c.as_mut_slice.result.now
    c.reverse.new.self c.new-expected.ensures.items c.in-Ok.ensures c.as_mut_slice.ensures.value c.reverse.ensures.after
    c.as_mut_slice.ensures.len)
