use Rattle.mean_ports.proofs.OneLists
use Rattle.mean_ports.proofs.laws.events_tell_their_lists.Goals as goal

pub returns : goal.returns
returns c = OneLists.events_tell_their_lists
