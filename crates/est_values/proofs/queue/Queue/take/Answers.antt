use Rattle.std.proofs.Common.{rules}
use Rattle.est_values.proofs.QueueLaws.{head_behind_taken, none_to_take, drop_more}
use Rattle.est_values.proofs.queue.Queue.take.Goals as goal

pub returns-in-None-clause-rest : goal.returns-in-None-clause-rest
returns-in-None-clause-rest g c = search (rules, none_to_take)

pub returns-in_ok-self-inside-in-Some-clause-item :
    goal.returns-in_ok-self-inside-in-Some-clause-item
returns-in_ok-self-inside-in-Some-clause-item g c = search (rules, head_behind_taken)

pub returns-in_ok-self-inside-in-Some-clause-rest :
    goal.returns-in_ok-self-inside-in-Some-clause-rest
returns-in_ok-self-inside-in-Some-clause-rest g c = search (rules, drop_more)
