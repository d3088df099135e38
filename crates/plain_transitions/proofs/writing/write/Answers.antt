use Rattle.std.proofs.Common.{refl}
use Rattle.plain_transitions.specs.inside.HeldClauses.{conditions_of}
use Rattle.plain_transitions.proofs.writing.write.Goals as goal

pub returns : goal.returns
returns c =
    let found = c.in_ok-found.ensures (conditions_of c.args.given.now) in
    record {
      states = c.in_ok-states.ensures;
      awaits = c.when_of.ensures;
      fixed = c.fixed_of-fixed.ensures;
      parameters = found.parameters;
      variables = found.variables;
      kinds = found.kinds;
      condition = c.in_ok-condition.ensures;
      delay = c.delay_of.ensures;
      priority = c.in_ok-priority.ensures;
      next_state = c.next_state.ensures;
      block = refl;
      own = found.own;
    }
