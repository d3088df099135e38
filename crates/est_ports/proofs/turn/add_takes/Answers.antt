use Rattle.std.proofs.Common.{◌≡◌, ◌∷◌, ◌++◌, [], arith}
use Rattle.std.proofs.lemmas.Grind.{common_steps}
use Rattle.mean_ports.specs.declared.moves.PortMove.TheVariants.{Pass}
use Rattle.est_ports.proofs.ListedTakes.{adds_pass, adds_no_pass}
use Rattle.est_ports.proofs.turn.add_takes.Goals as goal

pub returns-in_ok-push : goal.returns-in_ok-push
returns-in_ok-push c =
    let is : c.push.new.self.items ≡ c.add_arrivals.new.into.items ++ Pass ∷ [] =
    grind (arith, common_steps) in
    adds_pass c.args.lists.now c.args.rest.now c.args.into.now.items c.add_arrivals.new.into.items
    c.push.new.self.items c.in-Some._units c.in_ok-add_arrivals.ensures c.in-Some.ensures.some is

pub returns-in_default : goal.returns-in_default
returns-in_default c = adds_no_pass c.args.lists.now c.args.rest.now c.args.into.now.items
    c.add_arrivals.new.into.items c.in_ok-add_arrivals.ensures c.in_default.ensures.none
