use Rattle.std.proofs.Common.{◌≡◌, ◌∷◌, ◌++◌, [], arith}
use Rattle.std.proofs.lemmas.Grind.{common_steps}
use Rattle.mean_ports.specs.declared.moves.PortMove.TheVariants.{TakeAt}
use Rattle.est_ports.proofs.ListedTakes.{adds_more, adds_same}
use Rattle.est_ports.proofs.turn.add_arrival.Goals as goal

pub returns-in_ok-push : goal.returns-in_ok-push
returns-in_ok-push c = λ old a.
    (let is : c.push.new.self.items ≡ c.args.into.now.items ++ TakeAt c.args.port ∷ [] =
    grind (arith, common_steps) in
    adds_more c.args.lists.now c.args.rest.now old c.args.port c.args.into.now.items
    c.push.new.self.items c.in-Some._event.now a c.in-Some.ensures.some is)

pub returns-in_default : goal.returns-in_default
returns-in_default c = λ old a. adds_same c.args.lists.now c.args.rest.now old c.args.port
    c.args.into.now.items a c.in_default.ensures.none
