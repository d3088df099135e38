use Rattle.std.proofs.Common.{refl}
use Rattle.run_make.proofs.Happening.{on_ok_map, on_ok_both, time_happened, arrival_happened}
use Rattle.run_make.proofs.making.happen.Goals as goal

pub returns-then-lets_time_pass-clause-happened : goal.returns-then-lets_time_pass-clause-happened
returns-then-lets_time_pass-clause-happened g c =
    let w = g.W.World in
    on_ok_both c.pass.result
    (λ taken passed spec speaks.
    time_happened (w.limit c.args.world.now) c.args.recipe.now.silent spec
    c.args.recipe.now.ports.now c.args.making.now c.pass.new.making
    (w.stack c.args.world.now spec).now (w.stack c.pass.new.world spec).now
    (record c.args.making.now { rng = c.draw-word.new.rng }) c.draw-word.result c.draw-word.ensures
    refl refl c.args.recipe.now.arrivals.now c.requires.arrivals
    (c.lets_time_pass.ensures.0 c.if-lets_time_pass.true) taken (passed spec speaks))
    c.pass.ensures.taken c.pass.ensures.passed

pub returns-else-lets_time_pass-clause-happened : goal.returns-else-lets_time_pass-clause-happened
returns-else-lets_time_pass-clause-happened g c =
    let w = g.W.World in
    on_ok_map c.arrive.result
    (λ arrived spec speaks.
    arrival_happened (w.limit c.args.world.now) c.args.recipe.now.silent spec
    c.args.recipe.now.ports.now c.args.making.now c.arrive.new.making
    (w.stack c.args.world.now spec).now (w.stack c.arrive.new.world spec).now
    (record c.args.making.now { rng = c.draw-word.new.rng }) c.draw-word.result c.draw-word.ensures
    refl refl (arrived spec speaks))
    c.arrive.ensures.arrived
