use Rattle.std.proofs.Common.{refl}
use Rattle.run_make.specs.declared.making.Making.{Making}
use Rattle.run_make.proofs.Chains.{if_ok_map, clock_begins, made_so}
use Rattle.run_make.proofs.making.make_in.Goals as goal

pub make_on-requires-clause-clock : goal.make_on-requires-clause-clock
make_on-requires-clause-clock g c spec speaks =
    clock_begins (g.W.World.limit c.args.world.now) spec (g.W.World.stack c.args.world.now spec).now
    c.args.start_outs (c.requires.start spec speaks)

pub returns-in-Ok-clause-made : goal.returns-in-Ok-clause-made
returns-in-Ok-clause-made g c =
    let w = g.W.World in
    let old : Making = record {
      rng = c.generator-rng.result;
      run = c.new-run.result;
      events = c.args.start_outs;
      idle = 0;
    } in
    if_ok_map _ _ c.made_of.result (λ made is spec speaks.
    made_so (w.limit c.args.world.now) c.args.asked.now.silent c.args.asked.now.seed
    c.args.asked.now.count spec old c.make_on.new.making (w.stack c.args.world.now spec).now
    (w.stack c.make_on.new.world spec).now c.args.start_outs c.generator-rng.ensures
    c.new-run.ensures refl refl (c.requires.start spec speaks) c.in-Ok.turn made
    (c.in-Ok.ensures.ended spec speaks) is) c.made_of.ensures
