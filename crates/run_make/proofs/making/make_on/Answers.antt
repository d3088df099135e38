use Rattle.std.proofs.Common.{◌<◌, length, ap, refl, arith}
use Rattle.est_meaning.specs.SituationStacks.{Stack}
use Rattle.run_make.specs.Recipe.{here}
use Rattle.run_make.proofs.Chains.{keeps_both, leads_on, clock_after, passed_on}
use Rattle.run_make.proofs.Draws.{fired_room, gone_fired, gone_fewer, gone_within}
use Rattle.run_make.proofs.making.make_on.Goals as goal

pub draws-init : goal.draws-init
draws-init g c =
    let none = c.requires.none_fired in
    let idle = c.requires.idle in
    record {
      keeps = record {
        forward = λ spec speaks. speaks;
        backward = λ spec speaks. speaks;
        limit_is = refl;
      };
      fired = omega arith;
      within = omega arith;
      clock = λ spec speaks. (let zero = c.requires.clock spec speaks in omega arith);
      leads = λ spec speaks. here;
    }

pub draw_once-requires-clause-room : goal.draw_once-requires-clause-room
draw_once-requires-clause-room g c =
    let i = c.draws.invariant in
    let short : length c.draws.making.events < c.args.count = omega arith in
    fired_room c.args.recipe.now.silent c.args.count (length c.draws.making.events)
    c.draws.making.idle (g.W.World.fired c.draws.world) c.requires.few (omega arith) short
    i.within i.fired

pub returns-in-Limit-clause-ended : goal.returns-in-Limit-clause-ended
returns-in-Limit-clause-ended g c spec speaks =
    let w = g.W.World in
    let i = c.draws.invariant in
    let there = i.keeps.forward spec speaks in
    let short : length c.draws.making.events < c.args.count = omega arith in
    let passed = rw c.in-Limit.is at (c.in_ok-draw_once.ensures.turned spec there) in
    passed_on (w.limit c.args.world.now) (w.limit c.draws.world) c.args.recipe.now.silent
    c.args.count spec c.args.making.now c.draws.making c.draw_once.new.making
    (w.stack c.args.world.now spec).now (w.stack c.draws.world spec).now i.keeps.limit_is short
    (i.leads spec there) passed.0 passed.1

pub draws-smaller : goal.draws-smaller
draws-smaller g c =
    let short : length c.draws.making.events < c.args.count = omega arith in
    gone_fewer c.args.recipe.now.silent c.args.count c.draws.making c.draw_once.new.making
    (c.in_ok-draw_once.ensures.gone c.in-Made.is) c.draws.invariant.within short

pub draws-preserved : goal.draws-preserved
draws-preserved g c =
    let w = g.W.World in
    let i = c.draws.invariant in
    let silent = c.args.recipe.now.silent in
    let mid = c.draws.making in
    let new = c.draw_once.new.making in
    let made = c.in_ok-draw_once.ensures.keeps in
    let forgot = c.forget.ensures.keeps in
    let gone = c.in_ok-draw_once.ensures.gone c.in-Made.is in
    let short : length c.draws.making.events < c.args.count = omega arith in
    record {
      keeps = keeps_both w.speaks w.limit c.args.world.now c.draws.world c.forget.new.self i.keeps
          (keeps_both w.speaks w.limit c.draws.world c.draw_once.new.world c.forget.new.self made
          forgot);
      fired = gone_fired silent mid new (w.fired c.draws.world) (w.fired c.forget.new.self) gone
          i.within i.fired
          (let once = c.in_ok-draw_once.ensures.fired in let same = c.forget.ensures.fired in
          omega arith);
      within = gone_within silent mid new gone;
      clock = λ spec speaks.
          (let there = forgot.backward spec speaks in
          let before = made.backward spec there in
          clock_after (w.limit c.args.world.now) (w.limit c.draws.world) silent c.args.count spec
          mid new (w.stack c.draws.world spec).now (w.stack c.draw_once.new.world spec).now
          (w.stack c.forget.new.self spec)
          (ap (λ (x : Stack). x.now) (c.forget.ensures.stack spec there)) i.keeps.limit_is
          (i.clock spec before)
          (rw c.in-Made.is at (c.in_ok-draw_once.ensures.turned spec before)));
      leads = λ spec speaks.
          (let there = forgot.backward spec speaks in
          let before = made.backward spec there in
          leads_on (w.limit c.args.world.now) (w.limit c.draws.world) silent c.args.count spec
          mid new (w.stack c.draws.world spec).now (w.stack c.draw_once.new.world spec).now
          (w.stack c.forget.new.self spec)
          (ap (λ (x : Stack). x.now) (c.forget.ensures.stack spec there)) i.keeps.limit_is
          _ short (i.leads spec before)
          (rw c.in-Made.is at (c.in_ok-draw_once.ensures.turned spec before)));
    }
