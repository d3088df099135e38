use Rattle.std.proofs.Common.{refl, sym, subst}
use Rattle.std.specs.Prelude.{MatchBool}
use Rattle.est_ports.specs.inside.Leftover.{UsedNext, NotNext}
use Rattle.est_ports.proofs.UseLaws.{using_none, using_steps, using_stops, using_all}
use Rattle.est_ports.proofs.left.Rest.use_up.Goals as goal

pub outs-init : goal.outs-init
outs-init c = using_none c.args.lists.now c.args.self.now c.args.self.now c.args.outs.now refl

pub returns-then-not-used-clause-stands : goal.returns-then-not-used-clause-stands
returns-then-not-used-clause-stands c left events s =
    let lists = c.args.lists.now in
    let x = c.index-outs-many.result in
    let n = subst (λ b. MatchBool b (UsedNext lists c.outs.self c.use_one.new.self x)
    (NotNext lists c.outs.self c.use_one.new.self x)) c.if-not-used.true c.in_ok-used.ensures in
    using_stops lists c.args.self.now c.outs.self c.args.outs.now c.use_one.new.self c.outs.many x
    c.outs.invariant (sym c.index-outs-many.is) n left events s

pub outs-preserved : goal.outs-preserved
outs-preserved c =
    let lists = c.args.lists.now in
    let x = c.index-outs-many.result in
    let n = subst (λ b. MatchBool b (UsedNext lists c.outs.self c.use_one.new.self x)
    (NotNext lists c.outs.self c.use_one.new.self x)) c.if-not-used.false c.in_ok-used.ensures in
    using_steps lists c.args.self.now c.outs.self c.args.outs.now c.use_one.new.self c.outs.many x
    c.outs.invariant c.outs-test.true (sym c.index-outs-many.is) n

pub returns-clause-stands : goal.returns-clause-stands
returns-clause-stands c left events s =
    using_all c.args.lists.now c.args.self.now c.outs.self c.args.outs.now c.outs.many
    c.outs.invariant c.outs-test.false left events s
