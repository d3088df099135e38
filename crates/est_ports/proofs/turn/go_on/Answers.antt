use Rattle.std.proofs.Common.{refl, sym, ap, subst, ◌∙◌}
use Rattle.est_meaning.proofs.Endings.{not_true}
use Rattle.run_paths.specs.Paths.{view_of, entered}
use Rattle.est_ports.specs.inside.Leftover.{Stands}
use Rattle.est_ports.specs.declared.left.Rest.{Rest}
use Rattle.est_ports.specs.declared.walk.Walk.{Walk}
use Rattle.est_ports.proofs.turn.go_on.Goals as goal

pub returns-then-done-clause-gone : goal.returns-then-done-clause-gone
returns-then-done-clause-gone c =
    let r = c.in_ok-reach.ensures.raised in
    record {
      mid = c.reach.new.self;
      raised = r;
      path = c.in_ok-enter.ensures ∙ ap (λ (x : Walk).
          entered (view_of x.path) c.args.made c.args.matched c.args.silent) r.others;
      others = refl;
      all_used = λ left events s. (c.is_all_used-done.ensures left events
          (subst (λ (x : Rest). Stands c.args.task.now.lists.now x left events)
          (sym (ap (λ (x : Walk). x.rest) r.others)) s)).0 c.if-done.true;
    }

pub returns-else-done-clause-gone : goal.returns-else-done-clause-gone
returns-else-done-clause-gone c =
    let r = c.in_ok-reach.ensures.raised in
    record {
      mid = c.reach.new.self;
      raised = r;
      path = c.in_ok-enter.ensures ∙ ap (λ (x : Walk).
          entered (view_of x.path) c.args.made c.args.matched c.args.silent) r.others;
      others = refl;
      all_used = λ left events s all. not_true (sym c.if-done.false
          ∙ (c.is_all_used-done.ensures left events
          (subst (λ (x : Rest). Stands c.args.task.now.lists.now x left events)
          (sym (ap (λ (x : Walk). x.rest) r.others)) s)).1 all);
    }
