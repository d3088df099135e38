use Rattle.std.proofs.Common.{◌∙◌, sym, ap, subst}
use Rattle.est_meaning.specs.rule_declares.PortList.{ports_of}
use Rattle.est_meaning.specs.mean_blocks.TextByPlace.{Text, text_of}
use Rattle.est_meaning.specs.FiringSteps.{start_of}
use Rattle.run_make.specs.Recipe.{task_of, IsMade}
use Rattle.run_make.proofs.Chains.{if_ok_map, all_explained}
use Rattle.est_tool.proofs.made.make.Goals as goal

pub make_in-requires : goal.make_in-requires
make_in-requires c =
    let s = rw c.in-Ready.is at c.in_ok-started.ensures in
    record {
      start = λ spec speaks. ap (λ n. start_of n (text_of spec)) s.1.limit_is
          ∙ s.1.stack_is spec speaks;
      ports = λ spec speaks. c.ports.ensures ∙ ap (λ (t : Text). ports_of t.spec)
          (sym s.0 ∙ speaks);
      none_fired = s.1.fired_none;
    }

pub returns-in-Ready-clause-made : goal.returns-in-Ready-clause-made
returns-in-Ready-clause-made c =
    let s = rw c.in-Ready.is at c.in_ok-started.ensures in
    let own = c.args.checked.now in
    if_ok_map _ _ c.make_in.result (λ m h.
    subst (λ n. IsMade (task_of n c.args.limits.now.silent own) c.args.seed c.args.count m)
    s.1.limit_is (h own s.0)) c.make_in.ensures.made

pub returns-in-Ready-clause-explained : goal.returns-in-Ready-clause-explained
returns-in-Ready-clause-explained c =
    let s = rw c.in-Ready.is at c.in_ok-started.ensures in
    let own = c.args.checked.now in
    let limits = c.args.limits.now in
    if_ok_map _ _ c.make_in.result (λ m h.
    all_explained (task_of limits.statements limits.silent own) c.args.seed c.args.count m
    (subst (λ n. IsMade (task_of n limits.silent own) c.args.seed c.args.count m)
    s.1.limit_is (h own s.0))) c.make_in.ensures.made
