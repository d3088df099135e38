use Rattle.std.proofs.Common.{◌≡◌, ◌+◌, refl, sym, subst, ◌∙◌, Some, None}
use Rattle.std.specs.Prelude.{slice_get}
use Rattle.std.specs.Option.{option_map}
use Rattle.plain_guards.specs.plain_systems.HeldSystems.{situation_of}
use Rattle.est_meaning.specs.mean_blocks.GlobalSituation.{Situation}
use Rattle.plain_choices.specs.inside.InstanceOffers.{instance_of, IsLiving}
use Rattle.est_meaning.specs.declared.answers.Offers.{Offers}
use Rattle.plain_choices.specs.inside.SystemOffers.{IsFound, IsFoundBelow}
use Rattle.plain_choices.proofs.Rows.{from_first, found_none, none_at, is_living}
use Rattle.plain_choices.proofs.Rows.{is_found, is_next}
use Rattle.plain_choices.proofs.found.find.Goals as goal

pub loop-at-init : goal.loop-at-init
loop-at-init c = (
  refl,
  record {
    number = 0;
    rows = from_first (situation_of c.args.working.now.system) c.requires.numbered;
    found = found_none c.args.limit c.args.behaviour.now
        (situation_of c.args.working.now.system) c.args.found.now c.requires.firings
        c.requires.dues;
  },
)

pub returns-in-None-clause-found : goal.returns-in-None-clause-found
returns-in-None-clause-found c = none_at c.args.limit c.args.behaviour.now
    (situation_of c.args.working.now.system) c.loop-at.at c.loop-at.found c.loop-at.invariant.1
    (subst (λ (s : Situation). None ≡ option_map instance_of (slice_get s.rows c.loop-at.at))
    c.loop-at.invariant.0 c.in-None.ensures)

pub add_instance-requires-clause-living : goal.add_instance-requires-clause-living
add_instance-requires-clause-living c = subst (λ (s : Situation). IsLiving s c.in-Some.instance)
    (sym c.loop-at.invariant.0)
    (is_living c.args.limit c.args.behaviour.now (situation_of c.args.working.now.system)
    c.loop-at.at c.loop-at.found c.loop-at.invariant.1 c.in-Some.instance
    (subst (λ (s : Situation). Some c.in-Some.instance
    ≡ option_map instance_of (slice_get s.rows c.loop-at.at))
    c.loop-at.invariant.0 c.in-Some.ensures))

pub add_instance-requires-clause-found : goal.add_instance-requires-clause-found
add_instance-requires-clause-found c = subst (λ (s : Situation). IsFound c.args.limit
    c.args.behaviour.now s c.in-Some.instance.number c.loop-at.found)
    (sym c.loop-at.invariant.0)
    (is_found c.args.limit c.args.behaviour.now (situation_of c.args.working.now.system)
    c.loop-at.at c.loop-at.found c.loop-at.invariant.1 c.in-Some.instance
    (subst (λ (s : Situation). Some c.in-Some.instance
    ≡ option_map instance_of (slice_get s.rows c.loop-at.at))
    c.loop-at.invariant.0 c.in-Some.ensures))

pub loop-at-preserved : goal.loop-at-preserved
loop-at-preserved c = (
  c.in_ok-add_instance-in-Some.ensures.system ∙ c.loop-at.invariant.0,
  is_next c.args.limit c.args.behaviour.now (situation_of c.args.working.now.system)
      c.loop-at.at c.loop-at.found c.loop-at.invariant.1 c.in-Some.instance
      (subst (λ (s : Situation). Some c.in-Some.instance
      ≡ option_map instance_of (slice_get s.rows c.loop-at.at))
      c.loop-at.invariant.0 c.in-Some.ensures) c.add_instance.new.found
      (subst (λ (s : Situation). IsFound c.args.limit c.args.behaviour.now s
      (c.in-Some.instance.number + 1) c.add_instance.new.found) c.loop-at.invariant.0
      (subst (λ (o : Offers). IsFoundBelow c.args.limit c.args.behaviour.now
      (situation_of c.loop-at.working.system) (c.in-Some.instance.number + 1)
      c.add_instance.new.found o) c.in-Settled.is c.in_ok-add_instance-in-Some.ensures.found)),
)
