-- The states of a state set that breaks no rule.
use Rattle.std.proofs.Common.{◌≡◌, refl, ap, ◌∙◌, List, [], ◌∷◌, Option, Some, map}
use Rattle.est_syntax.specs.declared.name.Used.{Used}
use Rattle.est_syntax.specs.declared.body.StateSet.{StateSet}
use Rattle.rule_scope.specs.declared.declaration.Sort.TheVariants as sort
use Rattle.rule_scope.specs.Outline.{Outline}
use Rattle.rule_scope.specs.Uses.{use_faults, uses_faults, twice_faults, declaration_of}
use Rattle.rule_declares.specs.Declares.{with_state, states_named}
use Rattle.est_types.specs.DeclarationFaults.{stateset_faults}
use Rattle.law_sentences.proofs.NoFaults.{parted}
use Rattle.law_sentences.proofs.SeenUses.{use_seen}

-- a name that means a state gives its place
placed : (o : Outline) (x : Option _) (place : _) (places : List _) → x ≡ Some place
    → map Some (with_state x places) ≡ x ∷ map Some places
placed o x place places e = rw e refl

names_placed : (o : Outline) (us : List Used) → uses_faults o sort.State us ≡ []
    → map Some (states_named o us) ≡ map (declaration_of o sort.State) us
names_placed o [] h = refl
names_placed o (u ∷ us) h =
    let x = declaration_of o sort.State u in
    let apart = parted (use_faults o sort.State u) (uses_faults o sort.State us) h in
    let d = use_seen o sort.State u apart.0 in
    placed o x d.0 (states_named o us) d.1 ∙ ap (λ l. x ∷ l) (names_placed o us apart.1)

pub state_set_full : (o : Outline) (s : StateSet) → stateset_faults o s ≡ []
    → map Some (states_named o s.states) ≡ map (declaration_of o sort.State) s.states
state_set_full o s h = names_placed o s.states
    (parted (twice_faults o s.name) (uses_faults o sort.State s.states) h).1
