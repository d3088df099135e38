use Rattle.std.proofs.Common.{◌+◌, min, ap, ◌∙◌, sym, subst, refl, ◌++◌, ◌∷◌, []}
use Rattle.std.specs.Map.{lookup}
use Rattle.est_syntax.specs.Names.{is_name}
use Rattle.est_meaning.specs.rule_kinds.Dims.{elements}
use Rattle.rule_ports.proofs.Capped.{most}
use Rattle.est_trace.specs.declared.heads.Head.{Head}
use Rattle.est_trace.specs.inside.Listing.{AreListed}
use Rattle.est_trace.proofs.Listed.{port_there, fresh, goes_on, more_listed}
use Rattle.est_trace.proofs.directory.add_head.Goals as goal

pub add-requires : goal.add-requires
add-requires c =
    let ports = c.args.ports.now in
    let n = c.args.number in
    let p = port_there ports n c.in-Some.name.now c.in-Some-kinds.kinds.now c.in-Some.ensures
    c.in-Some-kinds.ensures in
    ap (λ m. lookup (is_name m) c.args.heads.now) p.2
    ∙ fresh ports c.requires.good c.requires.few n c.args.heads.now p.0 p.1 c.requires.listed

pub returns-clause-next : goal.returns-clause-next
returns-clause-next c =
    let ports = c.args.ports.now in
    let n = c.args.number in
    let p = port_there ports n c.in-Some.name.now c.in-Some-kinds.kinds.now c.in-Some.ensures
    c.in-Some-kinds.ensures in
    goes_on ports c.requires.good c.requires.few n c.args.heads.now p.0 p.1 c.requires.listed
    c.saturating_add.result (c.saturating_add.ensures ∙ ap (λ e. min (n + e) most)
    (c.elements.ensures ∙ ap elements (c.as_slice.ensures ∙ p.3)))

pub returns-clause-listed : goal.returns-clause-listed
returns-clause-listed c =
    let ports = c.args.ports.now in
    let n = c.args.number in
    let p = port_there ports n c.in-Some.name.now c.in-Some-kinds.kinds.now c.in-Some.ensures
    c.in-Some-kinds.ensures in
    let head : Head = record { name = c.in_ok-name_of-in-Some-kinds.field-0; number = n } in
    subst (AreListed ports c.saturating_add.result)
    (sym (c.in_ok-add-in-Some-kinds.ensures
    ∙ ap (λ m. c.args.heads.now ++ (m, head) ∷ []) p.2))
    (more_listed ports c.requires.good c.requires.few n c.args.heads.now p.0 p.1
    c.requires.listed c.saturating_add.result (c.saturating_add.ensures
    ∙ ap (λ e. min (n + e) most) (c.elements.ensures ∙ ap elements (c.as_slice.ensures ∙ p.3)))
    head refl (c.in_ok-name_of-in-Some-kinds.ensures ∙ p.2))
