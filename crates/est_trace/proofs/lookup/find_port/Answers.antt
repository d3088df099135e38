use Rattle.std.proofs.Common.{subst}
use Rattle.std.specs.Option.{option_map}
use Rattle.text_reader.specs.Moving.{IsNamedAt}
use Rattle.est_trace.specs.PortNames.{IsHeadOf}
use Rattle.est_trace.proofs.PortLookups.{unnamed, head_named}
use Rattle.est_trace.proofs.lookup.find_port.Goals as goal

pub returns-in_default-clause-found : goal.returns-in_default-clause-found
returns-in_default-clause-found c = λ w.
    let tk = c.args.reader.now.tokens.now in
    let at = c.args.reader.now.at in
    unnamed c.args.directory.now.ports.now tk at
    (subst (λ o. IsNamedAt tk at (option_map (λ bytes. bytes.items) o)) c.in_default.is
    (c.name_here.ensures.named w))

pub returns-clause-found : goal.returns-clause-found
returns-clause-found c = λ w.
    let tk = c.args.reader.now.tokens.now in
    let at = c.args.reader.now.at in
    let ports = c.args.directory.now.ports.now in
    head_named ports tk at c.in-Some.name.items c.head_of.result
    (subst (λ o. IsNamedAt tk at (option_map (λ bytes. bytes.items) o)) c.in-Some.is
    (c.name_here.ensures.named w))
    (subst (λ v. IsHeadOf v ports c.head_of.result) c.deref.ensures.value c.head_of.ensures)
