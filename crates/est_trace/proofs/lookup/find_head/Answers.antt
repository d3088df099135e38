use Rattle.std.proofs.Common.{subst, ap, ◌∙◌, Some, None}
use Rattle.std.specs.Option.{option_map}
use Rattle.text_reader.specs.Moving.{IsNamedAt}
use Rattle.est_trace.specs.PortNames.{IsHeadOf, signals_of}
use Rattle.est_trace.specs.PortNames as names
use Rattle.est_trace.proofs.Lookups.{no_port_word, no_head, head_open, head_closed}
use Rattle.est_trace.proofs.lookup.find_head.Goals as goal

pub returns-in_default-clause-found : goal.returns-in_default-clause-found
returns-in_default-clause-found c = λ w.
    let tk = c.args.reader.now.tokens.now in
    let at = c.args.reader.now.at in
    no_port_word c.args.direction c.args.directory.now.ports.now tk at
    (subst (λ o. IsNamedAt tk at (option_map (λ bytes. bytes.items) o)) c.in_default.is
    (c.name_here.ensures.named w))

pub returns-in_default-head_of-clause-found : goal.returns-in_default-head_of-clause-found
returns-in_default-head_of-clause-found c = λ w.
    let tk = c.args.reader.now.tokens.now in
    let at = c.args.reader.now.at in
    let ports = c.args.directory.now.ports.now in
    no_head c.args.direction ports tk at c.in-Some.name.items
    (subst (λ o. IsNamedAt tk at (option_map (λ bytes. bytes.items) o)) c.in-Some.is
    (c.name_here.ensures.named w))
    (subst (λ v. IsHeadOf v ports None) c.deref.ensures.value c.in_default-head_of.ensures)

pub returns-in-Ok-true-clause-found : goal.returns-in-Ok-true-clause-found
returns-in-Ok-true-clause-found c = λ w.
    let tk = c.args.reader.now.tokens.now in
    let at = c.args.reader.now.at in
    let ports = c.args.directory.now.ports.now in
    head_open c.args.direction ports tk at c.in-Some.name.items
    (subst (λ o. IsNamedAt tk at (option_map (λ bytes. bytes.items) o)) c.in-Some.is
    (c.name_here.ensures.named w)) c.in-Some-head_of.head
    (subst (λ v. IsHeadOf v ports (Some c.in-Some-head_of.head)) c.deref.ensures.value
    c.in-Some-head_of.ensures) _
    (c.in-Ok-true.ensures ∙ ap (names.some_pass c.args.direction) c.signals.ensures)
    c.in-Ok-true.field-0-test

pub returns-in-Ok-false-clause-found : goal.returns-in-Ok-false-clause-found
returns-in-Ok-false-clause-found c = λ w.
    let tk = c.args.reader.now.tokens.now in
    let at = c.args.reader.now.at in
    let ports = c.args.directory.now.ports.now in
    head_closed c.args.direction ports tk at c.in-Some.name.items
    (subst (λ o. IsNamedAt tk at (option_map (λ bytes. bytes.items) o)) c.in-Some.is
    (c.name_here.ensures.named w)) c.in-Some-head_of.head
    (subst (λ v. IsHeadOf v ports (Some c.in-Some-head_of.head)) c.deref.ensures.value
    c.in-Some-head_of.ensures) _
    (c.in-Ok-false.ensures ∙ ap (names.some_pass c.args.direction) c.signals.ensures)
    c.requires.good c.in-Ok-false.field-0-test
