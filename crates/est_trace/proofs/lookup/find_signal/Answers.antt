use Rattle.std.proofs.Common.{map, subst, Some, None}
use Rattle.std.specs.Option.{option_map}
use Rattle.text_reader.specs.Moving.{IsNamedAt}
use Rattle.est_trace.specs.PortNames.{IsNumberOf, signal_name}
use Rattle.est_trace.proofs.Lookups.{no_signal_word, no_signal, signal_open, signal_closed}
use Rattle.est_trace.proofs.lookup.find_signal.Goals as goal

pub returns-in_default-clause-found : goal.returns-in_default-clause-found
returns-in_default-clause-found c = λ w.
    let tk = c.args.reader.now.tokens.now in
    let at = c.args.reader.now.at in
    no_signal_word c.args.direction c.args.signals.now tk at
    (subst (λ o. IsNamedAt tk at (option_map (λ bytes. bytes.items) o)) c.in_default.is
    (c.name_here.ensures.named w))

pub returns-then-passes_at-clause-found : goal.returns-then-passes_at-clause-found
returns-then-passes_at-clause-found c = λ w.
    let tk = c.args.reader.now.tokens.now in
    let at = c.args.reader.now.at in
    let xs = c.args.signals.now in
    let bytes = c.in-Some.name.items in
    signal_open c.args.direction xs tk at bytes
    (subst (λ o. IsNamedAt tk at (option_map (λ bytes. bytes.items) o)) c.in-Some.is
    (c.name_here.ensures.named w)) c.in-Ok-Some.number
    (subst (λ v. IsNumberOf v (map signal_name xs) (Some c.in-Ok-Some.number)) c.deref.ensures.value
    (subst (λ o. IsNumberOf c.deref.result.now (map signal_name xs) o) c.in-Ok-Some.field-0-is
    c.in-Ok-Some.ensures))
    c.passes_at.result c.passes_at.ensures c.if-passes_at.true

pub returns-in-Ok-Some-clause-found : goal.returns-in-Ok-Some-clause-found
returns-in-Ok-Some-clause-found c = λ w.
    let tk = c.args.reader.now.tokens.now in
    let at = c.args.reader.now.at in
    let xs = c.args.signals.now in
    let bytes = c.in-Some.name.items in
    signal_closed c.args.direction xs tk at bytes
    (subst (λ o. IsNamedAt tk at (option_map (λ bytes. bytes.items) o)) c.in-Some.is
    (c.name_here.ensures.named w)) c.in-Ok-Some.number
    (subst (λ v. IsNumberOf v (map signal_name xs) (Some c.in-Ok-Some.number)) c.deref.ensures.value
    (subst (λ o. IsNumberOf c.deref.result.now (map signal_name xs) o) c.in-Ok-Some.field-0-is
    c.in-Ok-Some.ensures))
    c.passes_at.result c.passes_at.ensures c.requires c.if-passes_at.false

pub returns-in-Ok-None-clause-found : goal.returns-in-Ok-None-clause-found
returns-in-Ok-None-clause-found c = λ w.
    let tk = c.args.reader.now.tokens.now in
    let at = c.args.reader.now.at in
    let xs = c.args.signals.now in
    let bytes = c.in-Some.name.items in
    no_signal c.args.direction xs tk at bytes
    (subst (λ o. IsNamedAt tk at (option_map (λ bytes. bytes.items) o)) c.in-Some.is
    (c.name_here.ensures.named w))
    (subst (λ v. IsNumberOf v (map signal_name xs) None) c.deref.ensures.value
    (subst (λ o. IsNumberOf c.deref.result.now (map signal_name xs) o) c.in-Ok-None.field-0-is
    c.in-Ok-None.ensures))
