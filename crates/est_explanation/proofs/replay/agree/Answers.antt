use Rattle.std.proofs.Common.{◌≡◌, ◌∙◌, ◌-◌, sym, ap, subst, length, take, drop, min}
use Rattle.std.proofs.Math.Nat.{min_comm}
use Rattle.std.proofs.lemmas.List.{take_rest, take_min}
use Rattle.est_meaning.specs.Agreement.{AgreeFirst}
use Rattle.est_explanation.proofs.replay.agree.Goals as goal

pub returns : goal.returns
returns c =
    let trace = c.args.trace.now in
    let outs = c.args.outs.now in
    let so = c.args.so_far in
    let asked = c.args.asked in
    let rest : take (length trace - so) (drop so trace) ≡ drop so trace = take_rest trace so in
    let few : take c.min-compared.result outs ≡ take (asked - so) outs =
    ap (λ n. take n outs) (c.min-compared.ensures ∙ min_comm (length outs) c.saturating_sub.result
    ∙ ap (λ n. min n (length outs)) c.saturating_sub.ensures) ∙ take_min (asked - so) outs in (
      λ r. subst (λ w. AgreeFirst (drop so trace) w) few
          (subst (λ w. AgreeFirst w (take c.min-compared.result outs)) rest
          (c.begins_with.ensures.0 r)),
      λ p. c.begins_with.ensures.1 (subst (λ w. AgreeFirst w (take c.min-compared.result outs))
          (sym rest) (subst (λ w. AgreeFirst (drop so trace) w) (sym few) p)),
    )
