use Rattle.std.proofs.Common.{◌≡◌, ◌-◌, ◌+◌, ◌<◌, ◌≤◌, ◌∷◌, ◌++◌, ap, drop, length, arith, ◌∙◌}
use Rattle.std.specs.Fmt.{decimal}
use Rattle.std.proofs.lemmas.List.{drop-set}
use Rattle.est_explanation.proofs.Numerals.{few_digits}
use Rattle.est_explanation.proofs.write.put_number.Goals as goal

pub write_digits-start-requires : goal.write_digits-start-requires
write_digits-start-requires c =
    let few : length (decimal c.from.result) ≤ 10 = few_digits c.from.result c.args.number c.from.ensures
    c.ranges.number.fits in
    (omega (arith, c.requires.room), c.requires.inside)

pub overflow_sub-start : goal.overflow_sub-start
overflow_sub-start c =
    let few : length (decimal c.from.result) ≤ 10 = few_digits c.from.result c.args.number c.from.ensures
    c.ranges.number.fits in
    omega (arith, c.requires.room, c.write_digits-start.ensures.start)

pub returns-clause-put : goal.returns-clause-put
returns-clause-put c =
    let few : length (decimal c.from.result) ≤ 10 = few_digits c.from.result c.args.number c.from.ensures
    c.ranges.number.fits in
    let start = c.write_digits-start.result in
    let buffer = c.write_digits-start.new.buf in
    let inside : start - 1 < length buffer =
    omega (arith, c.requires.room, c.requires.inside, c.write_digits-start.ensures.start) in
    let after : start - 1 + 1 ≡ start =
    omega (arith, c.requires.room, c.write_digits-start.ensures.start) in
    drop-set buffer (start - 1) 32 inside
    ∙ ap (λ n. 32 ∷ drop n buffer) after ∙ ap (λ r. 32 ∷ r) c.write_digits-start.ensures.written
    ∙ ap (λ n. 32 ∷ (decimal n ++ drop c.args.end c.args.line.now)) c.from.ensures

pub returns-clause-near : goal.returns-clause-near
returns-clause-near c =
    let few : length (decimal c.from.result) ≤ 10 = few_digits c.from.result c.args.number c.from.ensures
    c.ranges.number.fits in
    omega (arith, c.requires.room, c.write_digits-start.ensures.start)
