use Rattle.std.proofs.Common.{◌≡◌, ◌<◌, ◌+◌, ◌-◌, arith, sym, ap, ◌∙◌, drop, length, refl, None}
use Rattle.std.proofs.lemmas.Option.{slice_get_read}
use Rattle.plain_declared.specs.mean_blocks.Frames.{innermost}
use Rattle.plain_frames.proofs.NamesFound.{found_here}
use Rattle.plain_frames.proofs.names.found.Goals as goal

pub returns-in-Some : goal.returns-in-Some
returns-in-Some c =
    let d = c.args.declared in
    let fs = c.args.frames.now in
    let i = c.loop-i.i - 1 in
    let after : c.loop-i.i ≡ i + 1 = omega arith in
    let there : i < length fs = omega arith in
    let inner : innermost d (i + 1) (drop (i + 1) fs) ≡ None =
    sym (ap (λ n. innermost d n (drop n fs)) after) ∙ c.loop-i.invariant.none in
    sym (found_here d fs i c.index-frames-i.result c.in-Some.slot.now
    (slice_get_read fs _ i c.index-frames-i.result refl there c.index-frames-i.is)
    (sym c.in-Some.ensures) inner)
