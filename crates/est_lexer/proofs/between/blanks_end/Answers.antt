use Rattle.std.proofs.Common.{arith, ◌≡◌, true, slice_index}
use Rattle.est_lexer.specs.Between.{is_blank, blank, nothing}
use Rattle.est_lexer.proofs.Marks.{between_append}
use Rattle.est_lexer.proofs.between.blanks_end.Goals as goal

pub loop-end-init : goal.loop-end-init
loop-end-init c = record { between = nothing _; inside = c.requires }

pub loop-end-preserved : goal.loop-end-preserved
loop-end-preserved c =
    let here : is_blank (slice_index c.args.text.now c.loop-end.end) ≡ true = cc in
    record {
      between = between_append c.loop-end.invariant.between (blank _ _ here (nothing _));
      inside = omega arith;
    }
