use Rattle.std.proofs.Common.{rules, sym, ap, ◌∙◌, Ok, to_z, of_z, w32, FitsSigned}
use Rattle.std.proofs.lemmas.Int.{to_z-of_z}
use Rattle.mean_blocks.specs.Outcome.{◌>>=◌, give, lift}
use Rattle.mean_blocks.specs.SetOperators.{with_span}
use Rattle.plain_operands.proofs.operands.span.Goals as goal

pub returns : goal.returns
returns c = λ zs n h.
    let f : FitsSigned w32 c.in_ok-first.first = search rules in
    let g : FitsSigned w32 c.in_ok-last.last = search rules in
    let a = to_z w32 (of_z w32 c.in_ok-first.first) in
    let b = to_z w32 (of_z w32 c.in_ok-last.last) in
    let p = sym c.in_ok-first.ensures ∙ ap Ok (sym (to_z-of_z w32 c.in_ok-first.first f)) in
    let q = sym c.in_ok-last.ensures ∙ ap Ok (sym (to_z-of_z w32 c.in_ok-last.last g)) in (
      with_span a b zs,
      (
        c.in_ok-more.ensures zs h,
        λ i. (lift (p i) >>= λ x. lift (q i) >>= λ y. give (with_span x y zs)) n,
      ),
    )
