use Rattle.std.proofs.Common.{◌≡◌, List, map, reverse, refl, sym, ap, subst, ◌∙◌, rules}
use Rattle.std.proofs.lemmas.List.{reverse-reverse}
use Rattle.mean_ports.specs.PortRunLaws.{plain_move}
use Rattle.est_ports.specs.declared.left.Used.{Used}
use Rattle.est_ports.specs.inside.Leftover.{HasUsedUp, used_of, kept}
use Rattle.est_ports.proofs.explain.refuse.Goals as goal

pub returns : goal.returns
returns c =
    let w = c.args.walk.now in
    let same : reverse c.deref-2.result.now ≡ kept w.best_used (used_of w.rest) =
    ap reverse c.deref-2.ensures.value ∙ c.in_ok-used.ensures
    ∙ ap (λ (us : List Used). kept w.best_used (reverse us)) c.deref.ensures.value in (
      search rules,
      refl,
      ap reverse c.in_ok-reversed.ensures ∙ reverse-reverse c.in_ok-moves.moves.items
          ∙ c.in_ok-moves.ensures ∙ ap (map plain_move) c.deref-3.ensures.value,
      λ left events many up. c.in_ok-merge.ensures left events many
          (subst (λ us. HasUsedUp c.args.lists.now us left events) (sym same) up),
    )
