use Rattle.std.proofs.Common.{sym, ap, subst, ◌∙◌, ◌++◌, ◌∷◌, []}
use Rattle.est_meaning.specs.mean_blocks.KeepingLaws.{AreNumbered}
use Rattle.plain_frames.specs.plain_systems.HeldSystems.{situation_of}
use Rattle.est_plain.proofs.HistoryLaws.{all_pushed}
use Rattle.est_plain.proofs.history.History.step.Goals as goal

pub invariant_of-self-2 : goal.invariant_of-self-2
invariant_of-self-2 c =
    let w = c.args.self.now in
    let left = c.replace-left.result in
    record {
      numbered = subst (λ s. AreNumbered (situation_of s)) (sym c.replace-left.ensures.after)
          c.requires;
      all_numbered = all_pushed left w.below.items c.push_reserved.new.self.items
          (c.push_reserved.ensures.items ∙ ap (λ xs. xs ++ left ∷ []) c.reserve.ensures.items)
          (subst (λ s. AreNumbered (situation_of s)) (sym c.replace-left.ensures.value) w.numbered)
          w.all_numbered;
    }
