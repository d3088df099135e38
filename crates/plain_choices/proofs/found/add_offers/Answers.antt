use Rattle.std.proofs.Common.{sym, ◌∙◌}
use Rattle.plain_choices.proofs.Findings.{found_more, dues_some, dues_none}
use Rattle.plain_choices.proofs.found.add_offers.Goals as goal

pub returns-in_ok-push : goal.returns-in_ok-push
returns-in_ok-push c = λ limit t s v k. found_more limit t s c.args.instance c.args.offers.now v
    c.best_due-best.result c.best_due-best.ensures c.args.found.now
    (record { firings = c.add_firings.new.firings; dues = c.push.new.self })
    c.in_ok-add_firings.ensures
    (dues_some c.args.instance c.best_due-best.result c.args.found.now.dues.items
    c.push.new.self.items (sym c.is_some.ensures ∙ c.if-is_some.true)
    c.in_ok-push.ensures.items) k

pub returns-else-is_some : goal.returns-else-is_some
returns-else-is_some c = λ limit t s v k. found_more limit t s c.args.instance c.args.offers.now v
    c.best_due-best.result c.best_due-best.ensures c.args.found.now
    (record { firings = c.add_firings.new.firings; dues = c.args.found.now.dues })
    c.in_ok-add_firings.ensures
    (dues_none c.args.instance c.best_due-best.result c.args.found.now.dues.items
    (sym c.is_some.ensures ∙ c.if-is_some.false)) k
