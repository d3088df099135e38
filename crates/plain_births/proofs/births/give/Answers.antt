use Rattle.std.proofs.Common.{sym, refl, Some, ℕ}
use Rattle.plain_texts.specs.mean_blocks.declared.situation.Holding.{Holding}
use Rattle.plain_texts.specs.mean_blocks.GlobalSituation.{is_holding}
use Rattle.plain_births.proofs.BirthLaws.{none_changed, changed_there}
use Rattle.plain_births.proofs.births.give.Goals as goal

abbrev given : ℕ → Holding → Holding
given n h = record h { number = Some n }

pub returns-in-None : goal.returns-in-None
returns-in-None c =
    sym (none_changed (is_holding c.args.element.now) (given c.args.number)
    c.args.holdings.now (sym c.in-None.ensures))

pub returns-in-Some : goal.returns-in-Some
returns-in-Some c =
    changed_there (is_holding c.args.element.now) (given c.args.number) c.args.holdings.now
    c.holdings.inside.items.items c.in-Some.at c.index_mut.result.now
    (given c.args.number c.index_mut.result.now) c.holdings.view_is (sym c.in-Some.ensures)
    c.index_mut.ensures.value refl
