use Rattle.std.proofs.Common.{refl, sym, ◌∙◌}
use Rattle.indexmap.proofs.CallerLemmas.{insert_entry-new}
use Rattle.plain_texts.proofs.IndexLaws.{copied_none, kept_there, put_last}
use Rattle.plain_texts.proofs.PartLaws.{one_routine}
use Rattle.plain_texts.proofs.indices.add_routine.Goals as goal

pub returns-then-is_some : goal.returns-then-is_some
returns-then-is_some c = one_routine c.args.routine.now c.args.index.now c.args.index.now
    (λ p. kept_there c.args.index.now.routines.entries c.args.routine.now.name.place p
    c.args.routine.now c.get.result c.get.ensures.value
    (sym c.is_some.ensures ∙ c.if-is_some.true)) (λ p. refl)

pub returns : goal.returns
returns c =
    let none = sym c.get.ensures.value
    ∙ copied_none c.get.result (sym c.is_some.ensures ∙ c.if-is_some.false)
    in one_routine c.args.routine.now c.args.index.now
    (record c.args.index.now { routines = c.insert.new.self })
    (λ p. put_last c.args.index.now.routines.entries c.insert.new.self.entries
    c.args.routine.now.name.place p c.args.routine (c.in_ok-insert.ensures.entries
    ∙ insert_entry-new _ c.args.index.now.routines c.args.routine.now.name.place c.args.routine
    none))
    (λ p. refl)
