use Rattle.std.proofs.Common.{refl, sym, ◌∙◌}
use Rattle.indexmap.proofs.CallerLemmas.{insert_entry-new}
use Rattle.est_syntax.specs.declared.body.Body.{out-Body}
use Rattle.plain_texts.proofs.IndexLaws.{copied_none, kept_there, put_last}
use Rattle.plain_texts.proofs.PartLaws.{one_body}
use Rattle.plain_texts.proofs.indices.add_body.Goals as goal

pub returns-then-is_some : goal.returns-then-is_some
returns-then-is_some c = one_body c.args.body.now c.args.index.now c.args.index.now
    (λ p. refl)
    (λ p. kept_there c.args.index.now.bodies.entries (out-Body c.args.body.now).name.place p
    c.args.body.now c.get.result c.get.ensures.value
    (sym c.is_some.ensures ∙ c.if-is_some.true))

pub returns : goal.returns
returns c =
    let none = sym c.get.ensures.value
    ∙ copied_none c.get.result (sym c.is_some.ensures ∙ c.if-is_some.false)
    in one_body c.args.body.now c.args.index.now
    (record c.args.index.now { bodies = c.insert.new.self })
    (λ p. refl)
    (λ p. put_last c.args.index.now.bodies.entries c.insert.new.self.entries
    (out-Body c.args.body.now).name.place p c.args.body (c.in_ok-insert.ensures.entries
    ∙ insert_entry-new _ c.args.index.now.bodies (out-Body c.args.body.now).name.place c.args.body
    none))
