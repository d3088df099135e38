use Rattle.std.proofs.Common.{◌≡◌, ◌∙◌, refl, sym, ap, subst, length, true}
use Rattle.std.proofs.lemmas.Option.{slice_get_read}
use Rattle.std.specs.Option.{IsSomeAnd}
use Rattle.text_reader.specs.Tests.{named, stands}
use Rattle.est_syntax.specs.declared.name.Name.{Name}
use Rattle.text_values.specs.TraceGrammar.{bytes_of}
use Rattle.text_values.proofs.Places.{image_at, none_more}
use Rattle.text_values.proofs.constants.position_of.Goals as goal

pub returns-then-stands_name : goal.returns-then-stands_name
returns-then-stands_name c =
    let xs = c.args.names.now in
    let x = c.index-names-place.result in
    let r = c.args.reader.now in
    let e = slice_get_read xs (length xs) c.loop-place.place x refl c.loop-place-test.true
    c.index-names-place.is in
    let name_is = c.as_slice.ensures ∙ sym (ap (λ (n : Name). n.bytes) c.index-names-place.is) in (
      c.loop-place.invariant,
      subst (λ o. IsSomeAnd o (λ name. stands r.tokens.now r.at (named name) ≡ true))
          (sym (image_at (λ (n : Name). n.bytes) xs c.loop-place.place x e))
          (ap (λ name. stands r.tokens.now r.at (named name)) (sym name_is)
          ∙ (c.stands_name.ensures ∙ c.if-stands_name.true)),
    )

pub loop-place-preserved : goal.loop-place-preserved
loop-place-preserved c =
    let xs = c.args.names.now in
    let x = c.index-names-place.result in
    let r = c.args.reader.now in
    let e = slice_get_read xs (length xs) c.loop-place.place x refl c.loop-place-test.true
    c.index-names-place.is in
    let name_is = c.as_slice.ensures ∙ sym (ap (λ (n : Name). n.bytes) c.index-names-place.is) in
    none_more (λ name. stands r.tokens.now r.at (named name)) (bytes_of xs) c.loop-place.place
    x.bytes (image_at (λ (n : Name). n.bytes) xs c.loop-place.place x e) c.loop-place.invariant
    (ap (λ name. stands r.tokens.now r.at (named name)) (sym name_is)
    ∙ (c.stands_name.ensures ∙ c.if-stands_name.false))
