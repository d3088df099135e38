use Rattle.std.proofs.Common.{◌≡◌, ◌∙◌, IfOk, ap, refl, subst, string_bytes}
use Rattle.call_files.specs.Pieces.{appended, IsPrefix}
use Rattle.call_watch.specs.inside.Reading.{written, cut, unmade}
use Rattle.call_watch.proofs.reading.write_last.Goals as goal

pub returns-in_default-clause-last : goal.returns-in_default-clause-last
returns-in_default-clause-last g c = λ last is. unmade refl

pub returns-in-Ok-write_whole-clause-last : goal.returns-in-Ok-write_whole-clause-last
returns-in-Ok-write_whole-clause-last g c = λ last is.
    let e : c.as_bytes.result.now ≡ last = c.as_bytes.ensures.value
    ∙ subst (λ r. IfOk r (λ line. string_bytes line ≡ last)) c.in-Ok.is is in
    written (c.in-Ok-write_whole.ensures.ok
    ∙ ap (λ bytes. appended (g.K.Sink.written c.args.sink.now) bytes) e)

pub returns-clause-last : goal.returns-clause-last
returns-clause-last g c = λ last is.
    let e : c.as_bytes.result.now ≡ last = c.as_bytes.ensures.value
    ∙ subst (λ r. IfOk r (λ line. string_bytes line ≡ last)) c.in-Ok.is is in
    let h = c.in-Err.ensures.err in
    cut h.0 (subst (λ bytes. IsPrefix h.0 bytes) e h.1) h.2
