use Rattle.std.proofs.Common.{refl, subst, sym, ◌∙◌, codes}
use Rattle.est_lexer.specs.Offsets.{text_of, tokens_of}
use Rattle.est_lexer.specs.TokenList.{IsTokenList}
use Rattle.est_meaning.specs.rule_declares.PortList.{ports_of}
use Rattle.est_trace.specs.LineText.{IsLineRefusal}
use Rattle.est_trace.specs.declared.error.TraceError.{TraceError}
use Rattle.est_trace.specs.declared.error.TraceError.TheVariants.{BadToken, TooMany}
use Rattle.call_watch.specs.Lines.{room_after}
use Rattle.call_watch.proofs.Found.{found_events, found_refused}
use Rattle.call_watch.proofs.line.read_line.Goals as goal

pub returns-in-Ok-clause-found : goal.returns-in-Ok-clause-found
returns-in-Ok-clause-found g c =
    found_events (ports_of g.spec) (room_after c.args.recording.now.given)
    c.args.recording.now.is_first c.args.bytes.now (text_of c.in_ok-tokens.tokens)
    (tokens_of c.in_ok-tokens.tokens) c.in-Ok.events
    (c.in_ok-tokens.ensures.same_text ∙ c.as_slice.ensures.value ∙ c.in_ok-text.ensures)
    (subst (λ t. IsTokenList t (tokens_of c.in_ok-tokens.tokens))
    (sym c.in_ok-tokens.ensures.same_text) c.in_ok-tokens.ensures.tokens)
    c.in-Ok.ensures.reads

pub returns-in-Err-BadToken-clause-found : goal.returns-in-Err-BadToken-clause-found
returns-in-Err-BadToken-clause-found g c =
    found_refused (ports_of g.spec) (room_after c.args.recording.now.given)
    c.args.recording.now.is_first c.args.bytes.now (text_of c.in_ok-tokens.tokens)
    (text_of c.args.own.now) (tokens_of c.in_ok-tokens.tokens) (tokens_of c.args.own.now)
    (BadToken c.in-Err-BadToken.place) c.in-Err-BadToken.place (codes "bad token")
    c.refused.result
    (c.in_ok-tokens.ensures.same_text ∙ c.as_slice.ensures.value ∙ c.in_ok-text.ensures)
    (subst (λ t. IsTokenList t (tokens_of c.in_ok-tokens.tokens))
    (sym c.in_ok-tokens.ensures.same_text) c.in_ok-tokens.ensures.tokens)
    c.requires.1.1.1.1.0 c.requires.1.1.1.1.1
    (subst (λ (e : TraceError). IsLineRefusal (room_after c.args.recording.now.given)
    (ports_of g.spec) (text_of c.in_ok-tokens.tokens) (tokens_of c.in_ok-tokens.tokens) e)
    c.in-Err-BadToken.field-0-is c.in-Err-BadToken.ensures.reads)
    (refl, refl, refl) c.refused.ensures

pub returns-in-Err-TooMany-clause-found : goal.returns-in-Err-TooMany-clause-found
returns-in-Err-TooMany-clause-found g c =
    found_refused (ports_of g.spec) (room_after c.args.recording.now.given)
    c.args.recording.now.is_first c.args.bytes.now (text_of c.in_ok-tokens.tokens)
    (text_of c.args.own.now) (tokens_of c.in_ok-tokens.tokens) (tokens_of c.args.own.now)
    (TooMany c.in-Err-TooMany.place) c.in-Err-TooMany.place (codes "too many events")
    c.refused-in-Err-TooMany.result
    (c.in_ok-tokens.ensures.same_text ∙ c.as_slice.ensures.value ∙ c.in_ok-text.ensures)
    (subst (λ t. IsTokenList t (tokens_of c.in_ok-tokens.tokens))
    (sym c.in_ok-tokens.ensures.same_text) c.in_ok-tokens.ensures.tokens)
    c.requires.1.1.1.1.0 c.requires.1.1.1.1.1
    (subst (λ (e : TraceError). IsLineRefusal (room_after c.args.recording.now.given)
    (ports_of g.spec) (text_of c.in_ok-tokens.tokens) (tokens_of c.in_ok-tokens.tokens) e)
    c.in-Err-TooMany.field-0-is c.in-Err-TooMany.ensures.reads)
    (refl, refl, refl) c.refused-in-Err-TooMany.ensures
