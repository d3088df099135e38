-- From what a reader of lists does to the answer.
use Rattle.std.proofs.Common.{◌≡◌, ℕ, ◌+◌, List, sym, subst, arith}
use Rattle.std.proofs.Common.{Result, Ok, Err}
use Rattle.std.specs.Result.{IsErr, IsErrAnd}
use Rattle.est_lexer.specs.declared.tokens.Tokens.{Tokens}
use Rattle.est_lexer.specs.Offsets.{text_of, tokens_of}
use Rattle.est_syntax.specs.declared.ports.Port.{Port}
use Rattle.est_meaning.specs.AllowedEvents.{most_events}
use Rattle.mean_ports.specs.declared.lists.PortLists.{PortLists}
use Rattle.text_reader.specs.Refusals.{SaysWhy, wrong_at}
use Rattle.text_reader.specs.declared.reader.Reader.{Reader}
use Rattle.text_reader.specs.declared.refusal.Refusal.{Refusal}
use Rattle.text_reader.specs.declared.refusal.Refusal.TheVariants.{BadToken, TooDeep, Memory}
use Rattle.text_reader.specs.Whole.{Starts, Finishes}
use Rattle.text_reader.proofs.Whole.{whole_read, whole_refused}
use Rattle.text_values.specs.TraceGrammar.{port_lists}
use Rattle.text_values.specs.ValueReading.{Reads}
use Rattle.text_values.proofs.Known.{known}
use Rattle.est_trace.specs.ListShapes.{ShowsLists}
use Rattle.est_trace.specs.ListText.{IsOnlyListsText, IsEventTooMany, IsListsRefusal, ReadsLists}
use Rattle.est_trace.specs.PortNames.{GoodPorts}
use Rattle.est_trace.specs.TraceErrors.{of_refusal}
use Rattle.est_trace.specs.TraceText.{traces}
use Rattle.est_trace.specs.declared.error.TraceError.{TraceError}
use Rattle.est_trace.proofs.InsideTokens.{partial_within}
use Rattle.est_trace.proofs.OneLists.{one_lists}
use Rattle.est_trace.proofs.Readings.{shows_only}

module _ {tokens : Tokens} {ports : List Port} {A B : Reader} (x : PortLists)
    (good : GoodPorts ports) (g : Reads (port_lists ports) (ShowsLists ports x) A B)
    (s : Starts tokens most_events A) where
  -- what was read
  pub lists_answered : {y : PortLists} → Finishes B x (Ok y)
      → ReadsLists ports (text_of tokens) (tokens_of tokens) (Ok y)
  lists_answered h =
      let r = whole_read known g.goes s h in
      let shown = subst (λ u. ShowsLists ports x u) (sym (shows_only g.shape r.2)) (g.is h.1) in
      subst (λ z. IsOnlyListsText ports (text_of tokens) (tokens_of tokens) z) (sym h.0) (
        (r.0, r.1, shown),
        λ z q. one_lists ports good z x q.0 r.0 (r.3 q.0 q.1) q.2 shown,
      )

  -- a token that no number of levels lets go on is no event too many
  not_too_many : (place : ℕ)
      → SaysWhy (traces (text_of tokens)) (port_lists ports) most_events (tokens_of tokens)
      (wrong_at place) → IsEventTooMany ports (text_of tokens) (tokens_of tokens) place → ⊥
  not_too_many place h e =
      let l = partial_within (traces (text_of tokens)) (tokens_of tokens) (place + 1) e.goes_on
      (omega arith) in
      h.1 (omega (arith, l)) (most_events + 1) e.goes_on

  refused : (error : Refusal) → Finishes B x (Err error)
      → IsListsRefusal ports (text_of tokens) (tokens_of tokens) (of_refusal error)
  refused (BadToken place) h =
      let r = whole_refused known g.goes s (BadToken place) h in (r.0, not_too_many place r)
  refused (TooDeep place) h =
      let r = whole_refused known g.goes s (TooDeep place) h in
      (r.0, record { goes_on = r.2 })
  refused (Memory error) h = tt

  -- the answer has this error
  pub lists_refused : (error : Refusal) (r : Result PortLists TraceError)
      → Finishes B x (Err error) → IsErr r × IsErrAnd r (λ e. e ≡ of_refusal error)
      → ReadsLists ports (text_of tokens) (tokens_of tokens) r
  lists_refused error (Ok z) h (never, is) = cc
  lists_refused error (Err e) h is =
      subst (IsListsRefusal ports (text_of tokens) (tokens_of tokens)) (sym is.1)
      (refused error h)
