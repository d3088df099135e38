-- What a trace shows are known events, and events of which not all was seen.
use Rattle.std.proofs.Common.{All, ℕ, List, [], ◌∷◌, sym, subst, arith}
use Rattle.text_reader.specs.Grammar.{leaf, both, left, right, some}
use Rattle.est_syntax.specs.declared.kind.Kind.{Kind}
use Rattle.est_syntax.specs.declared.ports.Direction.{Direction}
use Rattle.est_syntax.specs.declared.ports.Direction.TheVariants.{Receives, Sends}
use Rattle.est_syntax.specs.declared.ports.Port.{Port}
use Rattle.est_meaning.specs.declared.trace.Expected.{Expected}
use Rattle.est_meaning.specs.RecordedTraces.{Recorded, HasUnseen}
use Rattle.text_reader.specs.Tests.{value}
use Rattle.text_reader.specs.Going.{Shape}
use Rattle.text_values.specs.declared.formats.Format.{Format}
use Rattle.text_values.specs.declared.formats.Format.TheVariants.{Complete, Partial}
use Rattle.est_trace.specs.TraceShapes.{ShowsBrackets, ShowsEvent, ShowsEvents, ShowsRest}
use Rattle.est_trace.specs.TraceShapes.{ShowsTrace}
use Rattle.est_trace.proofs.SeenDepartures.{seen_unseen}
use Rattle.est_trace.proofs.Shown.{all_cons}

brackets_unseen : (d : Direction) (f : Format) (p m : ℕ) (x : Expected) (ks : List Kind) (t : Shape)
    → ShowsBrackets d f p m x ks t → HasUnseen x
brackets_unseen Receives f p m x ks t h = subst HasUnseen (sym h.event_is) tt
brackets_unseen Sends Complete p m x ks t h = subst HasUnseen (sym h.event_is) tt
brackets_unseen Sends Partial p m x ks t h = seen_unseen p m h.seen x h.seen_as

module _ (ports : List Port) where
  event_unseen : (f : Format) (x : Expected) (t : Shape) → ShowsEvent f ports x t → HasUnseen x
  event_unseen f x (left (leaf (value n))) e = subst HasUnseen (sym e) tt
  event_unseen f x (right (left t)) e =
      brackets_unseen Receives f e.port e.signal x e.shown.signal.kinds e.shown.brackets_shape
      e.shown.shown
  event_unseen f x (right (right t)) e =
      brackets_unseen Sends f e.port e.signal x e.shown.signal.kinds e.shown.brackets_shape
      e.shown.shown
  event_unseen f x _ e = absurd e

  events_unseen : (f : Format) (xs : List Expected) (t : Shape) → ShowsEvents f ports xs t
      → All HasUnseen xs
  events_unseen f [] t e = λ k d l. absurd (omega (arith, l))
  events_unseen f (x ∷ xs) (some (both t u)) e =
      all_cons HasUnseen x xs (event_unseen f x t e.0) (events_unseen f xs u e.1)
  events_unseen f (x ∷ xs) t e = absurd e

  rest_unseen : (f : Format) (r : Recorded) (t : Shape) → ShowsRest f ports r t
      → All HasUnseen r.events
  rest_unseen f r (both t u) e = events_unseen f r.events t e.0
  rest_unseen f r _ e = absurd e

  pub trace_unseen : (r : Recorded) (t : Shape) → ShowsTrace ports r t → All HasUnseen r.events
  trace_unseen r (left t) e = rest_unseen Complete r t e
  trace_unseen r (right (left t)) e = rest_unseen Partial r t e
  trace_unseen r (right (right t)) e = rest_unseen Partial r t e
  trace_unseen r _ e = absurd e
