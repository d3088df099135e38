-- Events at the ports of a checked specification may stand in its traces.
use Rattle.std.proofs.Common.{All, ◌≡◌, ◌≤◌, List, length, get_or, subst}
use Rattle.std.specs.Prelude.{Result, Ok, Err, IfOk}
use Rattle.est_syntax.specs.declared.ports.Port.{Port}
use Rattle.est_syntax.specs.declared.specification.Spec.{Spec}
use Rattle.est_meaning.specs.rule_declares.PortList.{ports_of}
use Rattle.est_meaning.specs.declared.event.Event.{Event}
use Rattle.est_meaning.specs.declared.event.Event.TheVariants.{Arrives, Leaves, Passes}
use Rattle.est_meaning.specs.declared.trace.Expected.{Expected}
use Rattle.est_meaning.specs.declared.trace.Expected.TheVariants.{Known, Partly}
use Rattle.est_meaning.specs.RecordedTraces.{Recorded}
use Rattle.est_meaning.specs.AllowedEvents.{IsReceivable, IsSendable, IsAllowed}
use Rattle.est_meaning.specs.AllowedEvents.{IsAllowedExpected, most_events, IsAllowedTrace}
use Rattle.est_trace.specs.declared.error.TraceError.{TraceError}
use Rattle.est_trace.specs.inside.AtPorts.{IsAtPorts, IsExpectedAt, AreAtPorts}

pub allowed : (s : Spec) (e : Event) → IsAtPorts (ports_of s) e → IsAllowed s e
unfolding IsReceivable IsSendable
allowed s (Arrives i) h = (
  h.port,
  h.signal,
  record {
    port_is = h.port_is;
    signal_is = h.signal_is;
    fits = h.fits;
  },
  h.direction_is,
)
allowed s (Leaves i) h = (
  h.port,
  h.signal,
  record {
    port_is = h.port_is;
    signal_is = h.signal_is;
    fits = h.fits;
  },
  h.direction_is,
)
allowed s (Passes units) h = h

expected_allowed : (s : Spec) (x : Expected) → IsExpectedAt (ports_of s) x
    → IsAllowedExpected s x
expected_allowed s (Known e) h = allowed s e h
expected_allowed s (Partly port signal seen) h = record {
  at = h.0.port;
  sent = h.0.signal;
  port_is = h.0.port_is;
  signal_is = h.0.signal_is;
  sends = h.0.direction_is;
  may_fit = h.0.fits;
  partly = h.1;
}

pub all_allowed : (s : Spec) (r : Recorded) → AreAtPorts (ports_of s) r.events
    → length r.events ≤ most_events → IsAllowedTrace s r
all_allowed s r h l =
    record { few = l; each = λ k d z. expected_allowed s (get_or r.events k d) (h k d z) }

pub allowed_trace : (s : Spec) (ports : List Port) (r : Result Recorded TraceError)
    → ports ≡ ports_of s → IfOk r (λ x. AreAtPorts ports x.events)
    → IfOk r (λ x. length x.events ≤ most_events) → IfOk r (λ x. IsAllowedTrace s x)
allowed_trace s ports (Ok x) e h l =
    all_allowed s x (subst (λ v. AreAtPorts v x.events) e h) l
allowed_trace s ports (Err error) e h l = tt

pub allowed_events : (s : Spec) (ports : List Port) (r : Result (List Event) TraceError)
    → ports ≡ ports_of s → IfOk r (All (IsAtPorts ports)) → IfOk r (All (IsAllowed s))
allowed_events s ports (Ok es) e h =
    λ k d z. allowed s (get_or es k d) (subst (λ v. IsAtPorts v (get_or es k d)) e (h k d z))
allowed_events s ports (Err error) e h = tt
