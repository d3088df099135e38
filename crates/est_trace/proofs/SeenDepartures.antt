-- Departures by what was seen of them.
use Rattle.std.proofs.Common.{◌≡◌, ◌∙◌, ℕ, List, [], ◌∷◌, Option, Some, None, refl, sym, ap, subst}
use Rattle.std.specs.List.{AllZip}
use Rattle.est_syntax.specs.declared.kind.Kind.{Kind}
use Rattle.est_values.specs.declared.value.Value.{Value, out-Value}
use Rattle.est_values.specs.declared.value.Value.TheOpen as opened
use Rattle.est_values.specs.declared.value.Value.TheVariants as value
use Rattle.est_values.specs.FittingValues.{Fits}
use Rattle.est_seen.specs.declared.seen.Seen.{Seen}
use Rattle.est_seen.specs.declared.seen.Seen.TheVariants as seen
use Rattle.est_seen.specs.SeenValues.{MatchEach, SomeHasAny, MayFit, nothing_seen, one_more, first}
use Rattle.est_seen.specs.SeenValues.{later, group}
use Rattle.est_seen.proofs.KnownMatches.{one_match}
use Rattle.est_meaning.specs.declared.event.Interaction.{Interaction}
use Rattle.est_meaning.specs.declared.event.Event.TheVariants.{Leaves}
use Rattle.est_meaning.specs.declared.trace.Expected.{Expected}
use Rattle.est_meaning.specs.declared.trace.Expected.TheVariants.{Known, Partly}
use Rattle.est_meaning.specs.RecordedTraces.{HasUnseen}
use Rattle.est_trace.specs.inside.Wholes.{AreWhole}
use Rattle.est_trace.specs.TraceShapes.{IsSeenAs, whole, part}
use Rattle.est_trace.proofs.SeenWholes.{parts_within}

-- what was seen of whole values matches no others
one_each : (xs : List Seen) (vs ws : List Value) → (SomeHasAny xs → ⊥) → MatchEach xs vs
    → MatchEach xs ws → vs ≡ ws
one_each xs vs ws n m o =
    let x = seen.Group xs in
    let e : value.Group vs ≡ value.Group ws =
    one_match x (value.Group vs) (value.Group ws)
    (λ a. n (parts_within x xs (seen.outs-Group xs) a))
    (group xs vs (seen.outs-Group xs) (value.outs-Group vs) m)
    (group xs ws (seen.outs-Group xs) (value.outs-Group ws) o) in
    let f : opened.Group vs ≡ opened.Group ws =
    sym (value.outs-Group vs) ∙ ap out-Value e ∙ value.outs-Group ws in
    cc

-- what was seen is one event
pub one_seen_as : (port signal : ℕ) (xs : List Seen) (x y : Expected) → IsSeenAs port signal xs x
    → IsSeenAs port signal xs y → x ≡ y
one_seen_as port signal xs _ _ (whole vs m n) (whole ws o p) =
    ap (λ (l : List Value). Known (Leaves (record { port = port; signal = signal; values = l })))
    (one_each xs vs ws n m o)
one_seen_as port signal xs _ _ (whole vs m n) (part h) = absurd (n h)
one_seen_as port signal xs _ _ (part h) (whole vs m n) = absurd (n h)
one_seen_as port signal xs _ _ (part h) (part g) = refl

-- an event that was seen whole is known, and any other one has something that was not seen
pub seen_unseen : (port signal : ℕ) (xs : List Seen) (x : Expected) → IsSeenAs port signal xs x
    → HasUnseen x
seen_unseen port signal xs _ (whole vs m n) = tt
seen_unseen port signal xs _ (part h) = h

-- values that were seen whole fit where what was seen may
pub whole_fit : (ks : List Kind) (xs : List Seen) (vs : List Value) → (SomeHasAny xs → ⊥)
    → MatchEach xs vs → AllZip MayFit ks xs → AllZip Fits ks vs
whole_fit [] _ _ n nothing_seen h = tt
whole_fit (k ∷ ks) _ _ n nothing_seen h = absurd h
whole_fit [] _ _ n (one_more m rest) h = absurd h
whole_fit (k ∷ ks) _ _ n (one_more {x = x} {xs} {v} {vs} m rest) h = (
  subst (Fits k) (one_match x h.0.0 v (λ a. n (first a)) h.0.2 m) h.0.1,
  whole_fit ks xs vs (λ a. n (later a)) rest h.1,
)

-- the departure of which this was seen whole, and the one of which something was not
pub departed_whole : (port signal : ℕ) (xs : List Seen) (vs : List Value)
    (o : Option (List Value)) (i : Interaction) → o ≡ Some vs → AreWhole xs o
    → i ≡ record { port = port; signal = signal; values = vs }
    → IsSeenAs port signal xs (Known (Leaves i))
departed_whole port signal xs vs o i e h at =
    let seen : AreWhole xs (Some vs) = subst (AreWhole xs) e h in
    subst (λ (j : Interaction). IsSeenAs port signal xs (Known (Leaves j))) (sym at)
    (whole vs seen.0 seen.1)

pub departed_part : (port signal : ℕ) (xs : List Seen) (o : Option (List Value)) → o ≡ None
    → AreWhole xs o → IsSeenAs port signal xs (Partly port signal xs)
departed_part port signal xs o e h = part (subst (AreWhole xs) e h)
