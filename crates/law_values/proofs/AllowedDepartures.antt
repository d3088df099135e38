-- Which departures may stand in a trace.
use Rattle.std.proofs.Common.{◌≡◌, refl, sym, subst, arith, ℤ, pos, ◌+ℤ◌, ◌≤ℤ◌, Bool, true, false}
use Rattle.std.proofs.Common.{List, [], ◌∷◌, Ok, Err}
use Rattle.std.specs.Prelude.{int_le, if◌then◌else◌}
use Rattle.std.specs.List.{AllZip, list_all}
use Rattle.std.proofs.lemmas.Int.{ints}
use Rattle.est_syntax.specs.declared.kind.Kind.{Kind, out-Kind}
use Rattle.est_syntax.specs.declared.kind.Kind.TheOpen as seen
use Rattle.est_values.specs.declared.value.Value.{Value, out-Value}
use Rattle.est_values.specs.declared.value.Value.TheVariants as value
use Rattle.est_values.specs.FittingValues.{KindLayer, first_ordinal, last_ordinal, AscendFrom}
use Rattle.est_values.specs.FittingValues.{AreMembersOf, is_scalar, Fits}
use Rattle.est_values.specs.FittingValues as fitting
use Rattle.mean_blocks.specs.declared.fault.BlockFault.TheVariants.{Range}
use Rattle.mean_blocks.specs.TakenValues.{is_within, are_within, taken}
use Rattle.mean_blocks.proofs.FittingTaken.{taken_fit}
use Rattle.est_meaning.specs.AllowedEvents.{IsSendable}
use Rattle.est_meaning.proofs.RunLaws.{bounded_is_run}
use Rattle.law_values.specs.SentInteractions.{Takes}
use Rattle.law_values.specs.DepartureLaws.{MayBeGiven, WhatIsTakenFits}
use Rattle.law_values.specs.DepartureLaws.{FittingDeparturesAreAllowed}
use Rattle.law_values.specs.DepartureLaws.{GivenDeparturesAreAllowed, ExplainedTracesSend}
use Rattle.law_values.specs.DepartureLaws as given
use Rattle.law_values.proofs.NamedEnds.{both_true}
use Rattle.law_values.proofs.SendingRuns.{runs_send}

undefined_fits : (k : Kind) → is_scalar k ≡ true → Fits k value.Undefined
unfolding out-Value denote.Hole.Carrier.out
undefined_fits k h = fitting.undefined {v = value.Undefined} refl h

-- SETS

le_holds : (a b : ℤ) → int_le a b ≡ true → a ≤ℤ b
le_holds a b h = omega (arith, ints, h)

-- members that ascend, each within a base, are members of it
ascend_within : (base : Kind) (low high : ℤ) (zs : List ℤ) → AscendFrom low high zs
    → list_all (is_within base) zs ≡ true → AscendFrom low (last_ordinal base) zs
ascend_within base low high [] h g = tt
ascend_within base low high (z ∷ zs) h g =
    let a = both_true (is_within base z) (list_all (is_within base) zs) g in
    let b = both_true (int_le (first_ordinal base) z) (int_le z (last_ordinal base)) a.0 in
    (h.0, le_holds z (last_ordinal base) b.1, ascend_within base (z +ℤ pos 1) high zs h.2 a.1)

are_members : (base : Kind) (low high : ℤ) (zs : List ℤ) → AscendFrom low high zs
    → list_all (is_within base) zs ≡ true → AreMembersOf base zs
are_members base low high [] h g = tt
are_members base low high (z ∷ zs) h g =
    let a = both_true (is_within base z) (list_all (is_within base) zs) g in
    let b = both_true (int_le (first_ordinal base) z) (int_le z (last_ordinal base)) a.0 in (
      le_holds (first_ordinal base) z b.0,
      le_holds z (last_ordinal base) b.1,
      ascend_within base (z +ℤ pos 1) high zs h.2 a.1,
    )

set_fits : (k : Kind) (low high : ℤ) (zs : List ℤ) → AscendFrom low high zs
    → Takes k (value.Set zs) → Fits k (value.Set zs)
unfolding out-Value denote.Hole.Carrier.out
set_fits k low high zs h g =
    by (out-Kind k) refl (taken_members (are_within (out-Kind k) zs) g)
  where
    taken_members : (b : Bool) → (if b then Ok (value.Set zs) else Err Range) ≡ Ok (value.Set zs)
        → b ≡ true
    taken_members true e = refl
    taken_members false e = cc

    by : (l : KindLayer) → out-Kind k ≡ l → are_within l zs ≡ true → Fits k (value.Set zs)
    by (seen.SetOf base) e i =
        fitting.set {v = value.Set zs} base zs e refl (are_members base low high zs h i)
    by _ e i = absurd (cc)

-- WHAT IS TAKEN

pub what_is_taken_fits : WhatIsTakenFits
what_is_taken_fits k v (given.undefined e h) g = subst (Fits k) (sym e) (undefined_fits k h)
what_is_taken_fits k v (given.ordinal z e) g =
    taken_fit k z v (subst (λ w. taken k w ≡ Ok v) e g)
what_is_taken_fits k v (given.set low high zs e h) g = subst (Fits k) (sym e)
    (set_fits k low high zs h (subst (λ w. taken k w ≡ Ok w) e g))
what_is_taken_fits k v (given.fitting h) g = h

all_fit : (ks : List Kind) (vs : List Value) → AllZip MayBeGiven ks vs → AllZip Takes ks vs
    → AllZip Fits ks vs
all_fit [] [] h g = tt
all_fit (k ∷ ks) (v ∷ vs) h g = (what_is_taken_fits k v h.0 g.0, all_fit ks vs h.1 g.1)
all_fit [] (v ∷ vs) h g = absurd h
all_fit (k ∷ ks) [] h g = absurd h

-- DEPARTURES

pub fitting_departures_are_allowed : FittingDeparturesAreAllowed
unfolding IsSendable
fitting_departures_are_allowed spec i sent fits = (
  sent.port,
  sent.signal,
  record { port_is = sent.port_is; signal_is = sent.signal_is; fits = fits },
  sent.sends,
)

pub given_departures_are_allowed : GivenDeparturesAreAllowed
given_departures_are_allowed spec i sent h =
    fitting_departures_are_allowed spec i sent (all_fit sent.signal.kinds i.values h sent.values)

pub explained_traces_send : ExplainedTracesSend
explained_traces_send c run sound begun e =
    (runs_send c run e.place sound begun (bounded_is_run c run e.place e.is_run)).departures
