-- Since when transitions with a delay are enabled (ISO 9074, 7: delay-clause; by stamps: profile).
use Rattle.std.specs.Prelude.{ℕ, Bool, false, ◌&&◌, nat_eq, Option, Some, None, is_some, unwrap_or}
use Rattle.std.specs.Prelude.{if◌then◌else◌}
use Rattle.mean_blocks.specs.TextByPlace.{Text}
use Rattle.mean_blocks.specs.GlobalSituation.{Situation, Clocked}
use Rattle.est_meaning.specs.declared.firing.Firing.{Firing}
use Rattle.est_meaning.specs.ClauseContexts.{delay_of}
use Rattle.est_meaning.specs.TransitionChoices.{Choice, is_choice}
use Rattle.est_meaning.specs.TransitionSelection.{is_enabled_choice}

-- the one choice of a transition with a delay, which has no `any` variables
abbrev pub first_choice : Clocked → Firing
first_choice k = record { instance = k.instance; transition = k.transition; choice = 1 }

-- whether a choice has a delay and is enabled
abbrev pub is_waiting : ℕ → Text → Situation → Choice → Bool
is_waiting limit t s c = is_some (delay_of c.transition) && is_enabled_choice limit t s c

-- whether a transition has a delay and is enabled; one of which a part passes its limit is not
abbrev pub is_timed : ℕ → Text → Situation → Clocked → Bool
is_timed limit t s k = is_choice (is_waiting limit t s) t s (first_choice k)

-- whether it is this transition that fired, if one did
abbrev pub is_fired : Option Firing → Clocked → Bool
is_fired None k = false
is_fired (Some f) k = nat_eq f.instance k.instance && nat_eq f.transition k.transition

-- since when a transition is enabled that is so now: from now on where it just fired, or had no
-- stamp; else since then
abbrev pub since : Option Firing → Situation → Clocked → ℕ
since fired s k = if is_fired fired k then s.clock else unwrap_or (s.stamps k) s.clock

-- the stamp of a transition after the start, or after this one fired; one without a delay, or that
-- is not enabled, has none
abbrev pub stamp_after : ℕ → Text → Option Firing → Situation → Clocked → Option ℕ
stamp_after limit t fired s k = if is_timed limit t s k then Some (since fired s k) else None

-- the situation with the stamps that it has then
abbrev pub restamped : ℕ → Text → Option Firing → Situation → Situation
restamped limit t fired s = record s { stamps = stamp_after limit t fired s }
