-- Repeated statements (ISO 7185, 6.8.3.7 to 6.8.3.9; ISO 9074, all-statement).
use Rattle.std.specs.Prelude.{ℕ, zero, suc, ℤ, pos, negsuc, ◌+ℤ◌, Bool, true, false}
use Rattle.std.specs.Prelude.{List, [], ◌∷◌, Option, Some, None, if◌then◌else◌}
use Rattle.std.specs.Int.{int_gap}
use Rattle.est_syntax.specs.declared.expression.Expr.{Expr}
use Rattle.est_syntax.specs.declared.name.Used.{Used}
use Rattle.est_values.specs.declared.value.Value.TheVariants as value
use Rattle.est_values.specs.OrdinalTuples.{ordinals_of}
use Rattle.mean_blocks.specs.declared.frame.Slot.{Slot}
use Rattle.mean_blocks.specs.declared.frame.Slot.TheVariants as slot
use Rattle.mean_blocks.specs.Outcome.{Outcome, Limit, ◌>>=◌, ◌>>◌, give, junk}
use Rattle.mean_blocks.specs.GlobalSituation.{Frame, lives}
use Rattle.mean_blocks.specs.NamesInRuns.{Head, Variable, Modules, header_at}
use Rattle.mean_blocks.specs.WorkingState.{State, Site, Does, evaluated, enter}
use Rattle.mean_blocks.specs.ValueOperators.{choose}
use Rattle.mean_blocks.specs.FunctionCalls.{bound}
use Rattle.mean_blocks.specs.ExpressionValues.{variable_of}
use Rattle.mean_blocks.specs.InstancePoints.{children_of}
use Rattle.mean_blocks.specs.WriteEffects.{ordinal_of, framed, stored}

-- WHILE AND REPEAT

-- whether a `while` goes on, after the turn for which it does: its condition is evaluated, and then
-- the turn is counted
abbrev pub turn_of : (State → Outcome State ℤ) → Does → State → Outcome State Bool
turn_of condition turn = condition >>= λ z. choose z (enter >> (turn >> give true)) (give false)

-- a `while` of less than n turns: n is more than the statements that are left, of which each turn
-- counts one
abbrev pub turns : ℕ → (State → Outcome State ℤ) → Does → Does
turns zero condition turn = λ s. Limit
turns (suc n) condition turn =
    turn_of condition turn >>= λ more. if more then turns n condition turn else give tt

-- a `repeat` of less than n turns, in the same way: the turn is counted, and the condition is
-- evaluated after the statements
abbrev pub repeats : ℕ → Does → (State → Outcome State ℤ) → Does
repeats zero turn until = λ s. Limit
repeats (suc n) turn until = enter >> turn >>
    (until >>= λ z. choose z (give tt) (repeats n turn until))

-- FOR

-- so many turns, for the ordinals from one on, up or down
abbrev pub counts : ℕ → ℤ → ℤ → (ℤ → Does) → Does
counts zero z step turn = give tt
counts (suc n) z step turn = enter >> turn z >> counts n (z +ℤ step) step turn

-- how many turns there are between two bounds, up or down
abbrev pub distance : Bool → ℤ → ℤ → ℕ
distance false a b = int_gap a (b +ℤ pos 1)
distance true a b = int_gap b (a +ℤ pos 1)

-- the step from one turn to the next, up or down
abbrev pub step : Bool → ℤ
step false = pos 1
step true = negsuc 0

-- A `for`: both bounds, the turns, each with the next value in the variable, which is undefined
-- afterwards, also where there was no turn. A bound outside the variable's range is a fault when
-- its turn comes.
abbrev pub controlled : Used → Expr → Bool → Expr → Does → Site → Does
controlled name first down last turn site = evaluated site (variable_of name []) >>= λ r.
    ordinal_of first site >>= λ a.
    ordinal_of last site >>= λ b.
    counts (distance down a b) a (step down) (λ z. stored site.function r (value.Ordinal z) >> turn)
    >> stored site.function r value.Undefined

-- ALL

-- the frame of an `all`
abbrev pub naming : ℕ → Slot → Frame
naming p x = bound p x ∷ []

-- a turn in which a name stands for this
abbrev pub turn_for : ℕ → Slot → Does → Does
turn_for p x turn = enter >> framed (naming p x) turn

-- a turn for each ordinal, one after the other (for `all` the order is profile)
abbrev pub for_each : ℕ → List ℤ → Does → Does
for_each p [] turn = give tt
for_each p (z ∷ zs) turn = turn_for p (slot.Value (value.Ordinal z)) turn >> for_each p zs turn

-- a turn for a child that lives
abbrev pub for_child : ℕ → ℕ → Does → Does
for_child p n turn = λ s. (if lives s.situation n
    then turn_for p (slot.Instance n) turn else give tt) s

-- a turn for each of these children that lives when its turn comes
abbrev pub for_children : ℕ → List ℕ → Does → Does
for_children p [] turn = give tt
for_children p (n ∷ ns) turn = for_child p n turn >> for_children p ns turn

-- the children of this instance with a header, as they are at entry
abbrev pub over_children : ℕ → Option ℕ → Does → Site → Does
over_children p None turn site = junk
over_children p (Some h) turn site = λ s.
    for_children p (children_of site.text.outline s.situation site.instance h) turn s

-- an `all`, by what its name is
abbrev pub over : Head → Does → Site → Does
over (Variable p k) turn site = for_each p (ordinals_of k) turn
over (Modules p) turn site = over_children p (header_at site.text.outline p) turn site
over _ turn site = junk
