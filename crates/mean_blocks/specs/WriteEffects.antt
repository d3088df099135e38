-- Frames that are opened, and variables that are written (ISO 7185, 6.6.3 and 6.8.2.2).
use Rattle.std.specs.Prelude.{ℕ, ◌-◌, ℤ, Bool, List, [], ◌∷◌, ◌++◌, length, take, slice_set}
use Rattle.std.specs.Prelude.{if◌then◌else◌}
use Rattle.est_syntax.specs.declared.expression.Expr.{Expr}
use Rattle.est_syntax.specs.declared.expression.Selector.{Selector}
use Rattle.est_syntax.specs.declared.name.Used.{Used}
use Rattle.est_values.specs.declared.value.Value.{Value}
use Rattle.mean_blocks.specs.declared.frame.Holder.{Holder}
use Rattle.mean_blocks.specs.declared.frame.Holder.TheVariants as holder
use Rattle.mean_blocks.specs.Outcome.{Outcome, Done, ◌>>=◌, ◌>>◌, junk, lift}
use Rattle.mean_blocks.specs.GlobalSituation.{Frame, Situation, with_row}
use Rattle.mean_blocks.specs.Frames.{names_written}
use Rattle.mean_blocks.specs.WorkingState.{State, Site, Does, evaluated}
use Rattle.mean_blocks.specs.ValueOperators.{ordinal}
use Rattle.mean_blocks.specs.ReachedVariables.{Reached, Component}
use Rattle.mean_blocks.specs.ExpressionValues.{value_of, variable_of}

-- what no function does: it is junk there
abbrev pub acts : Bool → Does → Does
acts function m = if function then junk else m

-- the ordinal that an expression yields
abbrev pub ordinal_of : Expr → Site → State → Outcome State ℤ
ordinal_of e site = evaluated site (λ v. value_of e v >>= ordinal)

-- a frame is opened inside all others
abbrev pub opened : Frame → Does
opened f = λ s. Done tt (record s { frames = s.frames ++ f ∷ [] })

-- the innermost frame is closed
abbrev pub closed : Does
closed = λ s. Done tt (record s { frames = take (length s.frames - 1) s.frames })

-- what is done within a frame
abbrev pub framed : Frame → Does → Does
framed f m = opened f >> (m >> closed)

-- an instance has these variables
abbrev pub with_variables : ℕ → Frame → Situation → Situation
with_variables n f s = with_row n (λ r. record r { variables = f }) s

-- a holder has these names; a function writes those of frames alone
abbrev pub given_names : Bool → Holder → Frame → Does
given_names function (holder.Frame n) f =
    λ s. Done tt (record s { frames = slice_set s.frames n f })
given_names function (holder.Instance n) f = acts function
    (λ s. Done tt (record s { situation = with_variables n f s.situation }))

-- a value is written to a variable, which has to take it
abbrev pub stored : Bool → Reached → Value → Does
stored function (Component p k) v = λ s.
    (lift (names_written p k v s.situation s.frames) >>= given_names function p.holder) s
stored function _ v = junk

-- an assignment: the target, the value, the write (ISO 7185, 6.8.2.2, leaves the order open)
abbrev pub assigned : Used → List Selector → Expr → Site → Does
assigned target path e site = do
  r ← evaluated site (variable_of target path)
  v ← evaluated site (value_of e)
  stored site.function r v
