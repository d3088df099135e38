-- What an evaluation gives: a thing and what it leaves, a fault, or the limit.
--
-- An expression goes from a count of statements to a count, a statement from a state to a state.
use Rattle.std.specs.Prelude.{ℕ, zero, suc, Result, Ok, Err, Option, Some, None}
use Rattle.mean_blocks.specs.declared.fault.BlockFault.{BlockFault}
use Rattle.mean_blocks.specs.declared.fault.BlockFault.TheVariants.{Undefined}

-- What comes of an evaluation that goes on with an S: it gives a thing, or it has a fault (ISO
-- 7185, 3.1: errors), or it passes the limit on statements or on levels of calls.
pub data Outcome (S A : Type 0) : Type 0 where
  Done : A → S → Outcome S A
  Fault : BlockFault → Outcome S A
  Limit : Outcome S A

-- what is evaluated after an outcome, where that is done; its fault or limit is that of the whole
abbrev pub onward : {S A B : Type 0} → Outcome S A → (A → S → Outcome S B) → Outcome S B
onward (Done a s) go = go a s
onward (Fault f) go = Fault f
onward Limit go = Limit

-- one evaluation, and then another that takes what the first gives
infixl 10 ◌>>=◌
abbrev pub ◌>>=◌ : {S A B : Type 0} → (S → Outcome S A) → (A → S → Outcome S B) → S → Outcome S B
m >>= go = λ s. onward (m s) go

-- one evaluation, and then another
infixl 10 ◌>>◌
abbrev pub ◌>>◌ : {S A B : Type 0} → (S → Outcome S A) → (S → Outcome S B) → S → Outcome S B
m >> n = λ s. onward (m s) (λ _. n)

-- a thing, with nothing done
abbrev pub give : {S A : Type 0} → A → S → Outcome S A
give a = λ s. Done a s

-- a fault
abbrev pub fault : {S A : Type 0} → BlockFault → S → Outcome S A
fault f = λ s. Fault f

-- what no specification has that breaks no rule
abbrev pub junk : {S A : Type 0} → S → Outcome S A
junk = λ s. Fault Undefined

-- a thing, or its fault
abbrev pub lift : {S A : Type 0} → Result A BlockFault → S → Outcome S A
lift (Ok a) = give a
lift (Err f) = fault f

-- a thing that each specification has that breaks no rule
abbrev pub known : {S A : Type 0} → Option A → S → Outcome S A
known (Some a) = give a
known None = junk

-- a statement, or the beginning of a turn, counts one of those that are left
abbrev pub counted : ℕ → Outcome ℕ (Unit {0})
counted zero = Limit
counted (suc n) = Done tt n

-- goes on where there is no fault
abbrev pub on_ok : {A B : Type 0} → Result A BlockFault → (A → Result B BlockFault)
    → Result B BlockFault
on_ok (Ok a) go = go a
on_ok (Err f) go = Err f
