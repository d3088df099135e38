-- How many draws there are.
use Rattle.std.proofs.Common.{◌≡◌, ap, ℕ, ◌+◌, ◌-◌, ◌*◌, ◌<◌, ◌≤◌, ◌^◌, arith}
use Rattle.std.proofs.Common.{inl, inr, length}
use Rattle.std.proofs.Math.Nat.{mul_comm}
use Rattle.std.proofs.lemmas.Nat.{mul-add-lt, mul-le}
use Rattle.run_make.specs.declared.making.Making.{Making}
use Rattle.run_make.specs.inside.Standings.{HasGone}

-- so many blocks were fired at most
abbrev pub most_fired : ℕ → ℕ → ℕ → ℕ
most_fired silent events idle = events * (silent + 1) + idle

-- so many draws are left at most
abbrev pub draws_left : ℕ → ℕ → ℕ → ℕ → ℕ
draws_left silent count events idle = (count - events) * (silent + 1) + (silent - idle)

-- there is room to fire once more
pub fired_room : (silent count events idle many : ℕ) → silent < 2 ^ 32 → count < 2 ^ 32
    → events < count → idle ≤ silent → many ≤ most_fired silent events idle → many < 2 ^ 64 - 1
fired_room silent count events idle many few short less within fired =
    let below : idle < silent + 1 = omega arith in
    let a : events * (silent + 1) + idle < (silent + 1) * count =
    mul-add-lt events (silent + 1) idle count less below in
    let most : silent + 1 ≤ 2 ^ 32 = omega arith in
    let top : count ≤ 2 ^ 32 - 1 = omega arith in
    let b : (silent + 1) * count ≤ 2 ^ 32 * (2 ^ 32 - 1) =
    mul-le (silent + 1) count (2 ^ 32) (2 ^ 32 - 1) most top in
    omega arith

-- a draw keeps the bound on what was fired
pub gone_fired : (silent : ℕ) (old new : Making) (before after : ℕ) → HasGone silent old new
    → old.idle ≤ silent → before ≤ most_fired silent (length old.events) old.idle
    → after ≤ before + 1 → after ≤ most_fired silent (length new.events) new.idle
gone_fired silent old new before after gone within fired once =
    let e = length old.events in
    let n = length new.events in
    elim gone [
      | inl a ↦ (let less = a.0 in
          let below : old.idle < silent + 1 = omega arith in
          let x : e * (silent + 1) + old.idle < (silent + 1) * n =
          mul-add-lt e (silent + 1) old.idle n less below in
          let y : (silent + 1) * n ≡ n * (silent + 1) = mul_comm (silent + 1) n in
          omega arith)
      | inr a ↦ (let same : n * (silent + 1) ≡ e * (silent + 1) = ap (λ m. m * (silent + 1)) a.0 in
          let idle = a.1 in
          omega arith)
    ]

-- and leaves fewer draws
pub gone_fewer : (silent count : ℕ) (old new : Making) → HasGone silent old new
    → old.idle ≤ silent → length old.events < count
    → draws_left silent count (length new.events) new.idle
    < draws_left silent count (length old.events) old.idle
gone_fewer silent count old new gone within short =
    let e = length old.events in
    let n = length new.events in
    elim gone [
      | inl a ↦ (let less = a.0 in
          let fewer : count - n < count - e = omega arith in
          let below : silent - new.idle < silent + 1 = omega arith in
          let x : (count - n) * (silent + 1) + (silent - new.idle) < (silent + 1) * (count - e) =
          mul-add-lt (count - n) (silent + 1) (silent - new.idle) (count - e) fewer below in
          let y : (silent + 1) * (count - e) ≡ (count - e) * (silent + 1) =
          mul_comm (silent + 1) (count - e) in
          omega arith)
      | inr a ↦ (let same : (count - n) * (silent + 1) ≡ (count - e) * (silent + 1) =
          ap (λ m. (count - m) * (silent + 1)) a.0 in
          let idle = a.1 in
          let few = a.2 in
          omega arith)
    ]

-- no draw is idle too often
pub gone_within : (silent : ℕ) (old new : Making) → HasGone silent old new → new.idle ≤ silent
gone_within silent old new gone = elim gone [ inl a ↦ a.1 | inr a ↦ a.2 ]
