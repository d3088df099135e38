-- How counts go on over several calls.
use Rattle.std.proofs.Common.{◌≡◌, ◌∙◌, ℕ, List, arith, subst}
use Rattle.call_files.specs.FaultCounts.{Rose, GoesOn, AllGoOn, AllStay}

-- a count that is as it was goes on
pub GoesOn-same : {a b : ℕ} → b ≡ a → GoesOn a b
GoesOn-same same = record { never_falls = omega arith; stays_last = λ last. same ∙ last }

-- a count that is as it was at first, and goes on then
pub GoesOn-then : {a b c : ℕ} → b ≡ a → GoesOn b c → GoesOn a c
GoesOn-then same on = record {
  never_falls = omega (arith, on.never_falls);
  stays_last = λ last. on.stays_last (same ∙ last);
}

-- the same of the counts of all names
pub AllGoOn-same : {old new : List ℕ → ℕ} → AllStay old new → AllGoOn old new
AllGoOn-same quiet name = GoesOn-same (quiet name)

pub AllGoOn-then : {old middle new : List ℕ → ℕ} → AllStay old middle → AllGoOn middle new
    → AllGoOn old new
AllGoOn-then quiet on name = GoesOn-then (quiet name) (on name)

-- counts that are as they were over two parts of a call
pub AllStay-then : {old middle new : List ℕ → ℕ} → AllStay old middle → AllStay middle new
    → AllStay old new
AllStay-then first second name = second name ∙ first name

-- a count that rose since, where it was as at first
pub rose_then : {old middle : List ℕ → ℕ} {last : ℕ} → AllStay old middle → (name : List ℕ)
    → Rose (middle name) last → Rose (old name) last
rose_then {last = last} quiet name rose = subst (λ n. Rose n last) (quiet name) rose
