-- Faults that are not there.
use Rattle.std.proofs.Common.{◌≡◌, ℕ, List, [], ◌++◌}
use Rattle.est_syntax.specs.Faults.{broken}
use Rattle.est_syntax.specs.declared.rule.Fault.{Fault}
use Rattle.est_syntax.specs.declared.rule.Rule.{Rule}
use Rattle.law_sentences.proofs.NoFaults.{parted}

-- where a rule is broken and nothing is, anything holds
pub not_broken : {X : Type 0} (place : ℕ) (r : Rule) → broken place r ≡ [] → X
not_broken place r h = absurd (some_fault h)
  where
    some_fault : broken place r ≡ [] → ⊥
    some_fault h = cc

-- where three parts break nothing together, none does
pub three : (xs ys zs : List Fault) → xs ++ ys ++ zs ≡ [] → (xs ≡ []) × (ys ≡ []) × (zs ≡ [])
three xs ys zs h =
    let s = parted (xs ++ ys) zs h in
    let t = parted xs ys s.0 in (t.0, t.1, s.1)
