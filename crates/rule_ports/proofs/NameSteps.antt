-- What stands from a number on among the names of a region.
use Rattle.std.proofs.Common.{◌≡◌, ◌+◌, ℕ, suc, arith, List, ◌++◌, drop}
use Rattle.std.proofs.Common.{slice_get, Some, ap, sym, ◌∙◌, append_assoc}
use Rattle.std.specs.Prelude.{flat_map}
use Rattle.rule_ports.proofs.CountSteps.{from_here}

after : (i : ℕ) → suc i ≡ i + 1
after i = omega arith

-- what was gathered grows by what stands here
pub gathered : {X A : Type 0} (f : X → List A) (xs : List X) (i : ℕ) (x : X)
    (old new all : List A) → slice_get xs i ≡ Some x → new ≡ old ++ f x
    → old ++ flat_map f (drop i xs) ≡ all → new ++ flat_map f (drop (i + 1) xs) ≡ all
gathered f xs i x old new all h e g =
    ap (λ l. l ++ flat_map f (drop (i + 1) xs)) e
    ∙ append_assoc old (f x) (flat_map f (drop (i + 1) xs))
    ∙ ap (λ n. old ++ (f x ++ flat_map f (drop n xs))) (sym (after i))
    ∙ ap (λ l. old ++ flat_map f l) (sym (from_here xs i x h)) ∙ g
