-- Interaction points and queues of which a test says that they are one.
use Rattle.std.proofs.Common.{◌≡◌, refl, ap, arith, ℕ, nat_eq, ℤ, ◌&&◌, Bool, true, false, List}
use Rattle.std.specs.Ordering.{int_eq}
use Rattle.std.specs.Cmp.Lexicographic.{pointwise, pointwise_decides}
use Rattle.std.proofs.lemmas.Bool.{eqb-true}
use Rattle.std.proofs.lemmas.Bool.Decides.{nat_tests, Decides-int_eq}
use Rattle.mean_blocks.specs.declared.situation.InteractionPoint.{InteractionPoint}
use Rattle.mean_blocks.specs.GlobalSituation.{is_point, QueueName, Own, Shared}
use Rattle.mean_blocks.specs.GlobalSituation.{is_queue}

both : (a b : Bool) → (a && b) ≡ true → (a ≡ true) × (b ≡ true)
both true true e = (refl, refl)
both true false e = absurd (cc)
both false b e = absurd (cc)

index_decides : (xs ys : List ℤ) → (pointwise int_eq xs ys ≡ true → xs ≡ ys)
    × (xs ≡ ys → pointwise int_eq xs ys ≡ true)
index_decides = pointwise_decides Decides-int_eq

pub point_same : (a b : InteractionPoint) → is_point a b ≡ true → a ≡ b
point_same a b e =
    let p = both (nat_eq a.instance b.instance)
    (nat_eq a.declared b.declared && pointwise int_eq a.index b.index) e in
    let q = both (nat_eq a.declared b.declared) (pointwise int_eq a.index b.index) p.1 in
    let f = eqb-true a.instance b.instance p.0 in
    let g = eqb-true a.declared b.declared q.0 in
    let h = (index_decides a.index b.index).0 q.1 in
    λ i. record { instance = f i; declared = g i; index = h i }

eq_self : (n : ℕ) → nat_eq n n ≡ true
eq_self n = grind (arith, nat_tests)

pub point_self : (a : InteractionPoint) → is_point a a ≡ true
point_self a = rw (eq_self a.instance, eq_self a.declared) ((index_decides a.index a.index).1 refl)

pub queue_same : (a b : QueueName) → is_queue a b ≡ true → a ≡ b
queue_same (Own a) (Own b) e = ap Own (point_same a b e)
queue_same (Own a) (Shared n) e = absurd (cc)
queue_same (Shared m) (Own b) e = absurd (cc)
queue_same (Shared m) (Shared n) e = ap Shared (eqb-true m n e)

pub queue_self : (a : QueueName) → is_queue a a ≡ true
queue_self (Own a) = point_self a
queue_self (Shared n) = eq_self n
