-- The tests of ports and signals by which they are looked up are those of the grammar.
use Rattle.std.proofs.Common.{◌≡◌, ℤ, List, [], ◌∷◌, ◌&&◌, refl, ap}
use Rattle.std.specs.Ordering.{int_eq}
use Rattle.est_syntax.specs.declared.kind.Kind.{Kind}
use Rattle.est_syntax.specs.declared.ports.Direction.{Direction}
use Rattle.est_syntax.specs.declared.ports.Direction.TheVariants.{Receives, Sends}
use Rattle.est_syntax.specs.declared.ports.Port.{Port}
use Rattle.est_syntax.specs.declared.ports.Signal.{Signal}
use Rattle.est_values.specs.FittingValues.{first_ordinal}
use Rattle.text_values.specs.TraceGrammar as grammar
use Rattle.est_trace.specs.PortNames as names

pub same_passes : (d : Direction) (x : Signal) → names.passes d x ≡ grammar.passes d x
same_passes Receives x = refl
same_passes Sends x = refl

pub same_some : (d : Direction) (xs : List Signal) → names.some_pass d xs ≡ grammar.some_pass d xs
same_some Receives xs = refl
same_some Sends xs = refl

same_first : (ks : List Kind) (zs : List ℤ) → names.are_first ks zs ≡ grammar.are_first ks zs
same_first [] [] = refl
same_first [] (z ∷ zs) = refl
same_first (k ∷ ks) [] = refl
same_first (k ∷ ks) (z ∷ zs) = ap (λ b. int_eq z (first_ordinal k) && b) (same_first ks zs)

pub same_head : (p : Port) → names.is_head p ≡ grammar.is_head p
same_head p = same_first p.index_kinds p.index
