-- Whether an interaction point is an external one of the root.
use Rattle.std.proofs.Common.{◌≡◌, refl, sym, ap, ◌∙◌, ℕ, nat_eq, Bool, true, false, [], Some}
use Rattle.std.specs.Prelude.{Result, Ok, Err, IfOk, Option, None, unwrap_or}
use Rattle.std.specs.List.{list_any}
use Rattle.std.specs.Option.{option_map}
use Rattle.plain_queues.specs.mean_blocks.declared.situation.InteractionPoint.{InteractionPoint}
use Rattle.plain_queues.specs.mean_blocks.GlobalSituation.{is_point, Situation}
use Rattle.plain_queues.specs.mean_blocks.InstancePoints.{points_of, header_of}
use Rattle.plain_queues.specs.mean_blocks.OutputEffects.{is_outside}
use Rattle.plain_queues.specs.mean_blocks.TextByPlace.{Text}
use Rattle.plain_queues.specs.mean_blocks.NamesInRuns.{places_of}
use Rattle.plain_points.specs.PointsOfHeaders.{is_at}
use Rattle.plain_points.proofs.DeclaredLaws.{point_elsewhere, point_here}
use Rattle.plain_queues.specs.rule_scope.declared.declaration.Sort.TheVariants as sort

-- no point of another instance is an external one of the root
pub outside_elsewhere : (t : Text) (s : Situation) (p : InteractionPoint)
    → nat_eq p.instance 1 ≡ false → is_outside t s p ≡ false
outside_elsewhere t s p e = by (header_of t.outline s 1)
  where
    by : (h : Option ℕ)
        → list_any (is_point p) (unwrap_or (option_map (points_of t.outline 1) h) []) ≡ false
    by None = refl
    by (Some h) = point_elsewhere t.outline p 1 h e

-- the header of the root says which of its points are external ones
pub outside_here : (t : Text) (s : Situation) (p : InteractionPoint) (h : ℕ)
    → nat_eq p.instance 1 ≡ true → header_of t.outline s 1 ≡ Some h
    → {E : Type 0} (r : Result Bool E)
    → IfOk r (λ b. b ≡ list_any (is_at t.outline p) (places_of t.outline sort.Point h))
    → IfOk r (λ b. b ≡ is_outside t s p)
outside_here t s p h e f (Ok b) g =
    g ∙ sym (ap (λ x. list_any (is_point p) (unwrap_or (option_map (points_of t.outline 1) x) [])) f
    ∙ point_here t.outline p 1 h e)
outside_here t s p h e f (Err x) g = g
