-- What a transition knows of what it awaits is what would be looked up.
use Rattle.std.proofs.Common.{◌≡◌, refl, sym, ap, ◌∙◌, subst, ℕ, ℤ, false, List, [], map, Some}
use Rattle.std.specs.Prelude.{unwrap_or}
use Rattle.std.specs.Option.{option_map}
use Rattle.est_meaning.specs.rule_scope.Outline.{Outline}
use Rattle.est_meaning.specs.mean_blocks.BlockLevels.{most_levels, site}
use Rattle.est_meaning.specs.mean_blocks.TextByPlace.{Text}
use Rattle.est_meaning.specs.mean_blocks.GlobalSituation.{Frame, Situation}
use Rattle.est_meaning.specs.mean_blocks.InstancePoints.{point}
use Rattle.est_meaning.specs.mean_blocks.NamesInRuns.{declared_at, dims_at}
use Rattle.est_meaning.specs.mean_blocks.WorkingState.{View}
use Rattle.est_meaning.specs.ClauseContexts.{Awaited, FullTransition}
use Rattle.est_meaning.specs.TransitionChoices.{Choice}
use Rattle.est_meaning.specs.GuardParts.{arrived_through, subscripts_of}
use Rattle.plain_transitions.specs.WrittenTransitions.{IsFixed, IsWritten, awaited_of}
use Rattle.plain_transitions.specs.declared.written.Awaits.{Awaits}
use Rattle.plain_transitions.specs.declared.written.Written.{Written}
use Rattle.plain_clauses.specs.declared.sights.Sight.{Sight}
use Rattle.plain_clauses.specs.EvaluatedParts.{held}
use Rattle.plain_clauses.specs.JudgedClauses.{IsKnown, IsBefore, IsArrival, Takes}
use Rattle.plain_clauses.proofs.ArrivalLaws.{at_point}
use Rattle.plain_clauses.proofs.PartLaws.{no_more}

-- WHAT IS KNOWN

pub is_known : (o : Outline) (x : FullTransition) (w : Written) (a : Awaits) → IsWritten o x w
    → w.awaits ≡ Some a → IsKnown o a w
is_known o x w a h e = record {
  fixed = subst (λ y. IsFixed o y w.fixed) (sym h.awaits ∙ ap (option_map awaited_of) e) h.fixed;
  parameters = h.parameters;
}

-- WITHOUT SUBSCRIPTS

pub at_plain_point : (limit : ℕ) (t : Text) (s : Situation) (c : Choice) (w : Awaited) (p : ℕ)
    → declared_at t.outline w.at.name ≡ Some p → (n : ℕ) (before : List Frame)
    → IsBefore n before c → (frames : List Frame) (x : Sight) (zs : List ℤ) → w.at.index ≡ []
    → zs ≡ [] → x.passes ≡ false
    → Takes t.outline (point n p zs) (arrived_through t s w.signal (point n p zs)) before frames x
    → IsArrival limit t s c (Some w) frames x
at_plain_point limit t s c w p here n before b frames x zs none is past h =
    let ks = unwrap_or (dims_at t.outline p) [] in
    let v : View = record {
      site = site t n false most_levels;
      situation = s;
      frames = before;
    } in
    at_point limit t s c w p here n before b v.site refl []
    (sym (ap (λ es. map held (subscripts_of limit ks es v)) none
    ∙ ap (map held) (no_more limit ks v)))
    frames x past zs (ap Some is) h
