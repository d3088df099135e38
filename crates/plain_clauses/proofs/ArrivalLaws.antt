-- What a choice sees and takes that awaits an interaction.
use Rattle.std.proofs.Common.{◌≡◌, refl, sym, ap, ◌∙◌, subst, ℕ, ◌+◌, ◌≤◌, true, false}
use Rattle.std.proofs.Common.{List, [], ◌∷◌, ◌++◌, map, append_assoc, append-nil, drop, length}
use Rattle.std.proofs.Common.{Option, Some, None, ℤ, slice_get}
use Rattle.std.proofs.Math.ListN.{drop_of_length-le}
use Rattle.std.specs.Prelude.{option_and_then, unwrap_or}
use Rattle.std.specs.List.{list_any}
use Rattle.std.specs.Option.{option_map, option_map_or}
use Rattle.est_syntax.specs.declared.expression.Expr.{Expr}
use Rattle.est_values.specs.declared.value.Value.{Value}
use Rattle.est_meaning.specs.mean_blocks.declared.frame.Binding.{Binding}
use Rattle.est_meaning.specs.mean_blocks.declared.frame.Slot.TheVariants as slot
use Rattle.est_meaning.specs.mean_blocks.declared.situation.InteractionPoint.{InteractionPoint}
use Rattle.est_meaning.specs.mean_blocks.declared.situation.Item.{Item}
use Rattle.est_meaning.specs.mean_blocks.BlockLevels.{most_levels, site}
use Rattle.est_meaning.specs.mean_blocks.FunctionCalls.{bound}
use Rattle.est_meaning.specs.mean_blocks.TextByPlace.{Text}
use Rattle.est_meaning.specs.mean_blocks.GlobalSituation.{Frame, Situation}
use Rattle.est_meaning.specs.mean_blocks.InstancePoints.{point}
use Rattle.est_meaning.specs.mean_blocks.NamesInRuns.{declared_at, dims_at}
use Rattle.est_meaning.specs.mean_blocks.WorkingState as state
use Rattle.est_meaning.specs.mean_blocks.WorkingState.{View}
use Rattle.est_meaning.specs.ClauseContexts.{Awaited}
use Rattle.est_meaning.specs.TransitionChoices.{Choice, bound_all}
use Rattle.est_meaning.specs.GuardParts.{is_limit, seen_by, subscripts_of, subscripts_at}
use Rattle.est_meaning.specs.GuardParts.{subscripts, point_at, awaited_point, awaited_item}
use Rattle.est_meaning.specs.GuardParts.{arrived_through, parameters_of, frames_of}
use Rattle.plain_queues.proofs.of_plain_systems.FirstFound.{drop_here}
use Rattle.plain_clauses.specs.declared.evaluated.Evaluated.{Evaluated}
use Rattle.plain_clauses.specs.declared.sights.Sight.{Sight}
use Rattle.plain_clauses.specs.EvaluatedParts.{held, is_past, ordinals_held}
use Rattle.plain_clauses.specs.JudgedClauses.{IsBefore, AreFrames, IsPoint, IsArrival, Takes}
use Rattle.plain_clauses.proofs.PartLaws.{pasts_held, ordinals_are}

-- NAMES WITH VALUES

pub one_name_more : (ps : List ℕ) (vs : List Value) (before : Frame) (i p : ℕ) (w : Value)
    (b : Binding) → slice_get ps i ≡ Some p → slice_get vs i ≡ Some w
    → b ≡ bound p (slot.Value w)
    → (before ++ b ∷ []) ++ bound_all (drop (i + 1) ps) (drop (i + 1) vs)
    ≡ before ++ bound_all (drop i ps) (drop i vs)
one_name_more ps vs before i p w b f g h =
    let rest = bound_all (drop (i + 1) ps) (drop (i + 1) vs) in
    append_assoc before (b ∷ []) rest ∙ ap (λ x. before ++ x ∷ rest) h
    ∙ sym (λ j. before ++ bound_all (drop_here ps i p f j) (drop_here vs i w g j))

no_values : (ps : List ℕ) → bound_all ps [] ≡ []
no_values [] = refl
no_values (p ∷ ps) = refl

pub values_end : (ps : List ℕ) (vs : List Value) (before : Frame) (i : ℕ) → drop i vs ≡ []
    → before ++ bound_all (drop i ps) (drop i vs) ≡ before
values_end ps vs before i h =
    ap (λ l. before ++ bound_all (drop i ps) l) h
    ∙ ap (λ f. before ++ f) (no_values (drop i ps)) ∙ append-nil before

pub names_end : (ps : List ℕ) (vs : List Value) (before : Frame) (i : ℕ) → length ps ≤ i
    → before ++ bound_all (drop i ps) (drop i vs) ≡ before
names_end ps vs before i h =
    ap (λ l. before ++ bound_all l (drop i vs)) (drop_of_length-le ps h) ∙ append-nil before

-- WHAT PARTS SEE

-- what the parts of a choice see, where they are evaluated
pub seen_same : (t : Text) (s : Situation) (n : ℕ) (frames : List Frame) (c : Choice)
    (at : state.Site) → at ≡ site t n false most_levels → IsBefore n frames c
    → seen_by t s c (c.chosen ∷ []) ≡ record { site = at; situation = s; frames = frames }
seen_same t s n frames c at h b = λ i. record {
  site = (ap (λ m. site t m false most_levels) b.instance_is ∙ sym h) i;
  situation = s;
  frames = b.frames_are i;
}

-- WHEN

module _ (limit : ℕ) (t : Text) (s : Situation) (c : Choice) (w : Awaited) (p : ℕ)
    (here : declared_at t.outline w.at.name ≡ Some p) where
  subscripts_here : subscripts limit t s c (Some w) ≡ subscripts_at limit t s c w p
  subscripts_here = ap (λ o. option_map_or (subscripts_at limit t s c w) o []) here

  point_here : awaited_point limit t s c w ≡ point_at limit t s c w p
  point_here = ap (option_and_then (point_at limit t s c w)) here

  -- what is held of the subscripts
  module _ (n : ℕ) (frames : List Frame) (b : IsBefore n frames c) (v : View)
      (sees : seen_by t s c (c.chosen ∷ []) ≡ v) (parts : List Evaluated)
      (are : parts ≡ map held
      (subscripts_of limit (unwrap_or (dims_at t.outline p) []) w.at.index v)) where
    held_here : parts ≡ map held (subscripts_at limit t s c w p)
    held_here = are ∙ sym (ap (λ x. map held
        (subscripts_of limit (unwrap_or (dims_at t.outline p) []) w.at.index x)) sees)

    pub past_here : list_any is_past parts ≡ list_any is_limit (subscripts limit t s c (Some w))
    past_here = ap (list_any is_past) held_here ∙ pasts_held (subscripts_at limit t s c w p)
        ∙ sym (ap (list_any is_limit) subscripts_here)

    pub point_is : awaited_point limit t s c w ≡ option_map (point n p) (ordinals_held parts)
    point_is = point_here
        ∙ (λ i. option_map (point (b.instance_is i) p)
        (sym (ordinals_are (subscripts_at limit t s c w p)) i))
        ∙ sym (ap (λ x. option_map (point n p) (ordinals_held x)) held_here)

-- where no point is awaited
pub no_point : (limit : ℕ) (t : Text) (s : Situation) (c : Choice) (w : Awaited)
    (frames : List Frame) (x : Sight) → awaited_point limit t s c w ≡ None → x.holds ≡ false
    → x.passes ≡ list_any is_limit (subscripts limit t s c (Some w))
    → IsArrival limit t s c (Some w) frames x
no_point limit t s c w frames x h k p = record {
  frames_are = subst (AreFrames (frames_of limit t s c (Some w)) frames) (sym k)
      (ap (λ o. option_map (λ i. c.chosen ∷ parameters_of t.outline i ∷ [])
      (option_and_then (arrived_through t s w.signal) o)) h);
  point_is = subst (IsPoint (awaited_point limit t s c w) x.taken) (sym k) tt;
  passes_is = p;
}

-- where one is
taken_by : (limit : ℕ) (t : Text) (s : Situation) (c : Choice) (w : Awaited) (p : InteractionPoint)
    (before frames : List Frame) (x : Sight) (o : Option Item) → awaited_item limit t s c w ≡ o
    → awaited_point limit t s c w ≡ Some p → c.chosen ∷ [] ≡ before
    → x.passes ≡ list_any is_limit (subscripts limit t s c (Some w))
    → Takes t.outline p o before frames x → IsArrival limit t s c (Some w) frames x
taken_by limit t s c w p before frames x None e at b k h = record {
  frames_are = subst (AreFrames (frames_of limit t s c (Some w)) frames) (sym h)
      (ap (option_map (λ i. c.chosen ∷ parameters_of t.outline i ∷ [])) e);
  point_is = subst (IsPoint (awaited_point limit t s c w) x.taken) (sym h) tt;
  passes_is = k;
}
taken_by limit t s c w p before frames x (Some i) e at b k h = record {
  frames_are = subst (AreFrames (frames_of limit t s c (Some w)) frames) (sym h.0)
      (ap (option_map (λ j. c.chosen ∷ parameters_of t.outline j ∷ [])) e
      ∙ ap (λ fs. Some (fs ++ parameters_of t.outline i ∷ [])) b ∙ ap Some (sym h.1.1));
  point_is = subst (IsPoint (awaited_point limit t s c w) x.taken) (sym h.0) (h.1.0 ∙ sym at);
  passes_is = k;
}

pub taken_here : (limit : ℕ) (t : Text) (s : Situation) (c : Choice) (w : Awaited)
    (p : InteractionPoint) (before frames : List Frame) (x : Sight)
    → awaited_point limit t s c w ≡ Some p → c.chosen ∷ [] ≡ before
    → x.passes ≡ list_any is_limit (subscripts limit t s c (Some w))
    → Takes t.outline p (arrived_through t s w.signal p) before frames x
    → IsArrival limit t s c (Some w) frames x
taken_here limit t s c w p before frames x at b k h =
    taken_by limit t s c w p before frames x (arrived_through t s w.signal p)
    (ap (option_and_then (arrived_through t s w.signal)) at) at b k h

-- WHAT IS SEEN AND TAKEN

-- without a `when`
pub awaits_none : (limit : ℕ) (t : Text) (s : Situation) (c : Choice) (n : ℕ)
    (frames : List Frame) (x : Sight) → IsBefore n frames c → x.holds ≡ true → x.taken ≡ None
    → x.passes ≡ false → IsArrival limit t s c None frames x
awaits_none limit t s c n frames x b h k p = record {
  frames_are = subst (AreFrames (Some (c.chosen ∷ [])) frames) (sym h) (ap Some b.frames_are);
  point_is = subst (IsPoint None x.taken) (sym h) k;
  passes_is = p;
}

-- where no point is declared
pub undeclared : (limit : ℕ) (t : Text) (s : Situation) (c : Choice) (w : Awaited)
    (frames : List Frame) (x : Sight) → None ≡ declared_at t.outline w.at.name
    → x.holds ≡ false → x.passes ≡ false → IsArrival limit t s c (Some w) frames x
undeclared limit t s c w frames x e h p =
    no_point limit t s c w frames x
    (ap (option_and_then (point_at limit t s c w)) (sym e)) h
    (p ∙ ap (λ o. list_any is_limit (option_map_or (subscripts_at limit t s c w) o [])) e)

-- the subscripts of an equal text
pub parts_are : (limit : ℕ) (t u : Text) (p : ℕ) (es fs : List Expr) (v : View)
    (parts : List Evaluated) → u ≡ t → fs ≡ es
    → parts ≡ map held (subscripts_of limit (unwrap_or (dims_at u.outline p) []) fs v)
    → parts ≡ map held (subscripts_of limit (unwrap_or (dims_at t.outline p) []) es v)
parts_are limit t u p es fs v parts e f h =
    h ∙ λ i. map held (subscripts_of limit (unwrap_or (dims_at (e i).outline p) []) (f i) v)

-- where one is
module _ (limit : ℕ) (t : Text) (s : Situation) (c : Choice) (w : Awaited) (p : ℕ)
    (here : declared_at t.outline w.at.name ≡ Some p) (n : ℕ) (before : List Frame)
    (b : IsBefore n before c) (at : state.Site) (site_is : at ≡ site t n false most_levels)
    (parts : List Evaluated) (are : parts ≡ map held
    (subscripts_of limit (unwrap_or (dims_at t.outline p) []) w.at.index
    (record { site = at; situation = s; frames = before }))) (frames : List Frame) (x : Sight)
    (past : x.passes ≡ list_any is_past parts) where
  is_past_here : x.passes ≡ list_any is_limit (subscripts limit t s c (Some w))
  is_past_here = past ∙ past_here limit t s c w p here n before b
      (record { site = at; situation = s; frames = before })
      (seen_same t s n before c at site_is b) parts are

  is_point_here : (o : Option (List ℤ)) → o ≡ ordinals_held parts
      → awaited_point limit t s c w ≡ option_map (point n p) o
  is_point_here o h = point_is limit t s c w p here n before b
      (record { site = at; situation = s; frames = before })
      (seen_same t s n before c at site_is b) parts are ∙ ap (option_map (point n p)) (sym h)

  pub no_subscripts : None ≡ ordinals_held parts → x.holds ≡ false
      → IsArrival limit t s c (Some w) frames x
  no_subscripts e h = no_point limit t s c w frames x (is_point_here None e) h is_past_here

  pub at_point : (zs : List ℤ) → Some zs ≡ ordinals_held parts
      → Takes t.outline (point n p zs) (arrived_through t s w.signal (point n p zs)) before frames x
      → IsArrival limit t s c (Some w) frames x
  at_point zs e h = taken_here limit t s c w (point n p zs) before frames x
      (is_point_here (Some zs) e) b.frames_are is_past_here h
