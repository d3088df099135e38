-- A part in an index, with those within it.
use Rattle.std.proofs.Common.{◌≡◌, refl, sym, ap, subst, ◌∙◌, ℕ, ◌+◌, ◌<◌, Bool, cond}
use Rattle.std.proofs.Common.{List, [], ◌∷◌, ◌++◌, length, get_or, take, Option, Some, None}
use Rattle.std.proofs.lemmas.List.{append-nil, take_more}
use Rattle.std.proofs.lemmas.List.Concat.{flat_map-append}
use Rattle.std.specs.List.{cons_option, find, flat_map}
use Rattle.std.specs.Option.{option_or}
use Rattle.est_syntax.specs.declared.body.Body.{Body, out-Body, is-Body'}
use Rattle.est_syntax.specs.declared.body.Part.TheOpen as seen
use Rattle.est_syntax.specs.declared.body.Part.{Part, Row_of-Part, end_of-Part}
use Rattle.est_syntax.specs.declared.body.Part.{more_of-Part}
use Rattle.est_syntax.specs.declared.body.Part.{items-the_row-Part}
use Rattle.est_syntax.specs.declared.body.Part.{items_hidden-the_row-Part-0}
use Rattle.est_syntax.specs.declared.body.Part.TheBlock.{hidden-the_row-Part-0}
use Rattle.est_syntax.specs.declared.body.Part.TheVariants as part
use Rattle.est_syntax.specs.declared.routine.Routine.{Routine}
use Rattle.plain_declared.specs.mean_blocks.TextByPlace.{PartLayer, parts_within, row_parts}
use Rattle.plain_declared.specs.mean_blocks.TextByPlace.{routine_in}
use Rattle.plain_declared.specs.mean_blocks.TextByPlace.{body_in}
use Rattle.plain_texts.specs.declared.indices.Index.{Index}
use Rattle.plain_texts.specs.PartIndices.{found, is_routine, is_body, IsNoted}
use Rattle.plain_texts.proofs.IndexLaws.{or_none, noted_both}

parts_row : (n : _) (row : Row_of-Part n)
    → row_parts row ≡ flat_map parts_within (items-the_row-Part n row)
parts_row n end_of-Part = refl
parts_row n (more_of-Part p rest) = ap (λ l. parts_within p ++ l) (parts_row _ rest)

-- the parts within a body
within_body : (b : Body)
    → parts_within (part.Body b) ≡ part.Body b ∷ flat_map parts_within (out-Body b).parts
within_body b =
    ap (λ x. parts_within (part.Body x)) (is-Body' b)
    ∙ (λ i. part.Body (sym (is-Body' b) i)
    ∷ (parts_row _ (hidden-the_row-Part-0 (out-Body b).parts)
    ∙ ap (flat_map parts_within) (items_hidden-the_row-Part-0 (out-Body b).parts)) i)

-- a routine and a body by themselves
layer_routine : PartLayer → Option Routine
layer_routine (seen.Routine r) = Some r
layer_routine _ = None

layer_body : PartLayer → Option Body
layer_body (seen.Body b) = Some b
layer_body _ = None

routine_of : (r : Routine) → routine_in (part.Routine r) ≡ Some r
unfolding layer_routine
routine_of r = ap layer_routine (part.outs-Routine r)

no_body : (r : Routine) → body_in (part.Routine r) ≡ None
unfolding layer_body
no_body r = ap layer_body (part.outs-Routine r)

body_of : (b : Body) → body_in (part.Body b) ≡ Some b
unfolding layer_body
body_of b = ap layer_body (part.outs-Body b)

no_routine : (b : Body) → routine_in (part.Body b) ≡ None
unfolding layer_routine
no_routine b = ap layer_routine (part.outs-Body b)

-- what stands at a place after one part more, which is this, or is none of these
one_more : {T : Type 0} (test : T → Bool) (o : Option T) (x : T) (before after : Option T)
    → o ≡ Some x → after ≡ option_or before (cond (test x) (Some x) None)
    → after ≡ option_or before (find test (cons_option o []))
one_more test o x before after is h =
    h ∙ ap (λ p. option_or before (find test (cons_option p []))) (sym is)

none_more : {T : Type 0} (test : T → Bool) (o before : Option T) → o ≡ None
    → before ≡ option_or before (find test (cons_option o []))
none_more test o before is = sym (or_none before)
    ∙ ap (λ p. option_or before (find test (cons_option p []))) (sym is)

pub one_routine : (r : Routine) (old new : Index)
    → ((p : ℕ) → found new.routines.entries p
    ≡ option_or (found old.routines.entries p) (cond (is_routine p r) (Some r) None))
    → ((p : ℕ) → found new.bodies.entries p ≡ found old.bodies.entries p)
    → IsNoted (part.Routine r ∷ []) old new
one_routine r old new h k = record {
  routines = λ p. one_more (is_routine p) (routine_in (part.Routine r)) r
      (found old.routines.entries p) (found new.routines.entries p) (routine_of r) (h p);
  bodies = λ p. k p
      ∙ none_more (is_body p) (body_in (part.Routine r)) (found old.bodies.entries p) (no_body r);
}

pub one_body : (b : Body) (old new : Index)
    → ((p : ℕ) → found new.routines.entries p ≡ found old.routines.entries p)
    → ((p : ℕ) → found new.bodies.entries p
    ≡ option_or (found old.bodies.entries p) (cond (is_body p b) (Some b) None))
    → IsNoted (part.Body b ∷ []) old new
one_body b old new h k = record {
  routines = λ p. h p ∙ none_more (is_routine p) (routine_in (part.Body b))
      (found old.routines.entries p) (no_routine b);
  bodies = λ p. one_more (is_body p) (body_in (part.Body b)) b (found old.bodies.entries p)
      (found new.bodies.entries p) (body_of b) (k p);
}

-- a body with those within it
pub body_noted : (p : Part) (b : Body) (old middle new : Index) (parts : List Part)
    → p ≡ part.Body b → parts ≡ (out-Body b).parts → IsNoted (part.Body b ∷ []) old middle
    → IsNoted (flat_map parts_within parts) middle new → IsNoted (parts_within p) old new
body_noted p b old middle new parts is same h rest =
    subst (λ q. IsNoted (parts_within q) old new) (sym is)
    (subst (λ l. IsNoted l old new) (sym (within_body b))
    (noted_both (part.Body b ∷ []) (flat_map parts_within (out-Body b).parts) old middle new h
    (subst (λ l. IsNoted (flat_map parts_within l) middle new) same rest)))

-- a part more
pub noted_more : (ps : List Part) (i : ℕ) (p : Part) (a b c : Index) → i < length ps
    → p ≡ get_or ps i p → IsNoted (flat_map parts_within (take i ps)) a b
    → IsNoted (parts_within p) b c → IsNoted (flat_map parts_within (take (i + 1) ps)) a c
noted_more ps i p a b c within is h k =
    let last : flat_map parts_within (take (i + 1) ps)
    ≡ flat_map parts_within (take i ps) ++ parts_within p =
    ap (flat_map parts_within) (take_more ps i p within
    ∙ ap (λ y. take i ps ++ y ∷ []) (sym is))
    ∙ flat_map-append parts_within (take i ps) (p ∷ [])
    ∙ ap (λ l. flat_map parts_within (take i ps) ++ l) (append-nil (parts_within p))
    in subst (λ l. IsNoted l a c) (sym last)
    (noted_both (flat_map parts_within (take i ps)) (parts_within p) a b c h k)
