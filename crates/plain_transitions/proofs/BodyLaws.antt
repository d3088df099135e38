-- The bodies among parts.
use Rattle.std.proofs.Common.{◌≡◌, refl, sym, ap, ◌∙◌, ℕ, ◌+◌, ◌<◌, List, [], ◌∷◌, ◌++◌}
use Rattle.std.proofs.Common.{append_assoc, length, get_or, drop, Option, Some}
use Rattle.std.proofs.Common.{None}
use Rattle.std.proofs.lemmas.List.{map-append}
use Rattle.std.proofs.lemmas.List.Elements.{filter_map-append}
use Rattle.std.specs.Borrow.{Bor}
use Rattle.std.specs.List.{cons_option, flat_map}
use Rattle.est_syntax.specs.declared.body.Body.{Body, out-Body, is-Body'}
use Rattle.est_syntax.specs.declared.body.Part.TheOpen as seen
use Rattle.est_syntax.specs.declared.body.Part.{Part, Row_of-Part, end_of-Part, more_of-Part}
use Rattle.est_syntax.specs.declared.body.Part.{items-the_row-Part, items_hidden-the_row-Part-0}
use Rattle.est_syntax.specs.declared.body.Part.TheBlock.{hidden-the_row-Part-0}
use Rattle.est_syntax.specs.declared.body.Part.TheVariants as part
use Rattle.est_meaning.specs.mean_blocks.TextByPlace.{PartLayer, parts_within, row_parts, body_in}
use Rattle.plain_transitions.specs.inside.BodyTables.{bodies_held, bodies_in}
use Rattle.plain_transitions.proofs.ListLaws.{drop_next, append_once}

parts_row : (n : _) (row : Row_of-Part n)
    → row_parts row ≡ flat_map parts_within (items-the_row-Part n row)
parts_row n end_of-Part = refl
parts_row n (more_of-Part p rest) = ap (λ l. parts_within p ++ l) (parts_row _ rest)

-- the parts within a body
within_body : (b : Body)
    → parts_within (part.Body b) ≡ part.Body b ∷ flat_map parts_within (out-Body b).parts
within_body b =
    ap (λ x. parts_within (part.Body x)) (is-Body' b)
    ∙ (λ i. part.Body (sym (is-Body' b) i)
    ∷ (parts_row _ (hidden-the_row-Part-0 (out-Body b).parts)
    ∙ ap (flat_map parts_within) (items_hidden-the_row-Part-0 (out-Body b).parts)) i)

layer_body : PartLayer → Option Body
layer_body (seen.Body b) = Some b
layer_body _ = None

body_of : (b : Body) → body_in (part.Body b) ≡ Some b
unfolding layer_body
body_of b = ap layer_body (part.outs-Body b)

bodies_within : (b : Body) → bodies_in (parts_within (part.Body b))
    ≡ b ∷ bodies_in (flat_map parts_within (out-Body b).parts)
bodies_within b =
    ap bodies_in (within_body b)
    ∙ ap (λ o. cons_option o (bodies_in (flat_map parts_within (out-Body b).parts))) (body_of b)

pub body_listed : (p : Part) (b : Body) (old middle new : List Body) (parts : List Part)
    → p ≡ part.Body b → parts ≡ (out-Body b).parts → middle ≡ old ++ b ∷ []
    → new ≡ middle ++ bodies_in (flat_map parts_within parts)
    → new ≡ old ++ bodies_in (parts_within p)
body_listed p b old middle new parts is same h k =
    k ∙ ap (λ l. l ++ bodies_in (flat_map parts_within parts)) h
    ∙ append_once b old (bodies_in (flat_map parts_within parts))
    ∙ ap (λ l. old ++ l) (ap (λ q. b ∷ bodies_in (flat_map parts_within q)) same
    ∙ sym (bodies_within b) ∙ ap (λ q. bodies_in (parts_within q)) (sym is))

pub part_next : (ps : List Part) (i : ℕ) (p : Part) (whole now next : List Body) → i < length ps
    → p ≡ get_or ps i p → now ++ bodies_in (flat_map parts_within (drop i ps)) ≡ whole
    → next ≡ now ++ bodies_in (parts_within p)
    → next ++ bodies_in (flat_map parts_within (drop (i + 1) ps)) ≡ whole
part_next ps i p whole now next within is h k =
    let rest : List Body = bodies_in (flat_map parts_within (drop (i + 1) ps)) in
    ap (λ l. l ++ rest) k ∙ append_assoc now (bodies_in (parts_within p)) rest
    ∙ ap (λ l. now ++ l) (sym (ap (λ l. bodies_in (flat_map parts_within l))
    (drop_next ps i p within is)
    ∙ filter_map-append body_in (parts_within p) (flat_map parts_within (drop (i + 1) ps)))) ∙ h

pub held_push : (bs cs : List (Bor Body)) (b : Bor Body) → cs ≡ bs ++ b ∷ []
    → bodies_held cs ≡ bodies_held bs ++ b.now ∷ []
held_push bs cs b h = ap bodies_held h ∙ map-append (λ (x : Bor Body). x.now) bs (b ∷ [])
