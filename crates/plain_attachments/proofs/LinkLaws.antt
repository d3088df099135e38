-- Lists of links that are changed.
use Rattle.std.proofs.Common.{◌≡◌, refl, sym, ap, subst, ◌∙◌, Bool, true, false, cond, not, List}
use Rattle.std.proofs.Common.{[], ◌∷◌, ◌++◌, Option, Some, None}
use Rattle.std.specs.Prelude.{find, if◌then◌else◌}
use Rattle.std.specs.List.{filter}
use Rattle.std.specs.Option.{option_map, option_or}
use Rattle.plain_texts.specs.mean_blocks.declared.situation.InteractionPoint.{InteractionPoint}
use Rattle.plain_texts.specs.mean_blocks.GlobalSituation.{Map, is_point}
use Rattle.plain_texts.specs.mean_blocks.LinkEffects.{with_point}
use Rattle.plain_systems.specs.declared.system.Link.{Link}
use Rattle.plain_systems.specs.HeldSystems.{is_from, linked}
use Rattle.plain_attachments.specs.LinksOfPoints.{link_between}
use Rattle.plain_systems.proofs.FirstPlaces.{found_kept, found_none, found_in_both}
use Rattle.plain_systems.proofs.SamePoints.{point_same, point_self}

abbrev Target : Link → InteractionPoint
Target l = l.to

-- links of which those from some interaction points are left out
kept_at : (t : InteractionPoint → Bool) (x : InteractionPoint) (ls : List Link) (c : Bool)
    → t x ≡ c
    → linked (filter (λ (l : Link). not (t l.from)) ls) x ≡ (if c then None else linked ls x)
kept_at t x ls true e =
    ap (option_map Target) (found_none (λ (l : Link). not (t l.from)) (is_from x) ls
    (λ l h. ap not (ap t (sym (point_same x l.from h)) ∙ e)))
kept_at t x ls false e =
    ap (option_map Target) (found_kept (λ (l : Link). not (t l.from)) (is_from x) ls
    (λ l h. ap not (ap t (sym (point_same x l.from h)) ∙ e)))

pub kept_links : (t : InteractionPoint → Bool) (ls : List Link)
    → linked (filter (λ (l : Link). not (t l.from)) ls)
    ≡ (λ x. if t x then None else linked ls x)
kept_links t ls = λ i x. kept_at t x ls (t x) refl i

-- those from one
pub cut_links : (p : InteractionPoint) (ls : List Link)
    → linked (filter (λ l. not (is_from p l)) ls) ≡ with_point p None (linked ls)
cut_links p ls = kept_links (is_point p) ls

-- a link that is put last
map_or : {A B : Type 0} (f : A → B) (o p : Option A)
    → option_map f (option_or o p) ≡ option_or (option_map f o) (option_map f p)
map_or f None p = refl
map_or f (Some a) p = refl

or_none : {A : Type 0} (o : Option A) → option_or o None ≡ o
or_none None = refl
or_none (Some a) = refl

pub other_way : (p x : InteractionPoint) (c : Bool) → is_point p x ≡ c → is_point x p ≡ c
other_way p x true e = subst (λ y. is_point y p ≡ true) (point_same p x e) (point_self p)
other_way p x false e = apart (is_point x p) refl
  where
    apart : (d : Bool) → is_point x p ≡ d → d ≡ false
    apart true h =
        sym (subst (λ y. is_point p y ≡ true) (sym (point_same x p h)) (point_self p)) ∙ e
    apart false h = refl

last_at : (p q x : InteractionPoint) (ls : List Link) (m : Map InteractionPoint InteractionPoint)
    (c : Bool) → is_point p x ≡ c → linked ls x ≡ (if c then None else m x)
    → linked (ls ++ link_between p q ∷ []) x ≡ (if c then Some q else m x)
last_at p q x ls m true e h =
    ap (option_map Target) (found_in_both (is_from x) ls (link_between p q ∷ []))
    ∙ map_or Target (find (is_from x) ls) (find (is_from x) (link_between p q ∷ []))
    ∙ ap (λ o. option_or o (option_map Target (find (is_from x) (link_between p q ∷ [])))) h
    ∙ ap (λ b. option_map Target (cond b (Some (link_between p q)) None)) (other_way p x true e)
last_at p q x ls m false e h =
    ap (option_map Target) (found_in_both (is_from x) ls (link_between p q ∷ []))
    ∙ map_or Target (find (is_from x) ls) (find (is_from x) (link_between p q ∷ []))
    ∙ ap (λ b. option_or (linked ls x)
    (option_map Target (cond b (Some (link_between p q)) None))) (other_way p x false e)
    ∙ or_none (linked ls x) ∙ h

pub last_link : (p q : InteractionPoint) (ls : List Link)
    (m : Map InteractionPoint InteractionPoint) → linked ls ≡ with_point p None m
    → linked (ls ++ link_between p q ∷ []) ≡ with_point p (Some q) m
last_link p q ls m h =
    λ i x. last_at p q x ls m (is_point p x) refl (ap (λ f. f x) h) i
