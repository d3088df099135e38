-- Links that are left where instances are released.
use Rattle.std.proofs.Common.{◌≡◌, refl, sym, ap, ◌∙◌, ℕ, ◌&&◌, ◌||◌, Bool, true, false, cond, not}
use Rattle.std.proofs.Common.{List, [], ◌∷◌, map, Option, Some, None}
use Rattle.std.specs.Prelude.{find, if◌then◌else◌, option_and_then}
use Rattle.std.specs.List.{filter, list_any}
use Rattle.std.specs.Option.{option_map}
use Rattle.std.proofs.lemmas.Option.{same_Some}
use Rattle.plain_texts.specs.mean_blocks.declared.situation.InteractionPoint.{InteractionPoint}
use Rattle.plain_texts.specs.mean_blocks.GlobalSituation.{Map, is_point}
use Rattle.plain_texts.specs.mean_blocks.InstanceEffects.{is_among, point_without, links_without}
use Rattle.plain_systems.specs.declared.system.Link.{Link}
use Rattle.plain_systems.specs.HeldSystems.{is_from, linked}
use Rattle.plain_attachments.specs.LostLinks.{is_lost, is_stray, strays}
use Rattle.plain_systems.proofs.FirstPlaces.{found_passes}
use Rattle.plain_attachments.proofs.LinkLaws.{kept_links, other_way}
use Rattle.plain_systems.proofs.SamePoints.{point_same}

same_tests : (a b : Bool) → (a ≡ true → b ≡ true) → (b ≡ true → a ≡ true) → a ≡ b
same_tests true b f g = sym (f refl)
same_tests false true f g = g refl
same_tests false false f g = refl

abbrev ends : (Link → Bool) → List Link → List InteractionPoint
ends s ls = map (λ (l : Link). l.from) (filter s ls)

abbrev pub is_end : InteractionPoint → List InteractionPoint → Bool
is_end x ps = list_any (λ p. is_point p x) ps

-- an end of a list is that of a link which passes
abbrev HasEnd : (Link → Bool) → InteractionPoint → Type 0
HasEnd s x = (l : Link) × (s l ≡ true) × (is_point l.from x ≡ true)

end_arm : (s : Link → Bool) (x : InteractionPoint) (k : Link) (ks : List Link) (c : Bool)
    → s k ≡ c → (is_end x (ends s ks) ≡ true → HasEnd s x)
    → is_end x (map (λ (l : Link). l.from) (cond c (k ∷ filter s ks) (filter s ks))) ≡ true
    → HasEnd s x
end_arm s x k ks true e later h = here (is_point k.from x) refl h
  where
    here : (d : Bool) → is_point k.from x ≡ d → (d || is_end x (ends s ks)) ≡ true → HasEnd s x
    here true f g = (k, e, f)
    here false f g = later g
end_arm s x k ks false e later h = later h

end_of : (s : Link → Bool) (x : InteractionPoint) (ks : List Link)
    → is_end x (ends s ks) ≡ true → HasEnd s x
end_of s x [] h = absurd (cc)
end_of s x (k ∷ ks) h = end_arm s x k ks (s k) refl (end_of s x ks) h

-- the link that counts has its end there, where it passes
or_right : (a b : Bool) → b ≡ true → (a || b) ≡ true
or_right true b h = refl
or_right false b h = h

found_arm : (s : Link → Bool) (x : InteractionPoint) (l k : Link) (ks : List Link) (c d : Bool)
    → is_point x k.from ≡ c → s k ≡ d → s l ≡ true
    → cond c (Some k) (find (is_from x) ks) ≡ Some l
    → (find (is_from x) ks ≡ Some l → is_end x (ends s ks) ≡ true)
    → is_end x (map (λ (l : Link). l.from) (cond d (k ∷ filter s ks) (filter s ks))) ≡ true
found_arm s x l k ks true true f e p h later =
    ap (λ b. b || is_end x (ends s ks)) (other_way x k.from true f)
found_arm s x l k ks true false f e p h later =
    let n : false ≡ true = sym e ∙ ap s (same_Some k l h) ∙ p in absurd (cc)
found_arm s x l k ks false true f e p h later =
    or_right (is_point k.from x) (is_end x (ends s ks)) (later h)
found_arm s x l k ks false false f e p h later = later h

end_found : (s : Link → Bool) (x : InteractionPoint) (l : Link) (ks : List Link) → s l ≡ true
    → find (is_from x) ks ≡ Some l → is_end x (ends s ks) ≡ true
end_found s x l [] p h = absurd (cc)
end_found s x l (k ∷ ks) p h =
    found_arm s x l k ks (is_point x k.from) (s k) refl refl p h (end_found s x l ks p)

-- a link that leads to what is lost
lost_link : (ns : List ℕ) (o : Option Link)
    → is_lost ns (option_map (λ (l : Link). l.to) o) ≡ true
    → (l : Link) × (o ≡ Some l) × (is_among ns l.to.instance ≡ true)
lost_link ns None h = absurd (cc)
lost_link ns (Some l) h = (l, refl, h)

both_true : (a b : Bool) → a ≡ true → b ≡ true → (a && b) ≡ true
both_true true b e f = f
both_true false b e f = absurd (cc)

second_of : (a b : Bool) → (a && b) ≡ true → b ≡ true
second_of true b e = e
second_of false b e = absurd (cc)

stray_end : (ns : List ℕ) (ls : List Link) (x : InteractionPoint)
    → is_end x (strays ns ls) ≡ is_lost ns (linked ls x)
stray_end ns ls x = same_tests (is_end x (strays ns ls)) (is_lost ns (linked ls x)) there back
  where
    there : is_end x (strays ns ls) ≡ true → is_lost ns (linked ls x) ≡ true
    there h =
        let r = end_of (is_stray ns ls) x ls h in
        ap (λ y. is_lost ns (linked ls y)) (sym (point_same r.0.from x r.2))
        ∙ second_of (is_among ns r.0.to.instance) (is_lost ns (linked ls r.0.from)) r.1

    back : is_lost ns (linked ls x) ≡ true → is_end x (strays ns ls) ≡ true
    back h =
        let r = lost_link ns (find (is_from x) ls) h in
        let same = point_same x r.0.from (found_passes (is_from x) ls r.0 r.1) in
        let lost : is_lost ns (linked ls r.0.from) ≡ true =
        ap (λ y. is_lost ns (linked ls y)) (sym same) ∙ h in
        end_found (is_stray ns ls) x r.0 ls
        (both_true (is_among ns r.0.to.instance) (is_lost ns (linked ls r.0.from)) r.2 lost) r.1

-- what is lost is let go of
let_go : (ns : List ℕ) (o : Option InteractionPoint)
    → (if is_lost ns o then None else o) ≡ option_and_then (point_without ns) o
let_go ns None = refl
let_go ns (Some q) = refl

abbrev pub from_others : List ℕ → Link → Bool
from_others ns l = not (is_among ns l.from.instance)

abbrev pub not_stray : List InteractionPoint → Link → Bool
not_stray ps l = not (is_end l.from ps)

without_strays : (ns : List ℕ) (ls : List Link)
    → linked (filter (not_stray (strays ns ls)) ls)
    ≡ (λ x. option_and_then (point_without ns) (linked ls x))
without_strays ns ls =
    kept_links (λ x. is_end x (strays ns ls)) ls ∙ (λ i x. at x i)
  where
    at : (x : InteractionPoint) → (if is_end x (strays ns ls) then None else linked ls x)
        ≡ option_and_then (point_without ns) (linked ls x)
    at x = ap (λ (b : Bool). if b then None else linked ls x) (stray_end ns ls x)
        ∙ let_go ns (linked ls x)

-- the links of other instances
none_stays : (ns : List ℕ) (b : Bool) (o : Option InteractionPoint)
    → option_and_then (point_without ns) (if b then None else o)
    ≡ (if b then None else option_and_then (point_without ns) o)
none_stays ns true o = refl
none_stays ns false o = refl

pub lost_links : (ns : List ℕ) (ls : List Link)
    → linked (filter (not_stray (strays ns (filter (from_others ns) ls)))
    (filter (from_others ns) ls))
    ≡ links_without ns (linked ls)
lost_links ns ls =
    without_strays ns (filter (from_others ns) ls)
    ∙ ap (λ (m : Map InteractionPoint InteractionPoint). λ x.
    option_and_then (point_without ns) (m x))
    (kept_links (λ (p : InteractionPoint). is_among ns p.instance) ls)
    ∙ (λ i x. none_stays ns (is_among ns x.instance) (linked ls x) i)

pub links_kept : (ns : List ℕ) (ls kept after : List Link) (ps : List InteractionPoint)
    → kept ≡ filter (from_others ns) ls → ps ≡ strays ns kept → after ≡ filter (not_stray ps) kept
    → linked after ≡ links_without ns (linked ls)
links_kept ns ls kept after ps k p a =
    ap linked (a ∙ ap (λ qs. filter (not_stray qs) kept) p)
    ∙ ap (λ (l : List Link). linked (filter (not_stray (strays ns l)) l)) k ∙ lost_links ns ls
