-- How the table of interaction points grows.
use Rattle.std.proofs.Common.{◌≡◌, ℕ, zero, suc, ◌+◌, ◌<◌, ◌≤◌, min, Bool, true, false}
use Rattle.std.proofs.Common.{List, [], ◌∷◌, ◌++◌, map, take, drop, length, refl, sym, ap, ◌∙◌}
use Rattle.std.proofs.Common.{subst, Option, Some, None, slice_get, arith, inl, inr, length-append}
use Rattle.std.proofs.Common.{append_assoc, append-nil, if◌then◌else◌}
use Rattle.std.specs.Prelude.{◌⊎◌, nat_eq, unwrap_or, not}
use Rattle.std.specs.Map.{lookup}
use Rattle.std.proofs.lemmas.Bool.{cases_lt}
use Rattle.std.proofs.lemmas.List.{length-map}
use Rattle.std.proofs.lemmas.List.Concat.{flat_map-append}
use Rattle.std.proofs.lemmas.Option.{same_Some}
use Rattle.std.proofs.lemmas.Slice.Eq.{bytes_eq-Decides}
use Rattle.est_syntax.specs.Names.{is_name}
use Rattle.est_syntax.specs.declared.kind.Kind.{Kind}
use Rattle.est_syntax.specs.declared.ports.Port.{Port}
use Rattle.est_syntax.specs.declared.ports.Signal.{Signal}
use Rattle.rule_scope.specs.declared.declaration.Entry.{Entry}
use Rattle.rule_scope.specs.declared.declaration.Sort.TheVariants as sort
use Rattle.rule_scope.specs.Uses.{same_sort}
use Rattle.rule_declares.specs.rule_kinds.Dims.{dims_elements}
use Rattle.est_syntax.specs.declared.specification.Spec.{Spec}
use Rattle.rule_declares.specs.Bodies.{outline_of}
use Rattle.rule_declares.specs.OutlineLaws.{elements_of, HaveElements, StandOnce}
use Rattle.rule_declares.proofs.Elements.{have_elements}
use Rattle.rule_declares.proofs.Regions.{names_once}
use Rattle.rule_declares.specs.LookUps.{started_header}
use Rattle.rule_scope.specs.declared.declaration.Standing.{Standing}
use Rattle.rule_scope.specs.Outline.{Outline, Region, names_of, entry_at}
use Rattle.rule_declares.specs.Differing.{HaveDifferentNames}
use Rattle.rule_declares.proofs.Names.{IsNew, once_push, once_differ, differ_once}
use Rattle.rule_ports.proofs.CountSteps.{from_here}
use Rattle.rule_ports.specs.declared.known.Sides.{Sides}
use Rattle.rule_ports.specs.declared.table.Elements.{Elements}
use Rattle.rule_declares.specs.OrdinalValues.{tuples_of}
use Rattle.rule_declares.specs.PortList.{element, elements_by, ports_in, header_ports, ports_of}
use Rattle.rule_ports.specs.PortTable.{Points, ports_at, listed, capped, IsTable}
use Rattle.rule_ports.specs.inside.KnownSides.{AreKnown}
use Rattle.rule_ports.specs.inside.Making.{AreNew, IsWith, AreMade, AreMadeTo}
use Rattle.rule_ports.proofs.Capped.{most, capped_sum}
use Rattle.rule_ports.proofs.Counted.{elements_number}
use Rattle.rule_ports.proofs.Tuples.{tuples_number}
use Rattle.rule_ports.proofs.Listing.{within, in_first, in_second}

abbrev Point : Type 0
Point = List ℕ × Elements

abbrev point_name : Point → List ℕ
point_name p = p.0

-- nothing is added
pub with_none : (name : List ℕ) (ps : Points) → IsTable ps → IsWith name [] ps ps
with_none name ps t = record {
  table = t;
  ports_are = sym (append-nil (listed ps));
  no_other = λ other d h. h;
}

-- a name that is not found is new
new_name : (name : List ℕ) (ps : Points) → lookup (is_name name) ps ≡ None
    → IsNew point_name name ps
new_name name [] h = tt
new_name name (x ∷ xs) h = by (is_name name x.0) refl h (new_name name xs)
  where
    by : (b : Bool) → is_name name x.0 ≡ b → (if b then Some x.1 else lookup (is_name name) xs)
        ≡ None → (lookup (is_name name) xs ≡ None → IsNew point_name name xs)
        → IsNew point_name name (x ∷ xs)
    by true e k rest = cc
    by false e k rest =
        (λ q. let same : is_name name x.0 ≡ true = (bytes_eq-Decides name x.0).1 q in cc, rest k)

-- and another name is not found after it was added
pushed : (other : List ℕ) (ps : Points) (x : Point) → (other ≡ x.0 → ⊥)
    → lookup (is_name other) ps ≡ None → lookup (is_name other) (ps ++ x ∷ []) ≡ None
pushed other [] x d h = by (is_name other x.0) refl
  where
    by : (b : Bool) → is_name other x.0 ≡ b → (if b then Some x.1 else None) ≡ None
    by true e = absurd (d ((bytes_eq-Decides other x.0).0 e))
    by false e = refl
pushed other (y ∷ ys) x d h = by (is_name other y.0) h (pushed other ys x d)
  where
    by : (b : Bool) → (if b then Some y.1 else lookup (is_name other) ys) ≡ None
        → (lookup (is_name other) ys ≡ None → lookup (is_name other) (ys ++ x ∷ []) ≡ None)
        → (if b then Some y.1 else lookup (is_name other) (ys ++ x ∷ [])) ≡ None
    by true k rest = cc
    by false k rest = rest k

-- an interaction point is added last
take_first : {A : Type 0} (xs ys : List A) (g : ℕ) → g ≤ length xs → take g (xs ++ ys) ≡ take g xs
take_first [] ys zero l = refl
take_first [] ys (suc g) l = absurd (omega (arith, l))
take_first (x ∷ xs) ys zero l = refl
take_first (x ∷ xs) ys (suc g) l = ap (λ r. x ∷ r) (take_first xs ys g (omega (arith, l)))

take_all : {A : Type 0} (xs : List A) (g : ℕ) → length xs ≤ g → take g xs ≡ xs
take_all [] zero l = refl
take_all [] (suc g) l = refl
take_all (x ∷ xs) zero l = absurd (omega (arith, l))
take_all (x ∷ xs) (suc g) l = ap (λ r. x ∷ r) (take_all xs g (omega (arith, l)))

listed_push : (ps : Points) (x : Point) → listed (ps ++ x ∷ []) ≡ listed ps ++ ports_at x
listed_push ps x = flat_map-append ports_at ps (x ∷ [])
    ∙ ap (λ l. listed ps ++ l) (append-nil (ports_at x))

pub with_point : (ps : Points) (name : List ℕ) (e : Elements) (before elements : ℕ) → IsTable ps
    → lookup (is_name name) ps ≡ None → before ≡ capped (length (listed (take (length ps) ps)))
    → elements ≡ capped (length (tuples_of e.kinds)) → e.until ≡ min (before + elements) most
    → IsWith name (ports_at (name, e)) ps (ps ++ (name, e) ∷ [])
with_point ps name e before elements t fresh b n u = record {
  table = record { totals = totals; different = different };
  ports_are = listed_push ps (name, e);
  no_other = λ other d h. pushed other ps (name, e) d h;
}
  where
    until_is : e.until ≡ capped (length (listed (ps ++ (name, e) ∷ [])))
    until_is =
        u ∙ ap (λ v. min (v + elements) most) b
        ∙ ap (λ v. min (capped (length (listed (take (length ps) ps))) + v) most) n
        ∙ ap (λ v. min (capped (length (listed v)) + capped (length (tuples_of e.kinds))) most)
        (take_all ps (length ps) (omega arith))
        ∙ capped_sum (length (listed ps)) (length (tuples_of e.kinds)) most
        ∙ ap (λ v. capped (length (listed ps) + v))
        (sym (length-map (tuples_of e.kinds) (element name e.kinds e.signals)))
        ∙ ap capped (sym (length-append (listed ps) (ports_at (name, e))))
        ∙ ap (λ v. capped (length v)) (sym (listed_push ps (name, e)))

    totals : (g : ℕ) (p : Point) → slice_get (ps ++ (name, e) ∷ []) g ≡ Some p
        → p.1.until ≡ capped (length (listed (take (suc g) (ps ++ (name, e) ∷ []))))
    totals g p q = by (cases_lt g (length ps))
      where
        by : (g < length ps) ⊎ (length ps ≤ g)
            → p.1.until ≡ capped (length (listed (take (suc g) (ps ++ (name, e) ∷ []))))
        by (inl l) =
            t.totals g p (sym (in_first ps ((name, e) ∷ []) g l) ∙ q)
            ∙ ap (λ v. capped (length (listed v)))
            (sym (take_first ps ((name, e) ∷ []) (suc g) (omega (arith, l))))
        by (inr l) =
            let w = within (ps ++ (name, e) ∷ []) g p q in
            let k = length-append ps ((name, e) ∷ []) in
            let z : length ps + 0 ≡ g = omega (arith, w, k, l) in
            let s : Some (name, e) ≡ Some p =
            sym (in_second ps ((name, e) ∷ []) 0) ∙ ap (slice_get (ps ++ (name, e) ∷ [])) z ∙ q in
            ap (λ (v : Point). v.1.until) (sym (same_Some (name, e) p s)) ∙ until_is
            ∙ ap (λ v. capped (length (listed v))) (sym (take_all (ps ++ (name, e) ∷ []) (suc g)
            (omega (arith, k, l))))

    different : HaveDifferentNames point_name (ps ++ (name, e) ∷ [])
    different = once_differ point_name (ps ++ (name, e) ∷ []) (once_push point_name ps (name, e)
        (differ_once point_name ps t.different) (new_name name ps fresh))

pub added : (ps new : Points) (name : List ℕ) (kinds shared : List Kind) (signals : List Signal)
    (size before elements until : ℕ) → IsTable ps → lookup (is_name name) ps ≡ None
    → size ≡ length ps → before ≡ capped (length (listed (take size ps)))
    → elements ≡ capped (length (tuples_of kinds)) → until ≡ min (before + elements) most
    → shared ≡ kinds
    → new ≡ ps ++ (name, record { kinds = shared; signals = signals; until = until }) ∷ []
    → IsWith name (map (element name kinds signals) (tuples_of kinds)) ps new
added ps new name kinds shared signals size before elements until t fresh z b n u s e =
    let made = λ (ks : List Kind). ps ++ (
      name,
      record {
        kinds = ks;
        signals = signals;
        until = until;
      },
    ) ∷ [] in
    subst (IsWith name (map (element name kinds signals) (tuples_of kinds)) ps)
    (sym (e ∙ ap made s))
    (with_point ps name record { kinds = kinds; signals = signals; until = until } before elements
    t fresh (b ∙ ap (λ (v : ℕ). capped (length (listed (take v ps)))) z) n u)

-- the elements of a declaration
pub not_other : (b : Bool) → false ≡ not b → b ≡ true
not_other true e = refl
not_other false e = cc

pub counted_elements : (e : Entry) (ks : List Kind) → e.elements ≡ elements_of e
    → same_sort sort.Point e.declared.sort ≡ true → e.dims ≡ Some ks
    → e.elements ≡ capped (length (tuples_of ks))
counted_elements e ks h s d =
    h ∙ ap (λ b. if b then dims_elements e.dims else 0) s ∙ ap dims_elements d
    ∙ elements_number ks ∙ ap capped (sym (tuples_number ks))

-- the names of a region, one after the other
none_yet : (names : Region) → AreNew names []
none_yet [] = tt
none_yet (n ∷ ns) = (refl, none_yet ns)

pub made_none : (o : Outline) (names : Region) → AreMadeTo o names 0 [] []
made_none o names = record {
  table = record {
    totals = λ g p e. cc;
    different = λ i j x y e f q. cc;
  };
  ports_are = refl;
  are_new = none_yet names;
  are_known = tt;
}

new_more : (name : List ℕ) (ports : List Port) (ps new : Points) → IsWith name ports ps new
    → (ns : Region) → ((j : ℕ) (n : List ℕ × Standing) → slice_get ns j ≡ Some n → n.0 ≡ name → ⊥)
    → AreNew ns ps → AreNew ns new
new_more name ports ps new w [] d h = tt
new_more name ports ps new w (n ∷ ns) d h =
    (w.no_other n.0 (d 0 n refl) h.0, new_more name ports ps new w ns (λ j. d (suc j)) h.1)

drop_get : {A : Type 0} (xs : List A) (i j : ℕ)
    → slice_get (drop i xs) j ≡ slice_get xs (i + j)
drop_get [] zero j = refl
drop_get [] (suc i) j = refl
drop_get (x ∷ xs) zero j = ap (slice_get (x ∷ xs)) (omega arith)
drop_get (x ∷ xs) (suc i) j =
    let e : suc i + j ≡ suc (i + j) = omega arith in
    drop_get xs i j ∙ ap (slice_get (x ∷ xs)) (sym e)

pub made_fresh : (o : Outline) (names : Region) (i : ℕ) (ps : Points) (known : List (ℕ × Sides))
    (n : List ℕ × Standing) → slice_get names i ≡ Some n → AreMadeTo o names i ps known
    → lookup (is_name n.0) ps ≡ None
made_fresh o names i ps known n e m =
    let h : AreNew (n ∷ drop (suc i) names) ps = subst (λ ns. AreNew ns ps) (from_here names i n e)
    m.are_new in
    h.0

pub made_more : (o : Outline) (names : Region) (i : ℕ) (ps new : Points)
    (known more : List (ℕ × Sides)) (n : List ℕ × Standing) → slice_get names i ≡ Some n
    → HaveDifferentNames (λ (x : List ℕ × Standing). x.0) names
    → IsWith n.0 (elements_by o n.0 (entry_at o n.1.place)) ps new → AreKnown o more
    → AreMadeTo o names i ps known → AreMadeTo o names (i + 1) new more
made_more o names i ps new known more n e d w k m =
    let here = elements_by o n.0 (entry_at o n.1.place) in
    let rest = drop (suc i) names in
    let a : drop i names ≡ n ∷ rest = from_here names i n e in
    let next : suc i ≡ i + 1 = omega arith in
    let h : AreNew (n ∷ rest) ps = subst (λ ns. AreNew ns ps) a m.are_new in
    let other : (j : ℕ) (x : List ℕ × Standing) → slice_get rest j ≡ Some x → x.0 ≡ n.0 → ⊥ =
    λ j x q s. (let same = d i (suc i + j) n x e (sym (drop_get names (suc i) j) ∙ q) (sym s) in
    omega (arith, same)) in
    record {
      table = w.table;
      ports_are = ap (λ l. l ++ ports_in o (drop (i + 1) names)) w.ports_are
          ∙ append_assoc (listed ps) here (ports_in o (drop (i + 1) names))
          ∙ ap (λ s. listed ps ++ (here ++ ports_in o (drop s names))) (sym next)
          ∙ ap (λ l. listed ps ++ ports_in o l) (sym a) ∙ m.ports_are;
      are_new = subst (λ s. AreNew (drop s names) new) next
          (new_more n.0 here ps new w rest other h.1);
      are_known = k;
    }

drop_all : {A : Type 0} (xs : List A) (i : ℕ) → length xs ≤ i → drop i xs ≡ []
drop_all [] zero l = refl
drop_all [] (suc i) l = refl
drop_all (x ∷ xs) zero l = absurd (omega (arith, l))
drop_all (x ∷ xs) (suc i) l = drop_all xs i (omega (arith, l))

pub made_all : (o : Outline) (names : Region) (i : ℕ) (ps : Points) (known : List (ℕ × Sides))
    → length names ≤ i → AreMadeTo o names i ps known → AreMade (ports_in o names) ps
made_all o names i ps known l m = record {
  table = m.table;
  ports_are = sym (append-nil (listed ps))
      ∙ ap (λ ns. listed ps ++ ports_in o ns) (sym (drop_all names i l)) ∙ m.ports_are;
}

pub made_empty : AreMade [] []
made_empty = record {
  table = record {
    totals = λ g p e. cc;
    different = λ i j x y e f q. cc;
  };
  ports_are = refl;
}

-- the outline of a specification
pub elements_along : (o : Outline) (s : Spec) → o ≡ outline_of s → HaveElements o
elements_along o s e = subst HaveElements (sym e) (have_elements s)

pub names_along : (o : Outline) (s : Spec) (header : ℕ) (names : Region) → o ≡ outline_of s
    → Some names ≡ lookup (nat_eq header) o.regions
    → HaveDifferentNames (λ (n : List ℕ × Standing). n.0) names
names_along o s header names e f =
    let h : HaveDifferentNames (λ (n : List ℕ × Standing). n.0) (names_of o header) =
    subst StandOnce (sym e) (names_once s) header in
    subst (HaveDifferentNames (λ (n : List ℕ × Standing). n.0))
    (sym (ap (λ (x : Option Region). unwrap_or x []) f)) h

pub header_is : (o : Outline) (s : Spec) (header : Option ℕ) → o ≡ outline_of s
    → header ≡ started_header o s.first → header_ports o header ≡ ports_of s
unfolding ports_of
header_is o s header e f =
    ap (header_ports o) f ∙ ap (λ x. header_ports x (started_header x s.first)) e

pub header_in : (o : Outline) (s : Spec) (header : ℕ) (x : Option Region) → o ≡ outline_of s
    → Some header ≡ started_header o s.first → x ≡ lookup (nat_eq header) o.regions
    → ports_in o (unwrap_or x []) ≡ ports_of s
header_in o s header x e f g =
    ap (λ y. ports_in o (unwrap_or y [])) g ∙ header_is o s (Some header) e f

pub empty_of : (ps : Points) (xs : List Port) → ps ≡ [] → [] ≡ xs → AreMade xs ps
empty_of ps xs e f = subst (AreMade xs) (sym e) (subst (λ ys. AreMade ys []) f made_empty)
