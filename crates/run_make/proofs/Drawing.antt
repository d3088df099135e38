-- Values that are drawn one after the other.
use Rattle.std.proofs.Common.{◌≡◌, sym, ap, subst, ◌∙◌, ℕ, zero, suc, ◌+◌, ◌-◌, ◌%◌, ◌<◌}
use Rattle.std.proofs.Common.{arith}
use Rattle.std.proofs.Common.{length, get_or, map, take, replicate}
use Rattle.std.proofs.Common.{ℤ, pos, negsuc, ◌+ℤ◌, ◌≤ℤ◌, IsTrue, List, [], ◌∷◌, ◌++◌}
use Rattle.std.proofs.lemmas.Int.{ints}
use Rattle.std.proofs.lemmas.List.{replicate_more, take_more, map-append}
use Rattle.std.specs.Int.{int_gap}
use Rattle.rand_core.specs.Stream.{Stream}
use Rattle.est_syntax.specs.declared.kind.Kind.{Kind, out-Kind}
use Rattle.est_syntax.specs.declared.kind.Kind.TheVariants as kind
use Rattle.est_syntax.specs.declared.kind.FieldKind.{FieldKind}
use Rattle.est_values.specs.FittingValues.{KindLayer, first_ordinal, ordinal_count}
use Rattle.est_values.specs.declared.value.Value.{Value, out-Value}
use Rattle.est_values.specs.declared.value.Value.TheOpen as seen
use Rattle.est_values.specs.declared.value.Value.TheVariants as value
use Rattle.run_make.specs.Words.{IsDrawn}
use Rattle.run_make.specs.DrawnValues.{ordinal_layer, is_ordinal, DrawsMembers, DrawsValue}
use Rattle.run_make.specs.DrawnValues.{DrawsValues, member, no_member, ordinal, no_ordinal}
use Rattle.run_make.specs.DrawnValues.{no_members, set, array, fields}
use Rattle.run_make.specs.DrawnValues.{value_more, no_values}

-- the number after a negative one
after_negative : (b : ℕ) → negsuc (suc b) +ℤ pos 1 ≡ negsuc b
after_negative b = omega (arith, ints)

-- a number that is below a gap leads no further than the last
pub gap_within : (a b : ℤ) (n : ℕ) → n < int_gap a (b +ℤ pos 1) → (a +ℤ pos n) ≤ℤ b
gap_within (pos a) (pos b) n h = omega (arith, ints, h)
gap_within (pos a) (negsuc zero) n h = omega (arith, ints, h)
gap_within (pos a) (negsuc (suc b)) n h =
    let g : n < 0 = subst (λ z. n < int_gap (pos a) z) (after_negative b) h in absurd (omega arith)
gap_within (negsuc a) (pos b) n h = omega (arith, ints, h)
gap_within (negsuc a) (negsuc zero) n h = omega (arith, ints, h)
gap_within (negsuc a) (negsuc (suc b)) n h =
    let g : n < a - b = subst (λ z. n < int_gap (negsuc a) z) (after_negative b) h in
    omega (arith, ints, g)

-- an ordinal that is drawn
pub ordinal_drawn : (k : Kind) (s t : Stream) (w v n : ℕ) (z : ℤ) → IsTrue (is_ordinal k)
    → IsDrawn s w t → v ≡ w → n ≡ ordinal_count k → 0 < n → z ≡ first_ordinal k +ℤ pos (v % n)
    → DrawsValue k s (value.Ordinal z) t
ordinal_drawn k s t w v n z is drawn same count some at =
    ordinal w is (subst (λ m. 0 < m) count some) drawn
    (value.outs-Ordinal z ∙ ap (λ x. seen.Ordinal x) (at
    ∙ ap (λ m. first_ordinal k +ℤ pos (m % n)) same
    ∙ ap (λ m. first_ordinal k +ℤ pos (w % m)) count))

-- one of a kind without ordinals
pub undefined_drawn : (k : Kind) (s t : Stream) (w n : ℕ) → IsTrue (is_ordinal k) → IsDrawn s w t
    → n ≡ ordinal_count k → n ≡ 0 → DrawsValue k s value.Undefined t
undefined_drawn k s t w n is drawn count none =
    no_ordinal w is (sym count ∙ none) drawn value.outs-Undefined

-- no member yet
pub members_none : (base : Kind) (s : Stream) (zs : List ℤ) → zs ≡ []
    → DrawsMembers base 0 s zs s
members_none base s zs e =
    subst (λ (ys : List ℤ). DrawsMembers base 0 s ys s) (sym e) no_members

-- a member that is drawn
pub member_drawn : (base : Kind) (n : ℕ) (s t u : Stream) (zs ys : List ℤ) (w : ℕ) (z : ℤ)
    → DrawsMembers base n s zs t → IsDrawn t w u → w % 2 ≡ 1
    → z ≡ first_ordinal base +ℤ pos n → ys ≡ zs ++ z ∷ [] → DrawsMembers base (n + 1) s ys u
member_drawn base n s t u zs ys w z before drawn odd at e =
    subst (λ (xs : List ℤ). DrawsMembers base (n + 1) s xs u)
    (sym (e ∙ ap (λ (x : ℤ). zs ++ x ∷ []) at)) (member w before drawn odd)

-- one that is not
pub no_member_drawn : (base : Kind) (n : ℕ) (s t u : Stream) (zs ys : List ℤ) (w : ℕ)
    → DrawsMembers base n s zs t → IsDrawn t w u → (w % 2 ≡ 1 → ⊥) → ys ≡ zs
    → DrawsMembers base (n + 1) s ys u
no_member_drawn base n s t u zs ys w before drawn odd e =
    let even : w % 2 ≡ 0 = omega arith in
    subst (λ (xs : List ℤ). DrawsMembers base (n + 1) s xs u) (sym e)
    (no_member w before drawn even)

-- one value more
pub values_more : {ks : List Kind} {s t u : Stream} {vs : List Value} {k : Kind} {v : Value}
    → DrawsValues ks s vs t → DrawsValue k t v u → DrawsValues (ks ++ k ∷ []) s (vs ++ v ∷ []) u
values_more no_values d = value_more d no_values
values_more (value_more x xs) d = value_more x (values_more xs d)

-- no value yet
pub values_none : (s : Stream) (vs : List Value) → vs ≡ [] → DrawsValues [] s vs s
values_none s vs e = subst (λ (ws : List Value). DrawsValues [] s ws s) (sym e) no_values

-- one component more
pub one_component : (n : ℕ) (of : Kind) (s t u : Stream) (vs ws : List Value) (v : Value)
    → DrawsValues (replicate n of) s vs t → DrawsValue of t v u → ws ≡ vs ++ v ∷ []
    → DrawsValues (replicate (n + 1) of) s ws u
one_component n of s t u vs ws v before d e =
    subst (λ (xs : List Value). DrawsValues (replicate (n + 1) of) s xs u) (sym e)
    (subst (λ (ks : List Kind). DrawsValues ks s (vs ++ v ∷ []) u) (replicate_more n of)
    (values_more before d))

-- the value of one kind more
pub one_value : (ks items : List Kind) (i : ℕ) (k : Kind) (s t u : Stream) (vs ws : List Value)
    (v : Value) → items ≡ ks → i < length items → k ≡ get_or items i k
    → DrawsValues (take i ks) s vs t → DrawsValue k t v u → ws ≡ vs ++ v ∷ []
    → DrawsValues (take (i + 1) ks) s ws u
one_value ks items i k s t u vs ws v same lt at before d e =
    let lt' : i < length ks = subst (λ (l : List Kind). i < length l) same lt in
    let at' : get_or ks i k ≡ k = sym (subst (λ (l : List Kind). k ≡ get_or l i k) same at) in
    subst (λ (xs : List Value). DrawsValues (take (i + 1) ks) s xs u) (sym e)
    (subst (λ (js : List Kind). DrawsValues js s (vs ++ v ∷ []) u)
    (sym (take_more ks i k lt' ∙ ap (λ (x : Kind). take i ks ++ x ∷ []) at'))
    (values_more before d))

-- the kinds of fields
abbrev pub kinds_of : List FieldKind → List Kind
kinds_of fs = map (λ (f : FieldKind). f.kind) fs

-- the value of one field more
pub one_field : (fs items : List FieldKind) (i : ℕ) (f : FieldKind) (s t u : Stream)
    (vs ws : List Value) (v : Value) → items ≡ fs → i < length items → f ≡ get_or items i f
    → DrawsValues (kinds_of (take i fs)) s vs t → DrawsValue f.kind t v u → ws ≡ vs ++ v ∷ []
    → DrawsValues (kinds_of (take (i + 1) fs)) s ws u
one_field fs items i f s t u vs ws v same lt at before d e =
    let lt' : i < length fs = subst (λ (l : List FieldKind). i < length l) same lt in
    let at' : f ≡ get_or fs i f = subst (λ (l : List FieldKind). f ≡ get_or l i f) same at in
    let more : take (i + 1) fs ≡ take i fs ++ f ∷ [] = take_more fs i f lt'
    ∙ ap (λ (x : FieldKind). take i fs ++ x ∷ []) (sym at') in
    let kinds : kinds_of (take (i + 1) fs) ≡ kinds_of (take i fs) ++ f.kind ∷ [] =
    ap kinds_of more ∙ map-append (λ (g : FieldKind). g.kind) (take i fs) (f ∷ []) in
    subst (λ (xs : List Value). DrawsValues (kinds_of (take (i + 1) fs)) s xs u) (sym e)
    (subst (λ (js : List Kind). DrawsValues js s (vs ++ v ∷ []) u) (sym kinds)
    (values_more before d))

-- a set that is drawn
pub set_drawn : (k base given : Kind) (s t : Stream) (zs ws : List ℤ) → k ≡ kind.SetOf base
    → given ≡ base → DrawsMembers given (ordinal_count given) s zs t → ws ≡ zs
    → DrawsValue k s (value.Set ws) t
set_drawn k base given s t zs ws is same d e =
    set base zs (ap out-Kind is ∙ kind.outs-SetOf base)
    (subst (λ (b : Kind). DrawsMembers b (ordinal_count b) s zs t) same d)
    (ap (λ (ys : List ℤ). out-Value (value.Set ys)) e ∙ value.outs-Set zs)

-- an array that is drawn
pub array_drawn : (k index of given held : Kind) (n : ℕ) (s t : Stream) (vs : List Value)
    → k ≡ kind.ArrayOf index of → given ≡ index → held ≡ of → n ≡ ordinal_count given
    → DrawsValues (replicate n held) s vs t → DrawsValue k s (value.Group vs) t
array_drawn k index of given held n s t vs is same alike count d =
    let many : n ≡ ordinal_count index = count ∙ ap ordinal_count same in
    array index of vs (ap out-Kind is ∙ kind.outs-ArrayOf index of)
    (subst (λ m. DrawsValues (replicate m of) s vs t) many
    (subst (λ (j : Kind). DrawsValues (replicate n j) s vs t) alike d)) (value.outs-Group vs)

-- a record that is drawn
pub record_drawn : (k : Kind) (fs given : List FieldKind) (s t : Stream) (vs : List Value)
    → k ≡ kind.Fields fs → given ≡ fs → DrawsValues (kinds_of given) s vs t
    → DrawsValue k s (value.Group vs) t
record_drawn k fs given s t vs is same d =
    fields fs vs (ap out-Kind is ∙ kind.outs-Fields fs)
    (subst (λ (l : List FieldKind). DrawsValues (kinds_of l) s vs t) same d) (value.outs-Group vs)

-- an ordinal kind, by its form
pub ordinal_kind : (k : Kind) (l : KindLayer) → out-Kind k ≡ l → IsTrue (ordinal_layer l)
    → IsTrue (is_ordinal k)
ordinal_kind k l is o = ap ordinal_layer is ∙ o
