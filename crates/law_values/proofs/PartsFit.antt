-- Parts of values that fit a kind fit the kinds of its components, and may be put in their place.
use Rattle.std.specs.Prelude.{slice_get, slice_set, option_and_then}
use Rattle.std.specs.Option.{option_map}
use Rattle.std.proofs.Common.{◌≡◌, refl, sym, ap, subst, ◌∙◌, ℕ, zero, suc, List, [], ◌∷◌, ◌++◌}
use Rattle.std.proofs.Common.{length, Option, Some, None}
use Rattle.std.proofs.lemmas.Option.{same_Some, none-some}
use Rattle.est_syntax.specs.declared.kind.Kind.{Kind, out-Kind}
use Rattle.est_syntax.specs.declared.kind.FieldKind.{FieldKind}
use Rattle.est_values.specs.declared.value.Value.{Value, out-Value}
use Rattle.est_values.specs.FittingValues.{ordinal_count, Fits}
use Rattle.est_values.specs.PartsOfValues.{parts_of, numbered_part, onward, part_at, put_back}
use Rattle.est_values.specs.PartsOfValues.{changed, with_part}
use Rattle.est_values.specs.declared.value.Value.TheVariants as rolled
use Rattle.est_values.specs.FittingValues as fitting
use Rattle.law_values.specs.KindsOfPlaces.{component_kind, kind_along}

-- WHAT FITS AS A COMPONENT

-- where a value fits a kind, this part of it fits the kind of its component
part_fits_one : (k j : Kind) (v w : Value) (n : ℕ) → Fits k v
    → component_kind n (out-Kind k) ≡ Some j → numbered_part n (parts_of (out-Value v)) ≡ Some w
    → Fits j w
part_fits_one k j v w n (fitting.undefined e s) g h =
    absurd (none-some w (sym (ap (λ l. numbered_part n (parts_of l)) e) ∙ h))
part_fits_one k j v w n (fitting.ordinal z e s) g h =
    absurd (none-some w (sym (ap (λ l. numbered_part n (parts_of l)) e) ∙ h))
part_fits_one k j v w n (fitting.set b zs d e s) g h =
    absurd (none-some w (sym (ap (λ l. numbered_part n (parts_of l)) e) ∙ h))
part_fits_one k j v w n (fitting.array i of ps d e m each) g h =
    subst (λ x. Fits x w) (same_Some of j (sym (ap (component_kind n) d) ∙ g))
    (each n w (sym (ap (λ l. numbered_part n (parts_of l)) e) ∙ h))
part_fits_one k j v w n (fitting.fields fs ps d e m each) g h =
    by (slice_get fs n) refl (sym (ap (component_kind n) d) ∙ g)
  where
    by : (x : Option FieldKind) → slice_get fs n ≡ x
        → option_map (λ (f : FieldKind). f.kind) x ≡ Some j → Fits j w
    by None i q = absurd (none-some j q)
    by (Some f) i q = subst (λ x. Fits x w) (same_Some f.kind j q)
        (each n f w i (sym (ap (λ l. numbered_part n (parts_of l)) e) ∙ h))

pub part_fits : (path : List ℕ) (k j : Kind) (v w : Value) → Fits k v
    → kind_along path k ≡ Some j → part_at path v ≡ Some w → Fits j w
part_fits [] k j v w h g e =
    subst (λ x. Fits x w) (same_Some k j g) (subst (Fits k) (same_Some v w e) h)
part_fits (n ∷ ns) k j v w h g e =
    by (component_kind n (out-Kind k)) refl (numbered_part n (parts_of (out-Value v))) refl g e
    (λ of part i q d f. part_fits ns of j part w (part_fits_one k of v part n h i q) d f)
  where
    by : (x : Option Kind) → component_kind n (out-Kind k) ≡ x → (y : Option Value)
        → numbered_part n (parts_of (out-Value v)) ≡ y
        → option_and_then (kind_along ns) x ≡ Some j → onward y (part_at ns) ≡ Some w
        → ((of : Kind) (part : Value) → component_kind n (out-Kind k) ≡ Some of
        → numbered_part n (parts_of (out-Value v)) ≡ Some part
        → kind_along ns of ≡ Some j → part_at ns part ≡ Some w → Fits j w) → Fits j w
    by None i y q d f go = absurd (none-some j d)
    by (Some of) i None q d f go = absurd (none-some w f)
    by (Some of) i (Some part) q d f go = go of part i q d f

-- PUT BACK

length_set : (xs : List Value) (n : ℕ) (x : Value) → length (slice_set xs n x) ≡ length xs
length_set [] n x = refl
length_set (y ∷ ys) zero x = refl
length_set (y ∷ ys) (suc n) x = ap suc (length_set ys n x)

-- what holds of all parts holds after one is set of which it holds
set_each : (P : ℕ → Value → Type 0) (xs : List Value) (n : ℕ) (x : Value)
    → ((i : ℕ) (y : Value) → slice_get xs i ≡ Some y → P i y) → P n x
    → (i : ℕ) (y : Value) → slice_get (slice_set xs n x) i ≡ Some y → P i y
set_each P [] n x h p i y e = absurd (none-some y e)
set_each P (z ∷ zs) zero x h p zero y e = subst (P 0) (same_Some x y e) p
set_each P (z ∷ zs) zero x h p (suc i) y e = h (suc i) y e
set_each P (z ∷ zs) (suc n) x h p zero y e = h 0 y e
set_each P (z ∷ zs) (suc n) x h p (suc i) y e =
    set_each (λ m. P (suc m)) zs n x (λ m. h (suc m)) p i y e

-- a group with another part fits, where the part fits the kind of its component
put_fits : (k j : Kind) (v w : Value) (ps : List Value) (n : ℕ) → Fits k v
    → component_kind n (out-Kind k) ≡ Some j → parts_of (out-Value v) ≡ Some ps → Fits j w
    → Fits k (rolled.Group (slice_set ps n w))
put_fits k j v w ps n (fitting.undefined e s) g h f =
    absurd (none-some ps (sym (ap parts_of e) ∙ h))
put_fits k j v w ps n (fitting.ordinal z e s) g h f =
    absurd (none-some ps (sym (ap parts_of e) ∙ h))
put_fits k j v w ps n (fitting.set b zs d e s) g h f =
    absurd (none-some ps (sym (ap parts_of e) ∙ h))
put_fits k j v w ps n (fitting.array i of qs d e m each) g h f =
    let s = same_Some qs ps (sym (ap parts_of e) ∙ h) in
    fitting.array i of (slice_set ps n w) d (rolled.outs-Group (slice_set ps n w))
    (length_set ps n w ∙ sym (ap length s) ∙ m)
    (set_each (λ z x. Fits of x) ps n w
    (λ z x q. each z x (ap (λ xs. slice_get xs z) s ∙ q))
    (subst (λ x. Fits x w) (sym (same_Some of j (sym (ap (component_kind n) d) ∙ g))) f))
put_fits k j v w ps n (fitting.fields fs qs d e m each) g h f =
    let s = same_Some qs ps (sym (ap parts_of e) ∙ h) in
    let own = set_each (λ z x. (o : FieldKind) → slice_get fs z ≡ Some o → Fits o.kind x) ps n w
    (λ z x q o i. each z o x i (ap (λ xs. slice_get xs z) s ∙ q))
    (λ o i. subst (λ x. Fits x w) (sym (same_Some o.kind j (sym (ap (option_map
    (λ (f : FieldKind). f.kind)) i) ∙ sym (ap (component_kind n) d) ∙ g))) f) in
    fitting.fields fs (slice_set ps n w) d (rolled.outs-Group (slice_set ps n w))
    (length_set ps n w ∙ sym (ap length s) ∙ m) (λ z o x i q. own z x q o i)

pub with_part_fits : (path : List ℕ) (k j : Kind) (v w y : Value) → Fits k v
    → kind_along path k ≡ Some j → Fits j w → with_part w path v ≡ Some y → Fits k y
with_part_fits [] k j v w y h g f e =
    subst (λ x. Fits x y) (sym (same_Some k j g)) (subst (Fits j) (same_Some w y e) f)
with_part_fits (n ∷ ns) k j v w y h g f e =
    by (component_kind n (out-Kind k)) refl (parts_of (out-Value v)) refl g e
    (λ of ps part i q a d z b. with_part_fits ns of j part w z
    (part_fits_one k of v part n h i (ap (numbered_part n) q ∙ a)) d f b)
  where
    whole : (of : Kind) (ps : List Value) (z : Option Value)
        → component_kind n (out-Kind k) ≡ Some of → parts_of (out-Value v) ≡ Some ps
        → put_back n ps z ≡ Some y
        → ((x : Value) → z ≡ Some x → Fits of x) → Fits k y
    whole of ps None i q b go = absurd (none-some y b)
    whole of ps (Some x) i q b go =
        subst (Fits k) (same_Some (rolled.Group (slice_set ps n x)) y b)
        (put_fits k of v x ps n h i q (go x refl))

    by : (x : Option Kind) → component_kind n (out-Kind k) ≡ x → (p : Option (List Value))
        → parts_of (out-Value v) ≡ p → option_and_then (kind_along ns) x ≡ Some j
        → changed (with_part w ns) n p ≡ Some y
        → ((of : Kind) (ps : List Value) (part : Value) → component_kind n (out-Kind k) ≡ Some of
        → parts_of (out-Value v) ≡ Some ps → slice_get ps n ≡ Some part
        → kind_along ns of ≡ Some j → (z : Value) → with_part w ns part ≡ Some z → Fits of z)
        → Fits k y
    by None i p q d b go = absurd (none-some j d)
    by (Some of) i None q d b go = absurd (none-some y b)
    by (Some of) i (Some ps) q d b go =
        whole of ps (onward (slice_get ps n) (with_part w ns)) i q b
        (λ z m. part_of (slice_get ps n) refl z m)
      where
        part_of : (x : Option Value) → slice_get ps n ≡ x → (z : Value)
            → onward x (with_part w ns) ≡ Some z → Fits of z
        part_of None a z m = absurd (none-some z m)
        part_of (Some part) a z m = go of ps part i q a d z m

-- ONE COMPONENT FURTHER

pub along_more : (path : List ℕ) (n : ℕ) (k j h : Kind) → kind_along path k ≡ Some j
    → component_kind n (out-Kind j) ≡ Some h → kind_along (path ++ n ∷ []) k ≡ Some h
along_more [] n k j h e g =
    ap (option_and_then (kind_along [])) (ap (λ x. component_kind n (out-Kind x))
    (same_Some k j e) ∙ g)
along_more (m ∷ ms) n k j h e g = by (component_kind m (out-Kind k)) refl e
    (λ x d. along_more ms n x j h d g)
  where
    by : (x : Option Kind) → component_kind m (out-Kind k) ≡ x
        → option_and_then (kind_along ms) x ≡ Some j
        → ((y : Kind) → kind_along ms y ≡ Some j → kind_along (ms ++ n ∷ []) y ≡ Some h)
        → option_and_then (kind_along (ms ++ n ∷ [])) (component_kind m (out-Kind k)) ≡ Some h
    by None i d go = absurd (none-some j d)
    by (Some y) i d go = ap (option_and_then (kind_along (ms ++ n ∷ []))) i ∙ go y d
