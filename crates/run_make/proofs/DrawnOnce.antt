-- The same words draw the same value.
use Rattle.std.proofs.Common.{◌≡◌, refl, sym, ap, subst, ◌∙◌, ℕ, ◌%◌, arith}
use Rattle.std.proofs.Common.{ℤ, pos, ◌+ℤ◌, false, IsTrue, List, [], ◌∷◌, ◌++◌}
use Rattle.std.proofs.Common.{replicate}
use Rattle.rand_core.specs.Stream.{Stream}
use Rattle.est_syntax.specs.declared.kind.Kind.{Kind, out-Kind}
use Rattle.est_syntax.specs.declared.kind.Kind.TheOpen as seen
use Rattle.est_syntax.specs.declared.kind.FieldKind.{FieldKind}
use Rattle.est_values.specs.FittingValues.{KindLayer, first_ordinal, ordinal_count}
use Rattle.est_values.specs.PartsOfValues.{ValueLayer}
use Rattle.est_values.specs.declared.value.Value.{Value, out-Value, roll-Value}
use Rattle.est_values.specs.declared.value.Value.{roll-out-Value}
use Rattle.est_values.specs.declared.value.Value.TheOpen as open_value
use Rattle.run_make.specs.Words.{IsDrawn}
use Rattle.run_make.specs.DrawnValues.{ordinal_layer, is_ordinal, DrawsMembers, DrawsValue}
use Rattle.run_make.specs.DrawnValues.{DrawsValues}
use Rattle.run_make.specs.DrawnValues as drawn
use Rattle.run_make.proofs.Drawing.{kinds_of}

-- WORDS

pub record SameWord (w v : ℕ) (left more : Stream) : Type 0 where
  pub word : w ≡ v
  pub left_is : left ≡ more

pub word_once : (words : Stream) (w v : ℕ) (left more : Stream) → IsDrawn words w left
    → IsDrawn words v more → SameWord w v left more
word_once words w v left more a b =
    let e : (w, left) ≡ (v, more) = a ∙ sym b in
    record {
      word = ap (λ (p : ℕ × Stream). p.0) e;
      left_is = ap (λ (p : ℕ × Stream). p.1) e;
    }

-- the next word after the same words
word_after : (words others : Stream) (w v : ℕ) (left more : Stream) → words ≡ others
    → IsDrawn words w left → IsDrawn others v more → SameWord w v left more
word_after words others w v left more same a b =
    word_once others w v left more (subst (λ (s : Stream). IsDrawn s w left) same a) b

-- SETS

record SameMembers (zs ys : List ℤ) (t u : Stream) : Type 0 where
  members : zs ≡ ys
  left_is : t ≡ u

members_once : (base : Kind) (n m : ℕ) (s t u : Stream) (zs ys : List ℤ) → n ≡ m
    → DrawsMembers base n s zs t → DrawsMembers base m s ys u → SameMembers zs ys t u
members_once base n m s t u zs ys e drawn.no_members drawn.no_members =
    record { members = refl; left_is = refl }
members_once base n m s t u zs ys e drawn.no_members (drawn.member {n = b} w d is odd) =
    absurd (omega arith)
members_once base n m s t u zs ys e drawn.no_members (drawn.no_member {n = b} w d is even) =
    absurd (omega arith)
members_once base n m s t u zs ys e (drawn.member {n = a} w d is odd) drawn.no_members =
    absurd (omega arith)
members_once base n m s t u zs ys e (drawn.no_member {n = a} w d is even) drawn.no_members =
    absurd (omega arith)
members_once base n m s t u zs ys e
    (drawn.member {n = a} {t = p} {zs = xs} w d is odd)
    (drawn.member {n = b} {t = q} {zs = vs} v f at odd') =
    let same : a ≡ b = omega arith in
    let before = members_once base a b s p q xs vs same d f in
    let last = word_after p q w v t u before.left_is is at in
    record {
      members = (λ i. before.members i ++ (first_ordinal base +ℤ pos (same i)) ∷ []);
      left_is = last.left_is;
    }
members_once base n m s t u zs ys e
    (drawn.no_member {n = a} {t = p} {zs = xs} w d is even)
    (drawn.no_member {n = b} {t = q} {zs = vs} v f at even') =
    let same : a ≡ b = omega arith in
    let before = members_once base a b s p q xs vs same d f in
    let last = word_after p q w v t u before.left_is is at in
    record { members = before.members; left_is = last.left_is }
members_once base n m s t u zs ys e
    (drawn.member {n = a} {t = p} {zs = xs} w d is odd)
    (drawn.no_member {n = b} {t = q} {zs = vs} v f at even) =
    let same : a ≡ b = omega arith in
    let before = members_once base a b s p q xs vs same d f in
    let last = word_after p q w v t u before.left_is is at in
    let word : w ≡ v = last.word in
    absurd (omega arith)
members_once base n m s t u zs ys e
    (drawn.no_member {n = a} {t = p} {zs = xs} w d is even)
    (drawn.member {n = b} {t = q} {zs = vs} v f at odd) =
    let same : a ≡ b = omega arith in
    let before = members_once base a b s p q xs vs same d f in
    let last = word_after p q w v t u before.left_is is at in
    let word : w ≡ v = last.word in
    absurd (omega arith)

-- VALUES

pub record SameValue (v w : Value) (t u : Stream) : Type 0 where
  pub value : v ≡ w
  pub left_is : t ≡ u

pub record SameValues (vs ws : List Value) (t u : Stream) : Type 0 where
  pub values : vs ≡ ws
  pub left_is : t ≡ u

same_form : (v w : Value) (a b : ValueLayer) → out-Value v ≡ a → out-Value w ≡ b → a ≡ b → v ≡ w
same_form v w a b x y e =
    sym (roll-out-Value v) ∙ ap roll-Value (x ∙ e ∙ sym y) ∙ roll-out-Value w

not_ordinal : (k : Kind) (l : KindLayer) → IsTrue (is_ordinal k) → out-Kind k ≡ l
    → ordinal_layer l ≡ false → ⊥
not_ordinal k l is e f =
    let g : ordinal_layer (out-Kind k) ≡ false = ap ordinal_layer e ∙ f in cc

mutual
  pub value_once : (k : Kind) (s t u : Stream) (v w : Value) → DrawsValue k s v t
      → DrawsValue k s w u → SameValue v w t u
  value_once k s t u v w (drawn.ordinal a is some d e) (drawn.ordinal b os more f g) =
      let last = word_once s a b t u d f in
      record {
        value = same_form v w _ _ e g (ap (λ n. open_value.Ordinal (first_ordinal k
            +ℤ pos (n % ordinal_count k))) last.word);
        left_is = last.left_is;
      }
  value_once k s t u v w (drawn.no_ordinal a is none d e) (drawn.no_ordinal b os more f g) =
      let last = word_once s a b t u d f in
      record { value = same_form v w _ _ e g refl; left_is = last.left_is }
  value_once k s t u v w (drawn.ordinal a is some d e) (drawn.no_ordinal b os none f g) =
      absurd (omega arith)
  value_once k s t u v w (drawn.no_ordinal a is none d e) (drawn.ordinal b os some f g) =
      absurd (omega arith)
  value_once k s t u v w (drawn.set base zs ke d e) (drawn.set other ys le f g) =
      let same : base ≡ other = cc in
      let f' : DrawsMembers base (ordinal_count base) s ys u =
      subst (λ (b : Kind). DrawsMembers b (ordinal_count b) s ys u) (sym same) f in
      let both = members_once base (ordinal_count base) (ordinal_count base) s t u zs ys refl d
      f' in
      record {
        value = same_form v w _ _ e g (ap (λ l. open_value.Set l) both.members);
        left_is = both.left_is;
      }
  value_once k s t u v w (drawn.array index of vs ke d e) (drawn.array other held ws le f g) =
      let same : index ≡ other = cc in
      let alike : of ≡ held = cc in
      let f' : DrawsValues (replicate (ordinal_count index) of) s ws u =
      subst (λ (j : Kind). DrawsValues (replicate (ordinal_count index) j) s ws u) (sym alike)
      (subst (λ (j : Kind). DrawsValues (replicate (ordinal_count j) held) s ws u) (sym same) f) in
      let both = values_once (replicate (ordinal_count index) of) s t u vs ws d f' in
      record {
        value = same_form v w _ _ e g (ap (λ l. open_value.Group l) both.values);
        left_is = both.left_is;
      }
  value_once k s t u v w (drawn.fields fs vs ke d e) (drawn.fields gs ws le f g) =
      let same : fs ≡ gs = cc in
      let f' : DrawsValues (kinds_of fs) s ws u =
      subst (λ (l : List FieldKind). DrawsValues (kinds_of l) s ws u) (sym same) f in
      let both = values_once (kinds_of fs) s t u vs ws d f' in
      record {
        value = same_form v w _ _ e g (ap (λ l. open_value.Group l) both.values);
        left_is = both.left_is;
      }
  value_once k s t u v w (drawn.ordinal a is some d e) (drawn.set base zs ke f g) =
      absurd (not_ordinal k (seen.SetOf base) is ke refl)
  value_once k s t u v w (drawn.ordinal a is some d e) (drawn.array index of ws ke f g) =
      absurd (not_ordinal k (seen.ArrayOf index of) is ke refl)
  value_once k s t u v w (drawn.ordinal a is some d e) (drawn.fields fs ws ke f g) =
      absurd (not_ordinal k (seen.Fields fs) is ke refl)
  value_once k s t u v w (drawn.no_ordinal a is none d e) (drawn.set base zs ke f g) =
      absurd (not_ordinal k (seen.SetOf base) is ke refl)
  value_once k s t u v w (drawn.no_ordinal a is none d e) (drawn.array index of ws ke f g) =
      absurd (not_ordinal k (seen.ArrayOf index of) is ke refl)
  value_once k s t u v w (drawn.no_ordinal a is none d e) (drawn.fields fs ws ke f g) =
      absurd (not_ordinal k (seen.Fields fs) is ke refl)
  value_once k s t u v w (drawn.set base zs ke d e) (drawn.ordinal b os some f g) =
      absurd (not_ordinal k (seen.SetOf base) os ke refl)
  value_once k s t u v w (drawn.set base zs ke d e) (drawn.no_ordinal b os none f g) =
      absurd (not_ordinal k (seen.SetOf base) os ke refl)
  value_once k s t u v w (drawn.set base zs ke d e) (drawn.array index of ws le f g) = cc
  value_once k s t u v w (drawn.set base zs ke d e) (drawn.fields fs ws le f g) = cc
  value_once k s t u v w (drawn.array index of vs ke d e) (drawn.ordinal b os some f g) =
      absurd (not_ordinal k (seen.ArrayOf index of) os ke refl)
  value_once k s t u v w (drawn.array index of vs ke d e) (drawn.no_ordinal b os none f g) =
      absurd (not_ordinal k (seen.ArrayOf index of) os ke refl)
  value_once k s t u v w (drawn.array index of vs ke d e) (drawn.set base zs le f g) = cc
  value_once k s t u v w (drawn.array index of vs ke d e) (drawn.fields fs ws le f g) = cc
  value_once k s t u v w (drawn.fields fs vs ke d e) (drawn.ordinal b os some f g) =
      absurd (not_ordinal k (seen.Fields fs) os ke refl)
  value_once k s t u v w (drawn.fields fs vs ke d e) (drawn.no_ordinal b os none f g) =
      absurd (not_ordinal k (seen.Fields fs) os ke refl)
  value_once k s t u v w (drawn.fields fs vs ke d e) (drawn.set base zs le f g) = cc
  value_once k s t u v w (drawn.fields fs vs ke d e) (drawn.array index of ws le f g) = cc

  pub values_once : (ks : List Kind) (s t u : Stream) (vs ws : List Value) → DrawsValues ks s vs t
      → DrawsValues ks s ws u → SameValues vs ws t u
  values_once ks s t u vs ws drawn.no_values drawn.no_values =
      record { values = refl; left_is = refl }
  values_once ks s t u vs ws (drawn.value_more {k = k} {ks = js} {v = v} {vs = xs} {t = p} x d)
      (drawn.value_more {v = w} {vs = ys} {t = q} y f) =
      let first = value_once k s p q v w x y in
      let f' : DrawsValues js p ys u =
      subst (λ (r : Stream). DrawsValues js r ys u) (sym first.left_is) f in
      let rest = values_once js p t u xs ys d f' in
      record {
        values = (λ i. first.value i ∷ rest.values i);
        left_is = rest.left_is;
      }
