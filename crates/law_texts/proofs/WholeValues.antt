-- What is seen of a whole value is written as the value is.
use Rattle.std.proofs.Common.{◌≡◌, ℕ, List, [], ◌∷◌, length, refl, sym, ap, ap₂, subst, ◌∙◌}
use Rattle.std.proofs.Common.{replicate, Some, slice_get}
use Rattle.std.specs.List.{AllZip}
use Rattle.std.specs.Prelude.{codes}
use Rattle.std.proofs.lemmas.List.{length-map, length-replicate}
use Rattle.est_syntax.specs.declared.kind.Kind.{Kind, out-Kind}
use Rattle.est_syntax.specs.declared.kind.Kind.TheOpen as kinds
use Rattle.est_syntax.specs.declared.kind.FieldKind.{FieldKind}
use Rattle.est_values.specs.declared.value.Value.{Value, out-Value}
use Rattle.est_values.specs.declared.value.Value.TheOpen as values
use Rattle.est_values.specs.FittingValues as fitting
use Rattle.est_values.specs.FittingValues.{Fits, KindLayer, ordinal_count}
use Rattle.est_seen.specs.declared.seen.Seen.{Seen, out-Seen}
use Rattle.est_seen.specs.declared.seen.Seen.TheOpen as opened
use Rattle.est_seen.specs.declared.seen.Seen.TheVariants as seen
use Rattle.est_seen.specs.SeenValues as matching
use Rattle.est_seen.specs.SeenValues.{Matches, MatchEach, HasAny, SomeHasAny, MayFit, first, later}
use Rattle.text_values.specs.TraceGrammar.{field_kinds}
use Rattle.text_values.specs.WrittenLists.{enclosed, paired}
use Rattle.text_values.specs.WrittenSeen.{seen_text}
use Rattle.text_values.specs.WrittenValues as written
use Rattle.text_values.specs.WrittenValues.{value_text}
use Rattle.text_values.proofs.Places.{mapped_at}
use Rattle.text_values.proofs.SeenTexts.{undefined_seen, ordinal_seen, set_seen, group_seen}
use Rattle.text_values.proofs.ValueTexts.{undefined_text, ordinal_is, set_is, group_is}
use Rattle.est_trace.proofs.SeenWholes.{none_within, parts_within}
use Rattle.law_texts.proofs.Lists.{zipped}
use Rattle.law_texts.proofs.SeenValues.{as_many}
use Rattle.law_texts.proofs.Values.{replicated}

-- What is seen of a value that is seen whole: it has the text of the value.
pub record SeenWhole (k : Kind) (v : Value) : Type 0 where
  pub seen : Seen
  pub matches : Matches seen v
  pub whole : HasAny seen → ⊥
  pub text_is : seen_text k seen ≡ value_text k v

-- The same of values one for one.
pub record SeenWholes (ks : List Kind) (vs : List Value) : Type 0 where
  pub seen : List Seen
  pub match : MatchEach seen vs
  pub whole : SomeHasAny seen → ⊥
  pub texts_are : paired seen_text ks seen ≡ paired value_text ks vs

wholes : (ks : List Kind) (vs : List Value) → AllZip SeenWhole ks vs → SeenWholes ks vs
wholes [] [] h = record {
  seen = [];
  match = matching.nothing_seen;
  whole = λ a. elim a [ ];
  texts_are = refl;
}
wholes [] (v ∷ vs) h = absurd h
wholes (k ∷ ks) [] h = absurd h
wholes (k ∷ ks) (v ∷ vs) h =
    let r = wholes ks vs h.1 in
    record {
      seen = h.0.seen ∷ r.seen;
      match = matching.one_more h.0.matches r.match;
      whole = λ a. none h.0.seen r.seen h.0.whole r.whole a;
      texts_are = ap₂ (λ t ts. t ∷ ts) h.0.text_is r.texts_are;
    }
  where
    none : (x : Seen) (xs : List Seen) → (HasAny x → ⊥) → (SomeHasAny xs → ⊥)
        → SomeHasAny (x ∷ xs) → ⊥
    none x xs n m (first a) = n a
    none x xs n m (later a) = m a

-- a group whose parts have these kinds
group_whole : (k : Kind) (v : Value) (ks : List Kind) (vs : List Value)
    → out-Value v ≡ values.Group vs → written.kinds_by (out-Kind k) (length vs) ≡ ks
    → SeenWholes ks vs → SeenWhole k v
group_whole k v ks vs e same r =
    let x = seen.Group r.seen in
    let by = λ (ts : List (List ℕ)). enclosed (codes "(") (codes ")") ts in
    let many : written.kinds_by (out-Kind k) (length r.seen) ≡ ks =
    ap (λ m. written.kinds_by (out-Kind k) m) (as_many r.seen vs r.match) ∙ same in
    record {
      seen = x;
      matches = matching.group r.seen vs (seen.outs-Group r.seen) e r.match;
      whole = λ a. r.whole (parts_within x r.seen (seen.outs-Group r.seen) a);
      text_is = sym (group_seen k x r.seen (seen.outs-Group r.seen))
          ∙ ap (λ js. by (paired seen_text js r.seen)) many ∙ ap by r.texts_are
          ∙ ap (λ js. by (paired value_text js vs)) (sym same) ∙ group_is k v vs e;
    }

pub whole_seen : (k : Kind) (v : Value) → Fits k v → SeenWhole k v
whole_seen k v (fitting.undefined e s) = record {
  seen = seen.Undefined;
  matches = matching.undefined seen.outs-Undefined e;
  whole = none_within seen.Undefined opened.Undefined seen.outs-Undefined (λ q. cc) (λ xs q. cc);
  text_is = sym (undefined_seen k seen.Undefined seen.outs-Undefined) ∙ undefined_text k v e;
}
whole_seen k v (fitting.ordinal z e o) =
    let x = seen.Ordinal z in
    record {
      seen = x;
      matches = matching.ordinal z (seen.outs-Ordinal z) e;
      whole = none_within x (opened.Ordinal z) (seen.outs-Ordinal z) (λ q. cc) (λ xs q. cc);
      text_is = sym (ordinal_seen k x z (seen.outs-Ordinal z)) ∙ ordinal_is k v z e;
    }
whole_seen k v (fitting.set base zs i e m) =
    let x = seen.Set zs in
    record {
      seen = x;
      matches = matching.set zs (seen.outs-Set zs) e;
      whole = none_within x (opened.Set zs) (seen.outs-Set zs) (λ q. cc) (λ xs q. cc);
      text_is = sym (set_seen k x zs (seen.outs-Set zs)) ∙ set_is k v zs e;
    }
whole_seen k v (fitting.array index of parts i e n fits) =
    let ks = replicate (ordinal_count index) of in
    group_whole k v ks parts e
    (ap (λ (l : KindLayer). written.kinds_by l (length parts)) i ∙ ap (λ m. replicate m of) n)
    (wholes ks parts (zipped SeenWhole ks parts
    (length-replicate (ordinal_count index) of ∙ sym n)
    (λ j y part p q. subst (λ (z : Kind). SeenWhole z part)
    (replicated (ordinal_count index) j of y p) (whole_seen of part (fits j part q)))))
whole_seen k v (fitting.fields fs parts i e n fits) =
    let ks = field_kinds fs in
    group_whole k v ks parts e (ap (λ (l : KindLayer). written.kinds_by l (length parts)) i)
    (wholes ks parts (zipped SeenWhole ks parts
    (length-map fs (λ (x : FieldKind). x.kind) ∙ sym n)
    (λ j y part p q. let m = mapped_at (λ (x : FieldKind). x.kind) fs j y p in
    subst (λ (z : Kind). SeenWhole z part) m.2
    (whole_seen m.0.kind part (fits j m.0 part m.1 q)))))

-- values one for one
each_whole : (ks : List Kind) (vs : List Value) → AllZip Fits ks vs → AllZip SeenWhole ks vs
each_whole [] [] h = tt
each_whole [] (v ∷ vs) h = absurd h
each_whole (k ∷ ks) [] h = absurd h
each_whole (k ∷ ks) (v ∷ vs) h = (whole_seen k v h.0, each_whole ks vs h.1)

pub values_seen : (ks : List Kind) (vs : List Value) → AllZip Fits ks vs → SeenWholes ks vs
values_seen ks vs h = wholes ks vs (each_whole ks vs h)

-- what fits and is matched may fit
pub each_may_fit : (ks : List Kind) (xs : List Seen) (vs : List Value) → AllZip Fits ks vs
    → MatchEach xs vs → AllZip MayFit ks xs
each_may_fit [] _ _ h matching.nothing_seen = tt
each_may_fit (k ∷ ks) _ _ h matching.nothing_seen = absurd h
each_may_fit [] _ _ h (matching.one_more m rest) = absurd h
each_may_fit (k ∷ ks) _ _ h (matching.one_more {x = x} {xs} {v} {vs} m rest) =
    ((v, h.0, m), each_may_fit ks xs vs h.1 rest)
