-- How a list in chunks holds its items, so that a type may hold itself through it.
use Rattle.std.specs.Prelude.{ℕ}
use mathlib.Core.Path.{◌≡◌, refl, sym, ap, ◌∙◌}
use mathlib.Core.HLevel.{×_prop}
use mathlib.Core.List.{List, [], ◌∷◌, ◌++◌, map}
use mathlib.Core.Former.{Former, one_more, none_left, this, list, const, pair, via, children}
use base.Stored.{code_map}
use native.Mathlib.Nat.{ℕ_set}
use lib.ListN.{length, length-map}
use denote.RattleType.{RattleType}
use denote.HoleLaws.{Alike}
use denote.HolePlaces.{Recodes, struct_places, laid as placed}
use denote.Hole.Carrier.{listed, list-listed}
use denote.Hole.Fix.{over}
use denote.Param.Weighed.{Weighed, w_list}
use denote.Model.Placed.{view_places, Held, held as held_by}
use Rattle.est_syntax.specs.est_items.formers.items.Items as items
use Rattle.est_syntax.specs.est_items.formers.shared.Shared as shared
use Rattle.est_syntax.specs.est_items.contracts.items.Items as items_type
use Rattle.est_syntax.specs.est_items.contracts.shared.Shared as shared_type
use Rattle.est_values.specs.Laid.{laid, AreFull, IsCounted}
use Rattle.est_values.specs.declared.chunks.Chunks.TheInside.{Inside}
use Rattle.est_values.specs.declared.chunks.Chunks.TheView.{view, invariant}
use Rattle.est_values.specs.contracts.chunks.Chunks as outer
use Rattle.est_values.specs.contracts.chunks.Chunks.TheInside as inner

-- a list in chunks is a list of what its items are
abbrev pub the_former : Former {0} → Former {0}
the_former item = list item

-- and measures as its largest item
abbrev pub the_weighed : {item : Former {0}} → Weighed item → Weighed (the_former item)
the_weighed weight = w_list weight

-- it may hold nothing
pub the_empty : List ⊥
the_empty = []

-- its items in order
abbrev pub the_items : (X : Type 0) → List X → List X
the_items X xs = xs

-- and these are all that it holds
pub the_items_listed : (X : Type 0) (xs : List X)
    → listed _ (children (the_former this) X xs) ≡ the_items X xs
the_items_listed X xs = list-listed X xs

-- the items stand in the full chunks and in the last, beside how many they are
abbrev held : Former {0}
held =
    via (pair (const ℕ) (pair (list (list this)) (list this))) Inside
    (λ X inside. (inside.count, (inside.full, inside.last)))
    (λ X split. record { count = split.0; full = split.1.0; last = split.1.1 })
    (λ X inside. refl) (λ X split. refl)

-- the items of changed chunks are the changed items
laid-map : (X Y : Type 0) (h : X → Y) (xss : List (List X)) (ys : List X)
    → laid (map (map h) xss) (map h ys) ≡ map h (laid xss ys)
laid-map X Y h [] ys = refl
laid-map X Y h (x ∷ xss) ys =
    ap (λ l. map h x ++ l) (laid-map X Y h xss ys) ∙ sym (map-over x (laid xss ys))
  where
    map-over : (xs zs : List X) → map h (xs ++ zs) ≡ map h xs ++ map h zs
    map-over [] zs = refl
    map-over (z ∷ xs) zs = ap (λ l. h z ∷ l) (map-over xs zs)

-- a row with the items of a list before it
abbrev with_list : (X : Type 0) → List X → Held X → Held X
with_list X xs r = ((list this).count ((list this).shape X xs) r.0, (list this).put X xs r.0 r.1)

-- and with those of chunks
abbrev with_chunks : (X : Type 0) → List (List X) → Held X → Held X
with_chunks X xss r = (
  (list (list this)).count ((list (list this)).shape X xss) r.0,
  (list (list this)).put X xss r.0 r.1,
)

-- one more before a row
abbrev with_one : (X : Type 0) → X → Held X → Held X
with_one X x r = (one_more r.0, (x, r.1))

with_both : (X : Type 0) (xs zs : List X) (r : Held X)
    → with_list X (xs ++ zs) r ≡ with_list X xs (with_list X zs r)
with_both X [] zs r = refl
with_both X (x ∷ xs) zs r = ap (with_one X x) (with_both X xs zs r)

-- chunks hold their items in order
with_laid : (X : Type 0) (xss : List (List X)) (ys : List X) (r : Held X)
    → with_list X (laid xss ys) r ≡ with_chunks X xss (with_list X ys r)
with_laid X [] ys r = refl
with_laid X (x ∷ xss) ys r =
    with_both X x (laid xss ys) r ∙ ap (with_list X x) (with_laid X xss ys r)

keeps : (X : Type 0) (a : held.Of X) → held_by (list this) X (view X a) ≡ held_by held X a
keeps X a = with_laid X a.full a.last (none_left, tt)

-- that chunks are full is a fact
full_prop : (X : Type 0) (xss : List (List X)) → IsProp (AreFull xss)
full_prop X [] = λ p q. refl
full_prop X (x ∷ xss) = ×_prop (ℕ_set _ _) (full_prop X xss)

-- which goes along a change
full_to : (X Y : Type 0) (h : X → Y) (xss : List (List X)) → AreFull xss → AreFull (map (map h) xss)
full_to X Y h [] f = f
full_to X Y h (x ∷ xss) f = (length-map x h ∙ f.0, full_to X Y h xss f.1)

-- and back
full_from : (X Y : Type 0) (h : X → Y) (xss : List (List X)) → AreFull (map (map h) xss)
    → AreFull xss
full_from X Y h [] f = f
full_from X Y h (x ∷ xss) f = (sym (length-map x h) ∙ f.0, full_from X Y h xss f.1)

-- changed items are as many
same_count : (X Y : Type 0) (h : X → Y) (xss : List (List X)) (ys : List X)
    → length (laid (map (map h) xss) (map h ys)) ≡ length (laid xss ys)
same_count X Y h xss ys = ap length (laid-map X Y h xss ys) ∙ length-map (laid xss ys) h

-- so that items are counted is a fact, which goes along a change and back
counted_prop : (X : Type 0) (a : held.Of X) → IsProp (IsCounted a.count a.full a.last)
counted_prop X a = ×_prop (full_prop X a.full) (ℕ_set _ _)

counted_to : (X Y : Type 0) (h : X → Y) (n : ℕ) (xss : List (List X)) (ys : List X)
    → IsCounted n xss ys → IsCounted n (map (map h) xss) (map h ys)
counted_to X Y h n xss ys c = (full_to X Y h xss c.0, c.1 ∙ sym (same_count X Y h xss ys))

counted_from : (X Y : Type 0) (h : X → Y) (n : ℕ) (xss : List (List X)) (ys : List X)
    → IsCounted n (map (map h) xss) (map h ys) → IsCounted n xss ys
counted_from X Y h n xss ys c = (full_from X Y h xss c.0, c.1 ∙ same_count X Y h xss ys)

-- the type of a chunk with several owners, and that of several chunks
abbrev chunk_row : RattleType → RattleType
chunk_row One = shared_type.the_row (items_type.the_row One)

abbrev chunks_row : RattleType → RattleType
chunks_row One = shared_type.the_row (items_type.the_row (chunk_row One))

module _ (One Other : RattleType) (change : One.Denot → Other.Denot) where
  chunk_places : Alike One Other change → Alike (chunk_row One) (chunk_row Other) (map change)
  chunk_places alike =
      shared.the_places (items_type.the_row One) (items_type.the_row Other) (map change)
      (items.the_places One Other change alike)

  chunks_places : Alike One Other change
      → Alike (chunks_row One) (chunks_row Other) (map (map change))
  chunks_places alike =
      shared.the_places (items_type.the_row (chunk_row One)) (items_type.the_row (chunk_row Other))
      (map (map change))
      (items.the_places (chunk_row One) (chunk_row Other) (map change)
      (chunk_places alike))

  -- lists whose items lie alike in memory lie alike
  pub the_places : Alike One Other change
      → Alike (outer.the_row One) (outer.the_row Other)
      ((the_former this).map One.Denot Other.Denot change)
  the_places alike =
      view_places held (list this) view (λ X Y h a. laid-map X Y h a.full a.last) keeps
      One.Denot Other.Denot change (outer.the_row One).coded (outer.the_row Other).coded
      (invariant One.Denot) (invariant Other.Denot)
      (counted_prop One.Denot) (counted_prop Other.Denot)
      (λ a. counted_to One.Denot Other.Denot change a.count a.full a.last)
      (λ a. counted_from One.Denot Other.Denot change a.count a.full a.last)
      (over (inner.the_row One)) (over (inner.the_row Other))
      (struct_places (inner.the_type One) (inner.the_type Other)
      ((λ n. n), (map (map change), (map change, tt))) _ (λ d. refl) refl (
        (refl, (λ n. refl, λ n. refl)),
        (placed _ _ _ (chunks_places alike), (placed _ _ _ (chunk_places alike), tt)),
      ))

  -- and a list whose items change into others of the same codes keeps its own code
  pub the_codes_placed : Recodes One Other change
      → Recodes (outer.the_row One) (outer.the_row Other)
      ((the_former this).map One.Denot Other.Denot change)
  the_codes_placed recodes xs =
      sym (code_map One.coded.code Other.coded.code change (λ x. sym (recodes x)) xs)
