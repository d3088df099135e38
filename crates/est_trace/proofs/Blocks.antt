-- Ports that are the elements of arrays of different names, one array after the other.
use Rattle.std.proofs.Common.{◌≡◌, ℕ, suc, ◌+◌, ◌<◌, ◌≤◌, ℤ, List, map, length, true, refl, sym}
use Rattle.std.proofs.Common.{ap, ◌∙◌, subst, arith, Some, slice_get, inl, inr}
use Rattle.std.specs.Prelude.{flat_map, ◌⊎◌}
use Rattle.std.specs.List.{AllZip}
use Rattle.std.proofs.lemmas.Bool.{cases_lt}
use Rattle.std.proofs.lemmas.List.{length-map}
use Rattle.std.proofs.lemmas.Option.{same_Some}
use Rattle.est_syntax.specs.declared.kind.Kind.{Kind}
use Rattle.est_syntax.specs.declared.ports.Port.{Port}
use Rattle.est_syntax.specs.declared.ports.Signal.{Signal}
use Rattle.est_values.specs.FittingValues.{IsOrdinalOf}
use Rattle.est_meaning.specs.rule_declares.Differing.{HaveDifferentNames}
use Rattle.est_meaning.specs.rule_declares.OrdinalValues.{tuples_of}
use Rattle.est_meaning.specs.rule_declares.PortList.{element}
use Rattle.rule_ports.proofs.Listing.{within, mapped, ahead, ahead_suc, ahead_more, flat_get}
use Rattle.rule_ports.proofs.Listing.{flat_place}
use Rattle.rule_ports.proofs.Ranks.{unmapped}
use Rattle.est_trace.specs.PortNames.{is_head, width, StartsName, GoodPorts}
use Rattle.est_trace.specs.PortNames.{signal_name, IsOtherElement}
use Rattle.est_trace.proofs.Tuples.{ahead_none, tuple_there, firsts, are_firsts}
use Rattle.est_trace.proofs.Tuples.{first_there, first_place, first_at}

-- an array of ports
pub record Block : Type 0 where
  pub name : List ℕ
  pub kinds : List Kind
  pub signals : List Signal

abbrev pub of : Block → List ℤ → Port
of b t = element b.name b.kinds b.signals t

abbrev pub elements : Block → List Port
elements b = map (of b) (tuples_of b.kinds)

-- what makes arrays, none where an item makes no ports
module _ {X : Type 0} (f : X → List Port) (block : X → Block)
    (made : (x : X) (r : ℕ) (p : Port) → slice_get (f x) r ≡ Some p → f x ≡ elements (block x))
    (xs : List X) (once : HaveDifferentNames (λ x. (block x).name) xs) where
  abbrev pub ports : List Port
  ports = flat_map f xs

  -- which element of which array a port is
  record IsPlace (i : ℕ) (p : Port) : Type 0 where
    pub place : ℕ
    pub x : X
    pub rank : ℕ
    pub tuple : List ℤ
    pub x_is : slice_get xs place ≡ Some x
    pub list_is : f x ≡ elements (block x)
    pub tuple_is : slice_get (tuples_of (block x).kinds) rank ≡ Some tuple
    pub port_is : of (block x) tuple ≡ p
    pub number_is : ahead f place xs + rank ≡ i

  place_of : (i : ℕ) (p : Port) → slice_get ports i ≡ Some p → IsPlace i p
  place_of i p e =
      let q = flat_place f xs i p e in
      let b = block q.1.0 in
      let l = made q.1.0 q.1.1.0 p q.1.1.2 in
      let u = unmapped (of b) (tuples_of b.kinds) q.1.1.0 p
      (subst (λ ps. slice_get ps q.1.1.0 ≡ Some p) l q.1.1.2) in
      record {
        place = q.0;
        x = q.1.0;
        rank = q.1.1.0;
        tuple = u.0;
        x_is = q.1.1.1;
        list_is = l;
        tuple_is = u.1;
        port_is = u.2;
        number_is = q.1.1.3;
      }

  module _ (i : ℕ) (p : Port) (k : IsPlace i p) where
    -- another element of the same array
    other : (r : ℕ) (t : List ℤ) → slice_get (tuples_of (block k.x).kinds) r ≡ Some t
        → slice_get ports (ahead f k.place xs + r) ≡ Some (of (block k.x) t)
    other r t e =
        let b = block k.x in
        let at : slice_get (f k.x) r ≡ Some (of b t) =
        ap (λ ps. slice_get ps r) k.list_is ∙ mapped (of b) (tuples_of b.kinds) r t e in
        flat_get f xs k.place k.x r k.x_is (within (f k.x) r (of b t) at) ∙ at

    kinds_are : (block k.x).kinds ≡ p.index_kinds
    kinds_are = ap (λ (q : Port). q.index_kinds) k.port_is

    is_other : (t : List ℤ) → IsOtherElement p t (of (block k.x) t)
    is_other t = record {
      name_is = ap (λ (q : Port). q.name.bytes) k.port_is;
      index_is = refl;
      kinds_are = kinds_are;
      signals_are = ap (λ (q : Port). q.signals) k.port_is;
    }

    -- how many elements the array has
    width_is : width p ≡ length (f k.x)
    width_is =
        let b = block k.x in
        ap (λ (ks : List Kind). length (tuples_of ks)) (sym kinds_are)
        ∙ sym (ap length k.list_is ∙ length-map (tuples_of b.kinds) (of b))

    next_is : ahead f (suc k.place) xs ≡ ahead f k.place xs + width p
    next_is =
        ahead_suc f xs k.place k.x k.x_is ∙ ap (λ n. ahead f k.place xs + n) (sym width_is)

    within_width : k.rank < width p
    within_width =
        let b = block k.x in
        subst (λ (ks : List Kind). k.rank < length (tuples_of ks)) kinds_are
        (within (tuples_of b.kinds) k.rank k.tuple k.tuple_is)

    -- the head is the first element
    head_first : is_head p ≡ true → k.rank ≡ 0
    head_first h =
        first_place (block k.x).kinds k.rank k.tuple k.tuple_is (ap is_head k.port_is ∙ h)

    first_head : k.rank ≡ 0 → is_head p ≡ true
    first_head z =
        ap is_head (sym k.port_is) ∙ first_at (block k.x).kinds k.rank k.tuple k.tuple_is z

  -- ports of one name are elements of one array
  same_array : (i j : ℕ) (p q : Port) (k : IsPlace i p) (l : IsPlace j q)
      → p.name.bytes ≡ q.name.bytes → (k.place ≡ l.place) × (block k.x ≡ block l.x)
  same_array i j p q k l e =
      let n : (block k.x).name ≡ (block l.x).name =
      ap (λ (v : Port). v.name.bytes) k.port_is ∙ e
      ∙ sym (ap (λ (v : Port). v.name.bytes) l.port_is) in
      let g : k.place ≡ l.place = once k.place l.place k.x l.x k.x_is l.x_is n in
      (g, ap block (same_Some k.x l.x (sym k.x_is ∙ ap (slice_get xs) g ∙ l.x_is)))

  alike : (i j : ℕ) (p q : Port) → slice_get ports i ≡ Some p → slice_get ports j ≡ Some q
      → p.name.bytes ≡ q.name.bytes → (p.index_kinds ≡ q.index_kinds) × (p.signals ≡ q.signals)
  alike i j p q e d n =
      let k = place_of i p e in
      let l = place_of j q d in
      let s = same_array i j p q k l n in (
        sym (kinds_are i p k) ∙ ap (λ (b : Block). b.kinds) s.1 ∙ kinds_are j q l,
        ap (λ (v : Port). v.signals) (sym k.port_is) ∙ ap (λ (b : Block). b.signals) s.1
            ∙ ap (λ (v : Port). v.signals) l.port_is,
      )

  whole : (i : ℕ) (p : Port) (index : List ℤ) → slice_get ports i ≡ Some p
      → AllZip IsOrdinalOf p.index_kinds index
      → (j : ℕ) × (q : Port) × (slice_get ports j ≡ Some q) × IsOtherElement p index q
  whole i p index e h =
      let k = place_of i p e in
      let t = tuple_there (block k.x).kinds index
      (subst (λ ks. AllZip IsOrdinalOf ks index) (sym (kinds_are i p k)) h) in (
        ahead f k.place xs + t.0,
        of (block k.x) index,
        other i p k t.0 index t.1,
        is_other i p k index,
      )

  headed : (i : ℕ) (p : Port) → slice_get ports i ≡ Some p
      → (j : ℕ) × (q : Port) × (slice_get ports j ≡ Some q) × (q.name.bytes ≡ p.name.bytes)
      × (is_head q ≡ true)
  headed i p e =
      let k = place_of i p e in
      let ks = (block k.x).kinds in (
        ahead f k.place xs + 0,
        of (block k.x) (firsts ks),
        other i p k 0 (firsts ks) (first_there ks k.rank k.tuple k.tuple_is),
        ap (λ (v : Port). v.name.bytes) k.port_is,
        are_firsts ks,
      )

  one_head : (i j : ℕ) (p q : Port) → slice_get ports i ≡ Some p → slice_get ports j ≡ Some q
      → is_head p ≡ true → is_head q ≡ true → p.name.bytes ≡ q.name.bytes → i ≡ j
  one_head i j p q e d a b n =
      let k = place_of i p e in
      let l = place_of j q d in
      let s = ap (λ g. ahead f g xs) (same_array i j p q k l n).0 in
      let r = head_first i p k a in
      let t = head_first j q l b in
      let u = k.number_is in
      let v = l.number_is in
      omega (arith, s, r, t, u, v)

  -- a name starts where an array does
  starts_at : (g : ℕ) → StartsName ports (ahead f g xs)
  starts_at g p e =
      let k = place_of (ahead f g xs) p e in
      first_head (ahead f g xs) p k (by k (cases_lt k.place g))
    where
      by : (k : IsPlace (ahead f g xs) p) → (k.place < g) ⊎ (g ≤ k.place) → k.rank ≡ 0
      by k (inl l) =
          let m = ahead_more f xs (suc k.place) g (omega (arith, l)) in
          let n = next_is (ahead f g xs) p k in
          let w = within_width (ahead f g xs) p k in
          let u = k.number_is in
          absurd (omega (arith, m, n, w, u))
      by k (inr l) =
          let m = ahead_more f xs g k.place l in
          let u = k.number_is in
          omega (arith, m, u)

  starts : StartsName ports 0
  starts = subst (StartsName ports) (ahead_none f xs) (starts_at 0)

  follows : (i : ℕ) (p : Port) → slice_get ports i ≡ Some p → is_head p ≡ true
      → StartsName ports (i + width p)
  follows i p e h =
      let k = place_of i p e in
      let r = head_first i p k h in
      let n = next_is i p k in
      let u = k.number_is in
      let s : ahead f (suc k.place) xs ≡ i + width p = omega (arith, r, n, u) in
      subst (StartsName ports) s (starts_at (suc k.place))

  of_name : (i j : ℕ) (p q : Port) → slice_get ports i ≡ Some p → is_head p ≡ true
      → slice_get ports j ≡ Some q → i ≤ j → j < i + width p → q.name.bytes ≡ p.name.bytes
  of_name i j p q e h d a b =
      let k = place_of i p e in
      let l = place_of j q d in
      let g = same k l in
      let s : l.x ≡ k.x = same_Some l.x k.x (sym l.x_is ∙ ap (slice_get xs) g ∙ k.x_is) in
      ap (λ (v : Port). v.name.bytes) (sym l.port_is) ∙ ap (λ x. (block x).name) s
      ∙ ap (λ (v : Port). v.name.bytes) k.port_is
    where
      same : (k : IsPlace i p) (l : IsPlace j q) → l.place ≡ k.place
      same k l = by (cases_lt l.place k.place) (cases_lt k.place l.place)
        where
          by : (l.place < k.place) ⊎ (k.place ≤ l.place) → (k.place < l.place) ⊎ (l.place ≤ k.place)
              → l.place ≡ k.place
          by (inl c) v =
              let m = ahead_more f xs (suc l.place) k.place (omega (arith, c)) in
              let n = next_is j q l in
              let w = within_width j q l in
              let u = l.number_is in
              let z = k.number_is in
              absurd (omega (arith, m, n, w, u, z, a))
          by (inr c) (inl v) =
              let m = ahead_more f xs (suc k.place) l.place (omega (arith, v)) in
              let n = next_is i p k in
              let r = head_first i p k h in
              let u = l.number_is in
              let z = k.number_is in
              absurd (omega (arith, m, n, r, u, z, b))
          by (inr c) (inr v) = omega (arith, c, v)

  some : (i : ℕ) (p : Port) → slice_get ports i ≡ Some p → 0 < width p
  some i p e = let w = within_width i p (place_of i p e) in omega (arith, w)

  pub good : HaveDifferentNames {N = List ℕ × List ℤ} (λ p. (p.name.bytes, p.index)) ports
      → ((i : ℕ) (p : Port) → slice_get ports i ≡ Some p
      → HaveDifferentNames signal_name p.signals) → GoodPorts ports
  good differ signals = record {
    differ = differ;
    alike = alike;
    whole = whole;
    headed = headed;
    one_head = one_head;
    signals = signals;
    starts = starts;
    follows = follows;
    of_name = of_name;
    some = some;
  }
