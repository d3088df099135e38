-- How the table of heads grows.
use Rattle.std.proofs.Common.{◌≡◌, ℕ, ◌+◌, ◌<◌, ◌≤◌, ◌^◌, min, List, [], ◌∷◌, ◌++◌, length}
use Rattle.std.proofs.Common.{refl, sym, ap, ◌∙◌, arith, Option, Some, None, slice_get}
use Rattle.std.proofs.Common.{inl, inr}
use Rattle.std.specs.Prelude.{◌⊎◌}
use Rattle.std.specs.Map.{lookup}
use Rattle.std.specs.Option.{option_map}
use Rattle.std.proofs.lemmas.Bool.{cases_lt}
use Rattle.std.proofs.lemmas.Option.{same_Some}
use Rattle.est_syntax.specs.Names.{is_name}
use Rattle.est_syntax.specs.declared.kind.Kind.{Kind}
use Rattle.est_syntax.specs.declared.ports.Port.{Port}
use Rattle.est_meaning.specs.rule_kinds.Dims.{elements}
use Rattle.rule_ports.proofs.Capped.{most}
use Rattle.rule_ports.proofs.Counted.{elements_number}
use Rattle.rule_ports.proofs.Listing.{within}
use Rattle.rule_ports.proofs.Tuples.{tuples_number}
use Rattle.est_trace.specs.declared.heads.Head.{Head}
use Rattle.est_trace.specs.PortNames.{width, GoodPorts}
use Rattle.est_trace.specs.Directories.{IsHead, AreHeads}
use Rattle.est_trace.specs.inside.Listing.{AreListed}
use Rattle.est_trace.proofs.DirectoryLookups.{found_in, not_found_in}

pub elements_are : (p : Port) → elements p.index_kinds ≡ min (width p) most
elements_are p =
    elements_number p.index_kinds ∙ ap (λ n. min n most) (sym (tuples_number p.index_kinds))

abbrev name_of : Port → List ℕ
name_of p = p.name.bytes

abbrev kinds_in : Port → List Kind
kinds_in p = p.index_kinds

-- a port whose name and kinds are told
pub port_there : (ports : List Port) (n : ℕ) (name : List ℕ) (ks : List Kind)
    → Some name ≡ option_map name_of (slice_get ports n)
    → Some ks ≡ option_map kinds_in (slice_get ports n)
    → (p : Port) × (slice_get ports n ≡ Some p) × (name ≡ p.name.bytes) × (ks ≡ p.index_kinds)
port_there ports n name ks e f = by (slice_get ports n) refl e f
  where
    by : (o : Option Port) → slice_get ports n ≡ o → Some name ≡ option_map name_of o
        → Some ks ≡ option_map kinds_in o → (p : Port) × (slice_get ports n ≡ Some p)
        × (name ≡ p.name.bytes) × (ks ≡ p.index_kinds)
    by None q g h = cc
    by (Some p) q g h =
        (p, q, same_Some name p.name.bytes g, same_Some ks p.index_kinds h)

module _ (ports : List Port) (good : GoodPorts ports) where
  pub none_listed : AreListed ports 0 []
  none_listed = record {
    heads_are = record {
      told = λ name head e. cc;
      every = λ i p l e n. omega (arith, l);
    };
    starts = good.starts;
  }

  pub all_listed : (next : ℕ) (heads : List (List ℕ × Head)) → length ports ≤ next
      → AreListed ports next heads → AreHeads ports (length ports) heads
  all_listed next heads l listed = record {
    told = λ name head e. (let h = listed.heads_are.told name head e in
        record {
          port = h.port;
          port_is = h.port_is;
          before = within ports head.number h.port h.port_is;
          name_is = h.name_is;
          same_name = h.same_name;
          head_is = h.head_is;
        });
    every = λ i p m e n. listed.heads_are.every i p (omega (arith, l, m)) e n;
  }

  module _ (few : length ports < 2 ^ 32) (n : ℕ) (heads : List (List ℕ × Head)) (p : Port)
      (at : slice_get ports n ≡ Some p) (listed : AreListed ports n heads) where
    -- the name of a head is new
    pub fresh : lookup (is_name p.name.bytes) heads ≡ None
    fresh = by (lookup (is_name p.name.bytes) heads) refl
      where
        by : (o : Option Head) → lookup (is_name p.name.bytes) heads ≡ o → o ≡ None
        by None e = refl
        by (Some h) e =
            let k = listed.heads_are.told p.name.bytes h e in
            let same = good.one_head h.number n k.port p k.port_is at k.head_is
            (listed.starts p at) k.name_is in
            let b = k.before in
            absurd (omega (arith, same, b))

    module _ (next : ℕ) (is : next ≡ min (n + elements p.index_kinds) most) where
      pub goes_on : n < next
      goes_on =
          let w = good.some n p at in
          let e = elements_are p in
          let l = within ports n p at in
          omega (arith, w, e, l, is, few)

      -- no port lies past the elements of its array
      next_most : next ≤ n + width p
      next_most = let e = elements_are p in omega (arith, e, is)

      next_least : next < 2 ^ 32 → next ≡ n + width p
      next_least l = let e = elements_are p in omega (arith, e, is, l)

      module _ (head : Head) (number_is : head.number ≡ n)
          (name_is : head.name.bytes ≡ p.name.bytes) where
        told : (name : List ℕ) (h : Head)
            → lookup (is_name name) (heads ++ (p.name.bytes, head) ∷ []) ≡ Some h
            → IsHead ports next name h
        told name h e = by (found_in name p.name.bytes head h heads e)
          where
            by : (lookup (is_name name) heads ≡ Some h) ⊎ ((name ≡ p.name.bytes) × (head ≡ h))
                → IsHead ports next name h
            by (inl q) =
                let k = listed.heads_are.told name h q in
                let b = k.before in
                record {
                  port = k.port;
                  port_is = k.port_is;
                  before = omega (arith, b, goes_on);
                  name_is = k.name_is;
                  same_name = k.same_name;
                  head_is = k.head_is;
                }
            by (inr q) =
                let m : h.number ≡ n = ap (λ (v : Head). v.number) (sym q.1) ∙ number_is in
                record {
                  port = p;
                  port_is = ap (slice_get ports) m ∙ at;
                  before = omega (arith, m, goes_on);
                  name_is = sym q.0;
                  same_name = ap (λ (v : Head). v.name.bytes) (sym q.1) ∙ name_is ∙ sym q.0;
                  head_is = listed.starts p at;
                }

        every : (i : ℕ) (q : Port) → i < next → slice_get ports i ≡ Some q
            → lookup (is_name q.name.bytes) (heads ++ (p.name.bytes, head) ∷ []) ≡ None → ⊥
        every i q l e none =
            by (not_found_in q.name.bytes p.name.bytes head heads none) (cases_lt i n)
          where
            by : (lookup (is_name q.name.bytes) heads ≡ None)
                × (q.name.bytes ≡ p.name.bytes → ⊥) → (i < n) ⊎ (n ≤ i) → ⊥
            by h (inl b) = listed.heads_are.every i q b e h.0
            by h (inr b) = h.1 (good.of_name n i p q at (listed.starts p at) e b
                (omega (arith, l, next_most)))

        pub more_listed : AreListed ports next (heads ++ (p.name.bytes, head) ∷ [])
        more_listed = record {
          heads_are = record { told = told; every = every };
          starts = λ q e. (let l = within ports next q e in
              let s = next_least (omega (arith, l, few)) in
              good.follows n p at (listed.starts p at) q (ap (slice_get ports) (sym s) ∙ e));
        }
