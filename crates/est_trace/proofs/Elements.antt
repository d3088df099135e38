-- What a directory tells of a port.
use Rattle.std.proofs.Common.{◌≡◌, ℕ, ◌<◌, ◌^◌, ℤ, List, length, sym, ap, ◌∙◌, arith}
use Rattle.std.proofs.Common.{refl, Option, Some, None, slice_get}
use Rattle.std.specs.Option.{option_map}
use Rattle.std.specs.Map.{lookup}
use Rattle.std.proofs.lemmas.Option.{same_Some}
use Rattle.est_syntax.specs.Names.{is_name}
use Rattle.est_syntax.specs.declared.ports.Port.{Port}
use Rattle.rule_ports.specs.PortTable.{IsPortNumber}
use Rattle.rule_ports.proofs.Listing.{within}
use Rattle.est_trace.specs.declared.heads.Head.{Head}
use Rattle.est_trace.specs.PortNames.{GoodPorts, IsHeadOf, IsElementOf}
use Rattle.est_trace.specs.Directories.{AreHeads}

abbrev name_of : Port → List ℕ
name_of p = p.name.bytes

-- a port whose name is told
named : (ports : List Port) (number : ℕ) (name : List ℕ) (o : Option Port)
    → slice_get ports number ≡ o → Some name ≡ option_map name_of o
    → (p : Port) × (slice_get ports number ≡ Some p) × (p.name.bytes ≡ name)
named ports number name None e h = cc
named ports number name (Some p) e h = (p, e, same_Some p.name.bytes name (sym h))

pub no_port : (ports : List Port) (number : ℕ) (index : List ℤ)
    → None ≡ option_map name_of (slice_get ports number) → IsElementOf ports number index None
no_port ports number index none = λ p e h.
    let q : None ≡ Some p.name.bytes = none ∙ ap (option_map name_of) e in cc

module _ (ports : List Port) (heads : List (List ℕ × Head))
    (are : AreHeads ports (length ports) heads) where
  pub no_head : (name : List ℕ) → None ≡ lookup (is_name name) heads → IsHeadOf name ports None
  no_head name none = λ n p e q.
      are.every n p (within ports n p e) e (ap (λ m. lookup (is_name m) heads) q ∙ sym none)

  pub head_is : (name : List ℕ) (h : Head) → Some h ≡ lookup (is_name name) heads
      → IsHeadOf name ports (Some h.number)
  head_is name h e =
      let k = are.told name h (sym e) in (k.port, k.port_is, k.name_is, k.head_is)

  module _ (number : ℕ) (name : List ℕ)
      (name_is : Some name ≡ option_map name_of (slice_get ports number)) where
    pub no_port_here : None ≡ lookup (is_name name) heads → ⊥
    no_port_here none =
        let p = named ports number name (slice_get ports number) refl name_is in
        no_head name none number p.0 p.1 p.2

    pub element_is : GoodPorts ports → length ports < 2 ^ 32 → (index : List ℤ) (h : Head)
        → Some h ≡ lookup (is_name name) heads → (r : Option ℕ)
        → IsPortNumber h.name.bytes index ports r → IsElementOf ports number index r
    element_is good few index h e (Some n) f =
        let p = named ports number name (slice_get ports number) refl name_is in
        let s = (are.told name h (sym e)).same_name in
        let same : f.0.name.bytes ≡ p.0.name.bytes = f.2 ∙ s ∙ sym p.2 in
        let a = good.alike n number f.0 p.0 f.1 p.1 same in (
          p.0,
          f.0,
          p.1,
          f.1,
          record { name_is = same; index_is = f.3; kinds_are = a.0; signals_are = a.1 },
        )
    element_is good few index h e None f = λ p at a.
        let s = (are.told name h (sym e)).same_name in
        let same : Some name ≡ Some p.name.bytes = name_is ∙ ap (option_map name_of) at in
        let w = good.whole number p index at a in
        let l = within ports w.0 w.1 w.2 in
        f w.0 w.1 (omega (arith, l, few)) w.2 (w.3.name_is
        ∙ sym (same_Some name p.name.bytes same) ∙ sym s) w.3.index_is
