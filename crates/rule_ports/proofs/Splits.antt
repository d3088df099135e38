-- Where the search for the interaction point of a port goes on.
use Rattle.std.proofs.Common.{◌≡◌, ℕ, ◌+◌, ◌<◌, ◌≤◌, List, sym, ap, ◌∙◌, Some}
use Rattle.std.proofs.Common.{length, slice_get, arith}
use Rattle.std.specs.Option.{option_map}
use Rattle.std.proofs.lemmas.Option.{same_Some}
use Rattle.rule_ports.specs.declared.table.Elements.{Elements}
use Rattle.rule_ports.specs.PortTable.{Points, IsTable, IsSplit}
use Rattle.rule_ports.proofs.Listing.{there, totals_more}

abbrev Point : Type 0
Point = List ℕ × Elements

abbrev until_of : Point → ℕ
until_of p = p.1.until

-- the point in the middle
middle_at : (ps : Points) (m u : ℕ) → option_map until_of (slice_get ps m) ≡ Some u
    → m < length ps → (p : Point) × (slice_get ps m ≡ Some p) × (p.1.until ≡ u)
middle_at ps m u e l =
    let k = there ps m l in
    let s : Some k.0.1.until ≡ Some u = ap (option_map until_of) (sym k.1) ∙ e in
    (k.0, k.1, same_Some k.0.1.until u s)

pub split_low : (ps : Points) (n low high m u : ℕ) → IsTable ps
    → option_map until_of (slice_get ps m) ≡ Some u → u ≤ n → m < high → IsSplit ps n low high
    → IsSplit ps n (m + 1) high
split_low ps n low high m u t e l k s =
    let p = middle_at ps m u e (omega (arith, k, s.within)) in
    record {
      below = λ g q j f. (let h = totals_more ps t.totals g m q p.0 f p.1 (omega (arith, j)) in
          let v = p.2 in omega (arith, h, v, l));
      above = s.above;
      order = omega (arith, k);
      within = s.within;
    }

pub split_high : (ps : Points) (n low high m u : ℕ) → IsTable ps
    → option_map until_of (slice_get ps m) ≡ Some u → n < u → m < high → low ≤ m
    → IsSplit ps n low high → IsSplit ps n low m
split_high ps n low high m u t e l k o s =
    let p = middle_at ps m u e (omega (arith, k, s.within)) in
    record {
      below = s.below;
      above = λ g q j f. (let h = totals_more ps t.totals m g p.0 q p.1 f j in
          let v = p.2 in omega (arith, h, v, l));
      order = o;
      within = omega (arith, k, s.within);
    }
