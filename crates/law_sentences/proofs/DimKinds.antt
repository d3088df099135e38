-- Dims that break no rule have kinds.
use Rattle.std.specs.Prelude.{if◌then◌else◌, map}
use Rattle.std.proofs.Common.{◌≡◌, refl, ap, subst, ◌∙◌, ℕ, ◌<◌, List, [], ◌∷◌, ◌++◌}
use Rattle.std.proofs.Common.{Some, None, arith}
use Rattle.est_syntax.specs.Kinds.{is_ordinal}
use Rattle.est_syntax.specs.declared.kind.Kind.{Kind}
use Rattle.est_syntax.specs.declared.rule.Rule.TheVariants.{WrongKind}
use Rattle.est_syntax.specs.declared.type_text.TypeText.{TypeText}
use Rattle.rule_scope.specs.declared.declaration.Measured.{Measured}
use Rattle.rule_scope.specs.Outline.{Outline}
use Rattle.rule_kinds.specs.TypeTexts.{text_type, text_faults, text_place}
use Rattle.rule_kinds.specs.Dims.{with_dim, dims_after, dims_of, ordinal_faults, dim_faults}
use Rattle.rule_kinds.specs.Dims.{each_dim_faults, elements_faults, dims_faults}
use Rattle.text_reader.specs.Shown.{node, nodes}
use Rattle.law_places.specs.PlaceOrder.{Stands}
use Rattle.text_productions.specs.Nodes.{layer, a_short_type}
use Rattle.law_sentences.specs.Full.{IsThere, IsFullAt, AreFullBefore}
use Rattle.law_places.specs.Said.{Each}
use Rattle.law_sentences.proofs.NoFaults.{parted, unbroken}
use Rattle.law_sentences.proofs.Places.{ascends, in_more}
use Rattle.law_sentences.proofs.InForce.{narrowed}
use Rattle.law_sentences.proofs.TypeKinds.{text_there}
use Rattle.law_sentences.proofs.Uses.{text_then}
use Rattle.law_sentences.proofs.UsesStand.{short_stands, short_has}

-- a name or a range
pub short_there : (o : Outline) (t : TypeText) (a b : ℕ) → AreFullBefore o b
    → Stands layer (node (a_short_type t)) a b → text_faults o t ≡ []
    → IsThere (text_type o t)
short_there o t a b full s h =
    text_there o t
    (text_then (λ u. u.place < b) (IsFullAt o) full t (short_stands t a b b (omega arith) s))
    (short_has t a b s) h

-- one more, which is ordinal
ordinal_there : (ks : List Kind) (m : Measured) (place : ℕ) → ordinal_faults (Some m) place ≡ []
    → IsThere (with_dim (Some ks) (Some m))
ordinal_there ks m place h =
    let more = ks ++ m.kind ∷ [] in
    (more, ap (λ b. if b then Some more else None) (unbroken (is_ordinal m.kind) place WrongKind h))

-- where each text has a kind unless it breaks a rule
abbrev pub HasKind : Outline → TypeText → Type 0
HasKind o t = text_faults o t ≡ [] → IsThere (text_type o t)

after_there : (o : Outline) (ts : List TypeText) (ks : List Kind) → Each (HasKind o) ts
    → each_dim_faults o ts ≡ [] → IsThere (dims_after o (Some ks) ts)
after_there o [] ks each h = (ks, refl)
after_there o (t ∷ ts) ks each h =
    let k = parted (dim_faults o t) (each_dim_faults o ts) h in
    let l = parted (text_faults o t) (ordinal_faults (text_type o t) (text_place t)) k.0 in
    let m = each.0 l.0 in
    let d = ordinal_there ks m.0 (text_place t)
    (subst (λ n. ordinal_faults n (text_place t) ≡ []) m.1 l.1) in
    let r = after_there o ts d.0 each.1 k.1 in
    (r.0, ap (λ n. dims_after o n ts) (ap (with_dim (Some ks)) m.1 ∙ d.1) ∙ r.1)

pub dims_by : (o : Outline) (ts : List TypeText) (place : ℕ) → Each (HasKind o) ts
    → dims_faults o ts place ≡ [] → IsThere (dims_of o ts)
dims_by o ts place each h =
    after_there o ts [] each
    (parted (each_dim_faults o ts) (elements_faults (dims_of o ts) place) h).0

-- short ones, that stand in order
short_ones : (o : Outline) (ts : List TypeText) (a b : ℕ) → AreFullBefore o b
    → Stands layer (nodes (map a_short_type ts)) a b → Each (HasKind o) ts
short_ones o [] a b full s = tt
short_ones o (t ∷ ts) a b full s =
    let p = in_more s in (
      short_there o t a p.0 (narrowed o p.0 b (ascends p.2) full) p.1,
      short_ones o ts p.0 b full p.2,
    )

pub dims_there : (o : Outline) (ts : List TypeText) (a b place : ℕ) → AreFullBefore o b
    → Stands layer (nodes (map a_short_type ts)) a b → dims_faults o ts place ≡ []
    → IsThere (dims_of o ts)
dims_there o ts a b place full s h = dims_by o ts place (short_ones o ts a b full s) h
