-- Constants and texts of types that break nothing have values and kinds in a full outline.
use Rattle.std.specs.Prelude.{if◌then◌else◌}
use Rattle.std.proofs.Common.{◌≡◌, refl, ap, subst, ℕ, suc, Bool, List, [], ◌∷◌, Option, Some, None}
use Rattle.std.proofs.Common.{arith, inl, inr}
use Rattle.est_syntax.specs.Kinds.{is_ordinal}
use Rattle.est_syntax.specs.declared.constant.Constant.{Constant}
use Rattle.est_syntax.specs.declared.name.Used.{Used}
use Rattle.est_syntax.specs.declared.rule.Rule.TheVariants as rule
use Rattle.est_syntax.specs.declared.type_text.TypeText.{TypeText}
use Rattle.est_syntax.specs.declared.type_text.TypeText.TheVariants as text
use Rattle.rule_scope.specs.Outline.{Outline}
use Rattle.rule_scope.specs.Uses.{declaration_of}
use Rattle.rule_scope.specs.declared.declaration.Measured.{Measured}
use Rattle.rule_scope.specs.declared.declaration.Sort.TheVariants as sort
use Rattle.rule_kinds.specs.Constants.{constant_value, constant_faults, constant_place}
use Rattle.rule_kinds.specs.Dims.{ordinal_faults, dim_faults}
use Rattle.rule_kinds.specs.TypeTexts.{text_type, text_faults, text_place}
use Rattle.rule_kinds.specs.declared.value.Valued.{Valued}
use Rattle.est_values.specs.Types.{Yielded, Ordinal, Set, Group, host_in}
use Rattle.est_values.specs.declared.types.Host.{Host}
use Rattle.rule_expressions.specs.Operators.{kept}
use Rattle.rule_expressions.specs.declared.operators.Wanted.TheVariants as wanted
use Rattle.rule_statements.specs.Cases.{Chosen, chosen_host, is_kind_of, ordinal_of, host_faults}
use Rattle.rule_statements.specs.Cases.{again_faults, with_constant, choice_faults, choices_faults}
use Rattle.rule_statements.specs.Statements.{over_by, over_faults}
use Rattle.law_sentences.specs.Full.{IsThere, IsFullAt, AreFull}
use Rattle.law_sentences.specs.FullDeclarations.{HasValue}
use Rattle.law_sentences.specs.WholeStatements.{AreChosen, HasOrdinalKind, IsOver}
use Rattle.law_sentences.specs.WrittenExpressions.{HasConstants}
use Rattle.law_sentences.proofs.ConstantValues.{constant_fits}
use Rattle.law_sentences.proofs.FullOperators.{nowhere}
use Rattle.law_sentences.proofs.InForce.{all_full}
use Rattle.law_sentences.proofs.NoFaults.{parted, unbroken}
use Rattle.law_sentences.proofs.NotBroken.{three}
use Rattle.law_sentences.proofs.TypeKinds.{text_there}
use Rattle.law_sentences.proofs.Uses.{of_constant, of_text}

full_at : (o : Outline) → AreFull o → (u : Used) → IsFullAt o u
full_at o full u = all_full o (suc u.place) full u (omega arith)

pub constant_there : (o : Outline) (c : Constant) → AreFull o → constant_faults o c ≡ []
    → HasValue (constant_value o c)
constant_there o c full h = constant_fits o c (of_constant (IsFullAt o) (full_at o full) c) h

-- the constants of a `case`
pub host_there : (t : Option Yielded) → IsThere (kept wanted.Ordinal t) → IsThere (chosen_host t)
host_there None k = nowhere k
host_there (Some (Ordinal h)) k = (h, refl)
host_there (Some (Set g)) k = nowhere k
host_there (Some (Group j)) k = nowhere k

ordinal_there : (h : Host) (k : Option Valued) (place : ℕ) → IsThere k
    → host_faults (Some h) k place ≡ [] → IsThere (ordinal_of (Some h) k)
ordinal_there h None place k f = nowhere k
ordinal_there h (Some v) place k f = (
  v.ordinal,
  ap (λ (b : Bool). if b then Some v.ordinal else None)
      (unbroken (is_kind_of h (host_in v.host)) place rule.WrongKind f),
)

pub chosen_there : (o : Outline) (h : Host) (seen : Chosen) (cs : List Constant) → AreFull o
    → choices_faults o (Some h) seen cs ≡ [] → AreChosen o (Some h) cs
chosen_there o h seen [] full f = tt
chosen_there o h seen (c ∷ cs) full f =
    let k = constant_value o c in
    let s = parted (choice_faults o (Some h) seen c)
    (choices_faults o (Some h) (with_constant o (Some h) seen c) cs) f in
    let a = three (constant_faults o c) (host_faults (Some h) k (constant_place c))
    (again_faults (ordinal_of (Some h) k) seen (constant_place c)) s.0 in
    let v = constant_there o c full a.0 in (
      ordinal_there h k (constant_place c) (v.0, v.1) a.1,
      chosen_there o h (with_constant o (Some h) seen c) cs full s.1,
    )

-- ordinal types
pub ordinal_kind : (o : Outline) (t : TypeText) → AreFull o → HasConstants t
    → dim_faults o t ≡ [] → HasOrdinalKind o t
ordinal_kind o t full c h =
    let s = parted (text_faults o t) (ordinal_faults (text_type o t) (text_place t)) h in
    let m = text_there o t (of_text (IsFullAt o) (full_at o full) t) c s.0 in (
      m.0,
      m.1,
      unbroken (is_ordinal m.0.kind) (text_place t) rule.WrongKind
          (subst (λ (k : Option Measured). ordinal_faults k (text_place t) ≡ []) m.1 s.1),
    )

named_over : (o : Outline) (u : Used) (header : Option ℕ) → declaration_of o sort.Header u ≡ header
    → AreFull o → over_by o (text.Named u) header ≡ [] → IsOver o (text.Named u)
named_over o u None is full h = inr (ordinal_kind o (text.Named u) full tt h)
named_over o u (Some header) is full h = inl (header, is)

pub over_there : (o : Outline) (t : TypeText) → AreFull o → HasConstants t → over_faults o t ≡ []
    → IsOver o t
over_there o (text.Named u) full c h =
    named_over o u (declaration_of o sort.Header u) refl full h
over_there o t full c h = inr (ordinal_kind o t full c h)
