-- What operators yield is there where their operands are and break nothing.
use Rattle.std.specs.Prelude.{if◌then◌else◌}
use Rattle.std.proofs.Common.{◌≡◌, refl, ap, subst, ◌∙◌, ℕ, Bool, true, false, [], Option, Some}
use Rattle.std.proofs.Common.{None}
use Rattle.std.proofs.lemmas.Option.{none-some}
use Rattle.est_syntax.specs.declared.constant.Sign.{Sign}
use Rattle.est_syntax.specs.declared.expression.Operator.{Operator}
use Rattle.est_syntax.specs.declared.rule.Rule.TheVariants as rule
use Rattle.est_values.specs.Types.{Yielded, Ordinal, Set, Group, are_hosts_one, is_assignable}
use Rattle.est_values.specs.declared.types.Host.{Host}
use Rattle.rule_expressions.specs.Operators.{is_taken, wants, kept, gives, is_given, left_of}
use Rattle.rule_expressions.specs.Operators.{do_agree, do_match, result_of, matched, operated}
use Rattle.rule_expressions.specs.Operators.{disagrees, right_faults, signed, sign_faults}
use Rattle.rule_expressions.specs.Operators.{with_member, member_disagrees, spanned, span_faults}
use Rattle.rule_expressions.specs.declared.operators.Wanted.{Wanted}
use Rattle.rule_expressions.specs.declared.operators.Wanted.TheVariants as wanted
use Rattle.law_sentences.specs.Full.{IsThere}
use Rattle.law_sentences.proofs.NoFaults.{unbroken}
use Rattle.law_sentences.proofs.NotBroken.{not_broken}

pub nowhere : {X Y : Type 0} → IsThere {X = X} None → Y
nowhere h = absurd (none-some h.0 h.1)

-- a place that wants a type
pub kept_full : (w : Wanted) (t : Option Yielded) (place : ℕ) → IsThere t → wants w t place ≡ []
    → IsThere (kept w t)
kept_full w None place h k = nowhere h
kept_full w (Some y) place h k = (
  y,
  ap (λ (b : Bool). if b then Some y else None) (unbroken (is_taken w y) place rule.WrongKind
      k),
)

-- operands
pub operated_full : (op : Operator) (l r : Option Yielded) (first second : ℕ) → IsThere l
    → IsThere r → wants (left_of op) l first ≡ [] → right_faults op l r second ≡ []
    → IsThere (operated op l r)
operated_full op None r first second h k w f = nowhere h
operated_full op (Some l) None first second h k w f = nowhere k
operated_full op (Some l) (Some r) first second h k w f =
    let t = unbroken (is_taken (left_of op) l) first rule.WrongKind w in
    let d = subst (λ (b : Bool). (if b then disagrees op l r second else []) ≡ []) t f in
    let m = unbroken (do_match op l r) second rule.WrongKind d in (
      result_of op l r,
      ap (λ (b : Bool). if b then matched op l r else None) t
          ∙ ap (λ (b : Bool). if b then Some (result_of op l r) else None) m,
    )

pub signed_full : (sign : Option Sign) (t : Option Yielded) (place : ℕ) → IsThere t
    → sign_faults sign t place ≡ [] → IsThere (signed sign t)
signed_full (Some sign) t place h k = kept_full wanted.Integer t place h k
signed_full None t place h k = h

-- ordinals, and sets of them
pub ordinal_full : (t : Option Yielded) (place : ℕ) → IsThere t → wants wanted.Ordinal t place ≡ []
    → (h : Host) × (t ≡ Some (Ordinal h))
ordinal_full None place h k = nowhere h
ordinal_full (Some (Ordinal g)) place h k = (g, refl)
ordinal_full (Some (Set g)) place h k = not_broken place rule.WrongKind k
ordinal_full (Some (Group g)) place h k = not_broken place rule.WrongKind k

pub span_full : (h : Host) (t : Option Yielded) (place : ℕ) → IsThere t
    → span_faults (Some (Ordinal h)) t place ≡ []
    → spanned (Some (Ordinal h)) t ≡ Some (Ordinal h)
span_full h None place k f = nowhere k
span_full h (Some t) place k f =
    ap (λ (b : Bool). if b then Some (Ordinal h) else None)
    (unbroken (do_agree (Ordinal h) t) place rule.WrongKind f)

pub member_full : (g : Option Host) (h : Host) (place : ℕ)
    → member_disagrees (Some (Set g)) (Some (Ordinal h)) place ≡ []
    → with_member (Some (Set g)) (Some (Ordinal h)) ≡ Some (Set (Some h))
member_full g h place f =
    ap (λ (b : Bool). if b then Some (Set (Some h)) else None)
    (unbroken (are_hosts_one (Some h) g) place rule.WrongKind f)

-- what is given
pub given_full : (target t : Option Yielded) (place : ℕ) → IsThere target → IsThere t
    → gives target t place ≡ [] → is_given target t ≡ true
given_full None t place h k f = nowhere h
given_full (Some w) None place h k f = nowhere k
given_full (Some w) (Some t) place h k f = unbroken (is_assignable w t) place rule.WrongKind f
