-- What was seen of values, as it is read.
use Rattle.std.proofs.Common.{◌≡◌, ℕ, true, false, IsTrue, List, replicate, refl, ap}
use Rattle.std.proofs.Common.{◌∙◌}
use Rattle.text_reader.specs.Grammar.{nothing, both, left, right}
use Rattle.est_syntax.specs.declared.kind.Kind.{Kind, out-Kind}
use Rattle.est_syntax.specs.declared.kind.Kind.TheOpen as kinds
use Rattle.est_syntax.specs.declared.kind.FieldKind.{FieldKind}
use Rattle.est_values.specs.FittingValues.{KindLayer, scalar_of, ordinal_count}
use Rattle.est_seen.specs.declared.seen.Seen.{Seen, out-Seen}
use Rattle.est_seen.specs.declared.seen.Seen.TheOpen as opened
use Rattle.est_seen.specs.declared.seen.Seen.TheVariants as seen
use Rattle.text_reader.specs.declared.reader.Reader.{Reader}
use Rattle.text_reader.specs.Moving.{Sees, Takes}
use Rattle.text_reader.specs.Going.{Shape}
use Rattle.text_values.specs.TraceGrammar as grammar
use Rattle.text_values.specs.TraceGrammar.{scalar, group_of, formed, seen_of, a_seen, field_kinds}
use Rattle.text_values.specs.ValueReading.{Reads}
use Rattle.text_values.specs.ValueShapes.{AreShown, AreEnclosed, ShowsOrdinal, ShowsSet}
use Rattle.text_values.specs.SeenShapes.{ShowsSeen, ShowsSeens, any, undefined, ordinal, set, array}
use Rattle.text_values.specs.SeenShapes.{fields, no_values, one_more}
use Rattle.text_values.specs.inside.Scalars.{ShowsOrdinalSeen, ShowsSetSeen}
use Rattle.text_values.proofs.Solid.{formed_solid}
use Rattle.text_values.proofs.SetParts.{question, any_apart, any_goes, other_goes}
use Rattle.text_values.proofs.Groups.{reads_rule, scalar_as, enclosed_as, all_shown, formed_read}
use Rattle.text_values.proofs.Groups.{formed_of}

-- `?`, or anything else
pub any_read : (k : Kind) {A B : Reader} → Sees A question true → Takes question A B
    → Reads (a_seen k) (λ t. ShowsSeen k seen.Any t) A B
any_read k s x = reads_rule (seen_of k) record {
  shape = left nothing;
  goes = any_goes (formed a_seen (out-Kind k) k) (any_apart a_seen k)
      (formed_solid a_seen (out-Kind k) k) s x;
  is = λ w. any seen.outs-Any;
}

pub other_read : (k : Kind) (x : Seen) {A B : Reader} → Sees A question false
    → Reads (formed a_seen (out-Kind k) k) (λ t. ShowsSeen k x (right t)) A B
    → Reads (a_seen k) (λ t. ShowsSeen k x t) A B
other_read k x s r = reads_rule (seen_of k) record {
  shape = right r.shape;
  goes = other_goes (formed a_seen (out-Kind k) k) (any_apart a_seen k)
      (formed_solid a_seen (out-Kind k) k) s r.goes;
  is = r.is;
}

-- SCALARS

as_scalar : (k : Kind) (x : Seen) → IsTrue (scalar_of (out-Kind k)) → (t : Shape)
    → ShowsOrdinalSeen k x t → ShowsSeen k x (right t)
as_scalar k x s =
    scalar_as (ShowsOrdinal k) seen.Ordinal seen.Undefined x (λ t. ShowsSeen k x (right t))
    (λ z u e h. ordinal z (ap out-Seen e ∙ seen.outs-Ordinal z) h)
    (λ e. undefined s (ap out-Seen e ∙ seen.outs-Undefined))

pub scalar_seen : (k : Kind) (x : Seen) (l : KindLayer) {A B : Reader} → out-Kind k ≡ l
    → scalar_of l ≡ true → formed a_seen l k ≡ scalar (grammar.ordinal k)
    → Reads (scalar (grammar.ordinal k)) (λ t. ShowsOrdinalSeen k x t) A B
    → Reads (formed a_seen (out-Kind k) k) (λ t. ShowsSeen k x (right t)) A B
scalar_seen k x l e s f r =
    formed_read a_seen k l e (λ t. ShowsSeen k x (right t)) (scalar (grammar.ordinal k)) f
    (as_scalar k x (ap scalar_of e ∙ s)) r

as_set : (k base : Kind) (x : Seen) → out-Kind k ≡ kinds.SetOf base → (t : Shape)
    → ShowsSetSeen base x t → ShowsSeen k x (right t)
as_set k base x e =
    scalar_as (ShowsSet base) seen.Set seen.Undefined x (λ t. ShowsSeen k x (right t))
    (λ zs u q h. set base zs e (ap out-Seen q ∙ seen.outs-Set zs) h)
    (λ q. undefined (ap scalar_of e) (ap out-Seen q ∙ seen.outs-Undefined))

pub set_seen : (k base given : Kind) (x : Seen) {A B : Reader} → out-Kind k ≡ kinds.SetOf base
    → given ≡ base → Reads (scalar (grammar.set given)) (λ t. ShowsSetSeen given x t) A B
    → Reads (formed a_seen (out-Kind k) k) (λ t. ShowsSeen k x (right t)) A B
set_seen k base given x e q r =
    formed_of a_seen k (kinds.SetOf base) e (λ t. ShowsSeen k x (right t))
    (λ (j : Kind). scalar (grammar.set j)) (λ (j : Kind) (t : Shape). ShowsSetSeen j x t) given
    base refl q (as_set k base x e) r

-- GROUPS

pub shown_seens : (ks : List Kind) (xs : List Seen) (t : Shape) → AreShown ShowsSeen ks xs t
    → ShowsSeens ks xs t
shown_seens ks xs t h =
    all_shown ShowsSeen ShowsSeens no_values (λ k ks x xs t u h r. one_more h r) ks xs t h

abbrev IsGroupOf : List Seen → List Kind → Shape → Type 0
IsGroupOf xs ks t = AreEnclosed ShowsSeen ks xs t

grouped : (ks : List Kind) (xs : List Seen) (k : Kind)
    → ((u : Shape) → out-Seen (seen.Group xs) ≡ opened.Group xs → ShowsSeens ks xs u
    → ShowsSeen k (seen.Group xs) (right (both u nothing)))
    → (t : Shape) → IsGroupOf xs ks t → ShowsSeen k (seen.Group xs) (right t)
grouped ks xs k f t h =
    enclosed_as ShowsSeen ks xs (λ t. ShowsSeen k (seen.Group xs) (right t))
    (λ u g. f u (seen.outs-Group xs) (shown_seens ks xs u g)) t h

pub array_seen : (k index of given : Kind) (n : ℕ) (xs : List Seen) {A B : Reader}
    → out-Kind k ≡ kinds.ArrayOf index of → given ≡ of → n ≡ ordinal_count index
    → Reads (group_of a_seen (replicate n given))
    (λ t. AreEnclosed ShowsSeen (replicate n given) xs t) A B
    → Reads (formed a_seen (out-Kind k) k) (λ t. ShowsSeen k (seen.Group xs) (right t)) A B
array_seen k index of given n xs e q f r =
    let ks = replicate (ordinal_count index) of in
    let same : replicate n given ≡ ks =
    ap (λ (j : Kind). replicate n j) q ∙ ap (λ m. replicate m of) f in
    formed_of a_seen k (kinds.ArrayOf index of) e (λ t. ShowsSeen k (seen.Group xs) (right t))
    (group_of a_seen) (IsGroupOf xs) (replicate n given) ks refl same
    (grouped ks xs k (λ u c h. array index of xs e c h)) r

pub record_seen : (k : Kind) (fs given : List FieldKind) (xs : List Seen) {A B : Reader}
    → out-Kind k ≡ kinds.Fields fs → given ≡ fs
    → Reads (group_of a_seen (field_kinds given))
    (λ t. AreEnclosed ShowsSeen (field_kinds given) xs t) A B
    → Reads (formed a_seen (out-Kind k) k) (λ t. ShowsSeen k (seen.Group xs) (right t)) A B
record_seen k fs given xs e q r =
    let ks = field_kinds fs in
    let same : field_kinds given ≡ ks = ap (λ (l : List FieldKind). field_kinds l) q in
    formed_of a_seen k (kinds.Fields fs) e (λ t. ShowsSeen k (seen.Group xs) (right t))
    (group_of a_seen) (IsGroupOf xs) (field_kinds given) ks refl same
    (grouped ks xs k (λ u c h. fields fs xs e c h)) r
