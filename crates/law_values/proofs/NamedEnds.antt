-- What the rules on `output` and `attach` say of the interaction points that these name (ISO 9074,
-- output-statement and attach-statement).
use Rattle.std.proofs.Common.{◌≡◌, refl, sym, ap, subst, ◌∙◌, ℕ, nat_eq, Bool, true, false, ◌&&◌}
use Rattle.std.proofs.Common.{[], ◌++◌, Option, Some, None}
use Rattle.std.specs.Prelude.{if◌then◌else◌, option_and_then}
use Rattle.std.specs.Option.{option_map}
use Rattle.std.proofs.lemmas.Bool.{eqb-true}
use Rattle.std.proofs.lemmas.Option.{cond_some, same_Some, none-some}
use Rattle.est_syntax.specs.Names.{spelled}
use Rattle.est_syntax.specs.declared.channel.Role.{Role}
use Rattle.est_syntax.specs.declared.channel.Role.TheVariants.{First, Second}
use Rattle.est_syntax.specs.declared.expression.Access.{Access}
use Rattle.est_syntax.specs.declared.name.Used.{Used}
use Rattle.est_syntax.specs.declared.ports.Direction.TheVariants.{Sends}
use Rattle.est_syntax.specs.declared.rule.Rule.TheVariants as rule
use Rattle.est_syntax.specs.declared.statement.Sending.{Sending}
use Rattle.rule_scope.specs.declared.declaration.Entry.{Entry}
use Rattle.rule_scope.specs.declared.declaration.Meant.{Meant}
use Rattle.rule_scope.specs.declared.declaration.Meant.TheVariants as meant
use Rattle.rule_scope.specs.declared.declaration.Member.{Member}
use Rattle.rule_scope.specs.declared.declaration.Member.TheVariants as member
use Rattle.rule_scope.specs.declared.declaration.Side.{Side}
use Rattle.rule_scope.specs.declared.declaration.Sort.{Sort}
use Rattle.rule_scope.specs.declared.declaration.Sort.TheVariants as sort
use Rattle.rule_scope.specs.declared.declaration.Standing.{Standing}
use Rattle.rule_scope.specs.Outline.{Outline, entry_at, member_at, standing}
use Rattle.rule_scope.specs.Uses.{is_sort, meaning, meant_as, declaration_of}
use Rattle.rule_declares.specs.Bodies.{side_in, interaction_in, interaction_by}
use Rattle.rule_declares.specs.Bodies.{interaction_at}
use Rattle.rule_expressions.specs.Accesses.{access_faults, subscripts_at}
use Rattle.rule_expressions.specs.Expressions.{are_taken_faults}
use Rattle.rule_declares.specs.LookUps.{header_in}
use Rattle.rule_statements.specs.LinkFaults.{point_in, point_used, outer_point, outer_used}
use Rattle.rule_statements.specs.LinkFaults.{module_header, child_point, child_faults, same_role}
use Rattle.rule_statements.specs.LinkFaults.{do_attach, joined_faults, external_faults}
use Rattle.rule_statements.specs.LinkFaults.{attach_faults}
use Rattle.rule_declares.specs.LookUps.{header_at}
use Rattle.rule_statements.specs.Signals.{direction_faults}
use Rattle.rule_declares.specs.LookUps.{side_at, point_side, may_pass}
use Rattle.rule_statements.specs.Signals.{standing_faults, signal_by_faults, signal_faults}
use Rattle.rule_statements.specs.Signals.{signal_of}
use Rattle.rule_statements.specs.Signals.{sending_faults}
use Rattle.mean_blocks.specs.NamesInRuns.{place_in, declared_at, declared_within}
use Rattle.mean_blocks.specs.NamesInRuns.{declared_in_header, interaction_of}
use Rattle.law_sentences.specs.Full.{IsThere, AreFull}
use Rattle.law_sentences.proofs.FullStatements.{access_used}
use Rattle.law_sentences.proofs.FullUses.{IsAt, entry_of, point_side_there}
use Rattle.law_sentences.proofs.NoFaults.{parted, unbroken}
use Rattle.law_sentences.proofs.NotBroken.{three}
use Rattle.law_values.specs.SentInteractions.{MaySend}

-- NAMES

meant_place : (o : Outline) (s : Sort) (m : Meant) (p q : ℕ) → meant_as o s m ≡ Some p
    → place_in m ≡ Some q → p ≡ q
meant_place o s meant.Nothing p q h k = absurd (none-some q k)
meant_place o s (meant.Predeclared n) p q h k = absurd (none-some q k)
meant_place o s (meant.Unseen r) p q h k = absurd (none-some q k)
meant_place o s (meant.Seen r) p q h k =
    sym (cond_some (is_sort s (entry_at o r)) r p h).1 ∙ same_Some r q k

-- a name that breaks no rule means what it means where it runs
pub record IsNamed (o : Outline) (s : Sort) (u : Used) (p : ℕ) : Type 0 where
  pub means : declaration_of o s u ≡ Some p
  pub at : IsAt o s p

pub named : (o : Outline) (s : Sort) (a : Access) (p : ℕ) → AreFull o → access_faults o s a ≡ []
    → declared_at o a.name ≡ Some p → IsNamed o s a.name p
named o s a p full h e =
    let u = access_used o s a full h in
    let same = meant_place o s (meaning o a.name) u.place p u.means e in
    record { means = u.means ∙ ap Some same; at = subst (IsAt o s) same u.at }

-- OUTPUT

member_sends : (o : Outline) (p : ℕ) (side : Side) (s : Standing) (m : Option Member)
    (place d : ℕ) → side_at o (Some p) ≡ Some side → member_at o s.place ≡ m
    → direction_faults Sends side.role m place ≡ [] → interaction_in m s ≡ Some d → MaySend o p d
member_sends o p side s None place d e k h i = absurd (none-some d i)
member_sends o p side s (Some (member.Role r)) place d e k h i = absurd (none-some d i)
member_sends o p side s (Some member.Field) place d e k h i = absurd (none-some d i)
member_sends o p side s (Some (member.Interaction x)) place d e k h i = record {
  side = side;
  side_is = e;
  senders = x;
  declared = ap (member_at o) (sym (same_Some s.place d i)) ∙ k;
  may = unbroken (may_pass Sends side.role x) place rule.WrongDirection h;
}

standing_sends : (o : Outline) (p : ℕ) (side : Side) (x : Option Standing) (place d : ℕ)
    → side_at o (Some p) ≡ Some side → standing_faults o Sends side.role x place ≡ []
    → interaction_by o x ≡ Some d → MaySend o p d
standing_sends o p side None place d e h i = absurd (none-some d i)
standing_sends o p side (Some s) place d e h i =
    member_sends o p side s (member_at o s.place) place d e refl h i

-- what is meant by an interaction point has the side that is declared
same_side : (x : Option Entry) → side_in x ≡ option_and_then (λ (e : Entry). e.side) x
same_side None = refl
same_side (Some e) = refl

-- what an `output` sends, the role of its interaction point may send
pub output_sends : (o : Outline) (x : Sending) (p d : ℕ) → AreFull o → sending_faults o x ≡ []
    → declared_at o x.at.name ≡ Some p → interaction_of o p x.signal ≡ Some d → MaySend o p d
output_sends o x p d full h e i =
    let r = parted (signal_faults o Sends x.at x.signal)
    (are_taken_faults o (signal_of o (point_side o x.at.name) x.signal) 0 x.signal.place
    x.arguments) h in
    let q = parted (access_faults o sort.Point x.at)
    (signal_by_faults o Sends (point_side o x.at.name) x.signal) r.0 in
    let n = named o sort.Point x.at p full q.0 e in
    let side = point_side_there o (Some p) p refl n.at in
    let f : signal_by_faults o Sends (side_at o (Some p)) x.signal ≡ [] =
    subst (λ y. signal_by_faults o Sends (side_at o y) x.signal ≡ []) n.means q.1 in
    let g : standing_faults o Sends side.0.role (standing o side.0.channel (spelled x.signal))
    x.signal.place ≡ [] = subst (λ y. signal_by_faults o Sends y x.signal ≡ []) side.1 f in
    let j : interaction_by o (standing o side.0.channel (spelled x.signal)) ≡ Some d =
    subst (λ y. interaction_at o y x.signal ≡ Some d) (same_side (entry_at o p) ∙ side.1) i in
    standing_sends o p side.0 (standing o side.0.channel (spelled x.signal)) x.signal.place d
    side.1 g j

-- ATTACH

roles_same : (r s : Role) → same_role r s ≡ true → r ≡ s
roles_same First First h = refl
roles_same Second Second h = refl
roles_same First Second h = cc
roles_same Second First h = cc

pub both_true : (a b : Bool) → a && b ≡ true → (a ≡ true) × (b ≡ true)
both_true true b h = (refl, h)
both_true false b h = cc

sides_same : (s t : Side) → do_attach s t ≡ true → s ≡ t
sides_same s t h =
    let b = both_true (nat_eq s.channel t.channel) (same_role s.role t.role) h in
    let c = eqb-true s.channel t.channel b.0 in
    let r = roles_same s.role t.role b.1 in
    λ i. record { channel = c i; role = r i }

joined_same : (x y : Option Side) (place : ℕ) → IsThere x → IsThere y
    → joined_faults x y place ≡ [] → x ≡ y
joined_same None y place a b h = absurd (none-some a.0 a.1)
joined_same (Some s) None place a b h = absurd (none-some b.0 b.1)
joined_same (Some s) (Some t) place a b h =
    ap Some (sides_same s t (unbroken (do_attach s t) place rule.WrongLink h))

-- the interaction point of a child that a name means in its header
child_named : (o : Outline) (header : Option ℕ) (u : Used) (d : ℕ) → AreFull o
    → outer_used o header u ≡ [] → option_and_then (declared_within o u) header ≡ Some d
    → (outer_point o header u ≡ Some d) × IsAt o sort.Point d
child_named o None u d full h e = absurd (none-some d e)
child_named o (Some header) u d full h e = one (standing o header (spelled u)) h e
  where
    one : (x : Option Standing) → point_used o x u.place ≡ []
        → option_map (λ (s : Standing). s.place) x ≡ Some d
        → (point_in o x ≡ Some d) × IsAt o sort.Point d
    one None h e = absurd (none-some d e)
    one (Some s) h e =
        let b = unbroken (is_sort sort.Point (entry_at o s.place)) u.place rule.WrongSort h in
        let same = same_Some s.place d e in (
          ap (λ (c : Bool). if c then Some s.place else None) b ∙ ap Some same,
          subst (IsAt o sort.Point) same
              (entry_of o sort.Point s.place (entry_at o s.place) full refl b),
        )

-- the interaction points that an `attach` joins have one side
pub attach_joins : (o : Outline) (own child point : Access) (p q d : ℕ) → AreFull o
    → attach_faults o own child point ≡ [] → declared_at o own.name ≡ Some p
    → declared_at o child.name ≡ Some q → declared_in_header o q point.name ≡ Some d
    → side_at o (Some p) ≡ side_at o (Some d)
attach_joins o own child point p q d full h e f g =
    let at = declaration_of o sort.Point own.name in
    let s = three (access_faults o sort.Point own ++ external_faults o at own.name.place)
    (child_faults o child point)
    (joined_faults (point_side o own.name) (side_at o (child_point o child point))
    child.name.place) h in
    let a = parted (access_faults o sort.Point own) (external_faults o at own.name.place) s.0 in
    let n = named o sort.Point own p full a.0 e in
    let c = three (access_faults o sort.ModuleVariable child)
    (outer_used o (module_header o child) point.name)
    (are_taken_faults o (subscripts_at (child_point o child point)) 0 point.name.place point.index)
    s.1 in
    let m = named o sort.ModuleVariable child q full c.0 f in
    let header : module_header o child ≡ header_in (entry_at o q) = ap (header_at o) m.means in
    let k = child_named o (header_in (entry_at o q)) point.name d full
    (subst (λ x. outer_used o x point.name ≡ []) header c.1) g in
    let there : child_point o child point ≡ Some d =
    ap (λ x. outer_point o x point.name) header ∙ k.0 in
    let j : joined_faults (side_at o (Some p)) (side_at o (Some d)) child.name.place ≡ [] =
    subst (λ x. joined_faults (side_at o x) (side_at o (Some d)) child.name.place ≡ []) n.means
    (subst (λ x. joined_faults (point_side o own.name) (side_at o x) child.name.place ≡ []) there
    s.2) in
    joined_same (side_at o (Some p)) (side_at o (Some d)) child.name.place
    (point_side_there o (Some p) p refl n.at) (point_side_there o (Some d) d refl k.1) j
