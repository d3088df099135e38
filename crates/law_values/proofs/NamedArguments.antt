-- What the rules on outputs, calls and inits say of the arguments, and of what takes them.
use Rattle.std.specs.Prelude.{option_and_then}
use Rattle.std.specs.Option.{option_map_or}
use Rattle.std.proofs.Common.{◌≡◌, refl, sym, ap, subst, ◌∙◌, ℕ, true, false, List, [], Option}
use Rattle.std.proofs.Common.{Some, None}
use Rattle.std.proofs.lemmas.Option.{same_Some, none-some, cond_some}
use Rattle.est_syntax.specs.Names.{spelled}
use Rattle.est_syntax.specs.declared.expression.Access.{Access}
use Rattle.est_syntax.specs.declared.expression.Expr.{Expr}
use Rattle.est_syntax.specs.declared.name.Used.{Used}
use Rattle.est_syntax.specs.declared.statement.Sending.{Sending}
use Rattle.rule_scope.specs.Outline.{Outline, entry_at, member_at, standing, nth}
use Rattle.rule_scope.specs.Uses.{is_sort, meaning, meant_as, declaration_of}
use Rattle.rule_scope.specs.declared.declaration.Entry.{Entry}
use Rattle.rule_scope.specs.declared.declaration.Meant.{Meant}
use Rattle.rule_scope.specs.declared.declaration.Member.{Member}
use Rattle.rule_scope.specs.declared.declaration.Section.{Section}
use Rattle.rule_scope.specs.declared.declaration.Side.{Side}
use Rattle.rule_scope.specs.declared.declaration.Sort.{Sort}
use Rattle.rule_scope.specs.declared.declaration.Standing.{Standing}
use Rattle.rule_scope.specs.declared.declaration.Meant.TheVariants as meant
use Rattle.rule_scope.specs.declared.declaration.Member.TheVariants as member
use Rattle.rule_scope.specs.declared.declaration.Section.TheVariants as section
use Rattle.rule_scope.specs.declared.declaration.Sort.TheVariants as sort
use Rattle.rule_declares.specs.Bodies.{interaction_in, interaction_by, interaction_at, side_in}
use Rattle.rule_expressions.specs.Expressions.{are_taken}
use Rattle.rule_expressions.specs.Selections.{parameter}
use Rattle.rule_declares.specs.LookUps.{header_in}
use Rattle.rule_expressions.specs.declared.receivers.Receiver.{Receiver}
use Rattle.rule_expressions.specs.declared.receivers.Receiver.TheVariants as receiver
use Rattle.rule_statements.specs.Modules.{parameters_of, init_faults}
use Rattle.rule_statements.specs.Signals.{signal_in, signal_standing}
use Rattle.rule_declares.specs.LookUps.{side_at, point_side}
use Rattle.rule_statements.specs.Signals.{signal_of, sending_faults}
use Rattle.rule_statements.specs.Statements.{is_place}
use Rattle.rule_declares.specs.LookUps as modules
use Rattle.mean_blocks.specs.NamesInRuns.{header_at, interaction_of, is_place_section}
use Rattle.mean_blocks.specs.NamesInRuns.{takes_place, place_in, declared_at}
use Rattle.law_sentences.specs.FullExpressions.{IsWhole}
use Rattle.law_sentences.proofs.FullStatements.{sendings_full, inits_full}
use Rattle.law_values.specs.SteadyOutlines.{IsSteady}
use Rattle.law_values.proofs.FittingArguments.{parameter_entry}

-- NAMES

meant_place : (o : Outline) (s : Sort) (m : Meant) (p q : ℕ) → meant_as o s m ≡ Some p
    → place_in m ≡ Some q → p ≡ q
meant_place o s meant.Nothing p q h k = absurd (none-some q k)
meant_place o s (meant.Predeclared n) p q h k = absurd (none-some q k)
meant_place o s (meant.Unseen r) p q h k = absurd (none-some q k)
meant_place o s (meant.Seen r) p q h k =
    sym (cond_some (is_sort s (entry_at o r)) r p h).1 ∙ same_Some r q k

-- what a name means where a sort is wanted is what it means where it runs
pub same_declaration : (o : Outline) (s : Sort) (u : Used) (p q : ℕ)
    → declaration_of o s u ≡ Some p → declared_at o u ≡ Some q → p ≡ q
same_declaration o s u p q h k = meant_place o s (meaning o u) p q h k

-- OUTPUT

interaction_parameters : (m : Option Member) (s : Standing) (d : ℕ)
    → interaction_in m s ≡ Some d → signal_in m s.place ≡ Some (receiver.Parameters d)
interaction_parameters (Some (member.Interaction x)) s d h =
    ap (λ p. Some (receiver.Parameters p)) (same_Some s.place d h)
interaction_parameters (Some (member.Role r)) s d h = absurd (none-some d h)
interaction_parameters (Some member.Field) s d h = absurd (none-some d h)
interaction_parameters None s d h = absurd (none-some d h)

standing_parameters : (o : Outline) (x : Option Standing) (d : ℕ) → interaction_by o x ≡ Some d
    → signal_standing o x ≡ Some (receiver.Parameters d)
standing_parameters o None d h = absurd (none-some d h)
standing_parameters o (Some s) d h = interaction_parameters (member_at o s.place) s d h

side_parameters : (o : Outline) (x : Option Side) (u : Used) (d : ℕ)
    → interaction_at o x u ≡ Some d → signal_of o x u ≡ Some (receiver.Parameters d)
side_parameters o None u d h = absurd (none-some d h)
side_parameters o (Some side) u d h =
    standing_parameters o (standing o side.channel (spelled u)) d h

same_side : (x : Option Entry) → side_in x ≡ option_and_then (λ (e : Entry). e.side) x
same_side None = refl
same_side (Some e) = refl

-- an interaction takes the arguments with which it is sent
pub sending_taken : (o : Outline) (x : Sending) (p d : ℕ) → IsWhole o → sending_faults o x ≡ []
    → declaration_of o sort.Point x.at.name ≡ Some p → interaction_of o p x.signal ≡ Some d
    → are_taken o (Some (receiver.Parameters d)) 0 x.arguments ≡ true
sending_taken o x p d w h e i =
    let s = sendings_full o x w h in
    let side : point_side o x.at.name ≡ side_at o (Some p) = ap (side_at o) e in
    let j : interaction_at o (side_at o (Some p)) x.signal ≡ Some d =
    subst (λ y. interaction_at o y x.signal ≡ Some d) (same_side (entry_at o p)) i in
    let r : signal_of o (point_side o x.at.name) x.signal ≡ Some (receiver.Parameters d) =
    ap (λ y. signal_of o y x.signal) side ∙ side_parameters o (side_at o (Some p)) x.signal d j in
    subst (λ y. are_taken o y 0 x.arguments ≡ true) r s.1.1

-- INIT

header_parameters : (h : Option ℕ) (r : Receiver) → parameters_of h ≡ Some r
    → (n : ℕ) × (h ≡ Some n) × (r ≡ receiver.Parameters n)
header_parameters None r e = absurd (none-some r e)
header_parameters (Some n) r e = (n, refl, sym (same_Some (receiver.Parameters n) r e))

-- the header of a body takes the arguments of an `init`
pub init_taken : (o : Outline) (target : Access) (body : Used) (es : List Expr) (b : ℕ) → IsWhole o
    → init_faults o target body es ≡ [] → declared_at o body ≡ Some b
    → (n : ℕ) × (header_at o b ≡ Some n) × (are_taken o (Some (receiver.Parameters n)) 0 es ≡ true)
init_taken o target body es b w h e =
    let s = (inits_full o target body es w h).2 in
    by (declaration_of o sort.Body body) refl s.0.0 s.0.1 s.1
  where
    by : (x : Option ℕ) → declaration_of o sort.Body body ≡ x → (r : Receiver)
        → parameters_of (modules.header_at o x) ≡ Some r
        → are_taken o (parameters_of (modules.header_at o x)) 0 es ≡ true
        → (n : ℕ) × (header_at o b ≡ Some n)
        × (are_taken o (Some (receiver.Parameters n)) 0 es ≡ true)
    by None i r k t = absurd (none-some r k)
    by (Some c) i r k t =
        let n = header_parameters (header_in (entry_at o c)) r k in
        let q = same_declaration o sort.Body body c b i e in (
          n.0,
          ap (λ y. header_in (entry_at o y)) (sym q) ∙ n.1,
          subst (λ y. are_taken o y 0 es ≡ true) (k ∙ ap Some n.2) t,
        )

-- PARAMETERS THAT ARE GIVEN VARIABLES

same_place : (s : Section) → is_place_section s ≡ is_place s
same_place section.Place = refl
same_place section.Body = refl
same_place section.Block = refl
same_place section.Parameter = refl
same_place section.Header = refl
same_place section.Value = refl
same_place section.Interaction = refl
same_place section.Any = refl
same_place section.All = refl

pub place_taken : (o : Outline) (steady : IsSteady o) (p i : ℕ) (g : Entry)
    → parameter o p i ≡ Some g → takes_place o p i ≡ is_place g.section
place_taken o steady p i g h =
    let q = parameter_entry o steady (nth o p i) g h in
    ap (λ x. option_map_or (λ (e : Entry). is_place_section e.section)
    (option_and_then (entry_at o) x) false) q.1
    ∙ ap (λ x. option_map_or (λ (e : Entry). is_place_section e.section) x false) q.2
    ∙ same_place g.section
