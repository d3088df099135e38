-- The regions in which the blocks of transitions lie.
use Rattle.std.proofs.Common.{◌≡◌, ℕ, ◌<◌, ◌≤◌, ◌^◌, Bool, true, false, if◌then◌else◌}
use Rattle.std.proofs.Common.{List, [], ◌∷◌, refl, sym, ◌∙◌, Option, Some, None}
use Rattle.std.proofs.Common.{inl, arith}
use Rattle.std.proofs.lemmas.Option.{none-some}
use Rattle.est_syntax.specs.Names.{spelled}
use Rattle.est_syntax.specs.declared.name.Used.{Used}
use Rattle.est_syntax.specs.declared.transition.Clause.{Clause}
use Rattle.est_syntax.specs.declared.transition.Clause.TheVariants as clauses
use Rattle.rule_scope.specs.declared.declaration.Member.{Member}
use Rattle.rule_scope.specs.declared.declaration.Member.TheVariants as member
use Rattle.rule_scope.specs.declared.declaration.Side.{Side}
use Rattle.rule_scope.specs.declared.declaration.Sort.TheVariants as sort
use Rattle.rule_scope.specs.declared.declaration.Standing.{Standing}
use Rattle.rule_scope.specs.declared.declaration.Within.{Within}
use Rattle.rule_scope.specs.Outline.{Outline, standing, member_at}
use Rattle.rule_scope.specs.Declaring.{lying}
use Rattle.rule_scope.specs.Uses.{declaration_of}
use Rattle.rule_declares.specs.declared.context.ClauseKind.{ClauseKind}
use Rattle.rule_declares.specs.declared.context.ClauseKind.TheVariants as kind
use Rattle.rule_declares.specs.declared.context.Given.{Given}
use Rattle.rule_declares.specs.Contexts.{is_same, dropped, given, region_of, under}
use Rattle.rule_declares.specs.Entries.{with_region}
use Rattle.rule_declares.specs.Bodies.{Clausal, interaction_in, interaction_by, interaction_at}
use Rattle.rule_declares.specs.Bodies.{side_meant, awaited, clause_declares, clauses_declare}
use Rattle.law_places.specs.Growth.{Anywhere}
use Rattle.law_places.proofs.PlacedParts.{InOrder}
use Rattle.law_places.proofs.PlacedBodies.{ClausePlaced}
use Rattle.law_places.proofs.Declaring.{vars_on}
use Rattle.law_places.proofs.BodiesGoOn.{clause_on, clauses_on}
use Rattle.law_places.proofs.DeclaringBodies.{clause_grows}
use Rattle.law_runs.proofs.Homes.{Step, step_of, Free, IsClean, Base}
use Rattle.law_runs.proofs.Homes.{homed_free, base_after, base_add, clean_fresh, clean_name}
use Rattle.law_runs.proofs.Homes.{clean_free}
use Rattle.law_runs.proofs.Meant.{regions_of}

module _ (X : ℕ → Type 0) where
  -- a region, if there is one, was opened up to a place, and has no names of `all`s
  abbrev pub OnRegion : ℕ → Outline → Option ℕ → Type 0
  OnRegion i o None = Unit {0}
  OnRegion i o (Some r) = (r ≤ i) × IsClean X o r

  -- so it is of the regions of clauses
  abbrev pub AreClean : ℕ → Outline → List Given → Type 0
  AreClean i o [] = Unit {0}
  AreClean i o (g ∷ gs) = OnRegion i o g.region × AreClean i o gs

  region_on : (i j : ℕ) (o p : Outline) (x : Option ℕ) → i ≤ j
      → ((r : ℕ) → r ≤ i → IsClean X o r → IsClean X p r) → OnRegion i o x → OnRegion j p x
  region_on i j o p None l f h = tt
  region_on i j o p (Some r) l f h = let m = h.0 in (omega arith, f r h.0 h.1)

  pub regions_on : (i j : ℕ) (o p : Outline) (gs : List Given) → i ≤ j
      → ((r : ℕ) → r ≤ i → IsClean X o r → IsClean X p r) → AreClean i o gs → AreClean j p gs
  regions_on i j o p [] l f h = tt
  regions_on i j o p (g ∷ gs) l f h =
      (region_on i j o p g.region l f h.0, regions_on i j o p gs l f h.1)

  clean_dropped : (i : ℕ) (o : Outline) (k : ClauseKind) (gs : List Given) → AreClean i o gs
      → AreClean i o (dropped k gs)
  clean_dropped i o k [] h = tt
  clean_dropped i o k (g ∷ gs) h = by (is_same k g.kind) (clean_dropped i o k gs h.1)
    where
      by : (b : Bool) → AreClean i o (dropped k gs)
          → AreClean i o (if b then [] else g ∷ dropped k gs)
      by true rest = tt
      by false rest = (h.0, rest)

  clean_given : (i : ℕ) (o : Outline) (k : ClauseKind) (x : Option ℕ) (gs : List Given)
      → OnRegion i o x → AreClean i o gs → AreClean i o (given k x gs)
  clean_given i o k x [] r h = (r, tt)
  clean_given i o k x (g ∷ gs) r h = (h.0, clean_given i o k x gs r h.1)

  clean_region : (i : ℕ) (o : Outline) (k : ClauseKind) (gs : List Given) → AreClean i o gs
      → OnRegion i o (region_of k gs)
  clean_region i o k [] h = tt
  clean_region i o k (g ∷ gs) h = by (is_same k g.kind) (clean_region i o k gs h.1)
    where
      by : (b : Bool) → OnRegion i o (region_of k gs)
          → OnRegion i o (if b then g.region else region_of k gs)
      by true rest = h.0
      by false rest = rest

  with_base : (i j : ℕ) (o : Outline) (w : Within) (x : Option ℕ) → i < j → OnRegion i o x
      → Base X (regions_of w) [] j o → Base X (regions_of (with_region x w)) [] j o
  with_base i j o w None l h base = base
  with_base i j o w (Some r) l h base = let m = h.0 in
      base_add X (regions_of w) [] r j o (omega arith) h.1 base

  -- what stands after these clauses
  pub under_base : (i j : ℕ) (o : Outline) (w : Within) (gs : List Given) → i < j
      → AreClean i o gs → Base X (regions_of w) [] j o → Base X (regions_of (under w gs)) [] j o
  under_base i j o w gs l h base =
      with_base i j o (with_region (region_of kind.Any gs) w) (region_of kind.When gs) l
      (clean_region i o kind.When gs h)
      (with_base i j o w (region_of kind.Any gs) l (clean_region i o kind.Any gs h) base)

  -- the interaction of a `when`
  interaction_clean : (rs : List ℕ) (i : ℕ) (o : Outline) (channel : ℕ) (u : Used) (s : Standing)
      → Base X rs [] i o → standing o channel (spelled u) ≡ Some s → (m : Option Member)
      → member_at o s.place ≡ m → OnRegion i o (interaction_in m s)
  interaction_clean rs i o channel u s base e None k = tt
  interaction_clean rs i o channel u s base e (Some (member.Role r)) k = tt
  interaction_clean rs i o channel u s base e (Some member.Field) k = tt
  interaction_clean rs i o channel u s base e (Some (member.Interaction senders)) k =
      let l = base.names channel (spelled u) s e in (
        omega arith,
        clean_name X rs [] i s.place channel (spelled u) s o base e refl
            (λ x. none-some (member.Interaction senders) (sym (base.members s.place x) ∙ k)),
      )

  awaited_clean : (rs : List ℕ) (i : ℕ) (o : Outline) (side : Option Side) (u : Used)
      → Base X rs [] i o → OnRegion i o (interaction_at o side u)
  awaited_clean rs i o None u base = tt
  awaited_clean rs i o (Some side) u base = by (standing o side.channel (spelled u)) refl
    where
      by : (x : Option Standing) → standing o side.channel (spelled u) ≡ x
          → OnRegion i o (interaction_by o x)
      by None e = tt
      by (Some s) e =
          interaction_clean rs i o side.channel u s base e (member_at o s.place) refl

  module _ (b : ℕ) (fits : b ≤ 2 ^ 32) where
    plain_clean : (i j : ℕ) (o p : Outline) (k : ClauseKind) (gs : List Given) → i ≤ j
        → Step i j o p → Free X i j → AreClean i o gs → AreClean j p (given k None (dropped k gs))
    plain_clean i j o p k gs l step free h =
        clean_given j p k None (dropped k gs) tt (clean_dropped j p k gs
        (regions_on i j o p gs l (λ r m c. clean_free X i j r o p step free c) h))

    -- a clause
    clause_clean : (w : Within) (c : Clause) (gs : List Given) (o : Outline) (i j : ℕ)
        → ClausePlaced i j c → i ≤ j → Base X (regions_of w) [] i o
        → Step i j o (clause_declares w c (gs, o)).1 → Free X i j → AreClean i o gs
        → AreClean j (clause_declares w c (gs, o)).1 (clause_declares w c (gs, o)).0
    clause_clean w (clauses.From states place) gs o i j h l base step free g =
        plain_clean i j o _ kind.From gs l step free g
    clause_clean w (clauses.To state place) gs o i j h l base step free g =
        plain_clean i j o _ kind.To gs l step free g
    clause_clean w (clauses.Provided condition place) gs o i j h l base step free g =
        plain_clean i j o _ kind.Provided gs l step free g
    clause_clean w (clauses.Otherwise place) gs o i j h l base step free g =
        plain_clean i j o _ kind.Provided gs l step free g
    clause_clean w (clauses.Priority value place) gs o i j h l base step free g =
        plain_clean i j o _ kind.Priority gs l step free g
    clause_clean w (clauses.Delay least most place) gs o i j h l base step free g =
        plain_clean i j o _ kind.Delay gs l step free g
    clause_clean w (clauses.When at signal place) gs o i j h l base step free g =
        let o1 = lying (under w (dropped kind.When gs)) place o in
        let base1 : Base X (regions_of w) [] j o1 =
        base_after X (regions_of w) [] i j o o1 l base step (homed_free X i j o o1 free step) in
        clean_given j o1 kind.When (awaited o1 at.name signal) (dropped kind.When gs)
        (awaited_clean (regions_of w) j o1
        (side_meant o1 (declaration_of o1 sort.Point at.name)) signal base1)
        (clean_dropped j o1 kind.When gs
        (regions_on i j o o1 gs l (λ r m c. clean_free X i j r o o1 step free c) g))
    clause_clean w (clauses.Any names place) gs o i j h l base step free g =
        let p = (clause_declares w (clauses.Any names place) (gs, o)).1 in
        let e = vars_on place j names h.1 in
        clean_given j p kind.Any (Some place) (dropped kind.Any gs)
        (e, clean_fresh X (regions_of w) [] i j place o p base step free h.0)
        (clean_dropped j p kind.Any gs
        (regions_on i j o p gs l (λ r m c. clean_free X i j r o p step free c) g))

    -- clauses
    pub clauses_clean : (w : Within) (cs : List Clause) (s : Clausal) (i j : ℕ)
        → InOrder ClausePlaced i j cs → j ≤ b → Base X (regions_of w) [] i s.1 → Free X i j
        → AreClean i s.1 s.0
        → AreClean j (clauses_declare w cs s).1 (clauses_declare w cs s).0
    clauses_clean w [] s i j h l base free g =
        regions_on i j s.1 s.1 s.0 h (λ r m c. c) g
    clauses_clean w (c ∷ cs) s i j h l base free g =
        let e = clause_on i h.0 c h.1 in
        let f = clauses_on h.0 j cs h.2 in
        let s1 = clause_declares w c s in
        let few : h.0 ≤ b = omega arith in
        let step : Step i h.0 s.1 s1.1 = step_of Anywhere true i h.0
        (clause_grows Anywhere true i h.0 (omega arith) w (inl tt) c s.0 s.1 i h.0 h.1 (omega arith)
        (omega arith)) in
        let free0 : Free X i h.0 = λ q x y z. free q x (omega arith) z in
        let free1 : Free X h.0 j = λ q x y z. free q (omega arith) y z in
        clauses_clean w cs s1 h.0 j h.2 l
        (base_after X (regions_of w) [] i h.0 s.1 s1.1 e base step
        (homed_free X i h.0 s.1 s1.1 free0 step))
        free1 (clause_clean w c s.0 s.1 i h.0 h.1 e base step free0 g)
