-- The targets of `attach` in statements, while their outline grows and when it is whole.
use Rattle.std.proofs.Common.{◌≡◌, ℕ, suc, ◌<◌, ◌≤◌, ◌^◌, Bool, true, false, if◌then◌else◌}
use Rattle.std.proofs.Common.{List, [], ◌∷◌, refl, sym, subst, ap, ◌∙◌, Option, Some, None}
use Rattle.std.proofs.Common.{inl, inr, nat_eq, arith}
use Rattle.std.specs.Prelude.{◌⊎◌}
use Rattle.std.specs.Option.{option_or}
use Rattle.std.proofs.lemmas.Option.{same_Some, none-some}
use Rattle.est_syntax.specs.Names.{spelled, is_name}
use Rattle.est_syntax.specs.declared.name.Used.{Used}
use Rattle.est_syntax.specs.declared.constant.Constant.{Constant}
use Rattle.est_syntax.specs.declared.expression.Access.{Access}
use Rattle.est_syntax.specs.declared.statement.Statement.{Statement, Row_of-Statement}
use Rattle.est_syntax.specs.declared.statement.Statement.{end_of-Statement, more_of-Statement}
use Rattle.est_syntax.specs.declared.statement.Statement.{Row_of-Arm, end_of-Arm, more_of-Arm}
use Rattle.est_syntax.specs.declared.statement.Statement.{Held-Statement-If-2}
use Rattle.est_syntax.specs.declared.statement.Statement.TheVariants as statement
use Rattle.est_syntax.specs.declared.statement.Statement.TheBlock as held
use Rattle.rule_scope.specs.declared.declaration.Entry.{Entry}
use Rattle.rule_scope.specs.declared.declaration.Section.TheVariants as section
use Rattle.rule_scope.specs.declared.declaration.Standing.{Standing}
use Rattle.rule_scope.specs.declared.declaration.Within.{Within}
use Rattle.rule_scope.specs.Outline.{Outline, standing, member_at}
use Rattle.rule_scope.specs.Declaring.{declared_by, declared, taken, lying, last_from}
use Rattle.rule_declares.specs.Entries.{inner, in_section}
use Rattle.rule_declares.specs.Lasts.{text_last}
use Rattle.rule_declares.specs.Bodies.{statement_place, expr_place, all_by, over_header, all_named}
use Rattle.rule_declares.specs.Bodies.{arm_lying, within_declares, row_statements, held_declares}
use Rattle.rule_declares.specs.Bodies.{row_arms, statements_declare}
use Rattle.law_places.specs.Growth.{Anywhere, g_declared, g_lying}
use Rattle.law_places.proofs.Placed.{ConstantPlaced, short_text, text_from}
use Rattle.law_places.proofs.PlacedParts.{InOrder}
use Rattle.law_places.proofs.PlacedBodies.{StatementPlaced, StatementsPlaced, SecondPlaced}
use Rattle.law_places.proofs.PlacedBodies.{ArmsPlaced}
use Rattle.law_places.proofs.Declaring.{order_on, short_on}
use Rattle.law_places.proofs.BodiesGoOn.{one_constant_on, statement_on, statements_on, second_on}
use Rattle.law_places.proofs.BodiesGoOn.{arms_on, turn_on}
use Rattle.law_places.proofs.DeclaringBodies.{statement_begins, statement_ends, arm_grows}
use Rattle.law_places.proofs.DeclaringBodies.{within_grows, row_grows, second_grows, arms_grow}
use Rattle.law_places.proofs.DeclaringBodies.{statements_grow}
use Rattle.law_places.proofs.Tables.{one_more, one_number}
use Rattle.law_runs.specs.InsideTargets.{IsPlaceOf, IsAroundOrNone}
use Rattle.law_runs.specs.AttachTargets.{Target, Targets, RowTargets}
use Rattle.law_runs.specs.AttachTargets.{SecondTargets, ArmTargets, BlockTargets}
use Rattle.law_runs.specs.NamesOfAlls.{NamesAll, RowNamesAll, SecondNamesAll, ArmsNameAll}
use Rattle.law_runs.specs.NamesOfAlls.{BlockNamesAll}
use Rattle.law_runs.proofs.Homes.{EachNew, Step, step_of, Onward, onward, Homed}
use Rattle.law_runs.proofs.Homes.{IsAlone, Base, Covers, homed_self, homed_then}
use Rattle.law_runs.proofs.Homes.{Inside, base_lying, homed_wider, base_after, base_later}
use Rattle.law_runs.proofs.Homes.{old_or_new, covers_in, declared_members}
use Rattle.law_runs.proofs.Homes.{covers_left, covers_right}
use Rattle.law_runs.proofs.NamesPlaced.{names_between, row_between, second_between}
use Rattle.law_runs.proofs.NamesPlaced.{arms_between, block_between}
use Rattle.law_runs.proofs.Meant.{regions_of, LiesIn, lies_in, lying_reached, declared_found}

-- THE NAME OF AN `ALL`

-- the region of a name that is new by a declaration
new_name : (x : Option Standing) (b c : Bool) (s t : Standing) → x ≡ None
    → option_or x (if b then (if c then Some s else None) else None) ≡ Some t
    → (b ≡ true) × (s ≡ t)
new_name (Some x) b c s t e h = absurd (none-some x (sym e))
new_name None true true s t e h = (refl, same_Some s t h)
new_name None true false s t e h = absurd (none-some t h)
new_name None false c s t e h = absurd (none-some t h)

declared_new : (t : Option Standing) (o : Outline) (w : Within) (u : Used) (last : ℕ) (e : Entry)
    → EachNew o (declared_by t w u last e o) (λ r s. (r ≡ w.region) × (s.place ≡ u.place))
declared_new (Some x) o w u last e r name s none h = absurd (none-some s (sym none ∙ h))
declared_new None o w u last e r name s none h =
    let new : Standing = record { place = u.place; last = last } in
    let n = new_name (standing o r name) (nat_eq r w.region) (is_name name (spelled u)) new s none
    (sym (one_more o.regions w.region (spelled u) new r name) ∙ h) in
    (one_number r w.region n.0, ap (λ (z : Standing). z.place) (sym n.1))

arm_same : (w : Within) (cs : List Constant) (o : Outline) (r : ℕ) (name : List ℕ)
    → standing (arm_lying w cs o) r name ≡ standing o r name
arm_same w [] o r name = refl
arm_same w (c ∷ cs) o r name = refl

arm_members : (w : Within) (cs : List Constant) (o : Outline) (q : ℕ)
    → member_at (arm_lying w cs o) q ≡ member_at o q
arm_members w [] o q = refl
arm_members w (c ∷ cs) o q = refl

module _ (X : ℕ → Type 0) where
  arm_homed : (i j : ℕ) (w : Within) (cs : List Constant) (o : Outline)
      → Homed X i j o (arm_lying w cs o)
  arm_homed i j w cs o = record {
    homes = λ r name s e h x. absurd (none-some s (sym e ∙ (sym (arm_same w cs o r name) ∙ h)));
    members = λ q x h. arm_members w cs o q ∙ h;
  }

  -- the name of an `all` stands in a region of its own
  all_homed : (rs ws : List ℕ) (i k : ℕ) (v : Within) (u : Used) (last : ℕ) (e : Entry)
      (o : Outline) → Base X rs ws i o → i ≤ v.region → v.region ≤ u.place → u.place < k
      → X u.place → Step i k o (declared v u last e o) → Homed X i k o (declared v u last e o)
  all_homed rs ws i k v u last e o b l m n named f = record {
    homes = λ r name s none h x. home r (new r name s none h).0;
    members = λ q x h. declared_members (taken o v (spelled u)) o v u last e q ∙ h;
  }
    where
      new : EachNew o (declared v u last e o) (λ r s. (r ≡ v.region) × (s.place ≡ u.place))
      new r name s none h = declared_new (taken o v (spelled u)) o v u last e r name s none h

      home : (r : ℕ) → r ≡ v.region → (i ≤ r) × (r < k) × IsAlone X (declared v u last e o) r
      home r z = (
        omega arith,
        omega arith,
        old_or_new o (declared v u last e o) (λ q t. t.place ≡ r → X r) f.stays
            (λ q m t y c. let a = b.names q m t y in absurd (omega arith))
            (λ q m t d y c. subst X (sym (new q m t d y).1 ∙ c) named),
      )

  -- the turn of an `all` lies in that region too, and within this `all`
  all_base : (rs ws : List ℕ) (i k : ℕ) (v : Within) (u : Used) (last : ℕ) (e : Entry)
      (o : Outline) → i ≤ k → Base X rs ws i o → i ≤ v.region → v.region ≤ u.place → u.place < k
      → X u.place → Step i k o (declared v u last e o)
      → Base X (v.region ∷ rs) (u.place ∷ ws) k (declared v u last e o)
  all_base rs ws i k v u last e o few b l m n named f =
      let c = base_after X rs ws i k o (declared v u last e o) few b f
      (all_homed rs ws i k v u last e o b l m n named f) in
      record {
        names = c.names;
        homes = c.homes;
        known = old_or_new o (declared v u last e o) (λ r s. IsPlaceOf (v.region ∷ rs) r
            → IsAroundOrNone X (u.place ∷ ws) s.place) f.stays
            (λ r name s h y. old r name s h y)
            (λ r name s d h y. inl (inl (sym (declared_new (taken o v (spelled u)) o v u last e r
            name s d h).1)));
        regions = λ r y. within c r y;
        members = c.members;
        unused = c.unused;
      }
    where
      more : (s : Standing) → IsAroundOrNone X ws s.place
          → IsAroundOrNone X (u.place ∷ ws) s.place
      more s (inl y) = inl (inr y)
      more s (inr y) = inr y

      old : (r : ℕ) (name : List ℕ) (s : Standing) → standing o r name ≡ Some s
          → (v.region ≡ r) ⊎ IsPlaceOf rs r → IsAroundOrNone X (u.place ∷ ws) s.place
      old r name s h (inl z) = inr (λ x. let a = b.homes r name s h x in
          let d : r < i = a.0 in absurd (omega arith))
      old r name s h (inr y) = more s (b.known r name s h y)

      within : Base X rs ws k (declared v u last e o) → (r : ℕ) → (v.region ≡ r) ⊎ IsPlaceOf rs r
          → r < k
      within c r (inl z) = omega arith
      within c r (inr y) = c.regions r y

-- TARGETS

module _ (X : ℕ → Type 0) (b : ℕ) (fits : b ≤ 2 ^ 32) (p : Outline) where
  -- the name of a child
  target_inside : (w : Within) (ws : List ℕ) (a : Access) (place i j : ℕ) (o : Outline)
      → place ≤ a.name.place → a.name.place < j → Base X (regions_of w) ws i o
      → LiesIn w place o → Onward j o p → Target p X (IsAroundOrNone X) ws a
  target_inside w ws a place i j o l m base lies on q h =
      let e = lies a.name.place l in
      let f = declared_found p w.own w.around a.name q e.0 (on.extents a.name.place m ∙ e.1) e.2 e.3
      h in
      let s = f.standing_is in
      let early = f.early in
      subst (IsAroundOrNone X ws) f.here
      (old_or_new o p (λ r t. (r ≡ f.region) → t.last < a.name.place → IsAroundOrNone X ws t.place)
      on.stays
      (λ r name t k z c. base.known r name t k (subst (IsPlaceOf (regions_of w)) (sym z) f.inside))
      (λ r name t d k z c. let n = on.news r name t d k in absurd (omega arith))
      f.region (spelled a.name) s f.stands refl early)

  mutual
    pub within_inside : (w : Within) (ws : List ℕ) (s : Statement) (o : Outline) (i j : ℕ)
        → StatementPlaced i j s → j ≤ b → Base X (regions_of w) ws i o
        → last_from o.extents 0 ≤ statement_place s → LiesIn w (statement_place s) o
        → Covers X i j (NamesAll s)
        → Inside X p i j o (within_declares w s o) (Targets p X (IsAroundOrNone X) ws s)
    within_inside w ws (statement.Compound' x turn place) o i j h l base reached lies cov =
        let q = h.0 in
        let r = row_inside w ws turn o place j h.1 l
        (base_later X (regions_of w) ws i place o h.0 base) reached
        (covers_in X i j place j (RowNamesAll turn) h.0 (omega arith) cov) in
        (homed_wider X place j i j o (row_statements w turn o) h.0 (omega arith) r.0, r.1)
    within_inside w ws (statement.If' condition x one other place) o i j h l base reached lies cov =
        let q = h.2 in
        let r = h.3 in
        let e = statements_on h.0 h.1 one h.4 in
        let f = second_on h.1 j other h.5 in
        let o1 = row_statements w one o in
        let o2 = held_declares w other o1 in
        let few : h.1 ≤ b = omega arith in
        let start : Base X (regions_of w) ws h.0 o =
        base_later X (regions_of w) ws i h.0 o (omega arith) base in
        let cov0 : Covers X h.0 j (λ n. RowNamesAll one n ⊎ SecondNamesAll other n) =
        covers_in X i j h.0 j (λ n. RowNamesAll one n ⊎ SecondNamesAll other n) (omega arith) (omega
        arith) cov in
        let g = row_inside w ws one o h.0 h.1 h.4 few start (omega arith)
        (covers_left X h.0 h.1 j (RowNamesAll one) (SecondNamesAll other) f
        (λ n y. (second_between other h.1 j h.5 n y).0) cov0) in
        let step1 : Step h.0 h.1 o o1 = step_of Anywhere true h.0 h.1
        (row_grows Anywhere true h.0 h.1 (omega arith) w (inl tt) one o h.0 h.1 h.4 (omega arith)
        (omega arith)) in
        let step2 : Step h.1 j o1 o2 = step_of Anywhere true h.1 j
        (second_grows Anywhere true h.1 j (omega arith) w (inl tt) other o1 h.1 j h.5 (omega arith)
        (omega arith)) in
        let base1 : Base X (regions_of w) ws h.1 o1 =
        base_after X (regions_of w) ws h.0 h.1 o o1 e start step1 g.0 in
        let k = second_inside w ws other o1 h.1 j h.5 l base1
        (step1.reached h.1 (omega arith) (omega arith))
        (covers_right X h.0 h.1 j (RowNamesAll one) (SecondNamesAll other) e
        (λ n y. (row_between one h.0 h.1 h.4 n y).1) cov0) in (
          homed_wider X h.0 j i j o o2 (omega arith) (omega arith)
              (homed_then X h.0 h.1 j o o1 o2 e f g.0 step2 k.0),
          λ on. (g.1 (onward h.1 j o1 o2 p f step2 on), k.1 on),
        )
    within_inside w ws (statement.Case' value x arms place) o i j h l base reached lies cov =
        let q = h.1 in
        let t = h.2 in
        let r = arms_inside w ws arms o h.0 j h.3 l
        (base_later X (regions_of w) ws i h.0 o (omega arith) base) (omega arith)
        (covers_in X i j h.0 j (ArmsNameAll arms) (omega arith) (omega arith) cov) in
        (homed_wider X h.0 j i j o (row_arms w arms o) (omega arith) (omega arith) r.0, r.1)
    within_inside w ws (statement.While' condition x turn place) o i j h l base reached lies cov =
        let q = h.1 in
        let t = h.2 in
        let r = row_inside w ws turn o h.0 j h.3 l
        (base_later X (regions_of w) ws i h.0 o (omega arith) base) (omega arith)
        (covers_in X i j h.0 j (RowNamesAll turn) (omega arith) (omega arith) cov) in
        (homed_wider X h.0 j i j o (row_statements w turn o) (omega arith) (omega arith) r.0, r.1)
    within_inside w ws (statement.Repeat' x turn until place) o i j h l base reached lies cov =
        let q = h.1 in
        let t = h.3 in
        let u = h.4 in
        let o1 = row_statements w turn o in
        let o2 = lying w (expr_place until) o1 in
        let few : h.0 ≤ b = omega arith in
        let r = row_inside w ws turn o place h.0 h.2 few
        (base_later X (regions_of w) ws i place o h.1 base) reached
        (covers_in X i j place h.0 (RowNamesAll turn) h.1 (omega arith) cov) in
        let step : Step h.0 j o1 o2 = step_of Anywhere true h.0 j
        (g_lying w (expr_place until) h.3 h.4) in (
          record {
            homes = λ g name s e k z. (homed_wider X place h.0 i j o o1 h.1 (omega arith) r.0).homes
                g name s e k z;
            members = λ g z k. r.0.members g z k;
          },
          λ on. r.1 (onward h.0 j o1 o2 p (omega arith) step on),
        )
    within_inside w ws (statement.For' name from down to x turn place) o i j h l base reached lies
        cov =
        let q = h.1 in
        let t = h.2 in
        let r = row_inside w ws turn o h.0 j h.3 l
        (base_later X (regions_of w) ws i h.0 o (omega arith) base) (omega arith)
        (covers_in X i j h.0 j (RowNamesAll turn) (omega arith) (omega arith) cov) in
        (homed_wider X h.0 j i j o (row_statements w turn o) (omega arith) (omega arith) r.0, r.1)
    within_inside w ws (statement.All' name over x turn place) o i j h l base reached lies cov =
        let q = h.1 in
        let r = h.2 in
        let e = short_on (suc name.place) h.0 over h.3 in
        let f = statements_on h.0 j turn h.4 in
        let g = text_from (suc name.place) h.0 over (omega arith)
        (short_text (suc name.place) h.0 over h.3) in
        let v = inner w place in
        let d = all_by (in_section section.All v) o over (over_header o over) in
        let last = text_last over in
        let o1 = all_named v name over o in
        let o2 = row_statements v turn o1 in
        let named : X name.place = cov.up name.place (inl refl) in
        let step1 : Step i h.0 o o1 = step_of Anywhere true i h.0
        (g_declared v (inl tt) name last d (omega arith) (omega arith) (omega arith)) in
        let step2 : Step h.0 j o1 o2 = step_of Anywhere true h.0 j
        (row_grows Anywhere true h.0 j (omega arith) v (inl tt) turn o1 h.0 j h.4 (omega arith)
        (omega arith)) in
        let k = row_inside v (name.place ∷ ws) turn o1 h.0 j h.4 l
        (all_base X (regions_of w) ws i h.0 v name last d o (omega arith) base q r (omega arith)
        named step1)
        (step1.reached h.0 (omega arith) (omega arith))
        (covers_right X i h.0 j (λ n. name.place ≡ n) (RowNamesAll turn) (omega arith)
        (λ n y. let z : n < h.0 = omega arith in z) cov) in (
          homed_then X i h.0 j o o1 o2 (omega arith) f
              (all_homed X (regions_of w) ws i h.0 v name last d o base q r (omega arith) named
              step1) step2 k.0,
          λ on. (named, k.1 on),
        )
    within_inside w ws (statement.Attach own child point place) o i j h l base reached lies cov = (
      homed_self X i j o,
      λ on. target_inside w ws child place i j o h.1 h.2 base lies on,
    )
    within_inside w ws _ o i j h l base reached lies cov = (homed_self X i j o, λ on. tt)

    pub row_inside : (w : Within) (ws : List ℕ) {n : _} (row : Row_of-Statement n) (o : Outline)
        (i j : ℕ) → StatementsPlaced i j row → j ≤ b → Base X (regions_of w) ws i o
        → last_from o.extents 0 ≤ i → Covers X i j (RowNamesAll row)
        → Inside X p i j o (row_statements w row o) (RowTargets p X (IsAroundOrNone X) ws row)
    row_inside w ws end_of-Statement o i j h l base reached cov = (homed_self X i j o, λ on. tt)
    row_inside w ws (more_of-Statement s more) o i j h l base reached cov =
        let place = statement_place s in
        let o1 = lying w place o in
        let o2 = within_declares w s o1 in
        let o3 = row_statements w more o2 in
        let a = statement_begins i h.0 s h.1 in
        let c = statement_ends i h.0 s h.1 in
        let e = statement_on i h.0 s h.1 in
        let f = statements_on h.0 j more h.2 in
        let few : h.0 ≤ b = omega arith in
        let start : Base X (regions_of w) ws i o1 =
        base_lying X (regions_of w) ws i place w o base in
        let early : last_from o1.extents 0 ≤ place = lying_reached w place o (omega arith) in
        let g = within_inside w ws s o1 i h.0 h.1 few start early
        (lies_in w place o (omega arith))
        (covers_left X i h.0 j (NamesAll s) (RowNamesAll more) f
        (λ n y. (row_between more h.0 j h.2 n y).0) cov) in
        let step1 : Step i h.0 o1 o2 = step_of Anywhere true i h.0
        (within_grows Anywhere true i h.0 (omega arith) w (inl tt) s o1 i h.0 h.1 (omega arith)
        (omega arith)) in
        let step2 : Step h.0 j o2 o3 = step_of Anywhere true h.0 j
        (row_grows Anywhere true h.0 j (omega arith) w (inl tt) more o2 h.0 j h.2 (omega arith)
        (omega arith)) in
        let k = row_inside w ws more o2 h.0 j h.2 l
        (base_after X (regions_of w) ws i h.0 o1 o2 e start step1 g.0)
        (step1.reached h.0 (omega arith) (omega arith))
        (covers_right X i h.0 j (NamesAll s) (RowNamesAll more) e
        (λ n y. (names_between s i h.0 h.1 n y).1) cov) in
        let all : Homed X i j o1 o3 = homed_then X i h.0 j o1 o2 o3 e f g.0 step2 k.0 in (
          record { homes = all.homes; members = all.members },
          λ on. (g.1 (onward h.0 j o2 o3 p f step2 on), k.1 on),
        )

    pub second_inside : (w : Within) (ws : List ℕ) (s : Held-Statement-If-2) (o : Outline)
        (i j : ℕ) → SecondPlaced i j s → j ≤ b → Base X (regions_of w) ws i o
        → last_from o.extents 0 ≤ i → Covers X i j (SecondNamesAll s)
        → Inside X p i j o (held_declares w s o) (SecondTargets p X (IsAroundOrNone X) ws s)
    second_inside w ws held.None' o i j h l base reached cov = (homed_self X i j o, λ on. tt)
    second_inside w ws (held.Some' x second) o i j h l base reached cov =
        row_inside w ws second o i j h l base reached cov

    pub arms_inside : (w : Within) (ws : List ℕ) {n : _} (row : Row_of-Arm n) (o : Outline)
        (i j : ℕ) → ArmsPlaced i j row → j ≤ b → Base X (regions_of w) ws i o
        → last_from o.extents 0 ≤ i → Covers X i j (ArmsNameAll row)
        → Inside X p i j o (row_arms w row o) (ArmTargets p X (IsAroundOrNone X) ws row)
    arms_inside w ws end_of-Arm o i j h l base reached cov = (homed_self X i j o, λ on. tt)
    arms_inside w ws (more_of-Arm constants s more) o i j h l base reached cov =
        let place = statement_place s in
        let o1 = arm_lying w constants o in
        let o2 = lying w place o1 in
        let o3 = within_declares w s o2 in
        let o4 = row_arms w more o3 in
        let a = statement_begins h.0 h.1 s h.3 in
        let m = statement_ends h.0 h.1 s h.3 in
        let c = order_on ConstantPlaced one_constant_on i h.0 constants h.2 in
        let e = statement_on h.0 h.1 s h.3 in
        let f = arms_on h.1 j more h.4 in
        let few : h.1 ≤ b = omega arith in
        let step0 : Step i h.0 o o1 = step_of Anywhere true i h.0
        (arm_grows Anywhere true i h.0 (omega arith) w constants o i h.0 h.2 (omega arith) (omega
        arith)) in
        let base1 : Base X (regions_of w) ws h.0 o1 =
        base_after X (regions_of w) ws i h.0 o o1 c base step0 (arm_homed X i h.0 w constants o) in
        let base2 : Base X (regions_of w) ws h.0 o2 =
        base_lying X (regions_of w) ws h.0 place w o1 base1 in
        let soon : last_from o1.extents 0 ≤ h.0 =
        step0.reached h.0 (omega arith) (omega arith) in
        let early : last_from o2.extents 0 ≤ place = lying_reached w place o1 (omega arith) in
        let cov0 : Covers X h.0 j (λ n. NamesAll s n ⊎ ArmsNameAll more n) =
        covers_in X i j h.0 j (λ n. NamesAll s n ⊎ ArmsNameAll more n) c (omega arith) cov in
        let g = within_inside w ws s o2 h.0 h.1 h.3 few base2 early
        (lies_in w place o1 (omega arith))
        (covers_left X h.0 h.1 j (NamesAll s) (ArmsNameAll more) f
        (λ n y. (arms_between more h.1 j h.4 n y).0) cov0) in
        let step1 : Step h.0 h.1 o2 o3 = step_of Anywhere true h.0 h.1
        (within_grows Anywhere true h.0 h.1 (omega arith) w (inl tt) s o2 h.0 h.1 h.3 (omega arith)
        (omega arith)) in
        let step2 : Step h.1 j o3 o4 = step_of Anywhere true h.1 j
        (arms_grow Anywhere true h.1 j (omega arith) w (inl tt) more o3 h.1 j h.4 (omega arith)
        (omega arith)) in
        let k = arms_inside w ws more o3 h.1 j h.4 l
        (base_after X (regions_of w) ws h.0 h.1 o2 o3 e base2 step1 g.0)
        (step1.reached h.1 (omega arith) (omega arith))
        (covers_right X h.0 h.1 j (NamesAll s) (ArmsNameAll more) e
        (λ n y. (names_between s h.0 h.1 h.3 n y).1) cov0) in
        let all : Homed X h.0 j o2 o4 = homed_then X h.0 h.1 j o2 o3 o4 e f g.0 step2 k.0 in (
          record {
            homes = λ r name t d y z.
                (homed_wider X h.0 j i j o2 o4 c (omega arith) all).homes r name t
                (arm_same w constants o r name ∙ d) y z;
            members = λ q z y. all.members q z (arm_members w constants o q ∙ y);
          },
          λ on. (g.1 (onward h.1 j o3 o4 p f step2 on), k.1 on),
        )

  -- the statements of a block
  pub block_inside : (w : Within) (ss : List Statement) (o : Outline) (i j : ℕ)
      → InOrder StatementPlaced i j ss → j ≤ b → Base X (regions_of w) [] i o
      → last_from o.extents 0 ≤ i → Covers X i j (BlockNamesAll ss)
      → Inside X p i j o (statements_declare w ss o) (BlockTargets p X (IsAroundOrNone X) ss)
  block_inside w [] o i j h l base reached cov = (homed_self X i j o, λ on. tt)
  block_inside w (s ∷ ss) o i j h l base reached cov =
      let place = statement_place s in
      let o1 = lying w place o in
      let o2 = within_declares w s o1 in
      let o3 = statements_declare w ss o2 in
      let a = statement_begins i h.0 s h.1 in
      let c = statement_ends i h.0 s h.1 in
      let e = statement_on i h.0 s h.1 in
      let f = turn_on h.0 j ss h.2 in
      let few : h.0 ≤ b = omega arith in
      let start : Base X (regions_of w) [] i o1 =
      base_lying X (regions_of w) [] i place w o base in
      let early : last_from o1.extents 0 ≤ place = lying_reached w place o (omega arith) in
      let g = within_inside w [] s o1 i h.0 h.1 few start early (lies_in w place o (omega arith))
      (covers_left X i h.0 j (NamesAll s) (BlockNamesAll ss) f
      (λ n y. (block_between ss h.0 j h.2 n y).0) cov) in
      let step1 : Step i h.0 o1 o2 = step_of Anywhere true i h.0
      (within_grows Anywhere true i h.0 (omega arith) w (inl tt) s o1 i h.0 h.1 (omega arith)
      (omega arith)) in
      let step2 : Step h.0 j o2 o3 = step_of Anywhere true h.0 j
      (statements_grow Anywhere true h.0 j (omega arith) w (inl tt) ss o2 h.0 j h.2 (omega arith)
      (omega arith)) in
      let k = block_inside w ss o2 h.0 j h.2 l
      (base_after X (regions_of w) [] i h.0 o1 o2 e start step1 g.0)
      (step1.reached h.0 (omega arith) (omega arith))
      (covers_right X i h.0 j (NamesAll s) (BlockNamesAll ss) e
      (λ n y. (names_between s i h.0 h.1 n y).1) cov) in
      let all : Homed X i j o1 o3 = homed_then X i h.0 j o1 o2 o3 e f g.0 step2 k.0 in (
        record { homes = all.homes; members = all.members },
        λ on. (g.1 (onward h.0 j o2 o3 p f step2 on), k.1 on),
      )
