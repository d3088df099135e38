-- The targets of `attach` in the blocks of bodies and routines.
use Rattle.std.proofs.Common.{◌≡◌, ℕ, suc, ◌<◌, ◌≤◌, ◌^◌, false, true, List, [], ◌∷◌, ◌++◌, refl}
use Rattle.std.proofs.Common.{sym, subst, ap, ◌∙◌, Option, Some, None, inl, inr, arith, Bool}
use Rattle.std.proofs.Common.{if◌then◌else◌}
use Rattle.std.specs.Prelude.{◌⊎◌}
use Rattle.std.proofs.lemmas.Option.{none-some}
use Rattle.est_syntax.specs.Names.{spelled}
use Rattle.est_syntax.specs.declared.name.Used.{Used}
use Rattle.est_syntax.specs.declared.body.Part.{Part, out-Part, Row_of-Part}
use Rattle.est_syntax.specs.declared.body.Part.{end_of-Part, more_of-Part}
use Rattle.est_syntax.specs.declared.body.Part.TheBlock as first
use Rattle.est_syntax.specs.declared.body.Part.TheVariants as part
use Rattle.est_syntax.specs.declared.body.Body.{Body', Row_of-Group, end_of-Group}
use Rattle.est_syntax.specs.declared.body.Body.{more_of-Group, Held-Body-first}
use Rattle.est_syntax.specs.declared.transition.Group.{Group', Row_of-Transition}
use Rattle.est_syntax.specs.declared.transition.Group.{end_of-Transition, more_of-Transition}
use Rattle.rule_scope.specs.declared.declaration.Sort.TheVariants as sort
use Rattle.rule_scope.specs.declared.declaration.Meant.{Meant}
use Rattle.rule_scope.specs.declared.declaration.Meant.TheVariants.{Nothing, Predeclared}
use Rattle.rule_scope.specs.declared.declaration.Meant.TheVariants.{Unseen, Seen}
use Rattle.rule_scope.specs.declared.declaration.Within.{Within}
use Rattle.rule_scope.specs.Outline.{Outline, entry_at, extent_at}
use Rattle.rule_scope.specs.Declaring.{lying, last_from, taken, with_closed, with_header}
use Rattle.rule_scope.specs.Uses.{is_sort, meant_as, meaning}
use Rattle.rule_declares.specs.Entries.{plain, inner, body_regions}
use Rattle.rule_declares.specs.Contexts.{under}
use Rattle.rule_declares.specs.declared.context.Given.{Given}
use Rattle.rule_declares.specs.Declares.{formals_declare}
use Rattle.rule_declares.specs.Bodies.{statements_declare, clauses_declare, body_named}
use Rattle.rule_declares.specs.Bodies.{body_header, header_given, inside, routine_named}
use Rattle.rule_declares.specs.Bodies.{head_declares, to_lying, closed_by, part_declares, row_parts}
use Rattle.rule_declares.specs.Bodies.{first_declares, row_groups, row_transitions, parts_declare}
use Rattle.law_places.specs.Growth.{Anywhere, g_then}
use Rattle.law_places.proofs.PlacedParts.{InOrder, FormalPlaced}
use Rattle.law_places.proofs.PlacedBodies.{PartPlaced, PartsPlaced, FirstPlaced, GroupsPlaced}
use Rattle.law_places.proofs.PlacedBodies.{TransitionsPlaced}
use Rattle.law_places.proofs.Declaring.{order_on, formal_on, formals_grow}
use Rattle.law_places.proofs.BodiesGoOn.{turn_on, name_on, clauses_on, part_on, parts_on, first_on}
use Rattle.law_places.proofs.BodiesGoOn.{groups_on, transitions_on}
use Rattle.law_places.proofs.DeclaringBodies.{statements_grow, clauses_grow, body_named_grows}
use Rattle.law_places.proofs.DeclaringBodies.{named_grows, routine_named_grows, result_grows}
use Rattle.law_places.proofs.DeclaringBodies.{to_grows, closed_grows, part_grows, parts_grow}
use Rattle.law_places.proofs.DeclaringBodies.{first_grows, groups_grow, transitions_grow}
use Rattle.law_places.proofs.DeclaringBodies.{listed_parts_grow}
use Rattle.law_runs.specs.InsideTargets.{IsAroundOrNone}
use Rattle.mean_blocks.specs.NamesInRuns.{place_in}
use Rattle.law_runs.specs.NamesOfAlls.{BlockNamesAll, PartNamesAll, PartsNameAll, FirstNamesAll}
use Rattle.law_runs.specs.NamesOfAlls.{GroupsNameAll, TransitionsNameAll, ListedNameAll}
use Rattle.law_runs.proofs.Homes.{declared_extents, step_then, Inside}
use Rattle.law_runs.proofs.Homes.{Step, step_of, onward, Same, same_self}
use Rattle.law_runs.proofs.Homes.{same_amended, onward_same, Homed, Free, IsClean, Base, Covers}
use Rattle.law_runs.proofs.Homes.{homed_self, homed_then, homed_same, homed_free}
use Rattle.law_runs.proofs.Homes.{base_after, base_add, clean_fresh, clean_name}
use Rattle.law_runs.proofs.Homes.{clean_free, clean_after, clean_same, covers_in, covers_left}
use Rattle.law_runs.proofs.Homes.{covers_right, free_before}
use Rattle.law_runs.proofs.NamesPlaced.{block_between, first_between, groups_between}
use Rattle.law_runs.proofs.NamesPlaced.{transitions_between, part_between, parts_between}
use Rattle.law_runs.proofs.NamesPlaced.{listed_between}
use Rattle.law_runs.proofs.Meant.{regions_of, lies_in, declared_found}
use Rattle.law_runs.proofs.Statements.{block_inside}
use Rattle.law_runs.proofs.Regions.{AreClean, regions_on, under_base, clauses_clean}
use Rattle.law_runs.proofs.InsideParts.{FirstInside, TransitionsInside, GroupsInside}
use Rattle.law_runs.proofs.InsideParts.{PartInside, PartsInside, ListedInside}
use Rattle.law_runs.proofs.Beginnings.{FirstBegins, TransitionsBegin, GroupsBegin, PartBegins}
use Rattle.law_runs.proofs.Beginnings.{PartsBegin, ListedBegin, after_place}

-- THE HEADER OF A BODY

as_place : (o : Outline) (m : Meant) (p : ℕ) → meant_as o sort.Header m ≡ Some p
    → place_in m ≡ Some p
as_place o Nothing p h = absurd (none-some p h)
as_place o (Predeclared n) p h = absurd (none-some p h)
as_place o (Unseen q) p h = absurd (none-some p h)
as_place o (Seen q) p h = by (is_sort sort.Header (entry_at o q)) h
  where
    by : (b : Bool) → (if b then Some q else None) ≡ Some p → Some q ≡ Some p
    by true e = e
    by false e = absurd (none-some p e)

closed_same : (x : Part) (o : Outline) → Same o (closed_by x o)
unfolding out-Part denote.Hole.Carrier.out
closed_same (part.Routine' name formals result a parts statements place) o =
    same_amended o (with_closed _) name.place
closed_same _ o = same_self o

body_extents : (w : Within) (name : Used) (o : Outline)
    → (body_named w name o).extents ≡ (lying w name.place o).extents
body_extents w name o =
    declared_extents (taken (lying w name.place o) w (spelled name)) (lying w name.place o) w name
    name.place (plain w sort.Body)

module _ (X : ℕ → Type 0) (b : ℕ) (fits : b ≤ 2 ^ 32) (p : Outline) where
  -- the initialize part of a body
  first_inside : (w : Within) (f : Held-Body-first) (o : Outline) (i j : ℕ) → FirstPlaced i j f
      → j ≤ b → FirstBegins f → Base X (regions_of w) [] i o → last_from o.extents 0 ≤ i
      → Covers X i j (FirstNamesAll f) → Inside X p i j o (first_declares w f o) (FirstInside X p f)
  first_inside w first.None' o i j h l begins base reached cov = (homed_self X i j o, λ on. tt)
  first_inside w (first.Some' to x parts statements place) o i j h l begins base reached cov =
      let c = name_on i h.0 to h.2 in
      let d = parts_on h.0 h.1 parts h.3 in
      let e = h.4 in
      let after = after_place place j statements h.5 begins in
      let f = turn_on (suc place) j statements after in
      let few : suc place ≤ b = omega arith in
      let v = inner w place in
      let o1 = to_lying w to o in
      let o2 = row_parts v parts o1 in
      let o3 = statements_declare v statements o2 in
      let free : Free X i (suc place) =
      free_before X i (suc place) j (BlockNamesAll statements) f
      (λ n y. (block_between statements (suc place) j after n y).0) cov in
      let step : Step i (suc place) o o2 = step_of Anywhere true i (suc place)
      (g_then (to_grows Anywhere true i (suc place) (omega arith) w to o i h.0 h.2 (omega arith)
      (omega arith))
      (parts_grow Anywhere true i (suc place) (omega arith) v (inl tt) parts o1 h.0 h.1 h.3 (omega
      arith) (omega arith))) in
      let step1 : Step (suc place) j o2 o3 = step_of Anywhere true (suc place) j
      (statements_grow Anywhere true (suc place) j (omega arith) v (inl tt) statements o2 (suc
      place) j after (omega arith) (omega arith)) in
      let quiet : Homed X i (suc place) o o2 = homed_free X i (suc place) o o2 free step in
      let around : Base X (regions_of w) [] (suc place) o2 =
      base_after X (regions_of w) [] i (suc place) o o2 (omega arith) base step quiet in
      let own : Base X (regions_of v) [] (suc place) o2 =
      base_add X (regions_of w) [] place (suc place) o2 (omega arith)
      (clean_fresh X (regions_of w) [] i (suc place) place o o2 base step free (omega arith))
      around in
      let k = block_inside X b fits p v statements o2 (suc place) j after l own
      (step.reached (suc place) (omega arith) (omega arith))
      (covers_in X i j (suc place) j (BlockNamesAll statements) (omega arith) (omega arith) cov) in
      (homed_then X i (suc place) j o o2 o3 (omega arith) f quiet step1 k.0, k.1)

  -- transitions
  transitions_inside : (w : Within) {n : _} (row : Row_of-Transition n) (gs : List Given)
      (o : Outline) (i j : ℕ) → TransitionsPlaced i j row → j ≤ b → TransitionsBegin row
      → Base X (regions_of w) [] i o → last_from o.extents 0 ≤ i → AreClean X i o gs
      → Covers X i j (TransitionsNameAll row)
      → Inside X p i j o (row_transitions w row (gs, o)).1 (TransitionsInside X p row)
  transitions_inside w end_of-Transition gs o i j h l begins base reached clean cov =
      (homed_self X i j o, λ on. tt)
  transitions_inside w (more_of-Transition cs name x parts statements place rest) gs o i j h l
      begins base reached clean cov =
      let c = clauses_on i h.0 cs h.4 in
      let q = h.5 in
      let d = parts_on h.1 h.2 parts h.6 in
      let r = h.7 in
      let n = h.3 in
      let after = after_place place n statements h.8 begins.0 in
      let e = turn_on (suc place) n statements after in
      let f = transitions_on n j rest h.9 in
      let few : n ≤ b = omega arith in
      let s1 = clauses_declare w cs (gs, o) in
      let u = under w s1.0 in
      let v = inner u place in
      let o1 = row_parts v parts s1.1 in
      let o2 = statements_declare v statements o1 in
      let o3 = (row_transitions w rest (s1.0, o2)).1 in
      let free : Free X i (suc place) =
      free_before X i (suc place) j (λ m. BlockNamesAll statements m ⊎ TransitionsNameAll rest m)
      (omega arith) (λ m y. from m y) cov in
      let free0 : Free X i h.0 = λ m x y z. free m x (omega arith) z in
      let free1 : Free X h.0 (suc place) = λ m x y z. free m (omega arith) y z in
      let step1 : Step h.0 (suc place) s1.1 o1 = step_of Anywhere true h.0 (suc place)
      (parts_grow Anywhere true h.0 (suc place) (omega arith) v (inl tt) parts s1.1 h.1 h.2 h.6
      (omega arith) (omega arith)) in
      let step : Step i (suc place) o o1 = step_of Anywhere true i (suc place)
      (g_then (clauses_grow Anywhere true i (suc place) (omega arith) w (inl tt) cs (gs, o) i h.0
      h.4 (omega arith) (omega arith))
      (parts_grow Anywhere true i (suc place) (omega arith) v (inl tt) parts s1.1 h.1 h.2 h.6
      (omega arith) (omega arith))) in
      let step2 : Step (suc place) n o1 o2 = step_of Anywhere true (suc place) n
      (statements_grow Anywhere true (suc place) n (omega arith) v (inl tt) statements o1 (suc
      place) n after (omega arith) (omega arith)) in
      let step3 : Step n j o2 o3 = step_of Anywhere true n j
      (transitions_grow Anywhere true n j (omega arith) w (inl tt) rest (s1.0, o2) n j h.9 (omega
      arith) (omega arith)) in
      let quiet : Homed X i (suc place) o o1 = homed_free X i (suc place) o o1 free step in
      let given0 : AreClean X h.0 s1.1 s1.0 =
      clauses_clean X b fits w cs (gs, o) i h.0 h.4 (omega arith) base free0 clean in
      let given1 : AreClean X h.0 o1 s1.0 = regions_on X h.0 h.0 s1.1 o1 s1.0 (omega arith)
      (λ m y z. clean_free X h.0 (suc place) m s1.1 o1 step1 free1 z) given0 in
      let around : Base X (regions_of w) [] (suc place) o1 =
      base_after X (regions_of w) [] i (suc place) o o1 (omega arith) base step quiet in
      let own : Base X (regions_of v) [] (suc place) o1 =
      base_add X (regions_of u) [] place (suc place) o1 (omega arith)
      (clean_fresh X (regions_of w) [] i (suc place) place o o1 base step free (omega arith))
      (under_base X h.0 (suc place) o1 w s1.0 (omega arith) given1 around) in
      let cov0 : Covers X (suc place) j
      (λ m. BlockNamesAll statements m ⊎ TransitionsNameAll rest m) =
      covers_in X i j (suc place) j (λ m. BlockNamesAll statements m ⊎ TransitionsNameAll rest m)
      (omega arith) (omega arith) cov in
      let k = block_inside X b fits p v statements o1 (suc place) n after few own
      (step.reached (suc place) (omega arith) (omega arith))
      (covers_left X (suc place) n j (BlockNamesAll statements) (TransitionsNameAll rest) f
      (λ m y. (transitions_between rest n j h.9 m y).0) cov0) in
      let base2 : Base X (regions_of w) [] n o2 =
      base_after X (regions_of w) [] (suc place) n o1 o2 e around step2 k.0 in
      let given2 : AreClean X n o2 s1.0 = regions_on X h.0 n o1 o2 s1.0 (omega arith)
      (λ m y z. clean_after X (suc place) n m o1 o2 (omega arith) step2 k.0 z) given1 in
      let t = transitions_inside w rest s1.0 o2 n j h.9 l begins.1 base2
      (step2.reached n (omega arith) (step.reached n (omega arith) (omega arith))) given2
      (covers_right X (suc place) n j (BlockNamesAll statements) (TransitionsNameAll rest) e
      (λ m y. (block_between statements (suc place) n after m y).1) cov0) in (
        homed_then X i (suc place) j o o1 o3 (omega arith) (omega arith) quiet
            (step_then (suc place) n j o1 o2 o3 e f step2 step3)
            (homed_then X (suc place) n j o1 o2 o3 e f k.0 step3 t.0),
        λ on. (k.1 (onward n j o2 o3 p f step3 on), t.1 on),
      )
    where
      from : (m : ℕ) → BlockNamesAll statements m ⊎ TransitionsNameAll rest m → suc place ≤ m
      from m (inl y) = (block_between statements (suc place) h.3
          (after_place place h.3 statements h.8 begins.0) m y).0
      from m (inr y) =
          let e = turn_on (suc place) h.3 statements
          (after_place place h.3 statements h.8 begins.0) in
          let z = (transitions_between rest h.3 j h.9 m y).0 in omega arith

  groups_inside : (w : Within) {n : _} (row : Row_of-Group n) (o : Outline) (i j : ℕ)
      → GroupsPlaced i j row → j ≤ b → GroupsBegin row → Base X (regions_of w) [] i o
      → last_from o.extents 0 ≤ i → Covers X i j (GroupsNameAll row)
      → Inside X p i j o (row_groups w row o) (GroupsInside X p row)
  groups_inside w end_of-Group o i j h l begins base reached cov = (homed_self X i j o, λ on. tt)
  groups_inside w (more_of-Group (Group' x transitions) rest) o i j h l begins base reached cov =
      let e = transitions_on i h.0 transitions h.1 in
      let f = groups_on h.0 j rest h.2 in
      let few : h.0 ≤ b = omega arith in
      let o1 = (row_transitions w transitions ([], o)).1 in
      let o2 = row_groups w rest o1 in
      let g = transitions_inside w transitions [] o i h.0 h.1 few begins.0 base reached tt
      (covers_left X i h.0 j (TransitionsNameAll transitions) (GroupsNameAll rest) f
      (λ m y. (groups_between rest h.0 j h.2 m y).0) cov) in
      let step1 : Step i h.0 o o1 = step_of Anywhere true i h.0
      (transitions_grow Anywhere true i h.0 (omega arith) w (inl tt) transitions ([], o) i h.0 h.1
      (omega arith) (omega arith)) in
      let step2 : Step h.0 j o1 o2 = step_of Anywhere true h.0 j
      (groups_grow Anywhere true h.0 j (omega arith) w (inl tt) rest o1 h.0 j h.2 (omega arith)
      (omega arith)) in
      let k = groups_inside w rest o1 h.0 j h.2 l begins.1
      (base_after X (regions_of w) [] i h.0 o o1 e base step1 g.0)
      (step1.reached h.0 (omega arith) (omega arith))
      (covers_right X i h.0 j (TransitionsNameAll transitions) (GroupsNameAll rest) e
      (λ m y. (transitions_between transitions i h.0 h.1 m y).1) cov) in (
        homed_then X i h.0 j o o1 o2 e f g.0 step2 k.0,
        λ on. (g.1 (onward h.0 j o1 o2 p f step2 on), k.1 on),
      )

  -- the header of a body is open in it
  header_clean : (w : Within) (name header : Used) (o : Outline) (i : ℕ) → i ≤ name.place
      → name.place < header.place → Base X (regions_of w) [] i o
      → last_from o.extents 0 ≤ i → Free X i (suc name.place)
      → Step i (suc name.place) o (body_named w name o) → (r : ℕ)
      → body_header (body_named w name o) header ≡ Some r
      → (r < suc name.place) × IsClean X (body_named w name o) r
  header_clean w name header o i l m base reached free step r h =
      let o0 = lying w name.place o in
      let o1 = body_named w name o in
      let base1 : Base X (regions_of w) [] (suc name.place) o1 =
      base_after X (regions_of w) [] i (suc name.place) o o1 (omega arith) base step
      (homed_free X i (suc name.place) o o1 free step) in
      let e = lies_in w name.place o (omega arith) header.place (omega arith) in
      let same : o1.extents ≡ o0.extents = body_extents w name o in
      let f = declared_found o1 w.own w.around header r e.0
      (ap (λ es. extent_at es header.place) same ∙ e.1) e.2 e.3
      (as_place o1 (meaning o1 header) r h) in
      let s = f.standing_is in
      let n = base1.names f.region (spelled header) s f.stands in
      let z = f.here in (
        omega arith,
        clean_name X (regions_of w) [] (suc name.place) r f.region (spelled header) s o1 base1
            f.stands f.here
            (λ x. not_all s.place r f.here
            (base1.known f.region (spelled header) s f.stands f.inside) x),
      )
    where
      not_all : (q r : ℕ) → q ≡ r → IsAroundOrNone X [] q → X r → ⊥
      not_all q r z (inl y) x = y
      not_all q r z (inr y) x = y (subst X (sym z) x)

  body_base : (w : Within) (name : Used) (header : Option ℕ) (j : ℕ) (o : Outline)
      → name.place < j → ((r : ℕ) → header ≡ Some r → (r < j) × IsClean X o r)
      → IsClean X o name.place → Base X (regions_of w) [] j o
      → Base X (body_regions name.place header ++ (w.own ++ w.around)) [] j o
  body_base w name None j o l h clean base =
      base_add X (regions_of w) [] name.place j o l clean base
  body_base w name (Some r) j o l h clean base = let k = h r refl in
      base_add X (r ∷ regions_of w) [] name.place j o l clean
      (base_add X (regions_of w) [] r j o k.0 k.1 base)

  mutual
    part_inside : (w : Within) (x : Part) (o : Outline) (i j : ℕ) → PartPlaced i j x → j ≤ b
        → PartBegins x → Base X (regions_of w) [] i o → last_from o.extents 0 ≤ i
        → Covers X i j (PartNamesAll x) → Inside X p i j o (part_declares w x o) (PartInside X p x)
    part_inside w (part.Body (Body' name header x parts f y groups)) o i j h l begins base reached
        cov =
        let q = h.2 in
        let r = h.3 in
        let m = suc header.place in
        let c = parts_on m h.0 parts h.4 in
        let d = first_on h.0 h.1 f h.5 in
        let e = groups_on h.1 j groups h.6 in
        let few0 : h.0 ≤ b = omega arith in
        let few1 : h.1 ≤ b = omega arith in
        let o1 = body_named w name o in
        let v = inside w name header o1 in
        let o2 = header_given name header o1 in
        let o3 = row_parts v parts o2 in
        let o4 = first_declares v f o3 in
        let o5 = row_groups v groups o4 in
        let free : Free X i m = free_before X i m j
        (λ n. PartsNameAll parts n ⊎ (FirstNamesAll f n ⊎ GroupsNameAll groups n)) (omega arith)
        (λ n z. from n z) cov in
        let free0 : Free X i (suc name.place) = λ n a z k. free n a (omega arith) k in
        let named : Step i (suc name.place) o o1 = step_of Anywhere true i (suc name.place)
        (body_named_grows Anywhere true i (suc name.place) (omega arith) w (inl tt) name o q (omega
        arith)) in
        let step0 : Step i m o o2 = step_of Anywhere true i m
        (named_grows Anywhere true i m (omega arith) w (inl tt) name header o q (omega arith)) in
        let step1 : Step m h.0 o2 o3 = step_of Anywhere true m h.0
        (parts_grow Anywhere true m h.0 (omega arith) v (inl tt) parts o2 m h.0 h.4 (omega arith)
        (omega arith)) in
        let step2 : Step h.0 h.1 o3 o4 = step_of Anywhere true h.0 h.1
        (first_grows Anywhere true h.0 h.1 (omega arith) v (inl tt) f o3 h.0 h.1 h.5 (omega arith)
        (omega arith)) in
        let step3 : Step h.1 j o4 o5 = step_of Anywhere true h.1 j
        (groups_grow Anywhere true h.1 j (omega arith) v (inl tt) groups o4 h.1 j h.6 (omega arith)
        (omega arith)) in
        let quiet : Homed X i m o o2 = homed_free X i m o o2 free step0 in
        let around : Base X (regions_of w) [] m o2 =
        base_after X (regions_of w) [] i m o o2 (omega arith) base step0 quiet in
        let same : Same o1 o2 = same_amended o1 (with_header (body_header o1 header)) name.place in
        let base2 : Base X (regions_of v) [] m o2 =
        body_base w name (body_header o1 header) m o2 (omega arith)
        (λ n z. let k = header_clean w name header o i q r base reached free0 named n z in
        let a = k.0 in (omega arith, clean_same X n o1 o2 same k.1))
        (clean_fresh X (regions_of w) [] i m name.place o o2 base step0 free q) around in
        let cov0 : Covers X m j
        (λ n. PartsNameAll parts n ⊎ (FirstNamesAll f n ⊎ GroupsNameAll groups n)) =
        covers_in X i j m j
        (λ n. PartsNameAll parts n ⊎ (FirstNamesAll f n ⊎ GroupsNameAll groups n)) (omega arith)
        (omega arith) cov in
        let cov1 : Covers X h.0 j (λ n. FirstNamesAll f n ⊎ GroupsNameAll groups n) =
        covers_right X m h.0 j (PartsNameAll parts)
        (λ n. FirstNamesAll f n ⊎ GroupsNameAll groups n) c
        (λ n z. (parts_between parts m h.0 h.4 n z).1) cov0 in
        let g1 = parts_inside v parts o2 m h.0 h.4 few0 begins.0 base2
        (step0.reached m (omega arith) (omega arith))
        (covers_left X m h.0 j (PartsNameAll parts)
        (λ n. FirstNamesAll f n ⊎ GroupsNameAll groups n) (omega arith) (λ n z. after n z) cov0) in
        let base3 : Base X (regions_of v) [] h.0 o3 =
        base_after X (regions_of v) [] m h.0 o2 o3 c base2 step1 g1.0 in
        let soon : last_from o3.extents 0 ≤ h.0 = step1.reached h.0 (omega arith)
        (step0.reached h.0 (omega arith) (omega arith)) in
        let g2 = first_inside v f o3 h.0 h.1 h.5 few1 begins.1 base3 soon
        (covers_left X h.0 h.1 j (FirstNamesAll f) (GroupsNameAll groups) e
        (λ n z. (groups_between groups h.1 j h.6 n z).0) cov1) in
        let g3 = groups_inside v groups o4 h.1 j h.6 l begins.2
        (base_after X (regions_of v) [] h.0 h.1 o3 o4 d base3 step2 g2.0)
        (step2.reached h.1 (omega arith) (omega arith))
        (covers_right X h.0 h.1 j (FirstNamesAll f) (GroupsNameAll groups) d
        (λ n z. (first_between f h.0 h.1 h.5 n z).1) cov1) in
        let step23 : Step h.0 j o3 o5 = step_then h.0 h.1 j o3 o4 o5 d e step2 step3 in
        let step13 : Step m j o2 o5 =
        step_then m h.0 j o2 o3 o5 c (omega arith) step1 step23 in (
          homed_then X i m j o o2 o5 (omega arith) (omega arith) quiet step13
              (homed_then X m h.0 j o2 o3 o5 c (omega arith) g1.0 step23
              (homed_then X h.0 h.1 j o3 o4 o5 d e g2.0 step3 g3.0)),
          λ on. (
            g1.1 (onward h.0 j o3 o5 p (omega arith) step23 on),
            g2.1 (onward h.1 j o4 o5 p e step3 on),
            g3.1 on,
          ),
        )
      where
        after : (n : ℕ) → FirstNamesAll f n ⊎ GroupsNameAll groups n → h.0 ≤ n
        after n (inl z) = (first_between f h.0 h.1 h.5 n z).0
        after n (inr z) = let d = first_on h.0 h.1 f h.5 in
            let k = (groups_between groups h.1 j h.6 n z).0 in omega arith

        from : (n : ℕ) → PartsNameAll parts n ⊎ (FirstNamesAll f n ⊎ GroupsNameAll groups n)
            → suc header.place ≤ n
        from n (inl z) = (parts_between parts (suc header.place) h.0 h.4 n z).0
        from n (inr z) = let c = parts_on (suc header.place) h.0 parts h.4 in
            let k = after n z in omega arith
    part_inside w (part.Routine' name formals result x parts statements place) o i j h l begins base
        reached cov =
        let q = h.3 in
        let r = h.7 in
        let c = order_on FormalPlaced formal_on (suc name.place) h.0 formals h.4 in
        let d = name_on h.0 h.1 result h.5 in
        let e = parts_on h.1 h.2 parts h.6 in
        let f = turn_on place j statements h.8 in
        let v = inner w name.place in
        let o1 = routine_named w name result o in
        let o2 = formals_declare v formals o1 in
        let o3 = head_declares v name formals result o1 in
        let o4 = row_parts v parts o3 in
        let o5 = statements_declare v statements o4 in
        let free : Free X i place = free_before X i place j (BlockNamesAll statements) f
        (λ n y. (block_between statements place j h.8 n y).0) cov in
        let step : Step i place o o4 = step_of Anywhere true i place
        (g_then (routine_named_grows Anywhere true i place (omega arith) w (inl tt) name result o
        (omega arith) (omega arith))
        (g_then (formals_grow Anywhere true i place (omega arith) v (inl tt) formals o1 (suc
        name.place) h.0 h.4 (omega arith) (omega arith))
        (g_then (result_grows Anywhere true i place (omega arith) v name result o2 h.0 h.1 h.5
        (omega arith) (omega arith) (omega arith))
        (parts_grow Anywhere true i place (omega arith) v (inl tt) parts o3 h.1 h.2 h.6 (omega
        arith) (omega arith))))) in
        let step1 : Step place j o4 o5 = step_of Anywhere true place j
        (statements_grow Anywhere true place j (omega arith) v (inl tt) statements o4 place j h.8
        (omega arith) (omega arith)) in
        let quiet : Homed X i place o o4 = homed_free X i place o o4 free step in
        let own : Base X (regions_of v) [] place o4 =
        base_add X (regions_of w) [] name.place place o4 (omega arith)
        (clean_fresh X (regions_of w) [] i place name.place o o4 base step free q)
        (base_after X (regions_of w) [] i place o o4 (omega arith) base step quiet) in
        let k = block_inside X b fits p v statements o4 place j h.8 l own
        (step.reached place (omega arith) (omega arith))
        (covers_in X i j place j (BlockNamesAll statements) (omega arith) (omega arith) cov) in
        (homed_then X i place j o o4 o5 (omega arith) f quiet step1 k.0, k.1)
    part_inside w x o i j h l begins base reached cov = (
      homed_free X i j o (part_declares w x o) (λ n y z k. cov.down n y z k)
          (step_of Anywhere true i j (part_grows Anywhere true i j (omega arith) w (inl tt) x o i j
          h (omega arith) (omega arith))),
      λ on. tt,
    )

    parts_inside : (w : Within) {n : _} (row : Row_of-Part n) (o : Outline) (i j : ℕ)
        → PartsPlaced i j row → j ≤ b → PartsBegin row → Base X (regions_of w) [] i o
        → last_from o.extents 0 ≤ i → Covers X i j (PartsNameAll row)
        → Inside X p i j o (row_parts w row o) (PartsInside X p row)
    parts_inside w end_of-Part o i j h l begins base reached cov = (homed_self X i j o, λ on. tt)
    parts_inside w (more_of-Part x rest) o i j h l begins base reached cov =
        let e = part_on i h.0 x h.1 in
        let f = parts_on h.0 j rest h.2 in
        let few : h.0 ≤ b = omega arith in
        let o1 = part_declares w x o in
        let o2 = closed_by x o1 in
        let o3 = row_parts w rest o2 in
        let g = part_inside w x o i h.0 h.1 few begins.0 base reached
        (covers_left X i h.0 j (PartNamesAll x) (PartsNameAll rest) f
        (λ m y. (parts_between rest h.0 j h.2 m y).0) cov) in
        let same = closed_same x o1 in
        let step1 : Step i h.0 o o2 = step_of Anywhere true i h.0
        (g_then (part_grows Anywhere true i h.0 (omega arith) w (inl tt) x o i h.0 h.1 (omega arith)
        (omega arith)) (closed_grows Anywhere true i h.0 (omega arith) x o1 i h.0 h.1 (omega
        arith))) in
        let step2 : Step h.0 j o2 o3 = step_of Anywhere true h.0 j
        (parts_grow Anywhere true h.0 j (omega arith) w (inl tt) rest o2 h.0 j h.2 (omega arith)
        (omega arith)) in
        let first : Homed X i h.0 o o2 = homed_same X i h.0 o o1 o2 same g.0 in
        let k = parts_inside w rest o2 h.0 j h.2 l begins.1
        (base_after X (regions_of w) [] i h.0 o o2 e base step1 first)
        (step1.reached h.0 (omega arith) (omega arith))
        (covers_right X i h.0 j (PartNamesAll x) (PartsNameAll rest) e
        (λ m y. (part_between x i h.0 h.1 m y).1) cov) in (
          homed_then X i h.0 j o o2 o3 e f first step2 k.0,
          λ on. (g.1 (onward_same h.0 o1 o2 p same (onward h.0 j o2 o3 p f step2 on)), k.1 on),
        )

  pub listed_inside : (w : Within) (xs : List Part) (o : Outline) (i j : ℕ)
      → InOrder PartPlaced i j xs → j ≤ b → ListedBegin xs → Base X (regions_of w) [] i o
      → last_from o.extents 0 ≤ i → Covers X i j (ListedNameAll xs)
      → Inside X p i j o (parts_declare w xs o) (ListedInside X p xs)
  listed_inside w [] o i j h l begins base reached cov = (homed_self X i j o, λ on. tt)
  listed_inside w (x ∷ xs) o i j h l begins base reached cov =
      let e = part_on i h.0 x h.1 in
      let f = order_on PartPlaced part_on h.0 j xs h.2 in
      let few : h.0 ≤ b = omega arith in
      let o1 = part_declares w x o in
      let o2 = closed_by x o1 in
      let o3 = parts_declare w xs o2 in
      let g = part_inside w x o i h.0 h.1 few begins.0 base reached
      (covers_left X i h.0 j (PartNamesAll x) (ListedNameAll xs) f
      (λ m y. (listed_between xs h.0 j h.2 m y).0) cov) in
      let same = closed_same x o1 in
      let step1 : Step i h.0 o o2 = step_of Anywhere true i h.0
      (g_then (part_grows Anywhere true i h.0 (omega arith) w (inl tt) x o i h.0 h.1 (omega arith)
      (omega arith)) (closed_grows Anywhere true i h.0 (omega arith) x o1 i h.0 h.1 (omega
      arith))) in
      let step2 : Step h.0 j o2 o3 = step_of Anywhere true h.0 j
      (listed_parts_grow Anywhere true h.0 j (omega arith) w (inl tt) xs o2 h.0 j h.2 (omega arith)
      (omega arith)) in
      let first : Homed X i h.0 o o2 = homed_same X i h.0 o o1 o2 same g.0 in
      let k = listed_inside w xs o2 h.0 j h.2 l begins.1
      (base_after X (regions_of w) [] i h.0 o o2 e base step1 first)
      (step1.reached h.0 (omega arith) (omega arith))
      (covers_right X i h.0 j (PartNamesAll x) (ListedNameAll xs) e
      (λ m y. (part_between x i h.0 h.1 m y).1) cov) in (
        homed_then X i h.0 j o o2 o3 e f first step2 k.0,
        λ on. (g.1 (onward_same h.0 o1 o2 p same (onward h.0 j o2 o3 p f step2 on)), k.1 on),
      )
