-- What the whole outline says of parts, bodies and routines, and of a specification.
use Rattle.std.proofs.Common.{inl, inr, ◌≡◌, ℕ, suc, ◌<◌, ◌≤◌, ◌^◌, Bool, true, false, List, []}
use Rattle.std.proofs.Common.{◌∷◌, refl}
use Rattle.std.proofs.Common.{sym, subst, ap, ◌∙◌, Option, Some, None, arith}
use Rattle.est_syntax.specs.declared.name.Used.{Used}
use Rattle.est_syntax.specs.declared.statement.Statement.{Statement}
use Rattle.est_syntax.specs.declared.body.Part.{Part, out-Part, Row_of-Part}
use Rattle.est_syntax.specs.declared.body.Part.{end_of-Part, more_of-Part}
use Rattle.est_syntax.specs.declared.body.Part.TheVariants as part
use Rattle.est_syntax.specs.declared.body.Body.{Body', Row_of-Group, end_of-Group}
use Rattle.est_syntax.specs.declared.body.Body.{more_of-Group, Held-Body-first}
use Rattle.est_syntax.specs.declared.body.Part.TheBlock as first
use Rattle.est_syntax.specs.declared.transition.Group.{Group', Row_of-Transition}
use Rattle.est_syntax.specs.declared.transition.Group.{end_of-Transition, more_of-Transition}
use Rattle.est_syntax.specs.declared.routine.Formal.{Formal}
use Rattle.rule_scope.specs.declared.declaration.Entry.{Entry}
use Rattle.rule_scope.specs.declared.declaration.Measured.{Measured}
use Rattle.rule_scope.specs.declared.declaration.Sort.TheVariants as sort
use Rattle.rule_scope.specs.declared.declaration.Within.{Within}
use Rattle.rule_scope.specs.Outline.{Outline, entry_at}
use Rattle.rule_scope.specs.Declaring.{empty, amended, with_kind, with_closed, with_header, lying}
use Rattle.rule_scope.specs.Uses.{same_sort, is_sort}
use Rattle.rule_kinds.specs.TypeTexts.{named_type}
use Rattle.rule_declares.specs.Contexts.{under}
use Rattle.rule_declares.specs.Entries.{plain, inner, outermost}
use Rattle.rule_declares.specs.Declares.{formals_declare}
use Rattle.rule_declares.specs.Bodies.{Clausal, statement_place, statements_declare}
use Rattle.rule_declares.specs.Bodies.{clauses_declare, body_named, body_header, header_given}
use Rattle.rule_declares.specs.Bodies.{inside}
use Rattle.rule_declares.specs.Bodies.{routine_sort, routine_named, result_given, head_declares}
use Rattle.rule_declares.specs.Bodies.{to_lying, closed_by, part_declares, row_parts}
use Rattle.rule_declares.specs.Bodies.{first_declares, row_groups, row_transitions, parts_declare}
use Rattle.rule_declares.specs.Bodies.{outline_of}
use Rattle.law_places.specs.Growth.{is_completed, KeepsSort, IsOfCompleted, IsLike, Grows, g_then}
use Rattle.law_places.specs.Growth.{g_not, g_completed, g_lying, IsBefore}
use Rattle.law_places.specs.Grown.{IsOutermost}
use Rattle.law_places.specs.Later.{Later}
use Rattle.law_places.specs.Said.{Each, IsSaid, IsOf, HasKind, FormalSaid, RoutineSaid, PartSaid}
use Rattle.law_places.specs.Said.{BodySaid, PartsSaid, FirstSaid, GroupsSaid, TransitionsSaid}
use Rattle.law_places.specs.Said.{StatementSaid, DeclarationsAreSaid}
use Rattle.law_places.specs.Growth.{Anywhere}
use Rattle.law_places.proofs.Lasting.{later_grown, before_grown, before_later}
use Rattle.law_places.proofs.Lasting.{before_lying, grows_on}
use Rattle.law_places.proofs.Lasting.{grows_wider, grows_unfinished, grows_open, anywhere}
use Rattle.law_places.proofs.Sides.{AreOpen, With, open_grown, open_with, other_sort}
use Rattle.law_places.proofs.SaidPoints.{points_said, header_said}
use Rattle.law_places.proofs.Meanings.{declaration_stays, type_stays}
use Rattle.law_places.proofs.Declared.{declared_entry, amended_here, amended_apart, either_place}
use Rattle.law_places.proofs.PlacedParts.{InOrder, FormalPlaced}
use Rattle.law_places.proofs.PlacedBodies.{NamePlaced, StatementPlaced, PartPlaced, PartsPlaced}
use Rattle.law_places.proofs.PlacedBodies.{FirstPlaced, GroupsPlaced, TransitionsPlaced, IsOfBlock}
use Rattle.law_places.proofs.PlacedBodies.{AreOfBlock}
use Rattle.law_places.proofs.Declaring.{order_on, formal_on, formals_grow}
use Rattle.law_places.proofs.BodiesGoOn.{name_on, turn_on, clauses_on, part_on, parts_on, first_on}
use Rattle.law_places.proofs.BodiesGoOn.{groups_on, transitions_on}
use Rattle.law_places.proofs.DeclaringBodies.{statements_grow, clauses_grow, named_grows}
use Rattle.law_places.proofs.DeclaringBodies.{body_named_grows}
use Rattle.law_places.proofs.DeclaringBodies.{routine_named_grows, result_grows, to_grows}
use Rattle.law_places.proofs.DeclaringBodies.{closed_grows, part_grows, parts_grow, first_grows}
use Rattle.law_places.proofs.DeclaringBodies.{groups_grow, transitions_grow, listed_parts_grow}
use Rattle.law_places.proofs.SaidTexts.{entry_was, constants_said}
use Rattle.law_places.proofs.SaidParts.{types_said, vars_said, channel_said}
use Rattle.law_places.proofs.SaidParts.{modvars_said, formals_said}
use Rattle.law_places.proofs.SaidParts.{states_said, statesets_said}
use Rattle.law_places.proofs.SaidBodies.{statements_said, clauses_said}
use Rattle.law_places.proofs.Wholes.{spec_placed}

-- what is of a sort that is completed is so as an outline grows, and as more becomes known of it
pub completed_grown : (unfinished : Bool) (k b : ℕ) (o x : Outline) (place : ℕ) → place < k
    → Grows Anywhere unfinished k b o x → IsOfCompleted o place → IsOfCompleted x place
completed_grown unfinished k b o x place l grows h e at =
    let d = entry_was Anywhere unfinished k b o x grows place l e at in
    ap (λ v. is_completed v.sort) d.2.0 ∙ h d.0 d.1

completed_amended : (f : Entry → Entry) (q : ℕ) (o : Outline) (place : ℕ) → KeepsSort f
    → IsOfCompleted o place → IsOfCompleted (amended f q o) place
completed_amended f q o place keeps h e at = either_place place q
    (λ t. here t (amended_here f q o e (subst (λ z. entry_at (amended f q o) z ≡ Some e) t at)))
    (λ t. h e (sym (amended_apart f q o place t) ∙ at))
  where
    here : place ≡ q → (d : Entry) × (entry_at o q ≡ Some d) × (e ≡ f d)
        → is_completed e.declared.sort ≡ true
    here t d = ap (λ (x : Entry). is_completed x.declared.sort) d.2
        ∙ ap (λ x. is_completed x.sort) (keeps d.0)
        ∙ h d.0 (subst (λ z. entry_at o z ≡ Some d.0) (sym t) d.1)

-- a body and a routine as they are named
body_is : (w : Within) (name : Used) (o : Outline) (e : Entry) → IsBefore name.place o
    → entry_at (body_named w name o) name.place ≡ Some e → e ≡ plain w sort.Body
body_is w name o e before at =
    declared_entry (lying w name.place o) w name name.place (plain w sort.Body) e
    (before.declarations name.place (omega arith)) at

-- so the region of a body is none of a channel
body_open : (w : Within) (name header : Used) (o : Outline) → IsBefore name.place o → is_sort
    sort.Channel (entry_at (header_given name header (body_named w name o)) name.place) ≡ false
body_open w name header o before =
    let o1 = body_named w name o in
    let h = body_header o1 header in
    other_sort sort.Channel (entry_at (header_given name header o1) name.place)
    (λ e at. one e (amended_here (with_header h) name.place o1 e at))
  where
    one : (e : Entry) → (d : Entry) × (entry_at (body_named w name o) name.place ≡ Some d)
        × (e ≡ with_header (body_header (body_named w name o) header) d)
        → same_sort sort.Channel e.declared.sort ≡ false
    one e d = ap (λ (x : Entry). same_sort sort.Channel x.declared.sort) d.2
        ∙ ap (λ (x : Entry). same_sort sort.Channel x.declared.sort)
        (body_is w name o d.0 before d.1)

pub routine_is : (w : Within) (name : Used) (result : Option Used) (o : Outline) (e : Entry)
    → IsBefore name.place o → entry_at (routine_named w name result o) name.place ≡ Some e
    → e ≡ plain w (routine_sort result)
routine_is w name result o e before at =
    declared_entry (lying w name.place o) w name name.place (plain w (routine_sort result)) e
    (before.declarations name.place (omega arith)) at

pub routine_completed : (w : Within) (result : Option Used)
    → is_completed (plain w (routine_sort result)).declared.sort ≡ true
routine_completed w None = refl
routine_completed w (Some u) = refl

-- what is known of a declaration outside an unfinished text is the same later
pub as_it_was : (e f : Entry) → IsLike false e f → f ≡ e
as_it_was e f h = h.1 refl

-- a function that got its kind, and then was closed
function_is : (w : Within) (c : Bool) (kind : Option Measured) (f e6 e5 e3 e2 e1 : Entry) → f ≡ e6
    → e6 ≡ with_closed c e5 → e5 ≡ e3 → e3 ≡ with_kind kind e2 → e2 ≡ e1
    → e1 ≡ plain w sort.Function → f ≡ with_closed c (with_kind kind (plain w sort.Function))
function_is w c kind f e6 e5 e3 e2 e1 h6 h5 h4 h3 h2 h1 = cc

function_has : (w : Within) (c : Bool) (kind whole : Option Measured) (f : Entry)
    → f ≡ with_closed c (with_kind kind (plain w sort.Function)) → whole ≡ kind
    → HasKind sort.Function whole f
function_has w c kind whole f same stays = (
  ap (λ (z : Entry). z.declared.sort) same,
  ap (λ (z : Entry). z.kind) same ∙ sym stays,
  ap (λ (z : Entry). z.dims) same,
)

-- a procedure that was closed
procedure_is : (w : Within) (c : Bool) (f e6 e5 e2 e1 : Entry) → f ≡ e6 → e6 ≡ with_closed c e5
    → e5 ≡ e2 → e2 ≡ e1 → e1 ≡ plain w sort.Procedure → IsOf sort.Procedure f
procedure_is w c f e6 e5 e2 e1 h6 h5 h4 h3 h2 =
    let same : f ≡ with_closed c (plain w sort.Procedure) = cc in (
      ap (λ (z : Entry). z.declared.sort) same,
      ap (λ (z : Entry). z.kind) same,
      ap (λ (z : Entry). z.dims) same,
    )

-- the kind of a result completes its routine
pub completed_result : (v : Within) (name : Used) (result : Option Used) (o : Outline)
    → IsOfCompleted o name.place → IsOfCompleted (result_given v name result o) name.place
completed_result v name None o own = own
completed_result v name (Some u) o own = completed_amended (with_kind (named_type (lying v u.place
    o) u)) name.place (lying v u.place o) name.place (λ e. refl) own

result_completes : (v : Within) (name : Used) (result : Option Used) (o : Outline) (k l b : ℕ)
    → NamePlaced k l result → l ≤ b → IsOfCompleted o name.place
    → Grows Anywhere true k b o (result_given v name result o)
result_completes v name None o k l b h m own = g_not
result_completes v name (Some u) o k l b h m own =
    let q = h.1 in
    g_then (g_lying v u.place h.0 (omega arith))
    (g_completed (with_kind (named_type (lying v u.place o) u)) name.place refl (λ e. refl) own)

module _ (b : ℕ) (fits : b ≤ 2 ^ 32) (p : Outline) where
  -- the parts of a block
  block_part_said : (unfinished : Bool) (w : Within) (x : Part) (o : Outline) (i j : ℕ)
      → PartPlaced i j x → IsOfBlock x → j ≤ b → IsBefore i o
      → Grows Anywhere unfinished j b (closed_by x (part_declares w x o)) p → PartSaid p x
  unfolding out-Part denote.Hole.Carrier.out
  block_part_said unfinished w (part.Consts cs) o i j h own l before rest =
      constants_said unfinished b fits p w cs o i j h l before rest
  block_part_said unfinished w (part.Types ts) o i j h own l before rest =
      types_said unfinished b fits p w ts o i j h l before rest
  block_part_said unfinished w (part.Vars vs) o i j h own l before rest =
      vars_said unfinished b fits p w vs o i j h l before rest
  block_part_said unfinished w _ o i j h own l before rest = absurd own

  block_parts_said : (unfinished : Bool) (w : Within) {n : _} (row : Row_of-Part n) (o : Outline)
      (i j : ℕ) → PartsPlaced i j row → AreOfBlock row → j ≤ b → IsBefore i o
      → Grows Anywhere unfinished j b (row_parts w row o) p → PartsSaid p row
  block_parts_said unfinished w end_of-Part o i j h own l before rest = tt
  block_parts_said unfinished w (more_of-Part x more) o i j h own l before rest =
      let e = part_on i h.0 x h.1 in
      let f = parts_on h.0 j more h.2 in
      let o1 = part_declares w x o in
      let o2 = closed_by x o1 in
      let before2 : IsBefore h.0 o2 =
      before_grown Anywhere unfinished i h.0 o o2
      (g_then (part_grows Anywhere unfinished i h.0 (omega arith) w (inl tt) x o i h.0 h.1 (omega
      arith)
      (omega arith)) (closed_grows Anywhere unfinished i h.0 (omega arith) x o1 i h.0 h.1 (omega
      arith)))
      before e in (
        block_part_said unfinished w x o i h.0 h.1 own.0 (omega arith) before (grows_on Anywhere
            unfinished
            h.0 j b o2 (row_parts w more o2) p f l (parts_grow Anywhere unfinished h.0 j (omega
            arith) w (inl tt) more
            o2 h.0 j h.2 (omega arith) (omega arith)) rest),
        block_parts_said unfinished w more o2 h.0 j h.2 own.1 l before2 rest,
      )

  -- the parts of a block, and its statements
  block_said : (unfinished : Bool) (w : Within) {n : _} (row : Row_of-Part n)
      (statements : List Statement) (place : ℕ) (o : Outline) (i k j : ℕ) → PartsPlaced i k row
      → AreOfBlock row → k ≤ place → InOrder StatementPlaced place j statements → j ≤ b
      → IsBefore i o
      → Grows Anywhere unfinished j b (statements_declare w statements (row_parts w row o)) p
      → PartsSaid p row × Each (StatementSaid p) statements
  block_said unfinished w row statements place o i k j h own q t l before rest =
      let e = parts_on i k row h in
      let f = turn_on place j statements t in
      let o1 = row_parts w row o in
      let o2 = statements_declare w statements o1 in
      let before1 : IsBefore k o1 =
      before_grown Anywhere unfinished i k o o1
      (parts_grow Anywhere unfinished i k (omega arith) w (inl tt) row o i k h (omega arith) (omega
      arith)) before e
      in (
        block_parts_said unfinished w row o i k h own (omega arith) before
            (grows_on Anywhere unfinished k j b o1 o2 p (omega arith) l
            (statements_grow Anywhere unfinished k j (omega arith) w (inl tt) statements o1 place j
            t q (omega arith))
            rest),
        statements_said unfinished b fits p w statements o1 place j t l
            (before_later k place o1 q before1) rest,
      )

  -- a body
  body_said : (w : Within) (name header : Used) (o : Outline) (i : ℕ) → i ≤ name.place
      → name.place < header.place → suc header.place ≤ b → IsBefore i o
      → Grows Anywhere false (suc header.place) b (header_given name header (body_named w name o)) p
      → IsSaid p (BodySaid p header) name
  body_said w name header o i l m n before rest f at =
      let o1 = body_named w name o in
      let h = body_header o1 header in
      let o2 = header_given name header o1 in
      let start : IsBefore name.place o = before_later i name.place o l before in
      let own : IsOfCompleted o1 name.place =
      λ e t. ap (λ (x : Entry). is_completed x.declared.sort) (body_is w name o e start t) in
      let till = header.place in
      let grows : Grows Anywhere true (suc till) b o1 p =
      g_then (g_completed (with_header h) name.place refl (λ e. refl) own)
      (grows_unfinished Anywhere (suc till) b rest) in
      let before1 : IsBefore (suc till) o1 =
      before_grown Anywhere true i (suc till) o o1
      (body_named_grows Anywhere true i (suc till) (omega arith) w (inl tt) name o l (omega arith))
      before (omega arith) in
      let later : Later (suc till) till o1 p =
      later_grown Anywhere true (suc till) b o1 p grows before1 till (omega arith) in
      let e2 = entry_was Anywhere false (suc till) b o2 p rest name.place (omega arith) f at in
      let e1 = amended_here (with_header h) name.place o1 e2.0 e2.1 in
      let same : f ≡ with_header h e1.0 = e2.2.1 refl ∙ e1.2 in (
        ap (λ (x : Entry). x.declared.sort) same
            ∙ ap (λ (x : Entry). x.declared.sort) (body_is w name o e1.0 start e1.1),
        ap (λ (x : Entry). x.header) same
            ∙ sym (declaration_stays (suc till) till o1 p later header (omega arith) sort.Header
            refl),
        ap (λ (x : Entry). x.kind) same
            ∙ ap (λ (x : Entry). x.kind) (body_is w name o e1.0 start e1.1),
        ap (λ (x : Entry). x.dims) same
            ∙ ap (λ (x : Entry). x.dims) (body_is w name o e1.0 start e1.1),
      )

  -- the text of a routine, after which it is closed
  grows_closed : (place : ℕ) (c : Bool) (a m j : ℕ) (o o5 : Outline) → a ≤ m → m ≤ j → j ≤ b
      → IsOfCompleted o5 place → Grows Anywhere false m j o o5
      → Grows Anywhere false j b (amended (with_closed c) place o5) p
      → Grows Anywhere true a b o p
  grows_closed place c a m j o o5 l r n own text rest =
      g_then (grows_wider Anywhere true a b m j l n (grows_unfinished Anywhere m j text))
      (g_then (g_completed (with_closed c) place refl (λ e. refl) own)
      (grows_wider Anywhere true a b j b (omega arith) (omega arith)
      (grows_unfinished Anywhere j b rest)))

  -- a function from its name to the end: it gets its kind, and then it is closed
  function_entry : (w : Within) (c : Bool) (kind : Option Measured) (place k m j : ℕ)
      (o1 o2 x o5 : Outline) → place < k → place < m → place < j
      → Grows Anywhere false (suc place) k o1 o2 → entry_at x place ≡ entry_at o2 place
      → Grows Anywhere false m j (amended (with_kind kind) place x) o5
      → Grows Anywhere false j b (amended (with_closed c) place o5) p
      → ((e : Entry) → entry_at o1 place ≡ Some e → e ≡ plain w sort.Function)
      → (f : Entry) → entry_at p place ≡ Some f
      → f ≡ with_closed c (with_kind kind (plain w sort.Function))
  function_entry w c kind place k m j o1 o2 x o5 l n r grows same text rest is f at =
      let o3 = amended (with_kind kind) place x in
      let e6 = entry_was Anywhere false j b (amended (with_closed c) place o5) p rest place r f at
      in
      let e5 = amended_here (with_closed c) place o5 e6.0 e6.1 in
      let e3 = entry_was Anywhere false m j o3 o5 text place n e5.0 e5.1 in
      let e2 = amended_here (with_kind kind) place x e3.0 e3.1 in
      let e1 = entry_was Anywhere false (suc place) k o1 o2 grows place (omega arith) e2.0
      (sym same ∙ e2.1) in
      function_is w c kind f e6.0 e5.0 e3.0 e2.0 e1.0 (as_it_was e6.0 f e6.2) e5.2
      (as_it_was e3.0 e5.0 e3.2) e2.2 (as_it_was e1.0 e2.0 e1.2) (is e1.0 e1.1)

  function_grows : (c : Bool) (kind : Option Measured) (place till : ℕ) (x o5 : Outline) (m j : ℕ)
      → suc till ≤ m → place < m → m ≤ j → j ≤ b → IsOfCompleted x place
      → Grows Anywhere false m j (amended (with_kind kind) place x) o5
      → Grows Anywhere false j b (amended (with_closed c) place o5) p
      → Grows Anywhere true (suc till) b x p
  function_grows c kind place till x o5 m j l n r s own text rest =
      let o3 = amended (with_kind kind) place x in
      let own3 : IsOfCompleted o3 place =
      completed_amended (with_kind kind) place x place (λ e. refl) own in
      let own5 : IsOfCompleted o5 place = completed_grown false m j o3 o5 place n text own3 in
      g_then (g_completed (with_kind kind) place refl (λ e. refl) own)
      (grows_closed place c (suc till) m j o3 o5 l r s own5 text rest)

  -- a procedure likewise
  procedure_entry : (w : Within) (c : Bool) (place k m j : ℕ) (o1 o2 o5 : Outline) → place < k
      → place < m → place < j → Grows Anywhere false (suc place) k o1 o2
      → Grows Anywhere false m j o2 o5
      → Grows Anywhere false j b (amended (with_closed c) place o5) p
      → ((e : Entry) → entry_at o1 place ≡ Some e → e ≡ plain w sort.Procedure)
      → (f : Entry) → entry_at p place ≡ Some f → IsOf sort.Procedure f
  procedure_entry w c place k m j o1 o2 o5 l n r grows text rest is f at =
      let e6 = entry_was Anywhere false j b (amended (with_closed c) place o5) p rest place r f at
      in
      let e5 = amended_here (with_closed c) place o5 e6.0 e6.1 in
      let e2 = entry_was Anywhere false m j o2 o5 text place n e5.0 e5.1 in
      let e1 = entry_was Anywhere false (suc place) k o1 o2 grows place (omega arith) e2.0 e2.1 in
      procedure_is w c f e6.0 e5.0 e2.0 e1.0 (as_it_was e6.0 f e6.2) e5.2
      (as_it_was e2.0 e5.0 e2.2) (as_it_was e1.0 e2.0 e1.2) (is e1.0 e1.1)

  -- the result of a routine: its kind is known after its formals, and stays until it is closed
  result_said : (w v : Within) (name : Used) (result : Option Used) (o o2 o5 : Outline) (c : Bool)
      (i k m j : ℕ) → IsBefore name.place o → suc name.place ≤ k → NamePlaced k m result → m ≤ j
      → j ≤ b → IsBefore k o2
      → Grows Anywhere false (suc name.place) k (routine_named w name result o) o2
      → Grows Anywhere false m j (result_given v name result o2) o5
      → Grows Anywhere false j b (amended (with_closed c) name.place o5) p
      → IsSaid p (RoutineSaid p result) name
  result_said w v name None o o2 o5 c i k m j start l h n r before grows text rest =
      procedure_entry w c name.place k m j (routine_named w name None o) o2 o5 (omega arith)
      (omega arith) (omega arith) grows text rest (λ e y. routine_is w name None o e start y)
  result_said w v name (Some u) o o2 o5 c i k m j start l h n r before grows text rest = λ f at.
      let q = h.0 in
      let t = h.1 in
      let till = u.place in
      let o1 = routine_named w name (Some u) o in
      let x = lying v till o2 in
      let kind = named_type x u in
      let own1 : IsOfCompleted o1 name.place =
      λ e y. ap (λ (z : Entry). is_completed z.declared.sort) (routine_is w name (Some u) o e start
      y) in
      let own2 : IsOfCompleted x name.place =
      completed_grown false (suc name.place) k o1 o2 name.place (omega arith) grows own1 in
      let all : Grows Anywhere true (suc till) b x p =
      function_grows c kind name.place till x o5 m j (omega arith) (omega arith) n r own2 text rest
      in
      let before1 : IsBefore (suc till) x =
      before_lying (suc till) till v o2 (before_later k (suc till) o2 (omega arith) before) in
      let later : Later (suc till) till x p =
      later_grown Anywhere true (suc till) b x p all before1 till (omega arith) in
      function_has w c kind (named_type p u) f (function_entry w c kind name.place k m j o1 o2 x o5
      (omega arith) (omega arith) (omega arith) grows refl text rest (λ e y. routine_is w name
      (Some u) o e start y) f at) (type_stays (suc till) till x p later u (omega arith))

  -- a routine
  routine_said : (w : Within) (name : Used) (formals : List Formal) (result : Option Used) {n : _}
      (row : Row_of-Part n) (statements : List Statement) (place : ℕ) (o : Outline) (c : Bool)
      (i k l m j : ℕ) → i ≤ name.place → InOrder FormalPlaced (suc name.place) k formals
      → NamePlaced k l result → PartsPlaced l m row → AreOfBlock row → m ≤ place
      → InOrder StatementPlaced place j statements → j ≤ b → IsBefore i o
      → Grows Anywhere false j b (amended (with_closed c) name.place (statements_declare (inner w
      name.place)
      statements (row_parts (inner w name.place) row (head_declares (inner w name.place) name
      formals
      result (routine_named w name result o))))) p
      → IsSaid p (RoutineSaid p result) name × Each (FormalSaid p) formals × PartsSaid p row
      × Each (StatementSaid p) statements
  routine_said w name formals result row statements place o c i k l m j q fs r ps own t ss few
      before
      rest =
      let v = inner w name.place in
      let d = order_on FormalPlaced formal_on (suc name.place) k formals fs in
      let e = name_on k l result r in
      let f = parts_on l m row ps in
      let g = turn_on place j statements ss in
      let o1 = routine_named w name result o in
      let o2 = formals_declare v formals o1 in
      let o3 = result_given v name result o2 in
      let o4 = row_parts v row o3 in
      let o5 = statements_declare v statements o4 in
      let o6 = amended (with_closed c) name.place o5 in
      let start : IsBefore name.place o = before_later i name.place o q before in
      let before1 : IsBefore (suc name.place) o1 =
      before_grown Anywhere false name.place (suc name.place) o o1
      (routine_named_grows Anywhere false name.place (suc name.place) (omega arith) w (inl tt) name
      result o
      (omega arith) (omega arith)) start (omega arith) in
      let grows2 : Grows Anywhere false (suc name.place) k o1 o2 =
      formals_grow Anywhere false (suc name.place) k (omega arith) v (inl tt) formals o1 (suc
      name.place) k fs
      (omega arith) (omega arith) in
      let before2 : IsBefore k o2 =
      before_grown Anywhere false (suc name.place) k o1 o2 grows2 before1 (omega arith) in
      let grows3 : Grows Anywhere false name.place l o o3 =
      g_then (routine_named_grows Anywhere false name.place l (omega arith) w (inl tt) name result o
      (omega arith)
      (omega arith))
      (g_then (grows_wider Anywhere false name.place l (suc name.place) k (omega arith) (omega
      arith) grows2)
      (result_grows Anywhere false name.place l (omega arith) v name result o2 k l r (omega arith)
      (omega arith) (omega arith))) in
      let before3 : IsBefore l o3 =
      before_grown Anywhere false name.place l o o3 grows3 start (omega arith) in
      let text : Grows Anywhere false l j o3 o5 =
      g_then (parts_grow Anywhere false l j (omega arith) v (inl tt) row o3 l m ps (omega arith)
      (omega arith))
      (statements_grow Anywhere false l j (omega arith) v (inl tt) statements o4 place j ss (omega
      arith)
      (omega arith)) in
      let own1 : IsOfCompleted o1 name.place =
      λ x y. ap (λ (z : Entry). is_completed z.declared.sort) (routine_is w name result o x start y)
      ∙ routine_completed w result in
      let own2 : IsOfCompleted o2 name.place =
      completed_grown false (suc name.place) k o1 o2 name.place (omega arith) grows2 own1 in
      let own3 : IsOfCompleted o3 name.place = completed_result v name result o2 own2 in
      let own5 : IsOfCompleted o5 name.place =
      completed_grown false l j o3 o5 name.place (omega arith) text own3 in
      let closing : Grows Anywhere true j b o5 p =
      g_then (g_completed (with_closed c) name.place refl (λ x. refl) own5)
      (grows_unfinished Anywhere j b rest) in
      let after : Grows Anywhere true k b o2 p =
      g_then (result_completes v name result o2 k l b r (omega arith) own2)
      (grows_on Anywhere true k j b o3 o5 p (omega arith) few
      (grows_wider Anywhere true k j l j e (omega arith) (grows_unfinished Anywhere l j text))
      closing) in
      let s = block_said true v row statements place o3 l m j ps own t ss few before3 closing in (
        result_said w v name result o o2 o5 c i k l j start (omega arith) r (omega arith) few
            before2 grows2 text rest,
        formals_said true b fits p v formals o1 (suc name.place) k fs (omega arith) before1 after,
        s.0,
        s.1,
      )

  -- the initialize part of a body
  first_said : (w : Within) (f : Held-Body-first) (o : Outline) (i j : ℕ) → FirstPlaced i j f
      → j ≤ b → IsBefore i o → Grows Anywhere false j b (first_declares w f o) p → FirstSaid p f
  first_said w first.None' o i j h l before rest = tt
  first_said w (first.Some' to a parts statements place) o i j h l before rest =
      let e = name_on i h.0 to h.2 in
      let d = parts_on h.0 h.1 parts h.3 in
      let q = h.4 in
      let t = turn_on place j statements h.5 in
      let o1 = to_lying w to o in
      block_said false (inner w place) parts statements place o1 h.0 h.1 j h.3 h.6 h.4 h.5 l
      (before_grown Anywhere false i h.0 o o1
      (to_grows Anywhere false i h.0 (omega arith) w to o i h.0 h.2 (omega arith) (omega arith))
      before e) rest

  -- transitions
  mutual
    groups_said : (w : Within) {n : _} (row : Row_of-Group n) (o : Outline) (i j : ℕ)
        → GroupsPlaced i j row → j ≤ b → IsBefore i o → Grows Anywhere false j b (row_groups w row
        o) p
        → GroupsSaid p row
    groups_said w end_of-Group o i j h l before rest = tt
    groups_said w (more_of-Group (Group' a transitions) more) o i j h l before rest =
        let e = transitions_on i h.0 transitions h.1 in
        let f = groups_on h.0 j more h.2 in
        let o1 = (row_transitions w transitions ([], o)).1 in
        let before1 : IsBefore h.0 o1 =
        before_grown Anywhere false i h.0 o o1
        (transitions_grow Anywhere false i h.0 (omega arith) w (inl tt) transitions ([], o) i h.0
        h.1 (omega arith)
        (omega arith)) before e in (
          transitions_said w transitions ([], o) i h.0 h.1 (omega arith) before (grows_on Anywhere
              false h.0
              j b o1 (row_groups w more o1) p f l (groups_grow Anywhere false h.0 j (omega arith) w
              (inl tt) more o1
              h.0 j h.2 (omega arith) (omega arith)) rest),
          groups_said w more o1 h.0 j h.2 l before1 rest,
        )

    transitions_said : (w : Within) {n : _} (row : Row_of-Transition n) (s : Clausal) (i j : ℕ)
        → TransitionsPlaced i j row → j ≤ b → IsBefore i s.1
        → Grows Anywhere false j b (row_transitions w row s).1 p → TransitionsSaid p row
    transitions_said w end_of-Transition s i j h l before rest = tt
    transitions_said w (more_of-Transition cs name a parts statements place more) s i j h l before
        rest =
        let k = h.0 in
        let n = h.3 in
        let c = clauses_on i k cs h.4 in
        let q = h.5 in
        let r = h.7 in
        let d = parts_on h.1 h.2 parts h.6 in
        let e = turn_on place n statements h.8 in
        let f = transitions_on n j more h.9 in
        let s1 = clauses_declare w cs s in
        let v = inner (under w s1.0) place in
        let o1 = row_parts v parts s1.1 in
        let o2 = statements_declare v statements o1 in
        let s2 : Clausal = (s1.0, o2) in
        let before1 : IsBefore k s1.1 =
        before_grown Anywhere false i k s.1 s1.1
        (clauses_grow Anywhere false i k (omega arith) w (inl tt) cs s i k h.4 (omega arith) (omega
        arith)) before c
        in
        let block : Grows Anywhere false k n s1.1 o2 =
        g_then (parts_grow Anywhere false k n (omega arith) v (inl tt) parts s1.1 h.1 h.2 h.6 q
        (omega arith))
        (statements_grow Anywhere false k n (omega arith) v (inl tt) statements o1 place n h.8
        (omega arith)
        (omega arith)) in
        let before2 : IsBefore n o2 = before_grown Anywhere false k n s1.1 o2 block before1 (omega
        arith) in
        let rest2 : Grows Anywhere false n b o2 p =
        grows_on Anywhere false n j b o2 (row_transitions w more s2).1 p f l
        (transitions_grow Anywhere false n j (omega arith) w (inl tt) more s2 n j h.9 (omega arith)
        (omega arith))
        rest in
        let rest1 : Grows Anywhere false k b s1.1 p =
        grows_on Anywhere false k n b s1.1 o2 p (omega arith) (omega arith) block rest2 in
        let t = block_said false v parts statements place s1.1 h.1 h.2 n h.6 h.10 r h.8 (omega
        arith)
        (before_later k h.1 s1.1 q before1) rest2 in (
          clauses_said false b fits p w cs s i k h.4 (omega arith) before rest1,
          t.0,
          t.1,
          transitions_said w more s2 n j h.9 l before2 rest,
        )

  -- parts
  mutual
    unfolding out-Part denote.Hole.Carrier.out

    part_said : (R : ℕ → Type 0) (w : Within) (x : Part) (o : Outline) (i j : ℕ) → R w.region
        → PartPlaced i j x → j ≤ b → IsBefore i o → AreOpen R i o
        → Grows R false j b (closed_by x (part_declares w x o)) p → PartSaid p x
    part_said R w (part.Consts cs) o i j own h l before are rest =
        constants_said false b fits p w cs o i j h l before (anywhere R false j b rest)
    part_said R w (part.Types ts) o i j own h l before are rest =
        types_said false b fits p w ts o i j h l before (anywhere R false j b rest)
    part_said R w (part.Channel c) o i j own h l before are rest =
        channel_said false b fits p w c o i j h l before (anywhere R false j b rest)
    part_said R w (part.Header x) o i j own h l before are rest =
        header_said R false b fits p w x o i j own h l before are rest
    part_said R w (part.Body (Body' name header a parts f c groups)) o i j own h l before are rest =
        let k = h.0 in
        let m = h.1 in
        let q = h.2 in
        let r = h.3 in
        let till = suc header.place in
        let d = parts_on till k parts h.4 in
        let e = first_on k m f h.5 in
        let g = groups_on m j groups h.6 in
        let o1 = body_named w name o in
        let v = inside w name header o1 in
        let o2 = header_given name header o1 in
        let o3 = row_parts v parts o2 in
        let o4 = first_declares v f o3 in
        let o5 = row_groups v groups o4 in
        let more : Grows (With R name.place) false j b o5 p =
        grows_open R (With R name.place) false j b (λ y z. inl z) rest in
        let rest4 : Grows (With R name.place) false m b o4 p =
        grows_on (With R name.place) false m j b o4 o5 p g l
        (groups_grow (With R name.place) false m j (omega arith) v (inl (inr refl)) groups o4 m j
        h.6 (omega arith) (omega arith)) more in
        let rest3 : Grows (With R name.place) false k b o3 p =
        grows_on (With R name.place) false k m b o3 o4 p e (omega arith)
        (first_grows (With R name.place) false k m (omega arith) v (inl (inr refl)) f o3 k m h.5
        (omega arith) (omega arith)) rest4 in
        let rest2 : Grows (With R name.place) false till b o2 p =
        grows_on (With R name.place) false till k b o2 o3 p d (omega arith)
        (parts_grow (With R name.place) false till k (omega arith) v (inl (inr refl)) parts o2 till
        k h.4 (omega arith) (omega arith)) rest3 in
        let named : Grows R false i till o o2 =
        named_grows R false i till (omega arith) w (inl own) name header o q (omega arith) in
        let before2 : IsBefore till o2 =
        before_grown R false i till o o2 named before (omega arith) in
        let are2 : AreOpen (With R name.place) till o2 =
        open_with R till name.place o2 (open_grown R R false i till o o2 (omega arith) named are)
        (omega arith) (body_open w name header o (before_later i name.place o q before)) in
        let before3 : IsBefore k o3 =
        before_grown Anywhere false till k o2 o3
        (parts_grow Anywhere false till k (omega arith) v (inl tt) parts o2 till k h.4 (omega arith)
        (omega arith))
        before2 d in
        let before4 : IsBefore m o4 =
        before_grown Anywhere false k m o3 o4
        (first_grows Anywhere false k m (omega arith) v (inl tt) f o3 k m h.5 (omega arith) (omega
        arith)) before3 e in (
          body_said w name header o i q r (omega arith) before
              (anywhere (With R name.place) false till b rest2),
          parts_said (With R name.place) v parts o2 till k (inr refl) h.4 (omega arith) before2 are2
              rest3,
          first_said v f o3 k m h.5 (omega arith) before3
              (anywhere (With R name.place) false m b rest4),
          groups_said v groups o4 m j h.6 l before4 (anywhere R false j b rest),
        )
    part_said R w (part.Modvars ms) o i j own h l before are rest =
        modvars_said false b fits p w ms o i j h l before (anywhere R false j b rest)
    part_said R w (part.Points ps) o i j own h l before are rest =
        points_said R false b fits p w ps o i j own h l before are rest
    part_said R w (part.Vars vs) o i j own h l before are rest =
        vars_said false b fits p w vs o i j h l before (anywhere R false j b rest)
    part_said R w (part.States us) o i j own h l before are rest =
        states_said false b fits p w us o i j h l before (anywhere R false j b rest)
    part_said R w (part.StateSets ss) o i j own h l before are rest =
        statesets_said false b fits p w ss o i j h l before (anywhere R false j b rest)
    part_said R w (part.Routine' name formals result a parts statements place) o i j own h l before
        are rest =
        routine_said w name formals result parts statements place o _ i h.0 h.1 h.2 j h.3 h.4 h.5
        h.6 h.9 h.7 h.8 l before (anywhere R false j b rest)

    parts_said : (R : ℕ → Type 0) (w : Within) {n : _} (row : Row_of-Part n) (o : Outline) (i j : ℕ)
        → R w.region → PartsPlaced i j row → j ≤ b → IsBefore i o → AreOpen R i o
        → Grows R false j b (row_parts w row o) p → PartsSaid p row
    parts_said R w end_of-Part o i j own h l before are rest = tt
    parts_said R w (more_of-Part x more) o i j own h l before are rest =
        let e = part_on i h.0 x h.1 in
        let f = parts_on h.0 j more h.2 in
        let o1 = part_declares w x o in
        let o2 = closed_by x o1 in
        let grows : Grows R false i h.0 o o2 =
        g_then (part_grows R false i h.0 (omega arith) w (inl own) x o i h.0 h.1 (omega arith)
        (omega arith)) (closed_grows R false i h.0 (omega arith) x o1 i h.0 h.1 (omega arith)) in
        let before2 : IsBefore h.0 o2 = before_grown R false i h.0 o o2 grows before e in (
          part_said R w x o i h.0 own h.1 (omega arith) before are (grows_on R false h.0 j b o2
              (row_parts w more o2) p f l (parts_grow R false h.0 j (omega arith) w (inl own) more
              o2 h.0 j h.2 (omega arith) (omega arith)) rest),
          parts_said R w more o2 h.0 j own h.2 l before2 (open_grown R R false i h.0 o o2 e grows
              are) rest,
        )

  listed_parts_said : (R : ℕ → Type 0) (w : Within) (xs : List Part) (o : Outline) (i j : ℕ)
      → R w.region → InOrder PartPlaced i j xs → j ≤ b → IsBefore i o → AreOpen R i o
      → Grows R false j b (parts_declare w xs o) p → Each (PartSaid p) xs
  listed_parts_said R w [] o i j own h l before are rest = tt
  listed_parts_said R w (x ∷ xs) o i j own h l before are rest =
      let e = part_on i h.0 x h.1 in
      let f = order_on PartPlaced part_on h.0 j xs h.2 in
      let o1 = part_declares w x o in
      let o2 = closed_by x o1 in
      let grows : Grows R false i h.0 o o2 =
      g_then (part_grows R false i h.0 (omega arith) w (inl own) x o i h.0 h.1 (omega arith)
      (omega arith)) (closed_grows R false i h.0 (omega arith) x o1 i h.0 h.1 (omega arith)) in
      let before2 : IsBefore h.0 o2 = before_grown R false i h.0 o o2 grows before e in (
        part_said R w x o i h.0 own h.1 (omega arith) before are (grows_on R false h.0 j b o2
            (parts_declare w xs o2) p f l (listed_parts_grow R false h.0 j (omega arith) w (inl own)
            xs o2 h.0 j h.2 (omega arith) (omega arith)) rest),
        listed_parts_said R w xs o2 h.0 j own h.2 l before2 (open_grown R R false i h.0 o o2 e grows
            are) rest,
      )

-- nothing is declared before the first place
pub before_empty : (a : ℕ) → IsBefore a empty
before_empty a = record {
  names = λ region name s h. absurd cc;
  declarations = λ place l. refl;
}

outermost_open : (a : ℕ) → 0 < a → AreOpen IsOutermost a empty
outermost_open a l region e = (omega arith, refl)

-- the outline of a specification knows what it says itself
pub declarations_said : DeclarationsAreSaid
declarations_said s n fits h =
    let t = spec_placed s n h in
    let k = t.0 in
    let q = t.2 in
    let r = t.3 in
    let o = parts_declare outermost s.parts empty in
    listed_parts_said n fits (outline_of s) IsOutermost outermost s.parts empty (suc s.name.place) k
    refl t.1 (omega arith) (before_empty (suc s.name.place)) (outermost_open (suc s.name.place)
    (omega arith)) (g_lying outermost (statement_place s.first) q r)
