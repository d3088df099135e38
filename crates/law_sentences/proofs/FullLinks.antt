-- The ends of links are there where they break nothing.
use Rattle.std.specs.Prelude.{if◌then◌else◌}
use Rattle.std.proofs.Common.{◌≡◌, refl, sym, ap, subst, true≢false, ℕ, Bool, true, [], ◌++◌}
use Rattle.std.proofs.Common.{Option, Some, None}
use Rattle.std.proofs.lemmas.Option.{cond_some}
use Rattle.est_syntax.specs.Names.{spelled}
use Rattle.est_syntax.specs.declared.expression.Access.{Access}
use Rattle.est_syntax.specs.declared.expression.EndPoint.{EndPoint}
use Rattle.est_syntax.specs.declared.name.Used.{Used}
use Rattle.est_syntax.specs.declared.rule.Rule.TheVariants as rule
use Rattle.rule_scope.specs.Outline.{Outline, entry_at, standing}
use Rattle.rule_scope.specs.Uses.{same_sort, is_sort, meaning, meant_as, declaration_of}
use Rattle.rule_scope.specs.declared.declaration.Entry.{Entry}
use Rattle.rule_scope.specs.declared.declaration.Meant.{Meant}
use Rattle.rule_scope.specs.declared.declaration.Meant.TheVariants as meant
use Rattle.rule_scope.specs.declared.declaration.Sort.{Sort}
use Rattle.rule_scope.specs.declared.declaration.Sort.TheVariants as sort
use Rattle.rule_scope.specs.declared.declaration.Standing.{Standing}
use Rattle.rule_expressions.specs.Accesses.{subscripts_at, access_faults}
use Rattle.rule_expressions.specs.Expressions.{are_taken_faults}
use Rattle.rule_declares.specs.LookUps.{dims_in}
use Rattle.rule_expressions.specs.declared.receivers.Receiver.TheVariants as receiver
use Rattle.rule_statements.specs.LinkFaults.{is_end_sort, end_meant, end_of, end_used}
use Rattle.rule_statements.specs.LinkFaults.{single_faults}
use Rattle.rule_statements.specs.LinkFaults.{point_in, outer_point, point_used, outer_used}
use Rattle.rule_statements.specs.LinkFaults.{module_header, child_point, child_faults}
use Rattle.rule_statements.specs.LinkFaults.{is_internal_point, internal_faults, external_faults}
use Rattle.rule_statements.specs.LinkFaults.{connected_faults, connected_side, opposed_faults}
use Rattle.rule_statements.specs.LinkFaults.{joined_faults, connect_faults, attach_faults}
use Rattle.rule_statements.specs.LinkFaults.{untied_faults}
use Rattle.rule_declares.specs.LookUps.{point_side, side_at}
use Rattle.law_sentences.specs.Full.{IsThere, HasAll, AreFull}
use Rattle.law_sentences.specs.FullExpressions.{IsWhole}
use Rattle.law_sentences.specs.FullStatements.{IsEnd, IsConnected, AreAttached}
use Rattle.law_sentences.proofs.FullCalls.{IsReady, subscripts_ready}
use Rattle.law_sentences.proofs.FullOperators.{nowhere}
use Rattle.law_sentences.proofs.FullStatements.{access_used, accesses_full, taken_by}
use Rattle.law_sentences.proofs.FullUses.{IsAt, entry_of, point_dims, point_side_there}
use Rattle.law_sentences.proofs.FullUses.{module_header_there}
use Rattle.law_sentences.proofs.NoFaults.{parted, unbroken}
use Rattle.law_sentences.proofs.NotBroken.{not_broken, three}

-- a place is that of an interaction point
abbrev IsPoint : Outline → Option ℕ → Type 0
IsPoint o place = (p : ℕ) × (place ≡ Some p) × IsAt o sort.Point p

side_there : (o : Outline) (place : Option ℕ) → IsPoint o place → IsThere (side_at o place)
side_there o place p = point_side_there o place p.0 p.1 p.2

-- own ends
-- an end that stands alone has subscripts
end_dims : (o : Outline) (p : ℕ) (x : Option Entry) → AreFull o → entry_at o p ≡ x
    → is_end_sort x ≡ true → IsThere (dims_in x)
end_dims o p None full is h = absurd (true≢false (sym h))
end_dims o p (Some e) full is h = by e.declared.sort h (full p e is)
  where
    by : (s : Sort)
        → is_end_sort (Some (record e { declared = record e.declared { sort = s } })) ≡ true
        → HasAll s e → IsThere e.dims
    by sort.Point h all = all.0
    by sort.ModuleVariable h all = all.0
    by _ h all = absurd (true≢false (sym h))

internal_point : (x : Option Entry) → is_internal_point x ≡ true → is_sort sort.Point x ≡ true
internal_point None h = absurd (true≢false (sym h))
internal_point (Some e) h = by e.declared.sort h
  where
    by : (s : Sort)
        → is_internal_point (Some (record e { declared = record e.declared { sort = s } })) ≡ true
        → same_sort sort.Point s ≡ true
    by sort.Point h = refl
    by _ h = absurd (true≢false (sym h))

meant_end : (o : Outline) (m : Meant) (place : ℕ) → end_used o place m ≡ []
    → IsThere (end_meant o m)
meant_end o meant.Nothing place h = not_broken place rule.UnknownName h
meant_end o (meant.Predeclared n) place h = not_broken place rule.WrongSort h
meant_end o (meant.Unseen p) place h = not_broken place rule.NotSeenHere h
meant_end o (meant.Seen p) place h = (
  p,
  ap (λ (b : Bool). if b then Some p else None)
      (unbroken (is_end_sort (entry_at o p)) place rule.WrongSort h),
)

internal_end : (o : Outline) (m : Meant) (place : ℕ) → AreFull o → end_used o place m ≡ []
    → internal_faults o (end_meant o m) place ≡ [] → IsPoint o (meant_as o sort.Point m)
internal_end o meant.Nothing place full h k = not_broken place rule.UnknownName h
internal_end o (meant.Predeclared n) place full h k = not_broken place rule.WrongSort h
internal_end o (meant.Unseen p) place full h k = not_broken place rule.NotSeenHere h
internal_end o (meant.Seen p) place full h k =
    let e = meant_end o (meant.Seen p) place h in
    let b = unbroken (is_end_sort (entry_at o p)) place rule.WrongSort h in
    let i = subst (λ (b : Bool). internal_faults o (if b then Some p else None) place ≡ []) b k in
    let s = internal_point (entry_at o p)
    (unbroken (is_internal_point (entry_at o p)) place rule.WrongLink i) in (
      p,
      ap (λ (b : Bool). if b then Some p else None) s,
      entry_of o sort.Point p (entry_at o p) full refl s,
    )

-- and takes them
meant_ready : (o : Outline) (m : Meant) (place p : ℕ) → AreFull o → end_used o place m ≡ []
    → end_meant o m ≡ Some p → IsReady o (receiver.Subscripts p)
meant_ready o meant.Nothing place p full h is = not_broken place rule.UnknownName h
meant_ready o (meant.Predeclared n) place p full h is = not_broken place rule.WrongSort h
meant_ready o (meant.Unseen q) place p full h is = not_broken place rule.NotSeenHere h
meant_ready o (meant.Seen q) place p full h is =
    let c = cond_some (is_end_sort (entry_at o q)) q p is in
    subst (λ (x : ℕ). IsReady o (receiver.Subscripts x)) c.1
    (subscripts_ready o q (end_dims o q (entry_at o q) full refl c.0))

single_full : (o : Outline) (a : Access) → IsWhole o → single_faults o a ≡ [] → IsEnd o a None
single_full o a w h =
    let s = parted (end_used o a.name.place (meaning o a.name))
    (are_taken_faults o (subscripts_at (end_of o a.name)) 0 a.name.place a.index) h in
    let e = meant_end o (meaning o a.name) a.name.place s.0 in
    taken_by o (subscripts_at (end_of o a.name)) (receiver.Subscripts e.0) a.name.place a.index w
    (ap subscripts_at e.1) (meant_ready o (meaning o a.name) a.name.place e.0 w.full s.0 e.1) s.1

single_end : (o : Outline) (a : Access) → single_faults o a ≡ []
    → end_used o a.name.place (meaning o a.name) ≡ []
single_end o a h =
    (parted (end_used o a.name.place (meaning o a.name))
    (are_taken_faults o (subscripts_at (end_of o a.name)) 0 a.name.place a.index) h).0

-- ends of the modules of module variables
standing_point : (o : Outline) (x : Option Standing) (place : ℕ) → AreFull o
    → point_used o x place ≡ [] → IsPoint o (point_in o x)
standing_point o None place full h = not_broken place rule.UnknownName h
standing_point o (Some s) place full h =
    let b = unbroken (is_sort sort.Point (entry_at o s.place)) place rule.WrongSort h in (
      s.place,
      ap (λ (b : Bool). if b then Some s.place else None) b,
      entry_of o sort.Point s.place (entry_at o s.place) full refl b,
    )

outer_there : (o : Outline) (header : Option ℕ) (u : Used) → AreFull o → IsThere header
    → outer_used o header u ≡ [] → IsPoint o (outer_point o header u)
outer_there o None u full k h = nowhere k
outer_there o (Some header) u full k h =
    standing_point o (standing o header (spelled u)) u.place full h

child_there : (o : Outline) (child point : Access) → IsWhole o → child_faults o child point ≡ []
    → IsPoint o (child_point o child point)
child_there o child point w h =
    let s = three (access_faults o sort.ModuleVariable child)
    (outer_used o (module_header o child) point.name)
    (are_taken_faults o (subscripts_at (child_point o child point)) 0 point.name.place point.index)
    h in
    let v = access_used o sort.ModuleVariable child w.full s.0 in
    outer_there o (module_header o child) point.name w.full
    (module_header_there o (declaration_of o sort.ModuleVariable child.name) v.place v.means v.at)
    s.1

-- and they take their subscripts
child_full : (o : Outline) (child point : Access) → IsWhole o → child_faults o child point ≡ []
    → IsEnd o child (Some point)
child_full o child point w h =
    let s = three (access_faults o sort.ModuleVariable child)
    (outer_used o (module_header o child) point.name)
    (are_taken_faults o (subscripts_at (child_point o child point)) 0 point.name.place point.index)
    h in
    let p = child_there o child point w h in (
      accesses_full o sort.ModuleVariable child w tt s.0,
      taken_by o (subscripts_at (child_point o child point)) (receiver.Subscripts p.0)
          point.name.place point.index w (ap subscripts_at p.1)
          (subscripts_ready o p.0 (point_dims o p.0 p.2)) s.2,
    )

-- links
pub untied_full : (o : Outline) (first : Access) (second : Option Access) → IsWhole o
    → untied_faults o first second ≡ [] → IsEnd o first second
untied_full o first None w h = single_full o first w h
untied_full o first (Some point) w h = child_full o first point w h

connected_end : (o : Outline) (first : Access) (second : Option Access) → IsWhole o
    → connected_faults o first second ≡ []
    → IsEnd o first second × IsThere (connected_side o first second)
connected_end o first None w h =
    let s = parted (single_faults o first)
    (internal_faults o (end_of o first.name) first.name.place) h in (
      single_full o first w s.0,
      side_there o (declaration_of o sort.Point first.name)
          (internal_end o (meaning o first.name) first.name.place w.full (single_end o first s.0)
          s.1),
    )
connected_end o first (Some point) w h = (
  child_full o first point w h,
  side_there o (child_point o first point) (child_there o first point w h),
)

pub connects_full : (o : Outline) (one other : EndPoint) → IsWhole o
    → connect_faults o one other ≡ [] → IsConnected o one × IsConnected o other
connects_full o one other w h =
    let s = three (connected_faults o one.first one.second)
    (connected_faults o other.first other.second)
    (opposed_faults (connected_side o one.first one.second)
    (connected_side o other.first other.second) other.first.name.place) h in
    (connected_end o one.first one.second w s.0, connected_end o other.first other.second w s.1)

pub attaches_full : (o : Outline) (own child point : Access) → IsWhole o
    → attach_faults o own child point ≡ [] → AreAttached o own child point
attaches_full o own child point w h =
    let d = declaration_of o sort.Point own.name in
    let s = three (access_faults o sort.Point own ++ external_faults o d own.name.place)
    (child_faults o child point)
    (joined_faults (point_side o own.name) (side_at o (child_point o child point))
    child.name.place) h in
    let a = parted (access_faults o sort.Point own) (external_faults o d own.name.place) s.0 in
    let p = access_used o sort.Point own w.full a.0 in (
      accesses_full o sort.Point own w tt a.0,
      point_side_there o d p.place p.means p.at,
      child_full o child point w s.1,
      side_there o (child_point o child point) (child_there o child point w s.1),
    )
