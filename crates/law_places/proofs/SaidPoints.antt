-- What the whole outline says of interaction points and headers.
use Rattle.std.proofs.Common.{inl, inr, ◌≡◌, ℕ, suc, ◌≤◌, ◌^◌, Bool, List}
use Rattle.std.proofs.Common.{[], ◌∷◌, refl, sym, subst, ap, None}
use Rattle.std.proofs.Common.{arith}
use Rattle.est_syntax.specs.declared.type_text.VarDef.{VarDef}
use Rattle.est_syntax.specs.declared.header.Point.{Point}
use Rattle.est_syntax.specs.declared.header.Header.{Header}
use Rattle.rule_scope.specs.declared.declaration.Entry.{Entry}
use Rattle.rule_scope.specs.declared.declaration.Section.TheVariants as section
use Rattle.rule_scope.specs.declared.declaration.Sort.TheVariants as sort
use Rattle.rule_scope.specs.declared.declaration.Within.{Within}
use Rattle.rule_scope.specs.Outline.{Outline, entry_at}
use Rattle.rule_scope.specs.Declaring.{lying}
use Rattle.rule_scope.specs.Uses.{same_sort}
use Rattle.rule_kinds.specs.Dims.{dims_of, dims_elements}
use Rattle.rule_declares.specs.Entries.{point, header, in_region}
use Rattle.rule_declares.specs.Lasts.{header_last}
use Rattle.rule_declares.specs.Declares.{vardef_declares, vars_declare}
use Rattle.rule_declares.specs.Declares.{side_of, point_declares, points_declare}
use Rattle.rule_declares.specs.Declares.{sections_declare, header_named, has_exports}
use Rattle.rule_declares.specs.Declares.{header_declares}
use Rattle.law_places.specs.Growth.{Grows, IsBefore}
use Rattle.law_places.specs.Later.{Later}
use Rattle.law_places.specs.Said.{Each, IsOf, VarDefSaid}
use Rattle.law_places.specs.Said.{PointSaid, HeaderSaid}
use Rattle.law_places.proofs.Following.{followed}
use Rattle.law_places.specs.Growth.{Anywhere}
use Rattle.law_places.proofs.Lasting.{later_then, later_weaker, later_grown, before_grown}
use Rattle.law_places.proofs.Lasting.{before_later, before_lying, grows_on}
use Rattle.law_places.proofs.Declared.{declared_entry, later_names}
use Rattle.law_places.proofs.Declared.{names_entries}
use Rattle.law_places.proofs.Placed.{names_on}
use Rattle.law_places.proofs.PlacedParts.{InOrder}
use Rattle.law_places.proofs.PlacedParts.{PointPlaced}
use Rattle.law_places.proofs.PlacedParts.{Merged, m_none, m_point, m_export, HeaderPlaced}
use Rattle.law_places.proofs.Staying.{dims_stay}
use Rattle.law_places.proofs.Declaring.{order_on, vardef_on, vars_on}
use Rattle.law_places.proofs.Declaring.{dims_on, point_on}
use Rattle.law_places.proofs.Declaring.{merged_on, names_grow}
use Rattle.law_places.proofs.Declaring.{vardef_grows, vars_grow}
use Rattle.law_places.proofs.Declaring.{point_grows, points_grow}
use Rattle.law_places.proofs.Declaring.{point_first, export_first, sections_grow}
use Rattle.law_places.proofs.Declaring.{header_named_grows}
use Rattle.law_places.proofs.Lasting.{anywhere, grows_open}
use Rattle.law_places.proofs.SaidParts.{names_said, name_said, vardef_said, vars_said}
use Rattle.law_places.proofs.Sides.{AreOpen, With, open_grown, open_with, other_sort, side_stays}

module _ (R : ℕ → Type 0) (unfinished : Bool) (b : ℕ) (fits : b ≤ 2 ^ 32) (p : Outline) where
  -- interaction points
  point_said : (w : Within) (x : Point) (o : Outline) (i j : ℕ) → R w.region → PointPlaced i j x
      → j ≤ b → IsBefore i o → AreOpen R i o → Grows R unfinished j b (point_declares w x o) p
      → PointSaid p x
  point_said w x o i j own h l before are rest =
      let d = names_on i h.0 x.names h.3 in
      let e = dims_on h.0 h.1 x.dims h.4 in
      let f = h.5 in
      let g = h.6 in
      let k = h.7 in
      let till = x.channel.place in
      let o1 = lying w x.place o in
      let dims = dims_of o1 x.dims in
      let entry = point w dims (dims_elements dims) (side_of o1 x) x.queue in
      let o2 = point_declares w x o in
      let before1 : IsBefore i o1 = before_lying i x.place w o before in
      let before2 : IsBefore j o2 =
      before_grown R unfinished i j o o2
      (point_grows R unfinished i j (omega arith) w (inl own) x o i j h (omega arith) (omega arith))
      before (omega arith) in
      let grows : Grows R unfinished i j o1 o2 =
      names_grow R unfinished i j (omega arith) w (inl own) x.names x.role.place entry o1 i h.0 h.3
      (omega arith) (omega arith) (omega arith) in
      let later : Later i till o1 p =
      later_then i till o1 o2 p
      (later_names w x.names x.role.place entry o1 i h.0 till h.3 before1 (omega arith))
      (later_weaker j till i till o2 p (omega arith) (omega arith)
      (later_grown R unfinished j b o2 p rest before2 till (omega arith))) in
      let side : side_of p x ≡ side_of o1 x =
      side_stays R unfinished i b o1 p (followed R unfinished i b (grows_on R unfinished i j b o1 o2
      p (omega arith) l grows rest)) before1 are till x later (omega arith) in
      names_said unfinished b fits p w entry refl (λ e. (e.declared.sort ≡ sort.Point)
      × (e.dims ≡ dims_of p x.dims) × (e.side ≡ side_of p x) × (e.queue ≡ x.queue)
      × (e.kind ≡ None)) (
        refl,
        sym (dims_stay i till o1 p later h.0 h.1 x.dims (omega arith) h.4 (omega arith)),
        sym side,
        refl,
        refl,
      ) o2 x.names i h.0 j h.3 (omega arith) (anywhere R unfinished j b rest)
      (names_entries w x.names x.role.place entry o1 i h.0 h.3 (λ q n. before1.declarations q n))

  pub points_said : (w : Within) (xs : List Point) (o : Outline) (i j : ℕ) → R w.region
      → InOrder PointPlaced i j xs → j ≤ b → IsBefore i o → AreOpen R i o
      → Grows R unfinished j b (points_declare w xs o) p → Each (PointSaid p) xs
  points_said w [] o i j own h l before are rest = tt
  points_said w (x ∷ xs) o i j own h l before are rest =
      let e = order_on PointPlaced point_on h.0 j xs h.2 in
      let f = point_on i h.0 x h.1 in
      let o1 = point_declares w x o in
      let grows : Grows R unfinished i h.0 o o1 =
      point_grows R unfinished i h.0 (omega arith) w (inl own) x o i h.0 h.1 (omega arith)
      (omega arith) in
      let before1 : IsBefore h.0 o1 =
      before_grown R unfinished i h.0 o o1 grows before (omega arith) in (
        point_said w x o i h.0 own h.1 (omega arith) before are (grows_on R unfinished h.0 j b o1
            (points_declare w xs o1) p (omega arith) l (points_grow R unfinished h.0 j (omega arith)
            w (inl own) xs o1 h.0 j h.2 (omega arith) (omega arith)) rest),
        points_said w xs o1 h.0 j own h.2 l before1 (open_grown R R unfinished i h.0 o o1 f grows
            are) rest,
      )

  -- the sections of headers
  sections_said : (w : Within) (ps : List Point) (vs : List VarDef) (o : Outline) (i j : ℕ)
      → R w.region → Merged i j ps vs → j ≤ b → IsBefore i o → AreOpen R i o
      → Grows R unfinished j b (sections_declare w ps vs o) p → Each (PointSaid p) ps
      × Each (VarDefSaid p) vs
  sections_said w [] [] o i j own (m_none h) l before are rest = (tt, tt)
  sections_said w (x ∷ ps) vs o i j own (m_point {k = k} h y) l before are rest =
      let e = merged_on y in
      let f = point_on i k x h in
      let o1 = point_declares w x o in
      let rest1 : Grows R unfinished j b (sections_declare w ps vs o1) p =
      subst (λ z. Grows R unfinished j b z p) (point_first w x ps vs o i k j (omega arith) h y) rest
      in
      let grows : Grows R unfinished i k o o1 =
      point_grows R unfinished i k (omega arith) w (inl own) x o i k h (omega arith) (omega arith)
      in
      let before1 : IsBefore k o1 = before_grown R unfinished i k o o1 grows before (omega arith) in
      let r = sections_said w ps vs o1 k j own y l before1 (open_grown R R unfinished i k o o1 f
      grows are) rest1 in (
        (
          point_said w x o i k own h (omega arith) before are (grows_on R unfinished k j b o1
              (sections_declare w ps vs o1) p e l (sections_grow R unfinished k j (omega arith) w
              (inl own) ps vs o1 k j y (omega arith) (omega arith)) rest1),
          r.0,
        ),
        r.1,
      )
  sections_said w ps (v ∷ vs) o i j own (m_export {k = k} h t y) l before are rest =
      let e = merged_on y in
      let f = vardef_on i k v h in
      let o1 = vardef_declares w v o in
      let rest1 : Grows R unfinished j b (sections_declare w ps vs o1) p =
      subst (λ z. Grows R unfinished j b z p) (export_first w ps v vs o k j t y) rest in
      let grows : Grows R unfinished i k o o1 =
      vardef_grows R unfinished i k (omega arith) w (inl own) v o i k h (omega arith) (omega arith)
      in
      let before1 : IsBefore k o1 = before_grown R unfinished i k o o1 grows before (omega arith) in
      let r = sections_said w ps vs o1 k j own y l before1 (open_grown R R unfinished i k o o1 f
      grows are) rest1 in (
        r.0,
        (
          vardef_said unfinished b fits p w v o i k h (omega arith) before (anywhere R unfinished k
              b (grows_on R unfinished k j b o1 (sections_declare w ps vs o1) p e l (sections_grow R
              unfinished k j (omega arith) w (inl own) ps vs o1 k j y (omega arith) (omega arith))
              rest1)),
          r.1,
        ),
      )

module _ (R : ℕ → Type 0) (unfinished : Bool) (b : ℕ) (fits : b ≤ 2 ^ 32) (p : Outline) where
  -- headers
  pub header_said : (w : Within) (x : Header) (o : Outline) (i j : ℕ) → R w.region
      → HeaderPlaced i j x → j ≤ b → IsBefore i o → AreOpen R i o
      → Grows R unfinished j b (header_declares w x o) p → HeaderSaid p x
  header_said w x o i j own h l before are rest =
      let place = x.name.place in
      let q = h.1 in
      let c = vars_on (suc place) h.0 x.params h.2 in
      let d = merged_on h.3 in
      let v = in_region section.Parameter w place in
      let z = in_region section.Header w place in
      let entry = header w x.system (has_exports x.exports) in
      let o1 = header_named w x o in
      let o2 = vars_declare v x.params o1 in
      let o3 = sections_declare z x.points x.exports o2 in
      let start : IsBefore place (lying w place o) =
      before_lying place place w o (before_later i place o q before) in
      let named : Grows R unfinished i (suc place) o o1 =
      header_named_grows R unfinished i (suc place) (omega arith) w (inl own) x o h.0 (omega arith)
      q (omega arith) h.2 in
      let before1 : IsBefore (suc place) o1 =
      before_grown R unfinished i (suc place) o o1 named before (omega arith) in
      let params : Grows (With R place) unfinished (suc place) h.0 o1 o2 =
      vars_grow (With R place) unfinished (suc place) h.0 (omega arith) v (inl (inr refl)) x.params
      o1 (suc place) h.0 h.2 (omega arith) (omega arith) in
      let before2 : IsBefore h.0 o2 =
      before_grown (With R place) unfinished (suc place) h.0 o1 o2 params before1 (omega arith) in
      let are1 : AreOpen R (suc place) o1 =
      open_grown R R unfinished i (suc place) o o1 (omega arith) named are in
      let are2 : AreOpen (With R place) h.0 o2 =
      open_grown (With R place) (With R place) unfinished (suc place) h.0 o1 o2 c params
      (open_with R (suc place) place o1 are1 (omega arith) (other_sort sort.Channel
      (entry_at o1 place) (λ e at. ap (λ (y : Entry). same_sort sort.Channel y.declared.sort)
      (declared_entry (lying w place o) w x.name (header_last x) entry e
      (start.declarations place (omega arith)) at)))) in
      let more : Grows (With R place) unfinished j b o3 p =
      grows_open R (With R place) unfinished j b (λ y r. inl r) rest in
      let s = sections_said (With R place) unfinished b fits p z x.points x.exports o2 h.0 j
      (inr refl) h.3 l before2 are2 more in
      let all : Grows Anywhere unfinished h.0 b o2 p =
      grows_on Anywhere unfinished h.0 j b o2 o3 p d l
      (sections_grow Anywhere unfinished h.0 j (omega arith) z (inl tt) x.points x.exports o2 h.0 j
      h.3 (omega arith) (omega arith)) (anywhere R unfinished j b rest) in (
        name_said unfinished b fits p w entry refl (IsOf sort.Header) (refl, refl, refl)
            (lying w place o) x.name (header_last x) (suc place) (omega arith) start (grows_on Anywhere unfinished
            (suc place) h.0 b o1 o2 p c (omega arith)
            (vars_grow Anywhere unfinished (suc place) h.0 (omega arith) v (inl tt) x.params o1
            (suc place) h.0 h.2 (omega arith) (omega arith)) all),
        vars_said unfinished b fits p v x.params o1 (suc place) h.0 h.2 (omega arith) before1 all,
        s.0,
        s.1,
      )
