-- The side of an interaction point is in a later outline what it is in this one: no name is put
-- into a channel after its text.
use Rattle.std.proofs.Common.{◌≡◌, ℕ, ◌<◌, ◌≤◌, Bool, true, false, if◌then◌else◌, refl, sym}
use Rattle.std.proofs.Common.{subst, ap, ◌∙◌, Option, Some, None, ◌⊎◌, inl, inr, arith}
use Rattle.std.proofs.lemmas.Option.{same_Some}
use Rattle.est_syntax.specs.Names.{spelled}
use Rattle.est_syntax.specs.declared.name.Used.{Used}
use Rattle.est_syntax.specs.declared.header.Point.{Point}
use Rattle.rule_scope.specs.declared.declaration.Entry.{Entry}
use Rattle.rule_scope.specs.declared.declaration.Meant.{Meant}
use Rattle.rule_scope.specs.declared.declaration.Meant.TheVariants.{Nothing, Predeclared}
use Rattle.rule_scope.specs.declared.declaration.Meant.TheVariants.{Unseen, Seen}
use Rattle.rule_scope.specs.declared.declaration.Sort.{Sort}
use Rattle.rule_scope.specs.declared.declaration.Sort.TheVariants as sort
use Rattle.rule_scope.specs.declared.declaration.Standing.{Standing}
use Rattle.rule_scope.specs.Outline.{Outline, standing, entry_at}
use Rattle.rule_scope.specs.Uses.{same_sort, is_sort, meant_as, meaning, declaration_of}
use Rattle.rule_declares.specs.Declares.{member_by, member_named, side_with, side_by, side_of}
use Rattle.law_places.specs.Growth.{AreLike, Grows, Follows, IsBefore}
use Rattle.law_places.specs.Later.{Later}
use Rattle.law_places.proofs.Following.{followed}
use Rattle.law_places.proofs.Meanings.{declaration_stays}

-- the regions that are open are none of channels
abbrev pub AreOpen : (ℕ → Type 0) → ℕ → Outline → Type 0
AreOpen R i o = (region : ℕ) → R region
    → (region < i) × (is_sort sort.Channel (entry_at o region) ≡ false)

-- the regions with one more
abbrev pub With : (ℕ → Type 0) → ℕ → ℕ → Type 0
With R place region = R region ⊎ (region ≡ place)

like_sort : (unfinished : Bool) (s : Sort) (x y : Option Entry) → AreLike unfinished x y
    → is_sort s y ≡ is_sort s x
like_sort unfinished s None y h = ap (is_sort s) h
like_sort unfinished s (Some e) y h =
    ap (is_sort s) h.1 ∙ ap (λ d. same_sort s d.sort) h.2.0

-- so it is as an outline grows
pub open_grown : (R S : ℕ → Type 0) (unfinished : Bool) (i j : ℕ) (o p : Outline) → i ≤ j
    → Grows S unfinished i j o p → AreOpen R i o → AreOpen R j p
open_grown R S unfinished i j o p l grows are region r =
    let h = are region r in
    let m = h.0 in (
      omega arith,
      like_sort unfinished sort.Channel (entry_at o region) (entry_at p region)
          ((followed S unfinished i j grows).entries region m) ∙ h.1,
    )

-- and with a region that is none of a channel
pub open_with : (R : ℕ → Type 0) (i place : ℕ) (o : Outline) → AreOpen R i o → place < i
    → is_sort sort.Channel (entry_at o place) ≡ false → AreOpen (With R place) i o
open_with R i place o are l h region (inl r) = are region r
open_with R i place o are l h region (inr e) =
    subst (λ q. (q < i) × (is_sort sort.Channel (entry_at o q) ≡ false)) (sym e) (l, h)

-- what is of another sort
pub other_sort : (s : Sort) (x : Option Entry)
    → ((e : Entry) → x ≡ Some e → same_sort s e.declared.sort ≡ false) → is_sort s x ≡ false
other_sort s None h = refl
other_sort s (Some e) h = h e refl

-- what is found as of a sort is of that sort
of_sort : (o : Outline) (s : Sort) (m : Meant) (q : ℕ) → meant_as o s m ≡ Some q
    → is_sort s (entry_at o q) ≡ true
of_sort o s Nothing q h = absurd cc
of_sort o s (Predeclared n) q h = absurd cc
of_sort o s (Unseen x) q h = absurd cc
of_sort o s (Seen x) q h = by (is_sort s (entry_at o x)) refl h
  where
    by : (b : Bool) → is_sort s (entry_at o x) ≡ b → (if b then Some x else None) ≡ Some q
        → is_sort s (entry_at o q) ≡ true
    by true e k = subst (λ z. is_sort s (entry_at o z) ≡ true) (same_Some x q k) e
    by false e k = absurd cc

before_or_not : (x y : ℕ) → (x < y) ⊎ (y ≤ x)
before_or_not x y = grind arith

module _ (R : ℕ → Type 0) (unfinished : Bool) (i b : ℕ) (o p : Outline)
    (follows : Follows R unfinished i b o p) (before : IsBefore i o) (are : AreOpen R i o) where
  -- the name of a channel
  member_stays : (channel : ℕ) (u : Used) → is_sort sort.Channel (entry_at o channel) ≡ true
      → member_named p channel u ≡ member_named o channel u
  member_stays channel u is = by (standing o channel (spelled u)) refl
    where
      there : (channel < i) ⊎ (i ≤ channel) → channel < i
      there (inl l) = l
      there (inr l) =
          let n : entry_at o channel ≡ None = before.declarations channel l in
          let m : is_sort sort.Channel None ≡ true =
          subst (λ z. is_sort sort.Channel z ≡ true) n is in
          absurd cc

      closed : R channel → ⊥
      closed r = let n = (are channel r).1 in cc

      by : (x : Option Standing) → standing o channel (spelled u) ≡ x
          → member_named p channel u ≡ member_by o x
      by None e = ap (member_by p) (follows.apart channel (there (before_or_not channel i)) closed
          (spelled u) e)
      by (Some s) e =
          ap (member_by p) (follows.stands channel (spelled u) s e)
          ∙ follows.members s.place (before.names channel (spelled u) s e)

  -- the side of a point
  pub side_stays : (c : ℕ) (x : Point) → Later i c o p → x.channel.place ≤ c
      → side_of p x ≡ side_of o x
  side_stays c x later l =
      ap (λ d. side_by p d x.role) (declaration_stays i c o p later x.channel l sort.Channel refl)
      ∙ by (declaration_of o sort.Channel x.channel) refl
    where
      by : (d : Option ℕ) → declaration_of o sort.Channel x.channel ≡ d
          → side_by p d x.role ≡ side_by o d x.role
      by None e = refl
      by (Some channel) e = ap (side_with channel) (member_stays channel x.role
          (of_sort o sort.Channel (meaning o x.channel) channel e))
