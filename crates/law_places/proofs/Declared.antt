-- What is found in an outline where a declaration was made or changed.
use Rattle.std.proofs.Common.{◌≡◌, ℕ, suc, ◌<◌, ◌≤◌, Bool, true, false, List, [], ◌∷◌, refl, sym}
use Rattle.std.proofs.Common.{subst, ap, ◌∙◌, Option, Some, None, is_some, nat_eq, arith}
use Rattle.std.proofs.lemmas.Option.{same_Some}
use Rattle.std.specs.Map.{lookup}
use Rattle.est_syntax.specs.Names.{spelled}
use Rattle.est_syntax.specs.declared.name.Used.{Used}
use Rattle.est_syntax.specs.declared.channel.Role.{Role}
use Rattle.est_syntax.specs.declared.channel.Role.TheVariants.{Second}
use Rattle.rule_scope.specs.declared.declaration.Entry.{Entry}
use Rattle.rule_scope.specs.declared.declaration.Member.{Member}
use Rattle.rule_scope.specs.declared.declaration.Member.TheVariants as member
use Rattle.rule_scope.specs.declared.declaration.Measured.{Measured}
use Rattle.rule_scope.specs.declared.declaration.Standing.{Standing}
use Rattle.rule_scope.specs.declared.declaration.Within.{Within}
use Rattle.rule_scope.specs.Outline.{Outline, standing, entry_at, extent_at}
use Rattle.rule_scope.specs.Declaring.{declared, declared_by, taken, amended, amended_by, with_kind}
use Rattle.rule_scope.specs.Declaring.{put, put_by}
use Rattle.rule_declares.specs.Entries.{numbered}
use Rattle.rule_declares.specs.Declares.{names_declare, kinds_given, numbers_declare}
use Rattle.rule_declares.specs.Declares.{names_put, roles_put}
use Rattle.law_places.specs.Growth.{IsLike, AreLike, Grows, IsBefore}
use Rattle.law_places.specs.Later.{Later}
use Rattle.law_places.proofs.Tables.{one_number, two_numbers, tested, inserted_here, set_here}
use Rattle.law_places.proofs.Tables.{inserted_apart, set_apart, same_number}
use Rattle.law_places.proofs.Following.{followed, named_new, named_stays, like_self, like_same}
use Rattle.law_places.specs.Said.{Each, IsNoEntry}
use Rattle.law_places.proofs.Lasting.{later_self, later_then}
use Rattle.law_places.proofs.Placed.{NamesPlaced, names_on}

-- what is declared later at a place where something was
pub entry_before : (unfinished : Bool) (x y : Option Entry) (f : Entry) → AreLike unfinished x y
    → y ≡ Some f → (e : Entry) × (x ≡ Some e) × IsLike unfinished e f
entry_before unfinished None y f h k = absurd cc
entry_before unfinished (Some e) y f h k =
    let same : h.0 ≡ f = same_Some h.0 f (sym h.1 ∙ k) in
    (e, refl, subst (IsLike unfinished e) same h.2)

-- a name that is declared where nothing is
declared_is : (t : Option Standing) (o : Outline) (w : Within) (u : Used) (last : ℕ) (e f : Entry)
    → entry_at o u.place ≡ None → entry_at (declared_by t w u last e o) u.place ≡ Some f → f ≡ e
declared_is (Some s) o w u last e f h k = absurd cc
declared_is None o w u last e f h k =
    same_Some f e (sym k ∙ inserted_here u.place e o.entries)

pub declared_entry : (o : Outline) (w : Within) (u : Used) (last : ℕ) (e f : Entry)
    → entry_at o u.place ≡ None → entry_at (declared w u last e o) u.place ≡ Some f → f ≡ e
declared_entry o w u last e f h k = declared_is (taken o w (spelled u)) o w u last e f h k

pub declared_other : (t : Option Standing) (o : Outline) (w : Within) (u : Used) (last : ℕ)
    (e : Entry) (q : ℕ) → (q ≡ u.place → ⊥) → entry_at (declared_by t w u last e o) q ≡ entry_at o q
declared_other (Some s) o w u last e q h = refl
declared_other None o w u last e q h =
    inserted_apart u.place e q o.entries (two_numbers q u.place h)

declared_news : (t : Option Standing) (o : Outline) (w : Within) (u : Used) (last : ℕ) (e : Entry)
    (region : ℕ) (name : List ℕ) (s : Standing) → standing o region name ≡ None
    → standing (declared_by t w u last e o) region name ≡ Some s → s.last ≡ last
declared_news (Some t) o w u last e region name s h k = absurd cc
declared_news None o w u last e region name s h k =
    ap (λ (v : Standing). v.last) (named_new o w.region (spelled u) record {
      place = u.place;
      last = last;
    } region name s h k)

-- names that are declared together
pub names_other : (w : Within) (us : List Used) (last : ℕ) (e : Entry) (o : Outline) (i j q : ℕ)
    → NamesPlaced i j us → q < i → entry_at (names_declare w us last e o) q ≡ entry_at o q
names_other w [] last e o i j q h l = refl
names_other w (u ∷ us) last e o i j q h l =
    let n = h.0 in
    names_other w us last e (declared w u last e o) (suc u.place) j q h.1 (omega arith)
    ∙ declared_other (taken o w (spelled u)) o w u last e q (λ k. omega arith)

pub declared_stands : (t : Option Standing) (o : Outline) (w : Within) (u : Used) (last : ℕ)
    (e : Entry) (region : ℕ) (name : List ℕ) (s : Standing) → standing o region name ≡ Some s
    → standing (declared_by t w u last e o) region name ≡ Some s
declared_stands (Some t) o w u last e region name s h = h
declared_stands None o w u last e region name s h = named_stays o w.region (spelled u) record {
  place = u.place;
  last = last;
} region name s h

names_stand : (w : Within) (us : List Used) (last : ℕ) (e : Entry) (o : Outline) (region : ℕ)
    (name : List ℕ) (s : Standing) → standing o region name ≡ Some s
    → standing (names_declare w us last e o) region name ≡ Some s
names_stand w [] last e o region name s h = h
names_stand w (u ∷ us) last e o region name s h =
    names_stand w us last e (declared w u last e o) region name s
    (declared_stands (taken o w (spelled u)) o w u last e region name s h)

pub names_news : (w : Within) (us : List Used) (last : ℕ) (e : Entry) (o : Outline) (region : ℕ)
    (name : List ℕ) (s : Standing) → standing o region name ≡ None
    → standing (names_declare w us last e o) region name ≡ Some s → s.last ≡ last
names_news w [] last e o region name s h k = absurd cc
names_news w (u ∷ us) last e o region name s h k =
    by (standing (declared w u last e o) region name) refl
    (names_news w us last e (declared w u last e o) region name s) (names_stand w us last e
    (declared w u last e o) region name)
  where
    by : (x : Option Standing) → standing (declared w u last e o) region name ≡ x
        → (standing (declared w u last e o) region name ≡ None
        → standing (names_declare w us last e (declared w u last e o)) region name ≡ Some s
        → s.last ≡ last)
        → ((t : Standing) → standing (declared w u last e o) region name ≡ Some t
        → standing (names_declare w us last e (declared w u last e o)) region name ≡ Some t)
        → s.last ≡ last
    by None y rest stays = rest y k
    by (Some t) y rest stays =
        let same : t ≡ s = same_Some t s (sym (stays t y) ∙ k) in
        subst (λ (v : Standing). v.last ≡ last) same
        (declared_news (taken o w (spelled u)) o w u last e region name t h y)

pub names_entries : (w : Within) (us : List Used) (last : ℕ) (e : Entry) (o : Outline) (i j : ℕ)
    → NamesPlaced i j us → ((q : ℕ) → i ≤ q → entry_at o q ≡ None)
    → Each (λ u. (f : Entry) → entry_at (names_declare w us last e o) u.place ≡ Some f → f ≡ e) us
names_entries w [] last e o i j h none = tt
names_entries w (u ∷ us) last e o i j h none =
    let n = h.0 in
    let o1 = declared w u last e o in (
      λ f k. declared_entry o w u last e f (none u.place (omega arith))
          (sym (names_other w us last e o1 (suc u.place) j u.place h.1 (omega arith)) ∙ k),
      names_entries w us last e o1 (suc u.place) j h.1
          (λ q l. declared_other (taken o w (spelled u)) o w u last e q (λ k. omega arith)
          ∙ none q (omega arith)),
    )

-- what is known of a declaration changes
amended_is : (x : Option Entry) (f : Entry → Entry) (place : ℕ) (o : Outline) (y : Entry)
    → entry_at o place ≡ x → entry_at (amended_by x f place o) place ≡ Some y → (e : Entry)
    × (entry_at o place ≡ Some e) × (y ≡ f e)
amended_is None f place o y h k = absurd cc
amended_is (Some e) f place o y h k =
    (e, h, same_Some y (f e) (sym k ∙ set_here place (f e) o.entries e h))

pub amended_here : (f : Entry → Entry) (place : ℕ) (o : Outline) (y : Entry)
    → entry_at (amended f place o) place ≡ Some y → (e : Entry) × (entry_at o place ≡ Some e)
    × (y ≡ f e)
amended_here f place o y k = amended_is (entry_at o place) f place o y refl k

amended_not : (x : Option Entry) (f : Entry → Entry) (place : ℕ) (o : Outline) (q : ℕ)
    → (q ≡ place → ⊥) → entry_at (amended_by x f place o) q ≡ entry_at o q
amended_not None f place o q h = refl
amended_not (Some e) f place o q h = set_apart place (f e) q o.entries (two_numbers q place h)

pub amended_apart : (f : Entry → Entry) (place : ℕ) (o : Outline) (q : ℕ) → (q ≡ place → ⊥)
    → entry_at (amended f place o) q ≡ entry_at o q
amended_apart f place o q h = amended_not (entry_at o place) f place o q h

amended_names : (x : Option Entry) (f : Entry → Entry) (place : ℕ) (o : Outline) (region : ℕ)
    (name : List ℕ) → standing (amended_by x f place o) region name ≡ standing o region name
amended_names None f place o region name = refl
amended_names (Some e) f place o region name = refl

pub amended_standing : (f : Entry → Entry) (place : ℕ) (o : Outline) (region : ℕ) (name : List ℕ)
    → standing (amended f place o) region name ≡ standing o region name
amended_standing f place o region name = amended_names (entry_at o place) f place o region name

-- at the place or at another
pub either_place : {A : Type 0} (q place : ℕ) → (q ≡ place → A) → ((q ≡ place → ⊥) → A) → A
either_place q place f g = tested (nat_eq q place) (λ t. f (one_number q place t))
    (λ t. g (λ e. unlike q place e t))
  where
    unlike : (q place : ℕ) → q ≡ place → nat_eq q place ≡ false → ⊥
    unlike q place e t =
        let s : nat_eq place place ≡ true = same_number place in
        let r : nat_eq place place ≡ false = subst (λ z. nat_eq z place ≡ false) e t in cc

-- a kind that is given leaves the rest
pub kinds_before : (us : List Used) (k : Option Measured) (o : Outline) (q : ℕ) (f : Entry)
    → entry_at (kinds_given us k o) q ≡ Some f → (e : Entry) × (entry_at o q ≡ Some e)
    × (f.declared ≡ e.declared) × (f.ordinal ≡ e.ordinal) × (f.dims ≡ e.dims)
kinds_before [] k o q f h = (f, h, refl, refl, refl)
kinds_before (u ∷ us) k o q f h =
    let o1 = amended (with_kind k) u.place o in
    let r = kinds_before us k o1 q f h in
    either_place q u.place (λ e. same r e) (λ e. (
      r.0,
      sym (amended_apart (with_kind k) u.place o q e) ∙ r.1,
      r.2,
      r.3,
      r.4,
    ))
  where
    same : (r : (e : Entry) × (entry_at (amended (with_kind k) u.place o) q ≡ Some e)
        × (f.declared ≡ e.declared) × (f.ordinal ≡ e.ordinal) × (f.dims ≡ e.dims)) → q ≡ u.place
        → (e : Entry) × (entry_at o q ≡ Some e) × (f.declared ≡ e.declared)
        × (f.ordinal ≡ e.ordinal) × (f.dims ≡ e.dims)
    same r e =
        let h : entry_at (amended (with_kind k) u.place o) u.place ≡ Some r.0 =
        subst (λ z. entry_at (amended (with_kind k) u.place o) z ≡ Some r.0) e r.1 in
        let x = amended_here (with_kind k) u.place o r.0 h in (
          x.0,
          subst (λ z. entry_at o z ≡ Some x.0) (sym e) x.1,
          r.2 ∙ ap (λ (v : Entry). v.declared) x.2,
          r.3 ∙ ap (λ (v : Entry). v.ordinal) x.2,
          r.4 ∙ ap (λ (v : Entry). v.dims) x.2,
        )

-- and each name has it
kinds_keep : (us : List Used) (k : Option Measured) (o : Outline) (q : ℕ)
    → ((f : Entry) → entry_at o q ≡ Some f → f.kind ≡ k) → (f : Entry)
    → entry_at (kinds_given us k o) q ≡ Some f → f.kind ≡ k
kinds_keep [] k o q has f h = has f h
kinds_keep (u ∷ us) k o q has f h =
    kinds_keep us k (amended (with_kind k) u.place o) q (λ y e. one y e) f h
  where
    one : (y : Entry) → entry_at (amended (with_kind k) u.place o) q ≡ Some y → y.kind ≡ k
    one y e = either_place q u.place
        (λ t. ap (λ (v : Entry). v.kind) (amended_here (with_kind k) u.place o y
        (subst (λ z. entry_at (amended (with_kind k) u.place o) z ≡ Some y) t e)).2)
        (λ t. has y (sym (amended_apart (with_kind k) u.place o q t) ∙ e))

pub kinds_have : (us : List Used) (k : Option Measured) (o : Outline)
    → Each (λ u. (f : Entry) → entry_at (kinds_given us k o) u.place ≡ Some f → f.kind ≡ k) us
kinds_have [] k o = tt
kinds_have (u ∷ us) k o =
    let o1 = amended (with_kind k) u.place o in (
      λ f h. kinds_keep us k o1 u.place
          (λ y e. ap (λ (v : Entry). v.kind) (amended_here (with_kind k) u.place o y e).2) f h,
      kinds_have us k o1,
    )

-- names from a place on are in force after this one, up to another place
abbrev pub Waits : ℕ → ℕ → ℕ → Outline → Type 0
Waits i k c o = (region : ℕ) (name : List ℕ) (s : Standing) → standing o region name ≡ Some s
    → i ≤ s.place → s.place < k → c ≤ s.last

-- where what is declared at a place is not in force yet, what is known of it may change
pub later_amended : (a c i k : ℕ) (o : Outline) (f : Entry → Entry) (place : ℕ) → Waits i k c o
    → i ≤ place → place < k → Later a c o (amended f place o)
later_amended a c i k o f place waits l m = changed (entry_at o place) refl
  where
    present : (x : Option Entry) → entry_at o place ≡ x → (q : ℕ)
        → is_some (entry_at (amended_by x f place o) q) ≡ is_some (entry_at o q)
    present None h q = refl
    present (Some e) h q = either_place q place
        (λ t. subst (λ z. is_some (entry_at (amended_by (Some e) f place o) z)
        ≡ is_some (entry_at o z)) (sym t)
        (ap is_some (set_here place (f e) o.entries e h) ∙ sym (ap is_some h)))
        (λ t. ap is_some (amended_not (Some e) f place o q t))

    changed : (x : Option Entry) → entry_at o place ≡ x → Later a c o (amended_by x f place o)
    changed None h = record {
      extents = λ q n. refl;
      stands = λ region name s g. g;
      news = λ region name s g n. absurd cc;
      known = λ region name s g n. like_self true (entry_at o s.place);
      declares = λ q n. refl;
      members = λ q n. refl;
    }
    changed (Some e) h = record {
      extents = λ q n. refl;
      stands = λ region name s g. g;
      news = λ region name s g n. absurd cc;
      known = λ region name s g n. like_same true (entry_at o s.place)
          (entry_at (amended_by (Some e) f place o) s.place)
          (amended_not (Some e) f place o s.place
          (λ t. let w : c ≤ s.last = waits region name s g (omega arith) (omega arith) in
          omega arith));
      declares = λ q n. present (Some e) h q;
      members = λ q n. refl;
    }

-- names that are declared together leave the rest
names_extents : (w : Within) (us : List Used) (last : ℕ) (e : Entry) (o : Outline)
    → (names_declare w us last e o).extents ≡ o.extents
names_extents w [] last e o = refl
names_extents w (u ∷ us) last e o =
    names_extents w us last e (declared w u last e o) ∙ one (taken o w (spelled u))
  where
    one : (t : Option Standing) → (declared_by t w u last e o).extents ≡ o.extents
    one (Some s) = refl
    one None = refl

names_members : (w : Within) (us : List Used) (last : ℕ) (e : Entry) (o : Outline)
    → (names_declare w us last e o).members ≡ o.members
names_members w [] last e o = refl
names_members w (u ∷ us) last e o =
    names_members w us last e (declared w u last e o) ∙ one (taken o w (spelled u))
  where
    one : (t : Option Standing) → (declared_by t w u last e o).members ≡ o.members
    one (Some s) = refl
    one None = refl

-- names that are in force after this place say nothing up to it
pub later_names : (w : Within) (us : List Used) (last : ℕ) (e : Entry) (o : Outline) (i k c : ℕ)
    → NamesPlaced i k us → IsBefore i o → c ≤ last → Later i c o (names_declare w us last e o)
later_names w us last e o i k c h before l = record {
  extents = λ q n. ap (λ es. extent_at es q) (names_extents w us last e o);
  stands = λ region name s g. names_stand w us last e o region name s g;
  news = λ region name s g n. let m = names_news w us last e o region name s g n in omega arith;
  known = λ region name s g n. like_same true (entry_at o s.place)
      (entry_at (names_declare w us last e o) s.place)
      (names_other w us last e o i k s.place h (before.names region name s g));
  declares = λ q n. ap is_some (names_other w us last e o i k q h n);
  members = λ q n. ap (λ ms. is_some (lookup (nat_eq q) ms)) (names_members w us last e o);
}

pub waits_names : (w : Within) (us : List Used) (last : ℕ) (e : Entry) (o : Outline) (i k c : ℕ)
    → IsBefore i o → c ≤ last → Waits i k c (names_declare w us last e o)
waits_names w us last e o i k c before l region name s h m n =
    by (standing o region name) refl
  where
    by : (x : Option Standing) → standing o region name ≡ x → c ≤ s.last
    by None g = let r = names_news w us last e o region name s g h in omega arith
    by (Some t) g =
        let same : t ≡ s = same_Some t s (sym (names_stand w us last e o region name t g) ∙ h) in
        let q : t.place < i = before.names region name t g in
        let r : t.place ≡ s.place = ap (λ (v : Standing). v.place) same in absurd (omega arith)

pub waits_grown : (R : ℕ → Type 0) (unfinished : Bool) (i k c b : ℕ) (o p : Outline) → Waits i k c o
    → Grows R unfinished k b o p → Waits i k c p
waits_grown R unfinished i k c b o p waits grows region name s h m n =
    by (standing o region name) refl
  where
    by : (x : Option Standing) → standing o region name ≡ x → c ≤ s.last
    by None g =
        let r = (followed R unfinished k b grows).news region name s g h in absurd (omega arith)
    by (Some t) g =
        let same : t ≡ s =
        same_Some t s (sym ((followed R unfinished k b grows).stands region name t g) ∙ h) in
        let r : t.place ≡ s.place = ap (λ (v : Standing). v.place) same in
        subst (λ v. c ≤ v.last) same (waits region name t g (omega arith) (omega arith))

-- so it is of kinds that are given
pub later_kinds : (a c i k j : ℕ) (us : List Used) (m : Option Measured) (o : Outline)
    → NamesPlaced j k us → i ≤ j → Waits i k c o → Later a c o (kinds_given us m o)
later_kinds a c i k j [] m o h l waits = later_self a c o
later_kinds a c i k j (u ∷ us) m o h l waits =
    let n = h.0 in
    let r = names_on (suc u.place) k us h.1 in
    let o1 = amended (with_kind m) u.place o in
    later_then a c o o1 (kinds_given us m o1)
    (later_amended a c i k o (with_kind m) u.place waits (omega arith) (omega arith))
    (later_kinds a c i k (suc u.place) us m o1 h.1 (omega arith)
    (λ region name s g. waits region name s
    (sym (amended_standing (with_kind m) u.place o region name) ∙ g)))

-- kinds that are given change nothing elsewhere, and declare nothing
pub kinds_apart : (us : List Used) (m : Option Measured) (o : Outline) (i k q : ℕ)
    → NamesPlaced i k us → k ≤ q → entry_at (kinds_given us m o) q ≡ entry_at o q
kinds_apart [] m o i k q h l = refl
kinds_apart (u ∷ us) m o i k q h l =
    let n = names_on (suc u.place) k us h.1 in
    kinds_apart us m (amended (with_kind m) u.place o) (suc u.place) k q h.1 l
    ∙ amended_apart (with_kind m) u.place o q (λ e. omega arith)

amended_present : (x : Option Entry) (f : Entry → Entry) (place : ℕ) (o : Outline) (q : ℕ)
    → entry_at o place ≡ x → is_some (entry_at (amended_by x f place o) q) ≡ is_some (entry_at o q)
amended_present None f place o q h = refl
amended_present (Some e) f place o q h = either_place q place
    (λ t. subst (λ z. is_some (entry_at (amended_by (Some e) f place o) z)
    ≡ is_some (entry_at o z)) (sym t)
    (ap is_some (set_here place (f e) o.entries e h) ∙ sym (ap is_some h)))
    (λ t. ap is_some (amended_not (Some e) f place o q t))

pub kinds_present : (us : List Used) (m : Option Measured) (o : Outline) (q : ℕ)
    → is_some (entry_at (kinds_given us m o) q) ≡ is_some (entry_at o q)
kinds_present [] m o q = refl
kinds_present (u ∷ us) m o q =
    kinds_present us m (amended (with_kind m) u.place o) q
    ∙ amended_present (entry_at o u.place) (with_kind m) u.place o q refl

-- the constants of an enumeration
pub numbers_other : (w : Within) (us : List Used) (last n : ℕ) (o : Outline) (i j q : ℕ)
    → NamesPlaced i j us → q < i → entry_at (numbers_declare w us last n o) q ≡ entry_at o q
numbers_other w [] last n o i j q h l = refl
numbers_other w (u ∷ us) last n o i j q h l =
    let m = h.0 in
    numbers_other w us last (suc n) (declared w u last (numbered w n) o) (suc u.place) j q h.1
    (omega arith)
    ∙ declared_other (taken o w (spelled u)) o w u last (numbered w n) q (λ k. omega arith)

-- each has its number
abbrev pub AreNumbered : Within → Outline → List Used → ℕ → Type 0
AreNumbered w o [] n = Unit {0}
AreNumbered w o (u ∷ us) n =
    ((f : Entry) → entry_at o u.place ≡ Some f → f ≡ numbered w n) × AreNumbered w o us (suc n)

pub numbers_entries : (w : Within) (us : List Used) (last n : ℕ) (o : Outline) (i j : ℕ)
    → NamesPlaced i j us → ((q : ℕ) → i ≤ q → entry_at o q ≡ None)
    → AreNumbered w (numbers_declare w us last n o) us n
numbers_entries w [] last n o i j h none = tt
numbers_entries w (u ∷ us) last n o i j h none =
    let m = h.0 in
    let e = numbered w n in
    let o1 = declared w u last e o in (
      λ f k. declared_entry o w u last e f (none u.place (omega arith))
          (sym (numbers_other w us last (suc n) o1 (suc u.place) j u.place h.1 (omega arith)) ∙ k),
      numbers_entries w us last (suc n) o1 (suc u.place) j h.1
          (λ q l. declared_other (taken o w (spelled u)) o w u last e q (λ k. omega arith)
          ∙ none q (omega arith)),
    )

-- names of channels and records that are put declare nothing
put_is : (t : Option Standing) (region : ℕ) (u : Used) (m : Member) (o : Outline)
    → (put_by t region u m o).entries ≡ o.entries
put_is (Some s) region u m o = refl
put_is None region u m o = refl

pub put_entries : (region : ℕ) (u : Used) (m : Member) (o : Outline)
    → (put region u m o).entries ≡ o.entries
put_entries region u m o = put_is (standing o region (spelled u)) region u m o

pub names_put_entries : (region : ℕ) (us : List Used) (m : Member) (o : Outline)
    → (names_put region us m o).entries ≡ o.entries
names_put_entries region [] m o = refl
names_put_entries region (u ∷ us) m o =
    names_put_entries region us m (put region u m o) ∙ put_entries region u m o

pub roles_entries : (region : ℕ) (us : List Used) (r : Role) (o : Outline)
    → (roles_put region us r o).entries ≡ o.entries
roles_entries region [] r o = refl
roles_entries region (u ∷ us) r o =
    roles_entries region us Second (put region u (member.Role r) o)
    ∙ put_entries region u (member.Role r) o

-- nothing is declared where nothing was
pub none_like : (unfinished : Bool) (x y : Option Entry) → AreLike unfinished x y → x ≡ None
    → y ≡ None
none_like unfinished None y h e = h
none_like unfinished (Some e) y h k = absurd cc

-- nothing is declared at the places of names between two places
pub no_entries : (p : Outline) (i k : ℕ) (us : List Used) → NamesPlaced i k us
    → ((q : ℕ) → i ≤ q → q < k → entry_at p q ≡ None) → Each (IsNoEntry p) us
no_entries p i k [] h none = tt
no_entries p i k (u ∷ us) h none =
    let n = h.0 in
    let m = names_on (suc u.place) k us h.1 in (
      none u.place (omega arith) (omega arith),
      no_entries p (suc u.place) k us h.1 (λ q l e. none q (omega arith) e),
    )
