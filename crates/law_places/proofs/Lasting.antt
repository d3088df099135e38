-- An outline that has grown is later than it was.
use Rattle.std.proofs.Common.{◌≡◌, ℕ, ◌<◌, ◌≤◌, Bool, true, false, List, refl, sym, subst, ap}
use Rattle.std.proofs.Common.{◌∙◌, Option, Some, None, is_some, inl, inr, arith}
use Rattle.std.proofs.lemmas.Option.{same_Some}
use Rattle.rule_scope.specs.declared.declaration.Standing.{Standing}
use Rattle.rule_scope.specs.declared.declaration.Within.{Within}
use Rattle.rule_scope.specs.Outline.{Outline, standing, entry_at}
use Rattle.rule_scope.specs.Declaring.{lying}
use Rattle.law_places.specs.Growth.{Anywhere, IsOpen, Grows, g_not, g_then, g_declared, g_put}
use Rattle.law_places.specs.Growth.{g_amended}
use Rattle.law_places.specs.Growth.{g_completed, g_lying, IsBefore}
use Rattle.law_places.specs.Later.{Later}
use Rattle.law_places.proofs.Following.{followed, like_self, like_then, like_unfinished}
use Rattle.law_places.proofs.Following.{like_present}

module _ (a c : ℕ) where
  -- an outline is later than itself
  pub later_self : (o : Outline) → Later a c o o
  later_self o = record {
    extents = λ place l. refl;
    stands = λ region name s h. h;
    news = λ region name s h k. absurd cc;
    known = λ region name s h l. like_self true (entry_at o s.place);
    declares = λ place l. refl;
    members = λ place l. refl;
  }

  -- one that is later than a later one is later
  pub later_then : (o x p : Outline) → Later a c o x → Later a c x p → Later a c o p
  later_then o x p f g = record {
    extents = λ place l. g.extents place l ∙ f.extents place l;
    stands = λ region name s h. g.stands region name s (f.stands region name s h);
    news = λ region name s h k. new region name s h k (standing x region name) refl;
    known = λ region name s h l. like_then true (entry_at o s.place) (entry_at x s.place)
        (entry_at p s.place) (f.known region name s h l)
        (g.known region name s (f.stands region name s h) l);
    declares = λ place l. g.declares place l ∙ f.declares place l;
    members = λ place l. g.members place l ∙ f.members place l;
  }
    where
      new : (region : ℕ) (name : List ℕ) (s : Standing) → standing o region name ≡ None
          → standing p region name ≡ Some s → (y : Option Standing) → standing x region name ≡ y
          → c ≤ s.last
      new region name s h k None e = g.news region name s e k
      new region name s h k (Some t) e =
          let same : t ≡ s = same_Some t s (sym (g.stands region name t e) ∙ k) in
          subst (λ v. c ≤ v.last) same (f.news region name t h e)

module _ (R : ℕ → Type 0) (unfinished : Bool) (a b : ℕ) (o p : Outline)
    (grows : Grows R unfinished a b o p)
    (before : IsBefore a o) where
  -- what has grown is later for what stands before it
  pub later_grown : (c : ℕ) → c < a → Later a c o p
  later_grown c less =
      let f = followed R unfinished a b grows in
      record {
        extents = λ place l. f.extents place (omega arith);
        stands = λ region name s h. f.stands region name s h;
        news = λ region name s h k. let n = f.news region name s h k in omega arith;
        known = λ region name s h l. like_unfinished unfinished (entry_at o s.place) (entry_at p
            s.place)
            (f.entries s.place (before.names region name s h));
        declares = λ place l. like_present unfinished (entry_at o place) (entry_at p place)
            (f.entries place l);
        members = λ place l. ap is_some (f.members place l);
      }

  -- and has nothing after it
  pub before_grown : a ≤ b → IsBefore b p
  before_grown less =
      let f = followed R unfinished a b grows in
      record {
        names = λ region name s h. name_before region name s h (standing o region name) refl;
        declarations = λ place l. f.after place l (before.declarations place (omega arith));
      }
    where
      name_before : (region : ℕ) (name : List ℕ) (s : Standing) → standing p region name ≡ Some s
          → (x : Option Standing) → standing o region name ≡ x → s.place < b
      name_before region name s h None e =
          let n = (followed R unfinished a b grows).news region name s e h in n.1
      name_before region name s h (Some t) e =
          let f = followed R unfinished a b grows in
          let same : t ≡ s = same_Some t s (sym (f.stands region name t e) ∙ h) in
          let l : t.place < a = before.names region name t e in
          subst (λ v. v.place < b) same (omega arith)

-- what grows between two places grows between two that are further apart
open_wider : (R : ℕ → Type 0) (a i region : ℕ) → a ≤ i → IsOpen R i region → IsOpen R a region
open_wider R a i region l (inl r) = inl r
open_wider R a i region l (inr m) = inr (omega arith)

pub grows_wider : (R : ℕ → Type 0) (unfinished : Bool) (a b i j : ℕ) {o p : Outline} → a ≤ i → j ≤ b
    → Grows R unfinished i j o p → Grows R unfinished a b o p
grows_wider R unfinished a b i j l m g_not = g_not
grows_wider R unfinished a b i j l m (g_then g h) =
    g_then (grows_wider R unfinished a b i j l m g) (grows_wider R unfinished a b i j l m h)
grows_wider R unfinished a b i j l m (g_declared w own u last e p q r) =
    g_declared w (open_wider R a i w.region l own) u last e (omega arith) (omega arith) r
grows_wider R unfinished a b i j l m (g_put region out u x p q) =
    g_put region (open_wider R a i region l out) u x (omega arith) (omega arith)
grows_wider R unfinished a b i j l m (g_amended f place p k) = g_amended f place (omega arith) k
grows_wider R unfinished a b i j l m (g_completed f place h k s) = g_completed f place h k s
grows_wider R unfinished a b i j l m (g_lying w place p q) =
    g_lying w place (omega arith) (omega arith)

-- what grows where no text is unfinished may grow where one is
pub grows_unfinished : (R : ℕ → Type 0) (a b : ℕ) {o p : Outline} → Grows R false a b o p
    → Grows R true a b o p
grows_unfinished R a b g_not = g_not
grows_unfinished R a b (g_then g h) = g_then (grows_unfinished R a b g) (grows_unfinished R a b h)
grows_unfinished R a b (g_declared w own u last e p q r) = g_declared w own u last e p q r
grows_unfinished R a b (g_put region out u x p q) = g_put region out u x p q
grows_unfinished R a b (g_amended f place p k) = g_amended f place p k
grows_unfinished R a b (g_completed f place h k s) = absurd cc
grows_unfinished R a b (g_lying w place p q) = g_lying w place p q

-- what is later up to one place is later up to an earlier one
pub later_weaker : (a c i k : ℕ) (o p : Outline) → i ≤ a → k ≤ c → Later a c o p → Later i k o p
later_weaker a c i k o p l m h = record {
  extents = λ place n. h.extents place (omega arith);
  stands = λ region name s g. h.stands region name s g;
  news = λ region name s g n. let e = h.news region name s g n in omega arith;
  known = λ region name s g n. h.known region name s g (omega arith);
  declares = λ place n. h.declares place (omega arith);
  members = λ place n. h.members place (omega arith);
}

-- what stands before a place stands before a later one
pub before_later : (a b : ℕ) (o : Outline) → a ≤ b → IsBefore a o → IsBefore b o
before_later a b o l h = record {
  names = λ region name s g. let e = h.names region name s g in omega arith;
  declarations = λ place n. h.declarations place (omega arith);
}

-- where the text lies declares nothing
pub before_lying : (a place : ℕ) (w : Within) (o : Outline) → IsBefore a o
    → IsBefore a (lying w place o)
before_lying a place w o h = record {
  names = λ region name s g. h.names region name s g;
  declarations = λ q n. h.declarations q n;
}

-- what grows between places, and then after them
pub grows_on : (R : ℕ → Type 0) (unfinished : Bool) (k j b : ℕ) (o x p : Outline) → k ≤ j → j ≤ b
    → Grows R unfinished k j o x → Grows R unfinished j b x p → Grows R unfinished k b o p
grows_on R unfinished k j b o x p l m g h = g_then
    (grows_wider R unfinished k b k j (omega arith) m g)
    (grows_wider R unfinished k b j b l (omega arith) h)

-- what grows where some regions are open grows where more are
open_more : (R S : ℕ → Type 0) (a region : ℕ) → ((q : ℕ) → R q → S q) → IsOpen R a region
    → IsOpen S a region
open_more R S a region f (inl r) = inl (f region r)
open_more R S a region f (inr m) = inr m

pub grows_open : (R S : ℕ → Type 0) (unfinished : Bool) (a b : ℕ) {o p : Outline}
    → ((q : ℕ) → R q → S q) → Grows R unfinished a b o p → Grows S unfinished a b o p
grows_open R S unfinished a b f g_not = g_not
grows_open R S unfinished a b f (g_then g h) =
    g_then (grows_open R S unfinished a b f g) (grows_open R S unfinished a b f h)
grows_open R S unfinished a b f (g_declared w own u last e p q r) =
    g_declared w (open_more R S a w.region f own) u last e p q r
grows_open R S unfinished a b f (g_put region out u x p q) =
    g_put region (open_more R S a region f out) u x p q
grows_open R S unfinished a b f (g_amended g place p k) = g_amended g place p k
grows_open R S unfinished a b f (g_completed g place h k s) = g_completed g place h k s
grows_open R S unfinished a b f (g_lying w place p q) = g_lying w place p q

-- what grows where some regions are open grows where every one is
pub anywhere : (R : ℕ → Type 0) (unfinished : Bool) (a b : ℕ) {o p : Outline}
    → Grows R unfinished a b o p → Grows Anywhere unfinished a b o p
anywhere R unfinished a b g = grows_open R Anywhere unfinished a b (λ q r. tt) g
