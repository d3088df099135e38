-- From what a reader of a whole text does to its answer.
use Rattle.std.proofs.Common.{◌≡◌, ℕ, Bool, true, length, sym, ap, subst, ◌∙◌}
use Rattle.std.proofs.Common.{Ok}
use Rattle.est_lexer.specs.declared.tokens.Tokens.{Tokens}
use Rattle.est_lexer.specs.Offsets.{text_of, tokens_of}
use Rattle.text_reader.specs.Refusals.{Cause, SaysWhy, wrong_at, too_deep_at}
use Rattle.text_reader.specs.Sentences.{HasTree}
use Rattle.text_reader.specs.Shown.{Shows}
use Rattle.text_reader.proofs.Exits as exits
use Rattle.text_reader.specs.declared.reader.Reader.{Reader}
use Rattle.text_reader.specs.declared.outcome.Outcome.{Outcome}
use Rattle.text_reader.specs.declared.outcome.Outcome.TheVariants.{Well, Wrong, TooDeep, NoMemory}
use Rattle.text_reader.specs.declared.refusal.Refusal.{Refusal}
use Rattle.text_reader.specs.declared.refusal.Refusal.TheVariants as refusal
use Rattle.text_reader.specs.Tests.{language}
use Rattle.text_reader.specs.Moving.{Does}
use Rattle.text_reader.specs.Whole.{Starts, StopsFor, Finishes, cause_of, IsReadAs}
use Rattle.text_reader.specs.Going.{Rule, Shape, View, Finds, Fails, Goes}
use Rattle.text_reader.proofs.Going.{Known}

-- what is known of the place that is reached, where all went well
pub got : (P : ℕ → Type 0) (Q : ℕ → Bool → Type 0) (a b : ℕ) (o : Outcome) → Does P Q a Well b o
    → o ≡ Well → P b
got P Q a b Well x e = x
got P Q a b Wrong x e = absurd cc
got P Q a b TooDeep x e = absurd cc
got P Q a b NoMemory x e = absurd cc

-- and of one that is refused for lack of levels
pub got_deep : (P : ℕ → Type 0) (Q : ℕ → Bool → Type 0) (a b n place : ℕ) (o : Outcome)
    → Does P Q a Well b o → StopsFor o b n (refusal.TooDeep place) → Q place true
got_deep P Q a b n place TooDeep x e = subst (λ i. Q i true) (sym e) x
got_deep P Q a b n place Well x e = absurd e
got_deep P Q a b n place Wrong x e = absurd e
got_deep P Q a b n place NoMemory x e = absurd e

module _ {P N : Type 0} (K : Known P N) {tokens : Tokens} {g : Rule P} {d : ℕ} {A B : Reader}
    {v : View N} (x : Goes K.syntax g A v B) (s : Starts tokens d A) where
  -- what is found and refused of the tokens
  abbrev Here : ℕ → Type 0
  Here b = Finds K.syntax tokens g d 0 v b

  abbrev NotHere : ℕ → Bool → Type 0
  NotHere i z = Fails K.syntax tokens g d 0 i z

  -- why the tokens have no tree
  abbrev Why : Cause → Type 0
  Why cause = SaysWhy (language K.syntax.production (text_of tokens)) g d (tokens_of tokens) cause

  -- the whole list is a tree of this shape
  abbrev IsTree : Shape → Type 0
  IsTree t = HasTree (language K.syntax.production (text_of tokens)) g d (tokens_of tokens) t

  started : Does Here NotHere 0 Well B.at B.outcome
  started =
      subst (λ o. Does Here NotHere 0 o B.at B.outcome) s.well
      (subst (λ a. Does (Finds K.syntax tokens g d a v) (Fails K.syntax tokens g d a) a A.outcome
      B.at B.outcome) s.at
      (subst (λ e. Does (Finds K.syntax tokens g e A.at v) (Fails K.syntax tokens g e A.at) A.at
      A.outcome B.at B.outcome) s.levels
      (subst (λ ts. Does (Finds K.syntax ts g A.levels A.at v) (Fails K.syntax ts g A.levels A.at)
      A.at A.outcome B.at B.outcome) s.tokens_are x.moves)))

  -- the reader still has these tokens
  as_many : length (tokens_of B.tokens.now) ≡ length (tokens_of tokens)
  as_many = ap (λ ts. length (tokens_of ts)) (x.same.tokens ∙ s.tokens_are)

  -- the whole list is read: it has one tree, whose shape the view shows
  pub whole_read : {T : Type 0} {value kept : T} → Finishes B value (Ok kept)
      → (t : Shape) × IsTree t × Shows K.syntax.layer v t × ((u : Shape) → IsTree u → u ≡ t)
  whole_read h =
      let f = got Here NotHere 0 B.at B.outcome started h.1 in
      let r = exits.whole_tree (K.fits (text_of tokens)) g d (tokens_of tokens) f.0 B.at
      (h.2 ∙ as_many) f.1 in
      (f.0, r.0, f.2, r.1)

  refused_at : (o : Outcome) (error : Refusal) → Does Here NotHere 0 Well B.at o
      → StopsFor o B.at (length (tokens_of B.tokens.now)) error → Why (cause_of error)
  refused_at Well (refusal.BadToken place) m h = subst (λ i. Why (wrong_at i)) (sym h.0)
      (exits.tokens_behind (K.fits (text_of tokens)) g d (tokens_of tokens) B.at m.0
      (λ e. h.1 (e ∙ sym as_many)) m.1)
  refused_at Wrong (refusal.BadToken place) m h = subst (λ i. Why (wrong_at i)) (sym h)
      (exits.explained (K.fits (text_of tokens)) g d (tokens_of tokens) (wrong_at B.at) m)
  refused_at TooDeep (refusal.TooDeep place) m h = subst (λ i. Why (too_deep_at i)) (sym h)
      (exits.explained (K.fits (text_of tokens)) g d (tokens_of tokens) (too_deep_at B.at) m)
  refused_at NoMemory (refusal.Memory error) m h = tt
  refused_at _ _ m h = absurd h

  -- the list is not read: it has no tree, for this cause
  pub whole_refused : (error : Refusal)
      → StopsFor B.outcome B.at (length (tokens_of B.tokens.now)) error → Why (cause_of error)
  whole_refused error h = refused_at B.outcome error started h

-- the whole list is read as this value, where no two values show one shape
pub read_as : {I P N : Type 0} (K : Known P N) {tokens : Tokens} {g : Rule P} {d : ℕ} {A B : Reader}
    (view : I → View N) (i : I) {kept : I}
    → ((j : I) (t : Shape) → Shows K.syntax.layer (view j) t → Shows K.syntax.layer (view i) t
    → j ≡ i)
    → Goes K.syntax g A (view i) B → Starts tokens d A → Finishes B i (Ok kept)
    → IsReadAs K.syntax.production K.syntax.layer (text_of tokens) (tokens_of tokens) g d view kept
read_as K {tokens} {g} {d} view i one x s h =
    let r = whole_read K x s h in
    subst (λ j. IsReadAs K.syntax.production K.syntax.layer (text_of tokens) (tokens_of tokens) g d
    view j) (sym h.0) record {
      shape = r.0;
      tree = r.1;
      shows = r.2;
      only_tree = r.3;
      only_value = λ j q. one j r.0 (subst (λ t. Shows K.syntax.layer (view j) t) (r.3 q.0 q.1) q.2)
          r.2;
    }
