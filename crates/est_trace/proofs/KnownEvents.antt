-- Events of which all is told are known.
use Rattle.std.proofs.Common.{All, ◌≡◌, ℕ, suc, ◌<◌, List, [], ◌∷◌, ◌++◌, length, map, get_or}
use Rattle.std.proofs.Common.{refl, sym, ap, subst, ◌∙◌, arith}
use Rattle.std.specs.Prelude.{IsTrue}
use Rattle.std.proofs.lemmas.List.{get_or-map}
use Rattle.text_reader.specs.Grammar.{leaf, both, left, right, some}
use Rattle.est_syntax.specs.declared.kind.Kind.{Kind}
use Rattle.est_syntax.specs.declared.ports.Direction.{Direction}
use Rattle.est_syntax.specs.declared.ports.Direction.TheVariants.{Receives, Sends}
use Rattle.est_syntax.specs.declared.ports.Port.{Port}
use Rattle.est_meaning.specs.declared.event.Event.{Event}
use Rattle.est_meaning.specs.declared.trace.Expected.{Expected}
use Rattle.est_meaning.specs.declared.trace.Expected.TheVariants.{Known}
use Rattle.text_reader.specs.Tests.{value}
use Rattle.text_reader.specs.Going.{Shape}
use Rattle.text_values.specs.declared.formats.Format.TheVariants.{Complete}
use Rattle.est_trace.specs.TraceShapes.{ShowsBrackets, ShowsEvent, ShowsEvents}
use Rattle.est_trace.specs.WrittenTraces.{is_known}
use Rattle.est_trace.proofs.Shown.{all_cons}

-- the event is known
abbrev pub IsKnown : Expected → Type 0
IsKnown x = IsTrue (is_known x)

brackets_known : (d : Direction) (p m : ℕ) (x : Expected) (ks : List Kind) (t : Shape)
    → ShowsBrackets d Complete p m x ks t → IsKnown x
brackets_known Receives p m x ks t h = subst IsKnown (sym h.event_is) refl
brackets_known Sends p m x ks t h = subst IsKnown (sym h.event_is) refl

module _ (ports : List Port) where
  event_known : (x : Expected) (t : Shape) → ShowsEvent Complete ports x t → IsKnown x
  event_known x (left (leaf (value n))) e = subst IsKnown (sym e) refl
  event_known x (right (left t)) e =
      brackets_known Receives e.port e.signal x e.shown.signal.kinds e.shown.brackets_shape
      e.shown.shown
  event_known x (right (right t)) e =
      brackets_known Sends e.port e.signal x e.shown.signal.kinds e.shown.brackets_shape
      e.shown.shown
  event_known x _ e = absurd e

  pub events_known : (xs : List Expected) (t : Shape) → ShowsEvents Complete ports xs t
      → All IsKnown xs
  events_known [] t e = λ k d l. absurd (omega (arith, l))
  events_known (x ∷ xs) (some (both t u)) e =
      all_cons IsKnown x xs (event_known x t e.0) (events_known xs u e.1)
  events_known (x ∷ xs) t e = absurd e

-- two lists of events are one where they are expected alike
pub known_same : (xs ys : List Event) → map Known xs ≡ map Known ys → xs ≡ ys
known_same [] [] e = refl
known_same [] (y ∷ ys) e = cc
known_same (x ∷ xs) [] e = cc
known_same (x ∷ xs) (y ∷ ys) e =
    let p : Known x ≡ Known y = cc in
    let q : map Known xs ≡ map Known ys = cc in
    let r = known_same xs ys q in
    let s : x ≡ y = cc in
    cc

pub length_known : (xs : List Event) → length (map Known xs) ≡ length xs
length_known [] = refl
length_known (x ∷ xs) = let p = length_known xs in cc

-- what holds of what is expected holds of the events
pub all_known : (P : Expected → Type 0) (xs : List Event) → All P (map Known xs)
    → All (λ x. P (Known x)) xs
all_known P xs h = λ k d l.
    subst P (get_or-map Known xs k d (Known d) l)
    (h k (Known d) (subst (λ n. k < n) (sym (length_known xs)) l))

-- one more event is known, and stands no longer among those that are left
pub known_more : (xs : List Event) (x : Event) (e : Expected) (rest all : List Expected)
    → Known x ≡ e → map Known xs ++ e ∷ rest ≡ all → map Known (xs ++ x ∷ []) ++ rest ≡ all
known_more xs x e rest all k h =
    moved xs ∙ (ap (λ y. map Known xs ++ y ∷ rest) k ∙ h)
  where
    moved : (ys : List Event) → map Known (ys ++ x ∷ []) ++ rest ≡ map Known ys ++ Known x ∷ rest
    moved [] = refl
    moved (y ∷ ys) = ap (λ zs. Known y ∷ zs) (moved ys)

-- what holds of each holds of the first one that is left
pub next_holds : {A : Type 0} (P : A → Type 0) (xs : List A) (x : A) (rest all : List A)
    → xs ++ x ∷ rest ≡ all → All P all → P x
next_holds {A} P xs x rest all e h = there xs (subst (All P) (sym e) h)
  where
    there : (ys : List A) → All P (ys ++ x ∷ rest) → P x
    there [] q = q 0 x (omega arith)
    there (y ∷ ys) q = there ys (λ k d l. q (suc k) d (omega (arith, l)))

pub nothing_left : {A : Type 0} (xs : List A) → length xs ≡ 0 → xs ≡ []
nothing_left [] h = refl
nothing_left (x ∷ xs) h = absurd (omega (arith, h))
