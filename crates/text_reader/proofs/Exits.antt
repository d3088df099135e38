-- From what a reader of the whole grammar comes to, to the answer.
use Rattle.std.proofs.Common.{◌≡◌, ℕ, ◌+◌, ◌<◌, ◌≤◌, Bool, true, false}
use Rattle.std.proofs.Common.{List, length, refl, sym, subst, arith}
use Rattle.text_reader.specs.Grammar.{Language, Grammar, Shape, Tree, p_whole}
use Rattle.text_reader.specs.Marks.{Marks, Fits}
use Rattle.text_reader.specs.Findings.{Found, same, before}
use Rattle.text_reader.specs.Sentences.{HasTree, HasPartial}
use Rattle.text_reader.specs.Refusals.{Cause, unsaid, wrong_at, too_deep_at, Refuses, SaysWhy}
use Rattle.text_reader.proofs.Opening.{openers_are_told}
use Rattle.text_reader.proofs.Parts
use Rattle.text_reader.proofs.Trees

-- a test that is not met
pub not_met : {b : Bool} → b ≡ false → b ≡ true → ⊥
not_met e q = cc

-- From what is found of the whole grammar at place 0 to the answer.
module _ {Token V T P : Type 0} {L : Language Token V T P} {S : Marks T P} (fits : Fits L S)
    (g : Grammar T P) (d : ℕ) (s : List Token) where
  -- the whole list is read
  pub whole_tree : (t : Shape V) (b : ℕ) → b ≡ length s → Found L S s g d 0 b t → HasTree L g d s t
      × ((u : Shape V) → HasTree L g d s u → u ≡ t)
  whole_tree t b e h = (subst (λ v. Tree L s (length s) g d 0 v t) e h.tree, only)
    where
      only : (u : Shape V) → HasTree L g d s u → u ≡ t
      only u y = elim (h.only d (length s) (length s) u (omega arith) (omega arith) y) [
        | same p q ↦ q
        | before l w ↦ absurd (omega (arith, e, l))
      ]

  -- tokens stand after the end
  pub tokens_behind : (b : ℕ) (t : Shape V) → (b ≡ length s → ⊥) → Found L S s g d 0 b t
      → SaysWhy L g d s (wrong_at b)
  tokens_behind b t n h = (
    record {
      no_tree = no_tree;
      inside = inside;
      front = front;
      no_more = λ l. no_more l d;
    },
    no_more,
  )
    where
      inside : b ≤ length s
      inside = Parts.found_inside L S fits s h

      no_tree : (u : Shape V) → HasTree L g d s u → ⊥
      no_tree u y = elim (h.only d (length s) (length s) u (omega arith) (omega arith) y) [
        | same p q ↦ n (sym p)
        | before l w ↦ absurd (omega (arith, inside, l))
      ]

      front : HasPartial L g d s b
      front = p_whole (Trees.tree_of_fewer L s (length s) b h.tree (omega arith) inside) refl

      no_more : b < length s → (levels : ℕ) → HasPartial L g levels s (b + 1) → ⊥
      no_more l e y = omega (arith, h.most e (b + 1) (omega arith) (omega arith) y)

  -- the grammar is refused
  pub explained : (c : Cause) → Refuses L S g s d 0 c → SaysWhy L g d s c
  explained unsaid h = tt
  explained (wrong_at i) h = (
    record {
      no_tree = no_tree;
      inside = h.inside;
      front = h.partial;
      no_more = λ l. no_more l d;
    },
    no_more,
  )
    where
      no_tree : (u : Shape V) → HasTree L g d s u → ⊥
      no_tree u y =
          omega (arith, (h.only d (length s) (length s) u tt (omega arith) (omega arith) y).2)

      no_more : i < length s → (levels : ℕ) → HasPartial L g levels s (i + 1) → ⊥
      no_more l e y = omega (arith, h.most e (i + 1) tt (omega arith) (omega arith) y)
  explained (too_deep_at i) h = (
    record {
      no_tree = no_tree;
      inside = h.inside;
      front = h.partial;
      no_more = no_more;
    },
    (h.more refl).0,
    (openers_are_told L g d s i (h.more refl).1).1,
    (h.more refl).1,
  )
    where
      no_tree : (u : Shape V) → HasTree L g d s u → ⊥
      no_tree u y =
          omega (
            arith,
            (h.only d (length s) (length s) u (omega arith) (omega arith) (omega arith)
                y).2,
          )

      no_more : i < length s → HasPartial L g d s (i + 1) → ⊥
      no_more l y = omega (arith, h.most d (i + 1) (omega arith) (omega arith) (omega arith) y)
