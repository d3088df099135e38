-- Turns of the loops over lists.
use Rattle.std.proofs.Common.{◌≡◌, sym, ap, ◌∙◌, ℕ, ◌+◌, ◌<◌, List}
use Rattle.std.proofs.Common.{◌∷◌, Option, length, drop, get_or}
use Rattle.std.proofs.lemmas.List.{drop_more}
use Rattle.est_syntax.specs.declared.rule.Fault.{Fault}
use Rattle.est_syntax.specs.declared.type_text.TypeText.{TypeText}
use Rattle.rule_scope.specs.declared.declaration.Measured.{Measured}
use Rattle.rule_scope.specs.LeastSoFar.{least_with}
use Rattle.rule_scope.specs.Outline.{Outline}
use Rattle.rule_scope.proofs.LeastLaws.{least_append}
use Rattle.rule_kinds.specs.TypeTexts.{text_type, arrays, index_faults, indices_faults, array_of}

-- what a list makes of what was there before it, an item at a time
pub after_loop : {X S R : Type 0} (F : List X → S → R) (g : S → X → S) (xs : List X) (i : ℕ) (x : X)
    (before after : S) (total : R)
    → ((y : X) (ys : List X) (s : S) → F (y ∷ ys) s ≡ F ys (g s y))
    → i < length xs → x ≡ get_or xs i x → after ≡ g before x
    → F (drop i xs) before ≡ total → F (drop (i + 1) xs) after ≡ total
after_loop F g xs i x before after total step within is done h =
    ap (F (drop (i + 1) xs)) done
    ∙ sym (step x (drop (i + 1) xs) before)
    ∙ ap (λ y. F (y ∷ drop (i + 1) xs) before) is
    ∙ ap (λ l. F l before) (sym (drop_more xs i x within))
    ∙ h

-- one more of the indices of an array, from the last one on
abbrev pub IsSoFar : Outline → List TypeText → Option Measured → ℕ → Option Fault → Option Measured
    → Option Fault → Type 0
IsSoFar o ts of place before m at = (m ≡ arrays o ts of)
    × (at ≡ least_with before (indices_faults o ts of place))

pub index_turn : (o : Outline) (ts : List TypeText) (of : Option Measured) (place : ℕ)
    (before : Option Fault) (k i : ℕ) (t : TypeText) (m n : Option Measured)
    (at after : Option Fault)
    → k + 1 ≡ i → k < length ts → t ≡ get_or ts k t → n ≡ array_of (text_type o t) m
    → after ≡ least_with at (index_faults o t m place)
    → IsSoFar o (drop i ts) of place before m at → IsSoFar o (drop k ts) of place before n after
index_turn o ts of place before k i t m n at after next within is kind done h =
    let split : drop k ts ≡ t ∷ drop i ts = drop_more ts k t within
    ∙ (λ j. sym is j ∷ drop (next j) ts) in (
      kind ∙ ap (array_of (text_type o t)) h.0 ∙ ap (λ l. arrays o l of) (sym split),
      done ∙ (λ j. least_with (h.1 j) (index_faults o t (h.0 j) place))
          ∙ sym (least_append before (indices_faults o (drop i ts) of place)
          (index_faults o t (arrays o (drop i ts) of) place))
          ∙ ap (λ l. least_with before (indices_faults o l of place)) (sym split),
    )
