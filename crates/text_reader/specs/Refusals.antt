-- Why a list of tokens, or a part of it, has no tree.
use Rattle.std.specs.Prelude.{ℕ, ◌+◌, ◌<◌, true, false, List, length}
use Rattle.text_reader.specs.Grammar.{Grammar, Language}
use Rattle.text_reader.specs.Marks.{Marks}
use Rattle.text_reader.specs.Opening.{OpensOneMore}
use Rattle.text_reader.specs.Findings.{Refused}
use Rattle.text_reader.specs.Sentences.{HasPartial, IsFirstBadPlace}

-- What an error says of the text: nothing, as where memory ran out; that it goes wrong at a place;
-- or that it wants more levels at a place.
pub data Cause : Type 0 where
  unsaid : Cause
  wrong_at : ℕ → Cause
  too_deep_at : ℕ → Cause

-- the refusal of what should be a g at place a, with d levels to open
abbrev pub Refuses : {Token V T P : Type 0} → Language Token V T P → Marks T P → Grammar T P
    → List Token → ℕ → ℕ → Cause → Type 0
Refuses L S g s d a unsaid = Unit {0}
Refuses L S g s d a (wrong_at i) = Refused L S s g d a i false
Refuses L S g s d a (too_deep_at i) = Refused L S s g d a i true

-- why the whole list has no tree by g with d levels: its first bad place, with the reason
abbrev pub SaysWhy : {Token V T P : Type 0} → Language Token V T P → Grammar T P → ℕ → List Token
    → Cause → Type 0
SaysWhy L g d s unsaid = Unit {0}
-- whatever the number of levels
SaysWhy L g d s (wrong_at i) =
    IsFirstBadPlace L g d s i × (i < length s → (levels : ℕ) → HasPartial L g levels s (i + 1) → ⊥)
-- for lack of one level, which the token opens
SaysWhy L g d s (too_deep_at i) =
    IsFirstBadPlace L g d s i × (i < length s) × HasPartial L g (d + 1) s (i + 1)
    × OpensOneMore L s i g d 0
