-- The canonical text of an explanation, and which explanations a text can have.
use Rattle.std.specs.Prelude.{ℕ, ◌+◌, ◌≤◌, List, ◌++◌, All, codes, flat_map}
use Rattle.std.specs.Fmt.{decimal}
use Rattle.est_meaning.specs.declared.firing.Firing.{Firing}
use Rattle.est_meaning.specs.declared.run.Move.{Move}
use Rattle.est_meaning.specs.declared.run.Move.TheVariants.{Take, Fire}
use Rattle.est_meaning.specs.AllowedEvents.{most_events}
use Rattle.est_explanation.specs.declared.explanation.Explanation.{Explanation}
use Rattle.est_explanation.specs.ExplanationGrammar.{most_ordinal}

-- the line of a move
abbrev pub move_line : Move → List ℕ
move_line Take = codes "take\n"
move_line (Fire firing) =
    codes "fire " ++ decimal firing.instance ++ codes " " ++ decimal firing.transition ++ codes " "
    ++ decimal firing.choice ++ codes "\n"

-- the last line, which has the claim
abbrev pub claim_line : ℕ → List ℕ
claim_line claim = codes "yields " ++ decimal claim ++ codes "\n"

-- the canonical text: a head, a line for each move, in order, and the claim
abbrev pub canonical : Explanation → List ℕ
canonical x = codes "explanation 1\n" ++ flat_map move_line x.moves ++ claim_line x.claim

-- the numbers of the firing are those that a text may have
pub record IsWritableFiring (firing : Firing) : Type 0 where
  pub instance : firing.instance ≤ most_ordinal
  pub transition : firing.transition ≤ most_ordinal
  pub choice : firing.choice ≤ most_ordinal

-- and so are those of the move, if it has any
abbrev pub IsWritableMove : Move → Type 0
IsWritableMove Take = Unit {0}
IsWritableMove (Fire firing) = IsWritableFiring firing

-- all numbers of the explanation are those that a text may have
pub record IsWritable (x : Explanation) : Type 0 where
  pub moves : All IsWritableMove x.moves
  pub claim : x.claim ≤ most_events + 1
