-- How the tokens are spelled that are tried at a place.
use Rattle.std.specs.Prelude.{ℕ, List, codes}
use Rattle.advice_tokens.specs.declared.candidate.Candidate.{Candidate}
use Rattle.advice_tokens.specs.declared.candidate.Candidate.TheVariants.{Name, Number, Character}
use Rattle.advice_tokens.specs.declared.candidate.Candidate.TheVariants.{Spelled}

-- a word or a symbol as itself, and one token for all of a sort
abbrev pub spelling_of : Candidate → List ℕ
spelling_of Name = codes "a"
spelling_of Number = codes "1"
spelling_of Character = codes "'a'"
spelling_of (Spelled spelling) = spelling.now
