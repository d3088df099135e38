use Rattle.std.specs.List.{All}
use Rattle.advice_tokens.specs.Beginnings.{CouldFollow}
use Rattle.advice_tokens.proofs.wanted.try_spellings.Given as goal

abbrev pub invariant-loop-spelling : goal.invariant-loop-spelling
invariant-loop-spelling l = All (CouldFollow l.before) l.found.items
