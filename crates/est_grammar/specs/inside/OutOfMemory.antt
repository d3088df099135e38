-- What a step of the parser answers that can only run out of memory.
use Rattle.est_grammar.specs.declared.error.ParseError.{ParseError}
use Rattle.est_grammar.specs.declared.error.ParseError.TheVariants as errors

-- memory ran out
abbrev pub IsMemory : ParseError → Type 0
IsMemory (errors.Memory e) = Unit {0}
IsMemory _ = ⊥
