-- The lines of refusals.
use Rattle.std.specs.Prelude.{ℕ, List, ◌++◌, codes}
use Rattle.std.specs.Fmt.{decimal}
use Rattle.est_syntax.specs.declared.rule.Rule.{Rule}
use Rattle.est_syntax.specs.declared.rule.Rule.TheVariants.{UnknownName, DeclaredTwice}
use Rattle.est_syntax.specs.declared.rule.Rule.TheVariants.{NotSeenHere}
use Rattle.est_syntax.specs.declared.rule.Rule.TheVariants.{WrongSort, NumberTooLarge}
use Rattle.est_syntax.specs.declared.rule.Rule.TheVariants.{WrongBounds}
use Rattle.est_syntax.specs.declared.rule.Rule.TheVariants.{TooLarge, WrongKind}
use Rattle.est_syntax.specs.declared.rule.Rule.TheVariants.{WrongNumber}
use Rattle.est_syntax.specs.declared.rule.Rule.TheVariants.{NotWritable, NotInFunction}
use Rattle.est_syntax.specs.declared.rule.Rule.TheVariants.{WrongDirection}
use Rattle.est_syntax.specs.declared.rule.Rule.TheVariants.{DelayNotAlone}
use Rattle.est_syntax.specs.declared.rule.Rule.TheVariants.{NoFirstState}
use Rattle.est_syntax.specs.declared.rule.Rule.TheVariants.{WrongAttribute, WrongBody}
use Rattle.est_syntax.specs.declared.rule.Rule.TheVariants.{WrongLink, CaseTwice}
use Rattle.call_files.specs.ReportLines.{line_feed}
use Rattle.call_files.specs.Files.{word_of}
use Rattle.call_files.specs.declared.file.File.{File}

-- a file that is refused at a line and a column
abbrev pub refusal_line : File → ℕ → ℕ → List ℕ → List ℕ
refusal_line file line column why =
    word_of file ++ codes ":" ++ decimal line ++ codes ":" ++ decimal column ++ codes ": " ++ why
    ++ line_feed

-- a file that is longer than its limit
abbrev pub too_long_line : File → List ℕ
too_long_line file = word_of file ++ codes ": too long" ++ line_feed

-- the number and the text of a rule
abbrev pub rule_text : Rule → List ℕ
rule_text UnknownName = codes "rule 1: unknown name"
rule_text DeclaredTwice = codes "rule 2: declared twice"
rule_text NotSeenHere = codes "rule 3: not seen here"
rule_text WrongSort = codes "rule 4: wrong sort"
rule_text NumberTooLarge = codes "rule 5: number too large"
rule_text WrongBounds = codes "rule 6: wrong bounds"
rule_text TooLarge = codes "rule 7: too large"
rule_text WrongKind = codes "rule 8: wrong kind"
rule_text WrongNumber = codes "rule 9: wrong number"
rule_text NotWritable = codes "rule 10: not writable"
rule_text NotInFunction = codes "rule 11: not in a function"
rule_text WrongDirection = codes "rule 12: wrong direction"
rule_text DelayNotAlone = codes "rule 13: delay not alone"
rule_text NoFirstState = codes "rule 14: no first state"
rule_text WrongAttribute = codes "rule 15: wrong attribute"
rule_text WrongBody = codes "rule 16: wrong body"
rule_text WrongLink = codes "rule 17: wrong link"
rule_text CaseTwice = codes "rule 18: case twice"
