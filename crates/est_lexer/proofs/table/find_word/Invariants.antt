use Rattle.std.proofs.Common.{◌≡◌, drop}
use Rattle.std.specs.List.{find}
use Rattle.std.specs.Str.{str_eq_ignore_ascii_case}
use Rattle.est_lexer.specs.inside.Scanning.{rows}
use Rattle.est_lexer.proofs.table.find_word.Given as goal

abbrev pub invariant-loop-word : goal.invariant-loop-word
invariant-loop-word l = find (λ w. str_eq_ignore_ascii_case w.0 l.bytes)
    (drop l.word-index (rows l.words)) ≡ find (λ w. str_eq_ignore_ascii_case w.0 l.bytes)
    (rows l.words)
