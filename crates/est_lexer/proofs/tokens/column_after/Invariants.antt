use Rattle.std.proofs.Common.{◌≡◌, ◌≤◌, ◌+◌, take, not}
use Rattle.std.specs.List.{suffix_len}
use Rattle.est_lexer.specs.Lines.{is_line_feed}
use Rattle.est_lexer.proofs.tokens.column_after.Given as goal

abbrev pub invariant-loop-byte : goal.invariant-loop-byte
invariant-loop-byte l = record {
  value : l.column ≡ 1 + suffix_len (λ byte. not (is_line_feed byte)) (take l.byte-index l.before);
  in_range : l.column ≤ l.byte-index + 1;
}
