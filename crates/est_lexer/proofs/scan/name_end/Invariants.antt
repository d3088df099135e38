use Rattle.std.proofs.Common.{◌≡◌, ◌≤◌, ◌+◌, ◌-◌, drop, length}
use Rattle.std.specs.List.{prefix_len}
use Rattle.est_lexer.specs.Spellings.{is_identifier_part}
use Rattle.est_lexer.proofs.scan.name_end.Given as goal

abbrev pub invariant-loop-end : goal.invariant-loop-end
invariant-loop-end l = record {
  value : l.end + prefix_len is_identifier_part (drop l.end l.text) ≡ l.from + prefix_len
      is_identifier_part (drop l.from l.text);
  inside : l.end ≤ length l.text;
}

abbrev pub decreases-loop-end : goal.decreases-loop-end
decreases-loop-end l = length l.text - l.end
