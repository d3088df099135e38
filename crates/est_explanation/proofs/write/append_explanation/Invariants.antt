use Rattle.std.proofs.Common.{◌≡◌, ◌++◌, take, codes, flat_map}
use Rattle.est_explanation.specs.CanonicalExplanation.{move_line}
use Rattle.est_explanation.proofs.write.append_explanation.Given as goal

abbrev pub invariant-loop-next : goal.invariant-loop-next
invariant-loop-next l = l.text.items
    ≡ l.fn.text.items ++ codes "explanation 1\n" ++ flat_map move_line (take l.next-index l.moves)
