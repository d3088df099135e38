use Rattle.std.proofs.Common.{ℕ, List, [], sym, Bor}
use Rattle.std.proofs.Math.ListN.{get_or-map}
use Rattle.text_printer.proofs.spelling.spelling_at.Goals as goal

pub returns : goal.returns
returns c = sym (get_or-map (λ (b : Bor (List ℕ)). b.now) c.args.table.now c.args.place
    (record { ref_ptr = (0, 0); now = [] }))
