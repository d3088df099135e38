use Rattle.est_plain.proofs.HistoryLaws.{all_popped, last_popped}
use Rattle.est_plain.proofs.history.History.back.Goals as goal

pub invariant_of-self : goal.invariant_of-self
invariant_of-self c =
    let w = c.args.self.now in
    record {
      numbered = last_popped c.in-Some.last w.below.items c.pop.new.self.items
          c.in-Some.ensures.items w.all_numbered;
      all_numbered = all_popped c.in-Some.last w.below.items c.pop.new.self.items
          c.in-Some.ensures.items w.all_numbered;
    }
