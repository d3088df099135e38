use Rattle.std.proofs.Common.{sym, ap, ◌∙◌}
use Rattle.plain_frames.proofs.NamesFound.{slot_in, slot_by, no_slot}
use Rattle.plain_frames.proofs.names.slot_of.Goals as goal

pub returns-in-None : goal.returns-in-None
returns-in-None c = sym (no_slot c.args.declared c.args.frame.now (sym c.in-None.ensures))

pub returns-in-None-get : goal.returns-in-None-get
returns-in-None-get c =
    ap slot_in c.in-None-get.ensures
    ∙ sym (slot_by c.args.declared c.args.frame.now c.in-Some.at (sym c.in-Some.ensures))

pub returns-in-Some-get : goal.returns-in-Some-get
returns-in-Some-get c =
    ap slot_in c.in-Some-get.ensures
    ∙ sym (slot_by c.args.declared c.args.frame.now c.in-Some.at (sym c.in-Some.ensures))
