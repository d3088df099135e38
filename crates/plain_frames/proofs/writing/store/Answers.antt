use Rattle.std.proofs.lemmas.Result.{err_from_is_err_and}
use Rattle.plain_systems.specs.HeldSystems.{state_of}
use Rattle.plain_frames.proofs.StoredValues.{stops_in_instance}
use Rattle.plain_frames.proofs.writing.store.Goals as goal

pub returns-in_err-write_in_instance-in-Instance :
    goal.returns-in_err-write_in_instance-in-Instance
returns-in_err-write_in_instance-in-Instance c n =
    let p = err_from_is_err_and c.from_residual-in_err-write_in_instance-in-Instance.result
    c.from_residual-in_err-write_in_instance-in-Instance.ensures.1 in
    rw (p.1, p.2) (stops_in_instance c.args.function c.args.place.now c.args.kind.now c.args.value
    (state_of c.args.working.now n) _ c.in-Instance.number _ c.write_in_instance.new.rows
    c.in-Instance.is c.in_err-write_in_instance-in-Instance.ensures)
