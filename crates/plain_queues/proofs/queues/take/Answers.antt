use Rattle.std.proofs.Common.{ap, ◌∙◌, sym, List, slice_get, drop, ◌≡◌, [], Some}
use Rattle.std.specs.List.{position}
use Rattle.plain_texts.specs.mean_blocks.declared.situation.Item.{Item}
use Rattle.plain_systems.specs.declared.system.Waiting.{Waiting}
use Rattle.plain_systems.specs.HeldSystems.{queue_of, is_waiting, waiting_in}
use Rattle.plain_systems.proofs.FirstFound.{none_found}
use Rattle.plain_queues.specs.ChangedQueues.{with_items}
use Rattle.plain_queues.proofs.QueueLaws.{no_queue, held_there, changed_there, same_queues}
use Rattle.plain_queues.proofs.queues.take.Goals as goal
use Rattle.plain_queues.proofs.queues.take.Goals.{In-None, In_ok-item-in-Some}

empty : (c : In-None) → waiting_in c.args.queues.now (queue_of c.args.key.now) ≡ []
empty c =
    let q = queue_of c.args.key.now in
    no_queue q c.args.queues.now (none_found (is_waiting q) c.args.queues.now
    (ap (position (is_waiting q)) (sym c.get.ensures) ∙ sym c.in-None.ensures))

pub returns-in-None-clause-item : goal.returns-in-None-clause-item
returns-in-None-clause-item c = sym (ap (λ (xs : List Item). slice_get xs 0) (empty c))

pub returns-in-None-clause-rest : goal.returns-in-None-clause-rest
returns-in-None-clause-rest c =
    let q = queue_of c.args.key.now in
    let m = waiting_in c.args.queues.now in
    sym (ap (λ (xs : List Item). with_items q xs m)
    (ap (drop 1) (empty c) ∙ sym (empty c)) ∙ same_queues q m)

there : (c : In_ok-item-in-Some)
    → position (is_waiting (queue_of c.args.key.now)) c.in_ok-queues-in-Some.queues.now
    ≡ Some c.in-Some.at
there c =
    let q = queue_of c.args.key.now in
    ap (position (is_waiting q)) (c.in_ok-queues-in-Some.ensures.value ∙ sym c.get.ensures)
    ∙ sym c.in-Some.ensures

pub returns-in_ok-item-in-Some-clause-item : goal.returns-in_ok-item-in-Some-clause-item
returns-in_ok-item-in-Some-clause-item c =
    let q = queue_of c.args.key.now in
    c.in_ok-item-in-Some.ensures.item ∙ sym (ap (λ (xs : List Item). slice_get xs 0)
    (ap (λ (ws : List Waiting). waiting_in ws q) (sym c.in_ok-queues-in-Some.ensures.value)
    ∙ held_there q c.in_ok-queues-in-Some.queues.now c.queues.inside.items.items c.in-Some.at
    c.index_mut.result.now c.queues.view_is (there c) c.index_mut.ensures.value))

pub returns-in_ok-item-in-Some-clause-rest : goal.returns-in_ok-item-in-Some-clause-rest
returns-in_ok-item-in-Some-clause-rest c =
    changed_there (queue_of c.args.key.now) c.in_ok-queues-in-Some.queues.now
    c.queues.inside.items.items c.in-Some.at c.index_mut.result.now (drop 1) c.take.new.self
    (waiting_in c.args.queues.now) c.queues.view_is (there c) c.index_mut.ensures.value
    (ap waiting_in c.in_ok-queues-in-Some.ensures.value) c.in_ok-item-in-Some.ensures.rest
