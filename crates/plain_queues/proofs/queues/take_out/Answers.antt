use Rattle.std.proofs.Common.{ap, ◌∙◌, sym, List, ◌≡◌, [], Some, not, map}
use Rattle.std.specs.List.{filter, position}
use Rattle.plain_texts.specs.mean_blocks.declared.situation.Item.{Item}
use Rattle.plain_texts.specs.mean_blocks.QueueEffects.{belongs, passed_to}
use Rattle.plain_systems.specs.declared.system.Waiting.{Waiting}
use Rattle.plain_systems.specs.HeldSystems.{queue_of, is_waiting, waiting_in}
use Rattle.plain_systems.proofs.FirstFound.{none_found}
use Rattle.plain_queues.specs.ChangedQueues.{with_items}
use Rattle.plain_queues.proofs.QueueLaws.{no_queue, held_there, changed_there, same_queues}
use Rattle.plain_queues.proofs.queues.take_out.Goals as goal
use Rattle.plain_queues.proofs.queues.take_out.Goals.{After-new, In_ok-moved-in-Some}

empty : (c : After-new) → waiting_in c.args.queues.now (queue_of c.args.key.now) ≡ []
empty c =
    let q = queue_of c.args.key.now in
    no_queue q c.args.queues.now (none_found (is_waiting q) c.args.queues.now
    (ap (position (is_waiting q)) (sym c.get.ensures) ∙ sym c.in-None.ensures))

pub returns-in-None-clause-stay : goal.returns-in-None-clause-stay
returns-in-None-clause-stay c =
    let q = queue_of c.args.key.now in
    let m = waiting_in c.args.queues.now in
    sym (ap (λ (xs : List Item). with_items q xs m)
    (ap (λ (xs : List Item). filter (λ i. not (belongs c.args.from.now i)) xs) (empty c)
    ∙ sym (empty c)) ∙ same_queues q m)

pub returns-in-None-clause-moved : goal.returns-in-None-clause-moved
returns-in-None-clause-moved c =
    c.new.ensures ∙ sym (ap (λ (xs : List Item). map (passed_to c.args.to.now)
    (filter (belongs c.args.from.now) xs)) (empty c))

there : (c : In_ok-moved-in-Some)
    → position (is_waiting (queue_of c.args.key.now)) c.in_ok-queues-in-Some.queues.now
    ≡ Some c.in-Some.at
there c =
    let q = queue_of c.args.key.now in
    ap (position (is_waiting q)) (c.in_ok-queues-in-Some.ensures.value ∙ sym c.get.ensures)
    ∙ sym c.in-Some.ensures

pub returns-in_ok-moved-in-Some-clause-stay : goal.returns-in_ok-moved-in-Some-clause-stay
returns-in_ok-moved-in-Some-clause-stay c =
    changed_there (queue_of c.args.key.now) c.in_ok-queues-in-Some.queues.now
    c.queues.inside.items.items c.in-Some.at c.index_mut.result.now
    (λ (xs : List Item). filter (λ i. not (belongs c.args.from.now i)) xs) c.withdraw.new.queue
    (waiting_in c.args.queues.now) c.queues.view_is (there c) c.index_mut.ensures.value
    (ap waiting_in c.in_ok-queues-in-Some.ensures.value) c.in_ok-moved-in-Some.ensures.stay

pub returns-in_ok-moved-in-Some-clause-moved : goal.returns-in_ok-moved-in-Some-clause-moved
returns-in_ok-moved-in-Some-clause-moved c =
    let q = queue_of c.args.key.now in
    c.in_ok-moved-in-Some.ensures.moved
    ∙ ap (λ (xs : List Item). map (passed_to c.args.to.now) (filter (belongs c.args.from.now) xs))
    (sym (ap (λ (ws : List Waiting). waiting_in ws q) (sym c.in_ok-queues-in-Some.ensures.value)
    ∙ held_there q c.in_ok-queues-in-Some.queues.now c.queues.inside.items.items c.in-Some.at
    c.index_mut.result.now c.queues.view_is (there c) c.index_mut.ensures.value))
