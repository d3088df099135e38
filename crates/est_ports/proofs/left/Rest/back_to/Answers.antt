use Rattle.std.proofs.Common.{◌≡◌, ◌≤◌, ◌<◌, ◌∙◌, ◌++◌, [], ◌∷◌, length, reverse}
use Rattle.std.proofs.Common.{sym, ap, subst, arith}
use Rattle.std.proofs.lemmas.List.{reverse-append, length-reverse}
use Rattle.est_ports.specs.inside.Leftover.{HasUsedUp, used_of}
use Rattle.est_ports.proofs.BackLaws.{going_less, going_there, stands_there}
use Rattle.est_ports.proofs.left.Rest.back_to.Goals as goal

pub back-preserved : goal.back-preserved
back-preserved c =
    let undone = c.in-Some.undone in
    let old = c.back.self in
    let new = c.undo.new.self in
    let popped = c.pop.new.self.items in
    let split : old.used.items ≡ popped ++ undone ∷ [] = c.in-Some.ensures.items in
    let before : used_of old ≡ undone ∷ reverse popped =
    ap reverse split ∙ reverse-append popped (undone ∷ []) in
    let now : used_of new ≡ reverse popped = ap (λ w. reverse w.items) c.in_ok-undo.ensures.used in
    let size = length-reverse old.used.items in
    let more : c.args.height < length (used_of old) =
    (let n = c.len.ensures in omega (arith, old.used.ok.0)) in
    let fewer = length-reverse new.used.items in
    let left : c.len-in-back.result ≡ length (used_of new) =
    (let n = c.len-in-back.ensures in omega (arith, new.used.ok.0)) in
    going_less c.args.lists.now c.args.height c.args.self.now c.args.best.now old new c.back.best
    c.keep.new.self undone (reverse popped) c.len-in-back.result c.back.invariant before now more
    left
    c.in_ok-undo.ensures.leads c.in_ok-keep.ensures

pub returns-clause-stands : goal.returns-clause-stands
returns-clause-stands c left before events front s u =
    let lists = c.args.lists.now in
    let rest = c.back.self in
    let size = length-reverse rest.used.items in
    let done : length (used_of rest) ≤ c.args.height =
    (let n = c.len.ensures in omega (arith, rest.used.ok.0)) in
    let there = going_there lists c.args.height c.args.self.now c.args.best.now rest c.back.best
    c.back.invariant done in
    stands_there lists rest before front (c.back.invariant.somewhere (events, s.leads))
    (subst (λ w. HasUsedUp lists w before front) (sym there) u)
