use Rattle.std.proofs.Common.{rules, ◌≡◌, ◌∙◌, sym, ap, refl, ◌↔◌, IsTrue, nat_eq, w32}
use Rattle.std.proofs.lemmas.Bool.Decides.{Decides-int_eq, Decides-like}
use Rattle.std.proofs.lemmas.Slice.Eq.{slice_eq-Decides}
use Rattle.est_values.specs.declared.value.Value.{out-Value}
use Rattle.est_values.specs.declared.value.Value.TheOpen as value
use Rattle.est_values.specs.declared.value.Value.TheVariants as rolled
use Rattle.est_seen.specs.declared.seen.Seen.{out-Seen}
use Rattle.est_seen.specs.declared.seen.Seen.TheOpen as seen
use Rattle.est_seen.specs.declared.seen.Seen.TheVariants as held
use Rattle.est_seen.proofs.MatchesByForm.{form_answer}
use Rattle.est_seen.proofs.MatchEach.{not_as_many, one_fails, all_match, never_missing}
use Rattle.est_seen.proofs.MatchEach.{one_more_matches}
use Rattle.est_seen.proofs.seen.+matches.Goals as goal

pub Seen::matches-returns-in-Any-default : goal.Seen::matches-returns-in-Any-default
Seen::matches-returns-in-Any-default t c =
    form_answer _ _ seen.Any _ _ (ap out-Seen c.in-Any-default.is-0 ∙ held.outs-Any) refl
    (λ _. tt, λ _. refl)

pub Seen::matches-returns-in-Undefined-Undefined :
    goal.Seen::matches-returns-in-Undefined-Undefined
Seen::matches-returns-in-Undefined-Undefined t c =
    let a = c.in-Undefined-Undefined in
    form_answer _ _ seen.Undefined value.Undefined _ (ap out-Seen a.is-0 ∙ held.outs-Undefined)
    (ap out-Value a.is-1 ∙ rolled.outs-Undefined) (λ _. tt, λ _. refl)

pub Seen::matches-returns-in-Ordinal-Ordinal : goal.Seen::matches-returns-in-Ordinal-Ordinal
Seen::matches-returns-in-Ordinal-Ordinal t c =
    let a = c.in-Ordinal-Ordinal in
    let same : IsTrue (nat_eq (mir.Val.of_z w32 a.x) (mir.Val.of_z w32 a.y)) ↔ (a.x ≡ a.y) =
    search rules in
    form_answer _ _ (seen.Ordinal a.x) (value.Ordinal a.y) _ (ap out-Seen a.is-0
    ∙ held.outs-Ordinal a.x) (ap out-Value a.is-1 ∙ rolled.outs-Ordinal a.y) same

pub Seen::matches-returns-in-Set-Set : goal.Seen::matches-returns-in-Set-Set
Seen::matches-returns-in-Set-Set t c =
    let a = c.in-Set-Set in
    let one : c.as_slice.result.now ≡ a.x = c.as_slice.ensures in
    let other : c.as_slice-in-Set-Set.result.now ≡ a.y =
    c.as_slice-in-Set-Set.ensures ∙ c.get.ensures in
    form_answer _ _ (seen.Set a.x) (value.Set a.y) _ (ap out-Seen a.is-0 ∙ held.outs-Set a.x)
    (ap out-Value a.is-1 ∙ rolled.outs-Set a.y)
    (Decides-like c.eq.result
    (λ (e : c.as_slice.result.now ≡ c.as_slice-in-Set-Set.result.now). sym one ∙ e ∙ other)
    (λ (e : a.x ≡ a.y). one ∙ e ∙ sym other)
    (slice_eq-Decides Decides-int_eq _ _ _ c.eq.ensures))

pub Seen::matches-returns-in-Group-Group : goal.Seen::matches-returns-in-Group-Group
Seen::matches-returns-in-Group-Group t c =
    let a = c.in-Group-Group in
    form_answer _ _ (seen.Group a.seen) (value.Group a.values) _ (ap out-Seen a.is-0
    ∙ held.outs-Group a.seen) (ap out-Value a.is-1 ∙ rolled.outs-Group a.values)
    c.match_each.ensures

pub match_each-returns-then-seen-len : goal.match_each-returns-then-seen-len
match_each-returns-then-seen-len t c =
    not_as_many _ _ _ _ c.as_slice-seen.ensures c.len.ensures c.if-seen-len.true

pub match_each-returns-in-None : goal.match_each-returns-in-None
match_each-returns-in-None t c =
    never_missing _ _ _ _ c.len.ensures c.if-seen-len.false c.loop-i-test.true c.in-None.ensures

pub match_each-returns-then-not-matches : goal.match_each-returns-then-not-matches
match_each-returns-then-not-matches t c =
    one_fails _ _ _ _ _ _ _ c.as_slice-seen.ensures c.loop-i-test.true c.index-seen-i.is
    c.in-Some.ensures c.matches.ensures c.if-not-matches.true

pub match_each-loop-i-preserved : goal.match_each-loop-i-preserved
match_each-loop-i-preserved t c =
    one_more_matches _ _ _ _ _ c.loop-i-test.true c.index-seen-i.is c.in-Some.ensures
    (c.matches.ensures.0 c.if-not-matches.false) c.loop-i.invariant

pub match_each-returns : goal.match_each-returns
match_each-returns t c =
    all_match _ _ _ _ _ c.as_slice-seen.ensures c.len.ensures c.if-seen-len.false
    c.loop-i-test.false c.loop-i.invariant
