-- The trail that is made has no bytes, the same names, and a number that is one greater.
use mathlib.Core.Path.{refl}
use mathlib.Core.List.{[], ◌∷◌}
use Rattle.std.proofs.Common.{◌+◌}
use base.Logic.{emp, via, fst∗}
use mir.Syntax.{named}
use mir.Val.{Val, vptr, vstruct, vnil}
use types.Kit.{‵, raw, ◌$◌, ◌∵◌, !, qed, keep, fjoin, suffices, done}
use types.Run.{no_more, returns, enter}
use types.Part.{agg}
use types.ByLocal.{alloc_all, pass_all, free_all, look_at, sets}
use contract.Running.{tables}
use denote.Builtin.{RefOf}
use denote.Exit.{yes}
use denote.RattleType.{owns}
use denote.Ref.{shr_vals, shr_Tells}
use denote.Shadow.{pure_i}
use denote.Signature.{plain, types_at}
use denote.Steps.{nothing}
use denote.Triple.Entry.{alive}
use denote.Triple.Walked.{says, Stays, stay_dropped, Goes-dropped, walk_of, ends_at}
use Rattle.std.proofs.raw_atomic.Walks.{proved}
use Rattle.call_files.specs.contracts.trail.Trail as made
use Rattle.call_files.specs.contracts.trail.Trail.ask as f
use Rattle.call_files.specs.contracts.trail.Trail.ask.Key.{name as key}
use Rattle.call_files.proofs.trail.Trail.ask.Statement.{statement}
use Rattle.call_files.proofs.trail.Trail.ask.Code as code

abbrev stayed : Stays f.ended.signature.params f.ended.kept
stayed = (stay_dropped (RefOf (0 ∷ []) tt (plain (λ _. made.the_row)) (λ _. tt)) yes, tt)

pub ask_spec : {M : Type 1} → statement M
ask_spec 𝓤 𝓛 𝓜 𝓡 wired =
    let c = f.clauses 𝓛 𝓜.mem 𝓡.returns in
    let 𝓣 = tables 𝓤 𝓛.H 𝓜 𝓡 𝓡.env in
    proved 𝓛 f.ended stayed c 𝓜 𝓡 (
      Goes-dropped 𝓛 1 (RefOf (0 ∷ []) tt (plain (λ _. made.the_row)) (λ _. tt)) yes
          (λ κs x n. refl),
      tt,
    )
    key code.function (code.unfolded 𝓤 𝓛.H 𝓜 𝓡 wired)
    (λ κs. (shr_vals, tt)) (λ κs. (shr_Tells (named 0) κs.0 made.the_row, tt))
    (λ κs qs bounds a g are.
    let before : Val = vptr a.0.ref_ptr.0 a.0.ref_ptr.1 in
    let y : (walk_of 𝓛 f.ended stayed c).Ghost = ((κs, qs, bounds, a, (before ∷ [], tt)), g) in
    let trail : (made.the_row).Denot = record {
      names = a.0.now.names;
      asked = a.0.now.asked + 1;
    } in
    via 𝓤 _ (fst∗ 𝓤 _ (emp 𝓤)) (
    qed 𝓛 (raw (alive 𝓛 f.signature κs qs) ∷ ‵ (owns (types_at f.signature.params κs) a
    (before ∷ [], tt)) ∷ []) ∵
    enter ! 𝓣.C 𝓣.Λ code.function (before ∷ []) _ $ alloc_all ! (λ l. pass_all ! refl ((tt, tt), tt)
    $
    sets ! (agg ! (no_more !)) refl (tt, tt) $ returns ! (look_at ! 0 refl) $ free_all ! refl $
    pure_i ! (made.the_row.own_val trail (vstruct vnil ∷ [])) ((λ vss. (tt, tt)), tt)
    ((tt, (refl, tt)), tt) $
    suffices ! _ (ends_at 𝓛 f.ended stayed c y (vstruct vnil) trail (tt, tt) (tt, tt)) $ says !
    (refl, refl) $
    nothing ! $ nothing ! $ fjoin ! $ keep ! (2 ∷ 0 ∷ 1 ∷ []) $ done !)))
