-- A trail with one more name is made: it has no bytes, and its names are those of its clause.
use mathlib.Core.Path.{refl}
use mathlib.Core.List.{[], ◌∷◌, ◌++◌}
use lib.ListN.{length}
use base.Logic.{emp, via, fst∗}
use mir.Syntax.{named, w8}
use mir.Val.{Val, vptr, vstruct, vnil}
use types.Kit.{‵, raw, ◌$◌, ◌∵◌, !, qed, keep, fjoin, suffices, done}
use types.Run.{no_more, returns, enter}
use types.Part.{agg}
use types.ByLocal.{alloc_all, pass_all, free_all, look_at, sets}
use contract.Running.{tables}
use denote.Builtin.{RefOf}
use denote.Exit.{yes}
use denote.Plain.{UInt}
use denote.RattleType.{owns}
use denote.Ref.{shr_vals, shr_Tells}
use denote.Shadow.{pure_i}
use denote.Signature.{plain, types_at}
use denote.Slice.{ShrSlice, slice_val, shr_slice_vals, shr_slice_Tells}
use denote.Steps.{nothing}
use denote.Such.{such_Tells}
use denote.Text.{StrRefOf, Utf8}
use denote.Triple.Entry.{alive}
use denote.Triple.Walked.{says, Stays, stay_dropped, Goes-dropped, walk_of, ends_at}
use Rattle.std.proofs.raw_atomic.Walks.{proved}
use Rattle.call_files.specs.contracts.trail.Trail as made
use Rattle.call_files.specs.contracts.trail.Trail.start as f
use Rattle.call_files.specs.contracts.trail.Trail.start.Key.{name as key}
use Rattle.call_files.proofs.trail.Trail.start.Statement.{statement}
use Rattle.call_files.proofs.trail.Trail.start.Code as code

abbrev stayed : Stays f.ended.signature.params f.ended.kept
stayed = (
  stay_dropped (RefOf (0 ∷ []) tt (plain (λ _. made.the_row)) (λ _. tt)) yes,
  (stay_dropped (StrRefOf (1 ∷ []) tt) yes, tt),
)

pub start_spec : {M : Type 1} → statement M
start_spec 𝓤 𝓛 𝓜 𝓡 wired =
    let c = f.clauses 𝓛 𝓜.mem 𝓡.returns in
    let 𝓣 = tables 𝓤 𝓛.H 𝓜 𝓡 𝓡.env in
    proved 𝓛 f.ended stayed c 𝓜 𝓡 (
      Goes-dropped 𝓛 2 (RefOf (0 ∷ []) tt (plain (λ _. made.the_row)) (λ _. tt)) yes
          (λ κs x n. refl),
      (Goes-dropped 𝓛 2 (StrRefOf (1 ∷ []) tt) yes (λ κs x n. refl), tt),
    )
    key code.function (code.unfolded 𝓤 𝓛.H 𝓜 𝓡 wired)
    (λ κs. (shr_vals, (shr_slice_vals, tt)))
    (λ κs. (
      shr_Tells (named 0) κs.0 made.the_row,
      (
        such_Tells (ShrSlice (named 1) κs.1.0 (UInt w8)) (λ x. Utf8 x.now) (λ x cs. (tt, tt))
            shr_slice_vals (shr_slice_Tells (named 1) κs.1.0 (UInt w8)),
        tt,
      ),
    ))
    (λ κs qs bounds a g are.
    let before : Val = vptr a.0.ref_ptr.0 a.0.ref_ptr.1 in
    let text : Val = slice_val a.1.0.ref_ptr (length a.1.0.now) in
    let y : (walk_of 𝓛 f.ended stayed c).Ghost =
    ((κs, qs, bounds, a, (before ∷ [], (text ∷ [], tt))), g) in
    let trail : (made.the_row).Denot = record {
      names = a.0.now.names ++ a.1.0.now ∷ [];
      asked = 0;
    } in
    via 𝓤 _ (fst∗ 𝓤 _ (emp 𝓤)) (
    qed 𝓛 (raw (alive 𝓛 f.signature κs qs) ∷ ‵ (owns (types_at f.signature.params κs) a
    (before ∷ [], (text ∷ [], tt))) ∷ []) ∵
    enter ! 𝓣.C 𝓣.Λ code.function (before ∷ text ∷ []) _ $ alloc_all !
    (λ l. pass_all ! refl ((tt, tt), ((tt, (tt, (record { fits = are.1.0.0.0.1.0 }, tt))), tt))
    $
    sets ! (agg ! (no_more !)) refl (tt, tt) $ returns ! (look_at ! 0 refl) $ free_all ! refl $
    pure_i ! (made.the_row.own_val trail (vstruct vnil ∷ [])) ((λ vss. (tt, tt)), tt)
    ((tt, (refl, tt)), tt) $
    suffices ! _ (ends_at 𝓛 f.ended stayed c y (vstruct vnil) trail (tt, (tt, tt)) (tt, (tt, tt))) $
    says ! (refl, refl) $
    nothing ! $ nothing ! $ fjoin ! $ nothing ! $ fjoin ! $ keep ! (2 ∷ 0 ∷ 1 ∷ []) $ done !)))
