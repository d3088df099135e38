-- The transitions of a sentence that breaks no rule have no more choices than the rules allow.
use Rattle.std.specs.Prelude.{slice_get, flat_map}
use Rattle.std.proofs.Common.{◌≡◌, refl, sym, ap, subst, ◌∙◌, ℕ, ◌≤◌, List, [], ◌∷◌, length}
use Rattle.std.proofs.Common.{Option, Some, None, inl, inr, arith}
use Rattle.std.specs.List.{AllByRecursion, filter, filter_map}
use Rattle.std.specs.Option.{option_map_or}
use Rattle.std.proofs.lemmas.Option.{same_Some, none-some}
use Rattle.est_syntax.specs.Least.{IsIn}
use Rattle.est_syntax.specs.declared.rule.Fault.{Fault}
use Rattle.est_syntax.specs.declared.specification.Spec.{Spec}
use Rattle.est_syntax.specs.declared.transition.Clause.{Clause}
use Rattle.est_syntax.specs.declared.transition.Clause.TheVariants as clause
use Rattle.est_syntax.specs.declared.type_text.VarDef.{VarDef}
use Rattle.est_values.specs.OrdinalTuples.{ordinal_tuples}
use Rattle.rule_scope.specs.Outline.{Outline, entry_at}
use Rattle.rule_scope.specs.Uses.{is_sort}
use Rattle.rule_scope.specs.declared.declaration.Sort.TheVariants as sort
use Rattle.rule_declares.specs.Bodies.{outline_of}
use Rattle.est_types.specs.DeclarationFaults.{declaration_faults}
use Rattle.est_check.specs.BlockFaults.{part_faults, bodies_faults}
use Rattle.est_check.specs.Clauses.{most_tuples, domain_faults, tuples, tuples_faults}
use Rattle.est_check.specs.LeastFault.{IsGood, IsLeastFault, specification_faults}
use Rattle.mean_blocks.specs.NamesInRuns.{kind_at, places_of}
use Rattle.est_meaning.specs.ClauseContexts.{variables_in, any_of}
use Rattle.law_places.proofs.Ascending.{specification_stands}
use Rattle.law_places.proofs.SaidWholes.{declarations_said}
use Rattle.law_sentences.proofs.NoFaults.{parted}
use Rattle.law_sentences.proofs.WholeSentences.{sentences_whole}
use Rattle.law_numbers.specs.WritableLaws.{ChoicesAreFew}
use Rattle.law_numbers.proofs.CountedChoices.{few_tuples}
use Rattle.law_numbers.proofs.EachClause.{transition_has}
use Rattle.law_numbers.proofs.FineClauses.{IsFineClause, parts_fine}
use Rattle.law_numbers.proofs.NamedAnys.{anys_named}
use Rattle.law_numbers.proofs.NamedKinds.{variables_are}

-- a list with nothing in it
nothing_in : (xs : List Fault) → ((f : Fault) → IsIn f xs → ⊥) → xs ≡ []
nothing_in [] h = refl
nothing_in (x ∷ xs) h = absurd (h x (inl refl))

no_faults : (spec : Spec) → IsGood spec → specification_faults spec ≡ []
unfolding IsLeastFault
no_faults spec h = nothing_in (specification_faults spec) h

-- the `any` among clauses whose variables have this region
record IsAny (o : Outline) (cs : List Clause) (place : ℕ) : Type 0 where
  names : List VarDef
  stands : IsIn (clause.Any names place) cs
  fine : IsFineClause o (clause.Any names place)

any_given : (o : Outline) (cs : List Clause) (place : ℕ) → AllByRecursion (IsFineClause o) cs
    → slice_get (filter_map variables_in cs) 0 ≡ Some place → IsAny o cs place
any_given o [] place h e = absurd (none-some place e)
any_given o (clause.Any names p ∷ cs) place h e =
    let q = same_Some p place e in record {
      names = names;
      stands = inl (ap (λ z. let c : Clause = clause.Any names z in c) q);
      fine = subst (λ z. IsFineClause o (clause.Any names z)) q h.0;
    }
any_given o (_ ∷ cs) place h e = let a = any_given o cs place h.1 e in
    record { names = a.names; stands = inr a.stands; fine = a.fine }

pub choices_few : ChoicesAreFew
choices_few spec sentence good body number x is = by (any_of x) refl
  where
    o : Outline
    o = outline_of spec

    fine : AllByRecursion (IsFineClause o) x.clauses
    fine =
        let none = no_faults spec good in
        let own = parted (flat_map (part_faults o) spec.parts) _
        (parted (declaration_faults spec) (bodies_faults spec) none).1 in
        let whole =
        sentences_whole sentence.text sentence.tokens spec sentence.few sentence.tree none in
        let said = declarations_said spec (length sentence.tokens)
        (let few = sentence.few in omega (arith, few))
        (specification_stands sentence.text sentence.tokens spec sentence.tree) in
        transition_has (IsFineClause o) spec (parts_fine o spec.parts own.0 whole.1.0 said) body
        number x is

    by : (a : Option ℕ) → any_of x ≡ a → length (ordinal_tuples
        (filter_map (kind_at o) (option_map_or (places_of o sort.Variable) a []))) ≤ most_tuples
    by None e = omega arith
    by (Some place) e = let a = any_given o x.clauses place fine e in
        subst (λ ks. length (ordinal_tuples ks) ≤ most_tuples)
        (sym (ap (λ ps. filter_map (kind_at o)
        (filter (λ (p : ℕ). is_sort sort.Variable (entry_at o p)) ps))
        (anys_named spec sentence body number x a.names place is a.stands)
        ∙ variables_are o a.names a.fine.said))
        (few_tuples o a.names place a.fine.whole
        (parted (flat_map (domain_faults o) a.names) (tuples_faults (tuples o (Some 1) a.names) place)
        a.fine.unbroken).1)
