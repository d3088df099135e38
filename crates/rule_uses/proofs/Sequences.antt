-- When all names of a sequence are free.
use Rattle.std.specs.Prelude.{◌&&◌}
use Rattle.std.proofs.Common.{Bool, true, false, ◌≡◌, sym, ap, ◌∙◌, ℕ, List, ◌++◌}
use Rattle.std.proofs.lemmas.List.Folds.{list_all-append}
use Rattle.est_syntax.specs.declared.name.Used.{Used}
use Rattle.rule_scope.specs.Outline.{Outline}
use Rattle.rule_uses.specs.Closed.{is_free, all_free}

-- All names of a sequence are free where those of its parts are.
pub free_append : (o : Outline) (routine : ℕ) (xs ys : List Used)
    → all_free o routine (xs ++ ys) ≡ (all_free o routine xs && all_free o routine ys)
free_append o routine xs ys = list_all-append (is_free o routine) xs ys

-- Where those of its first part are, all are where those of its second part are.
pub both_free : (o : Outline) (routine : ℕ) (us xs ys : List Used) (b : Bool) → us ≡ xs ++ ys
    → true ≡ all_free o routine xs → b ≡ all_free o routine ys → b ≡ all_free o routine us
both_free o routine us xs ys b is first second =
    second ∙ ap (λ f. f && all_free o routine ys) first ∙ sym (free_append o routine xs ys)
    ∙ ap (all_free o routine) (sym is)

-- Where those of its first part are not, all are not.
pub first_bound : (o : Outline) (routine : ℕ) (us xs ys : List Used) → us ≡ xs ++ ys
    → false ≡ all_free o routine xs → false ≡ all_free o routine us
first_bound o routine us xs ys is first =
    ap (λ f. f && all_free o routine ys) first ∙ sym (free_append o routine xs ys)
    ∙ ap (all_free o routine) (sym is)
