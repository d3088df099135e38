-- The scalars of parts by the lists that they are made of.
use Rattle.std.proofs.Common.{◌≡◌, refl, sym, ap, ◌∙◌, ℕ, List}
use Rattle.est_syntax.specs.declared.body.Part.{Part, Row_of-Part, end_of-Part, more_of-Part}
use Rattle.est_syntax.specs.declared.body.Part.{items-the_row-Part, items_hidden-the_row-Part-0}
use Rattle.est_syntax.specs.declared.body.Part.{items_shown-the_row-Part-0}
use Rattle.est_syntax.specs.declared.body.Part.TheBlock.{hidden-the_row-Part-0}
use Rattle.est_syntax.specs.declared.body.Part.TheBlock.{shown-the_row-Part-0}
use Rattle.est_syntax.specs.declared.body.Part.TheVariants as part
use Rattle.rule_scope.specs.Outline.{Outline}
use Rattle.est_types.specs.Scalars.{row_scalars, vars_scalars, parts_scalars}

scalars_row : (o : Outline) (sum : ℕ) (n : _) (row : Row_of-Part n)
    → row_scalars o sum row ≡ parts_scalars o sum (items-the_row-Part n row)
scalars_row o sum n end_of-Part = refl
scalars_row o sum n (more_of-Part (part.Consts x) rest) = scalars_row o sum _ rest
scalars_row o sum n (more_of-Part (part.Types x) rest) = scalars_row o sum _ rest
scalars_row o sum n (more_of-Part (part.Channel x) rest) = scalars_row o sum _ rest
scalars_row o sum n (more_of-Part (part.Header x) rest) = scalars_row o sum _ rest
scalars_row o sum n (more_of-Part (part.Body x) rest) = scalars_row o sum _ rest
scalars_row o sum n (more_of-Part (part.Modvars x) rest) = scalars_row o sum _ rest
scalars_row o sum n (more_of-Part (part.Points x) rest) = scalars_row o sum _ rest
scalars_row o sum n (more_of-Part (part.Vars vs) rest) = scalars_row o (vars_scalars o sum vs) _
    rest
scalars_row o sum n (more_of-Part (part.States x) rest) = scalars_row o sum _ rest
scalars_row o sum n (more_of-Part (part.StateSets x) rest) = scalars_row o sum _ rest
scalars_row o sum n (more_of-Part (part.Routine' a b c d e f g) rest) = scalars_row o sum _ rest

pub scalars_hidden : (o : Outline) (ps : List Part) → row_scalars o 0 (hidden-the_row-Part-0 ps)
    ≡ parts_scalars o 0 ps
scalars_hidden o ps = scalars_row o 0 _ (hidden-the_row-Part-0 ps)
    ∙ ap (parts_scalars o 0) (items_hidden-the_row-Part-0 ps)

pub scalars_shown : (o : Outline) (a : _) (row : Row_of-Part _)
    → row_scalars o 0 row ≡ parts_scalars o 0 (shown-the_row-Part-0 a row)
scalars_shown o a row = scalars_row o 0 _ row
    ∙ ap (parts_scalars o 0) (sym (items_shown-the_row-Part-0 a row))
