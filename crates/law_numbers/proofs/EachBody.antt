-- What holds of each body of a specification gives what holds of the transitions of each.
use Rattle.std.specs.Prelude.{if◌then◌else◌, find}
use Rattle.std.proofs.Common.{◌≡◌, refl, subst, ℕ, Bool, true, false, nat_eq, List, [], ◌∷◌}
use Rattle.std.proofs.Common.{Option, Some, None}
use Rattle.std.specs.List.{AllByRecursion, cons_option, filter_map, flat_map}
use Rattle.std.specs.Option.{option_map_or}
use Rattle.std.proofs.lemmas.Option.{same_Some, none-some}
use Rattle.est_syntax.specs.declared.body.Body.{Body, Body', out-Body}
use Rattle.est_syntax.specs.declared.body.Part.{Part, out-Part, Row_of-Part, end_of-Part}
use Rattle.est_syntax.specs.declared.body.Part.{more_of-Part}
use Rattle.est_syntax.specs.declared.body.Part.TheVariants as part
use Rattle.est_syntax.specs.declared.specification.Spec.{Spec}
use Rattle.mean_blocks.specs.TextByPlace.{text_of, parts_within, row_parts, parts_of, body_in}
use Rattle.est_meaning.specs.ClauseContexts.{FullTransition, group_transitions, transitions_of}
use Rattle.law_runs.proofs.ParentsOlder.{joined_all}

-- each body among parts, and within them
abbrev mutual
  pub PartBodies : (Body → Type 0) → Part → Type 0
  PartBodies Q (part.Body (Body' name header a parts f b groups)) =
      Q (Body' name header a parts f b groups) × RowBodies Q parts
  PartBodies Q _ = Unit {0}

  pub RowBodies : (Body → Type 0) → {n : _} → Row_of-Part n → Type 0
  RowBodies Q end_of-Part = Unit {0}
  RowBodies Q (more_of-Part x rest) = PartBodies Q x × RowBodies Q rest

abbrev pub AllBodies : (Body → Type 0) → List Part → Type 0
AllBodies Q [] = Unit {0}
AllBodies Q (x ∷ xs) = PartBodies Q x × AllBodies Q xs

module _ (Q : Body → Type 0) (R : List FullTransition → Type 0) (none : R [])
    (gives : (b : Body) → Q b → R (flat_map group_transitions (out-Body b).groups)) where
  abbrev Own : Part → Type 0
  Own x = (b : Body) → body_in x ≡ Some b → Q b

  own_body : (x : Part) → PartBodies Q x → Own x
  unfolding out-Part denote.Hole.Carrier.out
  own_body (part.Body (Body' name header a parts f c groups)) h b e =
      subst Q (same_Some _ b e) h.0
  own_body _ h b e = absurd (none-some b e)

  mutual
    within : (x : Part) → PartBodies Q x → AllByRecursion Own (parts_within x)
    within (part.Body (Body' name header a parts f b groups)) h =
        (own_body (part.Body (Body' name header a parts f b groups)) h, in_row parts h.1)
    within (part.Consts x) h = (own_body (part.Consts x) h, tt)
    within (part.Types x) h = (own_body (part.Types x) h, tt)
    within (part.Channel x) h = (own_body (part.Channel x) h, tt)
    within (part.Header x) h = (own_body (part.Header x) h, tt)
    within (part.Modvars x) h = (own_body (part.Modvars x) h, tt)
    within (part.Points x) h = (own_body (part.Points x) h, tt)
    within (part.Vars x) h = (own_body (part.Vars x) h, tt)
    within (part.States x) h = (own_body (part.States x) h, tt)
    within (part.StateSets x) h = (own_body (part.StateSets x) h, tt)
    within (part.Routine' name formals result a parts ss place) h =
        (own_body (part.Routine' name formals result a parts ss place) h, tt)

    in_row : {n : _} (row : Row_of-Part n) → RowBodies Q row → AllByRecursion Own (row_parts row)
    in_row end_of-Part h = tt
    in_row (more_of-Part x rest) h =
        joined_all Own (parts_within x) (row_parts rest) (within x h.0) (in_row rest h.1)

  in_all : (xs : List Part) → AllBodies Q xs → AllByRecursion Own (flat_map parts_within xs)
  in_all [] h = tt
  in_all (x ∷ xs) h =
      joined_all Own (parts_within x) (flat_map parts_within xs) (within x h.0) (in_all xs h.1)

  bodies_of : (xs : List Part) → AllByRecursion Own xs → AllByRecursion Q (filter_map body_in xs)
  bodies_of [] h = tt
  bodies_of (x ∷ xs) h = one (body_in x) h.0 (bodies_of xs h.1)
    where
      one : (y : Option Body) → ((b : Body) → y ≡ Some b → Q b)
          → AllByRecursion Q (filter_map body_in xs)
          → AllByRecursion Q (cons_option y (filter_map body_in xs))
      one None f rest = rest
      one (Some b) f rest = (f b refl, rest)

  -- and so the one that is found
  found_body : (test : Body → Bool) (bs : List Body) → AllByRecursion Q bs
      → R (option_map_or (λ (b : Body). flat_map group_transitions (out-Body b).groups)
      (find test bs) [])
  found_body test [] h = none
  found_body test (b ∷ bs) h = one (test b) (found_body test bs h.1)
    where
      one : (c : Bool)
          → R (option_map_or (λ (b : Body). flat_map group_transitions (out-Body b).groups)
          (find test bs) [])
          → R (option_map_or (λ (b : Body). flat_map group_transitions (out-Body b).groups)
          (if c then Some b else find test bs) [])
      one true rest = gives b h.0
      one false rest = rest

  -- the transitions of a body by the place of its name
  pub transitions_are : (spec : Spec) → AllBodies Q spec.parts → (body : ℕ)
      → R (transitions_of (text_of spec) body)
  transitions_are spec h body =
      let xs = parts_of (text_of spec) in
      found_body (λ (b : Body). nat_eq body (out-Body b).name.place) (filter_map body_in xs)
      (bodies_of xs (in_all spec.parts h))
