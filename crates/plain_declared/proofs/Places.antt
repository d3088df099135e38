-- The places of names of a region, a name at a time.
use Rattle.std.proofs.Common.{◌≡◌, sym, ap, ◌∙◌, ℕ, ◌+◌, ◌<◌, List, [], ◌∷◌, ◌++◌, length, take}
use Rattle.std.proofs.Common.{slice_get, Some}
use Rattle.std.proofs.lemmas.List.{map-append, take_more}
use Rattle.std.proofs.lemmas.List.Elements.{filter-append}
use Rattle.std.proofs.lemmas.Option.{get_or_from_slice_get}
use Rattle.std.specs.Prelude.{map}
use Rattle.mean_blocks.specs.rule_scope.declared.declaration.Sort.{Sort}
use Rattle.mean_blocks.specs.rule_scope.declared.declaration.Standing.{Standing}
use Rattle.mean_blocks.specs.rule_scope.Outline.{Outline, Region, entry_at}
use Rattle.mean_blocks.specs.rule_scope.Uses.{is_sort}
use Rattle.plain_declared.specs.ShownNames.{of_sort, places_in}

pub places_more : (o : Outline) (s : Sort) (names : Region) (i : ℕ) (x : List ℕ × Standing)
    (before after : List ℕ) → i < length names → slice_get names i ≡ Some x
    → before ≡ places_in o s (take i names) → after ≡ before ++ of_sort o s (x.1.place ∷ [])
    → after ≡ places_in o s (take (i + 1) names)
places_more o s names i x before after within at h done =
    let place : List ℕ × Standing → ℕ = λ n. n.1.place in
    done
    ∙ ap (λ l. l ++ of_sort o s (x.1.place ∷ [])) h
    ∙ sym (filter-append (λ (p : ℕ). is_sort s (entry_at o p)) (map place (take i names))
    (x.1.place ∷ []))
    ∙ ap (of_sort o s) (sym (map-append place (take i names) (x ∷ [])))
    ∙ ap (places_in o s) (sym (take_more names i x within
    ∙ ap (λ y. take i names ++ y ∷ []) (get_or_from_slice_get names i x x at)))
