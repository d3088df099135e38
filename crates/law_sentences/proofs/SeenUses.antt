-- What the uses of names mean that break nothing.
use Rattle.std.specs.Prelude.{if◌then◌else◌, is_some, is_none}
use Rattle.std.proofs.Common.{◌≡◌, refl, sym, ap, true≢false, ℕ, true, false}
use Rattle.std.proofs.Common.{[], Option, Some, None}
use Rattle.est_syntax.specs.declared.name.Used.{Used}
use Rattle.est_syntax.specs.declared.rule.Rule.TheVariants.{WrongSort}
use Rattle.rule_scope.specs.declared.declaration.Entry.{Entry}
use Rattle.rule_scope.specs.declared.declaration.Meant.{Meant}
use Rattle.rule_scope.specs.declared.declaration.Meant.TheVariants as meant
use Rattle.rule_scope.specs.declared.declaration.Sort.{Sort}
use Rattle.rule_scope.specs.declared.declaration.Sort.TheVariants as sort
use Rattle.rule_scope.specs.Outline.{Outline, entry_at}
use Rattle.rule_scope.specs.Uses.{same_sort, is_sort, meaning, other_sort_faults, used_as}
use Rattle.rule_scope.specs.Uses.{use_faults, meant_as, declaration_of}
use Rattle.law_sentences.specs.Full.{IsThere, HasAll, IsFullFor}
use Rattle.law_sentences.specs.FullDeclarations.{MeaningsAreKnown}
use Rattle.law_sentences.proofs.NoFaults.{unbroken}

pub meaning_known : MeaningsAreKnown
meaning_known meant.Nothing place known declared h = cc
meaning_known (meant.Predeclared n) place known declared h = h
meaning_known (meant.Unseen p) place known declared h = cc
meaning_known (meant.Seen p) place known declared h = h

seen_by : (o : Outline) (s : Sort) (place : ℕ) (m : Meant) → used_as o s place m ≡ []
    → IsThere (meant_as o s m)
seen_by o s place meant.Nothing h = cc
seen_by o s place (meant.Predeclared n) h = cc
seen_by o s place (meant.Unseen p) h = cc
seen_by o s place (meant.Seen p) h = (
  p,
  ap (λ b. if b then Some p else None) (unbroken (is_sort s (entry_at o p)) place WrongSort h),
)

pub use_seen : (o : Outline) (s : Sort) (u : Used) → use_faults o s u ≡ []
    → IsThere (declaration_of o s u)
use_seen o s u h = seen_by o s u.place (meaning o u) h

-- the declaration of a sort that a seen name means
abbrev pub IsOfSort : Sort → Option Entry → Type 0
IsOfSort s k = (e : Entry) × (k ≡ Some e) × (same_sort s e.declared.sort ≡ true)

sorted : (s : Sort) (k : Option Entry) → is_sort s k ≡ true → IsOfSort s k
sorted s None h = absurd (true≢false (sym h))
sorted s (Some e) h = (e, refl, h)

pub right_sort : (o : Outline) (s : Sort) (place p : ℕ) → other_sort_faults o s place p ≡ []
    → IsOfSort s (entry_at o p)
right_sort o s place p h =
    sorted s (entry_at o p) (unbroken (is_sort s (entry_at o p)) place WrongSort h)

-- what a full constant or type has
pub full_for : (s : Sort) (e : Entry) → HasAll s e → IsFullFor s e
full_for sort.Constant e f = f
full_for sort.TypeName e f = f
full_for _ e f = tt

pub full_constant : (s : Sort) (e : Entry) → same_sort sort.Constant s ≡ true → IsFullFor s e
    → HasAll sort.Constant e
full_constant sort.Constant e h f = f
full_constant _ e h f = absurd (true≢false (sym h))

pub full_type : (s : Sort) (e : Entry) → same_sort sort.TypeName s ≡ true → IsFullFor s e
    → HasAll sort.TypeName e
full_type sort.TypeName e h f = f
full_type _ e h f = absurd (true≢false (sym h))

-- what is not missing is there
pub not_none : {X : Type 0} (k : Option X) → is_none k ≡ false → IsThere k
not_none None h = absurd (true≢false h)
not_none (Some x) h = (x, refl)

pub some_then : {X : Type 0} (k : Option X) → is_none k ≡ false → is_some k ≡ true
some_then None h = absurd (true≢false h)
some_then (Some x) h = refl
