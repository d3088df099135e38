-- A use of a name that breaks nothing means a declaration that has all it should have.
use denote.Enum.Bare.{same_true}
use Rattle.std.specs.Prelude.{option_and_then}
use Rattle.std.proofs.Common.{◌≡◌, refl, sym, subst, true≢false, ℕ, true, [], Option, Some, None}
use Rattle.std.proofs.Common.{rules}
use Rattle.std.proofs.lemmas.Option.{cond_some}
use Rattle.est_syntax.specs.declared.name.Used.{Used}
use Rattle.rule_scope.specs.Outline.{Outline, entry_at}
use Rattle.rule_scope.specs.Uses.{same_sort, is_sort, meaning, use_faults, meant_as, declaration_of}
use Rattle.rule_scope.specs.contracts.declaration.Sort.{the_type}
use Rattle.rule_scope.specs.declared.declaration.Entry.{Entry}
use Rattle.rule_scope.specs.declared.declaration.Meant.{Meant}
use Rattle.rule_scope.specs.declared.declaration.Meant.TheVariants as meant
use Rattle.rule_scope.specs.declared.declaration.Sort.{Sort}
use Rattle.rule_scope.specs.declared.declaration.Sort.TheVariants as sort
use Rattle.rule_declares.specs.LookUps.{dims_in}
use Rattle.rule_declares.specs.LookUps.{header_in}
use Rattle.rule_declares.specs.LookUps.{header_at}
use Rattle.rule_declares.specs.LookUps.{side_at}
use Rattle.law_sentences.specs.Full.{IsThere, HasAll, AreFull}
use Rattle.law_sentences.proofs.FullOperators.{nowhere}
use Rattle.law_sentences.proofs.SeenUses.{use_seen}

-- sorts that are the same
pub same_sorts : (s t : Sort) → same_sort s t ≡ true → s ≡ t
same_sorts s t h = same_true the_type (search rules) s t h

-- a declaration of a sort at a place
pub record IsAt (o : Outline) (s : Sort) (p : ℕ) : Type 0 where
  pub entry : Entry
  pub is : entry_at o p ≡ Some entry
  pub has : HasAll s entry

pub entry_of : (o : Outline) (s : Sort) (p : ℕ) (x : Option Entry) → AreFull o → entry_at o p ≡ x
    → is_sort s x ≡ true → IsAt o s p
entry_of o s p None full is h = absurd (true≢false (sym h))
entry_of o s p (Some e) full is h = record {
  entry = e;
  is = is;
  has = subst (λ (x : Sort). HasAll x e) (sym (same_sorts s e.declared.sort h)) (full p e is);
}

-- a name that is used as a sort means such a declaration
pub record IsUsed (o : Outline) (s : Sort) (u : Used) : Type 0 where
  pub place : ℕ
  pub means : declaration_of o s u ≡ Some place
  pub at : IsAt o s place

declared_at : (o : Outline) (s : Sort) (m : Meant) (p : ℕ) → AreFull o → meant_as o s m ≡ Some p
    → IsAt o s p
declared_at o s meant.Nothing p full h = nowhere (p, h)
declared_at o s (meant.Predeclared n) p full h = nowhere (p, h)
declared_at o s (meant.Unseen q) p full h = nowhere (p, h)
declared_at o s (meant.Seen q) p full h =
    let c = cond_some (is_sort s (entry_at o q)) q p h in
    subst (λ (x : ℕ). IsAt o s x) c.1 (entry_of o s q (entry_at o q) full refl c.0)

pub use_means : (o : Outline) (s : Sort) (u : Used) → AreFull o → use_faults o s u ≡ []
    → IsUsed o s u
use_means o s u full h =
    let d = use_seen o s u h in
    record { place = d.0; means = d.1; at = declared_at o s (meaning o u) d.0 full d.1 }

-- interaction points have subscripts and a side
pub point_dims : (o : Outline) (p : ℕ) → IsAt o sort.Point p → IsThere (dims_in (entry_at o p))
point_dims o p at = subst (λ (x : Option Entry). IsThere (dims_in x)) (sym at.is) at.has.0

pub point_side_there : (o : Outline) (place : Option ℕ) (p : ℕ) → place ≡ Some p
    → IsAt o sort.Point p → IsThere (side_at o place)
point_side_there o place p is at =
    subst (λ (x : Option ℕ). IsThere (side_at o x)) (sym is)
    (subst (λ (x : Option Entry). IsThere (option_and_then (λ (e : Entry). e.side) x)) (sym at.is)
    at.has.1)

-- module variables have subscripts and a header, and bodies have a header
pub module_dims : (o : Outline) (p : ℕ) → IsAt o sort.ModuleVariable p
    → IsThere (dims_in (entry_at o p))
module_dims o p at = subst (λ (x : Option Entry). IsThere (dims_in x)) (sym at.is) at.has.0

header_there : (o : Outline) (s : Sort) (place : Option ℕ) (p : ℕ) → place ≡ Some p
    → (at : IsAt o s p) → IsThere at.entry.header → IsThere (header_at o place)
header_there o s place p is at h =
    subst (λ (x : Option ℕ). IsThere (header_at o x)) (sym is)
    (subst (λ (x : Option Entry). IsThere (header_in x)) (sym at.is) h)

pub module_header_there : (o : Outline) (place : Option ℕ) (p : ℕ) → place ≡ Some p
    → IsAt o sort.ModuleVariable p → IsThere (header_at o place)
module_header_there o place p is at = header_there o sort.ModuleVariable place p is at at.has.1

pub body_header_there : (o : Outline) (place : Option ℕ) (p : ℕ) → place ≡ Some p
    → IsAt o sort.Body p → IsThere (header_at o place)
body_header_there o place p is at = header_there o sort.Body place p is at at.has
