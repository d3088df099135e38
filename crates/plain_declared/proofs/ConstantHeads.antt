-- What a name stands for that means a constant, and one that means none.
use Rattle.std.proofs.Common.{◌≡◌, refl, ap, ◌∙◌, ℤ, Option, Some, None}
use Rattle.std.proofs.lemmas.Option.{same_Some}
use Rattle.est_syntax.specs.declared.name.Used.{Used}
use Rattle.mean_blocks.specs.rule_scope.declared.declaration.Meant.{Meant}
use Rattle.mean_blocks.specs.rule_scope.Outline.{Outline}
use Rattle.mean_blocks.specs.rule_scope.Uses.{meaning}
use Rattle.mean_blocks.specs.rule_kinds.declared.value.Valued.{Valued}
use Rattle.mean_blocks.specs.rule_kinds.Constants.{value_meant}
use Rattle.mean_blocks.specs.NamesInRuns.{Constant, head, head_meant}
use Rattle.plain_declared.specs.ShownNames.{ordinal_of}

constant_meant : (o : Outline) (v : Option Valued) (m : Meant) (z : ℤ) → Some z ≡ ordinal_of v
    → Constant z ≡ head_meant o v m
constant_meant o None m z h = absurd cc
constant_meant o (Some v) m z h = ap Constant (same_Some z v.ordinal h)

other_meant : (o : Outline) (v : Option Valued) (m : Meant) → None ≡ ordinal_of v
    → head_meant o None m ≡ head_meant o v m
other_meant o None m h = refl
other_meant o (Some v) m h = absurd cc

pub constant_head : (o : Outline) (u : Used) (m : Meant) (z : ℤ) → m ≡ meaning o u
    → Some z ≡ ordinal_of (value_meant o m) → Constant z ≡ head o u
constant_head o u m z is h = constant_meant o (value_meant o m) m z h
    ∙ ap (λ n. head_meant o (value_meant o n) n) is

pub other_head : (o : Outline) (u : Used) (m : Meant) → m ≡ meaning o u
    → None ≡ ordinal_of (value_meant o m) → head_meant o None m ≡ head o u
other_head o u m is h = other_meant o (value_meant o m) m h
    ∙ ap (λ n. head_meant o (value_meant o n) n) is

pub ruleset constant_heads = (constant_head, other_head)
