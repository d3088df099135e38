-- In the outline of a specification that stands in order all declarations are sound.
use Rattle.std.proofs.Common.{◌≡◌, ap, ◌∙◌, ℕ, zero, suc, ◌≤◌, List, Some, arith}
use Rattle.est_syntax.specs.Names.{spelled}
use Rattle.est_syntax.specs.declared.name.Used.{Used}
use Rattle.est_syntax.specs.declared.specification.Spec.{Spec}
use Rattle.rule_scope.specs.declared.declaration.Entry.{Entry}
use Rattle.rule_scope.specs.declared.declaration.Standing.{Standing}
use Rattle.rule_scope.specs.Outline.{Outline, standing, entry_at}
use Rattle.rule_declares.specs.Bodies.{outline_of}
use Rattle.law_places.specs.Said.{Each, PartSaid}
use Rattle.law_sentences.specs.WrittenParts.{PartWritten}
use Rattle.law_sentences.proofs.InForce.{meaning_stands}
use Rattle.law_sentences.proofs.Tables.{each_stands, each_declared}
use Rattle.law_texts.proofs.Spelt.{PartSpelt}
use Rattle.law_texts.proofs.SoundValues.{IsSoundFor, IsSoundAt}
use Rattle.law_texts.proofs.SoundNames.{AreSoundBefore, InTime, InTheEnd, IsSoundInTheEnd}
use Rattle.law_texts.proofs.SoundParts.{all_sound_parts}

-- each constant and each type of a region is sound where those are that are in force at its last
-- place or before it
abbrev EachIsSoundInTime : Outline → Type 0
EachIsSoundInTime o = (region : ℕ) (name : List ℕ) (s : Standing) (e : Entry)
    → standing o region name ≡ Some s → entry_at o s.place ≡ Some e
    → AreSoundBefore o (suc s.last) → IsSoundFor o e.declared.sort e

narrowed : (o : Outline) (k b : ℕ) → k ≤ b → AreSoundBefore o b → AreSoundBefore o k
narrowed o k b le sound u lt = sound u (omega (arith, le, lt))

-- and so one place after the other
sound_before : (o : Outline) → EachIsSoundInTime o → (b : ℕ) → AreSoundBefore o b
sound_before o each zero u lt place e is there = absurd (omega (arith, lt))
sound_before o each (suc b) u lt place e is there =
    let x = meaning_stands o u place is in
    let passed = x.4 in
    each x.0 (spelled u) x.1 e x.2 (ap (entry_at o) x.3 ∙ there)
    (narrowed o (suc x.1.last) b (omega (arith, passed, lt)) (sound_before o each b))

pub outline_sound : (s : Spec) → Each (PartSaid (outline_of s)) s.parts → Each PartSpelt s.parts
    → Each PartWritten s.parts → (place : ℕ) (e : Entry)
    → entry_at (outline_of s) place ≡ Some e → IsSoundInTheEnd (outline_of s) e
outline_sound s said plain written place e is =
    let o = outline_of s in
    let tree = all_sound_parts o s.parts said plain written in
    let all : (u : Used) → IsSoundAt o u =
    λ u. sound_before o
    (λ region name x d stands there sound. each_stands (InTime o) (InTheEnd o) s tree region name x
    stands d there sound) (suc u.place) u (omega arith) in
    each_declared (InTime o) (InTheEnd o) s tree place e is e is all
