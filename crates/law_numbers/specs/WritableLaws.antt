-- The numbers of instances, transitions and choices in runs, and those of verdicts.
use Rattle.std.specs.Prelude.{◌≡◌, ℕ, ◌<◌, ◌≤◌, ◌^◌, List, [], ◌∷◌, ◌++◌, map, All, Some}
use Rattle.std.specs.Prelude.{is_some, length, if◌then◌else◌}
use Rattle.est_syntax.specs.Least.{IsIn}
use Rattle.est_syntax.specs.declared.name.Used.{Used}
use Rattle.est_syntax.specs.declared.specification.Spec.{Spec}
use Rattle.est_syntax.specs.declared.transition.Clause.TheVariants as clause
use Rattle.est_syntax.specs.declared.type_text.VarDef.{VarDef}
use Rattle.rule_scope.specs.Outline.{Outline, entry_at, names_of}
use Rattle.rule_scope.specs.declared.declaration.Standing.{Standing}
use Rattle.rule_declares.specs.Bodies.{outline_of}
use Rattle.est_check.specs.Clauses.{most_tuples}
use Rattle.est_check.specs.LeastFault.{IsGood}
use Rattle.est_check.specs.Small.{most_parts}
use Rattle.est_check.specs.SentenceOf.{IsSentence}
use Rattle.mean_blocks.specs.declared.situation.Row.{Row}
use Rattle.mean_blocks.specs.GlobalSituation.{row_of}
use Rattle.mean_blocks.specs.InstanceEffects.{most_instances}
use Rattle.mean_blocks.specs.TextByPlace.{text_of}
use Rattle.est_meaning.specs.declared.firing.Firing.{Firing}
use Rattle.est_meaning.specs.AllowedEvents.{most_events}
use Rattle.est_meaning.specs.ClauseContexts.{FullTransition, transitions_of}
use Rattle.est_meaning.specs.TransitionChoices.{numbered, any_tuples}
use Rattle.est_meaning.specs.TransitionSelection.{IsPossible}
use Rattle.est_meaning.specs.declared.run.Move.{Move}
use Rattle.est_meaning.specs.Run.{Setup, Place, IsBegun, IsRun, IsBoundedRun}
use Rattle.est_search.specs.declared.verdict.Verdict.{Verdict}
use Rattle.est_search.specs.Verdict.{IsVerdict}
use Rattle.est_explanation.specs.CanonicalExplanation.{IsWritableFiring, IsWritableMove}
use Rattle.call_files.specs.ReadableReports.{IsReadable}
use Rattle.call_files.specs.PortReports.{IsReadablePorts}
use Rattle.mean_ports.specs.declared.lists.PortLists.{PortLists}
use Rattle.mean_ports.specs.declared.verdict.PortsVerdict.{PortsVerdict}
use Rattle.mean_ports.specs.Merges.{AreAllowedLists}
use Rattle.mean_ports.specs.PortsVerdict.{IsPortsVerdict}

-- INSTANCES

-- instances of a run are numbered up to the greatest number that one may have
abbrev pub InstancesAreFew : Type 0
InstancesAreFew = (c : Setup) (run : List Move) (p : Place) → IsBegun c → IsRun c run p
    → (number : ℕ) (row : Row) → row_of p.situation number ≡ Some row → number ≤ most_instances

-- TRANSITIONS

-- no body of a sentence has more transitions than the sentence has tokens
abbrev pub TransitionsAreFew : Type 0
TransitionsAreFew = (spec : Spec) (sentence : IsSentence spec) (body : ℕ)
    → length (transitions_of (text_of spec) body) ≤ length sentence.tokens

-- CHOICES

-- the names that the text of an `any` declares, in the order of the text
abbrev pub any_names : List VarDef → List Used
any_names [] = []
any_names (v ∷ vs) = v.names ++ any_names vs

-- the places of those of some names that are declared there
abbrev pub declared_places : Outline → List Used → List ℕ
declared_places o [] = []
declared_places o (u ∷ us) = if is_some (entry_at o u.place) then u.place ∷ declared_places o us
    else declared_places o us

-- in the region of each `any` that a transition has stand the names that its text declares, and no
-- others
abbrev pub HasTheirNames : Spec → Type 0
HasTheirNames spec = (body number : ℕ) (x : FullTransition) (names : List VarDef) (place : ℕ)
    → numbered (transitions_of (text_of spec) body) number ≡ Some x
    → IsIn (clause.Any names place) x.clauses
    → map (λ (n : List ℕ × Standing). n.1.place) (names_of (outline_of spec) place)
    ≡ declared_places (outline_of spec) (any_names names)

-- so it is of each sentence
abbrev pub AnysHaveTheirNames : Type 0
AnysHaveTheirNames = (spec : Spec) → IsSentence spec → HasTheirNames spec

-- no transition of a specification has more choices than the rules allow an `any`
abbrev pub HasFewChoices : Spec → Type 0
HasFewChoices spec = (body number : ℕ) (x : FullTransition)
    → numbered (transitions_of (text_of spec) body) number ≡ Some x
    → length (any_tuples (outline_of spec) x) ≤ most_tuples

-- so it is of a sentence that breaks no rule
abbrev pub ChoicesAreFew : Type 0
ChoicesAreFew = (spec : Spec) → IsSentence spec → IsGood spec → HasFewChoices spec

-- RUNS

-- a sentence that breaks no rule, with no more tokens than a text of a specification may have
pub record IsShort (spec : Spec) : Type 0 where
  pub sentence : IsSentence spec
  pub few : length sentence.tokens ≤ most_parts
  pub good : IsGood spec

-- what is possible after a run of such a specification has numbers that an explanation may have
abbrev pub FiringsAreWritable : Type 0
FiringsAreWritable = (c : Setup) (run : List Move) (p : Place) (f : Firing) → IsShort c.spec
    → IsBegun c → IsRun c run p → IsPossible c.limit (text_of c.spec) p.situation f
    → IsWritableFiring f

-- so have all moves of a run
abbrev pub RunsAreWritable : Type 0
RunsAreWritable = (c : Setup) (run : List Move) (p : Place) → IsShort c.spec → IsBegun c
    → IsBoundedRun c run p → All IsWritableMove run

-- VERDICTS

-- and so have verdicts, on a trace that is not too long
abbrev pub VerdictsAreReadable : Type 0
VerdictsAreReadable = (c : Setup) (budget : ℕ) (verdict : Verdict) → IsShort c.spec → IsBegun c
    → length c.trace.events ≤ most_events → c.limit < 2 ^ 64 → IsVerdict c budget verdict
    → IsReadable c.limit (length c.trace.events) verdict

-- so have those along one trace for each port, of lists within their limits
abbrev pub PortsVerdictsAreReadable : Type 0
PortsVerdictsAreReadable = (c : Setup) (lists : PortLists) (budget : ℕ) (verdict : PortsVerdict)
    → IsShort c.spec → IsBegun c → AreAllowedLists c.spec lists → c.limit < 2 ^ 64
    → IsPortsVerdict c lists budget verdict → IsReadablePorts c.limit verdict
