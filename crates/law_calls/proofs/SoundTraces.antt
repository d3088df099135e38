-- What comes from outside in a made trace may come there, so its run explains an allowed trace.
use Rattle.std.proofs.Common.{List, [], ◌∷◌, map, reverse, subst}
use Rattle.std.specs.List.{AllByRecursion}
use Rattle.est_syntax.specs.declared.specification.Spec.{Spec}
use Rattle.est_meaning.specs.declared.event.Event.{Event}
use Rattle.est_meaning.specs.declared.event.Event.TheVariants as event
use Rattle.est_meaning.specs.declared.trace.Expected.TheVariants.{Known}
use Rattle.est_meaning.specs.AllowedEvents.{IsAllowed}
use Rattle.est_meaning.specs.RecordedTraces.{known_trace}
use Rattle.law_values.specs.DepartureLaws.{IsSound}
use Rattle.run_make.specs.Recipe.{setup_along}
use Rattle.run_make.proofs.Explaining.{made_explained}
use Rattle.law_calls.specs.MadeEventLaws.{IsFair}
use Rattle.law_calls.proofs.MadeEvents.{known_allowed, explained_events, made_traces_are_fair}
use Rattle.law_values.specs.SoundnessLaws.{IsTyped, MayCome, MayComeAsExpected}
use Rattle.law_values.proofs.FittingRuns.{explained_traces_are_allowed}
use Rattle.law_values.proofs.SteadySentences.{sentences_are_typed}
use Rattle.law_texts.proofs.Sentences as readable
use Rattle.law_calls.specs.SoundTraceLaws.{MadeTracesFit, MadeTracesAreAllowed}
use Rattle.law_calls.specs.SoundTraceLaws.{MadeTracesOfSentencesAreAllowed}
use Rattle.law_calls.specs.SoundTraceLaws.{MadeTracesAreTexts, MadeTracesAreRead}

sound : (spec : Spec) → IsTyped spec → IsSound spec
sound spec typed = record { good = typed.good; full = typed.whole.full }

fair_comes : (spec : Spec) (e : Event) → IsFair spec e → MayCome spec e
fair_comes spec (event.Arrives i) h = h
fair_comes spec (event.Leaves i) h = tt
fair_comes spec (event.Passes units) h = h

fair_come : (spec : Spec) (es : List Event) → AllByRecursion (IsFair spec) es
    → AllByRecursion (MayComeAsExpected spec) (map Known es)
fair_come spec [] h = tt
fair_come spec (e ∷ es) h = (fair_comes spec e h.0, fair_come spec es h.1)

pub made_traces_fit : MadeTracesFit
made_traces_fit t seed count trace run typed made =
    let e = made_explained t seed count (known_trace trace) run made in
    subst (AllByRecursion (IsAllowed t.spec)) (explained_events t seed count trace run made)
    (explained_traces_are_allowed (setup_along t (known_trace trace) e.start e.outs) (reverse run)
    typed e.ready (fair_come t.spec trace
    (made_traces_are_fair t seed count trace run (sound t.spec typed) made)) e.explains)

pub made_traces_are_allowed : MadeTracesAreAllowed
made_traces_are_allowed t seed count trace run typed made few =
    known_allowed t.spec trace (made_traces_fit t seed count trace run typed made) few

pub made_traces_of_sentences_are_allowed : MadeTracesOfSentencesAreAllowed
made_traces_of_sentences_are_allowed t seed count trace run sentence good made few =
    made_traces_are_allowed t seed count trace run (sentences_are_typed t.spec sentence good) made
    few

pub made_traces_are_texts : MadeTracesAreTexts
made_traces_are_texts t seed count trace run written sentence good made few listed =
    readable.texts t.spec (known_trace trace) written sentence
    (made_traces_of_sentences_are_allowed t seed count trace run sentence good made few) listed

pub made_traces_are_read : MadeTracesAreRead
made_traces_are_read t seed count trace run written answer sentence good made few listed reads =
    readable.read_back t.spec (known_trace trace) written answer sentence
    (made_traces_of_sentences_are_allowed t seed count trace run sentence good made few) listed
    reads
