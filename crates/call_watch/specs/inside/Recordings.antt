-- What is kept while a text is read as it comes.
use Rattle.std.specs.Prelude.{◌≡◌, ℕ, length}
use Rattle.est_syntax.specs.declared.specification.Spec.{Spec}
use Rattle.est_meaning.specs.rule_declares.PortList.{ports_of}
use Rattle.est_meaning.specs.Run.{Setup}
use Rattle.est_meaning.specs.SituationStacks.{Stack}
use Rattle.est_trace.specs.LineReaders.{IsLineReader}
use Rattle.est_watch.specs.Watchers.{given_to, IsWatching}
use Rattle.est_watch.specs.declared.watcher.State.TheVariants.{Open}
use Rattle.call_watch.specs.Answers.{Watch, Standing}
use Rattle.call_watch.specs.declared.recording.Recording.{Recording}

-- what is watched of a specification
abbrev pub watch_of : (Spec → Setup) → ℕ → Spec → Watch
watch_of setup budget spec =
    record { setup = setup spec; ports = ports_of spec; budget = budget }

-- how far a recording has come
abbrev pub standing_of : {W : Type 0} → Recording W → Standing
standing_of r = record { first = r.is_first; given = given_to r.watcher }

-- a recording whose watcher is that of these runs, with a reader of lines of its specification, which
-- is the only one of which its world speaks
pub record IsRecording {W : Type 0} (speaks : W → Spec → Type 0) (stack : W → Spec → Stack)
    (limit fired : W → ℕ) (setup : Spec → Setup) (r : Recording W) : Type 0 where
  pub watching : IsWatching speaks stack limit fired setup r.watcher
  pub limits : r.watcher.limits ≡ r.limits
  pub count : r.given ≡ length (given_to r.watcher)
  pub alone : (spec : Spec) → speaks r.watcher.world spec → spec ≡ r.checked.now
  pub reader : IsLineReader r.checked.now r.reader
  pub limit_is : (spec : Spec) → speaks r.watcher.world spec
      → (setup spec).limit ≡ r.limits.statements

-- it waits for the next line: its watcher is open
pub record IsWaiting {W : Type 0} (speaks : W → Spec → Type 0) (stack : W → Spec → Stack)
    (limit fired : W → ℕ) (setup : Spec → Setup) (r : Recording W) : Type 0 where
  pub recording : IsRecording speaks stack limit fired setup r
  pub is_open : r.watcher.state ≡ Open
