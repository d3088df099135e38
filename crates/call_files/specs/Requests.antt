-- What the words of a call ask for.
use Rattle.std.specs.Prelude.{◌≡◌, ◌≢◌, ℕ, ◌≤◌, List, [], ◌∷◌, length}
use Rattle.std.specs.Prelude.{codes, map, String, string_bytes}
use Rattle.std.specs.Global.{Global}
use Rattle.std.specs.Str.Parse.{IsNumeral, digits_value}
use Rattle.est_meaning.specs.declared.run.Limits.{Limits}
use Rattle.call_files.specs.declared.words.Command.{Command}
use Rattle.call_files.specs.declared.words.Command.TheVariants.{Check, Print, Explain, Replay}
use Rattle.call_files.specs.declared.words.Command.TheVariants.{SelfRun, Ports, Watch}

-- the bytes of each word
abbrev pub bytes_of : List (String Global) → List (List ℕ)
bytes_of words = map string_bytes words

-- What words ask for: to check a specification or to print it, to explain a trace, or one trace for
-- each port, or to watch a trace while it is recorded, or to replay an explanation of a trace, with the most silent firings in a row, the most
-- firings or moves that are tried, and the most statements of a block or guard; or to make a trace
-- from a seed, with at least so many events, and to explain it.
pub data Request : Type 0 where
  check : (specification : List ℕ) → Request
  print : (specification : List ℕ) → Request
  explain : (specification trace : List ℕ) (silent budget statements : ℕ) → Request
  replay : (specification trace explanation : List ℕ) (silent statements : ℕ) → Request
  selfrun : (specification : List ℕ) (seed count : ℕ) → Request
  ports : (specification lists : List ℕ) (silent budget statements : ℕ) → Request
  watch : (specification : List ℕ) (silent budget statements : ℕ) → Request

-- the word is a decimal numeral of at most 20 digits, with this value, which is within the bounds
pub record IsNumber (low high : ℕ) (word : List ℕ) (value : ℕ) : Type 0 where
  pub numeral : IsNumeral 10 word
  pub short : length word ≤ 20
  pub valued : value ≡ digits_value 10 word
  pub least : low ≤ value
  pub most : value ≤ high

-- the most silent firings in a row that words can ask for
abbrev pub most_silent : ℕ
most_silent = 1000

-- the most firings, or moves, to be tried that words can ask for
abbrev pub most_budget : ℕ
most_budget = 4000000

-- the most statements of a block or guard that words can ask for
abbrev pub most_statements : ℕ
most_statements = 1000000

-- the greatest seed of a trace that is made, and the most events that words can ask it to have
abbrev pub most_seed : ℕ
most_seed = 18446744073709551615

abbrev pub most_made : ℕ
most_made = 100000

-- the most silent firings in a row, where no word says how many
abbrev pub usual_silent : ℕ
usual_silent = 8

-- the most statements of a block or guard, where no word says how many
abbrev pub usual_statements : ℕ
usual_statements = 10000

-- the words for the limits of a replay: none, where these are the usual ones, or a number for each
pub data AreLimits (words : List (List ℕ)) : ℕ → ℕ → Type 0 where
  left_out : words ≡ [] → AreLimits words usual_silent usual_statements
  given : (first second : List ℕ) (silent statements : ℕ) → words ≡ first ∷ second ∷ []
      → IsNumber 0 most_silent first silent → IsNumber 1 most_statements second statements
      → AreLimits words silent statements

-- the most firings that are tried, where no word says how many; a replay tries those alone that its
-- explanation names
abbrev pub usual_budget : ℕ
usual_budget = 1000000

-- the words for the limits of a search: none, where these are the usual ones, or a number for each
pub data AreSearchLimits (words : List (List ℕ)) : ℕ → ℕ → ℕ → Type 0 where
  usual : words ≡ [] → AreSearchLimits words usual_silent usual_budget usual_statements
  told : (first second third : List ℕ) (silent budget statements : ℕ)
      → words ≡ first ∷ second ∷ third ∷ [] → IsNumber 0 most_silent first silent
      → IsNumber 0 most_budget second budget → IsNumber 1 most_statements third statements
      → AreSearchLimits words silent budget statements

-- two words for a trace that is made: its seed, and how many events it has at least
pub record AreRecipe (first second : List ℕ) (seed count : ℕ) : Type 0 where
  pub seeded : IsNumber 0 most_seed first seed
  pub counted : IsNumber 0 most_made second count

-- The words ask for this: they are a command word, the names of its files, which are not empty, and
-- for a search or a replay its limits, for a trace that is made its seed and its number of events.
pub data Asks (words : List (List ℕ)) : Request → Type 0 where
  to_check : (specification : List ℕ) → words ≡ codes "check" ∷ specification ∷ []
      → specification ≢ [] → Asks words (check specification)
  to_print : (specification : List ℕ) → words ≡ codes "print" ∷ specification ∷ []
      → specification ≢ [] → Asks words (print specification)
  to_explain : (specification trace : List ℕ) (limits : List (List ℕ))
      (silent budget statements : ℕ)
      → words ≡ codes "explain" ∷ specification ∷ trace ∷ limits
      → specification ≢ [] → trace ≢ [] → AreSearchLimits limits silent budget statements
      → Asks words (explain specification trace silent budget statements)
  to_replay : (specification trace explanation : List ℕ) (limits : List (List ℕ))
      (silent statements : ℕ)
      → words ≡ codes "replay" ∷ specification ∷ trace ∷ explanation ∷ limits
      → specification ≢ [] → trace ≢ [] → explanation ≢ [] → AreLimits limits silent statements
      → Asks words (replay specification trace explanation silent statements)
  to_self_run : (specification first second : List ℕ) (seed count : ℕ)
      → words ≡ codes "selfrun" ∷ specification ∷ first ∷ second ∷ []
      → specification ≢ [] → AreRecipe first second seed count
      → Asks words (selfrun specification seed count)
  to_ports : (specification lists : List ℕ) (limits : List (List ℕ))
      (silent budget statements : ℕ)
      → words ≡ codes "ports" ∷ specification ∷ lists ∷ limits
      → specification ≢ [] → lists ≢ [] → AreSearchLimits limits silent budget statements
      → Asks words (ports specification lists silent budget statements)
  to_watch : (specification : List ℕ) (limits : List (List ℕ)) (silent budget statements : ℕ)
      → words ≡ codes "watch" ∷ specification ∷ limits
      → specification ≢ [] → AreSearchLimits limits silent budget statements
      → Asks words (watch specification silent budget statements)

-- the words ask for nothing that the program does
abbrev pub AsksNothing : List (String Global) → Type 0
AsksNothing words = (request : Request) → Asks (bytes_of words) request → ⊥

-- the words ask for this of the file that the second one names, and for no more
abbrev pub AsksOfFile : (List ℕ → Request) → List (String Global) → Type 0
AsksOfFile request (command ∷ specification ∷ []) =
    Asks (bytes_of (command ∷ specification ∷ [])) (request (string_bytes specification))
AsksOfFile request _ = ⊥

-- the words ask for a search of this kind, within these limits, in the files that the second and the
-- third one name
abbrev pub AsksToSearch :
    (List ℕ → List ℕ → ℕ → ℕ → ℕ → Request) → Limits → List (String Global) → Type 0
AsksToSearch request limits (command ∷ specification ∷ searched ∷ rest) =
    Asks (bytes_of (command ∷ specification ∷ searched ∷ rest))
    (request (string_bytes specification) (string_bytes searched)
    limits.silent limits.budget limits.statements)
AsksToSearch request limits _ = ⊥

-- the words ask to watch runs of the specification that the second one names, within these limits
abbrev pub AsksToWatch : Limits → List (String Global) → Type 0
AsksToWatch limits (command ∷ specification ∷ rest) =
    Asks (bytes_of (command ∷ specification ∷ rest))
    (watch (string_bytes specification) limits.silent limits.budget limits.statements)
AsksToWatch limits _ = ⊥

-- the words ask to replay, within these limits, the files that the second, third and fourth one
-- name
abbrev pub AsksToReplay : Limits → List (String Global) → Type 0
AsksToReplay limits (command ∷ specification ∷ trace ∷ explanation ∷ rest) =
    Asks (bytes_of (command ∷ specification ∷ trace ∷ explanation ∷ rest))
    (replay (string_bytes specification) (string_bytes trace) (string_bytes explanation)
    limits.silent limits.statements)
AsksToReplay limits _ = ⊥

-- the words ask to make a trace of the specification that the second one names
abbrev pub AsksToSelfRun : ℕ → ℕ → List (String Global) → Type 0
AsksToSelfRun seed count (command ∷ specification ∷ first ∷ second ∷ []) =
    Asks (bytes_of (command ∷ specification ∷ first ∷ second ∷ []))
    (selfrun (string_bytes specification) seed count)
AsksToSelfRun seed count _ = ⊥

-- the words ask for this command, and the files that it is for are the words at their places
abbrev pub IsCommand : List (String Global) → Command → Type 0
IsCommand words Check = AsksOfFile check words
IsCommand words Print = AsksOfFile print words
IsCommand words (Explain limits) = AsksToSearch explain limits words
IsCommand words (Replay limits) = AsksToReplay limits words × (limits.budget ≡ usual_budget)
IsCommand words (SelfRun seed count) = AsksToSelfRun seed count words
IsCommand words (Ports limits) = AsksToSearch ports limits words
IsCommand words (Watch limits) = AsksToWatch limits words
