-- With which command word a call begins.
use Rattle.std.specs.Prelude.{◌≡◌, ◌≢◌, ℕ, List, [], ◌∷◌, codes, String, string_bytes}
use Rattle.std.specs.Global.{Global}
use Rattle.call_files.specs.declared.words.Command.{Command}
use Rattle.call_files.specs.declared.words.Command.TheVariants.{Check, Print}
use Rattle.call_files.specs.Requests.{AreSearchLimits, bytes_of}

-- the first word is this one
abbrev pub BeginWith : List ℕ → List (String Global) → Type 0
BeginWith command [] = ⊥
BeginWith command (word ∷ words) = string_bytes word ≡ command

-- the command is for one file alone, and the first word is its word
abbrev pub BeginForFile : Command → List (String Global) → Type 0
BeginForFile Check words = BeginWith (codes "check") words
BeginForFile Print words = BeginWith (codes "print") words
BeginForFile _ words = ⊥

-- after a command word there are the names of two files, and the limits of a search
abbrev pub AreOfSearch : List (String Global) → ℕ → ℕ → ℕ → Type 0
AreOfSearch (command ∷ specification ∷ searched ∷ rest) silent budget statements =
    (string_bytes specification ≢ []) × (string_bytes searched ≢ [])
    × AreSearchLimits (bytes_of rest) silent budget statements
AreOfSearch _ silent budget statements = ⊥
