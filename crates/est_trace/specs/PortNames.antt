-- Ports by their names and subscripts, and signals by their names.
use Rattle.std.specs.Ordering.{int_eq}
use Rattle.std.specs.Prelude.{◌≡◌, ℕ, ◌+◌, ◌<◌, ◌≤◌, ℤ, Bool, true, false, ◌&&◌}
use Rattle.std.specs.Prelude.{List, [], ◌∷◌, length, Option, Some, None, slice_get}
use Rattle.std.specs.List.{list_any, AllZip}
use Rattle.est_syntax.specs.declared.kind.Kind.{Kind}
use Rattle.est_syntax.specs.declared.ports.Direction.{Direction}
use Rattle.est_syntax.specs.declared.ports.Direction.TheVariants.{Receives, Sends}
use Rattle.est_syntax.specs.declared.ports.Port.{Port}
use Rattle.est_syntax.specs.declared.ports.Signal.{Signal}
use Rattle.est_values.specs.FittingValues.{first_ordinal, IsOrdinalOf}
use Rattle.est_meaning.specs.rule_declares.Differing.{HaveDifferentNames}
use Rattle.est_meaning.specs.rule_declares.OrdinalValues.{tuples_of}

-- whether a signal passes its port in this direction: the port receives it, or sends it
abbrev pub passes : Direction → Signal → Bool
passes Receives signal = signal.receives
passes Sends signal = signal.sends

-- whether some signal passes its port in this direction
abbrev pub some_pass : Direction → List Signal → Bool
some_pass direction signals = list_any (passes direction) signals

-- the name of a signal
abbrev pub signal_name : Signal → List ℕ
signal_name x = x.name.bytes

-- the name of a port
abbrev pub port_name : Port → List ℕ
port_name p = p.name.bytes

-- the kinds of the subscripts of a port, if there is one, and what may pass it
abbrev pub kinds_of : Option Port → List Kind
kinds_of None = []
kinds_of (Some p) = p.index_kinds

abbrev pub signals_of : Option Port → List Signal
signals_of None = []
signals_of (Some p) = p.signals

-- the number of a name in a list of names, or none where it is not there
abbrev pub IsNumberOf : List ℕ → List (List ℕ) → Option ℕ → Type 0
IsNumberOf name names (Some i) = slice_get names i ≡ Some name
IsNumberOf name names None = (j : ℕ) → slice_get names j ≡ Some name → ⊥

-- whether each of these is the first ordinal of its kind
abbrev pub are_first : List Kind → List ℤ → Bool
are_first [] [] = true
are_first (k ∷ ks) (z ∷ zs) = int_eq z (first_ordinal k) && are_first ks zs
are_first _ _ = false

-- whether a port stands for its name: alone, or as the first element of an array
abbrev pub is_head : Port → Bool
is_head p = are_first p.index_kinds p.index

-- the number of the port that stands for a name, or none where no port has the name
abbrev pub IsHeadOf : List ℕ → List Port → Option ℕ → Type 0
IsHeadOf name ports (Some n) =
    (p : Port) × (slice_get ports n ≡ Some p) × (p.name.bytes ≡ name) × (is_head p ≡ true)
IsHeadOf name ports None = (n : ℕ) (p : Port) → slice_get ports n ≡ Some p → p.name.bytes ≡ name
    → ⊥

-- a port differs from another in its subscripts alone, which are these
pub record IsOtherElement (p : Port) (index : List ℤ) (q : Port) : Type 0 where
  pub name_is : q.name.bytes ≡ p.name.bytes
  pub index_is : q.index ≡ index
  pub kinds_are : q.index_kinds ≡ p.index_kinds
  pub signals_are : q.signals ≡ p.signals

-- the number of the port that differs from that of a number in its subscripts alone, which are
-- these, or none where they are no ordinals of its kinds
abbrev pub IsElementOf : List Port → ℕ → List ℤ → Option ℕ → Type 0
IsElementOf ports number index (Some n) = (p q : Port) × (slice_get ports number ≡ Some p)
    × (slice_get ports n ≡ Some q) × IsOtherElement p index q
IsElementOf ports number index None = (p : Port) → slice_get ports number ≡ Some p
    → AllZip IsOrdinalOf p.index_kinds index → ⊥

-- the port at a place, if there is one, stands for its name
abbrev pub StartsName : List Port → ℕ → Type 0
StartsName ports place = (p : Port) → slice_get ports place ≡ Some p → is_head p ≡ true

-- how many ports have the name of this one
abbrev pub width : Port → ℕ
width p = length (tuples_of p.index_kinds)

-- ports that are found by their names and subscripts
pub record GoodPorts (ports : List Port) : Type 0 where
  -- no two have one name and the same subscripts
  pub differ : HaveDifferentNames {N = List ℕ × List ℤ} (λ p. (p.name.bytes, p.index)) ports
  -- those of one name have the same kinds and signals
  pub alike : (i j : ℕ) (p q : Port) → slice_get ports i ≡ Some p → slice_get ports j ≡ Some q
      → p.name.bytes ≡ q.name.bytes → (p.index_kinds ≡ q.index_kinds) × (p.signals ≡ q.signals)
  -- an array has an element for each tuple of ordinals
  pub whole : (i : ℕ) (p : Port) (index : List ℤ) → slice_get ports i ≡ Some p
      → AllZip IsOrdinalOf p.index_kinds index
      → (j : ℕ) × (q : Port) × (slice_get ports j ≡ Some q) × IsOtherElement p index q
  -- some port stands for each name, and one alone
  pub headed : (i : ℕ) (p : Port) → slice_get ports i ≡ Some p
      → (j : ℕ) × (q : Port) × (slice_get ports j ≡ Some q) × (q.name.bytes ≡ p.name.bytes)
      × (is_head q ≡ true)
  pub one_head : (i j : ℕ) (p q : Port) → slice_get ports i ≡ Some p → slice_get ports j ≡ Some q
      → is_head p ≡ true → is_head q ≡ true → p.name.bytes ≡ q.name.bytes → i ≡ j
  -- no two signals of a port have one name
  pub signals : (i : ℕ) (p : Port) → slice_get ports i ≡ Some p
      → HaveDifferentNames signal_name p.signals
  -- the first port, and the one after all of a name, stands for its name
  pub starts : StartsName ports 0
  pub follows : (i : ℕ) (p : Port) → slice_get ports i ≡ Some p → is_head p ≡ true
      → StartsName ports (i + width p)
  -- between them stand those of one name
  pub of_name : (i j : ℕ) (p q : Port) → slice_get ports i ≡ Some p → is_head p ≡ true
      → slice_get ports j ≡ Some q → i ≤ j → j < i + width p → q.name.bytes ≡ p.name.bytes
  -- and there is one of each name
  pub some : (i : ℕ) (p : Port) → slice_get ports i ≡ Some p → 0 < width p
