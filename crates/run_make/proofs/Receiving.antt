-- What may arrive is what a port receives.
use Rattle.std.proofs.Common.{◌≡◌, refl, sym, ap, ◌∙◌, ℕ, zero, suc, ◌+◌, ◌<◌, ◌⊎◌, inl, inr}
use Rattle.std.proofs.Common.{arith, Bool, true, false, IsTrue, List, [], ◌∷◌, ◌++◌, length, drop}
use Rattle.std.proofs.Common.{append_assoc, get_or, drop-cons, slice_get, if◌then◌else◌}
use Rattle.std.proofs.Common.{Option, Some, None}
use Rattle.std.specs.Option.{option_map}
use Rattle.std.proofs.lemmas.Option.{slice_get_within, get_or_from_slice_get}
use Rattle.est_syntax.specs.declared.ports.Port.{Port}
use Rattle.est_syntax.specs.declared.ports.Signal.{Signal}
use Rattle.run_make.specs.declared.arrivals.Arrival.{Arrival}
use Rattle.run_make.specs.Arrivals.{received_from, arrivals_from, arrivals_of}
use Rattle.run_make.specs.inside.Received.{IsReceived}

-- IN A LIST

-- an item of two lists is one of the first or of the second
in_both : {X : Type 0} (xs ys : List X) (i : ℕ) (x : X) → slice_get (xs ++ ys) i ≡ Some x
    → (slice_get xs i ≡ Some x) ⊎ ((j : ℕ) × (slice_get ys j ≡ Some x))
in_both [] ys i x at = inr (i, at)
in_both (z ∷ xs) ys zero x at = inl at
in_both (z ∷ xs) ys (suc i) x at = in_both xs ys i x at

-- OF A PORT

-- a signal among those from a number on
record IsSignal (port n : ℕ) (xs : List Signal) (a : Arrival) : Type 0 where
  port_is : a.port ≡ port
  place : ℕ
  number : a.signal ≡ n + place
  signal : Signal
  at : slice_get xs place ≡ Some signal
  receives : IsTrue signal.receives

later_signal : (port n : ℕ) (x : Signal) (xs : List Signal) (a : Arrival)
    → IsSignal port (n + 1) xs a → IsSignal port n (x ∷ xs) a
later_signal port n x xs a s = record {
  port_is = s.port_is;
  place = suc s.place;
  number = (let e = s.number in omega arith);
  signal = s.signal;
  at = s.at;
  receives = s.receives;
}

is_signal_by : (port n : ℕ) (x : Signal) (xs : List Signal)
    → ((i : ℕ) (a : Arrival) → slice_get (received_from port (n + 1) xs) i ≡ Some a
    → IsSignal port (n + 1) xs a)
    → (b : Bool) → x.receives ≡ b → (i : ℕ) (a : Arrival)
    → slice_get (if b then record { port = port; signal = n } ∷ received_from port (n + 1) xs
    else received_from port (n + 1) xs) i ≡ Some a → IsSignal port n (x ∷ xs) a
is_signal_by port n x xs rest true is zero a at =
    let e : a ≡ record { port = port; signal = n } = cc in
    record {
      port_is = ap (λ (v : Arrival). v.port) e;
      place = 0;
      number = (let m : a.signal ≡ n = ap (λ (v : Arrival). v.signal) e in omega arith);
      signal = x;
      at = refl;
      receives = is;
    }
is_signal_by port n x xs rest true is (suc i) a at = later_signal port n x xs a (rest i a at)
is_signal_by port n x xs rest false is i a at = later_signal port n x xs a (rest i a at)

is_signal : (port n : ℕ) (xs : List Signal) (i : ℕ) (a : Arrival)
    → slice_get (received_from port n xs) i ≡ Some a → IsSignal port n xs a
is_signal port n [] i a at = cc
is_signal port n (x ∷ xs) i a at =
    is_signal_by port n x xs (is_signal port (n + 1) xs) x.receives refl i a at

-- OF ALL PORTS

-- a port among those from a number on
record IsPort (n : ℕ) (ps : List Port) (a : Arrival) : Type 0 where
  place : ℕ
  number : a.port ≡ n + place
  port : Port
  at : slice_get ps place ≡ Some port
  signal : Signal
  signal_at : slice_get port.signals a.signal ≡ Some signal
  receives : IsTrue signal.receives

first_port : (n : ℕ) (p : Port) (ps : List Port) (a : Arrival) → IsSignal n 0 p.signals a
    → IsPort n (p ∷ ps) a
first_port n p ps a s = record {
  place = 0;
  number = s.port_is ∙ omega arith;
  port = p;
  at = refl;
  signal = s.signal;
  signal_at = (let e : a.signal ≡ s.place = s.number ∙ omega arith in
      ap (slice_get p.signals) e ∙ s.at);
  receives = s.receives;
}

later_port : (n : ℕ) (p : Port) (ps : List Port) (a : Arrival) → IsPort (n + 1) ps a
    → IsPort n (p ∷ ps) a
later_port n p ps a s = record {
  place = suc s.place;
  number = (let e = s.number in omega arith);
  port = s.port;
  at = s.at;
  signal = s.signal;
  signal_at = s.signal_at;
  receives = s.receives;
}

is_port : (n : ℕ) (ps : List Port) (i : ℕ) (a : Arrival)
    → slice_get (arrivals_from n ps) i ≡ Some a → IsPort n ps a
is_port n [] i a at = cc
is_port n (p ∷ ps) i a at =
    elim (in_both (received_from n 0 p.signals) (arrivals_from (n + 1) ps) i a at) [
      | inl here ↦ first_port n p ps a (is_signal n 0 p.signals i a here)
      | inr there ↦ later_port n p ps a (is_port (n + 1) ps there.0 a there.1)
    ]

-- what may arrive is received
pub is_received : (ps : List Port) (i : ℕ) (a : Arrival) → slice_get (arrivals_of ps) i ≡ Some a
    → IsReceived ps a
is_received ps i a at =
    let s = is_port 0 ps i a at in
    let e : a.port ≡ s.place = s.number ∙ omega arith in
    record {
      port = s.port;
      port_is = ap (slice_get ps) e ∙ s.at;
      signal = s.signal;
      signal_is = s.signal_at;
      receives = s.receives;
    }

-- ONE BY ONE

there : {X : Type 0} (xs : List X) (i : ℕ) (x : X) → i < length xs → x ≡ get_or xs i x
    → drop i xs ≡ x ∷ drop (i + 1) xs
there xs i x h at =
    let n : suc i ≡ i + 1 = omega arith in
    drop-cons xs i x h ∙ ap (λ m. get_or xs i x ∷ drop m xs) n
    ∙ ap (λ y. y ∷ drop (i + 1) xs) (sym at)

-- those of a port from one signal on, where that is or is not received
abbrev from_here : ℕ → ℕ → List Signal → Bool → List Arrival
from_here port i rest b =
    if b then record { port = port; signal = i } ∷ received_from port (i + 1) rest
    else received_from port (i + 1) rest

here_is : (port i : ℕ) (xs : List Signal) (x : Signal) (b : Bool) → i < length xs
    → x ≡ get_or xs i x → x.receives ≡ b
    → from_here port i (drop (i + 1) xs) b ≡ received_from port i (drop i xs)
here_is port i xs x b h at is =
    ap (from_here port i (drop (i + 1) xs)) (sym is)
    ∙ ap (received_from port i) (sym (there xs i x h at))

-- those of a port from one signal on, where it is received
pub received_here : (port i : ℕ) (xs : List Signal) (x : Signal) (into more : List Arrival)
    (a : Arrival) → i < length xs → x ≡ get_or xs i x → x.receives ≡ true
    → more ≡ into ++ a ∷ [] → a ≡ record { port = port; signal = i }
    → more ++ received_from port (i + 1) (drop (i + 1) xs)
    ≡ into ++ received_from port i (drop i xs)
received_here port i xs x into more a h at is pushed a_is =
    let rest = received_from port (i + 1) (drop (i + 1) xs) in
    ap (λ l. l ++ rest) pushed ∙ append_assoc into (a ∷ []) rest
    ∙ ap (λ y. into ++ y ∷ rest) a_is
    ∙ ap (λ l. into ++ l) (here_is port i xs x true h at is)

-- and where it is not
pub received_later : (port i : ℕ) (xs : List Signal) (x : Signal) (into more : List Arrival)
    → i < length xs → x ≡ get_or xs i x → x.receives ≡ false → more ≡ into
    → more ++ received_from port (i + 1) (drop (i + 1) xs)
    ≡ into ++ received_from port i (drop i xs)
received_later port i xs x into more h at is same =
    let rest = received_from port (i + 1) (drop (i + 1) xs) in
    ap (λ l. l ++ rest) same ∙ ap (λ l. into ++ l) (here_is port i xs x false h at is)

-- a port by its signals
record HasSignals (ps : List Port) (n : ℕ) (xs : List Signal) : Type 0 where
  pub port : Port
  pub at : slice_get ps n ≡ Some port
  pub signals : port.signals ≡ xs

signals_by : (ps : List Port) (n : ℕ) (xs : List Signal) (o : Option Port) → slice_get ps n ≡ o
    → Some xs ≡ option_map (λ (p : Port). p.signals) o → HasSignals ps n xs
signals_by ps n xs None is e = cc
signals_by ps n xs (Some p) is e = record {
  port = p;
  at = is;
  signals = (let same : xs ≡ p.signals = cc in sym same);
}

-- those of the ports from one on
pub arrivals_here : (n : ℕ) (ps : List Port) (xs : List Signal) (into more : List Arrival)
    → Some xs ≡ option_map (λ (p : Port). p.signals) (slice_get ps n)
    → more ≡ into ++ received_from n 0 xs
    → more ++ arrivals_from (n + 1) (drop (n + 1) ps) ≡ into ++ arrivals_from n (drop n ps)
arrivals_here n ps xs into more found pushed =
    let s = signals_by ps n xs (slice_get ps n) refl found in
    let rest = arrivals_from (n + 1) (drop (n + 1) ps) in
    let lt : n < length ps = slice_get_within ps n s.port s.at in
    let d : drop n ps ≡ s.port ∷ drop (n + 1) ps =
    there ps n s.port lt (sym (get_or_from_slice_get ps n s.port s.port s.at)) in
    ap (λ l. l ++ rest) pushed
    ∙ ap (λ l. (into ++ received_from n 0 l) ++ rest) (sym s.signals)
    ∙ append_assoc into (received_from n 0 s.port.signals) rest
    ∙ ap (λ l. into ++ arrivals_from n l) (sym d)
