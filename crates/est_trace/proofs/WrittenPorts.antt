-- What is told of ports.
use Rattle.std.proofs.Common.{◌≡◌, ◌∙◌, refl, sym, ap, ℕ, ℤ, List, [], length, Option, Some}
use Rattle.std.proofs.Common.{None, slice_get, codes, ◌++◌, append_assoc}
use Rattle.std.specs.Prelude.{Result, Ok, Err, OnOk}
use Rattle.std.specs.Option.{option_map}
use Rattle.std.proofs.lemmas.Option.{same_Some}
use Rattle.est_syntax.specs.declared.kind.Kind.{Kind}
use Rattle.est_syntax.specs.declared.ports.Port.{Port}
use Rattle.est_syntax.specs.declared.ports.Signal.{Signal}
use Rattle.rule_ports.specs.PortTable.{IsPortNumber}
use Rattle.text_values.specs.WrittenLists.{bracketed, paired}
use Rattle.text_values.specs.WrittenOrdinals.{ordinal_text}
use Rattle.text_values.proofs.Listed.{none_left}
use Rattle.est_trace.specs.WrittenTraces.{name_at, index_at, kinds_at, ordinal_texts, signals_at}
use Rattle.est_trace.specs.WrittenTraces.{signal_at, port_at, text_at}
use Rattle.est_trace.specs.inside.Parts.{parameters_of, signal_name_of}
use Rattle.est_trace.specs.inside.Subscripts.{AreSubscripts}

abbrev name_of : Port → List ℕ
name_of p = p.name.bytes

-- the name of a port that is there,
pub name_there : (o : Option Port) (name : List ℕ) → Some name ≡ option_map name_of o
    → name ≡ name_at o
name_there None name e = cc
name_there (Some p) name e = same_Some name p.name.bytes e

-- and of one that is not
pub name_none : (o : Option Port) → None ≡ option_map name_of o → [] ≡ name_at o
name_none None e = refl
name_none (Some p) e = cc

-- a port without kinds of subscripts has none
pub index_none : (o : Option Port) (kinds : List Kind) → kinds ≡ kinds_at o → length kinds ≡ 0
    → [] ≡ index_at o
index_none None kinds e h = refl
index_none (Some p) kinds e h =
    none_left (codes "[") (codes "]") ordinal_text p.index_kinds p.index (ap length (sym e) ∙ h)

-- the subscripts of a port that has these
pub index_there : (ports : List Port) (n : ℕ) (kinds : List Kind) (index : List ℤ)
    → kinds ≡ kinds_at (slice_get ports n) → AreSubscripts ports n index
    → bracketed (codes "[") (codes "]") (ordinal_texts kinds index) ≡ index_at (slice_get ports n)
index_there ports n kinds index e are = by (slice_get ports n) refl e
  where
    by : (o : Option Port) → slice_get ports n ≡ o → kinds ≡ kinds_at o
        → bracketed (codes "[") (codes "]") (ordinal_texts kinds index) ≡ index_at o
    by None is ks =
        ap (λ js. bracketed (codes "[") (codes "]") (ordinal_texts js index)) ks
    by (Some p) is ks =
        ap (λ js. bracketed (codes "[") (codes "]") (ordinal_texts js index)) ks
        ∙ ap (λ t. bracketed (codes "[") (codes "]") (ordinal_texts p.index_kinds t))
        (sym (are p is))

-- the subscripts by which a port is found are its own
pub found : (ports : List Port) (name : List ℕ) (index : List ℤ) (n m : ℕ) → n ≡ m
    → IsPortNumber name index ports (Some n) → AreSubscripts ports m index
found ports name index n m same f = λ p e.
    let q : slice_get ports n ≡ Some p = ap (slice_get ports) same ∙ e in
    ap (λ (r : Port). r.index) (same_Some p f.0 (sym q ∙ f.1)) ∙ f.3

-- a text to which one was added, and then another
pub both_added : {A E : Type 0} (old mid new t u all : List ℕ) (r : Result A E) → mid ≡ old ++ t
    → OnOk r (new ≡ mid ++ u) → t ++ u ≡ all → OnOk r (new ≡ old ++ all)
both_added old mid new t u all (Ok x) first second is =
    second ∙ ap (λ s. s ++ u) first ∙ append_assoc old t u ∙ ap (λ s. old ++ s) is
both_added old mid new t u all (Err x) first second is = tt

-- a signal is its name and what stands in its brackets
signal_split : {A : Type 0} (f : Kind → A → List ℕ) (xs : List A) (o : Option Signal)
    → signal_name_of o ++ bracketed (codes "(") (codes ")") (paired f (parameters_of o) xs)
    ≡ signal_at (λ ks. paired f ks xs) o
signal_split f xs None = refl
signal_split f xs (Some s) = refl

-- so is one at a port
pub text_split : {A : Type 0} (f : Kind → A → List ℕ) (xs : List A) (ports : List Port)
    (n m : ℕ) (signals : List Signal) (kinds : List Kind)
    → signals ≡ signals_at (slice_get ports n) → kinds ≡ parameters_of (slice_get signals m)
    → (port_at (slice_get ports n)
    ++ signal_name_of (slice_get (signals_at (slice_get ports n)) m))
    ++ bracketed (codes "(") (codes ")") (paired f kinds xs)
    ≡ text_at ports n m (λ ks. paired f ks xs)
text_split f xs ports n m signals kinds e q =
    let o = slice_get (signals_at (slice_get ports n)) m in
    let same : kinds ≡ parameters_of o =
    q ∙ ap (λ ss. parameters_of (slice_get ss m)) e in
    let items = bracketed (codes "(") (codes ")") (paired f (parameters_of o) xs) in
    ap (λ ks. (port_at (slice_get ports n) ++ signal_name_of o)
    ++ bracketed (codes "(") (codes ")") (paired f ks xs)) same
    ∙ append_assoc (port_at (slice_get ports n)) (signal_name_of o) items
    ∙ ap (λ r. port_at (slice_get ports n) ++ r) (signal_split f xs o)
