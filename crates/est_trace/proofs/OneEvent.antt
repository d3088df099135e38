-- An event, by its first word.
use Rattle.std.proofs.Common.{◌≡◌, ℕ, true, List, [], ◌∷◌, refl, sym, ap, subst, Option, Some}
use Rattle.std.specs.Option.{IsSomeAnd}
use Rattle.text_reader.specs.Grammar.{one_of, leaf, left, right}
use Rattle.text_reader.specs.Shown.{Shows, kept, first, second, node, s_kept, s_first, s_second}
use Rattle.est_syntax.specs.declared.ports.Direction.TheVariants.{Receives, Sends}
use Rattle.est_syntax.specs.declared.ports.Port.{Port}
use Rattle.est_syntax.specs.Kinds.{maxint}
use Rattle.est_meaning.specs.declared.event.Event.TheVariants.{Passes}
use Rattle.est_meaning.specs.declared.trace.Expected.{Expected}
use Rattle.est_meaning.specs.declared.trace.Expected.TheVariants.{Known}
use Rattle.text_reader.specs.declared.reader.Reader.{Reader}
use Rattle.text_reader.specs.Tests.{said, value}
use Rattle.text_reader.specs.Moving.{Sees, NoneSeen, Takes, TakesNumber}
use Rattle.text_reader.specs.Going.{Shape}
use Rattle.text_reader.proofs.Going.{take, chosen, first_else}
use Rattle.text_reader.proofs.Single.{number_goes}
use Rattle.text_values.specs.declared.formats.Format.{Format}
use Rattle.text_values.specs.TraceGrammar.{port, event}
use Rattle.text_values.specs.ValueReading.{plain, Reads}
use Rattle.text_values.proofs.Known.{known}
use Rattle.est_trace.specs.TraceShapes.{ShowsPassing, ShowsEvent}
use Rattle.est_trace.proofs.Readings.{shows_only, as_shape}

only_time : (n : ℕ) {u : Shape} → Shows plain.layer (first (kept (value n))) u
    → u ≡ left (leaf (value n))
only_time n (s_first (s_kept v)) = refl

only_in : (t : Shape) {u : Shape} → Shows plain.layer (second (first (node t))) u
    → u ≡ right (left t)
only_in t (s_second (s_first d)) = ap (λ v. right (left v)) (shows_only t d)

only_out : (t : Shape) {u : Shape} → Shows plain.layer (second (second (node t))) u
    → u ≡ right (right t)
only_out t (s_second (s_second d)) = ap (λ v. right (right v)) (shows_only t d)

module _ (f : Format) (ports : List Port) {A B C : Reader} where
  pub time_reads : {n : ℕ} (e : Option Expected) → e ≡ Some (Known (Passes n))
      → NoneSeen A (said "in" ∷ said "out" ∷ []) → Takes (said "time") A B
      → TakesNumber 0 maxint B n C
      → Reads (event f ports) (λ t. IsSomeAnd e (λ x. ShowsEvent f ports x t)) A C
  time_reads {n} e q s k x = record {
    shape = left (leaf (value n));
    goes = as_shape (left (leaf (value n))) (λ u d. only_time n d)
        (first_else known (said "in" ∷ said "out" ∷ []) refl refl refl refl s
        (take known k (number_goes known x)));
    is = λ w. subst (λ o. IsSomeAnd o (λ y. ShowsEvent f ports y (left (leaf (value n)))))
        (sym q) refl;
  }

  module _ (o : Option Expected) where
    pub arrival_reads : Sees A (said "in") true → Takes (said "in") A B
        → Reads (one_of (port f Receives) ports)
        (λ t. IsSomeAnd o (λ x. ShowsPassing Receives f ports x t)) B C
        → Reads (event f ports) (λ t. IsSomeAnd o (λ x. ShowsEvent f ports x t)) A C
    arrival_reads s k x = record {
      shape = right (left x.shape);
      goes = as_shape (right (left x.shape)) (λ u d. only_in x.shape d)
          (chosen known 1 (said "in") refl s (take known k x.goes));
      is = x.is;
    }

    pub departure_reads : Sees A (said "out") true → Takes (said "out") A B
        → Reads (one_of (port f Sends) ports)
        (λ t. IsSomeAnd o (λ x. ShowsPassing Sends f ports x t)) B C
        → Reads (event f ports) (λ t. IsSomeAnd o (λ x. ShowsEvent f ports x t)) A C
    departure_reads s k x = record {
      shape = right (right x.shape);
      goes = as_shape (right (right x.shape)) (λ u d. only_out x.shape d)
          (chosen known 2 (said "out") refl s (take known k x.goes));
      is = x.is;
    }
