-- What a tree shows of what was seen of values may fit their kinds.
use Rattle.std.proofs.Common.{ℕ, List, [], ◌∷◌, replicate, refl}
use Rattle.std.specs.List.{AllZip}
use Rattle.est_lexer.specs.declared.kind.Token.{Token}
use Rattle.est_lexer.specs.declared.kind.Symbol.TheVariants as symbols
use Rattle.text_reader.specs.Grammar.{Tree, t_word, t_seq, t_right, t_rule}
use Rattle.est_syntax.specs.declared.kind.Kind.{Kind, out-Kind}
use Rattle.est_syntax.specs.declared.kind.Kind.TheOpen as kinds
use Rattle.est_values.specs.declared.value.Value.{Value}
use Rattle.est_values.specs.declared.value.Value.TheVariants as value
use Rattle.est_values.specs.FittingValues as fit
use Rattle.est_values.specs.FittingValues.{Fits, ordinal_count}
use Rattle.est_seen.specs.declared.seen.Seen.{Seen}
use Rattle.est_seen.specs.SeenValues as matching
use Rattle.est_seen.specs.SeenValues.{MatchEach, MayFit}
use Rattle.text_reader.specs.Tests.{language}
use Rattle.text_reader.specs.Going.{Shape}
use Rattle.text_values.specs.TraceGrammar as grammar
use Rattle.text_values.specs.TraceGrammar.{Rule, listed, more, a_seen, field_kinds, production}
use Rattle.text_values.specs.ValueShapes.{AreBracketed}
use Rattle.text_values.specs.SeenShapes.{ShowsSeen, ShowsSeens, any, undefined, ordinal, set, array}
use Rattle.text_values.specs.SeenShapes.{fields, no_values, one_more}
use Rattle.text_values.proofs.FittingGroups.{array_fits, record_fits}
use Rattle.text_values.proofs.FitsShown.{scalar_fits, group_tree, bracketed_good}
use Rattle.text_values.proofs.SomeValues.{some_value}

-- fitting values that match what is seen, one for one
record FitEach (ks : List Kind) (xs : List Seen) : Type 0 where
  values : List Value
  fits : AllZip Fits ks values
  match : MatchEach xs values

fit_each : (ks : List Kind) (xs : List Seen) → AllZip MayFit ks xs → FitEach ks xs
fit_each [] [] h = record { values = []; fits = tt; match = matching.nothing_seen }
fit_each [] (x ∷ xs) h = absurd h
fit_each (k ∷ ks) [] h = absurd h
fit_each (k ∷ ks) (x ∷ xs) h =
    let r = fit_each ks xs h.1 in
    record {
      values = h.0.0 ∷ r.values;
      fits = (h.0.1, r.fits);
      match = matching.one_more h.0.2 r.match;
    }

module _ (text : List ℕ) (s : List Token) (n : ℕ) where
  abbrev T : Rule → ℕ → ℕ → ℕ → Shape → Type 0
  T = Tree (language production text) s n

  mutual
    pub seen_fits : (k : Kind) (x : Seen) (t : Shape) {d a b : ℕ} → ShowsSeen k x t
        → T (a_seen k) d a b t → MayFit k x
    seen_fits k x _ (any e) y = let v = some_value k in (v.0, v.1, matching.any e)
    seen_fits k x _ (undefined s e) y = (
      value.Undefined,
      fit.undefined value.outs-Undefined s,
      matching.undefined e value.outs-Undefined,
    )
    seen_fits k x _ (ordinal z e h) (t_rule (t_right y)) = (
      value.Ordinal z,
      fit.ordinal z (value.outs-Ordinal z)
          (scalar_fits text s n a_seen (out-Kind k) k z refl y h),
      matching.ordinal z e (value.outs-Ordinal z),
    )
    seen_fits k x _ (set base zs i e h) y = (
      value.Set zs,
      fit.set base zs i (value.outs-Set zs) h.0,
      matching.set zs e (value.outs-Set zs),
    )
    seen_fits k x _ (array {t = t} index of xs i e h) (t_rule (t_right y)) =
        let ks = replicate (ordinal_count index) of in
        let g = group_tree text s n a_seen (kinds.ArrayOf index of) k ks i refl y in
        let r = fit_each ks xs (listed_fit ks xs t h g.3) in
        let v = value.Group r.values in (
          v,
          array_fits k index of v r.values i (value.outs-Group r.values) r.fits,
          matching.group xs r.values e (value.outs-Group r.values) r.match,
        )
    seen_fits k x _ (fields {t = t} fs xs i e h) (t_rule (t_right y)) =
        let ks = field_kinds fs in
        let g = group_tree text s n a_seen (kinds.Fields fs) k ks i refl y in
        let r = fit_each ks xs (listed_fit ks xs t h g.3) in
        let v = value.Group r.values in (
          v,
          record_fits k fs v r.values i (value.outs-Group r.values) r.fits,
          matching.group xs r.values e (value.outs-Group r.values) r.match,
        )

    listed_fit : (ks : List Kind) (xs : List Seen) (t : Shape) {d a b : ℕ} → ShowsSeens ks xs t
        → T (listed a_seen ks) d a b t → AllZip MayFit ks xs
    listed_fit _ _ _ no_values y = tt
    listed_fit _ _ _ (one_more {k = k} {ks} {x} {xs} {t} {u} h hs) (t_seq y z) =
        (seen_fits k x t h y, more_fit ks xs u hs z)

    more_fit : (ks : List Kind) (xs : List Seen) (t : Shape) {d a b : ℕ} → ShowsSeens ks xs t
        → T (more a_seen ks) d a b t → AllZip MayFit ks xs
    more_fit _ _ _ no_values y = tt
    more_fit _ _ _ (one_more {k = k} {ks} {x} {xs} {t} {u} h hs) (t_seq (t_word c l w y) z) =
        (seen_fits k x t h y, more_fit ks xs u hs z)

  -- what was seen of parameters
  pub seens_fit : (ks : List Kind) (xs : List Seen) {d a b : ℕ} {t : Shape}
      → T (grammar.seen_parameters ks) d a b t → AreBracketed ShowsSeen ks xs t
      → AllZip MayFit ks xs
  seens_fit ks xs y h =
      bracketed_good text s n a_seen ShowsSeen MayFit (λ j x d a b t z g. seen_fits j x t g z)
      symbols.LeftParenthesis symbols.RightParenthesis ks xs y h
