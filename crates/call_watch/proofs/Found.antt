-- What a line says, from what its reader says of the text as which it is judged.
use Rattle.std.proofs.Common.{◌≡◌, ℕ, ◌-◌, Bool, List, Some, refl, ap, subst, sym, ◌∙◌}
use Rattle.est_lexer.specs.declared.kind.Token.{Token}
use Rattle.est_lexer.specs.Lines.{column_at}
use Rattle.est_lexer.specs.Offsets.{offset_at}
use Rattle.est_lexer.specs.TokenList.{IsTokenList}
use Rattle.est_syntax.specs.declared.ports.Port.{Port}
use Rattle.est_meaning.specs.declared.event.Event.{Event}
use Rattle.est_trace.specs.LineText.{IsOnlyLineText, IsLineRefusal}
use Rattle.est_trace.specs.declared.error.TraceError.{TraceError}
use Rattle.call_files.specs.FileTexts.{SaysOfTrace}
use Rattle.call_files.specs.declared.status.Status.TheVariants.{BadTrace}
use Rattle.call_watch.specs.Lines.{judged, tokens_before, HasEvents}
use Rattle.call_watch.specs.declared.line.Found.{Found}
use Rattle.call_watch.specs.declared.line.Found.TheVariants.{Events, Refused}
use Rattle.call_watch.specs.inside.Work.{IsFound, IsRefusedAt}

-- it has events
pub found_events : (ports : List Port) (most : ℕ) (first : Bool) (bytes text : List ℕ)
    (tokens : List Token) (events : List Event) → text ≡ judged first bytes
    → IsTokenList text tokens → IsOnlyLineText most ports text tokens events
    → HasEvents ports most first bytes events
found_events ports most first bytes text tokens events same list only = (
  tokens,
  subst (λ (t : List ℕ). IsTokenList t tokens) same list,
  subst (λ (t : List ℕ). IsOnlyLineText most ports t tokens events) same only,
)

-- it is refused
pub found_refused : (ports : List Port) (most : ℕ) (first : Bool) (bytes text said : List ℕ)
    (tokens own : List Token) (error : TraceError) (place : ℕ) (why : List ℕ) (found : Found)
    → text ≡ judged first bytes → IsTokenList text tokens → said ≡ bytes → IsTokenList bytes own
    → IsLineRefusal most ports text tokens error → SaysOfTrace error BadTrace (Some place) why
    → IsRefusedAt (column_at said (offset_at own (place - tokens_before first))) why found
    → IsFound ports most first bytes found
found_refused ports most first bytes text said tokens own error place why (Events es) same list own_is
    own_list refused says h = absurd h
found_refused ports most first bytes text said tokens own error place why (Refused at reason) same
    list own_is own_list refused says h = record {
      tokens = tokens;
      list = subst (λ (t : List ℕ). IsTokenList t tokens) same list;
      error = error;
      refused = subst (λ (t : List ℕ). IsLineRefusal most ports t tokens error) same refused;
      place = place;
      says = subst (SaysOfTrace error BadTrace (Some place)) (sym h.1) says;
      own = own;
      own_list = own_list;
      column_is = h.0 ∙ ap (λ (t : List ℕ). column_at t (offset_at own (place - tokens_before first)))
          own_is;
    }
