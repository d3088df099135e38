-- What readers of files answer, from what their steps answered.
use Rattle.std.proofs.Common.{◌≡◌, ◌<◌, ◌≤◌, ◌⊎◌, inl, inr, ℕ, List, Option, Some}
use Rattle.std.proofs.Common.{None, length, min, sym, subst, ap, ◌∙◌, IfSome}
use Rattle.std.proofs.Common.{IfNone, Result, Ok, Err, true, false, arith}
use Rattle.std.specs.Result.{IsErr, IsErrAnd}
use Rattle.std.specs.Global.{Vec}
use Rattle.std.proofs.lemmas.Option.{slice_get_past}
use Rattle.std.specs.Option.{option_map_or}
use Rattle.est_lexer.specs.declared.kind.Token.{Token}
use Rattle.est_lexer.specs.Offsets.{offset_at, last_end}
use Rattle.est_lexer.specs.TokenList.{IsTokenList}
use Rattle.call_files.specs.FaultCounts.{AllStay}
use Rattle.call_files.specs.declared.diagnostic.Diagnostic.{Diagnostic}
use Rattle.call_files.specs.declared.stop.Stop.{Stop}
use Rattle.call_files.specs.declared.stop.Stop.TheVariants.{Refused, ReadFault, OutOfMemory}
use Rattle.call_files.specs.declared.file.File.{File}
use Rattle.call_files.specs.Files.{limit_of}
use Rattle.call_files.specs.Seen.{Seen}
use Rattle.call_files.specs.FileTexts.{IsText, Holds, Refusals, IsReported, refusal_at}
use Rattle.call_files.specs.FileEnds.{End, reported, unread, EndsAt, longer, refused, failed}
use Rattle.call_files.specs.FileEnds.{EndsAtText, text_longer, text_refused}
use Rattle.call_files.specs.RefusalLines.{too_long_line}
use Rattle.call_files.specs.Reads.{IsStop, StopsWith, IsQuiet, IsUnread, IsRefusedText}
use Rattle.call_files.specs.Reads.{IsRead, Touches, ReadsBytes, ReadsText, ReadsFile, TakesText}
use Rattle.call_files.specs.declared.status.Status.TheVariants.{TooLong}

-- TEXTS

-- The tokens were made of the text `own`, which is the one that was read.
pub is_text : {file : File} {text own : List ℕ} {tokens : List Token}
    {Is : List ℕ → List Token → Type 0}
    → own ≡ text → length text ≤ limit_of file → IsTokenList text tokens → Is own tokens
    → IsText file text Is
is_text {tokens = tokens} {Is = Is} same short list is =
    record { tokens = tokens; short = short; list = list; is = subst (λ t. Is t tokens) same is }

-- what a reader of a text answers that it is good
pub reads_good : {A : Type 0} {file : File} {Is : A → List ℕ → List Token → Type 0}
    {Refuses : Refusals} {text own : List ℕ} {tokens : List Token} (x : A)
    → own ≡ text → length text ≤ limit_of file → IsTokenList text tokens → Is x own tokens
    → ReadsText file Is Refuses text (Ok x)
reads_good {Is = Is} x same short list is = record {
  good = is_text {Is = Is x} same short list is;
  refused = tt;
}

-- a text that was read is the one that is told
holds_read : {file : File} {text : List ℕ} {Is : List ℕ → List Token → Type 0}
    (told : Option (List ℕ))
    → IfSome told (λ bytes. text ≡ bytes) → IsText file text Is → Holds file told Is
holds_read {text = text} None same is = (text, is)
holds_read {file} {Is = Is} (Some bytes) same is = subst (λ t. IsText file t Is) same is

-- STOPS

-- what holds of the end holds in a weaker form too
pub stop_then : {P Q : End → Type 0} (stop : Stop) → ((end : End) → P end → Q end) → IsStop P stop
    → IsStop Q stop
stop_then (Refused report) weaker holds = weaker _ holds
stop_then ReadFault weaker holds = weaker _ holds
stop_then OutOfMemory weaker holds = tt

-- counts that are as they were are quiet whatever is answered
pub quiet_any : {A : Type 0} (shelf : Seen) (r : Result A Stop)
    → AllStay shelf.before.faults shelf.after.faults → IsQuiet shelf r
quiet_any shelf (Ok x) stay = stay
quiet_any shelf (Err (Refused report)) stay = stay
quiet_any shelf (Err ReadFault) stay = tt
quiet_any shelf (Err OutOfMemory) stay = stay

-- the answer that stops for the same
pub stops_for : {A : Type 0} (P : Result A Stop → Type 0) (r : Result A Stop) (e : Stop)
    → IsErr r × IsErrAnd r (λ x. x ≡ e) → P (Err e) → P r
stops_for P (Ok x) e is holds = absurd (never is.0)
  where
    never : false ≡ true → ⊥
    never e = cc
stops_for P (Err x) e is holds = subst (λ y. P (Err y)) (sym is.1) holds

-- it is as quiet, whatever was to be made
pub quiet_stop : (A B : Type 0) (shelf : Seen) (e : Stop) → IsQuiet {A = A} shelf (Err e)
    → IsQuiet {A = B} shelf (Err e)
quiet_stop A B shelf (Refused report) quiet = quiet
quiet_stop A B shelf ReadFault quiet = tt
quiet_stop A B shelf OutOfMemory quiet = quiet

-- the stop of a text that is refused, or where memory ran out
pub reads_refused : {A : Type 0} {file : File} {Is : A → List ℕ → List Token → Type 0}
    {Refuses : Refusals} {text own : List ℕ} {tokens : List Token} (said : Option Diagnostic)
    (stop : Stop)
    → own ≡ text → length text ≤ limit_of file → IsTokenList text tokens
    → IfSome said (λ r. Refuses own tokens r.status r.place r.why.now)
    → IfSome said (λ r. StopsWith r.status (refusal_at file own tokens r.place r.why.now) stop)
    → IfNone said (stop ≡ OutOfMemory) → ReadsText file Is Refuses text (Err stop)
reads_refused {file = file} {Refuses = Refuses} {text} {own} {tokens} (Some r) stop same short list
    refuses stops wants = record { good = tt; refused = by_stop stop stops }
  where
    by_stop : (stop : Stop) → StopsWith r.status (refusal_at file own tokens r.place r.why.now) stop
        → IsStop (IsRefusedText file Refuses text) stop
    by_stop (Refused report) stops =
        is_text {Is = IsReported file Refuses report.status report.text.items} same short
        list (record {
          place = r.place;
          why = r.why.now;
          refused = subst (λ s. Refuses own tokens s r.place r.why.now) (sym stops.0) refuses;
          report_is = stops.1;
        })
    by_stop ReadFault stops = absurd stops
    by_stop OutOfMemory stops = tt
reads_refused {file = file} {Refuses = Refuses} {text} None stop same short list refuses stops
    wants = record {
      good = tt;
      refused = subst (IsStop (IsRefusedText file Refuses text)) (sym wants) tt;
    }

-- what is said of an error is said of the tokens
pub said_then : {X : Type 0} {P Q : X → Type 0} (said : Option X) → ((x : X) → P x → Q x)
    → IfSome said P → IfSome said Q
said_then (Some x) weaker holds = weaker x holds
said_then None weaker holds = tt

-- TEXTS TAKEN AS THOSE OF FILES

-- a text that is longer than its limit
pub takes_longer : {A : Type 0} {file : File} {Is : A → List ℕ → List Token → Type 0}
    {Refuses : Refusals} {text : List ℕ} (stop : Stop) → limit_of file < length text
    → StopsWith TooLong (too_long_line file) stop → TakesText file Is Refuses text (Err stop)
takes_longer {A} {file} {Is} {Refuses} {text} stop long stops = record {
  good = tt;
  ended = by_stop stop stops;
}
  where
    by_stop : (stop : Stop) → StopsWith TooLong (too_long_line file) stop
        → IsStop (EndsAtText file text Refuses) stop
    by_stop (Refused report) stops =
        subst (λ s. EndsAtText file text Refuses (reported s report.text.items)) (sym stops.0)
        (subst (λ t. EndsAtText file text Refuses (reported TooLong t)) (sym stops.1)
        (text_longer long))
    by_stop ReadFault stops = absurd stops
    by_stop OutOfMemory stops = tt

-- a text that was read, within its limit
pub takes_read : {A : Type 0} {file : File} (Is : A → List ℕ → List Token → Type 0)
    (Refuses : Refusals) {text : List ℕ} (r : Result A Stop) → ReadsText file Is Refuses text r
    → TakesText file Is Refuses text r
takes_read Is Refuses (Ok x) reads = record { good = reads.good; ended = tt }
takes_read {A} {file} Is Refuses {text} (Err stop) reads = record {
  good = tt;
  ended = stop_then stop ends reads.refused;
}
  where
    ends : (end : End) → IsRefusedText file Refuses text end → EndsAtText file text Refuses end
    ends (reported status report) is = text_refused status report is
    ends unread is = absurd is

-- FILES

module _ {shelf : Seen} {file : File} {name : List ℕ} (Refuses : Refusals) where
  -- a file that could not be read ends the call
  unread_ends : (end : End) → IsUnread shelf file name end → EndsAt shelf file name Refuses end
  unread_ends (reported status report) long = longer status report long
  unread_ends unread rose = failed rose

  -- and so does a text that is refused
  refused_ends : {text : List ℕ} → IsRead shelf file name text → (end : End)
      → IsRefusedText file Refuses text end → EndsAt shelf file name Refuses end
  refused_ends read (reported status report) is = refused status report
      (holds_read (shelf.before.told name) read.same is)
  refused_ends read unread is = absurd is

  module _ {A : Type 0} (Is : A → List ℕ → List Token → Type 0) where
    -- the bytes could not be read
    pub reads_nothing : (r : Result A Stop) (e : Stop) → IsErr r × IsErrAnd r (λ x. x ≡ e)
        → ReadsBytes file name shelf (Err e)
        → ReadsFile file name Is Refuses shelf r
    reads_nothing r e is bytes =
        let t = bytes.touches in
        stops_for (ReadsFile file name Is Refuses shelf) r e is (record {
          touches = record {
            told = t.told;
            started = t.started;
            quiet = quiet_stop (Vec ℕ) A shelf e t.quiet;
          };
          good = tt;
          ended = stop_then e (λ end u. unread_ends end u) bytes.ended;
        })

    -- the bytes were read, and then their text
    pub reads_text : (r : Result A Stop) (bytes : Vec ℕ) (text : List ℕ) → text ≡ bytes.items
        → ReadsBytes file name shelf (Ok bytes)
        → ReadsText file Is Refuses text r → ReadsFile file name Is Refuses shelf r
    reads_text r bytes text same whole reads = by_answer r reads
      where
        read : IsRead shelf file name text
        read = subst (λ t. IsRead shelf file name t) (sym same) whole.read

        touched : (r : Result A Stop) → Touches name shelf r
        touched r = record {
          told = whole.touches.told;
          started = whole.touches.started;
          quiet = quiet_any shelf r whole.touches.quiet;
        }

        by_answer : (r : Result A Stop) → ReadsText file Is Refuses text r
            → ReadsFile file name Is Refuses shelf r
        by_answer (Ok x) reads =
            record {
              touches = touched (Ok x);
              good = holds_read (shelf.before.told name) read.same reads.good;
              ended = tt;
            }
        by_answer (Err e) reads =
            record {
              touches = touched (Err e);
              good = tt;
              ended = stop_then e (λ end u. refused_ends read end u) reads.refused;
            }

-- PLACES

-- a place after the last token stands where the last one ends
past_end : (tokens : List Token) (place : ℕ) → length tokens ≤ place
    → offset_at tokens place ≡ last_end tokens
past_end tokens place past = ap (λ o. option_map_or (λ token. token.start) o (last_end tokens))
    (slice_get_past tokens place past)

pub offset_at-min : (tokens : List Token) (place : ℕ) → offset_at tokens (min place (length tokens))
    ≡ offset_at tokens place
offset_at-min tokens place = elim (within place (length tokens)) [
  | inl inside ↦ ap (λ i. offset_at tokens i) (let e : min place (length tokens) ≡ place =
      omega arith in e)
  | inr past ↦ (let e : min place (length tokens) ≡ length tokens = omega arith in ap
      (λ i. offset_at tokens i) e ∙ (past_end tokens (length tokens) (omega arith)
      ∙ sym (past_end tokens place past)))
]
  where
    within : (a b : ℕ) → (a ≤ b) ⊎ (b ≤ a)
    within a b = grind arith
