-- What calls of `print` write, from the specifications in their files.
use Rattle.std.proofs.Common.{◌≡◌, ◌∙◌, ℕ, ◌<◌, ◌≤◌, List, length, Option, Some, IfSome}
use Rattle.std.proofs.Common.{sym, ap, subst, refl, arith}
use Rattle.est_lexer.specs.declared.kind.Token.{Token}
use Rattle.est_lexer.specs.TokenList.{IsTokenList}
use Rattle.text_reader.specs.Grammar.{Shape}
use Rattle.text_reader.specs.Shown.{View}
use Rattle.est_syntax.specs.declared.specification.Spec.{Spec}
use Rattle.est_grammar.specs.Answer.{HasOneTree}
use Rattle.est_check.specs.SpecificationText.{IsNoSpecification}
use Rattle.est_check.specs.declared.specification_error.SpecificationError.{SpecificationError}
use Rattle.est_check.specs.declared.specification_error.SpecificationError.TheVariants as specification
use Rattle.text_printer.specs.Aside.{Tells, a_empty, a_kept, a_at, a_pair, a_first, a_second}
use Rattle.text_printer.specs.Aside.{a_given, a_node, a_none, a_more, Alike, b_empty, b_kept, b_at}
use Rattle.text_printer.specs.Aside.{b_pair, b_first, b_second, b_given, b_node, b_none, b_more}
use Rattle.text_printer.specs.PlainNodes.{plain_layer}
use Rattle.est_print.specs.PrintedText.{IsPrintedText, SameButPlaces}
use Rattle.law_print.proofs.OneText.{one_text}
use Rattle.law_print.proofs.Reading.{are_sentences, are_read}
use Rattle.call_files.specs.declared.file.File.TheVariants.{Specification}
use Rattle.call_files.specs.declared.status.Status.{Status}
use Rattle.call_files.specs.declared.status.Status.TheVariants.{Fine}
use Rattle.call_files.specs.Files.{limit_of}
use Rattle.call_files.specs.Pieces.{appended}
use Rattle.call_files.specs.FileTexts.{IsText, Holds, OfSpecification, RefusesSpecification}
use Rattle.call_files.specs.FileTexts.{SaysOfSpecification, IsReported}
use Rattle.call_files.specs.FileEnds.{End, reported, unread, EndsAt, longer, refused, failed}
use Rattle.call_files.specs.Requests.{bytes_of, print}
use Rattle.call_files.specs.Seen.{Seen}
use Rattle.est_tool.specs.Ends.{TellsCounts, CheckEnds, at_its_file, good, Ends}
use Rattle.est_tool.specs.Result.{Reports}
use Rattle.est_tool.proofs.ResultLaws.{no_watch}
use Rattle.est_tool.specs.inside.Work.{IsFine}
use Rattle.law_calls.specs.PrintedCalls.{Prints, PrintedTextsAreWritten, OneTextIsWritten}
use Rattle.law_calls.specs.PrintedCalls.{PrintingIsStable, IsReadBack, WrittenTextsAreRead}
use Rattle.law_calls.proofs.OneRequest.{request_one}
use Rattle.law_calls.proofs.Stages.{OfReport, stopped, stops, goes_on, stage_next}
use Rattle.law_calls.proofs.Stages.{AtSpecification, specifications_decided}

-- a view that tells a shape is the same as itself
self_alike : {V N : Type 0} (layer : N → View V N) {v : View V N} {t : Shape V} → Tells layer v t
    → Alike layer v v
self_alike layer a_empty = b_empty
self_alike layer (a_kept v) = b_kept v
self_alike layer (a_at p q h) = b_at p p (self_alike layer h)
self_alike layer (a_pair h k) = b_pair (self_alike layer h) (self_alike layer k)
self_alike layer (a_first h) = b_first (self_alike layer h)
self_alike layer (a_second h) = b_second (self_alike layer h)
self_alike layer (a_given h) = b_given (self_alike layer h)
self_alike layer (a_node h) = b_node (self_alike layer h)
self_alike layer a_none = b_none
self_alike layer (a_more h k) = b_more (self_alike layer h) (self_alike layer k)

-- a specification that has a printed text is the same as itself
pub same_self : (spec : Spec) (text : List ℕ) → IsPrintedText spec text → SameButPlaces spec spec
same_self spec text p = self_alike plain_layer p.plain.tells

-- the stages of a call for one file
pub check_stages : (Says : Spec → List ℕ → Type 0) (shelf : Seen) (name : List ℕ) (end : End)
    → CheckEnds Says shelf name end → OfReport (AtSpecification shelf name (IsFine Says)) end
check_stages Says shelf name _ (at_its_file (reported s r) x) =
    stops (stopped shelf Specification name RefusesSpecification (reported s r) x)
check_stages Says shelf name _ (at_its_file unread x) = tt
check_stages Says shelf name _ (good read report holds says) = goes_on read holds (refl, says)

-- WHAT IS WRITTEN

module _ (spec : Spec) (source text : List ℕ) (p : Prints spec source text) where
  -- the report of the call, which is all that is written
  printed_by : (report : List ℕ) → Reports p.words p.shelf Fine report
      → p.output.after.written ≡ appended p.output.before.written report → IsPrintedText spec text
  printed_by report is wrote =
      let ends : CheckEnds IsPrintedText p.shelf p.name (reported Fine report) =
      subst (λ request. Ends p.shelf request (reported Fine report))
      (request_one (bytes_of p.words) is.0 (print p.name) is.1 p.asked) is.2 in
      let fine : IsFine IsPrintedText spec Fine report =
      stage_next Specification p.name source RefusesSpecification OfSpecification
      specifications_decided p.shelf p.told (IsFine IsPrintedText) spec p.good Fine report
      (check_stages IsPrintedText p.shelf p.name (reported Fine report) ends) in
      let all : Some text ≡ Some report =
      sym p.wrote ∙ wrote ∙ ap (λ before. appended before report) p.empty in
      let same : report ≡ text = cc in
      subst (IsPrintedText spec) same fine.1

  is_printed : IsPrintedText spec text
  is_printed = let has = p.fine.written (no_watch p.words _ p.asked tt) in printed_by has.0 has.1 has.2

pub texts_written : PrintedTextsAreWritten
texts_written spec source text p = is_printed spec source text p

pub one_written : OneTextIsWritten
one_written a b source other text again same p q =
    one_text a b text again same (is_printed a source text p) (is_printed b other again q)

-- a file that tells these bytes holds their specification
told_is : (shelf : Seen) (name text : List ℕ) (spec : Spec) → shelf.before.told name ≡ Some text
    → Holds Specification (shelf.before.told name) (OfSpecification spec)
    → IsText Specification text (OfSpecification spec)
told_is shelf name text spec told holds =
    subst (λ t. Holds Specification t (OfSpecification spec)) told holds

pub stable : PrintingIsStable
stable spec back source text again p q =
    let is = told_is q.shelf q.name text back q.told q.good in
    let one = is_printed spec source text p in
    sym (one_text spec back text again
    (are_read spec back text is.tokens one is.list is.is.tree) one
    (is_printed back text again q))

-- HOW IT IS READ

module _ (spec : Spec) (text : List ℕ) (p : IsPrintedText spec text)
    (short : length text ≤ limit_of Specification) (shelf : Seen) (name : List ℕ)
    (told : shelf.before.told name ≡ Some text) where
  read_as : (tokens : List Token) (back : Spec) → IsTokenList text tokens
      → HasOneTree text tokens back → IsReadBack spec text
  read_as tokens back list tree = record {
    tokens = tokens;
    back = back;
    list = list;
    tree = tree;
    same = are_read spec back text tokens p list tree;
  }

  -- only a rule that is broken refuses it
  by_error : (tokens : List Token) (error : SpecificationError) (status : Status)
      (place : Option ℕ) (why : List ℕ) → IsTokenList text tokens
      → IsNoSpecification text tokens error → SaysOfSpecification error status place why
      → IsReadBack spec text
  by_error tokens (specification.BadToken at) status place why list is says =
      absurd (is.0.0.no_tree _ (are_sentences spec text tokens p list).1)
  by_error tokens (specification.LeftOut at) status place why list is says =
      absurd (is.0.0.no_tree _ (are_sentences spec text tokens p list).1)
  by_error tokens (specification.TooDeep at) status place why list is says =
      absurd (is.0.no_tree _ (are_sentences spec text tokens p list).1)
  by_error tokens (specification.BrokenRule at rule) status place why list is says =
      read_as tokens is.0 list is.1
  by_error tokens (specification.Memory error) status place why list is says = absurd says

  at_file : (end : End) → EndsAt shelf Specification name RefusesSpecification end
      → OfReport (λ s r. IsReadBack spec text) end
  at_file _ (longer s r long) =
      let l : limit_of Specification < length text =
      subst (λ t. IfSome t (λ b. limit_of Specification < length b)) told long.longer in
      absurd (omega (arith, l, short))
  at_file _ (refused s r holds) =
      let at : IsText Specification text (IsReported Specification RefusesSpecification s r) =
      subst (λ t. Holds Specification t (IsReported Specification RefusesSpecification s r)) told
      holds in
      let why = at.is in
      by_error at.tokens why.refused.0 s why.place why.why at.list why.refused.1 why.refused.2
  at_file _ (failed rose) = tt

  check_reads : (end : End) → CheckEnds TellsCounts shelf name end
      → OfReport (λ s r. IsReadBack spec text) end
  check_reads _ (at_its_file end at) = at_file end at
  check_reads _ (good back report holds says) =
      let is = told_is shelf name text back told holds in
      read_as is.tokens back is.list is.is.tree

pub written_read : WrittenTextsAreRead
written_read spec source text shelf name status report p short told ends =
    check_reads spec text (is_printed spec source text p) short shelf name told
    (reported status report) ends
