-- Printed texts are read as what was printed.
use Rattle.std.proofs.Common.{◌≡◌, true, List, ℕ, refl, subst}
use Rattle.est_lexer.proofs.Unique.{tokens_unique}
use Rattle.text_reader.specs.Grammar.{rule}
use Rattle.text_reader.specs.Shown.{node}
use Rattle.est_syntax.specs.declared.specification.Spec.{Spec}
use Rattle.text_reader.specs.Going.{Shape}
use Rattle.text_productions.specs.Productions as grammar
use Rattle.text_productions.specs.Productions.{Production, production, specification}
use Rattle.text_productions.specs.Nodes.{a_specification}
use Rattle.est_grammar.specs.Answer.{HasTree, levels}
use Rattle.text_printer.specs.Aside.{Tells}
use Rattle.text_printer.specs.PlainNodes.{plain_layer}
use Rattle.est_print.specs.PrintedText.{IsPrintedText}
use Rattle.law_print.specs.PrintLaws.{PrintedTextsAreSentences, PrintedTextsAreRead}
use Rattle.law_print.proofs.Widening.{can_skip, widen}
use Rattle.law_print.proofs.Twins.{told_and_shown}

all_skip : (p : Production) → can_skip (production p) ≡ true
all_skip grammar.specification = refl
all_skip grammar.common = refl
all_skip grammar.own = refl
all_skip grammar.consts = refl
all_skip grammar.constdef = refl
all_skip grammar.constant = refl
all_skip grammar.types = refl
all_skip grammar.typedef = refl
all_skip grammar.typetext = refl
all_skip grammar.shorttype = refl
all_skip grammar.arraytype = refl
all_skip grammar.recordtype = refl
all_skip grammar.settype = refl
all_skip grammar.vars = refl
all_skip grammar.vardef = refl
all_skip grammar.channel = refl
all_skip grammar.by_part = refl
all_skip grammar.interaction = refl
all_skip grammar.param = refl
all_skip grammar.header = refl
all_skip grammar.point = refl
all_skip grammar.dims = refl
all_skip grammar.queue = refl
all_skip grammar.export = refl
all_skip grammar.modvar = refl
all_skip grammar.stateset = refl
all_skip grammar.body = refl
all_skip grammar.routine = refl
all_skip grammar.formal = refl
all_skip grammar.block = refl
all_skip grammar.transpart = refl
all_skip grammar.transition = refl
all_skip grammar.clause = refl
all_skip grammar.access = refl
all_skip grammar.statement = refl
all_skip grammar.arm = refl
all_skip grammar.sending = refl
all_skip grammar.init = refl
all_skip grammar.end_point = refl
all_skip grammar.expr = refl
all_skip grammar.simple = refl
all_skip grammar.term = refl
all_skip grammar.factor = refl
all_skip grammar.selector = refl
all_skip grammar.member = refl

-- the tokens of a printed text have the same tree by the whole grammar
whole_tree : (spec : Spec) (text : List ℕ) (p : IsPrintedText spec text)
    → HasTree text p.tokens p.plain.shape
whole_tree spec text p =
    widen production all_skip text p.tokens _ (rule specification) refl levels 0 _ p.plain.shape
    p.plain.tree

pub are_sentences : PrintedTextsAreSentences
are_sentences spec text tokens p l =
    let same : p.tokens ≡ tokens = tokens_unique text 0 p.tokens tokens p.list l in
    (p.plain.shape, subst (λ ts. HasTree text ts p.plain.shape) same (whole_tree spec text p))

pub are_read : PrintedTextsAreRead
are_read spec back text tokens p l h =
    let same : p.tokens ≡ tokens = tokens_unique text 0 p.tokens tokens p.list l in
    let tree = subst (λ ts. HasTree text ts p.plain.shape) same (whole_tree spec text p) in
    let one : p.plain.shape ≡ h.shape = h.only_tree p.plain.shape tree in
    told_and_shown spec back h.shape
    (subst (λ (t : Shape). Tells plain_layer (node (a_specification spec)) t) one p.plain.tells)
    h.shows
