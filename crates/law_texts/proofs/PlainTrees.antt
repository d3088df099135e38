-- The specification of a sentence shows plain names.
use Rattle.std.proofs.Common.{◌≡◌, refl, ℕ, List, true, length}
use Rattle.est_lexer.specs.declared.kind.Token.{Token}
use Rattle.est_lexer.specs.TokenList.{AreSpelled}
use Rattle.est_syntax.specs.declared.specification.Spec.{Spec}
use Rattle.text_reader.specs.Shown.{node}
use Rattle.text_reader.specs.Tests.{language}
use Rattle.est_grammar.specs.Answer.{HasOneTree}
use Rattle.text_productions.specs.Productions.{Production, specification, common, own, consts}
use Rattle.text_productions.specs.Productions.{constdef, constant, types, typedef, typetext}
use Rattle.text_productions.specs.Productions.{shorttype, arraytype, recordtype, settype, vars}
use Rattle.text_productions.specs.Productions.{vardef, channel, by_part, interaction, param}
use Rattle.text_productions.specs.Productions.{header, point, dims, queue, export, modvar}
use Rattle.text_productions.specs.Productions.{stateset, body, routine, formal, block, transpart}
use Rattle.text_productions.specs.Productions.{transition, clause, access, statement, arm}
use Rattle.text_productions.specs.Productions.{sending, init, end_point, expr, simple, term}
use Rattle.text_productions.specs.Productions.{factor, selector, member, production}
use Rattle.text_productions.specs.Nodes.{View, a_specification, layer}
use Rattle.law_texts.proofs.Spells.{Spells, keeps_such, shown_spells, leaves}
use Rattle.law_texts.proofs.PlainTokens.{IsPlainKept, of_kept, keeps_plain}

-- what a tree keeps are identifiers, numbers and characters
all_kept : (p : Production) → keeps_such of_kept (production p) ≡ true
all_kept specification = refl
all_kept common = refl
all_kept own = refl
all_kept consts = refl
all_kept constdef = refl
all_kept constant = refl
all_kept types = refl
all_kept typedef = refl
all_kept typetext = refl
all_kept shorttype = refl
all_kept arraytype = refl
all_kept recordtype = refl
all_kept settype = refl
all_kept vars = refl
all_kept vardef = refl
all_kept channel = refl
all_kept by_part = refl
all_kept interaction = refl
all_kept param = refl
all_kept header = refl
all_kept point = refl
all_kept dims = refl
all_kept queue = refl
all_kept export = refl
all_kept modvar = refl
all_kept stateset = refl
all_kept body = refl
all_kept routine = refl
all_kept formal = refl
all_kept block = refl
all_kept transpart = refl
all_kept transition = refl
all_kept clause = refl
all_kept access = refl
all_kept statement = refl
all_kept arm = refl
all_kept sending = refl
all_kept init = refl
all_kept end_point = refl
all_kept expr = refl
all_kept simple = refl
all_kept term = refl
all_kept factor = refl
all_kept selector = refl
all_kept member = refl

-- each name that a view shows is plain
abbrev pub Says : View → Type 0
Says v = Spells IsPlainKept layer v

pub specification_says : (text : List ℕ) (tokens : List Token) (spec : Spec)
    → AreSpelled text tokens → HasOneTree text tokens spec → Says (node (a_specification spec))
specification_says text tokens spec are h =
    shown_spells IsPlainKept layer h.shows
    (leaves (language production text) tokens (length tokens) IsPlainKept of_kept all_kept
    (keeps_plain text tokens are) refl h.tree)
