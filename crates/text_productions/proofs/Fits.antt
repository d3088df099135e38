-- The table of first tokens says enough of each production, and one token decides each choice.
use Rattle.std.proofs.Common.{◌≡◌, ℕ, List, not, ◌||◌, true, refl}
use Rattle.text_reader.specs.Marks.{Fits, can_begin, can_go_on, can_be_empty, covered}
use Rattle.text_reader.specs.Lookahead.{OneTokenDecides}
use Rattle.text_reader.proofs.OneTree.{decided, decides}
use Rattle.text_reader.specs.Tests.{apart, implies, language}
use Rattle.text_reader.proofs.Apart.{apart-holds, near}
use Rattle.text_reader.proofs.Going.{Known}
use Rattle.text_productions.specs.Productions.{Production, specification, common, own, consts}
use Rattle.text_productions.specs.Productions.{constdef, constant, types, typedef, typetext}
use Rattle.text_productions.specs.Productions.{shorttype, arraytype, recordtype, settype, vars}
use Rattle.text_productions.specs.Productions.{vardef, channel, by_part, interaction, param}
use Rattle.text_productions.specs.Productions.{header, point, dims, queue, export, modvar}
use Rattle.text_productions.specs.Productions.{stateset, body, routine, formal, block}
use Rattle.text_productions.specs.Productions.{transpart, transition, clause, access, statement}
use Rattle.text_productions.specs.Productions.{arm, sending, init, end_point, expr, simple}
use Rattle.text_productions.specs.Productions.{term, factor, selector, member, production}
use Rattle.text_productions.specs.FirstTokens.{begins, goes_on, can_be_left_out, marks}
use Rattle.text_productions.specs.Nodes.{Node}
use Rattle.text_productions.specs.Syntax.{estelle}

begins_covered : (p : Production) → covered implies (can_begin marks (production p)) (begins p)
    ≡ true
begins_covered specification = refl
begins_covered common = refl
begins_covered own = refl
begins_covered consts = refl
begins_covered constdef = refl
begins_covered constant = refl
begins_covered types = refl
begins_covered typedef = refl
begins_covered typetext = refl
begins_covered shorttype = refl
begins_covered arraytype = refl
begins_covered recordtype = refl
begins_covered settype = refl
begins_covered vars = refl
begins_covered vardef = refl
begins_covered channel = refl
begins_covered by_part = refl
begins_covered interaction = refl
begins_covered param = refl
begins_covered header = refl
begins_covered point = refl
begins_covered dims = refl
begins_covered queue = refl
begins_covered export = refl
begins_covered modvar = refl
begins_covered stateset = refl
begins_covered body = refl
begins_covered routine = refl
begins_covered formal = refl
begins_covered block = refl
begins_covered transpart = refl
begins_covered transition = refl
begins_covered clause = refl
begins_covered access = refl
begins_covered statement = refl
begins_covered arm = refl
begins_covered sending = refl
begins_covered init = refl
begins_covered end_point = refl
begins_covered expr = refl
begins_covered simple = refl
begins_covered term = refl
begins_covered factor = refl
begins_covered selector = refl
begins_covered member = refl

goes_on_covered : (p : Production) → covered implies (can_go_on marks (production p)) (goes_on p)
    ≡ true
goes_on_covered specification = refl
goes_on_covered common = refl
goes_on_covered own = refl
goes_on_covered consts = refl
goes_on_covered constdef = refl
goes_on_covered constant = refl
goes_on_covered types = refl
goes_on_covered typedef = refl
goes_on_covered typetext = refl
goes_on_covered shorttype = refl
goes_on_covered arraytype = refl
goes_on_covered recordtype = refl
goes_on_covered settype = refl
goes_on_covered vars = refl
goes_on_covered vardef = refl
goes_on_covered channel = refl
goes_on_covered by_part = refl
goes_on_covered interaction = refl
goes_on_covered param = refl
goes_on_covered header = refl
goes_on_covered point = refl
goes_on_covered dims = refl
goes_on_covered queue = refl
goes_on_covered export = refl
goes_on_covered modvar = refl
goes_on_covered stateset = refl
goes_on_covered body = refl
goes_on_covered routine = refl
goes_on_covered formal = refl
goes_on_covered block = refl
goes_on_covered transpart = refl
goes_on_covered transition = refl
goes_on_covered clause = refl
goes_on_covered access = refl
goes_on_covered statement = refl
goes_on_covered arm = refl
goes_on_covered sending = refl
goes_on_covered init = refl
goes_on_covered end_point = refl
goes_on_covered expr = refl
goes_on_covered simple = refl
goes_on_covered term = refl
goes_on_covered factor = refl
goes_on_covered selector = refl
goes_on_covered member = refl

empty_marked : (p : Production) → (not (can_be_empty marks (production p)) || can_be_left_out p)
    ≡ true
empty_marked specification = refl
empty_marked common = refl
empty_marked own = refl
empty_marked consts = refl
empty_marked constdef = refl
empty_marked constant = refl
empty_marked types = refl
empty_marked typedef = refl
empty_marked typetext = refl
empty_marked shorttype = refl
empty_marked arraytype = refl
empty_marked recordtype = refl
empty_marked settype = refl
empty_marked vars = refl
empty_marked vardef = refl
empty_marked channel = refl
empty_marked by_part = refl
empty_marked interaction = refl
empty_marked param = refl
empty_marked header = refl
empty_marked point = refl
empty_marked dims = refl
empty_marked queue = refl
empty_marked export = refl
empty_marked modvar = refl
empty_marked stateset = refl
empty_marked body = refl
empty_marked routine = refl
empty_marked formal = refl
empty_marked block = refl
empty_marked transpart = refl
empty_marked transition = refl
empty_marked clause = refl
empty_marked access = refl
empty_marked statement = refl
empty_marked arm = refl
empty_marked sending = refl
empty_marked init = refl
empty_marked end_point = refl
empty_marked expr = refl
empty_marked simple = refl
empty_marked term = refl
empty_marked factor = refl
empty_marked selector = refl
empty_marked member = refl

each_decided : (p : Production) → decided apart marks (production p) ≡ true
each_decided specification = refl
each_decided common = refl
each_decided own = refl
each_decided consts = refl
each_decided constdef = refl
each_decided constant = refl
each_decided types = refl
each_decided typedef = refl
each_decided typetext = refl
each_decided shorttype = refl
each_decided arraytype = refl
each_decided recordtype = refl
each_decided settype = refl
each_decided vars = refl
each_decided vardef = refl
each_decided channel = refl
each_decided by_part = refl
each_decided interaction = refl
each_decided param = refl
each_decided header = refl
each_decided point = refl
each_decided dims = refl
each_decided queue = refl
each_decided export = refl
each_decided modvar = refl
each_decided stateset = refl
each_decided body = refl
each_decided routine = refl
each_decided formal = refl
each_decided block = refl
each_decided transpart = refl
each_decided transition = refl
each_decided clause = refl
each_decided access = refl
each_decided statement = refl
each_decided arm = refl
each_decided sending = refl
each_decided init = refl
each_decided end_point = refl
each_decided expr = refl
each_decided simple = refl
each_decided term = refl
each_decided factor = refl
each_decided selector = refl
each_decided member = refl

pub fits : (text : List ℕ) → Fits (language production text) marks
fits text = record {
  starts = λ p. near production text (can_begin marks (production p)) (begins p) (begins_covered p);
  goes_on = λ p. near production text (can_go_on marks (production p)) (goes_on p)
      (goes_on_covered p);
  is_empty = empty_marked;
}

-- the syntax of specifications, with what is known of its productions
abbrev pub K : Known Production Node
K = record { syntax = estelle; fits = fits }

-- one token decides each choice of a production
pub each_token : (text : List ℕ) (p : Production)
    → OneTokenDecides (language production text) marks (production p)
each_token text p = decides (language production text) marks apart (λ a b x h q r. apart-holds text
    a b x h q r) (production p) (each_decided p)
