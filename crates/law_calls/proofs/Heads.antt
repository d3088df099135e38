-- A report of a search with an explanation is the text of that explanation.
use Rattle.std.specs.Fmt.{decimal}
use Rattle.std.proofs.Common.{◌≡◌, ◌≤◌, ◌<◌, ◌^◌, ◌∙◌, ℕ, Bool, true, false, List, [], ◌∷◌, ◌++◌}
use Rattle.std.proofs.Common.{length, length-append, append_assoc, codes, arith, refl, sym, ap}
use Rattle.std.proofs.Common.{subst, if◌then◌else◌, nat_le, drop, All, Option, Some, None, IfSome}
use Rattle.std.proofs.lemmas.List.{append-nil, drop_at}
use Rattle.std.proofs.lemmas.List.Elements.{All-nil, All-cons, All-append}
use Rattle.est_lexer.specs.declared.kind.Token.{Token}
use Rattle.est_lexer.specs.TokenList.{IsTokenList}
use Rattle.est_lexer.specs.Between.{IsBetween}
use Rattle.est_meaning.specs.declared.firing.Firing.{Firing}
use Rattle.mean_blocks.specs.declared.fault.BlockFault.{BlockFault}
use Rattle.mean_blocks.specs.declared.fault.BlockFault.TheVariants.{Range, Divide, Undefined}
use Rattle.mean_blocks.specs.declared.fault.BlockFault.TheVariants.{NoCase, NoModule, LinkTaken}
use Rattle.mean_blocks.specs.declared.fault.BlockFault.TheVariants.{SelfLink, TooMany}
use Rattle.est_search.specs.declared.verdict.Faulted.{Faulted}
use Rattle.est_explanation.specs.declared.explanation.Explanation.{Explanation}
use Rattle.est_explanation.specs.CanonicalExplanation.{canonical, IsWritable, IsWritableFiring}
use Rattle.est_explanation.specs.ExplanationGrammar.{most_ordinal}
use Rattle.est_explanation.specs.CommentLines.{ends_no_comment, comment_line, comment_lines}
use Rattle.est_explanation.specs.ExplanationText.{IsOnlyExplanationText}
use Rattle.est_explanation.proofs.Comments.{comment_lines_are_comments, clear_append, clear_decimal}
use Rattle.est_explanation.proofs.CanonicalWords.{words_of, words_text, words_apart}
use Rattle.est_explanation.proofs.ReadBack.{read_back}
use Rattle.est_explanation.proofs.Words.{tokens_at, text_of, are_tokens, apart_whole}
use Rattle.call_files.specs.ReportLines.{line_feed}
use Rattle.call_files.specs.ReadableReports.{IsReadableFault}
use Rattle.call_files.specs.Reports.{fault_text}
use Rattle.call_files.specs.SearchReports.{accepted_line, refused_line, refused_at_line}
use Rattle.call_files.specs.SearchReports.{refused_end_line, faulted_line, fault_line}
use Rattle.call_files.specs.SearchReports.{firing_text, over_action_line}
use Rattle.call_files.specs.PortReports.{refused_ports_line}

-- WHAT THE HEADS SAY

accepted_said : ℕ → List ℕ
accepted_said events = codes "accepted: " ++ decimal events ++ codes " events"

refused_at_said : ℕ → ℕ → List ℕ
refused_at_said at events =
    codes "refused at event " ++ (decimal at ++ (codes " of " ++ decimal events))

refused_end_said : ℕ → List ℕ
refused_end_said events =
    codes "refused at the end after " ++ decimal events ++ codes " events"

refused_ports_said : ℕ → ℕ → List ℕ
refused_ports_said most events =
    codes "refused: " ++ (decimal most ++ (codes " of " ++ (decimal events ++ codes " events")))

fault_said : BlockFault → Firing → List ℕ
fault_said fault firing =
    codes "fault " ++ (fault_text fault ++ (codes " in firing " ++ firing_text firing))

block_said : ℕ → Firing → List ℕ
block_said limit firing =
    codes "over budget: firing " ++ (firing_text firing ++ (codes " passed the limit "
    ++ (decimal limit ++ codes " after these moves")))

guard_said : ℕ → List ℕ
guard_said limit =
    codes "over budget: a guard passed the limit " ++ (decimal limit ++ codes " after these moves")

-- what ends no comment
abbrev IsClear : List ℕ → Type 0
IsClear said = ends_no_comment said ≡ true

-- a head of a report: lines that are comments
pub record IsHead (lines : List ℕ) : Type 0 where
  pub said : List (List ℕ)
  pub clear : All (λ s. ends_no_comment s ≡ true) said
  pub lines_are : lines ≡ comment_lines said

one_line : (said line : List ℕ) → IsClear said → line ≡ comment_line said → IsHead line
one_line said line clear is = record {
  said = said ∷ [];
  clear = All-cons IsClear said [] clear (All-nil IsClear);
  lines_are = is ∙ sym (append-nil (comment_line said));
}

pub accepted_head : (events : ℕ) → events < 2 ^ 64 → IsHead (accepted_line events)
unfolding accepted_said
accepted_head events small = one_line (accepted_said events) (accepted_line events)
    (clear_append (codes "accepted: ") (decimal events ++ codes " events") refl
    (clear_append (decimal events) (codes " events") (clear_decimal events small) refl))
    (simp append_assoc)

refused_at_head : (at events : ℕ) → at < 2 ^ 64 → events < 2 ^ 64
    → IsHead (refused_at_line at events)
unfolding refused_at_said
refused_at_head at events little small =
    one_line (refused_at_said at events) (refused_at_line at events)
    (clear_append (codes "refused at event ") (decimal at ++ (codes " of " ++ decimal events)) refl
    (clear_append (decimal at) (codes " of " ++ decimal events) (clear_decimal at little)
    (clear_append (codes " of ") (decimal events) refl (clear_decimal events small))))
    (simp append_assoc)

refused_end_head : (events : ℕ) → events < 2 ^ 64 → IsHead (refused_end_line events)
unfolding refused_end_said
refused_end_head events small = one_line (refused_end_said events) (refused_end_line events)
    (clear_append (codes "refused at the end after ") (decimal events ++ codes " events") refl
    (clear_append (decimal events) (codes " events") (clear_decimal events small) refl))
    (simp append_assoc)

refused_head : (at events : ℕ) → at < 2 ^ 64 → events < 2 ^ 64
    → IsHead (refused_line at events)
refused_head at events little small = by (nat_le at events)
  where
    by : (b : Bool) → IsHead (if b then refused_at_line at events else refused_end_line events)
    by true = refused_at_head at events little small
    by false = refused_end_head events small

pub refused_ports_head : (most events : ℕ) → most < 2 ^ 64 → events < 2 ^ 64
    → IsHead (refused_ports_line most events)
unfolding refused_ports_said
refused_ports_head most events little small =
    one_line (refused_ports_said most events) (refused_ports_line most events)
    (clear_append (codes "refused: ")
    (decimal most ++ (codes " of " ++ (decimal events ++ codes " events"))) refl
    (clear_append (decimal most) (codes " of " ++ (decimal events ++ codes " events"))
    (clear_decimal most little)
    (clear_append (codes " of ") (decimal events ++ codes " events") refl
    (clear_append (decimal events) (codes " events") (clear_decimal events small) refl))))
    (simp append_assoc)

fault_clear : (fault : BlockFault) → IsClear (fault_text fault)
fault_clear Range = refl
fault_clear Divide = refl
fault_clear Undefined = refl
fault_clear NoCase = refl
fault_clear NoModule = refl
fault_clear LinkTaken = refl
fault_clear SelfLink = refl
fault_clear TooMany = refl

-- an ordinal that an explanation may have
ordinal_clear : (n : ℕ) → n ≤ most_ordinal → IsClear (decimal n)
ordinal_clear n h = clear_decimal n (omega (arith, h))

firing_clear : (firing : Firing) → IsWritableFiring firing → IsClear (firing_text firing)
firing_clear firing w =
    clear_append (decimal firing.instance ++ codes " " ++ decimal firing.transition ++ codes " ")
    (decimal firing.choice)
    (clear_append (decimal firing.instance ++ codes " " ++ decimal firing.transition) (codes " ")
    (clear_append (decimal firing.instance ++ codes " ") (decimal firing.transition)
    (clear_append (decimal firing.instance) (codes " ") (ordinal_clear firing.instance w.instance)
    refl) (ordinal_clear firing.transition w.transition)) refl)
    (ordinal_clear firing.choice w.choice)

-- how the line of a fault ends
abbrev fault_end : Firing → List ℕ
fault_end firing = codes " in firing " ++ firing_text firing ++ codes " }" ++ line_feed

line_is : (why : List ℕ) (firing : Firing)
    → fault_line why firing ≡ codes "{ fault " ++ why ++ fault_end firing
line_is why firing =
    let begun = codes "{ fault " ++ why in
    let said = codes " in firing " in
    let numbers = firing_text firing in
    let closed = codes " }" in
    ap (λ (x : List ℕ). x ++ closed ++ line_feed) (append_assoc begun said numbers)
    ∙ ap (λ (x : List ℕ). x ++ line_feed) (append_assoc begun (said ++ numbers) closed)
    ∙ append_assoc begun (said ++ numbers ++ closed) line_feed

fault_head : (fault : BlockFault) (firing : Firing) → IsWritableFiring firing
    → IsHead (fault_line (fault_text fault) firing)
unfolding fault_said
fault_head fault firing w =
    one_line (fault_said fault firing) (fault_line (fault_text fault) firing)
    (clear_append (codes "fault ") (fault_text fault ++ (codes " in firing " ++ firing_text firing))
    refl (clear_append (fault_text fault) (codes " in firing " ++ firing_text firing)
    (fault_clear fault) (clear_append (codes " in firing ") (firing_text firing) refl
    (firing_clear firing w))))
    (let e : codes "{ fault " ++ fault_text fault ++ fault_end firing
    ≡ comment_line (fault_said fault firing) = simp append_assoc in
    line_is (fault_text fault) firing ∙ e)

-- no lines at all
pub no_head : IsHead []
no_head = record { said = []; clear = All-nil IsClear; lines_are = refl }

faulted_head : (faulted : Option Faulted) → IsReadableFault faulted
    → IsHead (faulted_line faulted)
faulted_head None w = no_head
faulted_head (Some f) w = fault_head f.fault f.firing w

block_head : (limit : ℕ) (firing : Firing) → limit < 2 ^ 64 → IsWritableFiring firing
    → IsHead (over_action_line limit (Some firing))
unfolding block_said
block_head limit firing small w =
    let tail = codes " passed the limit " ++ (decimal limit ++ codes " after these moves") in
    one_line (block_said limit firing) (over_action_line limit (Some firing))
    (clear_append (codes "over budget: firing ") (firing_text firing ++ tail) refl
    (clear_append (firing_text firing) tail (firing_clear firing w)
    (clear_append (codes " passed the limit ") (decimal limit ++ codes " after these moves") refl
    (clear_append (decimal limit) (codes " after these moves") (clear_decimal limit small) refl))))
    (simp append_assoc)

guard_head : (limit : ℕ) → limit < 2 ^ 64 → IsHead (over_action_line limit None)
unfolding guard_said
guard_head limit small =
    one_line (guard_said limit) (over_action_line limit None)
    (clear_append (codes "over budget: a guard passed the limit ")
    (decimal limit ++ codes " after these moves") refl
    (clear_append (decimal limit) (codes " after these moves") (clear_decimal limit small) refl))
    (simp append_assoc)

pub over_head : (limit : ℕ) (firing : Option Firing) → limit < 2 ^ 64
    → IfSome firing IsWritableFiring → IsHead (over_action_line limit firing)
over_head limit None small w = guard_head limit small
over_head limit (Some firing) small w = block_head limit firing small w

-- lines after lines
lines_append : (xs ys : List (List ℕ)) → comment_lines (xs ++ ys)
    ≡ comment_lines xs ++ comment_lines ys
lines_append [] ys = refl
lines_append (x ∷ xs) ys = ap (λ r. comment_line x ++ r) (lines_append xs ys)
    ∙ sym (append_assoc (comment_line x) (comment_lines xs) (comment_lines ys))

both_heads : (a b : List ℕ) → IsHead a → IsHead b → IsHead (a ++ b)
both_heads a b x y = record {
  said = x.said ++ y.said;
  clear = All-append IsClear x.said y.said x.clear y.clear;
  lines_are = ap (λ l. l ++ b) x.lines_are ∙ ap (λ l. comment_lines x.said ++ l) y.lines_are
      ∙ sym (lines_append x.said y.said);
}

-- the lines of a trace that is refused
pub refused_heads : (at events : ℕ) (faulted : Option Faulted) → at < 2 ^ 64 → events < 2 ^ 64
    → IsReadableFault faulted → IsHead (refused_line at events ++ faulted_line faulted)
refused_heads at events faulted little small w =
    both_heads (refused_line at events) (faulted_line faulted) (refused_head at events little small)
    (faulted_head faulted w)

-- such lines stand between the front of a text and what comes after them
pub head_between : (lines text : List ℕ) → IsHead lines
    → IsBetween (lines ++ text) 0 (length lines)
head_between lines text head =
    subst (λ l. IsBetween (l ++ text) 0 (length l)) (sym head.lines_are)
    (comment_lines_are_comments head.said text head.clear)

-- THE TEXT

-- the text is one of the explanation, and of no other
pub record IsTextOf (x : Explanation) (text : List ℕ) : Type 0 where
  pub tokens : List Token
  pub list : IsTokenList text tokens
  pub only : IsOnlyExplanationText text tokens x

-- the canonical text after a comment
after_comment : (front : List ℕ) (x : Explanation) → IsWritable x
    → IsBetween (front ++ canonical x) 0 (length front) → IsTextOf x (front ++ canonical x)
after_comment front x w between =
    let text = front ++ canonical x in
    let e : drop (length front) text ≡ text_of (words_of x) =
    drop_at front (canonical x) (length front) refl ∙ words_text x in
    let inside : length front ≤ length text = omega (arith, length-append front (canonical x)) in
    let list = are_tokens text 0 (length front) (words_of x) between inside e
    (apart_whole (words_of x) (words_apart x w)) in
    record {
      tokens = tokens_at (length front) (words_of x);
      list = list;
      only = read_back front x (tokens_at (length front) (words_of x)) w between list;
    }

pub after_head : (lines : List ℕ) (x : Explanation) → IsHead lines → IsWritable x
    → IsTextOf x (lines ++ canonical x)
after_head lines x head w =
    after_comment lines x w (head_between lines (canonical x) head)
