-- What words ask for, by the words at their places.
use Rattle.std.proofs.Common.{◌≡◌, ◌≢◌, ℕ, ◌-◌, ◌<◌, ◌≤◌, Bool, true, false, ◌==◌}
use Rattle.std.proofs.Common.{Option, Some, None, MatchOption, List, [], ◌∷◌, length, get_or}
use Rattle.std.proofs.Common.{take, drop, codes, String}
use Rattle.std.proofs.Common.{string_bytes, string_len, sym, refl, ap, subst, arith, ◌∙◌}
use Rattle.std.proofs.lemmas.Bool.Decides.{nat_tests}
use Rattle.std.proofs.lemmas.List.{nil_from_length, take_all}
use Rattle.std.specs.Global.{Global}
use Rattle.est_meaning.specs.declared.run.Limits.{Limits}
use Rattle.call_files.specs.declared.words.Command.{Command}
use Rattle.call_files.specs.declared.words.Command.TheVariants.{Check, Print, Explain, Replay}
use Rattle.call_files.specs.declared.words.Command.TheVariants.{SelfRun, Ports, Watch}
use Rattle.call_files.specs.Requests.{Request, check, print, explain, ports, Asks, AreLimits}
use Rattle.call_files.specs.Requests.{AreRecipe, AreSearchLimits, AsksNothing, AsksOfFile}
use Rattle.call_files.specs.Requests.{AsksToReplay, AsksToSearch, AsksToSelfRun, AsksToWatch}
use Rattle.call_files.specs.Requests.{IsCommand}
use Rattle.call_files.specs.Requests.{to_check, to_print, to_explain, to_replay, to_self_run}
use Rattle.call_files.specs.Requests.{to_ports, to_watch, bytes_of}
use Rattle.call_files.specs.Requests.{usual, told, left_out, given}
use Rattle.call_files.specs.Requests.{IsNumber, usual_budget, most_silent, most_budget}
use Rattle.call_files.specs.Requests.{most_statements}
use Rattle.call_files.specs.inside.CommandWords.{AreOfSearch, BeginWith, BeginForFile}

-- a word that is not empty, by its length
pub named : (word : String Global) (empty : Bool) → empty ≡ (string_len word == 0) → empty ≡ false
    → string_bytes word ≢ []
named word empty is not = λ nil. let long : length (string_bytes word) ≡ 0 = ap length nil in absurd
    (grind (arith, nat_tests, word.bytes.ok.0))

-- a word that is empty, by its length
pub unnamed : (word : String Global) (empty : Bool) → empty ≡ (string_len word == 0) → empty ≡ true
    → string_bytes word ≡ []
unnamed word empty is holds = nil_from_length _ (grind (arith, nat_tests, word.bytes.ok.0))

-- words that begin with `check` do not begin with `print`
pub check_or_print : (word : List ℕ) → word ≡ codes "check" → word ≡ codes "print" → ⊥
check_or_print word one other =
    let first : 99 ≡ 112 = ap (λ w. get_or w 0 0) (sym one ∙ other) in
    absurd (omega (arith, first))

-- words that begin with `check` do not begin with `ports`
pub check_or_ports : (word : List ℕ) → word ≡ codes "check" → word ≡ codes "ports" → ⊥
check_or_ports word one other =
    let first : 99 ≡ 112 = ap (λ w. get_or w 0 0) (sym one ∙ other) in
    absurd (omega (arith, first))

-- words that begin with `print` do not begin with `ports`
pub print_or_ports : (word : List ℕ) → word ≡ codes "print" → word ≡ codes "ports" → ⊥
print_or_ports word one other =
    let second : 114 ≡ 111 = ap (λ w. get_or w 1 0) (sym one ∙ other) in
    absurd (omega (arith, second))

-- words that begin with `check` do not begin with `watch`
pub check_or_watch : (word : List ℕ) → word ≡ codes "check" → word ≡ codes "watch" → ⊥
check_or_watch word one other =
    let first : 99 ≡ 119 = ap (λ w. get_or w 0 0) (sym one ∙ other) in
    absurd (omega (arith, first))

-- words that begin with `print` do not begin with `watch`
pub print_or_watch : (word : List ℕ) → word ≡ codes "print" → word ≡ codes "watch" → ⊥
print_or_watch word one other =
    let first : 112 ≡ 119 = ap (λ w. get_or w 0 0) (sym one ∙ other) in
    absurd (omega (arith, first))

-- words that begin with `ports` do not begin with `watch`
pub ports_or_watch : (word : List ℕ) → word ≡ codes "ports" → word ≡ codes "watch" → ⊥
ports_or_watch word one other =
    let first : 112 ≡ 119 = ap (λ w. get_or w 0 0) (sym one ∙ other) in
    absurd (omega (arith, first))

-- words that begin with `explain` do not begin with `selfrun`
pub explain_or_self_run : (word : List ℕ) → word ≡ codes "explain" → word ≡ codes "selfrun" → ⊥
explain_or_self_run word one other =
    let first : 101 ≡ 115 = ap (λ w. get_or w 0 0) (sym one ∙ other) in
    absurd (omega (arith, first))

-- two words are those at their places
pub two_words : {A : Type 0} (words : List A) (a b : A) → 2 ≤ length words → length words < 3
    → a ≡ get_or words 0 a → b ≡ get_or words 1 b → words ≡ a ∷ b ∷ []
two_words [] a b long short at_a at_b = absurd (omega arith)
two_words (x ∷ []) a b long short at_a at_b = absurd (omega arith)
two_words (x ∷ y ∷ []) a b long short at_a at_b = cc
two_words (x ∷ y ∷ z ∷ words) a b long short at_a at_b = absurd (omega arith)

-- three words are those at their places
pub three_words : {A : Type 0} (words : List A) (a b c : A) → 3 ≤ length words → length words < 4
    → a ≡ get_or words 0 a → b ≡ get_or words 1 b → c ≡ get_or words 2 c
    → words ≡ a ∷ b ∷ c ∷ []
three_words [] a b c long short at_a at_b at_c = absurd (omega arith)
three_words (x ∷ []) a b c long short at_a at_b at_c = absurd (omega arith)
three_words (x ∷ y ∷ []) a b c long short at_a at_b at_c = absurd (omega arith)
three_words (x ∷ y ∷ z ∷ []) a b c long short at_a at_b at_c = cc
three_words (x ∷ y ∷ z ∷ w ∷ words) a b c long short at_a at_b at_c = absurd (omega arith)

-- ONE FILE

-- words that begin so ask for this of the file that the second one names
module _ (word : List ℕ) (request : List ℕ → Request)
    (asks : (words : List (List ℕ)) (name : List ℕ) → words ≡ word ∷ name ∷ [] → name ≢ []
    → Asks words (request name)) where
  asks_of_file : (words : List (String Global)) (specification : String Global)
      → BeginWith word words → 2 ≤ length words → length words < 3
      → specification ≡ get_or words 1 specification → string_bytes specification ≢ []
      → AsksOfFile request words
  asks_of_file [] specification begin long short at named = absurd begin
  asks_of_file (a ∷ []) specification begin long short at named = absurd (omega arith)
  asks_of_file (a ∷ b ∷ []) specification begin long short at named =
      asks (bytes_of (a ∷ b ∷ [])) (string_bytes b) (ap (λ c. c ∷ string_bytes b ∷ []) begin)
      (subst (λ w. string_bytes w ≢ []) at named)
  asks_of_file (a ∷ b ∷ c ∷ words) specification begin long short at named = absurd (omega arith)

-- words that begin so ask for the command
pub is_for_file : (command : Command) (words : List (String Global))
    (specification : String Global)
    → BeginForFile command words → 2 ≤ length words → length words < 3
    → specification ≡ get_or words 1 specification → string_bytes specification ≢ []
    → IsCommand words command
is_for_file Check words specification begin long short at named =
    asks_of_file (codes "check") check (λ ws name are is. to_check name are is) words
    specification begin long short at named
is_for_file Print words specification begin long short at named =
    asks_of_file (codes "print") print (λ ws name are is. to_print name are is) words
    specification begin long short at named
is_for_file (Explain limits) words specification begin long short at named = absurd begin
is_for_file (Replay limits) words specification begin long short at named = absurd begin
is_for_file (SelfRun seed count) words specification begin long short at named = absurd begin
is_for_file (Ports limits) words specification begin long short at named = absurd begin
is_for_file (Watch limits) words specification begin long short at named = absurd begin

-- words of such a command are two, and the second one is a name
pub record IsForFileOf (words : List (String Global)) : Type 0 where
  pub two : length words ≡ 2
  pub named : (word : String Global) → word ≡ get_or words 1 word → string_bytes word ≢ []

two_of : (words : List (String Global)) (first name : List ℕ) → bytes_of words ≡ first ∷ name ∷ []
    → name ≢ [] → IsForFileOf words
two_of [] first name are named = absurd cc
two_of (a ∷ []) first name are named = absurd cc
two_of (a ∷ b ∷ []) first name are named = record {
  two = refl;
  named = λ word at. subst (λ w. w ≢ []) (let e : name ≡ string_bytes word = cc in e) named;
}
two_of (a ∷ b ∷ c ∷ words) first name are named = absurd cc

-- words that begin with one word do not ask for what begins with another
other_word : (word other : List ℕ) (words : List (String Global)) (rest : List (List ℕ))
    → (word ≡ other → ⊥) → BeginWith word words → bytes_of words ≡ other ∷ rest → ⊥
other_word word other [] rest apart begin are = absurd begin
other_word word other (a ∷ words) rest apart begin are =
    apart (sym begin ∙ ap (λ ws. get_or ws 0 []) are)

-- what words ask for that begin with a word that is for one file alone
of_file : (word : List ℕ) (words : List (String Global)) → (word ≡ codes "explain" → ⊥)
    → (word ≡ codes "replay" → ⊥) → (word ≡ codes "selfrun" → ⊥) → (word ≡ codes "ports" → ⊥)
    → (word ≡ codes "watch" → ⊥) → BeginWith word words
    → (request : Request) → Asks (bytes_of words) request → IsForFileOf words
of_file word words no_search no_replay no_run no_ports no_watch begin _ (to_check name are named) =
    two_of words (codes "check") name are named
of_file word words no_search no_replay no_run no_ports no_watch begin _ (to_print name are named) =
    two_of words (codes "print") name are named
of_file word words no_search no_replay no_run no_ports no_watch begin _
    (to_explain s t limits n b m are s_named t_named is) =
    absurd (other_word word (codes "explain") words _ no_search begin are)
of_file word words no_search no_replay no_run no_ports no_watch begin _
    (to_replay s t e limits n m are s_named t_named e_named is) =
    absurd (other_word word (codes "replay") words _ no_replay begin are)
of_file word words no_search no_replay no_run no_ports no_watch begin _ (to_self_run name x y n m are named is) =
    absurd (other_word word (codes "selfrun") words _ no_run begin are)
of_file word words no_search no_replay no_run no_ports no_watch begin _
    (to_ports s t limits n b m are s_named t_named is) =
    absurd (other_word word (codes "ports") words _ no_ports begin are)
of_file word words no_search no_replay no_run no_ports no_watch begin _
    (to_watch name limits n b m are named is) =
    absurd (other_word word (codes "watch") words _ no_watch begin are)

pub is_for_file_of : (command : Command) (words : List (String Global)) → BeginForFile command words
    → (request : Request) → Asks (bytes_of words) request → IsForFileOf words
is_for_file_of Check words begin request asked =
    of_file (codes "check") words (λ e. cc) (λ e. cc) (λ e. cc) (λ e. check_or_ports _ refl e)
    (λ e. check_or_watch _ refl e) begin
    request asked
is_for_file_of Print words begin request asked =
    of_file (codes "print") words (λ e. cc) (λ e. cc) (λ e. cc) (λ e. print_or_ports _ refl e)
    (λ e. print_or_watch _ refl e) begin
    request asked
is_for_file_of (Explain limits) words begin request asked = absurd begin
is_for_file_of (Replay limits) words begin request asked = absurd begin
is_for_file_of (SelfRun seed count) words begin request asked = absurd begin
is_for_file_of (Ports limits) words begin request asked = absurd begin
is_for_file_of (Watch limits) words begin request asked = absurd begin

-- SEARCH

-- the words of a search are these: two files, and limits
pub of_search : (words : List (String Global)) (specification searched : String Global)
    (silent budget statements : ℕ)
    → 3 ≤ length words → specification ≡ get_or words 1 specification
    → searched ≡ get_or words 2 searched
    → string_bytes specification ≢ [] → string_bytes searched ≢ []
    → AreSearchLimits (bytes_of (take (length words - 3) (drop 3 words)))
    silent budget statements
    → AreOfSearch words silent budget statements
of_search [] s t n b m long at_s at_t s_named t_named are = absurd (omega arith)
of_search (a ∷ []) s t n b m long at_s at_t s_named t_named are = absurd (omega arith)
of_search (a ∷ x ∷ []) s t n b m long at_s at_t s_named t_named are = absurd (omega arith)
of_search (a ∷ x ∷ y ∷ rest) s t n b m long at_s at_t s_named t_named are =
    let all : take (length (a ∷ x ∷ y ∷ rest) - 3) rest ≡ rest = take_all _ rest (omega arith) in (
      subst (λ w. string_bytes w ≢ []) at_s s_named,
      subst (λ w. string_bytes w ≢ []) at_t t_named,
      subst (λ ws. AreSearchLimits (bytes_of ws) n b m) all are,
    )

-- the words of a search are three or more: the second and the third one are names, and those after
-- them are its limits
pub record IsOfSearch (words : List (String Global)) (silent budget statements : ℕ) : Type 0 where
  pub three : 3 ≤ length words
  pub named : (word : String Global) → word ≡ get_or words 1 word → string_bytes word ≢ []
  pub searched : (word : String Global) → word ≡ get_or words 2 word → string_bytes word ≢ []
  pub limits : AreSearchLimits (bytes_of (take (length words - 3) (drop 3 words)))
      silent budget statements

pub is_of_search : (words : List (String Global)) (silent budget statements : ℕ)
    → AreOfSearch words silent budget statements → IsOfSearch words silent budget statements
is_of_search [] n b m are = absurd are
is_of_search (a ∷ []) n b m are = absurd are
is_of_search (a ∷ x ∷ []) n b m are = absurd are
is_of_search (a ∷ x ∷ y ∷ rest) n b m are =
    let all : take (length (a ∷ x ∷ y ∷ rest) - 3) rest ≡ rest = take_all _ rest (omega arith) in
    record {
      three = omega arith;
      named = λ word at. subst (λ w. string_bytes w ≢ []) (sym at) are.0;
      searched = λ word at. subst (λ w. string_bytes w ≢ []) (sym at) are.1;
      limits = subst (λ ws. AreSearchLimits (bytes_of ws) n b m) (sym all) are.2;
    }

-- what the limits are, or that they are none
abbrev pub FindsLimits : (ℕ → ℕ → ℕ → Type 0) → Option Limits → Type 0
FindsLimits Are r = MatchOption r ((silent budget statements : ℕ) → Are silent budget statements → ⊥)
    (λ limits. Are limits.silent limits.budget limits.statements)

-- the words of a search are read where its limits are
pub search_read : (words : List (String Global)) (specification searched : String Global)
    (r : Option Limits) → 3 ≤ length words → specification ≡ get_or words 1 specification
    → searched ≡ get_or words 2 searched
    → string_bytes specification ≢ [] → string_bytes searched ≢ []
    → FindsLimits (AreSearchLimits (bytes_of (take (length words - 3) (drop 3 words)))) r
    → FindsLimits (AreOfSearch words) r
search_read words s t None long at_s at_t s_named t_named none = λ n b m are.
    none n b m (is_of_search words n b m are).limits
search_read words s t (Some limits) long at_s at_t s_named t_named are =
    of_search words s t _ _ _ long at_s at_t s_named t_named are

-- words that begin so, with two files and limits after, ask for a search
module _ (word : List ℕ) (request : List ℕ → List ℕ → ℕ → ℕ → ℕ → Request)
    (asks : (words : List (List ℕ)) (s t : List ℕ) (limits : List (List ℕ)) (n b m : ℕ)
    → words ≡ word ∷ s ∷ t ∷ limits → s ≢ [] → t ≢ [] → AreSearchLimits limits n b m
    → Asks words (request s t n b m)) where
  asks_to_search : (words : List (String Global)) (limits : Limits) → BeginWith word words
      → AreOfSearch words limits.silent limits.budget limits.statements
      → AsksToSearch request limits words
  asks_to_search [] limits begin are = absurd begin
  asks_to_search (a ∷ []) limits begin are = absurd are
  asks_to_search (a ∷ x ∷ []) limits begin are = absurd are
  asks_to_search (a ∷ x ∷ y ∷ rest) limits begin are =
      asks (bytes_of (a ∷ x ∷ y ∷ rest)) (string_bytes x) (string_bytes y) (bytes_of rest)
      limits.silent limits.budget limits.statements
      (ap (λ w. w ∷ string_bytes x ∷ string_bytes y ∷ bytes_of rest) begin) are.0 are.1 are.2

pub is_explain : (words : List (String Global)) (limits : Limits)
    → BeginWith (codes "explain") words
    → AreOfSearch words limits.silent limits.budget limits.statements
    → AsksToSearch explain limits words
is_explain words limits begin are =
    asks_to_search (codes "explain") explain (λ ws s t l n b m e p q is. to_explain s t l n b m e p q
    is) words limits begin are

pub is_ports : (words : List (String Global)) (limits : Limits) → BeginWith (codes "ports") words
    → AreOfSearch words limits.silent limits.budget limits.statements
    → AsksToSearch ports limits words
is_ports words limits begin are =
    asks_to_search (codes "ports") ports (λ ws s t l n b m e p q is. to_ports s t l n b m e p q is)
    words limits begin are

-- the limits of a search that words ask for
pub record IsSearchOf (words : List (String Global)) : Type 0 where
  pub silent : ℕ
  pub budget : ℕ
  pub statements : ℕ
  pub are : AreOfSearch words silent budget statements

search_of : (words : List (String Global)) (first s t : List ℕ) (limits : List (List ℕ))
    (n b m : ℕ) → bytes_of words ≡ first ∷ s ∷ t ∷ limits → s ≢ [] → t ≢ []
    → AreSearchLimits limits n b m → IsSearchOf words
search_of [] first s t limits n b m are s_named t_named is = absurd cc
search_of (a ∷ []) first s t limits n b m are s_named t_named is = absurd cc
search_of (a ∷ x ∷ []) first s t limits n b m are s_named t_named is = absurd cc
search_of (a ∷ x ∷ y ∷ rest) first s t limits n b m are s_named t_named is =
    let one : s ≡ string_bytes x = cc in
    let two : t ≡ string_bytes y = cc in
    let same : limits ≡ bytes_of rest = cc in
    record {
      silent = n;
      budget = b;
      statements = m;
      are = (
        subst (λ w. w ≢ []) one s_named,
        subst (λ w. w ≢ []) two t_named,
        subst (λ ws. AreSearchLimits ws n b m) same is,
      );
    }

-- what words that begin so ask for
pub is_explain_of : (words : List (String Global)) → BeginWith (codes "explain") words
    → (request : Request) → Asks (bytes_of words) request → IsSearchOf words
is_explain_of [] begin request asked = absurd begin
is_explain_of (a ∷ words) begin _ (to_check name are named) = absurd cc
is_explain_of (a ∷ words) begin _ (to_print name are named) = absurd cc
is_explain_of (a ∷ words) begin _ (to_explain s t limits n b m are s_named t_named is) =
    search_of (a ∷ words) (codes "explain") s t limits n b m are s_named t_named is
is_explain_of (a ∷ words) begin _ (to_replay s t e limits n m are s_named t_named e_named is) =
    absurd cc
is_explain_of (a ∷ words) begin _ (to_self_run name x y n m are named is) =
    absurd (explain_or_self_run (string_bytes a) begin (ap (λ ws. get_or ws 0 []) are))
is_explain_of (a ∷ words) begin _ (to_ports s t limits n b m are s_named t_named is) = absurd cc
is_explain_of (a ∷ words) begin _ (to_watch name limits n b m are named is) = absurd cc

pub is_ports_of : (words : List (String Global)) → BeginWith (codes "ports") words
    → (request : Request) → Asks (bytes_of words) request → IsSearchOf words
is_ports_of [] begin request asked = absurd begin
is_ports_of (a ∷ words) begin _ (to_check name are named) =
    absurd (check_or_ports (string_bytes a) (ap (λ ws. get_or ws 0 []) are) begin)
is_ports_of (a ∷ words) begin _ (to_print name are named) =
    absurd (print_or_ports (string_bytes a) (ap (λ ws. get_or ws 0 []) are) begin)
is_ports_of (a ∷ words) begin _ (to_explain s t limits n b m are s_named t_named is) = absurd cc
is_ports_of (a ∷ words) begin _ (to_replay s t e limits n m are s_named t_named e_named is) =
    absurd cc
is_ports_of (a ∷ words) begin _ (to_self_run name x y n m are named is) = absurd cc
is_ports_of (a ∷ words) begin _ (to_ports s t limits n b m are s_named t_named is) =
    search_of (a ∷ words) (codes "ports") s t limits n b m are s_named t_named is
is_ports_of (a ∷ words) begin _ (to_watch name limits n b m are named is) =
    absurd (ports_or_watch (string_bytes a) begin (ap (λ ws. get_or ws 0 []) are))

-- limits of a search that are left out
pub none_told : (words : List (String Global)) → length words < 1
    → AreSearchLimits (bytes_of words) 8 usual_budget 10000
none_told [] none = usual refl
none_told (x ∷ words) none = absurd (omega arith)

-- limits of a search that are given
pub all_told : (words : List (String Global)) (a b c : String Global) (silent budget statements : ℕ)
    → words ≡ a ∷ b ∷ c ∷ [] → IsNumber 0 most_silent (string_bytes a) silent
    → IsNumber 0 most_budget (string_bytes b) budget
    → IsNumber 1 most_statements (string_bytes c) statements
    → AreSearchLimits (bytes_of words) silent budget statements
all_told words a b c silent budget statements are is_silent is_budget is_statements =
    told _ _ _ silent budget statements (ap bytes_of are) is_silent is_budget is_statements

-- the numbers that three words give as limits
pub record AreTold (a b c : List ℕ) : Type 0 where
  pub silent : ℕ
  pub budget : ℕ
  pub statements : ℕ
  pub first : IsNumber 0 most_silent a silent
  pub second : IsNumber 0 most_budget b budget
  pub third : IsNumber 1 most_statements c statements

-- words of limits that are three are a number each
told_words : (words : List (List ℕ)) (a b c : List ℕ) (n m k : ℕ) → words ≡ a ∷ b ∷ c ∷ []
    → AreSearchLimits words n m k → AreTold a b c
told_words words a b c _ _ _ are (usual none) = absurd cc
told_words words a b c n m k are (told x y z _ _ _ is p q r) = record {
  silent = n;
  budget = m;
  statements = k;
  first = subst (λ w. IsNumber 0 most_silent w n) (let e : x ≡ a = cc in e) p;
  second = subst (λ w. IsNumber 0 most_budget w m) (let e : y ≡ b = cc in e) q;
  third = subst (λ w. IsNumber 1 most_statements w k) (let e : z ≡ c = cc in e) r;
}

-- three words that are no numbers each give no limits
pub not_told : (words : List (String Global)) (a b c : String Global) (r : Option Limits)
    → words ≡ a ∷ b ∷ c ∷ [] → r ≡ None
    → (AreTold (string_bytes a) (string_bytes b) (string_bytes c) → ⊥)
    → MatchOption r
    ((silent budget statements : ℕ) → AreSearchLimits (bytes_of words) silent budget statements → ⊥)
    (λ limits. AreSearchLimits (bytes_of words) limits.silent limits.budget limits.statements)
not_told words a b c None are is never = λ n m k limits.
    never (told_words (bytes_of words) _ _ _ n m k (ap bytes_of are) limits)
not_told words a b c (Some x) are is never = absurd cc

-- A TRACE THAT IS WATCHED

-- words that begin so ask to watch
pub is_watch : (words : List (String Global)) (specification : String Global) (limits : Limits)
    → BeginWith (codes "watch") words → 2 ≤ length words
    → specification ≡ get_or words 1 specification → string_bytes specification ≢ []
    → AreSearchLimits (bytes_of (take (length words - 2) (drop 2 words)))
    limits.silent limits.budget limits.statements
    → AsksToWatch limits words
is_watch [] s limits begin long at_s named are = absurd begin
is_watch (a ∷ []) s limits begin long at_s named are = absurd (omega arith)
is_watch (a ∷ b ∷ rest) s limits begin long at_s named are =
    let all : take (length (a ∷ b ∷ rest) - 2) rest ≡ rest = take_all _ rest (omega arith) in
    to_watch (string_bytes b) (bytes_of rest) limits.silent limits.budget limits.statements
    (ap (λ w. w ∷ string_bytes b ∷ bytes_of rest) begin)
    (subst (λ w. string_bytes w ≢ []) at_s named)
    (subst (λ ws. AreSearchLimits (bytes_of ws) limits.silent limits.budget limits.statements) all
    are)

-- words that ask to watch are two or more: the second one is a name, and those after it are the
-- limits
pub record IsWatchOf (words : List (String Global)) : Type 0 where
  pub two : 2 ≤ length words
  pub named : (word : String Global) → word ≡ get_or words 1 word → string_bytes word ≢ []
  pub silent : ℕ
  pub budget : ℕ
  pub statements : ℕ
  pub limits : AreSearchLimits (bytes_of (take (length words - 2) (drop 2 words)))
      silent budget statements

-- what words that begin so ask for
pub is_watch_of : (words : List (String Global)) → BeginWith (codes "watch") words
    → (request : Request) → Asks (bytes_of words) request → IsWatchOf words
is_watch_of [] begin request asked = absurd begin
is_watch_of (a ∷ words) begin _ (to_check name are named) =
    absurd (check_or_watch (string_bytes a) (ap (λ ws. get_or ws 0 []) are) begin)
is_watch_of (a ∷ words) begin _ (to_print name are named) =
    absurd (print_or_watch (string_bytes a) (ap (λ ws. get_or ws 0 []) are) begin)
is_watch_of (a ∷ words) begin _ (to_explain s t limits n b m are s_named t_named is) = absurd cc
is_watch_of (a ∷ words) begin _ (to_replay s t e limits n m are s_named t_named e_named is) =
    absurd cc
is_watch_of (a ∷ words) begin _ (to_self_run name x y n m are named is) = absurd cc
is_watch_of (a ∷ words) begin _ (to_ports s t limits n b m are s_named t_named is) =
    absurd (ports_or_watch (string_bytes a) (ap (λ ws. get_or ws 0 []) are) begin)
is_watch_of (a ∷ []) begin _ (to_watch s limits n b m are named is) = absurd cc
is_watch_of (a ∷ x ∷ rest) begin _ (to_watch s limits n b m are named is) =
    let all : take (length (a ∷ x ∷ rest) - 2) rest ≡ rest = take_all _ rest (omega arith) in
    let same : limits ≡ bytes_of rest = cc in
    record {
      two = omega arith;
      named = λ word at. subst (λ w. w ≢ []) (let q : s ≡ string_bytes word = cc in q) named;
      silent = n;
      budget = b;
      statements = m;
      limits = subst (λ ws. AreSearchLimits ws n b m) (same ∙ ap bytes_of (sym all)) is;
    }

-- REPLAY

-- words that begin so ask for a replay
pub is_replay : (words : List (String Global)) (specification trace explanation : String Global)
    (limits : Limits)
    → BeginWith (codes "replay") words → 4 ≤ length words
    → specification ≡ get_or words 1 specification → trace ≡ get_or words 2 trace
    → explanation ≡ get_or words 3 explanation
    → string_bytes specification ≢ [] → string_bytes trace ≢ [] → string_bytes explanation ≢ []
    → AreLimits (bytes_of (take (length words - 4) (drop 4 words))) limits.silent limits.statements
    → AsksToReplay limits words
is_replay [] s t e limits begin long at_s at_t at_e s_named t_named e_named are = absurd begin
is_replay (a ∷ []) s t e limits begin long at_s at_t at_e s_named t_named e_named are =
    absurd (omega arith)
is_replay (a ∷ b ∷ []) s t e limits begin long at_s at_t at_e s_named t_named e_named are =
    absurd (omega arith)
is_replay (a ∷ b ∷ c ∷ []) s t e limits begin long at_s at_t at_e s_named t_named e_named are =
    absurd (omega arith)
is_replay (a ∷ b ∷ c ∷ d ∷ rest) s t e limits begin long at_s at_t at_e s_named t_named e_named
    are =
    let all : take (length (a ∷ b ∷ c ∷ d ∷ rest) - 4) rest ≡ rest = take_all _ rest (omega arith)
    in
    to_replay (string_bytes b) (string_bytes c) (string_bytes d) (bytes_of rest) limits.silent
    limits.statements
    (ap (λ w. w ∷ string_bytes b ∷ string_bytes c ∷ string_bytes d ∷ bytes_of rest) begin)
    (subst (λ w. string_bytes w ≢ []) at_s s_named)
    (subst (λ w. string_bytes w ≢ []) at_t t_named)
    (subst (λ w. string_bytes w ≢ []) at_e e_named)
    (subst (λ ws. AreLimits (bytes_of ws) limits.silent limits.statements) all are)

-- words of a replay are four or more: the second, the third and the fourth one are names, and
-- those after them are its limits
pub record IsReplayOf (words : List (String Global)) : Type 0 where
  pub four : 4 ≤ length words
  pub named : (word : String Global) → word ≡ get_or words 1 word → string_bytes word ≢ []
  pub traced : (word : String Global) → word ≡ get_or words 2 word → string_bytes word ≢ []
  pub explained : (word : String Global) → word ≡ get_or words 3 word → string_bytes word ≢ []
  pub silent : ℕ
  pub statements : ℕ
  pub limits : AreLimits (bytes_of (take (length words - 4) (drop 4 words))) silent statements

-- what words that begin so ask for
pub is_replay_of : (words : List (String Global)) → BeginWith (codes "replay") words
    → (request : Request) → Asks (bytes_of words) request → IsReplayOf words
is_replay_of [] begin request asked = absurd begin
is_replay_of (a ∷ words) begin _ (to_check name are named) = absurd cc
is_replay_of (a ∷ words) begin _ (to_print name are named) = absurd cc
is_replay_of (a ∷ words) begin _ (to_explain s t limits n b m are s_named t_named is) = absurd cc
is_replay_of (a ∷ words) begin _ (to_self_run name x y n m are named is) = absurd cc
is_replay_of (a ∷ words) begin _ (to_ports s t limits n b m are s_named t_named is) = absurd cc
is_replay_of (a ∷ words) begin _ (to_watch name limits n b m are named is) = absurd cc
is_replay_of (a ∷ []) begin _ (to_replay s t e limits n m are s_named t_named e_named is) =
    absurd cc
is_replay_of (a ∷ x ∷ []) begin _ (to_replay s t e limits n m are s_named t_named e_named is) =
    absurd cc
is_replay_of (a ∷ x ∷ y ∷ []) begin _ (to_replay s t e limits n m are s_named t_named e_named is) =
    absurd cc
is_replay_of (a ∷ x ∷ y ∷ z ∷ rest) begin _
    (to_replay s t e limits n m are s_named t_named e_named is) =
    let all : take (length (a ∷ x ∷ y ∷ z ∷ rest) - 4) rest ≡ rest = take_all _ rest (omega arith)
    in
    let same : limits ≡ bytes_of rest = cc in
    record {
      four = omega arith;
      named = λ word at. subst (λ w. w ≢ []) (let q : s ≡ string_bytes word = cc in q) s_named;
      traced = λ word at. subst (λ w. w ≢ []) (let q : t ≡ string_bytes word = cc in q) t_named;
      explained = λ word at. subst (λ w. w ≢ []) (let q : e ≡ string_bytes word = cc in q) e_named;
      silent = n;
      statements = m;
      limits = subst (λ ws. AreLimits ws n m) (same ∙ ap bytes_of (sym all)) is;
    }

-- limits of a replay that are left out
pub none_given : (words : List (String Global)) → length words < 1
    → AreLimits (bytes_of words) 8 10000
none_given [] none = left_out refl
none_given (x ∷ words) none = absurd (omega arith)

-- limits of a replay that are given
pub both_given : (words : List (String Global)) (a b : String Global) (silent statements : ℕ)
    → words ≡ a ∷ b ∷ [] → IsNumber 0 most_silent (string_bytes a) silent
    → IsNumber 1 most_statements (string_bytes b) statements
    → AreLimits (bytes_of words) silent statements
both_given words a b silent statements are is_silent is_statements = given _ _ silent statements
    (ap bytes_of are) is_silent is_statements

-- TRACES THAT ARE MADE

-- words that begin so ask for a trace to be made
pub is_self_run : (words : List (String Global)) (specification first second : String Global)
    (seed count : ℕ)
    → BeginWith (codes "selfrun") words → 4 ≤ length words → length words < 5
    → specification ≡ get_or words 1 specification → first ≡ get_or words 2 first
    → second ≡ get_or words 3 second → string_bytes specification ≢ []
    → AreRecipe (string_bytes first) (string_bytes second) seed count
    → AsksToSelfRun seed count words
is_self_run [] s x y n m begin long short at_s at_x at_y named are = absurd begin
is_self_run (a ∷ []) s x y n m begin long short at_s at_x at_y named are = absurd (omega arith)
is_self_run (a ∷ b ∷ []) s x y n m begin long short at_s at_x at_y named are =
    absurd (omega arith)
is_self_run (a ∷ b ∷ c ∷ []) s x y n m begin long short at_s at_x at_y named are =
    absurd (omega arith)
is_self_run (a ∷ b ∷ c ∷ d ∷ []) s x y n m begin long short at_s at_x at_y named are =
    to_self_run (string_bytes b) (string_bytes c) (string_bytes d) n m
    (ap (λ w. w ∷ string_bytes b ∷ string_bytes c ∷ string_bytes d ∷ []) begin)
    (subst (λ w. string_bytes w ≢ []) at_s named)
    (subst (λ w. AreRecipe (string_bytes w) (string_bytes d) n m) at_x
    (subst (λ w. AreRecipe (string_bytes x) (string_bytes w) n m) at_y are))
is_self_run (a ∷ b ∷ c ∷ d ∷ e ∷ words) s x y n m begin long short at_s at_x at_y named are =
    absurd (omega arith)

-- words of a trace that is made are four: the second one is a name, and the others its numbers
pub record IsSelfRunOf (words : List (String Global)) : Type 0 where
  pub four : length words ≡ 4
  pub named : (word : String Global) → word ≡ get_or words 1 word → string_bytes word ≢ []
  pub seed : ℕ
  pub count : ℕ
  pub recipe : (x y : String Global) → x ≡ get_or words 2 x → y ≡ get_or words 3 y
      → AreRecipe (string_bytes x) (string_bytes y) seed count

-- what words that begin so ask for
pub is_self_run_of : (words : List (String Global)) → BeginWith (codes "selfrun") words
    → (request : Request) → Asks (bytes_of words) request → IsSelfRunOf words
is_self_run_of [] begin request asked = absurd begin
is_self_run_of (a ∷ words) begin _ (to_check name are named) = absurd cc
is_self_run_of (a ∷ words) begin _ (to_print name are named) = absurd cc
is_self_run_of (a ∷ words) begin _ (to_explain s t limits n b m are s_named t_named is) =
    absurd (explain_or_self_run (string_bytes a) (ap (λ ws. get_or ws 0 []) are) begin)
is_self_run_of (a ∷ words) begin _ (to_replay s t e limits n m are s_named t_named e_named is) =
    absurd cc
is_self_run_of (a ∷ words) begin _ (to_ports s t limits n b m are s_named t_named is) = absurd cc
is_self_run_of (a ∷ words) begin _ (to_watch name limits n b m are named is) = absurd cc
is_self_run_of (a ∷ []) begin _ (to_self_run s x y n m are named is) = absurd cc
is_self_run_of (a ∷ b ∷ []) begin _ (to_self_run s x y n m are named is) = absurd cc
is_self_run_of (a ∷ b ∷ c ∷ []) begin _ (to_self_run s x y n m are named is) = absurd cc
is_self_run_of (a ∷ b ∷ c ∷ d ∷ []) begin _ (to_self_run s x y n m are named is) = record {
  four = refl;
  named = λ word at. subst (λ w. w ≢ []) (let q : s ≡ string_bytes word = cc in q) named;
  seed = n;
  count = m;
  recipe = λ v w at_v at_w.
      subst (λ z. AreRecipe z (string_bytes w) n m) (let q : x ≡ string_bytes v = cc in q)
      (subst (λ z. AreRecipe x z n m) (let q : y ≡ string_bytes w = cc in q) is);
}
is_self_run_of (a ∷ b ∷ c ∷ d ∷ e ∷ words) begin _ (to_self_run s x y n m are named is) = absurd cc

-- COMMANDS

-- words that ask for this of a file ask for something
file_asks : (request : List ℕ → Request) (words : List (String Global)) → AsksOfFile request words
    → AsksNothing words → ⊥
file_asks request [] asked nothing = asked
file_asks request (a ∷ []) asked nothing = asked
file_asks request (a ∷ b ∷ []) asked nothing = nothing _ asked
file_asks request (a ∷ b ∷ c ∷ words) asked nothing = asked

-- words that ask for a search ask for something
search_asks : (request : List ℕ → List ℕ → ℕ → ℕ → ℕ → Request) (words : List (String Global))
    (limits : Limits) → AsksToSearch request limits words → AsksNothing words → ⊥
search_asks request [] limits asked nothing = asked
search_asks request (a ∷ []) limits asked nothing = asked
search_asks request (a ∷ b ∷ []) limits asked nothing = asked
search_asks request (a ∷ b ∷ c ∷ words) limits asked nothing = nothing _ asked

-- words that ask to watch ask for something
watch_asks : (words : List (String Global)) (limits : Limits) → AsksToWatch limits words
    → AsksNothing words → ⊥
watch_asks [] limits asked nothing = asked
watch_asks (a ∷ []) limits asked nothing = asked
watch_asks (a ∷ b ∷ words) limits asked nothing = nothing _ asked

-- words that ask for a replay ask for something
replay_asks : (words : List (String Global)) (limits : Limits) → AsksToReplay limits words
    → AsksNothing words → ⊥
replay_asks [] limits asked nothing = asked
replay_asks (a ∷ []) limits asked nothing = asked
replay_asks (a ∷ b ∷ []) limits asked nothing = asked
replay_asks (a ∷ b ∷ c ∷ []) limits asked nothing = asked
replay_asks (a ∷ b ∷ c ∷ d ∷ words) limits asked nothing = nothing _ asked

-- words that ask for a trace to be made ask for something
self_run_asks : (words : List (String Global)) (seed count : ℕ) → AsksToSelfRun seed count words
    → AsksNothing words → ⊥
self_run_asks [] n m asked nothing = asked
self_run_asks (a ∷ []) n m asked nothing = asked
self_run_asks (a ∷ b ∷ []) n m asked nothing = asked
self_run_asks (a ∷ b ∷ c ∷ []) n m asked nothing = asked
self_run_asks (a ∷ b ∷ c ∷ d ∷ []) n m asked nothing = nothing _ asked
self_run_asks (a ∷ b ∷ c ∷ d ∷ e ∷ words) n m asked nothing = asked

-- words that ask for a command ask for something
pub command_asks : (words : List (String Global)) (command : Command) → IsCommand words command
    → AsksNothing words → ⊥
command_asks words Check asked nothing = file_asks check words asked nothing
command_asks words Print asked nothing = file_asks print words asked nothing
command_asks words (Explain limits) asked nothing = search_asks explain words limits asked nothing
command_asks words (Replay limits) asked nothing = replay_asks words limits asked.0 nothing
command_asks words (SelfRun seed count) asked nothing = self_run_asks words seed count asked nothing
command_asks words (Ports limits) asked nothing = search_asks ports words limits asked nothing
command_asks words (Watch limits) asked nothing = watch_asks words limits asked nothing
