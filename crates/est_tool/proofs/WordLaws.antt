-- What words ask for, by the words at their places.
use Rattle.std.proofs.Common.{◌≡◌, ◌≢◌, ◌∙◌, ℕ, ◌<◌, ◌≤◌, List, [], ◌∷◌, length, get_or}
use Rattle.std.proofs.Common.{codes, String, string_bytes, sym, refl, ap, subst, arith}
use Rattle.std.specs.Global.{Global}
use Rattle.call_files.specs.Requests.{AreRecipe, bytes_of}
use Rattle.call_files.specs.inside.CommandWords.{BeginWith}
use Rattle.est_tool.specs.TraceWords.{AsksForTrace}

-- words that begin so ask for a trace
pub is_trace : (words : List (String Global)) (specification first second : String Global)
    (seed count : ℕ)
    → BeginWith (codes "trace") words → 4 ≤ length words → length words < 5
    → specification ≡ get_or words 1 specification → first ≡ get_or words 2 first
    → second ≡ get_or words 3 second → string_bytes specification ≢ []
    → AreRecipe (string_bytes first) (string_bytes second) seed count
    → AsksForTrace (bytes_of words) (string_bytes specification) seed count
is_trace [] s x y n m begin long short at_s at_x at_y named are = absurd begin
is_trace (a ∷ []) s x y n m begin long short at_s at_x at_y named are = absurd (omega arith)
is_trace (a ∷ b ∷ []) s x y n m begin long short at_s at_x at_y named are = absurd (omega arith)
is_trace (a ∷ b ∷ c ∷ []) s x y n m begin long short at_s at_x at_y named are =
    absurd (omega arith)
is_trace (a ∷ b ∷ c ∷ d ∷ []) s x y n m begin long short at_s at_x at_y named are = record {
  first = string_bytes x;
  second = string_bytes y;
  are = ap (λ w. w ∷ string_bytes b ∷ string_bytes c ∷ string_bytes d ∷ []) begin
      ∙ ap (λ w. codes "trace" ∷ string_bytes w ∷ string_bytes c ∷ string_bytes d ∷ []) (sym at_s)
      ∙ ap (λ w. codes "trace" ∷ string_bytes s ∷ string_bytes w ∷ string_bytes d ∷ []) (sym at_x)
      ∙ ap (λ w. codes "trace" ∷ string_bytes s ∷ string_bytes x ∷ string_bytes w ∷ []) (sym at_y);
  named = named;
  recipe = are;
}
is_trace (a ∷ b ∷ c ∷ d ∷ e ∷ words) s x y n m begin long short at_s at_x at_y named are =
    absurd (omega arith)

-- and so under the same name of the file
pub asks_so : {words : List (List ℕ)} {specification name : List ℕ} {seed count : ℕ}
    → name ≡ specification → AsksForTrace words specification seed count
    → AsksForTrace words name seed count
asks_so {words} {seed = seed} {count = count} same asked =
    subst (λ w. AsksForTrace words w seed count) (sym same) asked

-- words that ask for a trace are four: the second one is a name, and the others its numbers
pub record IsTraceOf (words : List (String Global)) : Type 0 where
  pub four : length words ≡ 4
  pub named : (word : String Global) → word ≡ get_or words 1 word → string_bytes word ≢ []
  pub seed : ℕ
  pub count : ℕ
  pub recipe : (x y : String Global) → x ≡ get_or words 2 x → y ≡ get_or words 3 y
      → AreRecipe (string_bytes x) (string_bytes y) seed count

-- what words are that ask for a trace
pub is_trace_of : (words : List (String Global)) (specification : List ℕ) (seed count : ℕ)
    → AsksForTrace (bytes_of words) specification seed count → IsTraceOf words
is_trace_of [] s n m asked =
    let q : 0 ≡ 4 = ap length asked.are in absurd (omega (arith, q))
is_trace_of (a ∷ []) s n m asked =
    let q : 1 ≡ 4 = ap length asked.are in absurd (omega (arith, q))
is_trace_of (a ∷ b ∷ []) s n m asked =
    let q : 2 ≡ 4 = ap length asked.are in absurd (omega (arith, q))
is_trace_of (a ∷ b ∷ c ∷ []) s n m asked =
    let q : 3 ≡ 4 = ap length asked.are in absurd (omega (arith, q))
is_trace_of (a ∷ b ∷ c ∷ d ∷ []) s n m asked = record {
  four = refl;
  named = λ word at. subst (λ w. w ≢ [])
      (sym (ap string_bytes at ∙ ap (λ ws. get_or ws 1 []) asked.are)) asked.named;
  seed = n;
  count = m;
  recipe = λ x y at_x at_y.
      subst (λ w. AreRecipe w (string_bytes y) n m)
      (sym (ap string_bytes at_x ∙ ap (λ ws. get_or ws 2 []) asked.are))
      (subst (λ w. AreRecipe asked.first w n m)
      (sym (ap string_bytes at_y ∙ ap (λ ws. get_or ws 3 []) asked.are)) asked.recipe);
}
is_trace_of (a ∷ b ∷ c ∷ d ∷ e ∷ words) s n m asked =
    let q : length (string_bytes a ∷ string_bytes b ∷ string_bytes c ∷ string_bytes d
    ∷ string_bytes e ∷ bytes_of words) ≡ 4 = ap length asked.are in
    absurd (omega (arith, q))
