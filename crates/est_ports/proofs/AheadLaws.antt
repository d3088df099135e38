-- What a step does to what is ahead.
use Rattle.std.proofs.Common.{◌≡◌, ℕ, zero, suc, ◌+◌, ◌⊎◌, List, [], ◌∷◌, ◌++◌, length, take, drop}
use Rattle.std.proofs.Common.{refl, sym, ap, subst, ◌∙◌, inl, inr, arith}
use Rattle.std.proofs.lemmas.List.{length-append}
use Rattle.est_syntax.specs.Least.{IsIn}
use Rattle.est_meaning.proofs.OrderLaws.{starts_self, starts_less, starts_cases}
use Rattle.est_meaning.specs.Order.{StartsWith}
use Rattle.est_meaning.specs.Run.{Setup}
use Rattle.mean_ports.specs.declared.lists.PortLists.{PortLists}
use Rattle.mean_ports.specs.declared.moves.PortMove.{PortMove}
use Rattle.run_paths.specs.declared.path.Stage.{Stage}
use Rattle.run_paths.specs.declared.path.Stage.TheVariants.{Fresh, Taken, Listed}
use Rattle.est_ports.specs.inside.Ahead.{IsLeft, IsEarly, GoesOn, IsUnasked}
use Rattle.est_ports.proofs.PortTree.{IsOnTree, CanGoOn, IsInTree, run_starts, run_in_tree}

-- LISTS

-- no list goes on from itself
never_behind : (h later : List PortMove) (n : PortMove) → h ≡ later ++ n ∷ h → ⊥
never_behind h later n e =
    let m : length h ≡ length later + length (n ∷ h) = ap length e ∙ length-append later (n ∷ h) in
    omega arith

same_behind : (a b h : List PortMove) (m n : PortMove) → a ++ m ∷ h ≡ b ++ n ∷ h → m ≡ n
same_behind [] [] h m n e = cc
same_behind [] (x ∷ b) h m n e =
    (let f : h ≡ b ++ n ∷ h = cc in absurd (never_behind h b n f))
same_behind (x ∷ a) [] h m n e =
    (let f : h ≡ a ++ m ∷ h = cc in absurd (never_behind h a m f))
same_behind (x ∷ a) (y ∷ b) h m n e =
    (let f : a ++ m ∷ h ≡ b ++ n ∷ h = cc in same_behind a b h m n f)

-- what goes on from a list goes on by one move
pub starts_same : (y h : List PortMove) (m n : PortMove) → StartsWith y (m ∷ h)
    → StartsWith y (n ∷ h) → m ≡ n
starts_same y h m n a b = same_behind a.0 b.0 h m n (sym a.1 ∙ b.1)

pub never_longer : (h : List PortMove) (n : PortMove) → StartsWith h (n ∷ h) → ⊥
never_longer h n s = never_behind h s.0 n s.1

pub take_more : {X : Type 0} (k n : ℕ) (t : X) (ts : List X) → k ≡ n + 1
    → take k (t ∷ ts) ≡ t ∷ take n ts
take_more zero n t ts e = absurd (omega arith)
take_more (suc k) n t ts e = (let same : k ≡ n = omega arith in ap (λ w. t ∷ take w ts) same)

pub drop_more : {X : Type 0} (k n : ℕ) (t : X) (ts : List X) → k ≡ n + 1
    → drop k (t ∷ ts) ≡ drop n ts
drop_more zero n t ts e = absurd (omega arith)
drop_more (suc k) n t ts e = (let same : k ≡ n = omega arith in ap (λ w. drop w ts) same)

-- where none are taken, all are left
pub drop_none : {X : Type 0} (k : ℕ) (ts : List X) → take k ts ≡ [] → drop k ts ≡ ts
drop_none zero ts e = refl
drop_none (suc k) [] e = refl
drop_none (suc k) (t ∷ ts) e = (let never : ⊥ = cc in absurd never)

pub take_front : {X : Type 0} (a b : List X) → take (length a) (a ++ b) ≡ a
take_front [] b = refl
take_front (x ∷ a) b = ap (λ w. x ∷ w) (take_front a b)

pub drop_front : {X : Type 0} (a b : List X) → drop (length a) (a ++ b) ≡ b
drop_front [] b = refl
drop_front (x ∷ a) b = drop_front a b

-- MOVES THAT ARE LEFT

pub left_first : (stage : Stage) (t : PortMove) (mine : List PortMove) → IsLeft stage (t ∷ mine) t
left_first Fresh t mine = tt
left_first Taken t mine = inl refl
left_first Listed t mine = inl refl

pub left_more : (stage : Stage) (t n : PortMove) (mine : List PortMove) → IsLeft stage mine n
    → IsLeft stage (t ∷ mine) n
left_more Fresh t n mine a = tt
left_more Taken t n mine a = inr a
left_more Listed t n mine a = inr a

left_cases : (stage : Stage) (t n : PortMove) (mine : List PortMove) → IsLeft stage (t ∷ mine) n
    → (t ≡ n) ⊎ IsLeft stage mine n
left_cases Fresh t n mine a = inr tt
left_cases Taken t n mine a = elim a [ inl e ↦ inl e | inr j ↦ inr j ]
left_cases Listed t n mine a = elim a [ inl e ↦ inl e | inr j ↦ inr j ]

-- a move that was made is left no more
pub left_not : (stage : Stage) (t : PortMove) (mine : List PortMove) → stage ≡ Listed
    → (IsIn t mine → ⊥) → IsLeft stage mine t → ⊥
left_not stage t mine e never a = never (subst (λ w. IsLeft w mine t) e a)

-- STEPS

-- z was ahead and is so no more, and all else that was ahead is so still
pub record Turn (c : Setup) (lists : PortLists) (P P' : List PortMove → Type 0)
    (z : List PortMove) : Type 0 where
  pub was : P z
  pub on : (x : List PortMove) → IsInTree c lists x → P x → P' x ⊎ (x ≡ z)
  pub back : (x : List PortMove) → P' x → P x
  pub gone : P' z → ⊥

-- all that was ahead is so still
pub record Skip (c : Setup) (lists : PortLists) (P P' : List PortMove → Type 0) : Type 0 where
  pub on : (x : List PortMove) → IsInTree c lists x → P x → P' x
  pub back : (x : List PortMove) → P' x → P x

-- the guards that were ahead are so still
abbrev pub GuardsOn : Setup → PortLists → (G G' : List PortMove → Type 0) → Type 0
GuardsOn c lists G G' = (x : List PortMove) → IsOnTree c lists x → G x → G' x

module _ (c : Setup) (lists : PortLists) (h : List PortMove) (B : List PortMove → Type 0) where
  -- what is ahead at a run with these moves left, or below it
  abbrev pub There : Stage → List PortMove → List PortMove → Type 0
  There stage mine y = GoesOn stage mine h y ⊎ B y

  abbrev pub GuardsThere : Stage → List PortMove → List PortMove → Type 0
  GuardsThere stage mine y = IsUnasked stage mine h y ⊎ B y

  -- THE NEXT MOVE

  module _ (stage : Stage) (t : PortMove) (mine : List PortMove)
      (staged : stage ≡ Listed) (once : IsIn t mine → ⊥) where
    there_first : There stage (t ∷ mine) (t ∷ h)
    there_first = inl (record {
      move = t;
      is_left = left_first stage t mine;
      starts = starts_self (t ∷ h);
    })

    there_more : (y : List PortMove) → There stage mine y → There stage (t ∷ mine) y
    there_more y a = elim a [
      | inl g ↦ inl (record {
        move = g.move;
        is_left = left_more stage t g.move mine g.is_left;
        starts = g.starts;
      })
      | inr b ↦ inr b
    ]

    there_gone : ((y : List PortMove) → StartsWith y h → B y → ⊥) → There stage mine (t ∷ h) → ⊥
    there_gone apart a = elim a [
      | inl g ↦ left_not stage t mine staged once (subst (λ w. IsLeft stage mine w)
          (starts_same (t ∷ h) h g.move t g.starts (starts_self (t ∷ h))) g.is_left)
      | inr b ↦ apart (t ∷ h) (starts_less (t ∷ h) t h (starts_self (t ∷ h))) b
    ]

    -- it does not lead on
    pub turn_off : (IsOnTree c lists (t ∷ h) → ⊥)
        → ((y : List PortMove) → StartsWith y h → B y → ⊥)
        → Turn c lists (There stage (t ∷ mine)) (There stage mine) (t ∷ h)
    turn_off off apart = record {
      was = there_first;
      on = λ x tree a. elim a [
        | inl g ↦ elim (left_cases stage t g.move mine g.is_left) [
          | inl e ↦ elim (tree t h (subst (λ w. StartsWith x (w ∷ h)) (sym e) g.starts)).1 [
            | inl w ↦ inr w
            | inr r ↦ absurd (off r)
          ]
          | inr l ↦ inl (inl (record { move = g.move; is_left = l; starts = g.starts }))
        ]
        | inr b ↦ inl (inr b)
      ];
      back = there_more;
      gone = there_gone apart;
    }

    pub guards_off : (IsOnTree c lists (t ∷ h) → ⊥)
        → GuardsOn c lists (GuardsThere stage (t ∷ mine)) (GuardsThere stage mine)
    guards_off off x on a = elim a [
      | inl u ↦ elim u [
        | inl g ↦ elim (left_cases stage t g.move mine g.is_left) [
          | inl e ↦ absurd (off (run_starts c lists x (t ∷ h) on
              (subst (λ w. StartsWith x (w ∷ h)) (sym e) g.starts)))
          | inr l ↦ inl (inl (record { move = g.move; is_left = l; starts = g.starts }))
        ]
        | inr e ↦ inl (inr e)
      ]
      | inr b ↦ inr b
    ]

    -- it leads on
    abbrev pub Beyond : List PortMove → List PortMove → Type 0
    Beyond none y = GoesOn Fresh none (t ∷ h) y ⊎ (GoesOn Listed mine h y ⊎ B y)

    abbrev pub GuardsBeyond : List PortMove → List PortMove → Type 0
    GuardsBeyond none y =
        IsUnasked Fresh none (t ∷ h) y ⊎ (IsUnasked Listed mine h y ⊎ B y)

    there_of : (y : List PortMove) → GoesOn Listed mine h y ⊎ B y → There stage mine y
    there_of y a = elim a [
      | inl g ↦ inl (subst (λ w. GoesOn w mine h y) (sym staged) g)
      | inr b ↦ inr b
    ]

    pub turn_on : (none : List PortMove) → ((y : List PortMove) → StartsWith y h → B y → ⊥)
        → Turn c lists (There stage (t ∷ mine)) (Beyond none) (t ∷ h)
    turn_on none apart = record {
      was = there_first;
      on = λ x tree a. elim a [
        | inl g ↦ elim (left_cases stage t g.move mine g.is_left) [
          | inl e ↦ elim (starts_cases x (t ∷ h)
              (subst (λ w. StartsWith x (w ∷ h)) (sym e) g.starts)) [
                | inl w ↦ inr w
                | inr s ↦ inl (inl (record { move = s.0; is_left = tt; starts = s.1 }))
              ]
          | inr l ↦ inl (inr (inl (record {
            move = g.move;
            is_left = subst (λ w. IsLeft w mine g.move) staged l;
            starts = g.starts;
          })))
        ]
        | inr b ↦ inl (inr (inr b))
      ];
      back = λ x a. elim a [
        | inl g ↦ inl (record {
          move = t;
          is_left = left_first stage t mine;
          starts = starts_less x g.move (t ∷ h) g.starts;
        })
        | inr b ↦ there_more x (there_of x b)
      ];
      gone = λ a. elim a [
        | inl g ↦ never_longer (t ∷ h) g.move g.starts
        | inr b ↦ there_gone apart (there_of (t ∷ h) b)
      ];
    }

    pub guards_on : (none : List PortMove)
        → GuardsOn c lists (GuardsThere stage (t ∷ mine)) (GuardsBeyond none)
    guards_on none x on a = elim a [
      | inl u ↦ elim u [
        | inl g ↦ elim (left_cases stage t g.move mine g.is_left) [
          | inl e ↦ elim (starts_cases x (t ∷ h)
              (subst (λ w. StartsWith x (w ∷ h)) (sym e) g.starts)) [
                | inl w ↦ inl (inr (tt, w))
                | inr s ↦ inl (inl (record { move = s.0; is_left = tt; starts = s.1 }))
              ]
          | inr l ↦ inr (inl (inl (record {
            move = g.move;
            is_left = subst (λ w. IsLeft w mine g.move) staged l;
            starts = g.starts;
          })))
        ]
        | inr e ↦ inr (inl (inr (subst IsEarly staged e.0, e.1)))
      ]
      | inr b ↦ inr (inr b)
    ]

  -- LISTING

  -- all moves that are defined are listed
  module _ (none moves : List PortMove) (all : (n : PortMove) → CanGoOn c lists h n → IsIn n moves)
    where
      pub skip_listed : Skip c lists (There Fresh none) (There Listed moves)
      skip_listed = record {
        on = λ x tree a. elim a [
          | inl g ↦ inl (record {
            move = g.move;
            is_left = all g.move (tree g.move h g.starts).0;
            starts = g.starts;
          })
          | inr b ↦ inr b
        ];
        back = λ x a. elim a [
          | inl g ↦ inl (record { move = g.move; is_left = tt; starts = g.starts })
          | inr b ↦ inr b
        ];
      }

      pub guards_listed : (x : List PortMove) → IsOnTree c lists x → GuardsThere Fresh none x
          → GuardsThere Listed moves x ⊎ (x ≡ h)
      guards_listed x on a = elim a [
        | inl u ↦ elim u [
          | inl g ↦ inl (inl (inl (record {
            move = g.move;
            is_left = all g.move (run_in_tree c lists x on g.move h g.starts).0;
            starts = g.starts;
          })))
          | inr e ↦ inr e.1
        ]
        | inr b ↦ inl (inr b)
      ]

  -- NOTHING IS LEFT THERE

  pub skip_back : Skip c lists (There Listed []) B
  skip_back = record {
    on = λ x tree a. elim a [ inl g ↦ absurd g.is_left | inr b ↦ b ];
    back = λ x b. inr b;
  }

  pub guards_back : GuardsOn c lists (GuardsThere Listed []) B
  guards_back x on a = elim a [
    | inl u ↦ elim u [ inl g ↦ absurd g.is_left | inr e ↦ absurd e.0 ]
    | inr b ↦ b
  ]
