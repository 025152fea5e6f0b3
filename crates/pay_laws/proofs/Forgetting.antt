-- Actions without those that a member lost.
use Rattle.std.proofs.Common.{◌≡◌, ◌≢◌, ◌⊎◌, inl, inr, ⊎_elim, ℕ, zero, suc, ◌+◌, ◌<◌, ◌≤◌, Bool, true, false, not, cond, eqb, ◌&&◌, List, [], ◌∷◌, ◌++◌, length, slice_get, take, Some, refl, sym, ap, ◌∙◌, subst, arith, append_assoc, append-nil, length-append, ne_eqb, leb}
use Rattle.std.specs.List.{All}
use Rattle.std.specs.Prelude.{slice_index_or}
use Rattle.std.proofs.lemmas.Bool.Decides.{nat_tests}
use Rattle.std.proofs.lemmas.Bool.{cases_Bool}
use Rattle.std.proofs.lemmas.Bool.{cases_eq}
use Rattle.std.proofs.lemmas.List.{take-append-le, take_all}
use Rattle.std.proofs.lemmas.List.Elements.{All-head, All-tail, filter-append}
use Rattle.pay_channel.specs.History.{Event, out}
use Rattle.pay_channel.specs.SentLaws.{OutGrows}
use Rattle.pay_world.specs.Setting.{Setting, group_at, IsCorrect}
use Rattle.pay_world.specs.Actions.{Action, Asks, Brings, member_of, event_of, counts, adds, history_by}
use Rattle.pay_world.specs.ActionLaws.{NoHistoryAtFirst, HistoryByOneMore, HistoriesGrow, GenuineByOneMore, PrefixIsGenuine}
use Rattle.pay_world.specs.Genuine.{IsGenuine, AreGenuine}
use Rattle.pay_laws.specs.Forgetting.{elsewhere, IsAmong, ForgettingIsNoLie}

-- ---- lists

-- an induction by one item more at the end
pub by_push : {X : Type 0} (P : List X → Type 0) → P [] → ((xs : List X) (x : X) → P xs → P (xs ++ x ∷ [])) → (xs : List X) → P xs
by_push {X} P none more xs = go [] xs none where
  go : (done rest : List X) → P done → P (done ++ rest)
  go done [] h = rw (append-nil done) h
  go done (x ∷ rest) h = rw (← append_assoc done (x ∷ []) rest) (go (done ++ x ∷ []) rest (more done x h))

slice_get_front : {X : Type 0} (xs ys : List X) (n : ℕ) → n < length xs → slice_get (xs ++ ys) n ≡ slice_get xs n
slice_get_front [] ys n inside = absurd (omega arith)
slice_get_front (x ∷ xs) ys zero inside = refl
slice_get_front (x ∷ xs) ys (suc n) inside = slice_get_front xs ys n (omega arith)

pub all_front : {X : Type 0} (P : X → Type 0) (xs ys : List X) → All P (xs ++ ys) → All P xs
all_front P xs ys all = λ k d inside. subst P (slice_index_front xs ys k d inside) (all k d (omega (arith, length-append xs ys))) where
  slice_index_front : {X : Type 0} (xs ys : List X) (k : ℕ) (d : X) → k < length xs → slice_index_or (xs ++ ys) k d ≡ slice_index_or xs k d
  slice_index_front [] ys k d inside = absurd (omega arith)
  slice_index_front (x ∷ xs) ys zero d inside = refl
  slice_index_front (x ∷ xs) ys (suc k) d inside = slice_index_front xs ys k d (omega arith)

pub all_back : {X : Type 0} (P : X → Type 0) (xs ys : List X) → All P (xs ++ ys) → All P ys
all_back P [] ys all = all
all_back P (x ∷ xs) ys all = all_back P xs ys (All-tail P x (xs ++ ys) all)

pub all_last : {X : Type 0} (P : X → Type 0) (xs : List X) (x : X) → All P (xs ++ x ∷ []) → P x
all_last P xs x all = All-head P x [] (all_back P xs (x ∷ []) all)

nothing : (n : ℕ) → ◌≡◌ {A = List Event} [] (take n [])
nothing zero = refl
nothing (suc n) = refl

-- ---- what an action at one member is to another

pub adds_elsewhere : (w : Setting) (i : ℕ) (history : List Event) (d : Action) → member_of d ≢ i → adds w i history d ≡ []
adds_elsewhere w i history d other =
    ap (λ (b : Bool). cond (b && counts w history d) (event_of d ∷ []) []) (ne_eqb (member_of d) i other)

-- it adds one event at most
pub adds_few : (w : Setting) (i : ℕ) (history : List Event) (d : Action) → length (adds w i history d) ≤ 1
adds_few w i history d = go (eqb (member_of d) i && counts w history d) where
  go : (b : Bool) → length (cond b (event_of d ∷ []) []) ≤ 1
  go true = omega arith
  go false = omega arith

elsewhere_one : (k : ℕ) (d : Action) (b : Bool) → eqb (member_of d) k ≡ b → elsewhere k (d ∷ []) ≡ cond b [] (d ∷ [])
elsewhere_one k d b is = ap (λ (c : Bool). cond (not c) (d ∷ []) []) is ∙ turned b where
  turned : (c : Bool) → cond (not c) (d ∷ []) [] ≡ cond c [] (d ∷ [])
  turned true = refl
  turned false = refl

elsewhere_here : (k : ℕ) (ds : List Action) (d : Action) → member_of d ≡ k → elsewhere k (ds ++ d ∷ []) ≡ elsewhere k ds
elsewhere_here k ds d here =
    filter-append (λ (d : Action). not (eqb (member_of d) k)) ds (d ∷ [])
    ∙ ap (λ (l : List Action). elsewhere k ds ++ l) (elsewhere_one k d true (eq_eqb here))
    ∙ append-nil (elsewhere k ds)
  where
    eq_eqb : member_of d ≡ k → eqb (member_of d) k ≡ true
    eq_eqb is = grind arith

elsewhere_other : (k : ℕ) (ds : List Action) (d : Action) → member_of d ≢ k → elsewhere k (ds ++ d ∷ []) ≡ elsewhere k ds ++ d ∷ []
elsewhere_other k ds d other =
    filter-append (λ (d : Action). not (eqb (member_of d) k)) ds (d ∷ [])
    ∙ ap (λ (l : List Action). elsewhere k ds ++ l) (elsewhere_one k d false (ne_eqb (member_of d) k other))

module _ (no_history : NoHistoryAtFirst) (one_more : HistoryByOneMore) (grow : HistoriesGrow) (w : Setting) where
  -- one action more
  more_at : (first ds : List Action) (d : Action) (i : ℕ) → history_by w (first ++ (ds ++ d ∷ [])) i ≡ history_by w (first ++ ds) i ++ adds w i (history_by w (first ++ ds) i) d
  more_at first ds d i = ap (λ (l : List Action). history_by w l i) (sym (append_assoc first ds (d ∷ []))) ∙ one_more w (first ++ ds) d i

  more_elsewhere : (first ds : List Action) (d : Action) (i : ℕ) → member_of d ≢ i → history_by w (first ++ (ds ++ d ∷ [])) i ≡ history_by w (first ++ ds) i
  more_elsewhere first ds d i other =
      more_at first ds d i
      ∙ ap (λ (l : List Event). history_by w (first ++ ds) i ++ l) (adds_elsewhere w i (history_by w (first ++ ds) i) d other)
      ∙ append-nil (history_by w (first ++ ds) i)

  -- ---- histories without the actions that a member lost

  Same : List Action → ℕ → ℕ → List Action → Type 0
  Same first k i ds = history_by w (first ++ elsewhere k ds) i ≡ history_by w (first ++ ds) i

  pub others_same : (first later : List Action) (k i : ℕ) → i ≢ k → history_by w (first ++ elsewhere k later) i ≡ history_by w (first ++ later) i
  unfolding Same
  others_same first later k i other = by_push (Same first k i) refl step later where
    step : (ds : List Action) (d : Action) → Same first k i ds → Same first k i (ds ++ d ∷ [])
    step ds d same = elim (cases_eq (member_of d) k) [
      | inl here ↦
          ap (λ (l : List Action). history_by w (first ++ l) i) (elsewhere_here k ds d here) ∙ same
          ∙ sym (more_elsewhere first ds d i (λ is. other (sym is ∙ here)))
      | inr there ↦
          ap (λ (l : List Action). history_by w (first ++ l) i) (elsewhere_other k ds d there)
          ∙ more_at first (elsewhere k ds) d i
          ∙ ap (λ (h : List Event). h ++ adds w i h d) same
          ∙ sym (more_at first ds d i)
    ]

  Kept : List Action → ℕ → List Action → Type 0
  Kept first k ds = history_by w (first ++ elsewhere k ds) k ≡ history_by w first k

  pub kept_same : (first later : List Action) (k : ℕ) → history_by w (first ++ elsewhere k later) k ≡ history_by w first k
  unfolding Kept
  kept_same first later k = by_push (Kept first k) (ap (λ (l : List Action). history_by w l k) (append-nil first)) step later where
    step : (ds : List Action) (d : Action) → Kept first k ds → Kept first k (ds ++ d ∷ [])
    step ds d same = elim (cases_eq (member_of d) k) [
      | inl here ↦ ap (λ (l : List Action). history_by w (first ++ l) k) (elsewhere_here k ds d here) ∙ same
      | inr there ↦
          ap (λ (l : List Action). history_by w (first ++ l) k) (elsewhere_other k ds d there)
          ∙ more_elsewhere first (elsewhere k ds) d k there
          ∙ same
    ]

  -- ---- no frame is forged

  module _ (out_grows : OutGrows) (genuine_more : GenuineByOneMore) (genuine_front : PrefixIsGenuine) (first : List Action) (k : ℕ) where
    -- what stood among all that k sent by the first actions stands there
    sent_same : (ds : List Action) (number : ℕ) → number < length (out (group_at w k) (history_by w first k)) → slice_get (out (group_at w k) (history_by w (first ++ ds) k)) number ≡ slice_get (out (group_at w k) (history_by w (first ++ elsewhere k ds) k)) number
    sent_same ds number inside =
        let g = group_at w k in
        let longer = (grow w first ds).each k in
        let sent = out_grows g (history_by w first k) longer.rest in
        ap (λ (h : List Event). slice_get (out g h) number) longer.is
        ∙ ap (λ l. slice_get l number) sent.is
        ∙ slice_get_front (out g (history_by w first k)) sent.rest number inside
        ∙ sym (ap (λ (h : List Event). slice_get (out g h) number) (kept_same first ds k))

    genuine_still : (ds : List Action) (d : Action) → (IsCorrect w k → IsAmong w k (history_by w first k) d) → IsGenuine w (first ++ ds) d → IsGenuine w (first ++ elsewhere k ds) d
    genuine_still ds (Asks j v) among genuine = tt
    genuine_still ds (Brings j from number body) among genuine = λ cj cf. elim (cases_eq from k) [
      | inl mine ↦
          let P : ℕ → Type 0 = λ p. slice_get (out (group_at w p) (history_by w (first ++ elsewhere k ds) p)) number ≡ Some body in
          let Q : ℕ → Type 0 = λ p. slice_get (out (group_at w p) (history_by w (first ++ ds) p)) number ≡ Some body in
          let was : Q k = subst Q mine (genuine cj cf) in
          let inside = among (subst (IsCorrect w) mine cf) mine cj in
          subst P (sym mine) (sym (sent_same ds number inside) ∙ was)
      | inr other ↦
          ap (λ (h : List Event). slice_get (out (group_at w from) h) number) (others_same first ds k from other) ∙ genuine cj cf
    ]

    Forgot : List Action → Type 0
    Forgot ds = AreGenuine w (first ++ ds) → (IsCorrect w k → All (IsAmong w k (history_by w first k)) ds) → AreGenuine w (first ++ elsewhere k ds)

    pub still_genuine : (later : List Action) → AreGenuine w (first ++ later) → (IsCorrect w k → All (IsAmong w k (history_by w first k)) later) → AreGenuine w (first ++ elsewhere k later)
    unfolding Forgot
    still_genuine = by_push Forgot (λ are all. are) step where
      step : (ds : List Action) (d : Action) → Forgot ds → Forgot (ds ++ d ∷ [])
      step ds d forgot are all =
          let whole : first ++ (ds ++ d ∷ []) ≡ (first ++ ds) ++ d ∷ [] = sym (append_assoc first ds (d ∷ [])) in
          let are_before : AreGenuine w (first ++ ds) = genuine_front w (first ++ ds) (first ++ (ds ++ d ∷ [])) (record { rest = d ∷ []; is = whole }) are in
          let before = forgot are_before (λ ck. all_front (IsAmong w k (history_by w first k)) ds (d ∷ []) (all ck)) in
          elim (cases_eq (member_of d) k) [
            | inl here ↦ subst (λ (l : List Action). AreGenuine w (first ++ l)) (sym (elsewhere_here k ds d here)) before
            | inr there ↦
                let last = genuine_still ds d (λ ck. all_last (IsAmong w k (history_by w first k)) ds d (all ck)) (are.each (first ++ ds) d [] whole) in
                let longer = genuine_more w (first ++ elsewhere k ds) d before last in
                subst (λ (l : List Action). AreGenuine w l) (append_assoc first (elsewhere k ds) (d ∷ []) ∙ ap (λ (l : List Action). first ++ l) (sym (elsewhere_other k ds d there))) longer
          ]

  -- ---- where a member kept a beginning of its history

  pub record Split (actions : List Action) (k kept : ℕ) : Type 0 where
    pub first : List Action
    pub later : List Action
    pub is : actions ≡ first ++ later
    pub history : history_by w first k ≡ take kept (history_by w actions k)

  pub split : (k kept : ℕ) (actions : List Action) → Split actions k kept
  split k kept actions = by_push (λ (l : List Action). Split l k kept) none step actions where
    none : Split [] k kept
    none = record {
      first = [];
      later = [];
      is = refl;
      history = no_history w k ∙ nothing kept ∙ ap (take kept) (sym (no_history w k));
    }

    step : (ds : List Action) (d : Action) → Split ds k kept → Split (ds ++ d ∷ []) k kept
    step ds d before = ⊎_elim short long (decide kept (length h)) where
      h : List Event
      h = history_by w ds k

      decide : (m n : ℕ) → (m ≤ n) ⊎ (n + 1 ≤ m)
      decide m n = elim (cases_Bool (leb m n)) [ inl is ↦ inl (grind (arith, nat_tests)) | inr is ↦ inr (grind (arith, nat_tests)) ]

      short : kept ≤ length h → Split (ds ++ d ∷ []) k kept
      short few = record {
        first = before.first;
        later = before.later ++ d ∷ [];
        is = ap (λ (l : List Action). l ++ d ∷ []) before.is ∙ append_assoc before.first before.later (d ∷ []);
        history = before.history ∙ sym (take-append-le kept h (adds w k h d) few) ∙ ap (take kept) (sym (one_more w ds d k));
      }

      long : length h + 1 ≤ kept → Split (ds ++ d ∷ []) k kept
      long many = record {
        first = ds ++ d ∷ [];
        later = [];
        is = sym (append-nil (ds ++ d ∷ []));
        history = sym (take_all kept (history_by w (ds ++ d ∷ []) k) (omega (arith, ap length (one_more w ds d k), length-append h (adds w k h d), adds_few w k h d, many)));
      }

pub forgetting : NoHistoryAtFirst → HistoryByOneMore → HistoriesGrow → OutGrows → GenuineByOneMore → PrefixIsGenuine → ForgettingIsNoLie
forgetting none more grow out_grows genuine_more genuine_front w first later k are among = (
  still_genuine none more grow w out_grows genuine_more genuine_front first k later are among,
  kept_same none more grow w first later k,
  λ i other. others_same none more grow w first later k i other,
)
