-- What correct members export, by the actions that they took.
use Rattle.std.proofs.Common.{◌≡◌, ◌⊎◌, inl, inr, ℕ, zero, suc, ◌+◌, ◌<◌, ◌≤◌, Bool, true, false, ltb, unwrap_or, List, [], ◌∷◌, ◌++◌, map, length, slice_get, slice_index, Option, Some, None, option_map, refl, ap, sym, subst, ◌∙◌, arith}
use Rattle.std.specs.List.{range_with_len}
use Rattle.std.proofs.lemmas.List.{length-map}
use Rattle.std.proofs.lemmas.Bool.{ltb-false, ltb-true}
use Rattle.std.proofs.lemmas.List.Elements.{All-cons, All-nil}
use Rattle.std.proofs.lemmas.List.FromFn.{get_or-range_with_len, length-range_with_len}
use Rattle.std.proofs.lemmas.Option.{get_or_from_slice_get, same_Some, slice_get-get_or, slice_get-map, slice_get_past, unwrap_or-slice_get}
use Rattle.pay_channel.specs.Prefix.{IsPrefix}
use Rattle.pay_channel.specs.History.{Event, list_of, seqs}
use Rattle.pay_channel.specs.ListLaws.{ListIsShort}
use Rattle.pay_link.specs.Genesis.{GenesisFields, IsGenesis}
use Rattle.pay_book.specs.Balance.{AreBalances}
use Rattle.pay_book.specs.Book.{Standing}
use Rattle.pay_book.specs.Front.{IsLargest}
use Rattle.pay_book.specs.Laws.{EqualListsEqualBooks, LargestIsComputed, SettledBookExists}
use Rattle.pay_book.specs.Settled.{settled_book}
use Rattle.pay_member.specs.Book.{book_after}
use Rattle.pay_member.specs.Events.{events}
use Rattle.pay_member.specs.Group.{group_in}
use Rattle.pay_member.specs.Member.{MemberFields}
use Rattle.pay_world.specs.Setting.{HasFewFaulty, IsCorrect, setting_by}
use Rattle.pay_world.specs.Actions.{Action, history_by}
use Rattle.pay_world.specs.Genuine.{AreGenuine}
use Rattle.pay_world.specs.Headline.{lists_by}
use Rattle.pay_world.specs.HeadlineLaws.{NoListForks}
use Rattle.pay_audit.specs.Export.{AreShort, ExportFields, IsExport, list_in, lists_of}
use Rattle.pay_audit.specs.Exporting.{export_of}
use Rattle.pay_audit.specs.Laws.{AgreeWith, Agreeing, HasRightBalances, HasRightFront, logs_of}
use Rattle.pay_audit.specs.Said.{CleanIsJudged, Each, EachTwo, IsClean}
use Rattle.pay_audit.specs.Verdict.{verdict_of}
use Rattle.pay_audit.specs.declared.auditing.Verdict.TheVariants.{Clean}
use Rattle.pay_laws.specs.Moments.{IsCorrectMember}

-- ---- a list for each account

range_at : (n a : ℕ) → a < n → slice_get (range_with_len 0 n) a ≡ Some a
range_at n a below =
    slice_get-get_or (range_with_len 0 n) a 0 (subst (λ k. a < k) (sym (length-range_with_len 0 n)) below)
    ∙ ap (λ (k : ℕ). Some k) (get_or-range_with_len 0 n a 0 below ∙ (let e : 0 + a ≡ a = omega arith in e))

shown_at : (f : ℕ → List (List ℕ)) (n a : ℕ) → a < n → slice_get (map f (range_with_len 0 n)) a ≡ Some (f a)
shown_at f n a below = slice_get-map f (range_with_len 0 n) a ∙ ap (option_map f) (range_at n a below)

pub shown : (f : ℕ → List (List ℕ)) (n a : ℕ) → a < n → list_in (map f (range_with_len 0 n)) a ≡ f a
shown f n a below = get_or_from_slice_get (map f (range_with_len 0 n)) a (f a) [] (shown_at f n a below)

count : (f : ℕ → List (List ℕ)) (n : ℕ) → length (map f (range_with_len 0 n)) ≡ n
count f n = length-map (range_with_len 0 n) f ∙ length-range_with_len 0 n

-- nobody else has one
past : (f : ℕ → List (List ℕ)) (n a : ℕ) → n ≤ a → list_in (map f (range_with_len 0 n)) a ≡ []
past f n a behind =
    sym (unwrap_or-slice_get (map f (range_with_len 0 n)) a [])
    ∙ ap (λ o. unwrap_or o []) (slice_get_past (map f (range_with_len 0 n)) a (subst (λ k. k ≤ a) (sym (count f n)) behind))

all_short : (f : ℕ → List (List ℕ)) → ((a : ℕ) → length (f a) ≤ seqs) → (ns : List ℕ) → AreShort (map f ns)
all_short f short [] = All-nil (λ (l : List (List ℕ)). length l ≤ seqs)
all_short f short (n ∷ ns) = All-cons (λ (l : List (List ℕ)). length l ≤ seqs) (f n) (map f ns) (short n) (all_short f short ns)

-- ---- lists of which one begins with the other

more_there : {X : Type 0} (xs more : List X) (s : ℕ) (x : X) → slice_get xs s ≡ Some x → slice_get (xs ++ more) s ≡ Some x
more_there [] more s x at = absurd cc
more_there (y ∷ xs) more zero x at = at
more_there (y ∷ xs) more (suc s) x at = more_there xs more s x at

begins_agree : (xs ys : List (List ℕ)) → IsPrefix xs ys → Agreeing xs ys
begins_agree xs ys p s v w hv hw =
    same_Some v w (sym (more_there xs p.rest s v hv) ∙ sym (ap (λ l. slice_get l s) p.is) ∙ hw)

either_agree : (xs ys : List (List ℕ)) → IsPrefix xs ys ⊎ IsPrefix ys xs → Agreeing xs ys
either_agree xs ys (inl p) = begins_agree xs ys p
either_agree xs ys (inr p) = λ s v w hv hw. sym (begins_agree ys xs p s w v hw hv)

-- ---- what one member exports

-- the export of a member that has these lists
abbrev pub export_with : GenesisFields → ℕ → (ℕ → List (List ℕ)) → ExportFields
export_with g own lists = record {
  genesis = g;
  member = own;
  lists = map lists (range_with_len 0 g.members);
  front = (settled_book g.opening lists).front;
  balances = (settled_book g.opening lists).balances;
}

exported_is : (m : MemberFields) → export_of m ≡ export_with m.genesis m.keys.own (list_of (group_in m.genesis m.keys.own) (events m.history))
unfolding book_after
exported_is m = refl

export_by : GenesisFields → ℕ → List Event → ExportFields
export_by g own history = export_with g own (list_of (group_in g own) history)

pub exported_by : (m : MemberFields) (g : GenesisFields) (history : List Event) → m.genesis ≡ g → events m.history ≡ history
    → export_of m ≡ export_with g m.keys.own (list_of (group_in g m.keys.own) history)
unfolding export_by
exported_by m g history same took =
    exported_is m ∙ ap (λ h. export_by h m.keys.own (events m.history)) same ∙ ap (λ h. export_by g m.keys.own h) took

agree_of_lists : (g : GenesisFields) (i j : ℕ) (one other : ℕ → List (List ℕ)) → ((a : ℕ) → Agreeing (one a) (other a))
    → AgreeWith (export_with g i one) (export_with g j other)
agree_of_lists g i j one other same a = go (ltb a g.members) refl where
  go : (b : Bool) → ltb a g.members ≡ b → Agreeing (list_in (map one (range_with_len 0 g.members)) a) (list_in (map other (range_with_len 0 g.members)) a)
  go true is =
      let below = ltb-true a g.members is in
      subst (λ l. Agreeing l (list_in (map other (range_with_len 0 g.members)) a)) (sym (shown one g.members a below))
      (subst (λ l. Agreeing (one a) l) (sym (shown other g.members a below)) (same a))
  go false is =
      let behind : g.members ≤ a = ltb-false a g.members is in
      subst (λ l. Agreeing l (list_in (map other (range_with_len 0 g.members)) a)) (sym (past one g.members a behind)) (λ s v w hv hw. absurd cc)

module _ (computed : LargestIsComputed) (exists : SettledBookExists) (equal : EqualListsEqualBooks) where
  sound_with : (g : GenesisFields) (own : ℕ) (lists : ℕ → List (List ℕ)) → IsGenesis g → own < g.members → ((a : ℕ) → length (lists a) ≤ seqs)
      → IsExport (export_with g own lists)
  sound_with g own lists genesis known short = record {
    genesis = genesis;
    member = known;
    lists = count lists g.members;
    front = (exists g.opening lists).is.one_for_each ∙ genesis.opening;
    balances = (exists g.opening lists).is.are.one_for_each ∙ genesis.opening;
    short = all_short lists short (range_with_len 0 g.members);
  }

  -- the book of what is shown is the member's own
  same_book : (g : GenesisFields) (own : ℕ) (lists : ℕ → List (List ℕ)) → IsGenesis g
      → settled_book g.opening (lists_of (export_with g own lists)) ≡ settled_book g.opening lists
  same_book g own lists genesis =
      let of_shown = settled_book g.opening (lists_of (export_with g own lists)) in
      equal (lists_of (export_with g own lists)) lists of_shown (settled_book g.opening lists) refl
      (λ a below. shown lists g.members a (omega (arith, below, genesis.opening)))
      (exists g.opening (lists_of (export_with g own lists))) (exists g.opening lists)

  right_front : (g : GenesisFields) (own : ℕ) (lists : ℕ → List (List ℕ)) → IsGenesis g → HasRightFront (export_with g own lists)
  right_front g own lists genesis =
      let Right : Standing → Type 0 = λ b. IsLargest g.opening (logs_of (export_with g own lists)) (slice_index b.front) in
      subst Right (same_book g own lists genesis) (computed g.opening (logs_of (export_with g own lists))).1

  right_balances : (g : GenesisFields) (own : ℕ) (lists : ℕ → List (List ℕ)) → IsGenesis g → HasRightBalances (export_with g own lists)
  right_balances g own lists genesis =
      let Right : Standing → Type 0 = λ b. AreBalances g.opening (logs_of (export_with g own lists)) (slice_index b.front) b.balances in
      subst Right (same_book g own lists genesis) (exists g.opening (lists_of (export_with g own lists))).is.are

-- ---- what all of them export

-- an export is that of a correct member at a moment
record IsOf (g : GenesisFields) (faulty : ℕ → Bool) (actions : List Action) (e : ExportFields) : Type 0 where
  own : ℕ
  until : List Action
  correct : IsCorrect (setting_by g faulty) own
  moment : IsPrefix until actions
  is : e ≡ export_with g own (lists_by (setting_by g faulty) until own)

exported_at : (members : List MemberFields) (x : ℕ) (e : ExportFields) → slice_get (map export_of members) x ≡ Some e
    → (m : MemberFields) × (slice_get members x ≡ Some m) × (export_of m ≡ e)
exported_at members x e got = go (slice_get members x) refl (sym (slice_get-map export_of members x) ∙ got) where
  go : (o : Option MemberFields) → slice_get members x ≡ o → option_map export_of o ≡ Some e
      → (m : MemberFields) × (slice_get members x ≡ Some m) × (export_of m ≡ e)
  go None here h = absurd cc
  go (Some m) here h = (m, here, same_Some (export_of m) e h)

each_is_of :
    (g : GenesisFields) (faulty : ℕ → Bool) (actions : List Action) (members : List MemberFields)
    → ((k : ℕ) (m : MemberFields) → slice_get members k ≡ Some m → IsCorrectMember g faulty actions m)
    → Each (IsOf g faulty actions) (map export_of members)
each_is_of g faulty actions members are x e got =
    let found = exported_at members x e got in
    let m = found.0 in
    let c = are x m found.1 in
    record {
      own = m.keys.own;
      until = c.until;
      correct = c.correct;
      moment = c.moment;
      is = sym found.2 ∙ exported_by m g (history_by (setting_by g faulty) c.until m.keys.own) c.genesis c.took;
    }

-- the law, premise by premise
pub clean_exports :
    CleanIsJudged → EqualListsEqualBooks → LargestIsComputed → SettledBookExists → ListIsShort → NoListForks
    → (g : GenesisFields) (faulty : ℕ → Bool) (actions : List Action) (members : List MemberFields)
    → IsGenesis g → HasFewFaulty (setting_by g faulty) → AreGenuine (setting_by g faulty) actions
    → ((k : ℕ) (m : MemberFields) → slice_get members k ≡ Some m → IsCorrectMember g faulty actions m)
    → verdict_of (map export_of members) ≡ Clean
clean_exports judged equal computed exists short no_fork g faulty actions members genesis few genuine are =
    (judged (map export_of members) sound).1 clean where
      of : Each (IsOf g faulty actions) (map export_of members)
      of = each_is_of g faulty actions members are

      sound : Each IsExport (map export_of members)
      sound x e got =
          let m = of x e got in
          subst IsExport (sym m.is) (sound_with computed exists equal g m.own (lists_by (setting_by g faulty) m.until m.own) genesis m.correct.member
          (short (group_in g m.own) (history_by (setting_by g faulty) m.until m.own)))

      agree : EachTwo AgreeWith (map export_of members)
      agree x y one other got_one got_other =
          let m = of x one got_one in
          let n = of y other got_other in
          let mine = lists_by (setting_by g faulty) m.until m.own in
          let theirs = lists_by (setting_by g faulty) n.until n.own in
          subst (λ e. AgreeWith e other) (sym m.is)
          (subst (λ e. AgreeWith (export_with g m.own mine) e) (sym n.is)
          (agree_of_lists g m.own n.own mine theirs (λ a.
          either_agree (mine a) (theirs a)
          (no_fork (setting_by g faulty) actions m.until n.until m.own n.own a few genuine m.moment n.moment m.correct n.correct))))

      clean : IsClean (map export_of members)
      clean = record {
        geneses = λ x y one other got_one got_other.
            ap (λ e. e.genesis) (of x one got_one).is ∙ sym (ap (λ e. e.genesis) (of y other got_other).is);
        fronts = λ x e got.
            (let m = of x e got in
            subst HasRightFront (sym m.is) (right_front computed exists equal g m.own (lists_by (setting_by g faulty) m.until m.own) genesis));
        balances = λ x e got.
            (let m = of x e got in
            subst HasRightBalances (sym m.is) (right_balances computed exists equal g m.own (lists_by (setting_by g faulty) m.until m.own) genesis));
        lists = agree;
      }
