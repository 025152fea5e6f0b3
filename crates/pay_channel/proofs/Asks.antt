-- The SENDs of the sent list are the values asked for.
use Rattle.std.proofs.Common.{◌≡◌, ◌≢◌, ℕ, zero, suc, ◌+◌, ◌<◌, Bool, true, false, cond, ◌&&◌, eqb, List, [], ◌∷◌, ◌++◌, map, filter, length, slice_get, Option, None, Some, option_to_list, Contains, All, refl, sym, ap, ap₂, ◌∙◌, subst, arith, append-nil, eqb-true, eq-eqb, ne_eqb, length-append, add-zero, zero-add}
use Rattle.std.specs.List.{filter_map, enumerate_from}
use Rattle.std.specs.Option.{option_or}
use Rattle.std.proofs.lemmas.Bool.{cond-true, cond-false, cases_Bool, and_parts}
use Rattle.std.proofs.lemmas.Bool.Decides.{nat_tests}
use Rattle.std.proofs.lemmas.List.{get_or_append_left}
use Rattle.std.proofs.lemmas.List.Elements.{filter-append, filter_map-append, All-contains, Contains-push}
use Rattle.pay_frame.specs.declared.body.Kind.{Kind}
use Rattle.pay_frame.specs.declared.body.Kind.TheVariants.{Send, Echo, Ready, Want}
use Rattle.pay_frame.specs.Frame.{BodyFields}
use Rattle.pay_echo.specs.Broadcast as one
use Rattle.pay_echo.specs.Broadcast.{Group, Vote, value_if_send, echoed, readied}
use Rattle.pay_echo.specs.Laws.{EchoedByOneMore}
use Rattle.pay_channel.specs.History.{Event, IsEvent, Ask, From, asks, owner_of, seq_of, vote_of, is_about, votes_in, votes, body_of, newly, send_of, says, out}
use Rattle.pay_channel.specs.Asked.{ask_of, asked_values, is_send_kind, sends_in, sends_of}
use Rattle.pay_channel.specs.SentLaws.{NothingAskedAtFirst, AskedByOneMore, AskedGrows, AsksAreCounted, SendsAreAsks, SendInOut, SentIsAsked, OwnEchoIsAsk}
use Rattle.pay_channel.proofs.Lists.{either, by_push, option_or-None, Contains-filter, filter-Contains, filter-both}
use Rattle.pay_channel.proofs.Project.{votes-push, asks-push, out-push, votes_in-other, votes_in-here}
use Rattle.pay_channel.proofs.InOut.{newly-apart}

-- ---- values asked for

pub nothing_asked_at_first : NothingAskedAtFirst
unfolding asked_values
nothing_asked_at_first = refl

pub asked_grows : AskedGrows
unfolding asked_values
asked_grows history more = filter_map-append ask_of history more

pub asked_values-ask : (history : List Event) (v : List ℕ) → asked_values (history ++ Ask v ∷ []) ≡ asked_values history ++ v ∷ []
unfolding asked_values
asked_values-ask history v = filter_map-append ask_of history (Ask v ∷ [])

pub asked_values-from : (history : List Event) (p : ℕ) (body : BodyFields) → asked_values (history ++ From p body ∷ []) ≡ asked_values history
unfolding asked_values
asked_values-from history p body = filter_map-append ask_of history (From p body ∷ []) ∙ append-nil (filter_map ask_of history)

pub asked_by_one_more : AskedByOneMore
asked_by_one_more history (Ask v) = asked_values-ask history v
asked_by_one_more history (From p body) = asked_values-from history p body ∙ sym (append-nil (asked_values history))

abbrev IsCounted : List Event → Type 0
IsCounted history = asks history ≡ length (asked_values history)

IsCounted-push : (history : List Event) (e : Event) → IsCounted history → IsCounted (history ++ e ∷ [])
IsCounted-push history (Ask v) before =
    omega (arith, asks-push history (Ask v), before, ap length (asked_values-ask history v), length-append (asked_values history) (v ∷ []))
IsCounted-push history (From p body) before = asks-push history (From p body) ∙ before ∙ ap length (sym (asked_values-from history p body))

pub asks_are_counted : AsksAreCounted
unfolding asks asked_values
asks_are_counted history = by_push IsCounted refl IsCounted-push history

-- ---- numbered values

-- values as SENDs of an account, numbered from n
abbrev sends_from : ℕ → ℕ → List (List ℕ) → List BodyFields
sends_from a n values = map (λ x. body_of Send a x.0 x.1) (enumerate_from n values)

sends_from-push : (a n : ℕ) (values : List (List ℕ)) (v : List ℕ) → sends_from a n (values ++ v ∷ []) ≡ sends_from a n values ++ body_of Send a (n + length values) v ∷ []
sends_from-push a n [] v = ap (λ k. body_of Send a k v ∷ []) (sym (add-zero n))
sends_from-push a n (w ∷ values) v =
    let place : (n + 1) + length values ≡ n + length (w ∷ values) = omega arith in
    ap (λ (xs : List BodyFields). body_of Send a n w ∷ xs) (sends_from-push a (n + 1) values v)
    ∙ ap (λ k. (body_of Send a n w ∷ sends_from a (n + 1) values) ++ body_of Send a k v ∷ []) place

-- what stands among them
Contains-sends : (own a n s : ℕ) (values : List (List ℕ)) (v : List ℕ) → Contains (sends_from own n values) (body_of Send a s v) → (a ≡ own) × ((k : ℕ) × (s ≡ n + k) × (slice_get values k ≡ Some v))
Contains-sends own a n s [] v (k, below, is) = absurd (omega arith)
Contains-sends own a n s (w ∷ values) v (zero, below, is) = (
  sym (ap (λ (b : BodyFields). b.owner) is),
  (zero, sym (ap (λ (b : BodyFields). b.seq) is) ∙ sym (add-zero n), ap (λ (b : BodyFields). Some b.value) is),
)
Contains-sends own a n s (w ∷ values) v (suc k, below, is) =
    let rest = Contains-sends own a (n + 1) s values v (k, omega arith, is) in
    let found = rest.1 in
    let place : (n + 1) + found.0 ≡ n + suc found.0 = omega arith in
    (rest.0, (suc found.0, found.1 ∙ place, found.2))

sends-Contains : (own n k : ℕ) (values : List (List ℕ)) (v : List ℕ) → slice_get values k ≡ Some v → Contains (sends_from own n values) (body_of Send own (n + k) v)
sends-Contains own n k [] v is = cc
sends-Contains own n zero (w ∷ values) v is =
    (zero, omega arith, ap₂ (λ s x. body_of Send own s x) (sym (add-zero n)) (some_same w v is)) where
      some_same : (x y : List ℕ) → Some x ≡ Some y → x ≡ y
      some_same x y e = cc
sends-Contains own n (suc k) (w ∷ values) v is =
    let rest = sends-Contains own (n + 1) k values v is in
    let place : (n + 1) + k ≡ n + suc k = omega arith in
    let P : ℕ → Type 0 = λ s. Contains (sends_from own n (w ∷ values)) (body_of Send own s v) in
    subst P place (suc rest.0, omega arith, rest.2)

-- ---- the SENDs of the sent list

sends-of_says : (g : Group) (history : List Event) (e : Event) → sends_in (says g history e) ≡ send_of g.own (asks history) e
unfolding says
sends-of_says g history e =
    let a = owner_of g.own e in
    let s = seq_of (asks history) e in
    let before = votes g.own a s history in
    let after = votes g.own a s (history ++ e ∷ []) in
    let send = send_of g.own (asks history) e in
    let echo = newly Echo a s (echoed before) (echoed after) in
    let ready = newly Ready a s (readied g before) (readied g after) in
    let is : BodyFields → Bool = λ body. is_send_kind body.kind in
    filter-append is (send ++ echo) ready
    ∙ ap₂ (λ (xs ys : List BodyFields). xs ++ ys)
    (filter-append is send echo ∙ ap (λ (xs : List BodyFields). filter is send ++ xs) (newly-apart is Echo a s (echoed before) (echoed after) (λ v. refl)) ∙ append-nil (filter is send))
    (newly-apart is Ready a s (readied g before) (readied g after) (λ v. refl))
    ∙ append-nil (filter is send)
    ∙ kept g.own (asks history) e where
      kept : (own k : ℕ) (x : Event) → sends_in (send_of own k x) ≡ send_of own k x
      kept own k (Ask v) = refl
      kept own k (From p body) = refl

module _ (g : Group) where
  HasSends : List Event → Type 0
  HasSends history = sends_in (out g history) ≡ sends_of g.own (asked_values history)

  numbered : (history : List Event) (e : Event) → sends_of g.own (asked_values history) ++ send_of g.own (asks history) e ≡ sends_of g.own (asked_values (history ++ e ∷ []))
  numbered history (Ask v) =
      let place : asks history ≡ 0 + length (asked_values history) = asks_are_counted history ∙ sym (zero-add (length (asked_values history))) in
      ap (λ k. sends_of g.own (asked_values history) ++ body_of Send g.own k v ∷ []) place
      ∙ sym (sends_from-push g.own 0 (asked_values history) v)
      ∙ ap (sends_of g.own) (sym (asked_values-ask history v))
  numbered history (From p body) = append-nil (sends_of g.own (asked_values history)) ∙ ap (sends_of g.own) (sym (asked_values-from history p body))

  HasSends-push : (history : List Event) (e : Event) → HasSends history → HasSends (history ++ e ∷ [])
  unfolding HasSends
  HasSends-push history e before =
      ap sends_in (out-push g history e)
      ∙ filter-append (λ (body : BodyFields). is_send_kind body.kind) (out g history) (says g history e)
      ∙ ap₂ (λ (xs ys : List BodyFields). xs ++ ys) before (sends-of_says g history e)
      ∙ numbered history e

pub sends_are_asks : SendsAreAsks
unfolding HasSends out asked_values
sends_are_asks g history = by_push (HasSends g) refl (HasSends-push g) history

pub sent_is_asked : SentIsAsked
sent_is_asked g history a s v = (there, back) where
  there : Contains (out g history) (body_of Send a s v) → (a ≡ g.own) × (slice_get (asked_values history) s ≡ Some v)
  there at =
      let P : List BodyFields → Type 0 = λ xs. Contains xs (body_of Send a s v) in
      let kept = Contains-filter (λ (body : BodyFields). is_send_kind body.kind) (out g history) (body_of Send a s v) refl at in
      let found = Contains-sends g.own a 0 s (asked_values history) v (subst P (sends_are_asks g history) kept) in
      let place = found.1 in
      (found.0, ap (slice_get (asked_values history)) (place.1 ∙ zero-add place.0) ∙ place.2)

  back : (a ≡ g.own) × (slice_get (asked_values history) s ≡ Some v) → Contains (out g history) (body_of Send a s v)
  back is =
      let P : List BodyFields → Type 0 = λ xs. Contains xs (body_of Send g.own s v) in
      let Q : ℕ → Type 0 = λ k. Contains (sends_of g.own (asked_values history)) (body_of Send g.own k v) in
      let R : ℕ → Type 0 = λ b. Contains (out g history) (body_of Send b s v) in
      let among : Contains (sends_of g.own (asked_values history)) (body_of Send g.own s v) = subst Q (zero-add s) (sends-Contains g.own 0 s (asked_values history) v is.1) in
      let kept = subst P (sym (sends_are_asks g history)) among in
      subst R (sym is.0) (filter-Contains (λ (body : BodyFields). is_send_kind body.kind) (out g history) (body_of Send g.own s v) kept)

-- ---- one number's SENDs

is_at : ℕ → ℕ → BodyFields → Bool
is_at a s body = eqb body.owner a && eqb body.seq s

-- numbers from n on: those below aren't there, the others are at their place
module _ (a s : ℕ) where
  numbered-below : (n : ℕ) (values : List (List ℕ)) → s < n → filter (is_at a s) (sends_from a n values) ≡ []
  unfolding is_at
  numbered-below n [] below = refl
  numbered-below n (v ∷ values) below =
      let apart : (eqb a a && eqb n s) ≡ false = ap₂ ◌&&◌ (eq-eqb a a refl) (ne_eqb n s (λ e. omega arith)) in
      cond-false (eqb a a && eqb n s) (body_of Send a n v ∷ filter (is_at a s) (sends_from a (n + 1) values)) (filter (is_at a s) (sends_from a (n + 1) values)) apart
      ∙ numbered-below (n + 1) values (omega arith)

  numbered-at : (n k : ℕ) (values : List (List ℕ)) → s ≡ n + k → filter (is_at a s) (sends_from a n values) ≡ map (body_of Send a s) (option_to_list (slice_get values k))
  unfolding is_at
  numbered-at n k [] place = refl
  numbered-at n zero (v ∷ values) place =
      let here : n ≡ s = omega arith in
      let same : (eqb a a && eqb n s) ≡ true = ap₂ ◌&&◌ (eq-eqb a a refl) (eq-eqb n s here) in
      cond-true (eqb a a && eqb n s) (body_of Send a n v ∷ filter (is_at a s) (sends_from a (n + 1) values)) (filter (is_at a s) (sends_from a (n + 1) values)) same
      ∙ ap₂ (λ m (xs : List BodyFields). body_of Send a m v ∷ xs) here (numbered-below (n + 1) values (omega arith))
  numbered-at n (suc k) (v ∷ values) place =
      let apart : (eqb a a && eqb n s) ≡ false = ap₂ ◌&&◌ (eq-eqb a a refl) (ne_eqb n s (λ e. omega arith)) in
      cond-false (eqb a a && eqb n s) (body_of Send a n v ∷ filter (is_at a s) (sends_from a (n + 1) values)) (filter (is_at a s) (sends_from a (n + 1) values)) apart
      ∙ numbered-at (n + 1) k values (omega arith)

pub send_in_out : SendInOut
unfolding is_at
send_in_out g history s =
    filter-both (λ (body : BodyFields). is_send_kind body.kind) (is_at g.own s) (out g history)
    ∙ ap (filter (is_at g.own s)) (sends_are_asks g history)
    ∙ numbered-at g.own s 0 s (asked_values history) (sym (zero-add s))

-- ---- what is echoed of one's own

slice_get-push : (xs : List (List ℕ)) (x : List ℕ) (s : ℕ) → slice_get (xs ++ x ∷ []) s ≡ option_or (slice_get xs s) (cond (eqb (length xs) s) (Some x) None)
slice_get-push [] x zero = refl
slice_get-push [] x (suc s) = sym (cond-false (eqb 0 (suc s)) (Some x) None (ne_eqb 0 (suc s) (λ e. omega arith)))
slice_get-push (y ∷ xs) x zero = refl
slice_get-push (y ∷ xs) x (suc s) = slice_get-push xs x s ∙ ap (λ b. option_or (slice_get xs s) (cond b (Some x) None)) shifted where
  shifted : eqb (length xs) s ≡ eqb (length (y ∷ xs)) (suc s)
  shifted = grind (arith, nat_tests)

-- a vote that is no SEND
IsNoSend : Option Vote → Type 0
IsNoSend None = Unit {0}
IsNoSend (Some x) = value_if_send x ≡ None

module _ (echoed-push : EchoedByOneMore) where
  echoed-no_send : (vs : List Vote) (o : Option Vote) → IsNoSend o → echoed (vs ++ option_to_list o) ≡ echoed vs
  unfolding IsNoSend
  echoed-no_send vs None none = ap echoed (append-nil vs)
  echoed-no_send vs (Some x) none = echoed-push vs x ∙ ap (option_or (echoed vs)) none ∙ option_or-None (echoed vs)

  -- no other member's body is a SEND in one's own broadcasts
  no_send_of : (own p s : ℕ) (kind : Kind) (v : List ℕ) → p ≢ own → IsNoSend (vote_of (From p (body_of kind own s v)))
  unfolding IsNoSend value_if_send
  no_send_of own p s Send v ne = subst IsNoSend (sym (cond-false (eqb p own) (Some (one.Send v)) None (ne_eqb p own ne))) tt
  no_send_of own p s Echo v ne = refl
  no_send_of own p s Ready v ne = refl
  no_send_of own p s Want v ne = tt

  echoed-from : (vs : List Vote) (own k s p : ℕ) (body : BodyFields) → p ≢ own → echoed (vs ++ votes_in own own s k (From p body)) ≡ echoed vs
  echoed-from vs own k s p body ne =
      either (cases_Bool (is_about own own s k (From p body)))
      (λ about.
      let mine : body.owner ≡ own = eqb-true body.owner own (and_parts (eqb body.owner own) (eqb body.seq s) about).0 in
      let P : ℕ → Type 0 = λ a. IsNoSend (vote_of (From p (body_of body.kind a body.seq body.value))) in
      ap (λ more. echoed (vs ++ more)) (votes_in-here own own s k (From p body) about)
      ∙ echoed-no_send vs (vote_of (From p body)) (subst P (sym mine) (no_send_of own p body.seq body.kind body.value ne)))
      (λ about. ap (λ more. echoed (vs ++ more)) (votes_in-other own own s k (From p body) about) ∙ ap echoed (append-nil vs))

  -- an ask is a SEND in the broadcast of its number
  echoed-ask : (vs : List Vote) (own k s : ℕ) (v : List ℕ) → echoed (vs ++ votes_in own own s k (Ask v)) ≡ option_or (echoed vs) (cond (eqb k s) (Some v) None)
  unfolding votes_in value_if_send
  echoed-ask vs own k s v =
      ap (λ b. echoed (vs ++ cond (b && eqb k s) (one.Send v ∷ []) [])) (eq-eqb own own refl) ∙ go (eqb k s) where
        go : (b : Bool) → echoed (vs ++ cond b (one.Send v ∷ []) []) ≡ option_or (echoed vs) (cond b (Some v) None)
        go true = echoed-push vs (one.Send v)
        go false = ap echoed (append-nil vs) ∙ sym (option_or-None (echoed vs))

  module _ (g : Group) (s : ℕ) where
    EchoesAsk : List Event → Type 0
    EchoesAsk history = All (IsEvent g) history → echoed (votes g.own g.own s history) ≡ slice_get (asked_values history) s

    EchoesAsk-more : (history : List Event) (e : Event) → IsEvent g e → echoed (votes g.own g.own s history) ≡ slice_get (asked_values history) s → echoed (votes g.own g.own s history ++ votes_in g.own g.own s (asks history) e) ≡ slice_get (asked_values (history ++ e ∷ [])) s
    EchoesAsk-more history (Ask v) event before =
        echoed-ask (votes g.own g.own s history) g.own (asks history) s v
        ∙ ap₂ (λ (o : Option (List ℕ)) k. option_or o (cond (eqb k s) (Some v) None)) before (asks_are_counted history)
        ∙ sym (slice_get-push (asked_values history) v s)
        ∙ ap (λ (xs : List (List ℕ)). slice_get xs s) (sym (asked_values-ask history v))
    EchoesAsk-more history (From p body) event before =
        echoed-from (votes g.own g.own s history) g.own (asks history) s p body event.1
        ∙ before
        ∙ ap (λ (xs : List (List ℕ)). slice_get xs s) (sym (asked_values-from history p body))

    EchoesAsk-push : (history : List Event) (e : Event) → EchoesAsk history → EchoesAsk (history ++ e ∷ [])
    unfolding EchoesAsk
    EchoesAsk-push history e before events =
        let longer : length (history ++ e ∷ []) ≡ length history + 1 = length-append history (e ∷ []) in
        let shorter : All (IsEvent g) history = λ k d below. subst (IsEvent g) (get_or_append_left history (e ∷ []) d k below) (events k d (omega arith)) in
        ap echoed (votes-push g.own g.own s history e)
        ∙ EchoesAsk-more history e (All-contains (IsEvent g) (history ++ e ∷ []) e events (Contains-push history e)) (before shorter)

pub own_echo_is_ask : EchoedByOneMore → OwnEchoIsAsk
unfolding EchoesAsk votes echoed asked_values
own_echo_is_ask echoed-push g history s = by_push (EchoesAsk echoed-push g s) (λ _. refl) (EchoesAsk-push echoed-push g s) history
