-- An instance kept by masks: a vote stands where its place does, and each value has one.
use Rattle.std.proofs.Common.{◌≡◌, ℕ, zero, suc, ◌+◌, ◌<◌, ◌≤◌, Bool, true, false, cond, ◌&&◌, List, [], ◌∷◌, ◌++◌, length, get_or, set, slice_get, Bor, Option, None, Some, is_none, is_some, All, count_by, refl, sym, ap, ap₂, ◌∙◌, subst, arith}
use Rattle.std.specs.Option.{option_or, option_copied}
use Rattle.std.specs.Bool.{then_some}
use Rattle.std.proofs.lemmas.List.{length-set, set-set, get_or-map, get_or-set_same, get_or-set_other}
use Rattle.std.proofs.lemmas.List.Sums.{sum_by-set, count_by-le-length}
use Rattle.std.proofs.lemmas.Option.{slice_get-get_or, slice_get_within}
use Rattle.pay_frame.specs.declared.limits.TheConstants.{MOST_MEMBERS}
use Rattle.pay_echo.specs.Broadcast.{Group, Vote, Send, Echo, Ready, IsForeign, value_of}
use Rattle.pay_echo.specs.Meaning.{Meaning, meaning_of}
use Rattle.pay_echo.specs.Moves.{Foresees}
use Rattle.pay_echo.specs.Step.{vote_at, vote_before, put_echo, put_ready, put_if, with_moves}
use Rattle.pay_echo.specs.Plain.{value_at, votes_at_places, IsPlace, AreDistinct, AreVotePlaces}
use Rattle.pay_echo.specs.Masks.{place_by, votes_by, AreMasks, values_of, masks_of, votes_of, with_vote_for, with_ready_if, IsGrown, meaning_by_masks, IsTallied}
use Rattle.pay_echo.specs.declared.candidate.Candidate.{Candidate}
use Rattle.pay_echo.specs.declared.instance.Moves.{Moves}
use Rattle.pay_echo.specs.declared.instance.VoteKind.{VoteKind}
use Rattle.pay_echo.specs.declared.instance.VoteKind.TheVariants as kind
use Rattle.pay_echo.proofs.Candidates.{length-values, values-grown, length-grown, masks-grown, votes-grown, Shows, same-values, unchanged-Shows, changed-Shows}
use Rattle.pay_echo.proofs.Clauses.{meaning_of-none}
use Rattle.pay_echo.proofs.MaskVotes.{length-votes_by, votes_by-at, votes_by-none, AreMasks-none}
use Rattle.pay_echo.proofs.PlainLemmas.{AreVotePlaces-none, counted-ArePlaces, counted-meaning, length-put_ready}

-- ---- before any vote

pub none_tallied : (g : Group) (candidates : List Candidate) → candidates ≡ [] → g.members ≤ MOST_MEMBERS → g.own < g.members → IsTallied g candidates None
none_tallied g candidates none few own = rw (none) tallied where
  tallied : IsTallied g [] None
  tallied = record {
    are = rw (votes_by-none g.members) (AreVotePlaces-none g [] refl few own);
    masks = λ of. AreMasks-none g.members;
    voted = omega arith;
    few = omega arith;
  }

pub none_known : (g : Group) (candidates : List Candidate) → candidates ≡ [] → g.own < g.members → meaning_by_masks g candidates None ≡ meaning_of g []
none_known g candidates none own = rw (none, votes_by-none g.members) (meaning_of-none g [] own)

-- ---- what a process voted for

vote_at-places : (values : List (List ℕ)) (members : ℕ) (masks : List ℕ) (process : ℕ) → process < members → vote_at (votes_at_places values (votes_by members masks)) process ≡ value_at values (place_by masks process)
vote_at-places values members masks process small =
    let none : Option ℕ = None in
    let nothing : Option (List ℕ) = None in
    get_or-map (value_at values) (votes_by members masks) process none nothing (omega (arith, small, length-votes_by members masks))
    ∙ ap (value_at values) (votes_by-at members masks process small)

-- of candidates that were read
pub voted-value : (members : ℕ) (candidates read : List Candidate) (of : VoteKind) (process : ℕ) (value : Option (List ℕ)) → process < members → read ≡ candidates → value ≡ value_at (values_of read) (place_by (masks_of of read) process) → value ≡ vote_at (votes_at_places (values_of candidates) (votes_of members of candidates)) process
voted-value members candidates read of process value small same is =
    is ∙ ap (λ (cs : List Candidate). value_at (values_of cs) (place_by (masks_of of cs) process)) same
    ∙ sym (vote_at-places (values_of candidates) members (masks_of of candidates) process small)

pub is_some-copied : (o : Option (Bor (List ℕ))) → is_some o ≡ is_some (option_copied o)
is_some-copied None = refl
is_some-copied (Some v) = refl

-- ---- a process voted where a place stands

value-stands : (values : List (List ℕ)) (o : Option ℕ) → IsPlace (length values) o → is_some o ≡ is_some (value_at values o)
value-stands values None place = refl
value-stands values (Some k) place = let none : List ℕ = [] in sym (ap is_some (slice_get-get_or values k none place))

voted-at : (values : List (List ℕ)) (places : List (Option ℕ)) (p : ℕ) → All (IsPlace (length values)) places → is_some (get_or places p None) ≡ is_some (vote_at (votes_at_places values places) p)
voted-at values [] p all = refl
voted-at values (o ∷ places) zero all = value-stands values o (all 0 None (omega arith))
voted-at values (o ∷ places) (suc p) all = voted-at values places p (λ k d below. all (suc k) d (omega arith))

-- ---- how many voted

one_at_most : (b : Bool) → cond b 1 0 ≤ 1
one_at_most true = omega arith
one_at_most false = omega arith

one_more_voted : (places : List (Option ℕ)) (p k : ℕ) → p < length places → get_or places p None ≡ None → count_by is_some (set places p (Some k)) ≡ count_by is_some places + 1
one_more_voted places p k below none =
    let sums = sum_by-set (λ (o : Option ℕ). cond (is_some o) 1 0) places p (Some k) None below in
    let zero_before : ◌≡◌ {A = ℕ} (cond (is_some (get_or places p None)) 1 0) 0 = ap (λ (o : Option ℕ). cond (is_some o) 1 0) none in
    omega (arith, sums, zero_before)

no_fewer_voted : (places : List (Option ℕ)) (p k : ℕ) → p < length places → count_by is_some places ≤ count_by is_some (set places p (Some k))
no_fewer_voted places p k below =
    let sums = sum_by-set (λ (o : Option ℕ). cond (is_some o) 1 0) places p (Some k) None below in
    let most = one_at_most (is_some (get_or places p None)) in
    omega (arith, sums, most)

abbrev place_before : ℕ → Vote → List (Option ℕ) → List (Option ℕ) → Option ℕ
place_before own (Send v) echoes readys = get_or echoes own None
place_before own (Echo p v) echoes readys = get_or echoes p None
place_before own (Ready p v) echoes readys = get_or readys p None

voted-put : (g : Group) (x : Vote) (place : ℕ) (echoes readys : List (Option ℕ)) → g.own < g.members → IsForeign g x → length echoes ≡ g.members → length readys ≡ g.members → place_before g.own x echoes readys ≡ None → count_by is_some (put_echo g.own x place echoes) + count_by is_some (put_ready x place readys) ≡ count_by is_some echoes + count_by is_some readys + 1
voted-put g (Send v) place echoes readys own foreign long longr none =
    let more = one_more_voted echoes g.own place (omega (arith, own, long)) none in
    omega (arith, more)
voted-put g (Echo p v) place echoes readys own foreign long longr none =
    let more = one_more_voted echoes p place (omega (arith, foreign.0, long)) none in
    omega (arith, more)
voted-put g (Ready p v) place echoes readys own foreign long longr none =
    let more = one_more_voted readys p place (omega (arith, foreign.0, longr)) none in
    omega (arith, more)

voted-put_if : (due : Bool) (p place : ℕ) (votes : List (Option ℕ)) → p < length votes → count_by is_some votes ≤ count_by is_some (put_if due p place votes)
voted-put_if true p place votes below = no_fewer_voted votes p place below
voted-put_if false p place votes below = omega arith

-- ---- a vote in the masks

module _ (g : Group) (candidates : List Candidate) (place : ℕ) (c : Candidate) (own : g.own < g.members) (masks : (of : VoteKind) → AreMasks g.members (masks_of of candidates)) (below : place < length candidates) (here : c ≡ get_or candidates place c) where
  abbrev echoes : List (Option ℕ)
  echoes = votes_of g.members kind.Echo candidates

  abbrev readys : List (Option ℕ)
  readys = votes_of g.members kind.Ready candidates

  abbrev with_vote : Vote → List Candidate
  with_vote x = set candidates place (with_vote_for g.own x c)

  echoes-vote : (x : Vote) → IsForeign g x → place_before g.own x echoes readys ≡ None → Shows g.members kind.Echo (with_vote x) (put_echo g.own x place echoes)
  echoes-vote (Send v) foreign first = changed-Shows candidates place c (with_vote_for g.own (Send v) c) below here g.members kind.Echo (masks kind.Echo) g.own own first refl
  echoes-vote (Echo p v) foreign first = changed-Shows candidates place c (with_vote_for g.own (Echo p v) c) below here g.members kind.Echo (masks kind.Echo) p foreign.0 first refl
  echoes-vote (Ready p v) foreign first = unchanged-Shows candidates place c (with_vote_for g.own (Ready p v) c) below here g.members kind.Echo (masks kind.Echo) refl

  readys-vote : (x : Vote) → IsForeign g x → place_before g.own x echoes readys ≡ None → Shows g.members kind.Ready (with_vote x) (put_ready x place readys)
  readys-vote (Send v) foreign first = unchanged-Shows candidates place c (with_vote_for g.own (Send v) c) below here g.members kind.Ready (masks kind.Ready) refl
  readys-vote (Echo p v) foreign first = unchanged-Shows candidates place c (with_vote_for g.own (Echo p v) c) below here g.members kind.Ready (masks kind.Ready) refl
  readys-vote (Ready p v) foreign first = changed-Shows candidates place c (with_vote_for g.own (Ready p v) c) below here g.members kind.Ready (masks kind.Ready) p foreign.0 first refl

  abbrev with_ready : Bool → List Candidate
  with_ready due = set candidates place (with_ready_if due g.own c)

  echoes-ready : (due : Bool) → Shows g.members kind.Echo (with_ready due) echoes
  echoes-ready true = unchanged-Shows candidates place c (with_ready_if true g.own c) below here g.members kind.Echo (masks kind.Echo) refl
  echoes-ready false = unchanged-Shows candidates place c c below here g.members kind.Echo (masks kind.Echo) refl

  readys-ready : (due : Bool) → (due ≡ true → get_or readys g.own None ≡ None) → Shows g.members kind.Ready (with_ready due) (put_if due g.own place readys)
  readys-ready true none = changed-Shows candidates place c (with_ready_if true g.own c) below here g.members kind.Ready (masks kind.Ready) g.own own (none refl) refl
  readys-ready false none = unchanged-Shows candidates place c c below here g.members kind.Ready (masks kind.Ready) refl

with_vote-value : (own : ℕ) (x : Vote) (c : Candidate) → (with_vote_for own x c).value ≡ c.value
with_vote-value own (Send v) c = refl
with_vote-value own (Echo p v) c = refl
with_vote-value own (Ready p v) c = refl

with_ready-value : (due : Bool) (own : ℕ) (c : Candidate) → (with_ready_if due own c).value ≡ c.value
with_ready-value true own c = refl
with_ready-value false own c = refl

-- of the process's own READY another's vote changes nothing
own-put_ready : (g : Group) (x : Vote) (place : ℕ) (votes : List (Option ℕ)) → IsForeign g x → get_or (put_ready x place votes) g.own None ≡ get_or votes g.own None
own-put_ready g (Send v) place votes foreign = refl
own-put_ready g (Echo p v) place votes foreign = refl
own-put_ready g (Ready p v) place votes foreign = get_or-set_other votes p g.own (Some place) None (λ e. foreign.1 (sym e))

-- ---- a vote counted

module _ (g : Group) (before kept : List Candidate) (delivered delivered_now : Option ℕ) (m : Meaning) (x : Vote) (place : ℕ) (c : Candidate) (ready deliver : Bool)
    (tallied : IsTallied g before delivered) (view : meaning_by_masks g before delivered ≡ m) (grown : IsGrown before kept) (distinct : AreDistinct (values_of kept)) (is : slice_get (values_of kept) place ≡ Some (value_of x)) (here : c ≡ get_or kept place c)
    (foreign_m : IsForeign m.group x) (first : is_some (vote_before m x) ≡ false) (none : ready ≡ true → is_some m.readied ≡ false) (delivered_is : delivered_now ≡ option_or (then_some deliver place) delivered) where
  abbrev told : Moves
  told = record { echo = false; ready = ready; deliver = deliver }

  foreign : IsForeign g x
  foreign = subst (λ (n : Meaning). IsForeign n.group x) (sym view) foreign_m

  abbrev once : Candidate
  once = with_vote_for g.own x c

  abbrev now : List Candidate
  now = set kept place (with_ready_if ready g.own once)

  abbrev echoes_before : List (Option ℕ)
  echoes_before = votes_of g.members kind.Echo before

  abbrev readys_before : List (Option ℕ)
  readys_before = votes_of g.members kind.Ready before

  none-of : (o : Option ℕ) → is_some o ≡ false → o ≡ None
  none-of None e = refl
  none-of (Some k) e = cc

  -- what stands in no place before the vote
  first-place : place_before g.own x echoes_before readys_before ≡ None
  first-place = go x (ap (λ (n : Meaning). is_some (vote_before n x)) view ∙ first) where
    go : (y : Vote) → is_some (vote_before (meaning_by_masks g before delivered) y) ≡ false → place_before g.own y echoes_before readys_before ≡ None
    go (Send v) e = none-of (get_or echoes_before g.own None) (voted-at (values_of before) echoes_before g.own tallied.are.echo_places ∙ e)
    go (Echo p v) e = none-of (get_or echoes_before p None) (voted-at (values_of before) echoes_before p tallied.are.echo_places ∙ e)
    go (Ready p v) e = none-of (get_or readys_before p None) (voted-at (values_of before) readys_before p tallied.are.ready_places ∙ e)

  below : place < length kept
  below = omega (arith, slice_get_within (values_of kept) place (value_of x) is, length-values kept)

  masks-kept : (of : VoteKind) → AreMasks g.members (masks_of of kept)
  masks-kept of = masks-grown g.members before kept of grown (tallied.masks of)

  echoes-kept : votes_of g.members kind.Echo kept ≡ echoes_before
  echoes-kept = votes-grown g.members before kept kind.Echo grown (tallied.masks kind.Echo)

  readys-kept : votes_of g.members kind.Ready kept ≡ readys_before
  readys-kept = votes-grown g.members before kept kind.Ready grown (tallied.masks kind.Ready)

  first-kept : place_before g.own x (votes_of g.members kind.Echo kept) (votes_of g.members kind.Ready kept) ≡ None
  first-kept = ap₂ (place_before g.own x) echoes-kept readys-kept ∙ first-place

  -- with the vote, and then with the READY
  abbrev voted_once : List Candidate
  voted_once = set kept place once

  echoes-once : Shows g.members kind.Echo voted_once (put_echo g.own x place (votes_of g.members kind.Echo kept))
  echoes-once = echoes-vote g kept place c tallied.are.own masks-kept below here x foreign first-kept

  readys-once : Shows g.members kind.Ready voted_once (put_ready x place (votes_of g.members kind.Ready kept))
  readys-once = readys-vote g kept place c tallied.are.own masks-kept below here x foreign first-kept

  masks-once : (of : VoteKind) → AreMasks g.members (masks_of of voted_once)
  masks-once kind.Echo = echoes-once.0
  masks-once kind.Ready = readys-once.0

  below-once : place < length voted_once
  below-once = omega (arith, below, length-set kept place once)

  here-once : once ≡ get_or voted_once place once
  here-once = sym (get_or-set_same kept place once once below)

  no_ready : ready ≡ true → get_or (votes_of g.members kind.Ready voted_once) g.own None ≡ None
  no_ready due =
      ap (λ votes. get_or votes g.own None) readys-once.1 ∙ own-put_ready g x place (votes_of g.members kind.Ready kept) foreign
      ∙ ap (λ votes. get_or votes g.own None) readys-kept
      ∙ none-of (get_or readys_before g.own None) (voted-at (values_of before) readys_before g.own tallied.are.ready_places ∙ ap (λ (n : Meaning). is_some n.readied) view ∙ none due)

  twice : set voted_once place (with_ready_if ready g.own once) ≡ now
  twice = set-set kept place once (with_ready_if ready g.own once)

  echoes-twice : Shows g.members kind.Echo now (votes_of g.members kind.Echo voted_once)
  echoes-twice = subst (λ (cs : List Candidate). Shows g.members kind.Echo cs (votes_of g.members kind.Echo voted_once)) twice (echoes-ready g voted_once place once tallied.are.own masks-once below-once here-once ready)

  readys-twice : Shows g.members kind.Ready now (put_if ready g.own place (votes_of g.members kind.Ready voted_once))
  readys-twice =
      subst (λ (cs : List Candidate). Shows g.members kind.Ready cs (put_if ready g.own place (votes_of g.members kind.Ready voted_once))) twice
      (readys-ready g voted_once place once tallied.are.own masks-once below-once here-once ready no_ready)

  masks-now : (of : VoteKind) → AreMasks g.members (masks_of of now)
  masks-now kind.Echo = echoes-twice.0
  masks-now kind.Ready = readys-twice.0

  echoes-now : votes_of g.members kind.Echo now ≡ put_echo g.own x place echoes_before
  echoes-now = echoes-twice.1 ∙ echoes-once.1 ∙ ap (put_echo g.own x place) echoes-kept

  readys-now : votes_of g.members kind.Ready now ≡ put_if ready g.own place (put_ready x place readys_before)
  readys-now = readys-twice.1 ∙ ap (put_if ready g.own place) (readys-once.1 ∙ ap (put_ready x place) readys-kept)

  more : List (List ℕ)
  more = (values-grown before kept grown).0

  values-kept : values_of kept ≡ values_of before ++ more
  unfolding more
  values-kept = (values-grown before kept grown).1

  values-now : values_of now ≡ values_of before ++ more
  values-now =
      same-values kept place c (with_ready_if ready g.own once) below here (with_ready-value ready g.own once ∙ with_vote-value g.own x c)
      ∙ values-kept

  standing : slice_get (values_of before ++ more) place ≡ Some (value_of x)
  standing = ap (λ (vs : List (List ℕ)). slice_get vs place) (sym values-kept) ∙ is

  pub counted-IsTallied : IsTallied g now delivered_now
  counted-IsTallied =
      let are : AreVotePlaces g (values_of now) (votes_of g.members kind.Echo now) (votes_of g.members kind.Ready now) delivered_now =
      rw (delivered_is, values-now, echoes-now, readys-now) (counted-ArePlaces g (values_of before) more echoes_before readys_before delivered x place told tallied.are (subst AreDistinct values-kept distinct) standing) in
      let long : length (put_ready x place readys_before) ≡ g.members = length-put_ready x place readys_before ∙ tallied.are.readied in
      let more_voted = voted-put g x place echoes_before readys_before tallied.are.own foreign tallied.are.echoed tallied.are.readied first-place in
      let no_fewer = voted-put_if ready g.own place (put_ready x place readys_before) (omega (arith, long, tallied.are.own)) in
      let echo_count = ap (count_by is_some) echoes-now in
      let ready_count = ap (count_by is_some) readys-now in
      let one : length now ≤ length before + 1 = omega (arith, length-set kept place (with_ready_if ready g.own once), length-grown before kept grown) in
      let voted : length now ≤ count_by is_some (votes_of g.members kind.Echo now) + count_by is_some (votes_of g.members kind.Ready now) = omega (arith, tallied.voted, more_voted, no_fewer, echo_count, ready_count, one) in
      let echo_most = count_by-le-length is_some (votes_of g.members kind.Echo now) in
      let ready_most = count_by-le-length is_some (votes_of g.members kind.Ready now) in
      record { are = are; masks = masks-now; voted = voted; few = omega (arith, voted, echo_most, ready_most, are.echoed, are.readied) }

  pub counted-view : meaning_by_masks g now delivered_now ≡ with_moves m x told
  counted-view =
      rw (← view, delivered_is, values-now, echoes-now, readys-now) (counted-meaning g (values_of before) more echoes_before readys_before delivered x place told tallied.are (subst AreDistinct values-kept distinct) standing foreign)

-- ---- one's own READY, where there is none

-- what is foreseen makes no second READY
pub Foresees-own : (m : Meaning) (x : Vote) (moves : Moves) (ready : Bool) → Foresees m x moves → ready ≡ (moves.ready && is_none m.readied) → Foresees m x (record { echo = moves.echo; ready = ready; deliver = moves.deliver })
Foresees-own m x moves ready told e g votes is =
    let it = told g votes is in
    record {
      echo = it.echo;
      ready = e ∙ ap (λ b. b && is_none m.readied) it.ready ∙ twice (is_none m.readied) _ ∙ refl;
      deliver = it.deliver;
    } where
      twice : (a b : Bool) → ((a && b) && a) ≡ (a && b)
      twice true true = refl
      twice true false = refl
      twice false b = refl
