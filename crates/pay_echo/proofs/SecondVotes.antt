-- A second vote of a place changes nothing.
use Rattle.std.proofs.Common.{◌≡◌, ◌≢◌, ℕ, ◌<◌, cond, eqb, List, [], ◌∷◌, ◌++◌, Option, None, Some, is_none, sym, ap, ap₂, ◌∙◌, zero-add, subst}
use Rattle.std.specs.List.{range_with_len}
use Rattle.std.proofs.lemmas.Bool.{cases_eq}
use Rattle.std.proofs.lemmas.List.FromFn.{get_or-map-range_with_len}
use Rattle.pay_echo.specs.Broadcast.{Group, Vote, Send, Echo, Ready, value_of, value_if_send, echoed_by, readied_by, find_map, echoed, echo_of, readied, ready_of, delivered}
use Rattle.pay_echo.specs.Meaning.{Meaning, meaning_of}
use Rattle.pay_echo.specs.Step.{vote_at}
use Rattle.pay_echo.proofs.Settling.{settled, with_send, with_echo, with_ready}
use Rattle.pay_echo.proofs.Lists.{either, map-same}
use Rattle.pay_echo.proofs.StepLaw.{stage, readys_with, stage-all, settles, settled-again, echo_of-other, readys_with-other, find_map-push-None, find_map-push-again, echoed_by-send, echoed_by-ready, echoed_by-other, readied_by-send, readied_by-echo, readied_by-other, value_if_send-echo, value_if_send-ready, first_send, first_echo, first_ready}

-- no place has another vote
record IsSecond (g : Group) (votes : List Vote) (x : Vote) : Type 0 where
  sends : find_map value_if_send (votes ++ x ∷ []) ≡ find_map value_if_send votes
  echoes : (p : ℕ) → find_map (echoed_by p) (votes ++ x ∷ []) ≡ find_map (echoed_by p) votes
  readys : (p : ℕ) → find_map (readied_by p) (votes ++ x ∷ []) ≡ find_map (readied_by p) votes

stage-second : (g : Group) (votes : List Vote) (x : Vote) (r d : Option (List ℕ)) → IsSecond g votes x → stage g (votes ++ x ∷ []) r d ≡ stage g votes r d
unfolding stage echo_of echoed readys_with
stage-second g votes x r d second =
    let echoes = map-same (echo_of g (votes ++ x ∷ [])) (echo_of g votes) (λ p. ap₂ (cond (eqb p g.own)) second.sends (second.echoes p)) (range_with_len 0 g.members) in
    let readys = map-same (readys_with g (votes ++ x ∷ []) r) (readys_with g votes r) (λ p. ap (cond (eqb p g.own) r) (second.readys p)) (range_with_len 0 g.members) in
    λ i. record { group = g; echoed = second.sends i; echoes = echoes i; readied = r; readys = readys i; delivered = d }

second_vote : (g : Group) (votes : List Vote) (x : Vote) → g.own < g.members → IsSecond g votes x → meaning_of g (votes ++ x ∷ []) ≡ meaning_of g votes
second_vote g votes x member second =
    sym (settles g votes x member)
    ∙ ap (λ m. settled m (value_of x)) (stage-second g votes x (readied g votes) (delivered g votes) second ∙ sym (stage-all g votes))
    ∙ settled-again g votes (value_of x)

first_vote : (g : Group) (votes : List Vote) (x : Vote) (m : Meaning) → g.own < g.members → m ≡ stage g (votes ++ x ∷ []) (readied g votes) (delivered g votes) → meaning_of g (votes ++ x ∷ []) ≡ settled m (value_of x)
first_vote g votes x m member e = sym (ap (λ n. settled n (value_of x)) e ∙ settles g votes x member)

-- the vote of another process, as the meaning has it
pub echo_at : (g : Group) (votes : List Vote) (q : ℕ) → q < g.members → q ≢ g.own → vote_at (meaning_of g votes).echoes q ≡ find_map (echoed_by q) votes
unfolding meaning_of
echo_at g votes q below foreign =
    get_or-map-range_with_len (echo_of g votes) 0 g.members q q None below (zero-add q) ∙ echo_of-other g votes q foreign

pub ready_at : (g : Group) (votes : List Vote) (q : ℕ) → q < g.members → q ≢ g.own → vote_at (meaning_of g votes).readys q ≡ find_map (readied_by q) votes
unfolding meaning_of ready_of readys_with
ready_at g votes q below foreign =
    get_or-map-range_with_len (ready_of g votes) 0 g.members q q None below (zero-add q) ∙ readys_with-other g votes (readied g votes) q foreign

again_by : (f : ℕ → Vote → Option (List ℕ)) (votes : List Vote) (x : Vote) (q : ℕ) (w : List ℕ) → find_map (f q) votes ≡ Some w → ((p : ℕ) → p ≢ q → f p x ≡ None) → (p : ℕ) → find_map (f p) (votes ++ x ∷ []) ≡ find_map (f p) votes
again_by f votes x q w e others p =
    either (cases_eq p q)
    (λ same. let P : ℕ → Type 0 = λ n. find_map (f n) (votes ++ x ∷ []) ≡ find_map (f n) votes in subst P (sym same) (find_map-push-again (f q) votes x w e))
    (λ ne. find_map-push-None (f p) votes x (others p ne))

module _ (g : Group) (votes : List Vote) (member : g.own < g.members) where
  pub push_send : (v : List ℕ) (o : Option (List ℕ)) → echoed votes ≡ o → meaning_of g (votes ++ Send v ∷ []) ≡ cond (is_none o) (settled (with_send (meaning_of g votes) v) v) (meaning_of g votes)
  unfolding echoed value_of
  push_send v None e = first_vote g votes (Send v) (with_send (meaning_of g votes) v) member (first_send g votes v member e)
  push_send v (Some w) e =
      second_vote g votes (Send v) member
      record {
        sends = find_map-push-again value_if_send votes (Send v) w e;
        echoes = λ p. find_map-push-None (echoed_by p) votes (Send v) (echoed_by-send p v);
        readys = λ p. find_map-push-None (readied_by p) votes (Send v) (readied_by-send p v);
      }

  pub push_echo : (q : ℕ) (v : List ℕ) → q < g.members → q ≢ g.own → (o : Option (List ℕ)) → find_map (echoed_by q) votes ≡ o → meaning_of g (votes ++ Echo q v ∷ []) ≡ cond (is_none o) (settled (with_echo (meaning_of g votes) q v) v) (meaning_of g votes)
  unfolding value_of
  push_echo q v below foreign None e = first_vote g votes (Echo q v) (with_echo (meaning_of g votes) q v) member (first_echo g votes q v below foreign e)
  push_echo q v below foreign (Some w) e =
      second_vote g votes (Echo q v) member
      record {
        sends = find_map-push-None value_if_send votes (Echo q v) (value_if_send-echo q v);
        echoes = again_by echoed_by votes (Echo q v) q w e (λ p ne. echoed_by-other p q v ne);
        readys = λ p. find_map-push-None (readied_by p) votes (Echo q v) (readied_by-echo p q v);
      }

  pub push_ready : (q : ℕ) (v : List ℕ) → q < g.members → q ≢ g.own → (o : Option (List ℕ)) → find_map (readied_by q) votes ≡ o → meaning_of g (votes ++ Ready q v ∷ []) ≡ cond (is_none o) (settled (with_ready (meaning_of g votes) q v) v) (meaning_of g votes)
  unfolding value_of
  push_ready q v below foreign None e = first_vote g votes (Ready q v) (with_ready (meaning_of g votes) q v) member (first_ready g votes q v below foreign e)
  push_ready q v below foreign (Some w) e =
      second_vote g votes (Ready q v) member
      record {
        sends = find_map-push-None value_if_send votes (Ready q v) (value_if_send-ready q v);
        echoes = λ p. find_map-push-None (echoed_by p) votes (Ready q v) (echoed_by-ready p q v);
        readys = again_by readied_by votes (Ready q v) q w e (λ p ne. readied_by-other p q v ne);
      }
