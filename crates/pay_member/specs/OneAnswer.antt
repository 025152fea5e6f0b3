-- A member has one answer to whether it lost state, and one last lie of a peer.
use Rattle.std.specs.Prelude.{◌≡◌, ◌⊎◌, ◌↔◌, ◌<◌, ◌≤◌, ℕ, Bool, true, false, IsTrue, List, ◌∷◌}
use Rattle.std.specs.Prelude.{◌++◌, length, Option, None, Some}
use Rattle.std.proofs.Common.{inl, inr, refl, sym, ap, ◌∙◌, arith, get_or, true≢false}
use Rattle.std.proofs.Math.Seq.{get_or-append_seam}
use Rattle.std.proofs.lemmas.Bool.{cases_lt}
use Rattle.pay_frame.specs.Frame.{BodyFields}
use Rattle.pay_channel.specs.History.{Event, From, body_of}
use Rattle.pay_member.specs.declared.ledger.Lie.{Lie}
use Rattle.pay_member.specs.declared.reading.Reading.TheVariants.{LastLie}
use Rattle.pay_member.specs.Events.{events}
use Rattle.pay_member.specs.Lies.{lie_of, IsLastLie, IsFound}
use Rattle.pay_member.specs.Member.{MemberFields}
use Rattle.pay_member.specs.Questions.{Shows}

-- two answers that are yes under the same condition are the same
pub one_truth : (P : Type 0) (one other : Bool) → (IsTrue one ↔ P) → (IsTrue other ↔ P)
    → one ≡ other
one_truth P true true is also = refl
one_truth P true false is also = absurd (true≢false (sym (also.1 (is.0 refl))))
one_truth P false true is also = absurd (true≢false (sym (is.1 (also.0 refl))))
one_truth P false false is also = refl

same_body : (p : ℕ) (b c : BodyFields) → From p b ≡ From p c → b ≡ c
same_body p b c same = cc

-- the event that stands at a place of a history
at_place : (history before rest : List Event) (e d : Event) → history ≡ before ++ e ∷ rest
    → get_or history (length before) d ≡ e
at_place history before rest e d is =
    ap (λ (h : List Event). get_or h (length before) d) is ∙ get_or-append_seam before e rest d

one_last : (history : List Event) (p : ℕ) (one other : Lie)
    → IsLastLie history p one → IsLastLie history p other → one ≡ other
one_last history p one other is also =
    let x : Event = From p (body_of one.kind one.owner one.seq is.told.value) in
    let y : Event = From p (body_of other.kind other.owner other.seq also.told.value) in
    let below = is.last other also.told in
    let above = also.last one is.told in
    let same : length is.told.before ≡ length also.told.before = omega arith in
    let here = at_place history is.told.before is.told.rest x x is.told.told in
    let there = at_place history also.told.before also.told.rest y x also.told.told in
    ap lie_of (same_body p _ _ (sym here ∙ ap (λ n. get_or history n x) same ∙ there))

found_once : (history : List Event) (p : ℕ) (one other : Option Lie)
    → IsFound history p one → IsFound history p other → one ≡ other
found_once history p None None is also = refl
found_once history p None (Some lie) is also = absurd (is lie also.told)
found_once history p (Some lie) None is also = absurd (also lie is.told)
found_once history p (Some lie) (Some other) is also =
    ap Some (one_last history p lie other is also)

pub one_lie : (m : MemberFields) (p : ℕ) (one other : Option Lie)
    → Shows m (LastLie p one) → Shows m (LastLie p other) → one ≡ other
one_lie m p one other is also = go (cases_lt p m.genesis.members) where
  go : (p < m.genesis.members) ⊎ (m.genesis.members ≤ p) → one ≡ other
  go (inl member) = found_once (events m.history) p one other (is.0 member) (also.0 member)
  go (inr none) = is.1 none ∙ sym (also.1 none)
