use Rattle.std.proofs.Common.{◌≡◌, ◌<◌, ◌≤◌, true, false, ◌&&◌, ltb, eqb, length, arith, ap, ◌∙◌, subst}
use Rattle.pay_channel.specs.State.{channel_lists}
use Rattle.pay_book.specs.Places.{Place, place_of}
use Rattle.pay_member.specs.declared.question.PaymentState.TheVariants.{Unknown, Asked, Waiting, Settled}
use Rattle.pay_member.specs.Events.{events}
use Rattle.pay_member.specs.Reading.{state_of}
use Rattle.pay_member.specs.Member.{MemberFields}
use Rattle.pay_member.proofs.Members.{state_is, settled_first, waiting_next, asked_then, unknown_else}
use Rattle.pay_member.proofs.view.MemberView.state.Goals as goal

pub returns-then-seq-place : goal.returns-then-seq-place
returns-then-seq-place g c =
    let At : MemberFields → Type 0 = λ m. Settled ≡ state_of m.genesis m.keys.own (events m.history) c.args.owner c.args.seq in
    let values = ap (λ (p : Place). p.0) c.place.ensures in
    let below : c.args.seq < (place_of c.self.inside.ledger.now.book.places c.args.owner).0 = omega arith in
    subst At c.self.view_is
    (settled_first (place_of c.self.inside.ledger.now.book.places c.args.owner).0 (length (channel_lists c.self.inside.ledger.now.channel c.args.owner)) c.self.inside.ledger.now.channel.asks c.args.seq (eqb c.args.owner c.self.inside.keys.now.own) below
    ∙ state_is c.a_channel_follows.ensures.lists c.settled_book_is_one.ensures c.self.inside.genesis.now c.self.inside.keys.now.own (events c.self.inside.history.now) c.self.inside.ledger.now c.args.owner c.args.seq c.self.invariant.tracks)

pub returns-then-seq-list_len : goal.returns-then-seq-list_len
returns-then-seq-list_len g c =
    let At : MemberFields → Type 0 = λ m. Waiting ≡ state_of m.genesis m.keys.own (events m.history) c.args.owner c.args.seq in
    let values = ap (λ (p : Place). p.0) c.place.ensures in
    let past : (place_of c.self.inside.ledger.now.book.places c.args.owner).0 ≤ c.args.seq = omega arith in
    let below : c.args.seq < length (channel_lists c.self.inside.ledger.now.channel c.args.owner) = omega arith in
    subst At c.self.view_is
    (waiting_next (place_of c.self.inside.ledger.now.book.places c.args.owner).0 (length (channel_lists c.self.inside.ledger.now.channel c.args.owner)) c.self.inside.ledger.now.channel.asks c.args.seq (eqb c.args.owner c.self.inside.keys.now.own) past below
    ∙ state_is c.a_channel_follows.ensures.lists c.settled_book_is_one.ensures c.self.inside.genesis.now c.self.inside.keys.now.own (events c.self.inside.history.now) c.self.inside.ledger.now c.args.owner c.args.seq c.self.invariant.tracks)

pub returns-then-is_used : goal.returns-then-is_used
returns-then-is_used g c =
    let At : MemberFields → Type 0 = λ m. Asked ≡ state_of m.genesis m.keys.own (events m.history) c.args.owner c.args.seq in
    let values = ap (λ (p : Place). p.0) c.place.ensures in
    let past : (place_of c.self.inside.ledger.now.book.places c.args.owner).0 ≤ c.args.seq = omega arith in
    let behind : length (channel_lists c.self.inside.ledger.now.channel c.args.owner) ≤ c.args.seq = omega arith in
    let used : (eqb c.args.owner c.self.inside.keys.now.own && ltb c.args.seq c.self.inside.ledger.now.channel.asks) ≡ true = cc (c.is_used.ensures, c.own.ensures.value, c.asks.ensures) in
    subst At c.self.view_is
    (asked_then (place_of c.self.inside.ledger.now.book.places c.args.owner).0 (length (channel_lists c.self.inside.ledger.now.channel c.args.owner)) c.self.inside.ledger.now.channel.asks c.args.seq (eqb c.args.owner c.self.inside.keys.now.own) past behind used
    ∙ state_is c.a_channel_follows.ensures.lists c.settled_book_is_one.ensures c.self.inside.genesis.now c.self.inside.keys.now.own (events c.self.inside.history.now) c.self.inside.ledger.now c.args.owner c.args.seq c.self.invariant.tracks)

pub returns-else-is_used : goal.returns-else-is_used
returns-else-is_used g c =
    let At : MemberFields → Type 0 = λ m. Unknown ≡ state_of m.genesis m.keys.own (events m.history) c.args.owner c.args.seq in
    let values = ap (λ (p : Place). p.0) c.place.ensures in
    let past : (place_of c.self.inside.ledger.now.book.places c.args.owner).0 ≤ c.args.seq = omega arith in
    let behind : length (channel_lists c.self.inside.ledger.now.channel c.args.owner) ≤ c.args.seq = omega arith in
    let used : (eqb c.args.owner c.self.inside.keys.now.own && ltb c.args.seq c.self.inside.ledger.now.channel.asks) ≡ false = cc (c.is_used.ensures, c.own.ensures.value, c.asks.ensures) in
    subst At c.self.view_is
    (unknown_else (place_of c.self.inside.ledger.now.book.places c.args.owner).0 (length (channel_lists c.self.inside.ledger.now.channel c.args.owner)) c.self.inside.ledger.now.channel.asks c.args.seq (eqb c.args.owner c.self.inside.keys.now.own) past behind used
    ∙ state_is c.a_channel_follows.ensures.lists c.settled_book_is_one.ensures c.self.inside.genesis.now c.self.inside.keys.now.own (events c.self.inside.history.now) c.self.inside.ledger.now c.args.owner c.args.seq c.self.invariant.tracks)
