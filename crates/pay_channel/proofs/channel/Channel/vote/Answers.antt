use Rattle.std.proofs.Common.{◌≡◌, ℕ, ◌+◌, ◌<◌, ◌≤◌, ◌++◌, set, option_to_list, Some, sym, subst, arith}
use Rattle.pay_channel.specs.History.{seqs}
use Rattle.pay_echo.specs.Votes.{vote_of_ref}
use Rattle.pay_channel.specs.State.{State, IsSound, channel_lists}
use Rattle.pay_channel.specs.Applied.{TakesVote, IsToldOf, IsAsBefore}
use Rattle.pay_channel.specs.Source.{GrowsOnly}
use Rattle.pay_channel.proofs.Voting.{on_err, reached_at, length_read, length_read-short, total-fits, after_it, kept, kept_sound, voted, voted_grow, voted_sound, voted_told, none_behind}
use Rattle.pay_channel.proofs.channel.Channel.vote.Goals as goal

pub hear-requires-clause-reached : goal.hear-requires-clause-reached
hear-requires-clause-reached g c = reached_at _ c.self.inside.listed.items c.self.invariant c.args.owner c.args.seq

pub invariant_of-self-in_err-outgoing : goal.invariant_of-self-in_err-outgoing
invariant_of-self-in_err-outgoing g c = kept_sound c.self.inside.group c.self.inside.asks c.self.inside.instances c.hear.new.self c.self.inside.sent.items c.reserve.new.self.items c.self.inside.listed.items c.in_err-outgoing.ensures.err c.in_ok-reserve.ensures.items c.self.invariant

pub returns-in_err-outgoing-clause-err : goal.returns-in_err-outgoing-clause-err
returns-in_err-outgoing-clause-err g c =
    let same = kept c.self.inside.group c.self.inside.asks c.self.inside.instances c.hear.new.self c.self.inside.sent.items c.reserve.new.self.items c.self.inside.listed.items c.in_err-outgoing.ensures.err c.in_ok-reserve.ensures.items in
    on_err c.from_residual-in_err-outgoing.result
    (let P : State → Type 0 = λ x. IsAsBefore x (after_it c.self.inside.group c.self.inside.asks c.self.inside.instances c.hear.new.self c.self.inside.sent.items c.reserve.new.self.items c.self.inside.listed.items) in
    subst P c.self.view_is same)

pub count_behind-grown-requires-clause-from : goal.count_behind-grown-requires-clause-from
count_behind-grown-requires-clause-from g c =
    let P : State → Type 0 = λ x. c.args.owner < x.group.members in
    length_read-short _ c.self.inside.listed.items c.args.owner c.from.result c.index-from.result.now c.self.invariant (subst P (sym c.self.view_is) c.requires.owner) c.from.ensures c.index-from.ensures

pub overflow_add-from : goal.overflow_add-from
overflow_add-from g c =
    let P : State → Type 0 = λ x. c.args.owner < x.group.members in
    let within : c.index-from.result.now ≤ seqs = length_read-short _ c.self.inside.listed.items c.args.owner c.from.result c.index-from.result.now c.self.invariant (subst P (sym c.self.view_is) c.requires.owner) c.from.ensures c.index-from.ensures in
    omega (arith, total-fits _ c.index-from.result.now c.count_behind-grown.result within c.count_behind-grown.ensures)

pub invariant_of-self-2 : goal.invariant_of-self-2
invariant_of-self-2 g c =
    let P : State → Type 0 = λ x. c.args.owner < x.group.members in
    let member : c.args.owner < c.self.inside.group.members = subst P (sym c.self.view_is) c.requires.owner in
    let from_is = length_read _ c.self.inside.listed.items c.args.owner c.from.result c.index-from.result.now c.self.invariant member c.from.ensures c.index-from.ensures in
    let At : ℕ → Type 0 = λ i. IsSound (after_it c.self.inside.group c.self.inside.asks c.self.inside.instances c.hear.new.self c.self.inside.sent.items c.say-3.new.sent.items c.self.inside.listed.items) (set c.self.inside.listed.items i (c.index-from.result.now + c.count_behind-grown.result)) in
    subst At (sym c.from-2.ensures)
    (voted_sound c.self.inside.group c.self.inside.asks c.self.inside.instances c.hear.new.self c.self.inside.sent.items c.say-3.new.sent.items c.self.inside.listed.items
    c.known_stays.ensures.delivered c.args.owner c.args.seq (vote_of_ref c.args.vote) c.self.invariant c.in_ok-outgoing.ensures.hears member c.index-from.result.now c.count_behind-grown.result from_is c.count_behind-grown.ensures)

pub returns-clause-takes : goal.returns-clause-takes
returns-clause-takes g c =
    let out = c.in_ok-outgoing.outgoing in
    let bodies : c.say-3.new.sent.items ≡ ((c.self.inside.sent.items ++ option_to_list c.args.send) ++ option_to_list out.echo) ++ option_to_list out.ready = cc (c.say-3.ensures.items, c.say-2.ensures.items, c.say.ensures.items, c.in_ok-reserve.ensures.items) in
    let At : State → Type 0 = λ x. TakesVote x (after_it c.self.inside.group c.self.inside.asks c.self.inside.instances c.hear.new.self c.self.inside.sent.items c.say-3.new.sent.items c.self.inside.listed.items) c.args.owner c.args.seq (Some (vote_of_ref c.args.vote)) (option_to_list c.args.send) in
    subst At c.self.view_is
    (voted c.self.inside.group c.self.inside.asks c.self.inside.instances c.hear.new.self c.self.inside.sent.items c.say-3.new.sent.items c.self.inside.listed.items
    c.known_stays.ensures.delivered c.args.owner c.args.seq (vote_of_ref c.args.vote) c.self.invariant c.in_ok-outgoing.ensures.hears
    c.one_vote_more.ensures.echoed c.one_vote_more.ensures.readied c.one_vote_more.ensures.sent (option_to_list c.args.send) out c.in_ok-outgoing.ensures.out bodies)

pub returns-clause-applied : goal.returns-clause-applied
returns-clause-applied g c =
    let P : State → Type 0 = λ x. c.args.owner < x.group.members in
    let member : c.args.owner < c.self.inside.group.members = subst P (sym c.self.view_is) c.requires.owner in
    let from_is = length_read _ c.self.inside.listed.items c.args.owner c.from.result c.index-from.result.now c.self.invariant member c.from.ensures c.index-from.ensures in
    let At : State → Type 0 = λ x. IsToldOf x (after_it c.self.inside.group c.self.inside.asks c.self.inside.instances c.hear.new.self c.self.inside.sent.items c.say-3.new.sent.items c.self.inside.listed.items) c.args.owner c.args.seq (record { echo = c.in_ok-outgoing.outgoing.moves.echo; ready = c.in_ok-outgoing.outgoing.moves.ready; deliver = c.in_ok-outgoing.outgoing.moves.deliver; grown = c.count_behind-grown.result }) in
    subst At c.self.view_is
    (voted_told c.self.inside.group c.self.inside.asks c.self.inside.instances c.hear.new.self c.self.inside.sent.items c.say-3.new.sent.items c.self.inside.listed.items
    c.known_stays.ensures.delivered c.args.owner c.args.seq (vote_of_ref c.args.vote) c.self.invariant c.in_ok-outgoing.ensures.hears member c.index-from.result.now c.count_behind-grown.result from_is c.count_behind-grown.ensures c.in_ok-outgoing.outgoing.moves c.in_ok-outgoing.ensures.out.moves)

pub returns-clause-grows : goal.returns-clause-grows
returns-clause-grows g c =
    let P : State → Type 0 = λ x. c.args.owner < x.group.members in
    let member : c.args.owner < c.self.inside.group.members = subst P (sym c.self.view_is) c.requires.owner in
    let At : State → Type 0 = λ x. GrowsOnly (channel_lists x) (channel_lists (after_it c.self.inside.group c.self.inside.asks c.self.inside.instances c.hear.new.self c.self.inside.sent.items c.say-3.new.sent.items c.self.inside.listed.items)) c.args.owner in
    subst At c.self.view_is
    (voted_grow c.self.inside.group c.self.inside.asks c.self.inside.instances c.hear.new.self c.self.inside.sent.items c.say-3.new.sent.items c.self.inside.listed.items
    c.known_stays.ensures.delivered c.args.owner c.args.seq (vote_of_ref c.args.vote) c.self.invariant c.in_ok-outgoing.ensures.hears member)

pub count_behind-grown-requires-clause-none : goal.count_behind-grown-requires-clause-none
count_behind-grown-requires-clause-none g c =
    let P : State → Type 0 = λ x. c.args.owner < x.group.members in
    let member : c.args.owner < c.self.inside.group.members = subst P (sym c.self.view_is) c.requires.owner in
    let from_is = length_read _ c.self.inside.listed.items c.args.owner c.from.result c.index-from.result.now c.self.invariant member c.from.ensures c.index-from.ensures in
    none_behind c.self.inside.group c.self.inside.asks c.self.inside.instances c.hear.new.self c.self.inside.sent.items c.say-3.new.sent.items c.self.inside.listed.items
    c.known_stays.ensures.delivered c.args.owner c.args.seq (vote_of_ref c.args.vote) c.self.invariant c.in_ok-outgoing.ensures.hears member c.index-from.result.now from_is
    c.in_ok-outgoing.outgoing.moves c.in_ok-outgoing.ensures.out.moves
