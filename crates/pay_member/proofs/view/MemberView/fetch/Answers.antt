use Rattle.std.proofs.Common.{◌≡◌, ℕ, List, drop, take, min, ap, ◌∙◌, subst}
use Rattle.std.specs.Result.{IfOk}
use Rattle.pay_frame.specs.Frame.{BodyFields}
use Rattle.pay_echo.specs.Broadcast.{Group}
use Rattle.pay_channel.specs.History.{out}
use Rattle.pay_member.specs.Group.{group_in}
use Rattle.pay_member.specs.Events.{events}
use Rattle.pay_member.specs.Reading.{fetched_bodies}
use Rattle.pay_member.specs.Member.{MemberFields}
use Rattle.pay_member.specs.declared.member.TheConstants.{MOST_FETCHED}
use Rattle.pay_member.proofs.view.MemberView.fetch.Goals as goal

pub returns : goal.returns
unfolding fetched_bodies
returns g c =
    let h = events c.self.inside.history.now in
    let Of : ℕ → List BodyFields → Type 0 = λ n sent. IfOk c.fetch.result (λ bodies. bodies.items ≡ take n (drop c.args.from sent)) in
    let At : MemberFields → Type 0 = λ m. Of (min c.args.max MOST_FETCHED) (out (group_in m.genesis m.keys.own) (events m.history)) in
    let sent = c.self.invariant.tracks.follows.sent ∙ ap (λ (x : Group). out x h) c.self.invariant.tracks.group in
    subst At c.self.view_is
    (subst (Of (min c.args.max MOST_FETCHED)) sent
    (subst (λ n. Of n c.self.inside.ledger.now.channel.sent) c.min.ensures c.fetch.ensures))
