use Rattle.std.proofs.Common.{◌≡◌, List, slice_get, ap, ◌∙◌, subst}
use Rattle.std.specs.Option.{option_copied}
use Rattle.pay_frame.specs.Frame.{BodyFields}
use Rattle.pay_echo.specs.Broadcast.{Group}
use Rattle.pay_channel.specs.History.{out}
use Rattle.pay_member.specs.Group.{group_in}
use Rattle.pay_member.specs.Events.{events}
use Rattle.pay_member.specs.Member.{MemberFields}
use Rattle.pay_member.proofs.view.MemberView.sent.Goals as goal

pub returns : goal.returns
returns g c =
    let h = events c.self.inside.history.now in
    let Of : List BodyFields → Type 0 = λ bodies. option_copied c.sent.result ≡ slice_get bodies c.args.place in
    let At : MemberFields → Type 0 = λ m. Of (out (group_in m.genesis m.keys.own) (events m.history)) in
    let sent = c.self.invariant.tracks.follows.sent ∙ ap (λ (x : Group). out x h) c.self.invariant.tracks.group in
    subst At c.self.view_is (subst Of sent c.sent.ensures)
