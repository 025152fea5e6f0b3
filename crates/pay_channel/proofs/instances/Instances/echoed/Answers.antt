use Rattle.std.proofs.Common.{ap, sym, ◌∙◌}
use Rattle.pay_echo.specs.Meaning.{Meaning, meaning_of}
use Rattle.pay_channel.specs.State.{meaning_in}
use Rattle.pay_channel.proofs.SlotLemmas.{key_cmp-is, meaning_in-lookup, meaning_in-absent}
use Rattle.pay_channel.proofs.instances.Instances.echoed.Goals as goal

pub returns-in-Some : goal.returns-in-Some
returns-in-Some g c = λ h.
    let found = meaning_in-lookup g.I.Instance.meaning h c.args.owner c.args.seq _ (key_cmp-is c.args.owner c.args.seq) c.self.inside.by_broadcast.entries c.in-Some.instance.now (sym c.in-Some.ensures.value) in
    c.echoed.ensures ∙ ap (λ (m : Meaning). m.echoed) (sym found) ∙ ap (λ l. (meaning_in h l c.args.owner c.args.seq).echoed) c.self.view_is

pub returns-in-None : goal.returns-in-None
unfolding meaning_of
returns-in-None g c = λ h.
    let absent = meaning_in-absent g.I.Instance.meaning h c.args.owner c.args.seq _ (key_cmp-is c.args.owner c.args.seq) c.self.inside.by_broadcast.entries (sym c.in-None.ensures.value) in
    sym c.nothing_known_at_first.ensures.echoed ∙ ap (λ (m : Meaning). m.echoed) (sym absent) ∙ ap (λ l. (meaning_in h l c.args.owner c.args.seq).echoed) c.self.view_is
