-- Members of worlds are correct members by the actions that the events of these worlds are.
use Rattle.std.proofs.Common.{◌≡◌, ℕ, true, List, [], Option, is_some, sym, ap, ap₂, subst, ◌∙◌, arith}
use Rattle.std.specs.Option.{option_map_or}
use Rattle.std.proofs.lemmas.List.Elements.{filter_map-append}
use Rattle.pay_channel.specs.Prefix.{IsPrefix}
use Rattle.pay_echo.specs.Quorums.{SizeOfListed}
use Rattle.pay_link.specs.Genesis.{GenesisFields, IsGenesis}
use Rattle.pay_link.specs.Keys.{KeyFields}
use Rattle.pay_member.specs.Events.{events}
use Rattle.pay_member.specs.Member.{MemberFields}
use Rattle.pay_world.specs.declared.event.WorldEvent.{WorldEvent}
use Rattle.pay_world.specs.Setting.{HasFewFaulty, IsCorrect, Setting, setting_by, is_correct}
use Rattle.pay_world.specs.Actions.{history_by}
use Rattle.pay_world.specs.ActionLaws.{CorrectIsTold}
use Rattle.pay_world.specs.Genuine.{AreGenuine}
use Rattle.pay_world.specs.Answer.{action_of}
use Rattle.pay_world.specs.Liars.{AreLiars, AreLiarsOf, LiarFields, is_listed, setting_of}
use Rattle.pay_world.specs.World.{IsMemberAt, WorldFields, setting_in}
use Rattle.pay_world.specs.Run.{correct_keys, actions_by}
use Rattle.pay_laws.specs.Moments.{ExportsAreClean, IsCorrectMember}
use Rattle.pay_laws.specs.Worlds.{IsOfWorld, WorldExportsAreClean}

grown_actions : (keys : List KeyFields) (l : LiarFields) (one all : List WorldEvent) → IsPrefix one all
    → IsPrefix (actions_by keys l one) (actions_by keys l all)
grown_actions keys l one all p = record {
  rest = actions_by keys l p.rest;
  is = ap (actions_by keys l) p.is ∙ filter_map-append (action_of (correct_keys keys l)) one p.rest;
}

few_lie : SizeOfListed → (g : GenesisFields) (l : LiarFields) → IsGenesis g → AreLiars l → AreLiarsOf g l → HasFewFaulty (setting_of l)
few_lie listed g l limits are of =
    let most = listed l.members l.liars in
    let few = are.few in
    let honest = limits.honest in
    let members = of.members in
    let faults = of.faults in
    record { few = omega arith; many = omega arith }

same_setting : (g : GenesisFields) (l : LiarFields) → AreLiarsOf g l → setting_of l ≡ setting_by g (is_listed l.liars)
same_setting g l of =
    let Of : ℕ → ℕ → Setting = λ n f. record { members = n; faults = f; faulty = is_listed l.liars } in
    ap₂ Of of.members of.faults

group_of : (g : GenesisFields) (l : LiarFields) (w : WorldFields) → w.genesis ≡ g → w.liars ≡ l → AreLiarsOf w.genesis w.liars → AreLiarsOf g l
group_of g l w genesis liars of = subst (λ x. AreLiarsOf x l) genesis (subst (AreLiarsOf w.genesis) liars of)

correct_member :
    CorrectIsTold → (g : GenesisFields) (keys : List KeyFields) (l : LiarFields) (all : List WorldEvent) (m : MemberFields)
    → IsOfWorld g keys l all m → IsCorrectMember g (is_listed l.liars) (actions_by keys l all) m
correct_member told g keys l all m o =
    let w = o.world in
    let same = same_setting g l (group_of g l w o.behind.genesis o.behind.liars o.is_world.group) in
    let at : IsMemberAt w.genesis o.number m = o.is_world.each o.number m o.member in
    let there : is_correct (setting_in w) o.number ≡ true = sym (o.is_world.there o.number) ∙ ap (λ (x : Option MemberFields). is_some x) o.member in
    let Correct : Setting → Type 0 = λ s. IsCorrect s o.number in
    let correct = subst Correct (ap setting_of o.behind.liars ∙ same) ((told (setting_in w) o.number).0 there) in
    record {
      genesis = at.genesis ∙ o.behind.genesis;
      correct = subst (IsCorrect (setting_by g (is_listed l.liars))) (sym at.own) correct;
      until = actions_by keys l o.until;
      moment = grown_actions keys l o.until all o.moment;
      took = sym (ap (λ (x : Option MemberFields). option_map_or (λ (y : MemberFields). events y.history) x []) o.member)
          ∙ o.behind.histories o.number
          ∙ ap (λ (s : Setting). history_by s (actions_by keys l o.until) o.number) same
          ∙ ap (history_by (setting_by g (is_listed l.liars)) (actions_by keys l o.until)) (sym at.own);
    }

pub clean_worlds : CorrectIsTold → SizeOfListed → ExportsAreClean → WorldExportsAreClean
clean_worlds told listed clean g keys l all last members is_world behind are =
    let genesis = subst IsGenesis behind.genesis is_world.genesis in
    let of = group_of g l last behind.genesis behind.liars is_world.group in
    let same = same_setting g l of in
    clean g (is_listed l.liars) (actions_by keys l all) members genesis
    (subst HasFewFaulty same (few_lie listed g l genesis (subst AreLiars behind.liars is_world.liars) of))
    (subst (λ (s : Setting). AreGenuine s (actions_by keys l all)) same behind.genuine)
    (λ k m at. correct_member told g keys l all m (are k m at))
