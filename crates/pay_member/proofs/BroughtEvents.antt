-- What opens of bytes, and which event it is.
use Rattle.std.proofs.Common.{◌≡◌, ◌≢◌, ◌<◌, ℕ, Bool, true, false, cond, eqb, Option, Some, None, List, Result, Ok, Err, refl, sym, ap, ◌∙◌, subst}
use Rattle.std.specs.Option.{option_and_then}
use Rattle.std.proofs.lemmas.Bool.{eq-eqb, eqb-true, false≢true, cond-true, cond-false}
use Rattle.pay_frame.specs.declared.body.Kind.{Kind}
use Rattle.pay_frame.specs.declared.body.Kind.TheVariants.{Send, Echo, Ready, Want}
use Rattle.pay_frame.specs.Frame.{FrameFields}
use Rattle.pay_frame.specs.OneFrame.{IsOneFrame, one_frame}
use Rattle.pay_channel.specs.History as channel
use Rattle.pay_channel.specs.History.{IsEvent}
use Rattle.pay_channel.specs.Taken.{next}
use Rattle.pay_link.specs.Keys.{KeyFields}
use Rattle.pay_link.specs.Opening.{OpenedFields, Opens, judgement, opened_fields}
use Rattle.pay_link.specs.declared.opened.LinkFault.{LinkFault}
use Rattle.pay_member.specs.Group.{group_in}
use Rattle.pay_member.specs.Bringing.{is_want, unless_want, opened_in, event_of_frame, event_in}
use Rattle.pay_member.specs.Laws.{OpenedIn, EventIn, BroughtMayCome}
use Rattle.pay_member.proofs.Openings.{FrameIs, OpenedIs}
use Rattle.pay_member.proofs.Histories.{some_is, none_some}

not_want : (of : Kind) → of ≢ Want → is_want of ≡ false
not_want Send other = refl
not_want Echo other = refl
not_want Ready other = refl
not_want Want other = absurd (other refl)

abbrev IsItsFrame : KeyFields → List ℕ → FrameFields → Type 0
IsItsFrame k bytes f = IsOneFrame bytes f × Opens k f × (f.body.kind ≢ Want)

opened_is : FrameIs → OpenedIs → (k : KeyFields) (bytes : List ℕ) (f : FrameFields) → opened_in k bytes ≡ Some f → IsItsFrame k bytes f
unfolding opened_in
opened_is frame opened k bytes f is = at (one_frame bytes) refl is where
  by : (x : FrameFields) → IsOneFrame bytes x → (o : OpenedFields) (asks : Bool) → is_want o.frame.body.kind ≡ asks
      → (Opens k x × (o ≡ opened_fields k x)) → cond asks None (Some o.frame) ≡ Some f → IsItsFrame k bytes f
  by x one o true asks opens same = absurd (none_some f same)
  by x one o false asks opens same =
      let whole = some_is o.frame f same in
      let first : x ≡ f = sym (ap (λ (p : OpenedFields). p.frame) opens.1) ∙ whole in (
        subst (IsOneFrame bytes) first one,
        subst (Opens k) first opens.0,
        (λ want. false≢true (sym asks ∙ ap (λ (p : FrameFields). is_want p.body.kind) whole ∙ ap is_want want)),
      )

  of : (x : FrameFields) → IsOneFrame bytes x → (j : Result OpenedFields LinkFault) → judgement k x ≡ j → unless_want j ≡ Some f → IsItsFrame k bytes f
  of x one (Err fault) was same = absurd (none_some f same)
  of x one (Ok o) was same = by x one o (is_want o.frame.body.kind) refl ((opened k x o).0 was) same

  at : (o : Option FrameFields) → one_frame bytes ≡ o → option_and_then (λ x. unless_want (judgement k x)) o ≡ Some f → IsItsFrame k bytes f
  at None was same = absurd (none_some f same)
  at (Some x) was same = of x ((frame bytes x).0 was) (judgement k x) refl same

opens_in : FrameIs → OpenedIs → (k : KeyFields) (bytes : List ℕ) (f : FrameFields) → IsItsFrame k bytes f → opened_in k bytes ≡ Some f
unfolding opened_in
opens_in frame opened k bytes f its =
    ap (option_and_then (λ x. unless_want (judgement k x))) ((frame bytes f).1 its.0)
    ∙ ap unless_want ((opened k f (opened_fields k f)).1 (its.1, refl))
    ∙ cond-false _ _ _ (not_want f.body.kind its.2)

pub opened_in_is : FrameIs → OpenedIs → OpenedIn
opened_in_is frame opened k bytes f = (opened_is frame opened k bytes f, opens_in frame opened k bytes f)

event_is :
    (k : KeyFields) (before : List channel.Event) (bytes : List ℕ) (e : channel.Event) → event_in k before bytes ≡ Some e
    → (f : FrameFields) × (opened_in k bytes ≡ Some f) × (f.number ≡ next f.from before) × (e ≡ channel.From f.from f.body)
unfolding event_in
event_is k before bytes e is = at (opened_in k bytes) refl is where
  by : (f : FrameFields) → opened_in k bytes ≡ Some f → (same : Bool) → eqb f.number (next f.from before) ≡ same
      → cond same (Some (channel.From f.from f.body)) None ≡ Some e → (x : FrameFields) × (opened_in k bytes ≡ Some x) × (x.number ≡ next x.from before) × (e ≡ channel.From x.from x.body)
  by f some true same whole = (f, some, eqb-true f.number (next f.from before) same, sym (some_is _ _ whole))
  by f some false same whole = absurd (none_some e whole)

  at : (o : Option FrameFields) → opened_in k bytes ≡ o → option_and_then (event_of_frame before) o ≡ Some e → (x : FrameFields) × (opened_in k bytes ≡ Some x) × (x.number ≡ next x.from before) × (e ≡ channel.From x.from x.body)
  at None was whole = absurd (none_some e whole)
  at (Some f) was whole = by f was (eqb f.number (next f.from before)) refl whole

comes_in :
    (k : KeyFields) (before : List channel.Event) (bytes : List ℕ) (e : channel.Event) (f : FrameFields)
    → opened_in k bytes ≡ Some f → f.number ≡ next f.from before → e ≡ channel.From f.from f.body → event_in k before bytes ≡ Some e
unfolding event_in
comes_in k before bytes e f some turn is =
    ap (option_and_then (event_of_frame before)) some ∙ cond-true _ _ _ (eq-eqb f.number (next f.from before) turn) ∙ ap Some (sym is)

pub event_in_is : EventIn
event_in_is k before bytes e = (event_is k before bytes e, λ has. comes_in k before bytes e has.0 has.1 has.2 has.3)

pub brought_may_come : FrameIs → OpenedIs → BroughtMayCome
brought_may_come frame opened g k before bytes e members is =
    let has = event_is k before bytes e is in
    let its = opened_is frame opened k bytes has.0 has.1 in
    let opens = its.1 in
    subst (IsEvent (group_in g k.own)) (sym has.3)
    (subst (λ n. has.0.from < n) members opens.sender.0, opens.sender.1, subst (λ n. has.0.body.owner < n) members opens.owner, its.2)
