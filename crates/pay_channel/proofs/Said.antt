-- What is said by a vote has the vote's value.
use Rattle.std.proofs.Common.{◌≡◌, ◌⊎◌, ℕ, Bool, true, false, cond, List, [], ◌∷◌, ◌++◌, Option, None, Some, refl, sym, ap, ap₂, ◌∙◌, subst, inl, inr}
use Rattle.std.specs.Option.{option_or}
use Rattle.pay_frame.specs.declared.body.Kind.{Kind}
use Rattle.pay_frame.specs.declared.body.Kind.TheVariants.{Echo, Ready}
use Rattle.pay_frame.specs.Frame.{BodyFields}
use Rattle.pay_echo.specs.Broadcast.{Group, Vote, value_of, value_if_send, may_ready}
use Rattle.pay_echo.specs.Meaning.{Meaning, meaning_of, Sees, became}
use Rattle.pay_echo.specs.Laws.{EchoedByOneMore, ReadiedByOneMore, SentIsItsValue}
use Rattle.pay_channel.specs.History.{body_of, newly}
use Rattle.pay_channel.specs.Applied.{bodies_said}
use Rattle.pay_channel.proofs.Lists.{either}

-- nothing, or this value
abbrev IsOf : List ℕ → Option (List ℕ) → Type 0
IsOf v o = (o ≡ None) ⊎ (o ≡ Some v)

-- the body, where something became known
abbrev pub told : Kind → ℕ → ℕ → List ℕ → Bool → List BodyFields
told kind a s v b = cond b (body_of kind a s v ∷ []) []

test-IsOf : (b : Bool) (v : List ℕ) → IsOf v (cond b (Some v) None)
test-IsOf true v = inr refl
test-IsOf false v = inl refl

newly-of : (kind : Kind) (a s : ℕ) (v : List ℕ) (o n p : Option (List ℕ)) → n ≡ option_or o p → IsOf v p → newly kind a s o n ≡ told kind a s v (became o n)
newly-of kind a s v (Some w) n p e of = refl
newly-of kind a s v None n p e of =
    let P : Option (List ℕ) → Type 0 = λ m. newly kind a s None m ≡ told kind a s v (became None m) in
    either of (λ z. subst P (sym (e ∙ z)) refl) (λ z. subst P (sym (e ∙ z)) refl)

pub bodies_said-of_vote : EchoedByOneMore → ReadiedByOneMore → SentIsItsValue → (a s : ℕ) (g : Group) (votes : List Vote) (x : Vote) (old new : Meaning) → old ≡ meaning_of g votes → Sees old new x → bodies_said a s old new ≡ told Echo a s (value_of x) (became old.echoed new.echoed) ++ told Ready a s (value_of x) (became old.readied new.readied)
unfolding meaning_of
bodies_said-of_vote echoed-push readied-push sent-IsOf a s g votes x old new e sees =
    let now = sees g votes e in
    let echo : new.echoed ≡ option_or old.echoed (value_if_send x) = ap (λ (m : Meaning). m.echoed) now ∙ echoed-push votes x ∙ ap (λ (m : Meaning). option_or m.echoed (value_if_send x)) (sym e) in
    let test = may_ready g (votes ++ x ∷ []) (value_of x) in
    let ready : new.readied ≡ option_or old.readied (cond test (Some (value_of x)) None) = ap (λ (m : Meaning). m.readied) now ∙ readied-push g votes x ∙ ap (λ (m : Meaning). option_or m.readied (cond test (Some (value_of x)) None)) (sym e) in
    ap₂ (λ (xs ys : List BodyFields). xs ++ ys)
    (newly-of Echo a s (value_of x) old.echoed new.echoed (value_if_send x) echo (sent-IsOf x))
    (newly-of Ready a s (value_of x) old.readied new.readied (cond test (Some (value_of x)) None) ready (test-IsOf test (value_of x)))
