-- Statements about the bodies accepted from another member. Each is proved as a public law.
use Rattle.std.specs.Prelude.{◌≡◌, ℕ, ◌+◌, ◌↔◌, false, if◌then◌else◌, List, [], ◌∷◌, ◌++◌, Contains}
use Rattle.std.specs.List.{count_by}
use Rattle.std.specs.Option.{option_to_list}
use Rattle.pay_frame.specs.Frame.{BodyFields}
use Rattle.pay_channel.specs.History.{Event, From}
use Rattle.pay_channel.specs.Taken.{is_from, body_from, taken_bodies, next}

abbrev pub NothingTakenAtFirst : Type 0
NothingTakenAtFirst = (p : ℕ) → taken_bodies p [] ≡ []

-- one more event: its body, exactly if it came from p
abbrev pub TakenByOneMore : Type 0
TakenByOneMore =
    (p : ℕ) (history : List Event) (e : Event)
    → taken_bodies p (history ++ e ∷ []) ≡ taken_bodies p history ++ option_to_list (body_from p e)

abbrev pub TakenFromHere : Type 0
TakenFromHere =
    (p : ℕ) (history : List Event) (body : BodyFields)
    → taken_bodies p (history ++ From p body ∷ []) ≡ taken_bodies p history ++ body ∷ []

abbrev pub TakenFromElsewhere : Type 0
TakenFromElsewhere =
    (p : ℕ) (history : List Event) (e : Event) → is_from p e ≡ false
    → taken_bodies p (history ++ e ∷ []) ≡ taken_bodies p history

-- a longer history
abbrev pub TakenGrows : Type 0
TakenGrows =
    (p : ℕ) (history more : List Event)
    → taken_bodies p (history ++ more) ≡ taken_bodies p history ++ taken_bodies p more

abbrev pub TakenIsFrom : Type 0
TakenIsFrom =
    (p : ℕ) (history : List Event) (body : BodyFields)
    → Contains (taken_bodies p history) body ↔ Contains history (From p body)

-- the next number counts the events from p
abbrev pub NextIsCount : Type 0
NextIsCount = (p : ℕ) (history : List Event) → next p history ≡ count_by (is_from p) history

abbrev pub NextByOneMore : Type 0
NextByOneMore =
    (p : ℕ) (history : List Event) (e : Event)
    → next p (history ++ e ∷ []) ≡ (if is_from p e then next p history + 1 else next p history)
