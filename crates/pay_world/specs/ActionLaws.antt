-- Statements about actions and the histories by them. Each is proved as a public law.
use Rattle.std.specs.Prelude.{◌≡◌, ◌↔◌, ℕ, Bool, true, false, List, [], ◌∷◌, ◌++◌}
use Rattle.pay_channel.specs.Prefix.{IsPrefix}
use Rattle.pay_channel.specs.History.{Event}
use Rattle.pay_link.specs.Genesis.{GenesisFields}
use Rattle.pay_link.specs.Keys.{KeyFields, IsKeysOf}
use Rattle.pay_member.specs.declared.event.HistoryEntry.{HistoryEntry}
use Rattle.pay_member.specs.Events.{events}
use Rattle.pay_member.specs.Legal.{Legal}
use Rattle.pay_world.specs.Setting.{Setting, setting_by, IsCorrect, is_correct}
use Rattle.pay_world.specs.Actions.{Action, adds, history_by, actions_in}
use Rattle.pay_world.specs.Genuine.{IsGenuine, IsGenuineIn, AreGenuine, AreGenuineByPlace}
use Rattle.pay_world.specs.Genuine.{is_forged_in, none_forged}
use Rattle.pay_world.specs.Stands.{Grow}

-- ---- histories

abbrev pub NoHistoryAtFirst : Type 0
NoHistoryAtFirst = (w : Setting) (i : ℕ) → history_by w [] i ≡ []

abbrev pub HistoryByOneMore : Type 0
HistoryByOneMore =
    (w : Setting) (actions : List Action) (d : Action) (i : ℕ)
    → history_by w (actions ++ d ∷ []) i
    ≡ history_by w actions i ++ adds w i (history_by w actions i) d

abbrev pub HistoriesGrow : Type 0
HistoriesGrow =
    (w : Setting) (actions more : List Action)
    → Grow (history_by w actions) (history_by w (actions ++ more))

-- A history that a member can have, without queries, is the one by the submitted values and frames
-- that it holds, as actions at that member
abbrev pub LegalHistoryByActions : Type 0
LegalHistoryByActions =
    (g : GenesisFields) (k : KeyFields) (history : List HistoryEntry) (faulty : ℕ → Bool)
    → IsKeysOf g k → Legal g k history
    → events history ≡ history_by (setting_by g faulty) (actions_in k.own history) k.own

-- ---- genuine actions

abbrev pub NoActionIsGenuine : Type 0
NoActionIsGenuine = (w : Setting) → AreGenuine w []

abbrev pub GenuineByOneMore : Type 0
GenuineByOneMore =
    (w : Setting) (actions : List Action) (d : Action) → AreGenuine w actions
    → IsGenuine w actions d
    → AreGenuine w (actions ++ d ∷ [])

abbrev pub PrefixIsGenuine : Type 0
PrefixIsGenuine =
    (w : Setting) (one actions : List Action)
    → IsPrefix one actions → AreGenuine w actions → AreGenuine w one

abbrev pub GenuineByPlace : Type 0
GenuineByPlace =
    (w : Setting) (actions : List Action) → AreGenuine w actions ↔ AreGenuineByPlace w actions

-- ---- the tests

abbrev pub CorrectIsTold : Type 0
CorrectIsTold = (w : Setting) (i : ℕ) → (is_correct w i ≡ true) ↔ IsCorrect w i

abbrev pub ForgedIsTold : Type 0
ForgedIsTold =
    (w : Setting) (histories : ℕ → List Event) (d : Action)
    → (is_forged_in w histories d ≡ false) ↔ IsGenuineIn w histories d

abbrev pub NoneForgedIsTold : Type 0
NoneForgedIsTold =
    (w : Setting) (actions : List Action) → (none_forged w [] actions ≡ true) ↔ AreGenuine w actions
