-- Actions without a forged frame: what a correct member accepts in another's name, that other
-- member sent.
use Rattle.std.specs.Prelude.{◌≡◌, ℕ, Bool, true, false, not, ◌&&◌, ◌==◌, List, [], ◌∷◌, ◌++◌}
use Rattle.std.specs.Prelude.{slice_get, take, Option, Some, None}
use Rattle.std.specs.Str.{bytes_eq}
use Rattle.pay_frame.specs.Frame.{BodyFields, code_of}
use Rattle.pay_channel.specs.History.{Event, out}
use Rattle.pay_world.specs.Setting.{Setting, group_at, IsCorrect, is_correct}
use Rattle.pay_world.specs.Actions.{Action, Asks, Brings, history_by}

-- Between correct members, with these histories of all members, a frame's number is a place in all
-- that its sender sent, and its body is the one there. The frames of a faulty member may contain
-- anything.
abbrev pub IsGenuineIn : Setting → (ℕ → List Event) → Action → Type 0
IsGenuineIn w histories (Asks k v) = Unit {0}
IsGenuineIn w histories (Brings k from number body) =
    IsCorrect w k → IsCorrect w from
    → slice_get (out (group_at w from) (histories from)) number ≡ Some body

-- an action is genuine after a list of actions
abbrev pub IsGenuine : Setting → List Action → Action → Type 0
IsGenuine w before d = IsGenuineIn w (history_by w before) d

-- each action is genuine after those before it
-- page: `AreGenuine`: each action of a list is genuine after those before it
pub record AreGenuine (w : Setting) (actions : List Action) : Type 0 where
  pub each :
      (before : List Action) (d : Action) (after : List Action) → actions ≡ before ++ d ∷ after
      → IsGenuine w before d

-- genuine actions, defined by places
abbrev pub AreGenuineByPlace : Setting → List Action → Type 0
AreGenuineByPlace w actions =
    (k : ℕ) (d : Action) → slice_get actions k ≡ Some d → IsGenuine w (take k actions) d

-- ---- genuine actions, as a test

abbrev pub is_same_body : BodyFields → Option BodyFields → Bool
is_same_body body None = false
is_same_body body (Some c) =
    code_of c.kind == code_of body.kind && c.owner == body.owner && c.seq == body.seq
    && bytes_eq c.value body.value

-- The action is a frame between correct members that its sender didn't send, or not under this
-- number.
abbrev pub is_forged_in : Setting → (ℕ → List Event) → Action → Bool
is_forged_in w histories (Asks k v) = false
is_forged_in w histories (Brings k from number body) =
    is_correct w k && is_correct w from
    && not (is_same_body body (slice_get (out (group_at w from) (histories from)) number))

abbrev pub is_forged : Setting → List Action → Action → Bool
is_forged w before d = is_forged_in w (history_by w before) d

-- None of these actions is forged, each after those before it.
abbrev pub none_forged : Setting → List Action → List Action → Bool
none_forged w before [] = true
none_forged w before (d ∷ actions) =
    not (is_forged w before d) && none_forged w (before ++ d ∷ []) actions
