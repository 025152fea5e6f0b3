-- A file that loses the bytes that no sync came after, and what crashes might have left of it.
use Rattle.std.specs.Prelude.{◌⊎◌, ℕ, List, [], ◌∷◌, ◌++◌, length, drop}
use mathlib.Core.Logic.{inl, inr}
use Rattle.pay_log.specs.declared.device.Left.{Left}
use Rattle.pay_log.specs.declared.device.LossyFile.{LossyFile}
use Rattle.pay_log.specs.Device.{Torn}

abbrev pub lossy_bytes : LossyFile → List ℕ
lossy_bytes f = f.synced.items ++ f.unsynced.items

-- at one of these moments a crash might have left this
abbrev pub HadBeen : List Left → List ℕ → Type 0
HadBeen [] c = ⊥
HadBeen (left ∷ past) c = Torn left.unsynced_len left.synced.items c ⊎ HadBeen past c

none_left : (past : List Left) (c : List ℕ) → HadBeen (drop (length past) past) c → ⊥
none_left [] c had = had
none_left (left ∷ past) c had = none_left past c had

-- since the last of these moments there is only what may be left now
pub only_now : (past : List Left) (Now : Type 0) (c : List ℕ)
    → Now ⊎ HadBeen (drop (length past) past) c → Now
only_now past Now c (inl now) = now
only_now past Now c (inr had) = absurd (none_left past c had)
