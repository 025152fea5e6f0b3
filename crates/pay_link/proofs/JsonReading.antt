-- What the reader of JSON answers, and lists read one by one.
use Rattle.std.proofs.Common.{◌≡◌, ℕ, List, Bool, true, false, Some, None, Option, refl, sym, if◌then◌else◌}
use Rattle.std.specs.Str.{IsUtf8, is_utf8}
use Rattle.std.proofs.lemmas.Str.{IsUtf8-from_is_utf8, is_utf8-from_IsUtf8}
use Rattle.serde_json.specs.Data.{Data}
use Rattle.serde_json.specs.Read.{read}
use Rattle.pay_link.specs.Json.{value_in}

pub value_in-some : (bytes : List ℕ) (d : Data) → IsUtf8 bytes → read bytes ≡ Some d → Some d ≡ value_in bytes
unfolding value_in
value_in-some bytes d utf8 h = rw (is_utf8-from_IsUtf8 bytes utf8) (sym h)

none_unless : (b : Bool) (o : Option Data) → (b ≡ true → o ≡ None) → None ≡ (if b then o else None)
none_unless true o h = sym (h refl)
none_unless false o h = refl

pub value_in-none : (bytes : List ℕ) → (IsUtf8 bytes → read bytes ≡ None) → None ≡ value_in bytes
unfolding value_in
value_in-none bytes h = none_unless (is_utf8 bytes) (read bytes) (λ b. h (IsUtf8-from_is_utf8 bytes b))
