use Rattle.std.proofs.Common.{◌≡◌, ◌++◌, length, drop, map, Ok}
use Rattle.pay_link.specs.Files.{keys_from, ◌>>=◌}
use Rattle.pay_link.proofs.keys.keys_of_texts.Given as goal

-- what the texts say is the keys so far, and what the rest say
abbrev pub invariant-loop-place : goal.invariant-loop-place
invariant-loop-place l =
    (length l.keys.items ≡ l.place) ×
    (keys_from l.own 0 (map (λ text. text.now) l.texts)
    ≡ (keys_from l.own l.place (map (λ text. text.now) (drop l.place l.texts)) >>= (λ keys. Ok (l.keys.items ++ keys))))
