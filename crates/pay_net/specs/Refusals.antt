-- When a node counts as out of memory: allocations failed again and again for five seconds.
use Rattle.std.specs.Prelude.{ℕ, ◌-◌, nat_le, Bool, Option, Some, None, if◌then◌else◌}
use Rattle.pay_net.specs.declared.refusals.Spell.{Spell}

-- The failed allocations of a row, after one more at this time. The earlier ones count if the last
-- was at most two seconds ago.
abbrev pub spell_behind : Option Spell → ℕ → Spell
spell_behind None now = record { first = now; last = now }
spell_behind (Some spell) now =
    if nat_le (now - spell.last) 2000 then record { first = spell.first; last = now }
    else record { first = now; last = now }

abbrev pub is_starved : Spell → Bool
is_starved spell = nat_le 5000 (spell.last - spell.first)
