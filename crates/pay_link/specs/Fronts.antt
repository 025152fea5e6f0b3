-- Only the frame of the next number is accepted from each peer.
use Rattle.std.specs.Prelude.{ℕ, ◌==◌, nat_lt, Result, Ok, Err, ⊤, if◌then◌else◌}
use Rattle.pay_link.specs.declared.opened.LinkFault.{LinkFault}
use Rattle.pay_link.specs.declared.opened.LinkFault.TheVariants.{Gap, Repeat}

-- the test of whether a number is the next one: a lower one was accepted before, a higher one
-- leaves a gap
-- page: `turn`: a number is the next one, lower or higher: "no duplication" of the book's links
abbrev pub turn : ℕ → ℕ → Result ⊤ LinkFault
turn next number =
    if number == next then Ok tt
    else if nat_lt number next then Err (Repeat next)
    else Err (Gap next)
