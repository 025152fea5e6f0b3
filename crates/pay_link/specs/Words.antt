-- The words of a frame that is refused.
use Rattle.std.specs.Prelude.{List, ℕ, [], ◌++◌, decimal, codes}
use Rattle.pay_link.specs.declared.opened.LinkFault.{LinkFault}
use Rattle.pay_link.specs.declared.opened.LinkFault.TheVariants.{NotForMe, UnknownSender}
use Rattle.pay_link.specs.declared.opened.LinkFault.TheVariants.{UnknownOwner, BadTag, Repeat, Gap}
use Rattle.pay_link.specs.Faults.{link_fault_number, link_fault_name}

-- ` next M`, if a refusal says which number is next
abbrev pub next_words : LinkFault → List ℕ
next_words NotForMe = []
next_words UnknownSender = []
next_words UnknownOwner = []
next_words BadTag = []
next_words (Repeat next) = codes " next " ++ decimal next
next_words (Gap next) = codes " next " ++ decimal next

-- `C NAME`, and which number is next
abbrev pub link_words : LinkFault → List ℕ
link_words fault =
    decimal (link_fault_number fault) ++ codes " " ++ link_fault_name fault ++ next_words fault
