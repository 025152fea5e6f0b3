-- The faults of this crate: the number and the name under which each is printed.
use Rattle.std.specs.Prelude.{ℕ, List, ◌++◌, codes, decimal}
use Rattle.pay_link.specs.declared.genesis.GenesisFault.{GenesisFault}
use Rattle.pay_link.specs.declared.genesis.GenesisFault.TheVariants as genesis
use Rattle.pay_link.specs.declared.keys.KeysFault.{KeysFault}
use Rattle.pay_link.specs.declared.keys.KeysFault.TheVariants as keys
use Rattle.pay_link.specs.declared.opened.LinkFault.{LinkFault}
use Rattle.pay_link.specs.declared.opened.LinkFault.TheVariants as link

abbrev pub genesis_fault_entry : GenesisFault → ℕ × List ℕ
genesis_fault_entry genesis.Memory = (0, codes "Memory")
genesis_fault_entry genesis.BadJson = (1, codes "BadJson")
genesis_fault_entry genesis.BadShape = (2, codes "BadShape")
genesis_fault_entry genesis.BadCount = (3, codes "BadCount")
genesis_fault_entry genesis.BadFaults = (4, codes "BadFaults")
genesis_fault_entry genesis.BadOpening = (5, codes "BadOpening")
genesis_fault_entry genesis.BadTotal = (6, codes "BadTotal")

abbrev pub genesis_fault_number : GenesisFault → ℕ
genesis_fault_number fault = (genesis_fault_entry fault).0

abbrev pub genesis_fault_name : GenesisFault → List ℕ
genesis_fault_name fault = (genesis_fault_entry fault).1

abbrev pub genesis_fault_words : GenesisFault → List ℕ
genesis_fault_words fault =
    decimal (genesis_fault_number fault) ++ codes " " ++ genesis_fault_name fault

abbrev pub keys_fault_entry : KeysFault → ℕ × List ℕ
keys_fault_entry keys.Memory = (0, codes "Memory")
keys_fault_entry keys.BadJson = (1, codes "BadJson")
keys_fault_entry keys.BadShape = (2, codes "BadShape")
keys_fault_entry keys.BadOwn = (3, codes "BadOwn")
keys_fault_entry keys.BadKeyCount = (4, codes "BadKeyCount")
keys_fault_entry (keys.BadKey place) = (5, codes "BadKey")

abbrev pub keys_fault_number : KeysFault → ℕ
keys_fault_number fault = (keys_fault_entry fault).0

abbrev pub keys_fault_name : KeysFault → List ℕ
keys_fault_name fault = (keys_fault_entry fault).1

abbrev pub keys_fault_words : KeysFault → List ℕ
keys_fault_words fault = decimal (keys_fault_number fault) ++ codes " " ++ keys_fault_name fault

abbrev pub link_fault_entry : LinkFault → ℕ × List ℕ
link_fault_entry link.NotForMe = (1, codes "NotForMe")
link_fault_entry link.UnknownSender = (2, codes "UnknownSender")
link_fault_entry link.UnknownOwner = (3, codes "UnknownOwner")
link_fault_entry link.BadTag = (4, codes "BadTag")
link_fault_entry (link.Repeat next) = (5, codes "Repeat")
link_fault_entry (link.Gap next) = (6, codes "Gap")

abbrev pub link_fault_number : LinkFault → ℕ
link_fault_number fault = (link_fault_entry fault).0

abbrev pub link_fault_name : LinkFault → List ℕ
link_fault_name fault = (link_fault_entry fault).1

abbrev pub link_fault_words : LinkFault → List ℕ
link_fault_words fault = decimal (link_fault_number fault) ++ codes " " ++ link_fault_name fault
