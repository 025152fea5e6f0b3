-- Refusals: those that each call can return, and the number and the name that each is printed with.
use Rattle.std.specs.Prelude.{ℕ, List, ◌++◌, codes, decimal}
use Rattle.pay_member.specs.declared.fault.AskFault.{AskFault}
use Rattle.pay_member.specs.declared.fault.AskFault.TheVariants as ask
use Rattle.pay_member.specs.declared.fault.TakeFault.{TakeFault}
use Rattle.pay_member.specs.declared.fault.TakeFault.TheVariants as take
use Rattle.pay_member.specs.declared.fault.QueryFault.{QueryFault}
use Rattle.pay_member.specs.declared.fault.QueryFault.TheVariants as query
use Rattle.pay_member.specs.declared.fault.MemberFault.{MemberFault}
use Rattle.pay_member.specs.declared.fault.MemberFault.TheVariants.{Memory, Spent, TooLong, Repeat}
use Rattle.pay_member.specs.declared.fault.MemberFault.TheVariants.{Gap, WrongKey, NoAccount}

abbrev pub member_fault_entry : MemberFault → ℕ × List ℕ
member_fault_entry Memory = (0, codes "Memory")
member_fault_entry Spent = (1, codes "Spent")
member_fault_entry TooLong = (2, codes "TooLong")
member_fault_entry (Repeat next) = (3, codes "Repeat")
member_fault_entry (Gap next) = (4, codes "Gap")
member_fault_entry WrongKey = (5, codes "WrongKey")
member_fault_entry NoAccount = (6, codes "NoAccount")

abbrev pub member_fault_number : MemberFault → ℕ
member_fault_number fault = (member_fault_entry fault).0

abbrev pub member_fault_name : MemberFault → List ℕ
member_fault_name fault = (member_fault_entry fault).1

abbrev pub member_fault_words : MemberFault → List ℕ
member_fault_words fault =
    decimal (member_fault_number fault) ++ codes " " ++ member_fault_name fault

-- ---- the refusals of one call among all

abbrev pub fault_of_ask : AskFault → MemberFault
fault_of_ask ask.Memory = Memory
fault_of_ask ask.TooLong = TooLong
fault_of_ask ask.Spent = Spent

abbrev pub fault_of_take : TakeFault → MemberFault
fault_of_take take.Memory = Memory
fault_of_take take.WrongKey = WrongKey
fault_of_take (take.Repeat next) = Repeat next
fault_of_take (take.Gap next) = Gap next

abbrev pub fault_of_query : QueryFault → MemberFault
fault_of_query query.Memory = Memory
fault_of_query query.NoAccount = NoAccount
