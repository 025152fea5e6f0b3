-- The lines that a script prints.
use Rattle.std.specs.Prelude.{ℕ, Bool, ◌==◌, List, [], ◌∷◌, ◌++◌, decimal, codes, slice_index}
use Rattle.std.specs.Prelude.{if◌then◌else◌}
use Rattle.std.specs.List.{flat_map, range_with_len}
use Rattle.pay_frame.specs.Fault.{fault_number, name_of}
use Rattle.pay_link.specs.Words.{link_words}
use Rattle.pay_book.specs.Book.{Standing}
use Rattle.pay_member.specs.declared.fault.MemberFault.TheVariants as member
use Rattle.pay_member.specs.declared.bringing.Outcome.{Outcome}
use Rattle.pay_member.specs.declared.bringing.Outcome.TheVariants.{Took, Wanted, Frame, Link}
use Rattle.pay_member.specs.declared.bringing.Outcome.TheVariants.{WrongKey}
use Rattle.pay_member.specs.declared.event.Took as took
use Rattle.pay_member.specs.Book.{book_after}
use Rattle.pay_member.specs.Events.{events}
use Rattle.pay_member.specs.Member.{MemberFields}
use Rattle.pay_member.specs.Faults.{member_fault_number, member_fault_name}
use Rattle.pay_text.specs.Lines.{line_feed}
use Rattle.pay_world.specs.declared.event.WorldReply.{WorldReply}
use Rattle.pay_world.specs.declared.event.WorldReply.TheVariants as reply

-- `refused WHERE C NAME`
unfoldable pub refused_words_at : List ℕ → ℕ → List ℕ → List ℕ
refused_words_at at number name =
    codes "refused " ++ at ++ codes " " ++ decimal number ++ codes " " ++ name

abbrev pub if_so : Bool → List ℕ → List ℕ
if_so so words = if so then words else []

-- ` settle K`, if some entry settled
abbrev pub settle_words : ℕ → List ℕ
settle_words settled = if settled == 0 then [] else codes " settle " ++ decimal settled

-- `took`, and what followed
unfoldable pub took_words : took.Took → List ℕ
took_words t =
    codes "took" ++ if_so t.echo (codes " echo") ++ if_so t.ready (codes " ready")
    ++ if_so t.deliver (codes " deliver") ++ settle_words t.settled

-- what came of bytes that were delivered to a member
unfoldable pub outcome_words : Outcome → List ℕ
outcome_words (Took t) = took_words t
outcome_words (Wanted from number) = codes "wanted " ++ decimal from ++ codes " " ++ decimal number
outcome_words (Frame fault) = refused_words_at (codes "frame") (fault_number fault) (name_of fault)
outcome_words (Link fault) = codes "refused link " ++ link_words fault
outcome_words WrongKey =
    refused_words_at (codes "member") (member_fault_number member.WrongKey)
    (member_fault_name member.WrongKey)

-- what member i replied: `asked I seq S`, `refused member C NAME`, what came of bytes, or `ignored`
unfoldable pub reply_words : ℕ → WorldReply → List ℕ
reply_words i (reply.Asked number) = codes "asked " ++ decimal i ++ codes " seq " ++ decimal number
reply_words i (reply.Refused fault) =
    refused_words_at (codes "member") (member_fault_number fault) (member_fault_name fault)
reply_words i (reply.Brought outcome) = outcome_words outcome
reply_words i reply.Ignored = codes "ignored"

unfoldable pub reply_line : ℕ → WorldReply → List ℕ
reply_line i r = reply_words i r ++ line_feed ∷ []

-- the ledger that a member shows
abbrev pub shown_book : MemberFields → Standing
shown_book m = book_after m.genesis m.keys.own (events m.history)

-- a number for each of some accounts, each after a blank
unfoldable pub account_number_words : (ℕ → ℕ) → ℕ → List ℕ
account_number_words fault_number accounts =
    flat_map (λ a. codes " " ++ decimal (fault_number a)) (range_with_len 0 accounts)

-- `member I fronts F0 F1 .. balances B0 B1 ..`
unfoldable pub member_words : ℕ → ℕ → Standing → List ℕ
member_words accounts member book =
    codes "member " ++ decimal member ++ codes " fronts"
    ++ account_number_words (slice_index book.front) accounts
    ++ codes " balances" ++ account_number_words (slice_index book.balances) accounts
