-- The lists of any channel's state.
use Rattle.std.proofs.Common.{◌≡◌, ℕ, ◌≤◌, zero, suc, length, refl, arith}
use Rattle.pay_channel.proofs.Lists.{slice_get-some}
use Rattle.pay_channel.specs.History.{seqs}
use Rattle.pay_channel.specs.State.{delivered_value_at, channel_lists}
use Rattle.pay_channel.specs.FollowLaws.{ListsOfAreShort, UnchangedLists}
use Rattle.pay_channel.proofs.Grown.{lists-same}
use Rattle.pay_channel.proofs.Places.{place_is_value}

pub lists_of_are_short : ListsOfAreShort
unfolding channel_lists
lists_of_are_short c a = go (length (channel_lists c a)) refl where
  go : (n : ℕ) → length (channel_lists c a) ≡ n → length (channel_lists c a) ≤ seqs
  go zero is = omega arith
  go (suc n) is =
      let last = slice_get-some (channel_lists c a) n (omega arith) in
      let below = ((place_is_value c.group (delivered_value_at c) a n last.0).0 last.1).1 in
      omega arith

pub unchanged_lists : UnchangedLists
unchanged_lists old new same a = lists-same old new same.group same.meanings a
