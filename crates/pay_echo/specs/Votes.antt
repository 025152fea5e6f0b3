-- Votes as they are passed to an instance.
use Rattle.pay_echo.specs.Broadcast.{Vote, Send, Echo, Ready}
use Rattle.pay_echo.specs.declared.instance.VoteRef.{VoteRef}
use Rattle.pay_echo.specs.declared.instance.VoteRef.TheVariants as given

-- the vote that a `VoteRef` lends
abbrev pub vote_of_ref : VoteRef → Vote
vote_of_ref (given.Send value) = Send value.now
vote_of_ref (given.Echo process value) = Echo process value.now
vote_of_ref (given.Ready process value) = Ready process value.now
