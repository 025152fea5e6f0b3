-- Sets of processes as bits of a number, and votes as one mask for each value.
use Rattle.std.specs.Prelude.{◌≡◌, ◌≢◌, ℕ, ◌+◌, ◌*◌, ◌<◌, ◌≤◌, ◌^◌, Bool, true, false, ◌==◌, bit_or}
use Rattle.std.specs.Prelude.{◌⊎◌, List, [], ◌∷◌, ◌++◌, length, map, slice_index, Option, is_some}
use Rattle.std.specs.Prelude.{if◌then◌else◌}
use Rattle.std.specs.Int.{bit_at}
use Rattle.std.specs.List.{count_by, find, range_with_len}
use Rattle.pay_echo.specs.Broadcast.{Group, Vote, Send, Echo, Ready}
use Rattle.pay_echo.specs.Meaning.{Meaning}
use Rattle.pay_echo.specs.Plain.{meaning_by, AreVotePlaces}
use Rattle.pay_echo.specs.declared.candidate.Candidate.{Candidate}
use Rattle.pay_echo.specs.declared.instance.VoteKind.{VoteKind}
use Rattle.pay_echo.specs.declared.instance.VoteKind.TheVariants as kind

-- whether a process is in a mask
abbrev pub has : ℕ → ℕ → Bool
has mask process = bit_at mask process == 1

-- the mask with one more process
abbrev pub with_process : ℕ → ℕ → ℕ
with_process mask process = bit_or mask (2 ^ process)

-- The place of the first mask that the process is in. There is one mask for each value, so this is
-- the value that the process voted for.
unfoldable pub place_by : List ℕ → ℕ → Option ℕ
place_by masks process =
    find (λ k. has (slice_index masks k) process) (range_with_len 0 (length masks))

unfoldable pub votes_by : ℕ → List ℕ → List (Option ℕ)
votes_by members masks = map (place_by masks) (range_with_len 0 members)

-- Each mask is one of these members, and no process is in two masks.
pub record AreMasks (members : ℕ) (masks : List ℕ) : Type 0 where
  pub below : (k : ℕ) → slice_index masks k < 2 ^ members
  pub disjoint :
      (j k process : ℕ) → j ≢ k → has (slice_index masks j) process ≡ true
      → has (slice_index masks k) process ≡ false

-- ---- values, each with a mask of either kind

abbrev pub mask_of : VoteKind → Candidate → ℕ
mask_of kind.Echo c = c.echoes
mask_of kind.Ready c = c.readys

abbrev pub values_of : List Candidate → List (List ℕ)
values_of candidates = map (λ c. c.value) candidates

abbrev pub masks_of : VoteKind → List Candidate → List ℕ
masks_of of candidates = map (mask_of of) candidates

-- for each member the place of the value that it voted for
abbrev pub votes_of : ℕ → VoteKind → List Candidate → List (Option ℕ)
votes_of members of candidates = votes_by members (masks_of of candidates)

-- with a vote for this value; a SEND makes the process itself echo it
abbrev pub with_vote_for : ℕ → Vote → Candidate → Candidate
with_vote_for own (Send v) c = record c { echoes = with_process c.echoes own }
with_vote_for own (Echo p v) c = record c { echoes = with_process c.echoes p }
with_vote_for own (Ready p v) c = record c { readys = with_process c.readys p }

-- with process p's READY if it is due
abbrev pub with_ready_if : Bool → ℕ → Candidate → Candidate
with_ready_if due p c = if due then record c { readys = with_process c.readys p } else c

-- the same values, or one more at the end that nobody voted for
abbrev pub IsGrown : List Candidate → List Candidate → Type 0
IsGrown before after =
    (after ≡ before)
    ⊎ ((v : List ℕ) × (after ≡ before ++ record { value = v; echoes = 0; readys = 0 } ∷ []))

-- ---- an instance kept by masks

abbrev pub meaning_by_masks : Group → List Candidate → Option ℕ → Meaning
meaning_by_masks g candidates delivered =
    meaning_by g (values_of candidates) (votes_of g.members kind.Echo candidates)
    (votes_of g.members kind.Ready candidates) delivered

-- Of either kind no process is in the masks of two values. Each value has a vote, so there are at
-- most two values for each member.
pub record IsTallied (g : Group) (candidates : List Candidate) (delivered : Option ℕ) : Type 0 where
  pub are :
      AreVotePlaces g (values_of candidates) (votes_of g.members kind.Echo candidates)
      (votes_of g.members kind.Ready candidates) delivered
  pub masks : (of : VoteKind) → AreMasks g.members (masks_of of candidates)
  pub voted :
      length candidates ≤ count_by is_some (votes_of g.members kind.Echo candidates)
      + count_by is_some (votes_of g.members kind.Ready candidates)
  pub few : length candidates ≤ 2 * g.members
