use Rattle.std.proofs.Common.{◌≡◌, ℕ, List, ◌∷◌, ◌++◌, length, drop, Err, sym, ap, ◌∙◌, subst, arith}
use Rattle.std.specs.Int.{w16, w32, to_be_bytes}
use Rattle.pay_frame.specs.Frame.{BodyFields}
use Rattle.pay_record.specs.Loggable.{BodyStandsIn}
use Rattle.pay_record.proofs.Frames.{body_stands, if_no_body, no_body_value, no_seq, no_vote, short_body}
use Rattle.pay_record.proofs.reading.body_in_front.Goals as goal

pub returns-in_default : goal.returns-in_default
returns-in_default c = short_body c.args.bytes.now (omega (arith, c.in_default.ensures.none))

pub returns-in_default-two : goal.returns-in_default-two
returns-in_default-two c =
    short_body c.args.bytes.now (omega (arith, ap (λ (l : List ℕ). length l) c.in-Some.ensures.some, c.in_default-two.ensures.none))

pub returns-in_default-four : goal.returns-in_default-four
returns-in_default-four c =
    short_body c.args.bytes.now (omega (
      arith,
      ap (λ (l : List ℕ). length l) c.in-Some.ensures.some,
      ap (λ (l : List ℕ). length l) c.in-Some-two.ensures.some,
      c.in_default-four.ensures.none,
    ))

pub returns-in_default-two-2 : goal.returns-in_default-two-2
returns-in_default-two-2 c =
    short_body c.args.bytes.now (omega (
      arith,
      ap (λ (l : List ℕ). length l) c.in-Some.ensures.some,
      ap (λ (l : List ℕ). length l) c.in-Some-two.ensures.some,
      ap (λ (l : List ℕ). length l) c.in-Some-four.ensures.some,
      c.in_default-two-2.ensures.none,
    ))

pub returns-in_default-vote_of : goal.returns-in_default-vote_of
returns-in_default-vote_of c b stands =
    no_vote c.in-Some.code c.in-Some.rest.now c.in_default-vote_of.ensures.none b
    (subst (λ (l : List ℕ). BodyStandsIn l b) c.in-Some.ensures.some stands)

pub returns-then-seq-ge-SEQS : goal.returns-then-seq-ge-SEQS
returns-then-seq-ge-SEQS c b stands =
    let code = c.in-Some.code in
    let owner = c.in-Some-two.owner in
    let is : c.args.bytes.now ≡ code ∷ (to_be_bytes w16 owner ++ (to_be_bytes w32 c.in-Some-four.seq ++ c.in-Some-four.rest.now)) =
    c.in-Some.ensures.some
    ∙ ap (λ (l : List ℕ). code ∷ l) (c.in-Some-two.ensures.some ∙ ap (λ (l : List ℕ). to_be_bytes w16 owner ++ l) c.in-Some-four.ensures.some) in
    no_seq code owner c.in-Some-four.seq c.in-Some-four.rest.now c.in-Some-four.ensures.range (omega (arith, c.if-seq-ge-SEQS.true)) b
    (subst (λ (l : List ℕ). BodyStandsIn l b) is stands)

pub returns-in-Err : goal.returns-in-Err
returns-in-Err c =
    let code = c.in-Some.code in
    let owner = c.in-Some-two.owner in
    let seq = c.in-Some-four.seq in
    let len = c.in-Some-two-2.len in
    let is : c.args.bytes.now ≡ code ∷ (to_be_bytes w16 owner ++ (to_be_bytes w32 seq ++ (to_be_bytes w16 len ++ c.in-Some-two-2.rest.now))) =
    c.in-Some.ensures.some
    ∙ ap (λ (l : List ℕ). code ∷ l) (c.in-Some-two.ensures.some
    ∙ ap (λ (l : List ℕ). to_be_bytes w16 owner ++ l) (c.in-Some-four.ensures.some ∙ ap (λ (l : List ℕ). to_be_bytes w32 seq ++ l) c.in-Some-two-2.ensures.some)) in
    if_no_body c.args.bytes.now c.in-Err.fault (λ none b stands.
    no_body_value code owner seq len c.in-Some-two-2.rest.now c.in-Some-two-2.ensures.range (c.in-Err.ensures.none (ap Err none)) b
    (subst (λ (l : List ℕ). BodyStandsIn l b) is stands))

pub returns : goal.returns
returns c =
    let code = c.in-Some.code in
    let owner = c.in-Some-two.owner in
    let seq = c.in-Some-four.seq in
    let len = c.in-Some-two-2.len in
    let value = c.in-Ok.value in
    let kind = c.in-Some-vote_of.kind in
    let found = c.in-Ok.ensures.value in
    let more : List ℕ = drop len c.in-Some-two-2.rest.now in
    let is : c.args.bytes.now ≡ code ∷ (to_be_bytes w16 owner ++ (to_be_bytes w32 seq ++ (to_be_bytes w16 len ++ value ++ more))) =
    c.in-Some.ensures.some
    ∙ ap (λ (l : List ℕ). code ∷ l) (c.in-Some-two.ensures.some
    ∙ ap (λ (l : List ℕ). to_be_bytes w16 owner ++ l) (c.in-Some-four.ensures.some
    ∙ ap (λ (l : List ℕ). to_be_bytes w32 seq ++ l) (c.in-Some-two-2.ensures.some ∙ ap (λ (l : List ℕ). to_be_bytes w16 len ++ l) found.2))) in
    let b : BodyFields = record { kind = kind; owner = owner; seq = seq; value = value } in
    let made : b ≡ c.new-body.result = sym c.new-body.ensures.value in (
      subst (λ (x : BodyFields). BodyStandsIn c.args.bytes.now x) made (subst (λ (l : List ℕ). BodyStandsIn l b) (sym is)
          (body_stands code kind owner seq len value more c.in-Some-vote_of.ensures.some c.in-Some-two.ensures.range (omega (arith, c.if-seq-ge-SEQS.false)) found.0 found.1)),
      omega (arith, c.from.ensures, found.0, ap (λ (x : BodyFields). length x.value) made),
    )
