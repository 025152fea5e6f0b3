use Rattle.std.proofs.Common.{◌≡◌, ℕ, List, ◌∷◌, ◌++◌, length, sym, ap, ◌∙◌, subst, arith}
use Rattle.std.specs.Int.{w16, w32, w64, to_be_bytes}
use Rattle.pay_record.specs.Records.{LoggedFields}
use Rattle.pay_record.specs.Loggable.{StandsIn}
use Rattle.pay_member.specs.declared.event.Told.{Told}
use Rattle.pay_record.proofs.Inside.{short_query}
use Rattle.pay_record.proofs.Stands.{length-query, query_entry, query_stands}
use Rattle.pay_record.proofs.reading.read_query.Goals as goal

pub returns-in_default : goal.returns-in_default
returns-in_default c = short_query c.args.keys.now c.args.stamp c.args.fields.now (omega (arith, c.in_default.ensures.none))

pub returns-in_default-eight : goal.returns-in_default-eight
returns-in_default-eight c =
    short_query c.args.keys.now c.args.stamp c.args.fields.now
    (omega (arith, ap (λ (l : List ℕ). length l) c.in-Some.ensures.some, c.in_default-eight.ensures.none))

pub returns-in_default-four : goal.returns-in_default-four
returns-in_default-four c =
    short_query c.args.keys.now c.args.stamp c.args.fields.now
    (omega (
      arith,
      ap (λ (l : List ℕ). length l) c.in-Some.ensures.some,
      ap (λ (l : List ℕ). length l) c.in-Some-eight.ensures.some,
      c.in_default-four.ensures.none,
    ))

pub returns-in_default-four-2 : goal.returns-in_default-four-2
returns-in_default-four-2 c =
    short_query c.args.keys.now c.args.stamp c.args.fields.now
    (omega (
      arith,
      ap (λ (l : List ℕ). length l) c.in-Some.ensures.some,
      ap (λ (l : List ℕ). length l) c.in-Some-eight.ensures.some,
      ap (λ (l : List ℕ). length l) c.in-Some-four.ensures.some,
      c.in_default-four-2.ensures.none,
    ))

pub returns : goal.returns
returns c =
    let account = c.in-Some.account in
    let told : Told = record { balance = c.in-Some-eight.balance; front = c.in-Some-four.front; listed = c.in-Some-four-2.listed } in
    let more = c.in-Some-four-2.field-0-1.now in
    let is : c.args.fields.now ≡ to_be_bytes w16 account ++ to_be_bytes w64 told.balance ++ to_be_bytes w32 told.front ++ to_be_bytes w32 told.listed ++ more =
    c.in-Some.ensures.some
    ∙ ap (λ (l : List ℕ). to_be_bytes w16 account ++ l) (c.in-Some-eight.ensures.some
    ∙ ap (λ (l : List ℕ). to_be_bytes w64 told.balance ++ l) (c.in-Some-four.ensures.some ∙ ap (λ (l : List ℕ). to_be_bytes w32 told.front ++ l) c.in-Some-four-2.ensures.some)) in
    let logged : LoggedFields = record { entry = query_entry c.args.stamp account told; id = 0 } in (
      subst (λ (f : List ℕ). StandsIn c.args.keys.now ((3 ∷ to_be_bytes w16 c.args.stamp) ++ f) logged) (sym is)
          (query_stands c.args.keys.now c.args.stamp account told more c.ranges.stamp.fits c.in-Some.ensures.range c.in-Some-eight.ensures.range c.in-Some-four.ensures.range c.in-Some-four-2.ensures.range),
      length-query c.args.stamp account told,
    )
