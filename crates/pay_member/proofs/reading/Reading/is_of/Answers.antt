use Rattle.std.proofs.Common.{◌≡◌, ap, sym, subst, ◌∙◌}
use Rattle.pay_member.specs.Questions.{Shows}
use Rattle.pay_member.proofs.reading.Reading.is_of.Goals as goal

pub returns : goal.returns
returns g c =
    let q = c.args.question in
    let m = c.args.view.now in
    let found = c.in_ok-answer.answer in
    let shows : Shows m (g.Q.Question.reading q found) = c.in_ok-answer.ensures in
    let given : c.args.self.now ≡ g.Q.Question.reading q c.requires.0 = c.requires.1 in (
      (λ yes. subst (λ r. Shows m r) (sym (c.is_reading.ensures.0 yes)) shows),
      (λ told.
          let same : found ≡ c.requires.0 = g.met.Q.Question.one_answer q m found c.requires.0 shows (subst (λ r. Shows m r) given told) in
          c.is_reading.ensures.1 (given ∙ ap (g.Q.Question.reading q) (sym same))),
    )
