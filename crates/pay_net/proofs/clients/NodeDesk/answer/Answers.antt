use Rattle.pay_text.specs.Answers.{text_bytes}
use Rattle.pay_net.proofs.DeskClients.{made_after}
use Rattle.pay_net.proofs.clients.NodeDesk.answer.Goals as goal

pub invariant_of-self : goal.invariant_of-self
invariant_of-self g c =
    made_after _ _ c.answer.new.self _ (λ a. text_bytes a.text) (λ a. a.goes_on) c.answer.result
    c.self.invariant c.answer.ensures.ok c.answer.ensures.err
