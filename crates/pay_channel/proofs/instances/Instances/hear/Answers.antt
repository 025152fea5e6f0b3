use Rattle.std.proofs.Common.{ap, sym, ◌∙◌, subst₂, [], arith}
use Rattle.std.proofs.lemmas.Grind.{common_steps}
use Rattle.std.proofs.lemmas.Result.{on_ok_weaker, on_err_weaker, IfOk-weaker}
use Rattle.pay_echo.specs.Meaning.{Meaning, Sees}
use Rattle.pay_echo.specs.Votes.{vote_of_ref}
use Rattle.pay_channel.specs.State.{meaning_in}
use Rattle.pay_channel.specs.Hearing.{IsOutgoing}
use Rattle.pay_channel.proofs.SlotLemmas.{key_cmp, key_cmp-is, slots_of, meaning_in-lookup, meaning_in-absent, meaning_in-written, meaning_in-written_other, meaning_in-inserted, meaning_in-inserted_other, everywhere, foreign_at}
use Rattle.pay_channel.proofs.instances.Instances.hear.Goals as goal

-- the broadcast's instance is there

pub tell-requires-clause-foreign : goal.tell-requires-clause-foreign
tell-requires-clause-foreign g c =
    let found = meaning_in-lookup g.I.Instance.meaning c.args.group c.args.owner c.args.seq _ (key_cmp-is c.args.owner c.args.seq) c.self.inside.by_broadcast.entries c.in-Some.instance.now (sym c.in-Some.ensures.value) in
    let shown = ap (λ l. meaning_in c.args.group l c.args.owner c.args.seq) c.self.view_is in
    foreign_at c.args.group c.requires.reached.0 (g.I.Instance.meaning c.in-Some.instance.now) (vote_of_ref c.args.vote) (sym found ∙ shown ∙ c.requires.reached.1) c.requires.foreign

pub tell-requires-clause-reached : goal.tell-requires-clause-reached
tell-requires-clause-reached g c =
    let found = meaning_in-lookup g.I.Instance.meaning c.args.group c.args.owner c.args.seq _ (key_cmp-is c.args.owner c.args.seq) c.self.inside.by_broadcast.entries c.in-Some.instance.now (sym c.in-Some.ensures.value) in
    let shown = ap (λ l. meaning_in c.args.group l c.args.owner c.args.seq) c.self.view_is in
    (c.args.group, c.requires.reached.0, sym found ∙ shown ∙ c.requires.reached.1)

pub returns-in-Some-clause-hears : goal.returns-in-Some-clause-hears
returns-in-Some-clause-hears g c =
    let its = c.args.group in
    let is = key_cmp-is c.args.owner c.args.seq in
    let es = c.self.inside.by_broadcast.entries in
    let found = meaning_in-lookup g.I.Instance.meaning its c.args.owner c.args.seq _ is es c.in-Some.instance.now (sym c.in-Some.ensures.value) in
    let old = sym (ap (λ l. meaning_in its l c.args.owner c.args.seq) c.self.view_is) ∙ found in
    let new = ap (λ ns. meaning_in its (slots_of g.I.Instance.meaning ns) c.args.owner c.args.seq) (c.get_mut.follows.holds c.tell.new.instance).0 ∙ meaning_in-written g.I.Instance.meaning its c.args.owner c.args.seq _ is es c.in-Some.instance.now c.tell.new.instance (sym c.in-Some.ensures.value) in
    let P : Meaning → Meaning → Type 0 = λ m n. Sees m n (vote_of_ref c.args.vote) in
    on_ok_weaker c.tell.result
    (λ seen. record {
      here = subst₂ P (sym old) (sym new) seen;
      others = λ a s ne.
          ap (λ ns. meaning_in its (slots_of g.I.Instance.meaning ns) a s) (c.get_mut.follows.holds c.tell.new.instance).0
          ∙ meaning_in-written_other g.I.Instance.meaning its c.args.owner c.args.seq _ is es c.tell.new.instance a s ne
          ∙ ap (λ l. meaning_in its l a s) c.self.view_is;
    })
    c.tell.ensures.seen

pub returns-in-Some-clause-out : goal.returns-in-Some-clause-out
returns-in-Some-clause-out g c =
    let its = c.args.group in
    let is = key_cmp-is c.args.owner c.args.seq in
    let es = c.self.inside.by_broadcast.entries in
    let found = meaning_in-lookup g.I.Instance.meaning its c.args.owner c.args.seq _ is es c.in-Some.instance.now (sym c.in-Some.ensures.value) in
    let old = sym (ap (λ l. meaning_in its l c.args.owner c.args.seq) c.self.view_is) ∙ found in
    let new = ap (λ ns. meaning_in its (slots_of g.I.Instance.meaning ns) c.args.owner c.args.seq) (c.get_mut.follows.holds c.tell.new.instance).0 ∙ meaning_in-written g.I.Instance.meaning its c.args.owner c.args.seq _ is es c.in-Some.instance.now c.tell.new.instance (sym c.in-Some.ensures.value) in
    IfOk-weaker c.tell.result (IsOutgoing c.args.owner c.args.seq (vote_of_ref c.args.vote) (g.I.Instance.meaning c.in-Some.instance.now) (g.I.Instance.meaning c.tell.new.instance))
    (IsOutgoing c.args.owner c.args.seq (vote_of_ref c.args.vote) (meaning_in its c.args.self.now c.args.owner c.args.seq) (meaning_in its (slots_of g.I.Instance.meaning (c.get_mut.follows.lender c.tell.new.instance).entries) c.args.owner c.args.seq))
    (λ out h. let P : Meaning → Meaning → Type 0 = λ m n. IsOutgoing c.args.owner c.args.seq (vote_of_ref c.args.vote) m n out in subst₂ P (sym old) (sym new) h) c.tell.ensures.out

pub returns-in-Some-clause-err : goal.returns-in-Some-clause-err
returns-in-Some-clause-err g c =
    let its = c.args.group in
    let is = key_cmp-is c.args.owner c.args.seq in
    let es = c.self.inside.by_broadcast.entries in
    let found = meaning_in-lookup g.I.Instance.meaning its c.args.owner c.args.seq _ is es c.in-Some.instance.now (sym c.in-Some.ensures.value) in
    let old = sym (ap (λ l. meaning_in its l c.args.owner c.args.seq) c.self.view_is) ∙ found in
    let ns = (c.get_mut.follows.lender c.tell.new.instance).entries in
    let new = ap (λ ns. meaning_in its (slots_of g.I.Instance.meaning ns) c.args.owner c.args.seq) (c.get_mut.follows.holds c.tell.new.instance).0 ∙ meaning_in-written g.I.Instance.meaning its c.args.owner c.args.seq _ is es c.in-Some.instance.now c.tell.new.instance (sym c.in-Some.ensures.value) in
    on_err_weaker c.tell.result
    (λ h. everywhere (meaning_in its (slots_of g.I.Instance.meaning ns)) (meaning_in its c.args.self.now) c.args.owner c.args.seq (new ∙ h ∙ sym old)
    (λ a s ne. ap (λ ns. meaning_in its (slots_of g.I.Instance.meaning ns) a s) (c.get_mut.follows.holds c.tell.new.instance).0
    ∙ meaning_in-written_other g.I.Instance.meaning its c.args.owner c.args.seq _ is es c.tell.new.instance a s ne
    ∙ ap (λ l. meaning_in its l a s) c.self.view_is))
    c.tell.ensures.err

-- a fresh one is put in

pub tell-requires-2-clause-foreign : goal.tell-requires-2-clause-foreign
tell-requires-2-clause-foreign g c =
    foreign_at c.args.group [] (g.I.Instance.meaning c.in_ok-instance.instance) (vote_of_ref c.args.vote) c.in_ok-instance.ensures.none c.requires.foreign

pub tell-requires-2-clause-reached : goal.tell-requires-2-clause-reached
tell-requires-2-clause-reached g c = (c.args.group, [], c.in_ok-instance.ensures.none)

pub returns-clause-hears : goal.returns-clause-hears
returns-clause-hears g c =
    let its = c.args.group in
    let is = key_cmp-is c.args.owner c.args.seq in
    let es = c.self.inside.by_broadcast.entries in
    let absent = meaning_in-absent g.I.Instance.meaning its c.args.owner c.args.seq _ is es (sym c.in_default.ensures.value) in
    let old = sym (ap (λ l. meaning_in its l c.args.owner c.args.seq) c.self.view_is) ∙ absent ∙ sym c.in_ok-instance.ensures.none in
    let new = ap (λ ns. meaning_in its (slots_of g.I.Instance.meaning ns) c.args.owner c.args.seq) c.in_ok-insert.ensures.entries ∙ meaning_in-inserted g.I.Instance.meaning its c.args.owner c.args.seq key_cmp is c.get_mut.follows.lender-at-none.entries c.tell-2.new.instance in
    let P : Meaning → Meaning → Type 0 = λ m n. Sees m n (vote_of_ref c.args.vote) in
    record {
      here = subst₂ P (sym old) (sym new) c.in_ok-outgoing.ensures.seen;
      others = λ a s ne.
          ap (λ ns. meaning_in its (slots_of g.I.Instance.meaning ns) a s) c.in_ok-insert.ensures.entries
          ∙ meaning_in-inserted_other g.I.Instance.meaning its c.args.owner c.args.seq key_cmp is c.get_mut.follows.lender-at-none.entries c.tell-2.new.instance a s ne
          ∙ rw c.get_mut.follows.holds-at-none (ap (λ l. meaning_in its l a s) c.self.view_is);
    }

pub returns-clause-out : goal.returns-clause-out
returns-clause-out g c =
    let its = c.args.group in
    let is = key_cmp-is c.args.owner c.args.seq in
    let es = c.self.inside.by_broadcast.entries in
    let absent = meaning_in-absent g.I.Instance.meaning its c.args.owner c.args.seq _ is es (sym c.in_default.ensures.value) in
    let old = sym (ap (λ l. meaning_in its l c.args.owner c.args.seq) c.self.view_is) ∙ absent ∙ sym c.in_ok-instance.ensures.none in
    let new = ap (λ ns. meaning_in its (slots_of g.I.Instance.meaning ns) c.args.owner c.args.seq) c.in_ok-insert.ensures.entries ∙ meaning_in-inserted g.I.Instance.meaning its c.args.owner c.args.seq key_cmp is c.get_mut.follows.lender-at-none.entries c.tell-2.new.instance in
    let P : Meaning → Meaning → Type 0 = λ m n. IsOutgoing c.args.owner c.args.seq (vote_of_ref c.args.vote) m n c.in_ok-outgoing.outgoing in
    subst₂ P (sym old) (sym new) c.in_ok-outgoing.ensures.out

pub returns-in_err-instance-clause-err : goal.returns-in_err-instance-clause-err
returns-in_err-instance-clause-err g c = grind (arith, common_steps)
