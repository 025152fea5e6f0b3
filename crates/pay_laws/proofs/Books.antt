-- The group's book, and the lists of correct members.
use Rattle.std.proofs.Common.{◌≡◌, ℕ, ◌<◌, ◌≤◌, Bool, List, [], ◌∷◌, ◌++◌, length, refl, ap, sym, subst, ◌∙◌, append_assoc, arith}
use Rattle.std.specs.List.{count_by, range_with_len}
use Rattle.pay_channel.specs.Prefix.{IsPrefix}
use Rattle.pay_channel.specs.History.{list_of}
use Rattle.pay_echo.specs.Broadcast.{size}
use Rattle.pay_link.specs.Genesis.{GenesisFields}
use Rattle.pay_book.specs.Laws.{SettledEntriesGrow}
use Rattle.pay_member.specs.Group.{group_in}
use Rattle.pay_world.specs.Actions.{Action, history_by}
use Rattle.pay_world.specs.Headline.{lists_by}
use Rattle.pay_world.specs.HeadlineLaws.{ListStays, ListsAreEqual}
use Rattle.pay_world.specs.Setting.{HasFewFaulty, setting_by}
use Rattle.pay_audit.specs.Export.{ExportFields, lists_of}
use Rattle.pay_audit.specs.Exporting.{export_of}
use Rattle.pay_group.specs.BookLaws.{BookIsVouchedFor}
use Rattle.pay_laws.specs.Books.{BookIsOfCorrectMembers, BookIsSettledByAll, HasBook, IsListOfCorrect}
use Rattle.pay_laws.proofs.Exports.{exported_by, shown}

few_by_count : (g : GenesisFields) (faulty : ℕ → Bool) → HasFewFaulty (setting_by g faulty) → count_by faulty (range_with_len 0 g.members) ≤ g.faults
unfolding size
few_by_count g faulty few = few.few

begins_longer : {X : Type 0} (one mid whole : List X) → IsPrefix one mid → IsPrefix mid whole → IsPrefix one whole
begins_longer one mid whole p q = record {
  rest = p.rest ++ q.rest;
  is = q.is ∙ ap (λ l. l ++ q.rest) p.is ∙ append_assoc one p.rest q.rest;
}

pub of_correct_members : BookIsVouchedFor → BookIsOfCorrectMembers
of_correct_members law g faulty actions exports b has account known =
    let few = subst (λ (h : GenesisFields). count_by faulty (range_with_len 0 h.members) ≤ h.faults) (sym has.of_group) (few_by_count g faulty has.few) in
    let within = subst (λ (h : GenesisFields). account < h.members) (sym has.of_group) known in
    let v = law exports b faulty has.are_exports has.book few account within in
    let m = has.are v.place v.export v.at v.correct in
    record { member = m.0; is = m.1; begins = subst (λ (e : ExportFields). IsPrefix (lists_of b account) (lists_of e account)) m.2 v.begins }

pub settled_by_all : BookIsVouchedFor → SettledEntriesGrow → ListStays → ListsAreEqual → BookIsSettledByAll
settled_by_all law grow stays equal g faulty actions exports b j has genuine taken correct account known =
    grow g.opening (lists_of b) (lists_by (setting_by g faulty) actions j) grown account (omega (arith, known, has.genesis.opening)) where
      grown : (a : ℕ) → a < length g.opening → IsPrefix (lists_of b a) (lists_by (setting_by g faulty) actions j a)
      grown a below =
          let w = setting_by g faulty in
          let here : a < g.members = omega (arith, below, has.genesis.opening) in
          let r = of_correct_members law g faulty actions exports b has a here in
          let own = r.member.keys.own in
          let lists = list_of (group_in g own) (history_by w r.is.until own) in
          let same : lists_of (export_of r.member) a ≡ lists a =
          ap (λ (e : ExportFields). lists_of e a) (exported_by r.member g (history_by w r.is.until own) r.is.genesis r.is.took) ∙ shown lists g.members a here in
          let later = stays w r.is.until actions own a r.is.moment in
          let all = ap (λ f. f a) (equal w actions own j has.few genuine taken r.is.correct correct) in
          subst (λ l. IsPrefix (lists_of b a) l) all
          (begins_longer (lists_of b a) (lists a) (lists_by w actions own a) (subst (λ l. IsPrefix (lists_of b a) l) same r.begins) later)
