use Rattle.std.proofs.Common.{ℕ, ◌≡◌, List, length, map, Option, subst, ◌∙◌, ap, arith}
use Rattle.std.specs.List.{All}
use Rattle.cstn_label.specs.Labels.{IsPlain}
use Rattle.cstn_label.specs.Read.{marks}
use Rattle.cstn_net.specs.declared.drafts.Draft.{Draft}
use Rattle.cstn_net.specs.Networks.{IsValue}
use Rattle.cstn_net.specs.Read.{observed}
use Rattle.cstn_label.specs.declared.nodes.NodeId.{NodeId}
use Rattle.cstn_net.specs.Observers.{KnowsObservers, IsUnseen}
use Rattle.cstn_net.specs.Faults.{IsFirst}
use Rattle.cstn_net.specs.Drafts.{BuilderParts, LacksObserver, IsLeastOfFirst, HasTwins, AreFirstTwins, HasReaction, observations}
use Rattle.cstn_net.proofs.FaultLemmas.{lowest_from, least_alike, unseen_lacks, lacks_unseen}
use Rattle.cstn_net.proofs.builders.Builder.other_fault.Goals as goal

none_unseen : {table : List (Option NodeId)} {ds es : List Draft} → ds ≡ es →
    All (λ d. (q : ℕ) → IsUnseen table (marks d.label) q → ⊥) ds → All (λ d. (q : ℕ) → IsUnseen table (marks d.label) q → ⊥) es
none_unseen {table} e all = subst (All (λ d. (q : ℕ) → IsUnseen table (marks d.label) q → ⊥)) e all

all_observed : (b : BuilderParts) (table : List (Option NodeId)) → KnowsObservers (observations b) table →
    All (λ d. (q : ℕ) → IsUnseen table (marks d.label) q → ⊥) b.drafts →
    All (λ d. (q : ℕ) → LacksObserver (observations b) (marks d.label) q → ⊥) b.drafts
all_observed b table knows all = λ k d inside q lacks. all k d inside q (lacks_unseen (observations b) table knows _ q lacks)

pub returns-in-Some-first_unobserved : goal.returns-in-Some-first_unobserved
returns-in-Some-first_unobserved c =
    let b = c.args.self.now in
    let table = c.args.observers.now in
    let knows = c.requires.observers in
    let values = subst (All (λ d. IsValue d.most)) (c.deref.ensures.value ∙ ap (λ v. v.drafts) c.self.view_is) c.in_default.ensures in
    let least = subst (λ ds. IsLeastOfFirst (λ q d. IsUnseen table (marks d.label) q) ds c.in-Some-first_unobserved.prop.index)
    (c.deref-2.ensures.value ∙ ap (λ v. v.drafts) c.self.view_is) c.in-Some-first_unobserved.ensures in
    record {
      has = least_alike _ _ (λ q d. unseen_lacks (observations b) table knows (marks d.label) q)
          (λ q d. lacks_unseen (observations b) table knows (marks d.label) q) b.drafts c.in-Some-first_unobserved.prop.index least;
      lowest = lowest_from b 6 c.requires.sized (omega arith) (λ h. values) (λ h. absurd (omega arith)) (λ h. absurd (omega arith)) (λ h. absurd (omega arith));
    }

pub returns-in-Some-first_twins : goal.returns-in-Some-first_twins
returns-in-Some-first_twins c =
    let b = c.args.self.now in
    let drafts_are = ap (λ v. v.drafts) c.self.view_is in
    let found = c.in-Some-first_twins in
    let values = subst (All (λ d. IsValue d.most)) (c.deref.ensures.value ∙ drafts_are) c.in_default.ensures in
    let seen = none_unseen (c.deref-2.ensures.value ∙ drafts_are) c.in_default-first_unobserved.ensures in
    record {
      has = subst (λ ps. AreFirstTwins (map observed ps) found.prop.index found.first.0 found.second.0)
          (c.deref-3.ensures.value ∙ ap (λ v. v.points) c.self.view_is) found.ensures;
      lowest = lowest_from b 7 c.requires.sized (omega arith) (λ h. values)
          (λ h. all_observed b c.args.observers.now c.requires.observers seen) (λ h. absurd (omega arith)) (λ h. absurd (omega arith));
    }

pub returns-in-Some-first_not_plain : goal.returns-in-Some-first_not_plain
returns-in-Some-first_not_plain c =
    let b = c.args.self.now in
    let drafts_are = ap (λ v. v.drafts) c.self.view_is in
    let found = c.in-Some-first_not_plain in
    let values = subst (All (λ d. IsValue d.most)) (c.deref.ensures.value ∙ drafts_are) c.in_default.ensures in
    let seen = none_unseen (c.deref-2.ensures.value ∙ drafts_are) c.in_default-first_unobserved.ensures in
    let single = subst (λ ps. HasTwins (map observed ps) (length ps) → ⊥) (c.deref-3.ensures.value ∙ ap (λ v. v.points) c.self.view_is)
    c.in_default-first_twins.ensures in
    record {
      has = subst (λ ds. IsFirst (λ d. IsPlain (marks d.label) → ⊥) ds found.constraint)
          (c.deref-4.ensures.value ∙ drafts_are) found.ensures;
      lowest = lowest_from b 8 c.requires.sized (omega arith) (λ h. values)
          (λ h. all_observed b c.args.observers.now c.requires.observers seen) (λ h. single) (λ h. absurd (omega arith));
    }

pub returns-in-Some-first_untimely : goal.returns-in-Some-first_untimely
returns-in-Some-first_untimely c =
    let b = c.args.self.now in
    let drafts_are = ap (λ v. v.drafts) c.self.view_is in
    let found = c.in-Some-first_untimely in
    let values = subst (All (λ d. IsValue d.most)) (c.deref.ensures.value ∙ drafts_are) c.in_default.ensures in
    let seen = none_unseen (c.deref-2.ensures.value ∙ drafts_are) c.in_default-first_unobserved.ensures in
    let single = subst (λ ps. HasTwins (map observed ps) (length ps) → ⊥) (c.deref-3.ensures.value ∙ ap (λ v. v.points) c.self.view_is)
    c.in_default-first_twins.ensures in
    let plain = subst (All (λ d. IsPlain (marks d.label))) (c.deref-4.ensures.value ∙ drafts_are) c.in_default-first_not_plain.ensures in
    record {
      has = subst (λ ps. IsFirst (λ t. HasReaction t → ⊥) ps found.node.0) (c.deref-5.ensures.value ∙ ap (λ v. v.points) c.self.view_is) found.ensures;
      lowest = lowest_from b 9 c.requires.sized (omega arith) (λ h. values)
          (λ h. all_observed b c.args.observers.now c.requires.observers seen) (λ h. single) (λ h. plain);
    }

pub returns : goal.returns
returns c =
    let b = c.args.self.now in
    let drafts_are = ap (λ v. v.drafts) c.self.view_is in
    let seen = none_unseen (c.deref-2.ensures.value ∙ drafts_are) c.in_default-first_unobserved.ensures in
    record {
      values = subst (All (λ d. IsValue d.most)) (c.deref.ensures.value ∙ drafts_are) c.in_default.ensures;
      observed = all_observed b c.args.observers.now c.requires.observers seen;
      no_twins = subst (λ ps. HasTwins (map observed ps) (length ps) → ⊥) (c.deref-3.ensures.value ∙ ap (λ v. v.points) c.self.view_is)
          c.in_default-first_twins.ensures;
      plain = subst (All (λ d. IsPlain (marks d.label))) (c.deref-4.ensures.value ∙ drafts_are) c.in_default-first_not_plain.ensures;
      timely = subst (All HasReaction) (c.deref-5.ensures.value ∙ ap (λ v. v.points) c.self.view_is) c.in_default-first_untimely.ensures;
    }
