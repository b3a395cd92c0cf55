use Rattle.std.proofs.Common.{◌≡◌, inl, inr, refl, sym, subst, ap, ◌∙◌}
use Rattle.std.specs.Prelude.{Option, IfSome, IsNone}
use Rattle.cstn_net.specs.Networks.{Network}
use Rattle.cstn_net.specs.Read.{the_network}
use Rattle.cstn_check.specs.Growth.{load_of}
use Rattle.cstn_check.specs.Needs.{said, IfNo, Stands}
use Rattle.cstn_check.specs.declared.needs.Finding.{Finding}
use Rattle.cstn_check.proofs.Fewer.{copied}
use Rattle.cstn_conflict.specs.Conflicts.{IsConflictOf}
use Rattle.cstn_conflict.specs.declared.conflicts.Conflict.{Conflict}
use Rattle.cstn_conflict.proofs.ConflictLemmas.{told_yes, told_full, told_no, no_tells, full_bounded, inconsistent, needed, ascends, some_ids, stands_within}
use Rattle.cstn_conflict.proofs.conflicts.smallest.Goals as goal

pub returns-in-Yes-clause-consistent : goal.returns-in-Yes-clause-consistent
returns-in-Yes-clause-consistent c l is =
    let same = copied c.args.net c.in_ok-whole.whole c.in_ok-whole.ensures.equal in
    let told = told_yes c.args.cap.entries (the_network c.args.net) c.network_is_well_formed.ensures _ (c.in_ok-load.ensures.said ∙ ap (said c.args.cap.entries) same) c.in-Yes.load c.in-Yes.is in
    let here : c.in-Yes.load ≡ l = cc in
    (sym here ∙ c.in_ok-load.ensures.load c.in-Yes.load c.in-Yes.is ∙ ap load_of same, told.0, told.1)

pub returns-in-Full-clause-full : goal.returns-in-Full-clause-full
returns-in-Full-clause-full c is =
    let same = copied c.args.net c.in_ok-whole.whole c.in_ok-whole.ensures.equal in
    inl (told_full c.args.cap.entries (the_network c.args.net) c.network_is_well_formed.ensures _ (c.in_ok-load.ensures.said ∙ ap (said c.args.cap.entries) same) c.in-Full.is)

pub returns-in-Full-clause-bounded : goal.returns-in-Full-clause-bounded
returns-in-Full-clause-bounded c is =
    let same = copied c.args.net c.in_ok-whole.whole c.in_ok-whole.ensures.equal in
    full_bounded c.args.cap.entries (the_network c.args.net) c.network_is_well_formed.ensures
    (inl (told_full c.args.cap.entries (the_network c.args.net) c.network_is_well_formed.ensures _ (c.in_ok-load.ensures.said ∙ ap (said c.args.cap.entries) same) c.in-Full.is))

pub conflict_of-requires-clause-no : goal.conflict_of-requires-clause-no
conflict_of-requires-clause-no c =
    let same = copied c.args.net c.in_ok-whole.whole c.in_ok-whole.ensures.equal in
    told_no c.args.cap.entries (the_network c.args.net) c.network_is_well_formed.ensures _ (c.in_ok-load.ensures.said ∙ ap (said c.args.cap.entries) same) c.in-No.needed c.in-No.is

pub conflict_of-requires-clause-stands : goal.conflict_of-requires-clause-stands
conflict_of-requires-clause-stands c =
    let same = copied c.args.net c.in_ok-whole.whole c.in_ok-whole.ensures.equal in
    subst (λ (n : Network). Stands (said c.args.cap.entries) n c.in-No.needed.items) same
    (subst (λ (f : Finding). IfNo f (Stands (said c.args.cap.entries) (the_network c.in_ok-whole.whole))) c.in-No.is c.in_ok-load.ensures.stands)

pub returns-in-Some-clause-refused : goal.returns-in-Some-clause-refused
returns-in-Some-clause-refused c ok =
    let net = the_network c.args.net in
    let good = c.network_is_well_formed.ensures in
    let same = copied c.args.net c.in_ok-whole.whole c.in_ok-whole.ensures.equal in
    let told = told_no c.args.cap.entries net good _ (c.in_ok-load.ensures.said ∙ ap (said c.args.cap.entries) same) c.in-No.needed c.in-No.is in
    let tells = no_tells c.args.cap.entries net good told in
    (tells.1, tells.0)

pub returns-in-Some-clause-ascending : goal.returns-in-Some-clause-ascending
returns-in-Some-clause-ascending c =
    let found : IsConflictOf c.args.cap.entries (the_network c.args.net) c.in-Some.conflict =
    subst (λ (o : Option Conflict). IfSome o (IsConflictOf c.args.cap.entries (the_network c.args.net))) c.in-Some.is c.in_ok-conflict-in-No.ensures.found in
    ascends c.args.cap.entries (the_network c.args.net) _ found.ids c.network_is_well_formed.ensures

pub returns-in-Some-clause-some : goal.returns-in-Some-clause-some
returns-in-Some-clause-some c =
    let found : IsConflictOf c.args.cap.entries (the_network c.args.net) c.in-Some.conflict =
    subst (λ (o : Option Conflict). IfSome o (IsConflictOf c.args.cap.entries (the_network c.args.net))) c.in-Some.is c.in_ok-conflict-in-No.ensures.found in
    let net = the_network c.args.net in
    let good = c.network_is_well_formed.ensures in
    let same = copied c.args.net c.in_ok-whole.whole c.in_ok-whole.ensures.equal in
    let told = told_no c.args.cap.entries net good _ (c.in_ok-load.ensures.said ∙ ap (said c.args.cap.entries) same) c.in-No.needed c.in-No.is in
    let tells = no_tells c.args.cap.entries net good told in
    some_ids net _ (inconsistent c.args.cap.entries net _ found.ids good tells.1)

pub returns-in-Some-clause-inconsistent : goal.returns-in-Some-clause-inconsistent
returns-in-Some-clause-inconsistent c =
    let found : IsConflictOf c.args.cap.entries (the_network c.args.net) c.in-Some.conflict =
    subst (λ (o : Option Conflict). IfSome o (IsConflictOf c.args.cap.entries (the_network c.args.net))) c.in-Some.is c.in_ok-conflict-in-No.ensures.found in
    let net = the_network c.args.net in
    let good = c.network_is_well_formed.ensures in
    let same = copied c.args.net c.in_ok-whole.whole c.in_ok-whole.ensures.equal in
    let told = told_no c.args.cap.entries net good _ (c.in_ok-load.ensures.said ∙ ap (said c.args.cap.entries) same) c.in-No.needed c.in-No.is in
    let tells = no_tells c.args.cap.entries net good told in
    inconsistent c.args.cap.entries net _ found.ids good tells.1

pub returns-in-Some-clause-needed : goal.returns-in-Some-clause-needed
returns-in-Some-clause-needed c =
    let found : IsConflictOf c.args.cap.entries (the_network c.args.net) c.in-Some.conflict =
    subst (λ (o : Option Conflict). IfSome o (IsConflictOf c.args.cap.entries (the_network c.args.net))) c.in-Some.is c.in_ok-conflict-in-No.ensures.found in
    needed c.args.cap.entries (the_network c.args.net) _ found.ids c.network_is_well_formed.ensures

pub returns-in-Some-clause-refutes_all : goal.returns-in-Some-clause-refutes_all
returns-in-Some-clause-refutes_all c =
    let found : IsConflictOf c.args.cap.entries (the_network c.args.net) c.in-Some.conflict =
    subst (λ (o : Option Conflict). IfSome o (IsConflictOf c.args.cap.entries (the_network c.args.net))) c.in-Some.is c.in_ok-conflict-in-No.ensures.found in
    stands_within (the_network c.args.net) _ _ found.refutation.refutes

pub returns-in-None-clause-full : goal.returns-in-None-clause-full
returns-in-None-clause-full c is =
    let net = the_network c.args.net in
    let good = c.network_is_well_formed.ensures in
    let same = copied c.args.net c.in_ok-whole.whole c.in_ok-whole.ensures.equal in
    let told = told_no c.args.cap.entries net good _ (c.in_ok-load.ensures.said ∙ ap (said c.args.cap.entries) same) c.in-No.needed c.in-No.is in
    let tells = no_tells c.args.cap.entries net good told in
    inr (tells.1, c.in_ok-conflict-in-No.ensures.full (subst IsNone (sym c.in-None.is) refl))

pub returns-in-None-clause-bounded : goal.returns-in-None-clause-bounded
returns-in-None-clause-bounded c is =
    let net = the_network c.args.net in
    let good = c.network_is_well_formed.ensures in
    let same = copied c.args.net c.in_ok-whole.whole c.in_ok-whole.ensures.equal in
    let told = told_no c.args.cap.entries net good _ (c.in_ok-load.ensures.said ∙ ap (said c.args.cap.entries) same) c.in-No.needed c.in-No.is in
    let tells = no_tells c.args.cap.entries net good told in
    full_bounded c.args.cap.entries net good (inr (tells.1, c.in_ok-conflict-in-No.ensures.full (subst IsNone (sym c.in-None.is) refl)))
