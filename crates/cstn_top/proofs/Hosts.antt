-- What is told of the files of a host.
use Rattle.std.proofs.Common.{◌≡◌, ℕ, suc, ◌<◌, Bool, true, false, List, [], ◌∷◌, ◌++◌, length, take, get_or, refl, ap, sym, ◌∙◌, subst, inl, inr, append_assoc}
use Rattle.std.specs.Prelude.{◌⊎◌, ◌&&◌, nat_lt, if◌then◌else◌, Option, None, Some, IsSomeAnd, is_some, map}
use Rattle.std.specs.List.{list_all}
use Rattle.std.proofs.Math.Seq.{get_or-append_seam}
use Rattle.cstn_net.specs.Networks.{Network}
use Rattle.cstn_graphml.specs.Document.{Parts, document}
use Rattle.cstn_graphml.specs.Networks.{network_of}
use Rattle.cstn_log.specs.Cuts.{last_with_ancestors}
use Rattle.cstn_refute.specs.Texts.{refutation_shown}
use Rattle.cstn_check.specs.Growth.{is_refuted, log_of, load_of}
use Rattle.cstn_check.specs.declared.verdicts.Verdict.{Verdict}
use Rattle.cstn_check.specs.declared.verdicts.Verdict.TheVariants.{Yes, No, Full as IsFullVerdict}
use Rattle.cstn_request.specs.Requests.{host}
use Rattle.cstn_request.specs.Files.{AreThere}
use Rattle.cstn_reply.specs.Read.{the_said}
use Rattle.cstn_reply.specs.declared.output.Said.{Said as SaidText}
use Rattle.cstn_reply.specs.Texts.{Said, say}
use Rattle.cstn_top.specs.Plans.{Plan, says, wanting_session}
use Rattle.cstn_top.specs.Answers.{NetworkAnswer, plan_on_verdict}
use Rattle.cstn_top.specs.commands.Host.{on_documents, on_verdicts, attended, hosted_plan, EachHas, FirstHas, FirstRefused}
use Rattle.cstn_top.specs.Prepared.{Planned, TellsRefused}
use Rattle.cstn_top.specs.Meanings.{files_read}
use Rattle.cstn_request.specs.Documents.{AreUnlabelled, parts_read, HasNetwork, IsRefused, IsSaidPlainly}
use Rattle.cstn_reply.specs.Statuses.{status_of}
use Rattle.cstn_reply.specs.declared.status.Status.{Status}
use Rattle.cstn_reply.specs.declared.status.Status.TheVariants.{Good as IsGood, Bad as IsBad, Words as IsWords, Document as IsRefusedStatus, Full as IsFullStatus, ReadFault, WriteFault, Memory as NoMemory, Unfinished as IsUnfinished, Script as IsScript, Wide as IsWideStatus}
use Rattle.cstn_reply.specs.declared.output.Outcome.{Outcome}
use Rattle.cstn_reply.specs.declared.output.Outcome.TheVariants.{Good, Bad, Words, Document, Full, Unfinished, Script, Wide}
use Rattle.cstn_request.proofs.Contents.{none_there}
use Rattle.cstn_lines.specs.Pieces.{lines_of}
use Rattle.cstn_check.specs.Decisions.{verdict, IsYes, IsNo}
use Rattle.cstn_check.proofs.Deciding.{Tells, verdict_tells}
use Rattle.cstn_run.specs.hosted.Sessions.{host_begun, host_turn, host_wants, host_ending}
use Rattle.cstn_run.specs.hosted.Files.{Named, the_file, yes_lines}
use Rattle.cstn_request.specs.Several.{HasRefusedFile}
use Rattle.cstn_run.proofs.hosts.Plays.{IsEnd, plays}
use Rattle.cstn_top.proofs.Documents.{IsOfDocument as IsNamedNetwork, document_says, document_talks, document_then}
use Rattle.cstn_top.proofs.Comes.{plain_refusal_output}
use Rattle.cstn_top.proofs.ReadAll.{no_more, refused_come}

-- what follows where the verdict on each network is yes
abbrev pub session_of : ℕ → List Named → Plan
session_of cap all = wanting_session host_wants host_turn host_ending (yes_lines all) (host_begun (map the_file all))

-- the documents with these contents have these networks under these names
abbrev pub AreNetworks : List (List ℕ) → Option ℕ → List Named → Type 0
AreNetworks [] deadline [] = Unit {0}
AreNetworks [] deadline (n ∷ ns) = ⊥
AreNetworks (bytes ∷ rest) deadline [] = ⊥
AreNetworks (bytes ∷ rest) deadline (n ∷ ns) = HasNetwork bytes deadline (λ names net. (names ≡ n.names) × (net ≡ n.net)) × IsNamedNetwork n.names n.net × AreNetworks rest deadline ns

-- the documents with these contents have networks of which this holds
pub record Read (contents : List (List ℕ)) (deadline : Option ℕ) (holds : List Named → Type 0) : Type 0 where
  pub all : List Named
  pub are : AreNetworks contents deadline all
  pub held : holds all

-- a document has this network, and this holds of it
record Taken (found : Option Parts) (holds : List (List ℕ) → Network → Type 0) : Type 0 where
  this : Named
  same : IsSomeAnd found (λ parts. AreUnlabelled parts × ((parts.names ≡ this.names) × (network_of parts ≡ this.net)))
  of : IsNamedNetwork this.names this.net
  held : holds this.names this.net

taken : (found : Option Parts) (holds : List (List ℕ) → Network → Type 0) → IsSomeAnd found (λ parts. AreUnlabelled parts × (IsNamedNetwork parts.names (network_of parts) × holds parts.names (network_of parts))) → Taken found holds
taken None holds has = absurd has
taken (Some parts) holds has = record { this = record { names = parts.names; net = network_of parts }; same = (has.0, (refl, refl)); of = has.1.0; held = has.1.1 }

-- what holds of a network holds of the document that has it
of_network : (found : Option Parts) (n : Named) (holds : List (List ℕ) → Network → Type 0) → IsSomeAnd found (λ parts. AreUnlabelled parts × ((parts.names ≡ n.names) × (network_of parts ≡ n.net))) → holds n.names n.net → IsSomeAnd found (λ parts. AreUnlabelled parts × holds parts.names (network_of parts))
of_network None n holds has is = absurd has
of_network (Some parts) n holds has is =
    (has.0, subst (λ (names : List (List ℕ)). holds names (network_of parts)) (sym has.1.0) (subst (holds n.names) (sym has.1.1) is))

-- the network of a document has names
under_names : (bytes : List ℕ) (deadline : Option ℕ) (holds : List (List ℕ) → Network → Type 0) → HasNetwork bytes deadline holds → HasNetwork bytes deadline (λ names net. IsNamedNetwork names net × holds names net)
under_names bytes deadline holds has = document_then bytes deadline holds (λ names net. IsNamedNetwork names net × holds names net) has (λ names net of is. (of, is))

-- the place of the document that is refused
refused_at : (deadline : Option ℕ) (contents : List (List ℕ)) → FirstRefused contents deadline → (place : ℕ) × IsRefused (get_or contents place []) deadline
refused_at deadline [] first = absurd first
refused_at deadline (bytes ∷ rest) (inl refused) = (0, refused)
refused_at deadline (bytes ∷ rest) (inr later) = let found = refused_at deadline rest later.1 in (suc found.0, found.1)

-- what is said of documents: one is refused, or this is said of their networks
pub documents_say : (answer : List Named → Plan) (deadline : Option ℕ) (live : List ℕ) (said : Said) (before : List Named) (contents : List (List ℕ)) → (on_documents answer deadline before contents).output live said → ((said.outcome ≡ Document) × FirstRefused contents deadline) ⊎ Read contents deadline (λ ns. (answer (before ++ ns)).output live said)
documents_say answer deadline live said before [] output =
    inr (record { all = []; are = tt; held = subst (λ (ns : List Named). (answer ns).output live said) (sym (no_more before)) output })
documents_say answer deadline live said before (bytes ∷ rest) output =
    by_document (λ t. documents_say answer deadline live said (before ++ t.this ∷ []) rest t.held) (document_says next bytes deadline live said output)
  where
    next : NetworkAnswer
    next = λ names net. on_documents answer deadline (before ++ record { names = names; net = net } ∷ []) rest

    by_rest : (t : Taken (parts_read (document bytes deadline)) (λ names net. (next names net).output live said)) → ((said.outcome ≡ Document) × FirstRefused rest deadline) ⊎ Read rest deadline (λ ns. (answer ((before ++ t.this ∷ []) ++ ns)).output live said) → ((said.outcome ≡ Document) × FirstRefused (bytes ∷ rest) deadline) ⊎ Read (bytes ∷ rest) deadline (λ ns. (answer (before ++ ns)).output live said)
    by_rest t (inl (same, later)) = inl (same, inr (of_network (parts_read (document bytes deadline)) t.this (λ names net. Unit {0}) t.same tt, later))
    by_rest t (inr read) = inr (record {
      all = t.this ∷ read.all;
      are = (t.same, t.of, read.are);
      held = subst (λ (ns : List Named). (answer ns).output live said) (append_assoc before (t.this ∷ []) read.all) read.held;
    })

    by_document : ((t : Taken (parts_read (document bytes deadline)) (λ names net. (next names net).output live said)) → ((said.outcome ≡ Document) × FirstRefused rest deadline) ⊎ Read rest deadline (λ ns. (answer ((before ++ t.this ∷ []) ++ ns)).output live said)) → ((said.outcome ≡ Document) × IsRefused bytes deadline) ⊎ HasNetwork bytes deadline (λ names net. (next names net).output live said) → ((said.outcome ≡ Document) × FirstRefused (bytes ∷ rest) deadline) ⊎ Read (bytes ∷ rest) deadline (λ ns. (answer (before ++ ns)).output live said)
    by_document later (inl (same, refused)) = inl (same, inl refused)
    by_document later (inr has) =
        let t = taken (parts_read (document bytes deadline)) (λ names net. (next names net).output live said) (under_names bytes deadline (λ names net. (next names net).output live said) has) in
        by_rest t (later t)

-- a network of a document has no strategy, and its refutation is told
abbrev pub IsToldNo : ℕ → Said → List (List ℕ) → Network → Type 0
IsToldNo cap said names net = IsNamedNetwork names net × IsNo cap net × (said.text ≡ refutation_shown names (load_of net) (last_with_ancestors (log_of net)))

-- where `other` follows from `one` of each network, `FirstHas` with `other` follows from `FirstHas` with `one`
pub first_then : (contents : List (List ℕ)) (deadline : Option ℕ) (cap : ℕ) (one other : List (List ℕ) → Network → Type 0) → ((names : List (List ℕ)) (net : Network) → one names net → other names net) → FirstHas contents deadline cap one → FirstHas contents deadline cap other
first_then [] deadline cap one other follows first = absurd first
first_then (bytes ∷ rest) deadline cap one other follows (inl has) = inl (by_found (parts_read (document bytes deadline)) has)
  where
    by_found : (found : Option Parts) → IsSomeAnd found (λ parts. AreUnlabelled parts × one parts.names (network_of parts)) → IsSomeAnd found (λ parts. AreUnlabelled parts × other parts.names (network_of parts))
    by_found None h = h
    by_found (Some parts) h = (h.0, follows parts.names (network_of parts) h.1)
first_then (bytes ∷ rest) deadline cap one other follows (inr (yes', first)) = inr (yes', first_then rest deadline cap one other follows first)

-- the load that a no tells is that of the network
pub load_told : (cap load : ℕ) (net : Network) → verdict cap net ≡ No load → load ≡ load_of net
load_told cap load net is = by_tests (nat_lt cap (load_of net)) (is_refuted net (log_of net)) is
  where
    by_tests : (above refuted : Bool) → (if above then IsFullVerdict else if refuted then No (load_of net) else Yes (load_of net)) ≡ No load → load ≡ load_of net
    by_tests true refuted same = let f : ⊥ = cc in absurd f
    by_tests false true same = cc
    by_tests false false same = let f : ⊥ = cc in absurd f

-- what is said of networks that are checked: each has a strategy, or the first that has none, or too long a log, is told
pub verdicts_say : (cap : ℕ) (after_yes : Plan) (deadline : Option ℕ) (live : List ℕ) (said : Said) (contents : List (List ℕ)) (ns : List Named) → AreNetworks contents deadline ns → (on_verdicts cap after_yes ns).output live said → (EachHas contents deadline (IsYes cap) × after_yes.output live said) ⊎ (((said.outcome ≡ Bad) × FirstHas contents deadline cap (IsToldNo cap said)) ⊎ ((said.outcome ≡ Full) × FirstHas contents deadline cap (λ names net. cap < load_of net)))
verdicts_say cap after_yes deadline live said [] [] are output = inl (tt, output)
verdicts_say cap after_yes deadline live said [] (n ∷ ns) are output = absurd are
verdicts_say cap after_yes deadline live said (bytes ∷ rest) [] are output = absurd are
verdicts_say cap after_yes deadline live said (bytes ∷ rest) (n ∷ ns) are output =
    by_verdict (λ out. verdicts_say cap after_yes deadline live said rest ns are.2 out) (verdict cap n.net) refl (verdict_tells cap n.net are.1.good) output
  where
    has : (holds : List (List ℕ) → Network → Type 0) → holds n.names n.net → HasNetwork bytes deadline holds
    has holds is = of_network (parts_read (document bytes deadline)) n holds are.0 is

    Says : List (List ℕ) → Type 0
    Says all = (EachHas all deadline (IsYes cap) × after_yes.output live said) ⊎ (((said.outcome ≡ Bad) × FirstHas all deadline cap (IsToldNo cap said)) ⊎ ((said.outcome ≡ Full) × FirstHas all deadline cap (λ names net. cap < load_of net)))

    by_later : IsYes cap n.net → Says rest → Says (bytes ∷ rest)
    by_later yes' (inl (each, out)) = inl ((has (λ names net. IsYes cap net) yes', each), out)
    by_later yes' (inr (inl (bad, first))) = inr (inl (bad, inr (has (λ names net. IsYes cap net) yes', first)))
    by_later yes' (inr (inr (full, first))) = inr (inr (full, inr (has (λ names net. IsYes cap net) yes', first)))

    by_verdict : ((on_verdicts cap after_yes ns).output live said → Says rest) → (v : Verdict) → verdict cap n.net ≡ v → Tells cap n.net v → (plan_on_verdict cap n.names n.net (on_verdicts cap after_yes ns) v).output live said → Says (bytes ∷ rest)
    by_verdict later (Yes load) same tells' is = by_later tells' (later is)
    by_verdict later (No load) same tells' is =
        let text : said.text ≡ refutation_shown n.names (load_of n.net) (last_with_ancestors (log_of n.net)) =
        ap (λ (s : Said). s.text) is ∙ ap (λ (l : ℕ). refutation_shown n.names l (last_with_ancestors (log_of n.net))) (load_told cap load n.net same) in
        inr (inl (ap (λ (s : Said). s.outcome) is, inl (has (IsToldNo cap said) (are.1, tells', text))))
    by_verdict later IsFullVerdict same tells' is = inr (inr (ap (λ (s : Said). s.outcome) is, inl (has (λ names net. cap < load_of net) tells')))

-- what is said and its outcome tell of the files of a host
abbrev pub HostTells : ℕ → Option ℕ → List (List ℕ) → Said → Outcome → Type 0
HostTells cap deadline contents said Good = EachHas contents deadline (IsYes cap)
HostTells cap deadline contents said Bad = FirstHas contents deadline cap (IsToldNo cap said)
HostTells cap deadline contents said Full = FirstHas contents deadline cap (λ names net. cap < load_of net)
HostTells cap deadline contents said Words = ⊥
HostTells cap deadline contents said Document = FirstRefused contents deadline
HostTells cap deadline contents said Unfinished = Unit {0}
HostTells cap deadline contents said Script = Unit {0}
HostTells cap deadline contents said Wide = ⊥

end_tells : (cap : ℕ) (deadline : Option ℕ) (contents : List (List ℕ)) (said : Said) (o : Outcome) → IsEnd o → EachHas contents deadline (IsYes cap) → HostTells cap deadline contents said o
end_tells cap deadline contents said Good end each = each
end_tells cap deadline contents said Bad end each = absurd end
end_tells cap deadline contents said Full end each = absurd end
end_tells cap deadline contents said Words end each = end
end_tells cap deadline contents said Document end each = absurd end
end_tells cap deadline contents said Unfinished end each = tt
end_tells cap deadline contents said Script end each = tt
end_tells cap deadline contents said Wide end each = end

pub host_tells : (cap : ℕ) (deadline : Option ℕ) (contents : List (List ℕ)) (live : List ℕ) (said : Said) → (hosted_plan cap deadline contents).output live said → HostTells cap deadline contents said said.outcome
host_tells cap deadline contents live said output = by_documents (documents_say (attended cap) deadline live said [] contents output)
  where
    by_verdicts : (all : List Named) → (EachHas contents deadline (IsYes cap) × (session_of cap all).output live said) ⊎ (((said.outcome ≡ Bad) × FirstHas contents deadline cap (IsToldNo cap said)) ⊎ ((said.outcome ≡ Full) × FirstHas contents deadline cap (λ names net. cap < load_of net))) → HostTells cap deadline contents said said.outcome
    by_verdicts all (inl (each, out)) =
        end_tells cap deadline contents said said.outcome
        (subst IsEnd (sym (ap (λ (s : Said). s.outcome) out)) (plays (host_begun (map the_file all)) 0 (lines_of live))) each
    by_verdicts all (inr (inl (bad, first))) = subst (HostTells cap deadline contents said) (sym bad) first
    by_verdicts all (inr (inr (full, first))) = subst (HostTells cap deadline contents said) (sym full) first

    by_documents : ((said.outcome ≡ Document) × FirstRefused contents deadline) ⊎ Read contents deadline (λ ns. (attended cap ns).output live said) → HostTells cap deadline contents said said.outcome
    by_documents (inl (same, refused)) = subst (HostTells cap deadline contents said) (sym same) refused
    by_documents (inr read) = by_verdicts read.all (verdicts_say cap (session_of cap read.all) deadline live said contents read.all read.are read.held)

-- a session is held over documents only for their networks
documents_talk : (answer : List Named → Plan) (deadline : Option ℕ) (before : List Named) (contents : List (List ℕ)) → (on_documents answer deadline before contents).talks → Read contents deadline (λ ns. (answer (before ++ ns)).talks)
documents_talk answer deadline before [] may = record { all = []; are = tt; held = subst (λ (ns : List Named). (answer ns).talks) (sym (no_more before)) may }
documents_talk answer deadline before (bytes ∷ rest) may =
    let t = taken (parts_read (document bytes deadline)) (λ names net. (next names net).talks) (under_names bytes deadline (λ names net. (next names net).talks) (document_talks next bytes deadline may)) in
    let read = documents_talk answer deadline (before ++ t.this ∷ []) rest t.held in
    record {
      all = t.this ∷ read.all;
      are = (t.same, t.of, read.are);
      held = subst (λ (ns : List Named). (answer ns).talks) (append_assoc before (t.this ∷ []) read.all) read.held;
    }
  where
    next : NetworkAnswer
    next = λ names net. on_documents answer deadline (before ++ record { names = names; net = net } ∷ []) rest

verdicts_talk : (cap : ℕ) (after_yes : Plan) (deadline : Option ℕ) (contents : List (List ℕ)) (ns : List Named) → AreNetworks contents deadline ns → (on_verdicts cap after_yes ns).talks → EachHas contents deadline (IsYes cap)
verdicts_talk cap after_yes deadline [] [] are may = tt
verdicts_talk cap after_yes deadline [] (n ∷ ns) are may = absurd are
verdicts_talk cap after_yes deadline (bytes ∷ rest) [] are may = absurd are
verdicts_talk cap after_yes deadline (bytes ∷ rest) (n ∷ ns) are may =
    by_verdict (λ later. verdicts_talk cap after_yes deadline rest ns are.2 later) (verdict cap n.net) (verdict_tells cap n.net are.1.good) may
  where
    by_verdict : ((on_verdicts cap after_yes ns).talks → EachHas rest deadline (IsYes cap)) → (v : Verdict) → Tells cap n.net v → (plan_on_verdict cap n.names n.net (on_verdicts cap after_yes ns) v).talks → EachHas (bytes ∷ rest) deadline (IsYes cap)
    by_verdict later (Yes load) tells' is = (of_network (parts_read (document bytes deadline)) n (λ names net. IsYes cap net) are.0 tells', later is)
    by_verdict later (No load) tells' is = absurd is
    by_verdict later IsFullVerdict tells' is = absurd is

pub host_talks : (cap : ℕ) (deadline : Option ℕ) (contents : List (List ℕ)) → (hosted_plan cap deadline contents).talks → EachHas contents deadline (IsYes cap)
host_talks cap deadline contents may =
    let read = documents_talk (attended cap) deadline [] contents may in
    verdicts_talk cap (session_of cap read.all) deadline contents read.all read.are read.held

-- ---- the files that were read

pub files_all : (shelf : Option (List ℕ → Option (List ℕ))) (names : List (List ℕ)) (status : Status) → AreThere shelf names → AreThere shelf (take 1 names) → AreThere shelf (files_read status names)
files_all shelf names IsGood there first = there
files_all shelf names IsBad there first = there
files_all shelf names IsWords there first = none_there shelf
files_all shelf names IsRefusedStatus there first = first
files_all shelf names IsFullStatus there first = there
files_all shelf names ReadFault there first = none_there shelf
files_all shelf names WriteFault there first = none_there shelf
files_all shelf names NoMemory there first = none_there shelf
files_all shelf names IsUnfinished there first = there
files_all shelf names IsScript there first = there
files_all shelf names IsWideStatus there first = there

first_of_them : (is_there : List ℕ → Bool) (place : ℕ) (names : List (List ℕ)) → list_all is_there (take (suc place) names) ≡ true → list_all is_there (take 1 names) ≡ true
first_of_them is_there place [] all = refl
first_of_them is_there place (name ∷ names) all = by_both (is_there name) (list_all is_there (take place names)) all
  where
    by_both : (here later : Bool) → (here && later) ≡ true → (here && true) ≡ true
    by_both true later all = refl
    by_both false later all = absurd (cc)

-- where as many files as stand up to a place are there, so is the first
first_of_more : (shelf : Option (List ℕ → Option (List ℕ))) (names : List (List ℕ)) (place : ℕ) → AreThere shelf (take (suc place) names) → AreThere shelf (take 1 names)
first_of_more shelf names place there = λ files e. first_of_them (λ name. is_some (files name)) place names (there files e)

-- what is said of a document, whatever would be said of its network, says that it is refused
plainly_refused : (bytes : List ℕ) (deadline : Option ℕ) (said : Said) → IsSaidPlainly bytes deadline said → said.outcome ≡ Document → IsRefused bytes deadline
plainly_refused bytes deadline said plainly outcome = by_said (document_says yes bytes deadline [] said (plain_refusal_output yes bytes deadline said plainly []))
  where
    yes : NetworkAnswer
    yes = λ names net. says (say Good [])

    accepted : (found : Option Parts) → IsSomeAnd found (λ parts. AreUnlabelled parts × (said ≡ say Good [])) → said ≡ say Good []
    accepted None has = absurd has
    accepted (Some parts) has = has.1

    by_said : ((said.outcome ≡ Document) × IsRefused bytes deadline) ⊎ HasNetwork bytes deadline (λ names net. said ≡ say Good []) → IsRefused bytes deadline
    by_said (inl (same, refused)) = refused
    by_said (inr has) =
        let other : said.outcome ≡ Good = ap (λ (s : Said). s.outcome) (accepted (parts_read (document bytes deadline)) has) in
        let never : Document ≡ Good = sym outcome ∙ other in absurd (cc)

-- where a document of a host is refused, that is what the host says, the document is there, and so is each file before it
pub host_told : (shelf : Option (List ℕ → Option (List ℕ))) (before after : Option (List (List ℕ))) (cap : ℕ) (deadline : Option ℕ) (files : List (List ℕ)) (said : SaidText) → HasRefusedFile shelf before after deadline files said → Planned (host files deadline cap) shelf (says (the_said said))
host_told shelf before after cap deadline files said is = record {
  contents = is.contents;
  are = is.are;
  comes = refused_come (attended cap) shelf before after deadline files said is;
  there = λ live other output.
      subst (λ (o : Outcome). AreThere shelf (files_read (status_of o) files)) (sym (ap (λ (s : Said). s.outcome) output ∙ is.outcome)) (first_of_more shelf files (length is.file.earlier) is.file.read.there);
}

-- and no file behind it was asked for
pub host_refused : (shelf : Option (List ℕ → Option (List ℕ))) (before after : Option (List (List ℕ))) (cap : ℕ) (deadline : Option ℕ) (files : List (List ℕ)) (said : SaidText) → HasRefusedFile shelf before after deadline files said → TellsRefused shelf before after (host files deadline cap) (says (the_said said))
host_refused shelf before after cap deadline files said is = λ live other output outcome.
    (is.contents, is.are, (length is.file.earlier, subst (λ (bytes : List ℕ). IsRefused bytes deadline) (sym at_place) (plainly_refused is.file.bytes deadline (the_said said) is.file.is is.outcome), is.file.read))
  where
    at_place : get_or is.contents (length is.file.earlier) [] ≡ is.file.bytes
    at_place = ap (λ (all : List (List ℕ)). get_or all (length is.file.earlier) []) is.file.contents_are ∙ get_or-append_seam is.file.earlier is.file.bytes is.file.later []
