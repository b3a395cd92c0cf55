-- Which files were asked for.
use Rattle.std.proofs.Common.{◌≡◌, ◌≤◌, ◌-◌, ℕ, suc, List, [], ◌∷◌, length, take, refl, ap, sym, ◌∙◌, subst, arith}
use Rattle.std.specs.Prelude.{Option}
use Rattle.std.proofs.lemmas.List.{take-take}
use Rattle.cstn_io.specs.Asked.{and_names}
use Rattle.cstn_request.specs.Asked.{WereRead, AskedFirst}
use Rattle.cstn_request.specs.Files.{AreThere}
use Rattle.cstn_request.specs.Requests.{AskedFile, Request, of_text, host, files_of}
use Rattle.cstn_request.specs.declared.words.TextVerb.{TextVerb}
use Rattle.cstn_request.proofs.Contents.{none_there, two_there}
use Rattle.cstn_request.specs.Read.{the_request}
use Rattle.cstn_request.specs.declared.words.Request.{Request as RequestWords}
use Rattle.cstn_reply.specs.Texts.{Said}
use Rattle.cstn_reply.specs.Statuses.{status_of}
use Rattle.cstn_reply.specs.Read.{the_said}
use Rattle.cstn_reply.specs.declared.output.Said.{Said as SaidText}
use Rattle.cstn_reply.specs.declared.output.Outcome.{Outcome}
use Rattle.cstn_reply.specs.declared.output.Outcome.TheVariants.{Document, Script}
use Rattle.cstn_reply.specs.declared.status.Status.{Status}
use Rattle.cstn_reply.specs.declared.status.Status.TheVariants.{Good as IsGood, Bad as IsBad, Words as IsWords, Document as IsRefusedStatus, Full as IsFull, ReadFault as HasReadFault, WriteFault as HasWriteFault, Memory as NoMemory, Unfinished as IsUnfinished, Script as IsScript, Wide as IsWide}
use Rattle.cstn_top.specs.Plans.{Plan, says}
use Rattle.cstn_top.specs.Meanings.{files_read, RefusedIsThere}
use Rattle.cstn_request.specs.Several.{HasRefusedFile}
use Rattle.cstn_top.specs.Prepared.{Planned, AsksEnough}
use Rattle.cstn_top.specs.Questions.{TellsInstead}
use Rattle.cstn_top.proofs.Hosts.{host_told, host_refused}
use Rattle.cstn_request.proofs.Asking.{first_there, and_none, and_more, first_more, first_more_some, one_less}

take_whole : (names : List (List ℕ)) → take (length names) names ≡ names
take_whole [] = refl
take_whole (name ∷ names) = ap (λ (xs : List (List ℕ)). name ∷ xs) (take_whole names)

-- all names were asked for
pub all_first : (shelf : Option (List ℕ → Option (List ℕ))) (before after : Option (List (List ℕ))) (names : List (List ℕ)) → after ≡ and_names before names → AreThere shelf names → AskedFirst shelf before after names
all_first shelf before after names is there = record {
  count = length names;
  asked = is ∙ ap (and_names before) (sym (take_whole names));
  earlier = first_there shelf names (length names - 1) there;
}

at_most_one : (names : List (List ℕ)) → length (take 1 names) ≤ 1
at_most_one [] = omega arith
at_most_one (name ∷ names) = omega arith

one_at_most : (names : List (List ℕ)) → length (take 1 names) ≤ length names
one_at_most [] = omega arith
one_at_most (name ∷ names) = omega arith

-- no more files are read than there are
pub read_most : (status : Status) (names : List (List ℕ)) → length (files_read status names) ≤ length names
read_most IsGood names = omega arith
read_most IsBad names = omega arith
read_most IsWords names = omega arith
read_most IsRefusedStatus names = one_at_most names
read_most IsFull names = omega arith
read_most HasReadFault names = omega arith
read_most HasWriteFault names = omega arith
read_most NoMemory names = omega arith
read_most IsUnfinished names = omega arith
read_most IsScript names = omega arith
read_most IsWide names = omega arith

-- of no files none is read
pub no_files : (status : Status) → files_read status [] ≡ []
no_files IsGood = refl
no_files IsBad = refl
no_files IsWords = refl
no_files IsRefusedStatus = refl
no_files IsFull = refl
no_files HasReadFault = refl
no_files HasWriteFault = refl
no_files NoMemory = refl
no_files IsUnfinished = refl
no_files IsScript = refl
no_files IsWide = refl

-- where all names were asked for, these are enough
pub enough_all : (request : Request) (shelf : Option (List ℕ → Option (List ℕ))) (before after : Option (List (List ℕ))) (plan : Plan) → after ≡ and_names before (files_of request) → AreThere shelf (files_of request) → AsksEnough request shelf before after plan
unfolding all_first
enough_all request shelf before after plan is there = record {
  first = all_first shelf before after (files_of request) is there;
  enough = λ live said output. read_most (status_of said.outcome) (files_of request);
}

-- where a document is refused, the names up to its own are enough
pub enough_refused : (request : Request) (shelf : Option (List ℕ → Option (List ℕ))) (before after : Option (List (List ℕ))) (said : Said) → said.outcome ≡ Document → (first : AskedFirst shelf before after (files_of request)) → 1 ≤ first.count → AsksEnough request shelf before after (says said)
enough_refused request shelf before after said outcome first some = record {
  first = first;
  enough = λ live other output.
      let at_once : other.outcome ≡ Document = ap (λ (s : Said). s.outcome) output ∙ outcome in
      subst (λ (o : Outcome). length (files_read (status_of o) (files_of request)) ≤ first.count) (sym at_once) (omega (arith, at_most_one (files_of request), some));
}

-- the same of an equal request
pub once_as : (before after : Option (List (List ℕ))) (r other : RequestWords) → r ≡ other → after ≡ and_names before (files_of (the_request other)) → after ≡ and_names before (files_of (the_request r))
once_as before after r other same is = subst (λ (q : RequestWords). after ≡ and_names before (files_of (the_request q))) (sym same) is

pub first_as : (shelf : Option (List ℕ → Option (List ℕ))) (before after : Option (List (List ℕ))) (r other : RequestWords) → r ≡ other → AskedFirst shelf before after (files_of (the_request other)) → AskedFirst shelf before after (files_of (the_request r))
first_as shelf before after r other same is = subst (λ (q : RequestWords). AskedFirst shelf before after (files_of (the_request q))) (sym same) is

pub instead_as : (shelf : Option (List ℕ → Option (List ℕ))) (before after : Option (List (List ℕ))) (said : SaidText) (r other : RequestWords) → r ≡ other → TellsInstead (the_request other) shelf before after said → TellsInstead (the_request r) shelf before after said
instead_as shelf before after said r other same is = subst (λ (q : RequestWords). TellsInstead (the_request q) shelf before after said) (sym same) is

pub instead_of : (shelf : Option (List ℕ → Option (List ℕ))) (before after : Option (List (List ℕ))) (request : Request) (said other : SaidText) → said ≡ other → TellsInstead request shelf before after said → TellsInstead request shelf before after other
instead_of shelf before after request said other same is = subst (TellsInstead request shelf before after) same is

-- what is said in place of an answer where the only file is refused
pub one_instead : (request : Request) (shelf : Option (List ℕ → Option (List ℕ))) (before after : Option (List (List ℕ))) (said : SaidText) (file : List ℕ) → files_of request ≡ file ∷ [] → (plan : Planned request shelf (says (the_said said))) → after ≡ and_names before (file ∷ []) → AreThere shelf (file ∷ []) →
    (WereRead shelf before after (file ∷ []) → RefusedIsThere shelf before after request plan.contents) → TellsInstead request shelf before after said
one_instead request shelf before after said file files plan asked there refused = record {
  plan = plan;
  refused = λ live other output outcome. (plan.contents, plan.are, refused (record { asked = asked; there = there }));
  asked = enough_all request shelf before after (says (the_said said)) (asked ∙ ap (and_names before) (sym files)) (subst (AreThere shelf) (sym files) there);
}

-- likewise where a document is refused, and the text isn't read
pub first_instead : (verb : TextVerb) (asked : AskedFile) (proof : List ℕ) (shelf : Option (List ℕ → Option (List ℕ))) (before after : Option (List (List ℕ))) (said : SaidText) → said.outcome ≡ Document → Planned (of_text verb asked proof) shelf (says (the_said said)) → after ≡ and_names before (asked.file ∷ []) → AreThere shelf (asked.file ∷ []) →
    TellsInstead (of_text verb asked proof) shelf before after said
first_instead verb asked proof shelf before after said outcome plan once there = record {
  plan = plan;
  refused = λ live other output at. (plan.contents, plan.are, record { asked = once; there = there });
  asked = enough_refused (of_text verb asked proof) shelf before after (the_said said) outcome
      (first_more shelf before before after [] (and_none before) (none_there shelf) asked.file (proof ∷ []) once)
      (first_more_some shelf before before after [] (and_none before) (none_there shelf) asked.file (proof ∷ []) once);
}

-- and where the text is too long
pub text_instead : (verb : TextVerb) (asked : AskedFile) (proof : List ℕ) (shelf : Option (List ℕ → Option (List ℕ))) (before mid after : Option (List (List ℕ))) (said : SaidText) → said.outcome ≡ Script → Planned (of_text verb asked proof) shelf (says (the_said said)) → mid ≡ and_names before (asked.file ∷ []) → after ≡ and_names mid (proof ∷ []) → AreThere shelf (asked.file ∷ []) → AreThere shelf (proof ∷ []) →
    TellsInstead (of_text verb asked proof) shelf before after said
text_instead verb asked proof shelf before mid after said outcome plan once then there later = record {
  plan = plan;
  refused = λ live other output at.
      let never : Document ≡ Script = sym at ∙ ap (λ (s : Said). s.outcome) output ∙ outcome in
      absurd (let f : ⊥ = cc in f);
  asked = enough_all (of_text verb asked proof) shelf before after (says (the_said said)) (and_more before mid after (asked.file ∷ []) (proof ∷ []) once then) (two_there shelf asked.file proof there later);
}

-- and where a document of a host is
pub host_instead : (shelf : Option (List ℕ → Option (List ℕ))) (before after : Option (List (List ℕ))) (cap : ℕ) (deadline : Option ℕ) (files : List (List ℕ)) (said : SaidText) → HasRefusedFile shelf before after deadline files said → TellsInstead (host files deadline cap) shelf before after said
host_instead shelf before after cap deadline files said is = record {
  plan = host_told shelf before after cap deadline files said is;
  refused = host_refused shelf before after cap deadline files said is;
  asked = enough_refused (host files deadline cap) shelf before after (the_said said) is.outcome (record { count = suc (length is.file.earlier); asked = is.file.read.asked; earlier = before_it }) (omega arith);
}
  where
    fewer : take (length is.file.earlier) (take (suc (length is.file.earlier)) files) ≡ take (suc (length is.file.earlier) - 1) files
    fewer = take-take (length is.file.earlier) (suc (length is.file.earlier)) files (omega arith) ∙ ap (λ (n : ℕ). take n files) (sym (one_less (length is.file.earlier)))

    before_it : AreThere shelf (take (suc (length is.file.earlier) - 1) files)
    before_it = subst (AreThere shelf) fewer (first_there shelf (take (suc (length is.file.earlier)) files) (length is.file.earlier) is.file.read.there)
