use Rattle.std.proofs.Common.{◌≡◌, ◌∙◌, ℕ, List, length, map, take, ap, sym, subst, arith, rules, String, Global, string_bytes, suc, ◌∷◌, [], ◌++◌}
use Rattle.std.specs.Prelude.{Option, Err, IsErrAnd, drop}
use Rattle.std.proofs.lemmas.List.{take_all, length-append}
use Rattle.cstn_request.specs.Opened.{HasAskedFile, IsPlainOf, IsPlainRefusal}
use Rattle.cstn_request.specs.declared.reading.NamedNetwork.{NamedNetwork}
use Rattle.cstn_request.specs.declared.reading.Unread.TheVariants.{Told}
use Rattle.cstn_request.proofs.Opening.{handed_on}
use Rattle.cstn_io.specs.Asked.{and_names}
use Rattle.cstn_request.specs.Several.{HasRead}
use Rattle.cstn_request.proofs.Asking.{and_none, and_more, first_once, first_more, first_names, once_told}
use Rattle.cstn_request.proofs.ReadFiles.{ask_at, files_at, next_file}
use Rattle.cstn_request.proofs.ReadAll.{asked_for, read_none, read_more, read_refused, sound_more}
use Rattle.cstn_request.proofs.several.open_all.Goals as goal

pub open-requires : goal.open-requires
open-requires g c = record { may_ask = ask_at (g.F.Shelf.may_ask c.args.shelf.now) (g.F.Shelf.may_ask c.loop-file.shelf) c.args.files.now c.loop-file.file-index c.file-item.result c.as_str.result.now c.requires.may_ask c.loop-file.invariant.ask c.loop-file-test.true c.file-item.is c.as_str.ensures.value }

pub loop-file-preserved : goal.loop-file-preserved
loop-file-preserved g c =
    let told = g.F.Shelf.files c.args.shelf.now in
    let asked = asked_for c.as_str.result.now c.args.deadline in
    let document = c.in_ok-document.document in
    let inv = c.loop-file.invariant in
    let opened : HasAskedFile told asked (λ bytes deadline. IsPlainOf bytes deadline document) =
    subst (λ (t : Option (List ℕ → Option (List ℕ))). HasAskedFile t asked (λ bytes deadline. IsPlainOf bytes deadline document)) inv.files c.in_ok-document.ensures.opened in
    let items = c.in-Ok.ensures.items in
    let grown = length-append c.loop-file.documents.items (document ∷ []) in
    record {
      read =
          subst (λ (ns : List (List ℕ)). HasRead told c.args.deadline ns c.push.new.self.items)
          (next_file c.args.files.now c.loop-file.file-index c.file-item.result c.as_str.result.now c.loop-file-test.true c.file-item.is c.as_str.ensures.value)
          (subst (λ (ds : List NamedNetwork). HasRead told c.args.deadline (map string_bytes (take c.loop-file.file-index c.args.files.now) ++ c.as_str.result.now ∷ []) ds) (sym items)
          (read_more told c.args.deadline (map string_bytes (take c.loop-file.file-index c.args.files.now)) c.loop-file.documents.items inv.read c.as_str.result.now document opened));
      many = omega (arith, inv.many, ap length items, grown);
      sound = sound_more c.loop-file.documents.items c.push.new.self.items document items inv.sound (record { well_formed = opened.is.well_formed; named = opened.is.names.named });
      ask = c.open.ensures.names ∙ inv.ask;
      once =
          and_more _ _ _ (map string_bytes (take c.loop-file.file-index c.args.files.now)) (c.as_str.result.now ∷ []) inv.once c.in_ok-document.ensures.once
          ∙ ap (and_names (g.F.Shelf.asked c.args.shelf.now))
          (next_file c.args.files.now c.loop-file.file-index c.file-item.result c.as_str.result.now c.loop-file-test.true c.file-item.is c.as_str.ensures.value);
      files = c.open.ensures.files ∙ inv.files;
      later = omega (arith, c.open.ensures.later, inv.later);
    }

pub returns-in_err-document-clause-refused : goal.returns-in_err-document-clause-refused
returns-in_err-document-clause-refused g c = λ said e.
    let told : IsErrAnd c.from_residual.result (λ x. x ≡ c.in_err-document.field-0.0) = c.from_residual.ensures.1 in
    let asked = asked_for c.as_str.result.now c.args.deadline in
    let opened : HasAskedFile (g.F.Shelf.files c.args.shelf.now) asked (λ bytes deadline. IsPlainRefusal bytes deadline said) =
    subst (λ (t : Option (List ℕ → Option (List ℕ))). HasAskedFile t asked (λ bytes deadline. IsPlainRefusal bytes deadline said)) c.loop-file.invariant.files
    (c.open.ensures.refused said (c.in_err-document.was ∙ ap Err (handed_on c.from_residual.result c.in_err-document.field-0.0 (Told said) told e))) in
    read_refused (g.F.Shelf.files c.args.shelf.now) c.args.deadline (map string_bytes (take c.loop-file.file-index c.args.files.now)) c.loop-file.documents.items c.loop-file.invariant.read c.as_str.result.now _ _
    (map string_bytes c.args.files.now) (map string_bytes (drop (suc c.loop-file.file-index) c.args.files.now)) said
    (files_at c.args.files.now c.loop-file.file-index c.file-item.result c.as_str.result.now c.loop-file-test.true c.file-item.is c.as_str.ensures.value)
    opened
    (and_more _ _ _ (map string_bytes (take c.loop-file.file-index c.args.files.now)) (c.as_str.result.now ∷ []) c.loop-file.invariant.once
    (once_told NamedNetwork c.as_str.result.now _ _ c.in_err-document.field-0.0 said (handed_on c.from_residual.result c.in_err-document.field-0.0 (Told said) told e) c.in_err-document.ensures.once))

pub returns-in_err-document-clause-first : goal.returns-in_err-document-clause-first
returns-in_err-document-clause-first g c = λ is.
    first_names (g.F.Shelf.files c.args.shelf.now) _ _ _ _
    (files_at c.args.files.now c.loop-file.file-index c.file-item.result c.as_str.result.now c.loop-file-test.true c.file-item.is c.as_str.ensures.value)
    (first_once (g.F.Shelf.files c.args.shelf.now) _ _ _ (map string_bytes (take c.loop-file.file-index c.args.files.now)) c.loop-file.invariant.once c.loop-file.invariant.read.there {T = NamedNetwork} c.as_str.result.now
    (map string_bytes (drop (suc c.loop-file.file-index) c.args.files.now)) (Err c.in_err-document.field-0.0) c.in_err-document.ensures.once)

pub returns-in_default-clause-first : goal.returns-in_default-clause-first
returns-in_default-clause-first g c = λ is.
    first_names (g.F.Shelf.files c.args.shelf.now) _ _ _ _
    (files_at c.args.files.now c.loop-file.file-index c.file-item.result c.as_str.result.now c.loop-file-test.true c.file-item.is c.as_str.ensures.value)
    (first_more (g.F.Shelf.files c.args.shelf.now) _ _ _ (map string_bytes (take c.loop-file.file-index c.args.files.now)) c.loop-file.invariant.once c.loop-file.invariant.read.there c.as_str.result.now
    (map string_bytes (drop (suc c.loop-file.file-index) c.args.files.now)) c.in_ok-document.ensures.once)

pub returns-clause-once : goal.returns-clause-once
returns-clause-once g c =
    let all = take_all c.loop-file.file-index c.args.files.now (omega (arith, c.loop-file-test.false)) in
    c.loop-file.invariant.once ∙ ap (λ (fs : List (String Global)). and_names (g.F.Shelf.asked c.args.shelf.now) (map string_bytes fs)) all

pub loop-file-init : goal.loop-file-init
loop-file-init g c = record {
  read = subst (λ (ds : List NamedNetwork). HasRead (g.F.Shelf.files c.args.shelf.now) c.args.deadline [] ds) (sym c.new-documents.ensures.items) (read_none (g.F.Shelf.files c.args.shelf.now) c.args.deadline);
  many = search rules;
  sound = search rules;
  ask = search rules;
  once = and_none (g.F.Shelf.asked c.args.shelf.now);
  files = search rules;
  later = search rules;
}

pub returns-clause-read : goal.returns-clause-read
returns-clause-read g c =
    let all = take_all c.loop-file.file-index c.args.files.now (omega (arith, c.loop-file-test.false)) in
    subst (λ (fs : List (String Global)). HasRead (g.F.Shelf.files c.args.shelf.now) c.args.deadline (map string_bytes fs) c.loop-file.documents.items) all c.loop-file.invariant.read
