-- What a document means, its parts or its refusal, by what was read of it.
use Rattle.std.proofs.Common.{◌≡◌, ℕ, List, refl, ap, sym, ◌∙◌, subst, Option, Some, None, Result, Ok, Err, inl, inr}
use Rattle.std.proofs.lemmas.Bool.{false_from_ne_true}
use Rattle.std.specs.Prelude.{IfOk}
use Rattle.std.specs.Str.{IsUtf8, is_utf8}
use Rattle.std.specs.Str.Lossy.{utf8_valid_len}
use Rattle.std.proofs.lemmas.Str.{IsUtf8-from_is_utf8, is_utf8-from_IsUtf8}
use Rattle.cstn_markup.specs.Tokens.{Token, tokens}
use Rattle.cstn_net.specs.declared.errors.NetError.{NetError}
use Rattle.cstn_net.specs.Drafts.{IsNetRefusal}
use Rattle.cstn_net.specs.Networks.{IsWellFormed}
use Rattle.cstn_net.specs.Read.{NetworkParts, the_network}
use Rattle.cstn_lift.specs.declared.errors.LiftError.{LiftError}
use Rattle.cstn_lift.specs.Faults.{HasLiftFault}
use Rattle.cstn_lift.specs.WellFormed.{IsLabelled}
use Rattle.cstn_lift.specs.Read.{LabelledParts, the_labelled}
use Rattle.cstn_element.specs.Results.{Refusal, ◌>>=◌, or_refused, demand}
use Rattle.cstn_element.specs.Results.Refusal.{not_utf8, no_deadline}
use Rattle.cstn_element.specs.Contents.{Content, content_of}
use Rattle.cstn_graphml.specs.DrawnGraph.{DrawnGraph}
use Rattle.cstn_graphml.specs.DrawnGraphSeen.{graph_seen}
use Rattle.cstn_graphml.specs.DrawnGraphLaws.{IsDrawnGraph}
use Rattle.cstn_graphml.specs.Document.{Parts, document, in_document, drawn_parts, parts_of, first_of_two}
use Rattle.cstn_graphml.specs.Kept.{kept, in_kept_document}
use Rattle.cstn_graphml.specs.Networks.{IsBuilt, builder_of}
use Rattle.cstn_graphml.specs.Labels.{with_labels_of}
use Rattle.cstn_graphml.specs.Answers.{IsDocument, RefusesDocument, IsNetTold, IsLabelRefusal}
use Rattle.cstn_element.specs.Reads.{Fails}
use Rattle.cstn_graphml.specs.declared.drawn_graph.DrawnGraph.{DrawnGraph as LentGraph}
use Rattle.cstn_element.specs.declared.errors.DocError.{DocError}
use Rattle.cstn_element.specs.declared.errors.DocError.TheVariants.{NotUtf8, Shape, NameTwice, UnknownNode, Value, LabelText, Contingent, EdgeType, NoDeadline, Net, Lift, Memory}
use Rattle.cstn_graphml.proofs.Built.{parts_with}
use Rattle.cstn_graphml.proofs.DrawnGraphLaws.{bind_ok, ok_is, document_is_drawn}
use Rattle.cstn_graphml.proofs.KeptGraphs.{IsKeptOf, kept_drawn, same_names, built_whole, lowest_of, kept_unfit, labels_made, made_fit, made_mislabelled}
use Rattle.cstn_graphml.proofs.KeptRead.{document_kept, refused_whole}

told_at : (m n : ℕ) → m ≡ n → ◌≡◌ {A = Result Parts Refusal} (Err (not_utf8 m)) (Err (not_utf8 n))
told_at m n e = rw e refl

-- bytes that aren't UTF-8 are refused at the first byte of the first wrong sequence
pub not_text : (bytes : List ℕ) (word : Option ℕ) (at : ℕ) → (IsUtf8 bytes → ⊥) → at ≡ utf8_valid_len bytes → document bytes word ≡ Err (not_utf8 at)
not_text bytes word at h e =
    ap (λ b. demand b (not_utf8 (utf8_valid_len bytes)) >>= λ same. in_document (content_of (tokens bytes)) >>= drawn_parts word) (false_from_ne_true (is_utf8 bytes) (λ t. h (IsUtf8-from_is_utf8 bytes t)))
    ∙ told_at (utf8_valid_len bytes) at (sym e)

-- what a document of UTF-8 means is told by its tokens and elements
pub of_text : (bytes : List ℕ) (word : Option ℕ) → IsUtf8 bytes → document bytes word ≡ (in_document (content_of (tokens bytes)) >>= drawn_parts word)
of_text bytes word h = ap (λ b. demand b (not_utf8 (utf8_valid_len bytes)) >>= λ same. in_document (content_of (tokens bytes)) >>= drawn_parts word) (is_utf8-from_IsUtf8 bytes h)

refused_by : (e : DocError) (read : Result DrawnGraph Refusal) (word : Option ℕ) → Fails e read → RefusesDocument (read >>= drawn_parts word) e
refused_by (NotUtf8 at) read word h = ap (λ o. o >>= drawn_parts word) h
refused_by (Shape at) read word h = ap (λ o. o >>= drawn_parts word) h
refused_by (NameTwice at) read word h = ap (λ o. o >>= drawn_parts word) h
refused_by (UnknownNode at) read word h = ap (λ o. o >>= drawn_parts word) h
refused_by (Value at) read word h = ap (λ o. o >>= drawn_parts word) h
refused_by (LabelText at) read word h = ap (λ o. o >>= drawn_parts word) h
refused_by (Contingent at) read word h = ap (λ o. o >>= drawn_parts word) h
refused_by (EdgeType at) read word h = ap (λ o. o >>= drawn_parts word) h
refused_by NoDeadline read word h = ap (λ o. o >>= drawn_parts word) h
refused_by (Net error names) read word h = absurd h
refused_by (Lift error names) read word h = absurd h
refused_by (Memory e) read word h = tt

-- the document is refused where its tokens and elements are
pub refused_before : (bytes : List ℕ) (word : Option ℕ) (ts : List Token) (e : DocError) → IsUtf8 bytes → ts ≡ tokens bytes → Fails e (in_kept_document (content_of ts)) → RefusesDocument (document bytes word) e
refused_before bytes word ts e u is h =
    let c : Content = content_of (tokens bytes) in
    let kept_fails : Fails e (in_kept_document c) = subst (λ (ts : List Token). Fails e (in_kept_document (content_of ts))) is h in
    let whole_fails = refused_whole kept e (in_document c) (subst (Fails e) (document_kept c) kept_fails) in
    subst (λ told. RefusesDocument told e) (sym (of_text bytes word u)) (refused_by e (in_document c) word whole_fails)

-- a document is refused where its graph was read and there is no deadline
pub lacks_deadline : (bytes : List ℕ) (word : Option ℕ) (g : DrawnGraph) → IsUtf8 bytes → in_document (content_of (tokens bytes)) ≡ Ok g → first_of_two word g.deadline ≡ None → document bytes word ≡ Err no_deadline
lacks_deadline bytes word g u h e = of_text bytes word u ∙ ap (λ o. o >>= drawn_parts word) h ∙ ap (λ o. or_refused o no_deadline >>= λ deadline. Ok (parts_of deadline g)) e

-- a document has its parts where its graph was read and there is a deadline
pub has_deadline : (bytes : List ℕ) (word : Option ℕ) (n : ℕ) (g : DrawnGraph) → IsUtf8 bytes → in_document (content_of (tokens bytes)) ≡ Ok g → first_of_two word g.deadline ≡ Some n → document bytes word ≡ Ok (parts_of n g)
has_deadline bytes word n g u h e = of_text bytes word u ∙ ap (λ o. o >>= drawn_parts word) h ∙ ap (λ o. or_refused o no_deadline >>= λ deadline. Ok (parts_of deadline g)) e

-- a document was read of which this graph is kept
pub record Read (bytes : List ℕ) (d : LentGraph) : Type 0 where
  pub whole : DrawnGraph
  pub told : in_document (content_of (tokens bytes)) ≡ Ok whole
  pub as_kept : IsKeptOf whole d

pub was_read : (bytes : List ℕ) (ts : List Token) (d : LentGraph) → ts ≡ tokens bytes → in_kept_document (content_of ts) ≡ Ok (graph_seen d) → Read bytes d
was_read bytes ts d is h =
    let c : Content = content_of (tokens bytes) in
    let b = bind_ok (in_document c) (λ g. Ok (kept g)) (graph_seen d) (sym (document_kept c) ∙ ap (λ ts. in_kept_document (content_of ts)) (sym is) ∙ h) in
    record { whole = b.0; told = b.1; as_kept = record { kept_is = ok_is (kept b.0) (graph_seen d) b.2; drawn = document_is_drawn c b.0 b.1 } }

module _ (bytes : List ℕ) (d : LentGraph) (read : Read bytes d) where
  pub read_is_drawn : IsDrawnGraph (graph_seen d)
  read_is_drawn = kept_drawn read.whole d read.as_kept

  pub same_deadline : read.whole.deadline ≡ d.deadline
  same_deadline = ap (λ (g : DrawnGraph). g.deadline) read.as_kept.kept_is

  -- a network was made of it only if it is kept whole
  pub made_whole : (n : ℕ) (network : NetworkParts) → IsBuilt (builder_of n d) network → IsWellFormed (the_network network) → in_document (content_of (tokens bytes)) ≡ Ok (graph_seen d)
  made_whole n network built good = read.told ∙ ap (λ (g : DrawnGraph). Ok g) (built_whole read.whole d read.as_kept n network built good)

-- Of a document that has its parts, and whose network was made.
module _ (told : Result Parts Refusal) (n : ℕ) (d : LentGraph) (network : NetworkParts) (is : told ≡ Ok (parts_with n d)) (built : IsBuilt (builder_of n d) network) (good : IsWellFormed (the_network network)) where
  -- where its labels have no fault, the document is accepted
  pub made_document : (labelled : LabelledParts) (names : List (List ℕ)) → the_labelled labelled ≡ with_labels_of network d → names ≡ d.names → IsLabelled (the_labelled labelled) → ((error : LiftError) → HasLiftFault (with_labels_of network d) error → ⊥) → IsDocument told (the_labelled labelled) names
  made_document labelled names same named in_order none = record {
    parts = parts_with n d;
    told_are = is;
    fit = made_fit n d network built labelled same in_order none;
    labelled_is = same ∙ labels_made n d network built;
    names_are = named;
  }

  pub all_made : (r : Result (LabelledParts × List (List ℕ)) DocError) → IfOk r (λ x. the_labelled x.0 ≡ with_labels_of network d) → IfOk r (λ x. x.1 ≡ d.names) → IfOk r (λ x. IsLabelled (the_labelled x.0)) → IfOk r (λ x. (error : LiftError) → HasLiftFault (with_labels_of network d) error → ⊥) → IfOk r (λ x. IsDocument told (the_labelled x.0) x.1)
  all_made (Ok x) same named in_order none = made_document x.0 x.1 same named in_order none
  all_made (Err e) same named in_order none = tt

  -- where its labels are refused, so is the document
  pub mislabelled_is_refused : (e : DocError) → IsLabelRefusal (with_labels_of network d) d.names e → RefusesDocument told e
  mislabelled_is_refused (Lift error names) h = record {
    parts = parts_with n d;
    told_are = is;
    mislabelled = made_mislabelled n d network built error good h.0;
    names_are = h.1;
  }
  mislabelled_is_refused (Memory e) h = tt
  mislabelled_is_refused (NotUtf8 at) h = absurd h
  mislabelled_is_refused (Shape at) h = absurd h
  mislabelled_is_refused (NameTwice at) h = absurd h
  mislabelled_is_refused (UnknownNode at) h = absurd h
  mislabelled_is_refused (Value at) h = absurd h
  mislabelled_is_refused (LabelText at) h = absurd h
  mislabelled_is_refused (Contingent at) h = absurd h
  mislabelled_is_refused (EdgeType at) h = absurd h
  mislabelled_is_refused NoDeadline h = absurd h
  mislabelled_is_refused (Net error names) h = absurd h

-- where the network of a document that has its parts is refused, so is the document
pub unfit_is_refused : (told : Result Parts Refusal) (bytes : List ℕ) (n : ℕ) (d : LentGraph) (read : Read bytes d) (names : List (List ℕ)) (e : DocError) → told ≡ Ok (parts_of n read.whole) → names ≡ d.names
    → (error : NetError) → IsNetRefusal (builder_of n d) error → IsNetTold error names e → RefusesDocument told e
unfit_is_refused told bytes n d read names e is named error h (inl memory) = subst (RefusesDocument told) (sym memory.2) tt
unfit_is_refused told bytes n d read names e is named error h (inr fault) =
    subst (RefusesDocument told) (sym fault.1)
    (record { parts = parts_of n read.whole; told_are = is; unfit = kept_unfit n read.whole d read.as_kept error (lowest_of _ error h fault.0); names_are = named ∙ sym (same_names read.whole d read.as_kept) })
