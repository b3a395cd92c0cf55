use Rattle.std.proofs.Common.{ℕ, List, refl, ap, sym, ◌∙◌, None, Bool, true, false, map, Vec, Global, Bor}
use Rattle.std.specs.Prelude.{option_map}
use Rattle.std.specs.List.{list_any}
use Rattle.std.proofs.lemmas.Result.{err_from_is_err_and}
use Rattle.cstn_facts.proofs.Filters.{any_map}
use Rattle.cstn_markup.specs.Bytes.{is_same}
use Rattle.cstn_element.specs.Children.{tag_seen}
use Rattle.cstn_element.specs.DataElementSeen.{maybe_datum, datum_seen}
use Rattle.cstn_element.specs.Elements.{Datum}
use Rattle.cstn_element.specs.Contents.{Tag}
use Rattle.cstn_element.specs.declared.data_element.Datum.{Datum as Lent}
use Rattle.cstn_element.proofs.DatumRead.{keyed, unused_ok, unused_fails, taken_twice, value_ok, value_fails}
use Rattle.cstn_element.proofs.data_element.read_datum.Goals as goal

pub returns-in_err-pass_element-clause-reads : goal.returns-in_err-pass_element-clause-reads
returns-in_err-pass_element-clause-reads c = λ names l.
    let used : List (List ℕ) = map (λ (u : Bor (List ℕ)). u.now) c.args.used.now in
    let taken : List ℕ → Bool = λ key. list_any (λ (d : Datum). is_same d.key key) (map datum_seen c.args.found.now) in
    let tag : Tag = tag_seen c.args.start.now in
    let p = err_from_is_err_and c.from_residual-in_err-pass_element.result c.from_residual-in_err-pass_element.ensures.1 in
    let e = ap (option_map (λ (v : Vec ℕ Global). v.items)) (sym c.in-Some.is) ∙ c.in_ok-key.ensures.value in
    let f = sym c.if-not-is_used.true ∙ c.is_used.ensures ∙ ap (λ k. list_any (λ (u : Bor (List ℕ)). is_same u.now k) c.args.used.now) c.as_slice.ensures.value ∙ sym (any_map (λ u. is_same u c.in-Some.key.items) (λ (u : Bor (List ℕ)). u.now) c.args.used.now) in
    rw (p.1, p.2) (unused_fails maybe_datum used taken tag c.in-Some.key.items _ _ _ _ _ _ (taken c.in-Some.key.items) (keyed used taken tag _ _ false (taken c.in-Some.key.items) e f refl) (c.in_err-pass_element.ensures.reads names l))

pub returns-then-not-is_used-clause-reads : goal.returns-then-not-is_used-clause-reads
returns-then-not-is_used-clause-reads c = λ names l.
    let used : List (List ℕ) = map (λ (u : Bor (List ℕ)). u.now) c.args.used.now in
    let taken : List ℕ → Bool = λ key. list_any (λ (d : Datum). is_same d.key key) (map datum_seen c.args.found.now) in
    let tag : Tag = tag_seen c.args.start.now in
    let e = ap (option_map (λ (v : Vec ℕ Global). v.items)) (sym c.in-Some.is) ∙ c.in_ok-key.ensures.value in
    let f = sym c.if-not-is_used.true ∙ c.is_used.ensures ∙ ap (λ k. list_any (λ (u : Bor (List ℕ)). is_same u.now k) c.args.used.now) c.as_slice.ensures.value ∙ sym (any_map (λ u. is_same u c.in-Some.key.items) (λ (u : Bor (List ℕ)). u.now) c.args.used.now) in
    unused_ok maybe_datum used taken tag c.in-Some.key.items _ _ _ _ _ None (taken c.in-Some.key.items) (keyed used taken tag _ _ false (taken c.in-Some.key.items) e f refl) (c.in_ok-pass_element.ensures.reads names l) refl

pub returns-then-is_found-clause-reads : goal.returns-then-is_found-clause-reads
returns-then-is_found-clause-reads c = λ names l.
    let used : List (List ℕ) = map (λ (u : Bor (List ℕ)). u.now) c.args.used.now in
    let taken : List ℕ → Bool = λ key. list_any (λ (d : Datum). is_same d.key key) (map datum_seen c.args.found.now) in
    let tag : Tag = tag_seen c.args.start.now in
    let e = ap (option_map (λ (v : Vec ℕ Global). v.items)) (sym c.in-Some.is) ∙ c.in_ok-key.ensures.value in
    let f = sym c.if-not-is_used.false ∙ c.is_used.ensures ∙ ap (λ k. list_any (λ (u : Bor (List ℕ)). is_same u.now k) c.args.used.now) c.as_slice.ensures.value ∙ sym (any_map (λ u. is_same u c.in-Some.key.items) (λ (u : Bor (List ℕ)). u.now) c.args.used.now) in
    let g = sym c.if-is_found.true ∙ c.is_found.ensures ∙ ap (λ k. list_any (λ (d : Lent). is_same d.key.items k) c.args.found.now) c.as_slice-2.ensures.value ∙ sym (any_map (λ (d : Datum). is_same d.key c.in-Some.key.items) datum_seen c.args.found.now) in
    taken_twice maybe_datum used taken tag c.in-Some.key.items _ _ _ _ _ (keyed used taken tag _ _ true true e f g)

pub returns-in_err-text-clause-reads : goal.returns-in_err-text-clause-reads
returns-in_err-text-clause-reads c = λ names l.
    let used : List (List ℕ) = map (λ (u : Bor (List ℕ)). u.now) c.args.used.now in
    let taken : List ℕ → Bool = λ key. list_any (λ (d : Datum). is_same d.key key) (map datum_seen c.args.found.now) in
    let tag : Tag = tag_seen c.args.start.now in
    let p = err_from_is_err_and c.from_residual-in_err-text.result c.from_residual-in_err-text.ensures.1 in
    let e = ap (option_map (λ (v : Vec ℕ Global). v.items)) (sym c.in-Some.is) ∙ c.in_ok-key.ensures.value in
    let f = sym c.if-not-is_used.false ∙ c.is_used.ensures ∙ ap (λ k. list_any (λ (u : Bor (List ℕ)). is_same u.now k) c.args.used.now) c.as_slice.ensures.value ∙ sym (any_map (λ u. is_same u c.in-Some.key.items) (λ (u : Bor (List ℕ)). u.now) c.args.used.now) in
    let g = sym c.if-is_found.false ∙ c.is_found.ensures ∙ ap (λ k. list_any (λ (d : Lent). is_same d.key.items k) c.args.found.now) c.as_slice-2.ensures.value ∙ sym (any_map (λ (d : Datum). is_same d.key c.in-Some.key.items) datum_seen c.args.found.now) in
    rw (p.1, p.2) (value_fails maybe_datum used taken tag c.in-Some.key.items _ _ _ _ _ (λ (v : Vec ℕ Global). v.items) _ (keyed used taken tag _ _ true false e f g) (c.in_err-text.ensures.reads names))

pub returns-clause-reads : goal.returns-clause-reads
returns-clause-reads c = λ names l.
    let used : List (List ℕ) = map (λ (u : Bor (List ℕ)). u.now) c.args.used.now in
    let taken : List ℕ → Bool = λ key. list_any (λ (d : Datum). is_same d.key key) (map datum_seen c.args.found.now) in
    let tag : Tag = tag_seen c.args.start.now in
    let e = ap (option_map (λ (v : Vec ℕ Global). v.items)) (sym c.in-Some.is) ∙ c.in_ok-key.ensures.value in
    let f = sym c.if-not-is_used.false ∙ c.is_used.ensures ∙ ap (λ k. list_any (λ (u : Bor (List ℕ)). is_same u.now k) c.args.used.now) c.as_slice.ensures.value ∙ sym (any_map (λ u. is_same u c.in-Some.key.items) (λ (u : Bor (List ℕ)). u.now) c.args.used.now) in
    let g = sym c.if-is_found.false ∙ c.is_found.ensures ∙ ap (λ k. list_any (λ (d : Lent). is_same d.key.items k) c.args.found.now) c.as_slice-2.ensures.value ∙ sym (any_map (λ (d : Datum). is_same d.key c.in-Some.key.items) datum_seen c.args.found.now) in
    value_ok maybe_datum used taken tag c.in-Some.key.items _ _ _ _ _ (λ (v : Vec ℕ Global). v.items) _ _ (keyed used taken tag _ _ true false e f g) (c.in_ok-text.ensures.reads names) refl
