-- The tokens that the pieces of a document give, whatever bytes stand behind them.
use Rattle.std.proofs.Common.{◌≡◌, ℕ, zero, suc, ◌+◌, ◌-◌, ◌<◌, ◌≤◌, List, [], ◌∷◌, ◌++◌, length, drop, refl, ap, arith, true, false, not, length-drop}
use Rattle.std.specs.Prelude.{Some, codes, ◌==◌}
use Rattle.std.proofs.Math.Seq.{take-append_seam, drop-append_seam}
use Rattle.std.proofs.lemmas.Bool.{and_parts, not-true}
use Rattle.std.specs.List.{list_all}
use Rattle.cstn_markup.specs.Bytes.{◌>>=◌, resolved_after, piece_at as bytes_piece_at}
use Rattle.cstn_markup.specs.Tokens.{Attribute, Kind, attribute_at, with_front, tail_at, piece_at, tokens_after}
use Rattle.cstn_markup.proofs.Stepping.{tokens_skip}
use Rattle.cstn_markup.proofs.Tails.{tail_step}
use Rattle.cstn_markup.proofs.Rests.{piece_behind}
use Rattle.cstn_markup.proofs.Resolving.{resolved_plain}
use Rattle.cstn_save.proofs.RunLemmas.{run_len}
use Rattle.cstn_save.specs.Canonical.{escaped_name}
use Rattle.cstn_save.proofs.EscapedNameLemmas.{name_quoted}

pub graphml_tag : (rest : List ℕ) → piece_at (codes "<graphml>" ++ rest) ≡ Some (Some (Kind.start_tag (codes "graphml") [] false), rest)
unfolding tail_at
graphml_tag rest = refl

pub graph_tag : (rest : List ℕ) → piece_at (codes "<graph edgedefault=\"directed\">" ++ rest) ≡ Some (Some (Kind.start_tag (codes "graph") (record { name = codes "edgedefault"; raw = codes "directed" } ∷ []) false), rest)
unfolding tail_at resolved_after bytes_piece_at
graph_tag rest = refl

pub data_end : (rest : List ℕ) → piece_at (codes "</data>" ++ rest) ≡ Some (Some (Kind.end_tag (codes "data")), rest)
data_end rest = refl

pub line_end : (rest : List ℕ) → piece_at (10 ∷ (60 ∷ rest)) ≡ Some (Some (Kind.text_run (10 ∷ [])), 60 ∷ rest)
unfolding resolved_after bytes_piece_at
line_end rest = refl

pub node_end_tag : (rest : List ℕ) → piece_at (codes "</node>" ++ rest) ≡ Some (Some (Kind.end_tag (codes "node")), rest)
node_end_tag rest = refl

pub edge_end_tag : (rest : List ℕ) → piece_at (codes "</edge>" ++ rest) ≡ Some (Some (Kind.end_tag (codes "edge")), rest)
edge_end_tag rest = refl

pub graph_end : (rest : List ℕ) → piece_at (codes "</graph>" ++ rest) ≡ Some (Some (Kind.end_tag (codes "graph")), rest)
graph_end rest = refl

pub graphml_end : (rest : List ℕ) → piece_at (codes "</graphml>" ++ rest) ≡ Some (Some (Kind.end_tag (codes "graphml")), rest)
graphml_end rest = refl

pub deadline_tag : (rest : List ℕ) → piece_at (codes "<data key=\"Deadline\">" ++ rest) ≡ Some (Some (Kind.start_tag (codes "data") (record { name = codes "key"; raw = codes "Deadline" } ∷ []) false), rest)
unfolding tail_at resolved_after bytes_piece_at
deadline_tag rest = refl

pub obs_tag : (rest : List ℕ) → piece_at (codes "<data key=\"Obs\">" ++ rest) ≡ Some (Some (Kind.start_tag (codes "data") (record { name = codes "key"; raw = codes "Obs" } ∷ []) false), rest)
unfolding tail_at resolved_after bytes_piece_at
obs_tag rest = refl

pub reaction_tag : (rest : List ℕ) → piece_at (codes "<data key=\"Reaction\">" ++ rest) ≡ Some (Some (Kind.start_tag (codes "data") (record { name = codes "key"; raw = codes "Reaction" } ∷ []) false), rest)
unfolding tail_at resolved_after bytes_piece_at
reaction_tag rest = refl

pub label_tag : (rest : List ℕ) → piece_at (codes "<data key=\"Label\">" ++ rest) ≡ Some (Some (Kind.start_tag (codes "data") (record { name = codes "key"; raw = codes "Label" } ∷ []) false), rest)
unfolding tail_at resolved_after bytes_piece_at
label_tag rest = refl

pub type_tag : (rest : List ℕ) → piece_at (codes "<data key=\"Type\">" ++ rest) ≡ Some (Some (Kind.start_tag (codes "data") (record { name = codes "key"; raw = codes "Type" } ∷ []) false), rest)
unfolding tail_at resolved_after bytes_piece_at
type_tag rest = refl

pub values_tag : (rest : List ℕ) → piece_at (codes "<data key=\"LabeledValues\">" ++ rest) ≡ Some (Some (Kind.start_tag (codes "data") (record { name = codes "key"; raw = codes "LabeledValues" } ∷ []) false), rest)
unfolding tail_at resolved_after bytes_piece_at
values_tag rest = refl

-- an attribute whose value is an escaped name
id_attribute : (name rest : List ℕ) → attribute_at (codes " id=" ++ 34 ∷ (escaped_name name ++ 34 ∷ rest)) ≡ Some (record { name = codes "id"; raw = escaped_name name }, rest)
id_attribute name rest = rw (name_quoted name rest) refl

source_attribute : (name rest : List ℕ) → attribute_at (codes " source=" ++ 34 ∷ (escaped_name name ++ 34 ∷ rest)) ≡ Some (record { name = codes "source"; raw = escaped_name name }, rest)
source_attribute name rest = rw (name_quoted name rest) refl

target_attribute : (name rest : List ℕ) → attribute_at (codes " target=" ++ 34 ∷ (escaped_name name ++ 34 ∷ rest)) ≡ Some (record { name = codes "target"; raw = escaped_name name }, rest)
target_attribute name rest = rw (name_quoted name rest) refl

ended_after : (k : ℕ) (rest : List ℕ) (a : Attribute) → (tail_at k (62 ∷ rest) >>= λ tail. with_front a tail) ≡ Some (record { attributes = a ∷ []; closed = false; rest = rest })
unfolding tail_at
ended_after zero rest a = refl
ended_after (suc k) rest a = refl

closed_after : (k : ℕ) (rest : List ℕ) (a : Attribute) → (tail_at k (47 ∷ 62 ∷ rest) >>= λ tail. with_front a tail) ≡ Some (record { attributes = a ∷ []; closed = true; rest = rest })
unfolding tail_at
closed_after zero rest a = refl
closed_after (suc k) rest a = refl

-- the start tag of a time-point
pub node_open : (name rest : List ℕ) → piece_at (codes "<node id=" ++ 34 ∷ (escaped_name name ++ 34 ∷ 62 ∷ rest)) ≡ Some (Some (Kind.start_tag (codes "node") (record { name = codes "id"; raw = escaped_name name } ∷ []) false), rest)
node_open name rest =
    rw (tail_step 32 (codes " id=" ++ 34 ∷ (escaped_name name ++ 34 ∷ 62 ∷ rest)) (62 ∷ rest) (record { name = codes "id"; raw = escaped_name name }) (omega arith) refl (id_attribute name (62 ∷ rest)), ended_after 31 rest (record { name = codes "id"; raw = escaped_name name })) refl

pub node_closed : (name rest : List ℕ) → piece_at (codes "<node id=" ++ 34 ∷ (escaped_name name ++ 34 ∷ 47 ∷ 62 ∷ rest)) ≡ Some (Some (Kind.start_tag (codes "node") (record { name = codes "id"; raw = escaped_name name } ∷ []) true), rest)
node_closed name rest =
    rw (tail_step 32 (codes " id=" ++ 34 ∷ (escaped_name name ++ 34 ∷ 47 ∷ 62 ∷ rest)) (47 ∷ 62 ∷ rest) (record { name = codes "id"; raw = escaped_name name }) (omega arith) refl (id_attribute name (47 ∷ 62 ∷ rest)), closed_after 31 rest (record { name = codes "id"; raw = escaped_name name })) refl

edge_tail : (source target rest : List ℕ) → (tail_at 31 (codes " target=" ++ 34 ∷ (escaped_name target ++ 34 ∷ 62 ∷ rest)) >>= λ tail. with_front (record { name = codes "source"; raw = escaped_name source }) tail)
    ≡ Some (record { attributes = record { name = codes "source"; raw = escaped_name source } ∷ record { name = codes "target"; raw = escaped_name target } ∷ []; closed = false; rest = rest })
edge_tail source target rest =
    rw (tail_step 31 (codes " target=" ++ 34 ∷ (escaped_name target ++ 34 ∷ 62 ∷ rest)) (62 ∷ rest) (record { name = codes "target"; raw = escaped_name target }) (omega arith) refl (target_attribute target (62 ∷ rest)), ended_after 30 rest (record { name = codes "target"; raw = escaped_name target })) refl

-- the start tag of a constraint's edge
pub edge_open : (source target rest : List ℕ) → piece_at (codes "<edge source=" ++ 34 ∷ (escaped_name source ++ 34 ∷ (codes " target=" ++ 34 ∷ (escaped_name target ++ 34 ∷ 62 ∷ rest))))
    ≡ Some (Some (Kind.start_tag (codes "edge") (record { name = codes "source"; raw = escaped_name source } ∷ record { name = codes "target"; raw = escaped_name target } ∷ []) false), rest)
edge_open source target rest =
    rw (
      tail_step 32 (codes " source=" ++ 34 ∷ (escaped_name source ++ 34 ∷ (codes " target=" ++ 34 ∷ (escaped_name target ++ 34 ∷ 62 ∷ rest)))) (codes " target=" ++ 34 ∷ (escaped_name target ++ 34 ∷ 62 ∷ rest)) (record { name = codes "source"; raw = escaped_name source }) (omega arith) refl
          (source_attribute source (codes " target=" ++ 34 ∷ (escaped_name target ++ 34 ∷ 62 ∷ rest))),
      edge_tail source target rest,
    ) refl

rest_drop : (n : ℕ) (bytes : List ℕ) → drop (length bytes - length (drop n bytes)) bytes ≡ drop n bytes
rest_drop zero bytes = let none : length bytes - length bytes ≡ 0 = omega arith in rw none refl
rest_drop (suc n) [] = refl
rest_drop (suc n) (b ∷ bytes) =
    let step : suc (length bytes) - length (drop n bytes) ≡ suc (length bytes - length (drop n bytes)) = omega (arith, length-drop n bytes) in
    rw step (rest_drop n bytes)

rest_here : (b n : ℕ) (bytes rest : List ℕ) → rest ≡ drop n (b ∷ bytes) → length rest < length (b ∷ bytes) → drop (length bytes - length rest) bytes ≡ rest
rest_here b zero bytes rest is short = absurd (let same : length rest ≡ length (b ∷ bytes) = ap length is in omega (arith, same))
rest_here b (suc n) bytes rest is short = rw is (rest_drop n bytes)

-- a piece that gives a token, and what stands behind it
pub next_token : (b : ℕ) (bytes rest : List ℕ) (at : ℕ) (kind : Kind) → piece_at (b ∷ bytes) ≡ Some (Some kind, rest)
    → (place : ℕ) × (tokens_after 0 at (b ∷ bytes) ≡ record { at = at; kind = kind } ∷ tokens_after 0 place rest)
unfolding tokens_after
next_token b bytes rest at kind e =
    let behind = piece_behind b bytes (Some kind, rest) e in
    let inside : length bytes - length rest ≤ length bytes = omega arith in (
      at + 1 + (length bytes - length rest),
      rw (e, tokens_skip (length bytes - length rest) (at + 1) bytes inside, rest_here b behind.rests.count bytes rest behind.rests.is behind.shorter) refl,
    )

-- a text up to the next tag
pub text_piece : (b : ℕ) (raw rest : List ℕ) → list_all (λ c. not (c == 60)) (b ∷ raw) ≡ true → list_all (λ c. not (c == 38)) (b ∷ raw) ≡ true → piece_at (b ∷ (raw ++ 60 ∷ rest)) ≡ Some (Some (Kind.text_run (b ∷ raw)), 60 ∷ rest)
text_piece b raw rest h k =
    let first : (b == 60) ≡ false = not-true (b == 60) (and_parts (not (b == 60)) (list_all (λ c. not (c == 60)) raw) h).0 in
    let more : 1 + length raw ≡ suc (length raw) = omega arith in
    rw (
      first,
      run_len (λ c. not (c == 60)) raw 60 rest (and_parts (not (b == 60)) (list_all (λ c. not (c == 60)) raw) h).1 refl,
      more,
      drop-append_seam raw (60 ∷ rest),
      take-append_seam raw (60 ∷ rest),
      resolved_plain (b ∷ raw) k,
    ) refl
