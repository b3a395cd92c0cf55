-- Documents and what they mean, by computing.
use Rattle.std.proofs.Common.{◌≡◌, [], ◌∷◌, ◌++◌, refl, Some, None}
use Rattle.std.specs.Prelude.{codes, Ok, Err, pos, negsuc}
use Rattle.cstn_net.specs.Limits.{most_reaction}
use Rattle.cstn_markup.specs.Bytes.{resolved_after, piece_at, number_after, past_first}
use Rattle.cstn_markup.specs.Tokens.{tokens_after, tail_at}
use Rattle.cstn_element.specs.LabelTexts.{label_after}
use Rattle.cstn_element.specs.ValueTexts.{pairs_after}
use Rattle.cstn_graphml.specs.Judged.{with_pairs}
use Rattle.std.specs.Str.Lossy.{utf8_valid_len}
use Rattle.cstn_label.specs.Labels.{empty, with_mark}
use Rattle.cstn_label.specs.declared.marks.Mark.TheVariants.{Yes, No}
use Rattle.cstn_element.specs.Elements.{passed, read_by}
use Rattle.cstn_element.specs.Contents.{contents}
use Rattle.cstn_graphml.specs.Document.{document}
use Rattle.cstn_element.specs.Results.Refusal.{not_utf8, shape, name_twice, unknown_node, bad_value, label_text, contingent, edge_type, no_deadline}
use Rattle.std.specs.Str.{chars, is_utf8}
use Rattle.std.specs.Char.{encode_utf8}

fits : document (codes "<graphml><graph><node id=\"Z\"/><node id=\"X\"/><edge source=\"X\" target=\"Z\"><data key=\"LabeledValues\">{(-5, " ++ (226 ∷ (138 ∷ (161 ∷ []))) ++ codes ")}</data></edge></graph></graphml>") (Some 5) ≡ Ok (record { deadline = 5; names = (codes "Z" ∷ (codes "X" ∷ [])); observes = (None ∷ (None ∷ [])); labels = (empty ∷ (empty ∷ [])); constraints = (record { from = 1; to = 0; most = negsuc 4; label = empty } ∷ []) })
unfolding tokens_after tail_at resolved_after piece_at number_after past_first contents passed read_by label_after pairs_after with_pairs chars is_utf8 utf8_valid_len encode_utf8
fits = refl

origin_alone : document (codes "<graphml><graph></graph></graphml>") (Some 0) ≡ Ok (record { deadline = 0; names = (codes "Z" ∷ []); observes = (None ∷ []); labels = (empty ∷ []); constraints = ([]) })
unfolding tokens_after tail_at resolved_after piece_at number_after past_first contents passed read_by label_after pairs_after with_pairs chars is_utf8 utf8_valid_len encode_utf8
origin_alone = refl

cut_60 : document (codes "<graphml><graph><node id=\"Z\"/><node id=\"X\"/><edge source=\"X\"") (Some 5) ≡ Err (shape 44)
unfolding tokens_after tail_at resolved_after piece_at number_after past_first contents passed read_by label_after pairs_after with_pairs chars is_utf8 utf8_valid_len encode_utf8
cut_60 = refl

cut_72 : document (codes "<graphml><graph><node id=\"Z\"/><node id=\"X\"/><edge source=\"X\" target=\"Z\">") (Some 5) ≡ Err (shape 72)
unfolding tokens_after tail_at resolved_after piece_at number_after past_first contents passed read_by label_after pairs_after with_pairs chars is_utf8 utf8_valid_len encode_utf8
cut_72 = refl

cut_131 : document (codes "<graphml><graph><node id=\"Z\"/><node id=\"X\"/><edge source=\"X\" target=\"Z\"><data key=\"LabeledValues\">{(-5, " ++ (226 ∷ (138 ∷ (161 ∷ []))) ++ codes ")}</data></edge></graph>") (Some 5) ≡ Err (shape 131)
unfolding tokens_after tail_at resolved_after piece_at number_after past_first contents passed read_by label_after pairs_after with_pairs chars is_utf8 utf8_valid_len encode_utf8
cut_131 = refl

cut_0 : document ([]) (Some 5) ≡ Err (shape 0)
unfolding tokens_after tail_at resolved_after piece_at number_after past_first contents passed read_by label_after pairs_after with_pairs chars is_utf8 utf8_valid_len encode_utf8
cut_0 = refl

cut_98 : document (codes "<graphml><graph><node id=\"Z\"/><node id=\"X\"/><edge source=\"X\" target=\"Z\"><data key=\"LabeledValues\">") (Some 5) ≡ Err (shape 98)
unfolding tokens_after tail_at resolved_after piece_at number_after past_first contents passed read_by label_after pairs_after with_pairs chars is_utf8 utf8_valid_len encode_utf8
cut_98 = refl

cut_140 : document (codes "<graphml><graph><node id=\"Z\"/><node id=\"X\"/><edge source=\"X\" target=\"Z\"><data key=\"LabeledValues\">{(-5, " ++ (226 ∷ (138 ∷ (161 ∷ []))) ++ codes ")}</data></edge></graph></graphml") (Some 5) ≡ Err (shape 131)
unfolding tokens_after tail_at resolved_after piece_at number_after past_first contents passed read_by label_after pairs_after with_pairs chars is_utf8 utf8_valid_len encode_utf8
cut_140 = refl

cut_105 : document (codes "<graphml><graph><node id=\"Z\"/><node id=\"X\"/><edge source=\"X\" target=\"Z\"><data key=\"LabeledValues\">{(-5, " ++ (226 ∷ [])) (Some 5) ≡ Err (not_utf8 104)
unfolding tokens_after tail_at resolved_after piece_at number_after past_first contents passed read_by label_after pairs_after with_pairs chars is_utf8 utf8_valid_len encode_utf8
cut_105 = refl

cut_106 : document (codes "<graphml><graph><node id=\"Z\"/><node id=\"X\"/><edge source=\"X\" target=\"Z\"><data key=\"LabeledValues\">{(-5, " ++ (226 ∷ (138 ∷ []))) (Some 5) ≡ Err (not_utf8 104)
unfolding tokens_after tail_at resolved_after piece_at number_after past_first contents passed read_by label_after pairs_after with_pairs chars is_utf8 utf8_valid_len encode_utf8
cut_106 = refl

second_z : document (codes "<graphml><graph><node id=\"Z\"/><node id=\"Z\"/><edge source=\"X\" target=\"Z\"><data key=\"LabeledValues\">{(-5, " ++ (226 ∷ (138 ∷ (161 ∷ []))) ++ codes ")}</data></edge></graph></graphml>") (Some 5) ≡ Err (name_twice 30)
unfolding tokens_after tail_at resolved_after piece_at number_after past_first contents passed read_by label_after pairs_after with_pairs chars is_utf8 utf8_valid_len encode_utf8
second_z = refl

target_y : document (codes "<graphml><graph><node id=\"Z\"/><node id=\"X\"/><edge source=\"X\" target=\"Y\"><data key=\"LabeledValues\">{(-5, " ++ (226 ∷ (138 ∷ (161 ∷ []))) ++ codes ")}</data></edge></graph></graphml>") (Some 5) ≡ Err (unknown_node 44)
unfolding tokens_after tail_at resolved_after piece_at number_after past_first contents passed read_by label_after pairs_after with_pairs chars is_utf8 utf8_valid_len encode_utf8
target_y = refl

contingent_edge : document (codes "<graphml><graph><node id=\"Z\"/><node id=\"X\"/><edge source=\"X\" target=\"Z\"><data key=\"Type\">contingent</data><data key=\"LabeledValues\">{(-5, " ++ (226 ∷ (138 ∷ (161 ∷ []))) ++ codes ")}</data></edge></graph></graphml>") (Some 5) ≡ Err (contingent 72)
unfolding tokens_after tail_at resolved_after piece_at number_after past_first contents passed read_by label_after pairs_after with_pairs chars is_utf8 utf8_valid_len encode_utf8
contingent_edge = refl

other_type : document (codes "<graphml><graph><node id=\"Z\"/><node id=\"X\"/><edge source=\"X\" target=\"Z\"><data key=\"Type\">foo</data><data key=\"LabeledValues\">{(-5, " ++ (226 ∷ (138 ∷ (161 ∷ []))) ++ codes ")}</data></edge></graph></graphml>") (Some 5) ≡ Err (edge_type 72)
unfolding tokens_after tail_at resolved_after piece_at number_after past_first contents passed read_by label_after pairs_after with_pairs chars is_utf8 utf8_valid_len encode_utf8
other_type = refl

no_word : document (codes "<graphml><graph><node id=\"Z\"/><node id=\"X\"/><edge source=\"X\" target=\"Z\"><data key=\"LabeledValues\">{(-5, " ++ (226 ∷ (138 ∷ (161 ∷ []))) ++ codes ")}</data></edge></graph></graphml>") None ≡ Err no_deadline
unfolding tokens_after tail_at resolved_after piece_at number_after past_first contents passed read_by label_after pairs_after with_pairs chars is_utf8 utf8_valid_len encode_utf8
no_word = refl

byte_ff : document ((255 ∷ [])) (Some 5) ≡ Err (not_utf8 0)
unfolding tokens_after tail_at resolved_after piece_at number_after past_first contents passed read_by label_after pairs_after with_pairs chars is_utf8 utf8_valid_len encode_utf8
byte_ff = refl

deep : document (codes "<graphml><a><a><a><a><a><a><a><a><a><a><a><a><a><a><a><a><a><a><a><a><a><a><a><a><a><a><a><a><a><a><a><a>") (Some 5) ≡ Err (shape 102)
unfolding tokens_after tail_at resolved_after piece_at number_after past_first contents passed read_by label_after pairs_after with_pairs chars is_utf8 utf8_valid_len encode_utf8
deep = refl

many_attributes : document (codes "<graphml a0=\"\" a1=\"\" a2=\"\" a3=\"\" a4=\"\" a5=\"\" a6=\"\" a7=\"\" a8=\"\" a9=\"\" a10=\"\" a11=\"\" a12=\"\" a13=\"\" a14=\"\" a15=\"\" a16=\"\" a17=\"\" a18=\"\" a19=\"\" a20=\"\" a21=\"\" a22=\"\" a23=\"\" a24=\"\" a25=\"\" a26=\"\" a27=\"\" a28=\"\" a29=\"\" a30=\"\" a31=\"\" a32=\"\"></graphml>") (Some 5) ≡ Err (shape 0)
unfolding tokens_after tail_at resolved_after piece_at number_after past_first contents passed read_by label_after pairs_after with_pairs chars is_utf8 utf8_valid_len encode_utf8
many_attributes = refl

doctype : document (codes "<!DOCTYPE graphml>") (Some 5) ≡ Err (shape 0)
unfolding tokens_after tail_at resolved_after piece_at number_after past_first contents passed read_by label_after pairs_after with_pairs chars is_utf8 utf8_valid_len encode_utf8
doctype = refl

zero_reference : document (codes "<graphml><graph>&#0;") (Some 5) ≡ Err (shape 16)
unfolding tokens_after tail_at resolved_after piece_at number_after past_first contents passed read_by label_after pairs_after with_pairs chars is_utf8 utf8_valid_len encode_utf8
zero_reference = refl

process : document (codes "<?xml version=\"1.0\" encoding=\"UTF-8\"?>" ++ (10 ∷ []) ++ codes "<graphml xmlns=\"http://graphml.graphdrawing.org/xmlns\">" ++ (10 ∷ []) ++ codes "<key id=\"NetworkType\" for=\"graph\"><desc>Network type</desc><default>CSTN</default></key>" ++ (10 ∷ []) ++ codes "<key id=\"x\" for=\"node\"><default>0</default></key>" ++ (10 ∷ []) ++ codes "<key id=\"Obs\" for=\"node\"/>" ++ (10 ∷ []) ++ codes "<graph edgedefault=\"directed\">" ++ (10 ∷ []) ++ codes "<data key=\"NetworkType\">CSTN</data>" ++ (10 ∷ []) ++ codes "<node id=\"Z\"><data key=\"x\">10.0</data><data key=\"y\">50.5</data><data key=\"Label\">" ++ (226 ∷ (138 ∷ (161 ∷ []))) ++ codes "</data></node>" ++ (10 ∷ []) ++ codes "<node id=\"S\"><data key=\"x\">90.0</data><data key=\"Label\">" ++ (226 ∷ (138 ∷ (161 ∷ []))) ++ codes "</data></node>" ++ (10 ∷ []) ++ codes "<node id=\"P\"><data key=\"Obs\">p</data><data key=\"Label\">" ++ (226 ∷ (138 ∷ (161 ∷ []))) ++ codes "</data></node>" ++ (10 ∷ []) ++ codes "<node id=\"T\"><data key=\"Label\">" ++ (226 ∷ (138 ∷ (161 ∷ []))) ++ codes "</data></node>" ++ (10 ∷ []) ++ codes "<node id=\"E\"><data key=\"Label\">" ++ (226 ∷ (138 ∷ (161 ∷ []))) ++ codes "</data></node>" ++ (10 ∷ []) ++ codes "<edge id=\"e1\" source=\"P\" target=\"S\"><data key=\"Type\">requirement</data><data key=\"LabeledValues\">{(-5, " ++ (226 ∷ (138 ∷ (161 ∷ []))) ++ codes ") }</data></edge>" ++ (10 ∷ []) ++ codes "<edge id=\"e2\" source=\"S\" target=\"P\"><data key=\"Type\">requirement</data><data key=\"LabeledValues\">{(" ++ (226 ∷ (138 ∷ (161 ∷ []))) ++ codes ", 10) }</data></edge>" ++ (10 ∷ []) ++ codes "<edge id=\"e3\" source=\"T\" target=\"P\"><data key=\"LabeledValues\">{(-2, p) (-8, " ++ (194 ∷ (172 ∷ [])) ++ codes "p) }</data><data key=\"Type\">normal</data></edge>" ++ (10 ∷ []) ++ codes "<edge id=\"e4\" source=\"E\" target=\"T\"><data key=\"Type\">constraint</data><data key=\"LabeledValues\">{(" ++ (226 ∷ (136 ∷ (146 ∷ []))) ++ codes "3, " ++ (226 ∷ (138 ∷ (161 ∷ []))) ++ codes ")}</data></edge>" ++ (10 ∷ []) ++ codes "<edge id=\"e5\" source=\"E\" target=\"Z\"><data key=\"Type\">derived</data><data key=\"LabeledValues\">{(-9, " ++ (194 ∷ (191 ∷ [])) ++ codes "p) }</data></edge>" ++ (10 ∷ []) ++ codes "<edge id=\"e6\" source=\"Z\" target=\"E\"><data key=\"LabeledValues\">{(30, " ++ (226 ∷ (138 ∷ (161 ∷ []))) ++ codes ")}</data></edge>" ++ (10 ∷ []) ++ codes "</graph>" ++ (10 ∷ []) ++ codes "</graphml>" ++ (10 ∷ [])) (Some 40) ≡ Ok (record { deadline = 40; names = (codes "Z" ∷ (codes "S" ∷ (codes "P" ∷ (codes "T" ∷ (codes "E" ∷ []))))); observes = (None ∷ (None ∷ (Some (record { prop = 41; reaction = 1 }) ∷ (None ∷ (None ∷ []))))); labels = (empty ∷ (empty ∷ (empty ∷ (empty ∷ (empty ∷ []))))); constraints = (record { from = 2; to = 1; most = negsuc 4; label = empty } ∷ (record { from = 1; to = 2; most = pos 10; label = empty } ∷ (record { from = 3; to = 2; most = negsuc 1; label = with_mark empty 41 Yes } ∷ (record { from = 3; to = 2; most = negsuc 7; label = with_mark empty 41 No } ∷ (record { from = 4; to = 3; most = negsuc 2; label = empty } ∷ (record { from = 0; to = 4; most = pos 30; label = empty } ∷ [])))))) })
unfolding tokens_after tail_at resolved_after piece_at number_after past_first contents passed read_by label_after pairs_after with_pairs chars is_utf8 utf8_valid_len encode_utf8
process = refl

no_pairs : document (codes "<graphml><graph><node id=\"Z\"/><node id=\"X\"/><edge source=\"X\" target=\"Z\"><data key=\"LabeledValues\">{}</data></edge></graph></graphml>") (Some 5) ≡ Ok (record { deadline = 5; names = (codes "Z" ∷ (codes "X" ∷ [])); observes = (None ∷ (None ∷ [])); labels = (empty ∷ (empty ∷ [])); constraints = ([]) })
unfolding tokens_after tail_at resolved_after piece_at number_after past_first contents passed read_by label_after pairs_after with_pairs chars is_utf8 utf8_valid_len encode_utf8
no_pairs = refl

commas : document (codes "<graphml><graph><node id=\"Z\"/><node id=\"X\"/><edge source=\"X\" target=\"Z\"><data key=\"LabeledValues\">{,( ,5 ),}</data></edge></graph></graphml>") (Some 5) ≡ Ok (record { deadline = 5; names = (codes "Z" ∷ (codes "X" ∷ [])); observes = (None ∷ (None ∷ [])); labels = (empty ∷ (empty ∷ [])); constraints = (record { from = 1; to = 0; most = pos 5; label = empty } ∷ []) })
unfolding tokens_after tail_at resolved_after piece_at number_after past_first contents passed read_by label_after pairs_after with_pairs chars is_utf8 utf8_valid_len encode_utf8
commas = refl

two_numbers : document (codes "<graphml><graph><node id=\"Z\"/><node id=\"X\"/><edge source=\"X\" target=\"Z\"><data key=\"LabeledValues\">{(5, 6)}</data></edge></graph></graphml>") (Some 5) ≡ Err (bad_value 72)
unfolding tokens_after tail_at resolved_after piece_at number_after past_first contents passed read_by label_after pairs_after with_pairs chars is_utf8 utf8_valid_len encode_utf8
two_numbers = refl

no_number : document (codes "<graphml><graph><node id=\"Z\"/><node id=\"X\"/><edge source=\"X\" target=\"Z\"><data key=\"LabeledValues\">{(p, q)}</data></edge></graph></graphml>") (Some 5) ≡ Err (bad_value 72)
unfolding tokens_after tail_at resolved_after piece_at number_after past_first contents passed read_by label_after pairs_after with_pairs chars is_utf8 utf8_valid_len encode_utf8
no_number = refl

letter_twice : document (codes "<graphml><graph><node id=\"Z\"/><node id=\"X\"/><edge source=\"X\" target=\"Z\"><data key=\"LabeledValues\">{(5, pp)}</data></edge></graph></graphml>") (Some 5) ≡ Err (label_text 72)
unfolding tokens_after tail_at resolved_after piece_at number_after past_first contents passed read_by label_after pairs_after with_pairs chars is_utf8 utf8_valid_len encode_utf8
letter_twice = refl

question : document (codes "<graphml><graph><node id=\"Z\"/><node id=\"X\"/><edge source=\"X\" target=\"Z\"><data key=\"LabeledValues\">{(5, " ++ (194 ∷ (191 ∷ [])) ++ codes "p)}</data></edge></graph></graphml>") (Some 5) ≡ Err (label_text 72)
unfolding tokens_after tail_at resolved_after piece_at number_after past_first contents passed read_by label_after pairs_after with_pairs chars is_utf8 utf8_valid_len encode_utf8
question = refl

no_brace : document (codes "<graphml><graph><node id=\"Z\"/><node id=\"X\"/><edge source=\"X\" target=\"Z\"><data key=\"LabeledValues\">(5, p)</data></edge></graph></graphml>") (Some 5) ≡ Err (bad_value 72)
unfolding tokens_after tail_at resolved_after piece_at number_after past_first contents passed read_by label_after pairs_after with_pairs chars is_utf8 utf8_valid_len encode_utf8
no_brace = refl

value_before_label : document (codes "<graphml><graph><node id=\"Z\"/><node id=\"X\"/><edge source=\"X\" target=\"Z\"><data key=\"LabeledValues\">{(5, pp) (6, 7)}</data></edge></graph></graphml>") (Some 5) ≡ Err (bad_value 72)
unfolding tokens_after tail_at resolved_after piece_at number_after past_first contents passed read_by label_after pairs_after with_pairs chars is_utf8 utf8_valid_len encode_utf8
value_before_label = refl

late_origin : document (codes "<graphml><graph><node id=\"X\"/><node id=\"&#90;\"/></graph></graphml>") (Some 3) ≡ Ok (record { deadline = 3; names = (codes "Z" ∷ (codes "X" ∷ [])); observes = (None ∷ (None ∷ [])); labels = (empty ∷ (empty ∷ [])); constraints = ([]) })
unfolding tokens_after tail_at resolved_after piece_at number_after past_first contents passed read_by label_after pairs_after with_pairs chars is_utf8 utf8_valid_len encode_utf8
late_origin = refl

early_edge : document (codes "<graphml><graph><node id=\"X\"/><edge source=\"X\" target=\"Z\"/><node id=\"Z\"/></graph></graphml>") (Some 3) ≡ Err (unknown_node 30)
unfolding tokens_after tail_at resolved_after piece_at number_after past_first contents passed read_by label_after pairs_after with_pairs chars is_utf8 utf8_valid_len encode_utf8
early_edge = refl

derived_unknown : document (codes "<graphml><graph><edge source=\"Q\" target=\"R\"><data key=\"Type\">derived</data></edge></graph></graphml>") (Some 3) ≡ Ok (record { deadline = 3; names = (codes "Z" ∷ []); observes = (None ∷ []); labels = (empty ∷ []); constraints = ([]) })
unfolding tokens_after tail_at resolved_after piece_at number_after past_first contents passed read_by label_after pairs_after with_pairs chars is_utf8 utf8_valid_len encode_utf8
derived_unknown = refl

own_deadline : document (codes "<graphml><graph><data key=\"Deadline\"> 10 </data></graph></graphml>") None ≡ Ok (record { deadline = 10; names = (codes "Z" ∷ []); observes = (None ∷ []); labels = (empty ∷ []); constraints = ([]) })
unfolding tokens_after tail_at resolved_after piece_at number_after past_first contents passed read_by label_after pairs_after with_pairs chars is_utf8 utf8_valid_len encode_utf8
own_deadline = refl

word_wins : document (codes "<graphml><graph><data key=\"Deadline\">10</data></graph></graphml>") (Some 3) ≡ Ok (record { deadline = 3; names = (codes "Z" ∷ []); observes = (None ∷ []); labels = (empty ∷ []); constraints = ([]) })
unfolding tokens_after tail_at resolved_after piece_at number_after past_first contents passed read_by label_after pairs_after with_pairs chars is_utf8 utf8_valid_len encode_utf8
word_wins = refl

empty_deadline : document (codes "<graphml><graph><data key=\"Deadline\"></data></graph></graphml>") (Some 3) ≡ Err (bad_value 16)
unfolding tokens_after tail_at resolved_after piece_at number_after past_first contents passed read_by label_after pairs_after with_pairs chars is_utf8 utf8_valid_len encode_utf8
empty_deadline = refl

large_deadline : document (codes "<graphml><graph><data key=\"Deadline\">4294967296</data></graph></graphml>") (Some 3) ≡ Err (bad_value 16)
unfolding tokens_after tail_at resolved_after piece_at number_after past_first contents passed read_by label_after pairs_after with_pairs chars is_utf8 utf8_valid_len encode_utf8
large_deadline = refl

deadline_twice : document (codes "<graphml><graph><data key=\"Deadline\">1</data><data key=\"Deadline\">x</data></graph></graphml>") (Some 3) ≡ Err (shape 45)
unfolding tokens_after tail_at resolved_after piece_at number_after past_first contents passed read_by label_after pairs_after with_pairs chars is_utf8 utf8_valid_len encode_utf8
deadline_twice = refl

labelled_nodes : document (codes "<graphml><graph><node id=\"X\"><data key=\"Label\">p !q</data></node><node id=\"Z\"><data key=\"Label\">r</data></node></graph></graphml>") (Some 3) ≡ Ok (record { deadline = 3; names = (codes "Z" ∷ (codes "X" ∷ [])); observes = (None ∷ (None ∷ [])); labels = (with_mark empty 43 Yes ∷ (with_mark (with_mark empty 41 Yes) 42 No ∷ [])); constraints = [] })
unfolding tokens_after tail_at resolved_after piece_at number_after past_first contents passed read_by label_after pairs_after with_pairs chars is_utf8 utf8_valid_len encode_utf8
labelled_nodes = refl

label_form : document (codes "<graphml><graph><node id=\"X\"><data key=\"Label\">p p</data></node></graph></graphml>") (Some 3) ≡ Err (label_text 29)
unfolding tokens_after tail_at resolved_after piece_at number_after past_first contents passed read_by label_after pairs_after with_pairs chars is_utf8 utf8_valid_len encode_utf8
label_form = refl

obs_before_label : document (codes "<graphml><graph><node id=\"X\"><data key=\"Label\">pp</data><data key=\"Obs\">12</data></node></graph></graphml>") (Some 3) ≡ Err (label_text 56)
unfolding tokens_after tail_at resolved_after piece_at number_after past_first contents passed read_by label_after pairs_after with_pairs chars is_utf8 utf8_valid_len encode_utf8
obs_before_label = refl

shape_before_name : document (codes "<graphml><graph><node id=\"X\"/><node id=\"X\">t</node></graph></graphml>") (Some 3) ≡ Err (shape 43)
unfolding tokens_after tail_at resolved_after piece_at number_after past_first contents passed read_by label_after pairs_after with_pairs chars is_utf8 utf8_valid_len encode_utf8
shape_before_name = refl

blank_reference : document (codes "<graphml><graph>&#32;</graph></graphml>") (Some 3) ≡ Err (shape 16)
unfolding tokens_after tail_at resolved_after piece_at number_after past_first contents passed read_by label_after pairs_after with_pairs chars is_utf8 utf8_valid_len encode_utf8
blank_reference = refl

two_graphs : document (codes "<graphml><graph/><graph/></graphml>") (Some 3) ≡ Err (shape 17)
unfolding tokens_after tail_at resolved_after piece_at number_after past_first contents passed read_by label_after pairs_after with_pairs chars is_utf8 utf8_valid_len encode_utf8
two_graphs = refl

no_graph : document (codes "<graphml/>") (Some 3) ≡ Err (shape 0)
unfolding tokens_after tail_at resolved_after piece_at number_after past_first contents passed read_by label_after pairs_after with_pairs chars is_utf8 utf8_valid_len encode_utf8
no_graph = refl

no_graph_open : document (codes "<graphml></graphml>") (Some 3) ≡ Err (shape 9)
unfolding tokens_after tail_at resolved_after piece_at number_after past_first contents passed read_by label_after pairs_after with_pairs chars is_utf8 utf8_valid_len encode_utf8
no_graph_open = refl

two_roots : document (codes "<graphml><graph/></graphml> <a/>") (Some 3) ≡ Err (shape 28)
unfolding tokens_after tail_at resolved_after piece_at number_after past_first contents passed read_by label_after pairs_after with_pairs chars is_utf8 utf8_valid_len encode_utf8
two_roots = refl

wrong_end : document (codes "<graphml><graph></grap></graphml>") (Some 3) ≡ Err (shape 16)
unfolding tokens_after tail_at resolved_after piece_at number_after past_first contents passed read_by label_after pairs_after with_pairs chars is_utf8 utf8_valid_len encode_utf8
wrong_end = refl

no_key : document (codes "<graphml><graph><data/></graph></graphml>") (Some 3) ≡ Err (shape 16)
unfolding tokens_after tail_at resolved_after piece_at number_after past_first contents passed read_by label_after pairs_after with_pairs chars is_utf8 utf8_valid_len encode_utf8
no_key = refl

element_in_used : document (codes "<graphml><graph><data key=\"Deadline\">1<a/></data></graph></graphml>") (Some 3) ≡ Err (shape 38)
unfolding tokens_after tail_at resolved_after piece_at number_after past_first contents passed read_by label_after pairs_after with_pairs chars is_utf8 utf8_valid_len encode_utf8
element_in_used = refl

long_id : document (codes "<graphml><graph><node id=\"aaaaaaaaaaaaaaaaaaaaaaaaaaaaaaaaaaaaaaaaaaaaaaaaaaaaaaaaaaaaaaaaa\"/></graph></graphml>") (Some 3) ≡ Err (bad_value 16)
unfolding tokens_after tail_at resolved_after piece_at number_after past_first contents passed read_by label_after pairs_after with_pairs chars is_utf8 utf8_valid_len encode_utf8
long_id = refl

long_id_fits : document (codes "<graphml><graph><node id=\"aaaaaaaaaaaaaaaaaaaaaaaaaaaaaaaaaaaaaaaaaaaaaaaaaaaaaaaaaaaaaaaa\"/></graph></graphml>") (Some 3) ≡ Ok (record { deadline = 3; names = (codes "Z" ∷ (codes "aaaaaaaaaaaaaaaaaaaaaaaaaaaaaaaaaaaaaaaaaaaaaaaaaaaaaaaaaaaaaaaa" ∷ [])); observes = (None ∷ (None ∷ [])); labels = (empty ∷ (empty ∷ [])); constraints = ([]) })
unfolding tokens_after tail_at resolved_after piece_at number_after past_first contents passed read_by label_after pairs_after with_pairs chars is_utf8 utf8_valid_len encode_utf8
long_id_fits = refl

empty_id : document (codes "<graphml><graph><node id=\"\"/></graph></graphml>") (Some 3) ≡ Err (bad_value 16)
unfolding tokens_after tail_at resolved_after piece_at number_after past_first contents passed read_by label_after pairs_after with_pairs chars is_utf8 utf8_valid_len encode_utf8
empty_id = refl

after_mark : document ((239 ∷ (187 ∷ (191 ∷ []))) ++ codes "<?xml ?><graphml><graph/></graphml>" ++ (10 ∷ []) ++ codes "<!-- x -->") (Some 3) ≡ Ok (record { deadline = 3; names = (codes "Z" ∷ []); observes = (None ∷ []); labels = (empty ∷ []); constraints = ([]) })
unfolding tokens_after tail_at resolved_after piece_at number_after past_first contents passed read_by label_after pairs_after with_pairs chars is_utf8 utf8_valid_len encode_utf8
after_mark = refl

reference_0 : document (codes "<graphml><graph><node id=\"&#;\"/></graph></graphml>") (Some 3) ≡ Err (shape 16)
unfolding tokens_after tail_at resolved_after piece_at number_after past_first contents passed read_by label_after pairs_after with_pairs chars is_utf8 utf8_valid_len encode_utf8
reference_0 = refl

reference_1 : document (codes "<graphml><graph><node id=\"&#A;\"/></graph></graphml>") (Some 3) ≡ Err (shape 16)
unfolding tokens_after tail_at resolved_after piece_at number_after past_first contents passed read_by label_after pairs_after with_pairs chars is_utf8 utf8_valid_len encode_utf8
reference_1 = refl

reference_2 : document (codes "<graphml><graph><node id=\"&#xD800;\"/></graph></graphml>") (Some 3) ≡ Err (shape 16)
unfolding tokens_after tail_at resolved_after piece_at number_after past_first contents passed read_by label_after pairs_after with_pairs chars is_utf8 utf8_valid_len encode_utf8
reference_2 = refl

reference_3 : document (codes "<graphml><graph><node id=\"&#x110000;\"/></graph></graphml>") (Some 3) ≡ Err (shape 16)
unfolding tokens_after tail_at resolved_after piece_at number_after past_first contents passed read_by label_after pairs_after with_pairs chars is_utf8 utf8_valid_len encode_utf8
reference_3 = refl

reference_4 : document (codes "<graphml><graph><node id=\"&#000000065;\"/></graph></graphml>") (Some 3) ≡ Err (shape 16)
unfolding tokens_after tail_at resolved_after piece_at number_after past_first contents passed read_by label_after pairs_after with_pairs chars is_utf8 utf8_valid_len encode_utf8
reference_4 = refl

reference_5 : document (codes "<graphml><graph><node id=\"&#xg;\"/></graph></graphml>") (Some 3) ≡ Err (shape 16)
unfolding tokens_after tail_at resolved_after piece_at number_after past_first contents passed read_by label_after pairs_after with_pairs chars is_utf8 utf8_valid_len encode_utf8
reference_5 = refl

reference_6 : document (codes "<graphml><graph><node id=\"&amp\"/></graph></graphml>") (Some 3) ≡ Err (shape 16)
unfolding tokens_after tail_at resolved_after piece_at number_after past_first contents passed read_by label_after pairs_after with_pairs chars is_utf8 utf8_valid_len encode_utf8
reference_6 = refl

reference_7 : document (codes "<graphml><graph><node id=\"&AMP;\"/></graph></graphml>") (Some 3) ≡ Err (shape 16)
unfolding tokens_after tail_at resolved_after piece_at number_after past_first contents passed read_by label_after pairs_after with_pairs chars is_utf8 utf8_valid_len encode_utf8
reference_7 = refl

reference_8 : document (codes "<graphml><graph><node id=\"&#X41;\"/></graph></graphml>") (Some 3) ≡ Err (shape 16)
unfolding tokens_after tail_at resolved_after piece_at number_after past_first contents passed read_by label_after pairs_after with_pairs chars is_utf8 utf8_valid_len encode_utf8
reference_8 = refl

reference_9 : document (codes "<graphml><graph><node id=\"&;\"/></graph></graphml>") (Some 3) ≡ Err (shape 16)
unfolding tokens_after tail_at resolved_after piece_at number_after past_first contents passed read_by label_after pairs_after with_pairs chars is_utf8 utf8_valid_len encode_utf8
reference_9 = refl

reference_10 : document (codes "<graphml><graph><node id=\"&&amp;\"/></graph></graphml>") (Some 3) ≡ Err (shape 16)
unfolding tokens_after tail_at resolved_after piece_at number_after past_first contents passed read_by label_after pairs_after with_pairs chars is_utf8 utf8_valid_len encode_utf8
reference_10 = refl

references : document (codes "<graphml><graph><node id=\"&lt;&gt;&amp;&quot;&apos;&#65;&#x4a;&#00000066;&amp;lt;\"/></graph></graphml>") (Some 3) ≡ Ok (record { deadline = 3; names = (codes "Z" ∷ (codes "<>&\"'AJB&lt;" ∷ [])); observes = (None ∷ (None ∷ [])); labels = (empty ∷ (empty ∷ [])); constraints = ([]) })
unfolding tokens_after tail_at resolved_after piece_at number_after past_first contents passed read_by label_after pairs_after with_pairs chars is_utf8 utf8_valid_len encode_utf8
references = refl

-- reactions
five : document (codes "<graphml><graph><node id=\"Z\"/><node id=\"P\"><data key=\"Obs\">p</data><data key=\"Reaction\"> 5 </data></node></graph></graphml>") (Some 5) ≡ Ok (record { deadline = 5; names = (codes "Z" ∷ (codes "P" ∷ [])); observes = (None ∷ (Some (record { prop = 41; reaction = 5 }) ∷ [])); labels = (empty ∷ (empty ∷ [])); constraints = [] })
unfolding tokens_after tail_at resolved_after piece_at number_after past_first contents passed read_by label_after pairs_after with_pairs chars is_utf8 utf8_valid_len encode_utf8
five = refl

zero_ticks : document (codes "<graphml><graph><node id=\"Z\"/><node id=\"P\"><data key=\"Obs\">p</data><data key=\"Reaction\">0</data></node></graph></graphml>") (Some 5) ≡ Err (bad_value 67)
unfolding tokens_after tail_at resolved_after piece_at number_after past_first contents passed read_by label_after pairs_after with_pairs chars is_utf8 utf8_valid_len encode_utf8
zero_ticks = refl

thousand : document (codes "<graphml><graph><node id=\"Z\"><data key=\"Reaction\">1000</data><data key=\"Obs\">p</data></node></graph></graphml>") (Some 5) ≡ Ok (record { deadline = 5; names = (codes "Z" ∷ []); observes = (Some (record { prop = 41; reaction = most_reaction }) ∷ []); labels = (empty ∷ []); constraints = [] })
unfolding tokens_after tail_at resolved_after piece_at number_after past_first contents passed read_by label_after pairs_after with_pairs chars is_utf8 utf8_valid_len encode_utf8
thousand = refl

thousand_and_one : document (codes "<graphml><graph><node id=\"Z\"><data key=\"Reaction\">1001</data></node></graph></graphml>") (Some 5) ≡ Err (bad_value 29)
unfolding tokens_after tail_at resolved_after piece_at number_after past_first contents passed read_by label_after pairs_after with_pairs chars is_utf8 utf8_valid_len encode_utf8
thousand_and_one = refl

five_digits : document (codes "<graphml><graph><node id=\"Z\"><data key=\"Reaction\">00005</data></node></graph></graphml>") (Some 5) ≡ Err (bad_value 29)
unfolding tokens_after tail_at resolved_after piece_at number_after past_first contents passed read_by label_after pairs_after with_pairs chars is_utf8 utf8_valid_len encode_utf8
five_digits = refl

empty_reaction : document (codes "<graphml><graph><node id=\"Z\"><data key=\"Obs\">p</data><data key=\"Reaction\"/></node></graph></graphml>") (Some 5) ≡ Ok (record { deadline = 5; names = (codes "Z" ∷ []); observes = (Some (record { prop = 41; reaction = 1 }) ∷ []); labels = (empty ∷ []); constraints = [] })
unfolding tokens_after tail_at resolved_after piece_at number_after past_first contents passed read_by label_after pairs_after with_pairs chars is_utf8 utf8_valid_len encode_utf8
empty_reaction = refl

unobserved_reaction : document (codes "<graphml><graph><node id=\"Z\"><data key=\"Reaction\">0007</data></node></graph></graphml>") (Some 5) ≡ Ok (record { deadline = 5; names = (codes "Z" ∷ []); observes = (None ∷ []); labels = (empty ∷ []); constraints = [] })
unfolding tokens_after tail_at resolved_after piece_at number_after past_first contents passed read_by label_after pairs_after with_pairs chars is_utf8 utf8_valid_len encode_utf8
unobserved_reaction = refl

element_in_reaction : document (codes "<graphml><graph><node id=\"Z\"><data key=\"Reaction\">5<a/></data></node></graph></graphml>") (Some 5) ≡ Err (shape 51)
unfolding tokens_after tail_at resolved_after piece_at number_after past_first contents passed read_by label_after pairs_after with_pairs chars is_utf8 utf8_valid_len encode_utf8
element_in_reaction = refl

reaction_twice : document (codes "<graphml><graph><node id=\"Z\"><data key=\"Reaction\">5</data><data key=\"Reaction\">5</data></node></graph></graphml>") (Some 5) ≡ Err (shape 58)
unfolding tokens_after tail_at resolved_after piece_at number_after past_first contents passed read_by label_after pairs_after with_pairs chars is_utf8 utf8_valid_len encode_utf8
reaction_twice = refl

obs_before_reaction : document (codes "<graphml><graph><node id=\"X\"><data key=\"Reaction\">0</data><data key=\"Obs\">12</data></node></graph></graphml>") (Some 3) ≡ Err (label_text 58)
unfolding tokens_after tail_at resolved_after piece_at number_after past_first contents passed read_by label_after pairs_after with_pairs chars is_utf8 utf8_valid_len encode_utf8
obs_before_reaction = refl

reaction_before_label : document (codes "<graphml><graph><node id=\"X\"><data key=\"Label\">pp</data><data key=\"Reaction\">0</data></node></graph></graphml>") (Some 3) ≡ Err (bad_value 56)
unfolding tokens_after tail_at resolved_after piece_at number_after past_first contents passed read_by label_after pairs_after with_pairs chars is_utf8 utf8_valid_len encode_utf8
reaction_before_label = refl
