-- Plans in sentences by computing: why they are refused, and those without a constraint. What the others mean, a crate above has.
use Rattle.std.proofs.Common.{◌≡◌, [], ◌∷◌, ◌++◌, refl, Some, None}
use Rattle.std.specs.Prelude.{codes, Ok, Err}
use Rattle.std.specs.Str.{chars, is_utf8}
use Rattle.std.specs.Char.{encode_utf8}
use Rattle.cstn_label.specs.Labels.{empty}
use Rattle.cstn_text.specs.Parts.{parts_at}
use Rattle.cstn_text.specs.PrintedNames.{unprinted_after}
use Rattle.cstn_sentences.specs.Refusals.{wrong_word, out_of_range, stands_twice, no_name, no_letter, no_deadline}
use Rattle.cstn_sentences.specs.Words.{words_after}
use Rattle.cstn_sentences.specs.Grammar.{rest_read}
use Rattle.cstn_sentences.specs.Declarations.{declared_after}
use Rattle.cstn_sentences.specs.Meaning.{meant_after}
use Rattle.cstn_sentences.specs.Plans.{plan}

nothing : plan ([]) None ≡ Err no_deadline
unfolding parts_at unprinted_after words_after rest_read declared_after meant_after chars is_utf8 encode_utf8
nothing = refl

origin_alone : plan ([]) (Some 0) ≡ Ok (record { deadline = 0; names = (codes "Z" ∷ []); observes = (None ∷ []); labels = (empty ∷ []); constraints = [] })
unfolding parts_at unprinted_after words_after rest_read declared_after meant_after chars is_utf8 encode_utf8
origin_alone = refl

empty_range : plan (codes "deadline 9" ++ (10 ∷ []) ++ codes "step X" ++ (10 ∷ []) ++ codes "X at 6..5") None ≡ Err (out_of_range 3)
unfolding parts_at unprinted_after words_after rest_read declared_after meant_after chars is_utf8 encode_utf8
empty_range = refl

unknown : plan (codes "deadline 9" ++ (10 ∷ []) ++ codes "step X" ++ (10 ∷ []) ++ codes "Y at 5") None ≡ Err (no_name 3 (codes "Y"))
unfolding parts_at unprinted_after words_after rest_read declared_after meant_after chars is_utf8 encode_utf8
unknown = refl

step_twice : plan (codes "deadline 9" ++ (10 ∷ []) ++ codes "step X" ++ (10 ∷ []) ++ codes "step X") None ≡ Err (stands_twice 3 (codes "X"))
unfolding parts_at unprinted_after words_after rest_read declared_after meant_after chars is_utf8 encode_utf8
step_twice = refl

no_number : plan (codes "deadline 9" ++ (10 ∷ []) ++ codes "step X" ++ (10 ∷ []) ++ codes "X at five") None ≡ Err (wrong_word 3 3)
unfolding parts_at unprinted_after words_after rest_read declared_after meant_after chars is_utf8 encode_utf8
no_number = refl

no_least : plan (codes "deadline 9" ++ (10 ∷ []) ++ codes "X ..30 after Y") None ≡ Err (wrong_word 2 2)
unfolding parts_at unprinted_after words_after rest_read declared_after meant_after chars is_utf8 encode_utf8
no_least = refl

below_zero : plan (codes "deadline 9" ++ (10 ∷ []) ++ codes "X by -3") None ≡ Err (wrong_word 2 4)
unfolding parts_at unprinted_after words_after rest_read declared_after meant_after chars is_utf8 encode_utf8
below_zero = refl

two_words : plan (codes "deadline 9" ++ (10 ∷ []) ++ codes "step Log book") None ≡ Err (wrong_word 2 3)
unfolding parts_at unprinted_after words_after rest_read declared_after meant_after chars is_utf8 encode_utf8
two_words = refl

wrong_literal : plan (codes "deadline 9" ++ (10 ∷ []) ++ codes "step X if b" ++ (10 ∷ []) ++ codes "step Y if b !l") None ≡ Err (wrong_word 3 5)
unfolding parts_at unprinted_after words_after rest_read declared_after meant_after chars is_utf8 encode_utf8
wrong_literal = refl

no_letter_given : plan (codes "deadline 9" ++ (10 ∷ []) ++ codes "step X observes damage") None ≡ Err (wrong_word 2 5)
unfolding parts_at unprinted_after words_after rest_read declared_after meant_after chars is_utf8 encode_utf8
no_letter_given = refl

no_letter_of : plan (codes "deadline 9" ++ (10 ∷ []) ++ codes "step X if damage") None ≡ Err (no_letter 2 (codes "damage"))
unfolding parts_at unprinted_after words_after rest_read declared_after meant_after chars is_utf8 encode_utf8
no_letter_of = refl

no_end : plan (codes "deadline 9" ++ (10 ∷ []) ++ codes "step X" ++ (10 ∷ []) ++ codes "end of X by 3") None ≡ Err (no_name 3 (codes "X"))
unfolding parts_at unprinted_after words_after rest_read declared_after meant_after chars is_utf8 encode_utf8
no_end = refl

no_observer : plan (codes "deadline 9" ++ (10 ∷ []) ++ codes "step X" ++ (10 ∷ []) ++ codes "X after result of p") None ≡ Err (no_letter 3 (codes "p"))
unfolding parts_at unprinted_after words_after rest_read declared_after meant_after chars is_utf8 encode_utf8
no_observer = refl

no_spelling : plan (codes "deadline 9" ++ (10 ∷ []) ++ codes "step \"X\"") None ≡ Err (wrong_word 2 2)
unfolding parts_at unprinted_after words_after rest_read declared_after meant_after chars is_utf8 encode_utf8
no_spelling = refl

bad_utf8_marker : plan ((239 ∷ []) ++ (187 ∷ []) ++ (191 ∷ []) ++ codes "deadline 9" ++ (10 ∷ []) ++ codes "step X" ++ (10 ∷ [])) None ≡ Ok (record { deadline = 9; names = (codes "Z" ∷ codes "X" ∷ []); observes = (None ∷ None ∷ []); labels = (empty ∷ empty ∷ []); constraints = [] })
unfolding parts_at unprinted_after words_after rest_read declared_after meant_after chars is_utf8 encode_utf8
bad_utf8_marker = refl

open_quote : plan (codes "deadline 9" ++ (10 ∷ []) ++ codes "step \"Log book" ++ (10 ∷ [])) None ≡ Err (wrong_word 2 0)
unfolding parts_at unprinted_after words_after rest_read declared_after meant_after chars is_utf8 encode_utf8
open_quote = refl

joined_quotes : plan (codes "deadline 9" ++ (10 ∷ []) ++ codes "step \"a b\"\"c d\"" ++ (10 ∷ [])) None ≡ Err (wrong_word 2 3)
unfolding parts_at unprinted_after words_after rest_read declared_after meant_after chars is_utf8 encode_utf8
joined_quotes = refl

percent : plan (codes "deadline 9" ++ (10 ∷ []) ++ codes "step Log%20book" ++ (10 ∷ [])) None ≡ Err (wrong_word 2 2)
unfolding parts_at unprinted_after words_after rest_read declared_after meant_after chars is_utf8 encode_utf8
percent = refl

quote_name : plan (codes "deadline 9" ++ (10 ∷ []) ++ codes "step \"a%22b\"" ++ (10 ∷ [])) None ≡ Ok (record { deadline = 9; names = (codes "Z" ∷ codes "a\"b" ∷ []); observes = (None ∷ None ∷ []); labels = (empty ∷ empty ∷ []); constraints = [] })
unfolding parts_at unprinted_after words_after rest_read declared_after meant_after chars is_utf8 encode_utf8
quote_name = refl

origin_task : plan (codes "deadline 9" ++ (10 ∷ []) ++ codes "task Z 3" ++ (10 ∷ [])) None ≡ Err (no_name 2 (codes "Z"))
unfolding parts_at unprinted_after words_after rest_read declared_after meant_after chars is_utf8 encode_utf8
origin_task = refl

end_twice : plan (codes "deadline 9" ++ (10 ∷ []) ++ codes "step T.end" ++ (10 ∷ []) ++ codes "task T 3" ++ (10 ∷ [])) None ≡ Err (stands_twice 3 (codes "T.end"))
unfolding parts_at unprinted_after words_after rest_read declared_after meant_after chars is_utf8 encode_utf8
end_twice = refl

word_twice : plan (codes "deadline 9" ++ (10 ∷ []) ++ codes "step X observes damage as d" ++ (10 ∷ []) ++ codes "step Y observes damage as e" ++ (10 ∷ [])) None ≡ Err (stands_twice 3 (codes "damage"))
unfolding parts_at unprinted_after words_after rest_read declared_after meant_after chars is_utf8 encode_utf8
word_twice = refl

letter_twice : plan (codes "deadline 9" ++ (10 ∷ []) ++ codes "step X observes damage as d" ++ (10 ∷ []) ++ codes "step Y observes loss as d" ++ (10 ∷ [])) None ≡ Err (stands_twice 3 (codes "d"))
unfolding parts_at unprinted_after words_after rest_read declared_after meant_after chars is_utf8 encode_utf8
letter_twice = refl

literal_twice : plan (codes "deadline 9" ++ (10 ∷ []) ++ codes "step X if b and c and not b" ++ (10 ∷ [])) None ≡ Err (stands_twice 2 (codes "b"))
unfolding parts_at unprinted_after words_after rest_read declared_after meant_after chars is_utf8 encode_utf8
literal_twice = refl

same_letter : plan (codes "deadline 9" ++ (10 ∷ []) ++ codes "step X observes damage as d" ++ (10 ∷ []) ++ codes "step Y if damage and d" ++ (10 ∷ [])) None ≡ Err (stands_twice 3 (codes "d"))
unfolding parts_at unprinted_after words_after rest_read declared_after meant_after chars is_utf8 encode_utf8
same_letter = refl

far : plan (codes "deadline 9" ++ (10 ∷ []) ++ codes "X by 1000000001" ++ (10 ∷ [])) None ≡ Err (out_of_range 2)
unfolding parts_at unprinted_after words_after rest_read declared_after meant_after chars is_utf8 encode_utf8
far = refl

very_far : plan (codes "deadline 9" ++ (10 ∷ []) ++ codes "X by 99999999999999999999999999" ++ (10 ∷ [])) None ≡ Err (out_of_range 2)
unfolding parts_at unprinted_after words_after rest_read declared_after meant_after chars is_utf8 encode_utf8
very_far = refl

long_reaction : plan (codes "deadline 9" ++ (10 ∷ []) ++ codes "step X observes p after 1001" ++ (10 ∷ [])) None ≡ Err (out_of_range 2)
unfolding parts_at unprinted_after words_after rest_read declared_after meant_after chars is_utf8 encode_utf8
long_reaction = refl

no_reaction : plan (codes "deadline 9" ++ (10 ∷ []) ++ codes "step X observes p after 0" ++ (10 ∷ [])) None ≡ Err (out_of_range 2)
unfolding parts_at unprinted_after words_after rest_read declared_after meant_after chars is_utf8 encode_utf8
no_reaction = refl

late_clock : plan (codes "start 24:00" ++ (10 ∷ [])) None ≡ Err (out_of_range 1)
unfolding parts_at unprinted_after words_after rest_read declared_after meant_after chars is_utf8 encode_utf8
late_clock = refl

no_clock : plan (codes "start 5" ++ (10 ∷ [])) None ≡ Err (wrong_word 1 2)
unfolding parts_at unprinted_after words_after rest_read declared_after meant_after chars is_utf8 encode_utf8
no_clock = refl

alone_start : plan (codes "start" ++ (10 ∷ [])) None ≡ Err (wrong_word 1 2)
unfolding parts_at unprinted_after words_after rest_read declared_after meant_after chars is_utf8 encode_utf8
alone_start = refl

clock_order : plan (codes "start 22:00" ++ (10 ∷ []) ++ codes "deadline 9" ++ (10 ∷ []) ++ codes "step X" ++ (10 ∷ []) ++ codes "X at 21:00..23:00 if q" ++ (10 ∷ [])) None ≡ Err (out_of_range 4)
unfolding parts_at unprinted_after words_after rest_read declared_after meant_after chars is_utf8 encode_utf8
clock_order = refl

second_deadline : plan (codes "deadline 9" ++ (10 ∷ []) ++ codes "deadline 9" ++ (10 ∷ [])) None ≡ Err (stands_twice 2 (codes "deadline"))
unfolding parts_at unprinted_after words_after rest_read declared_after meant_after chars is_utf8 encode_utf8
second_deadline = refl
