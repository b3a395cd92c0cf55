-- Worked plans: the networks that they mean, and a step Z declared twice.
use Rattle.std.proofs.Common.{◌≡◌, [], ◌∷◌, ◌++◌, refl, Some, None}
use Rattle.std.specs.Prelude.{codes, Ok, Err, pos, negsuc}
use Rattle.std.specs.Str.{chars, is_utf8}
use Rattle.std.specs.Char.{encode_utf8}
use Rattle.cstn_label.specs.Labels.{empty, with_mark}
use Rattle.cstn_label.specs.declared.marks.Mark.TheVariants.{Yes, No}
use Rattle.cstn_text.specs.Parts.{parts_at}
use Rattle.cstn_text.specs.PrintedNames.{unprinted_after}
use Rattle.cstn_sentences.specs.Words.{words_after}
use Rattle.cstn_sentences.specs.Grammar.{rest_read}
use Rattle.cstn_sentences.specs.Declarations.{declared_after}
use Rattle.cstn_sentences.specs.Meaning.{meant_after}
use Rattle.cstn_sentences.specs.Plans.{plan}
use Rattle.cstn_sentences.specs.Refusals.{out_of_range, stands_twice}

one_edge : plan (codes "deadline 9" ++ (10 ∷ []) ++ codes "step X" ++ (10 ∷ []) ++ codes "X at 5..") None ≡ Ok (record { deadline = 9; names = (codes "Z" ∷ codes "X" ∷ []); observes = (None ∷ None ∷ []); labels = (empty ∷ empty ∷ []); constraints = (record { from = 1; to = 0; most = negsuc 4; label = empty } ∷ []) })
unfolding parts_at unprinted_after words_after rest_read declared_after meant_after chars is_utf8 encode_utf8
one_edge = refl

unobserved : plan (codes "deadline 9" ++ (10 ∷ []) ++ codes "step X" ++ (10 ∷ []) ++ codes "X 5 after X if p") None ≡ Ok (record { deadline = 9; names = (codes "Z" ∷ codes "X" ∷ []); observes = (None ∷ None ∷ []); labels = (empty ∷ empty ∷ []); constraints = (record { from = 1; to = 1; most = negsuc 4; label = with_mark empty 41 Yes } ∷ record { from = 1; to = 1; most = pos 5; label = with_mark empty 41 Yes } ∷ []) })
unfolding parts_at unprinted_after words_after rest_read declared_after meant_after chars is_utf8 encode_utf8
unobserved = refl

many : plan (codes "deadline 9" ++ (10 ∷ []) ++ codes "step S observes damage as d after 0:05" ++ (10 ∷ []) ++ codes "task T 3..4" ++ (10 ∷ []) ++ codes "step X" ++ (10 ∷ []) ++ codes "X within 2 after result of damage and T" ++ (10 ∷ []) ++ codes "T by 8" ++ (10 ∷ []) ++ codes "T after S" ++ (10 ∷ []) ++ codes "end of T 1.. after start of T if not damage" ++ (10 ∷ []) ++ codes "X with S") None ≡ Ok (record { deadline = 9; names = (codes "Z" ∷ codes "S" ∷ codes "T" ∷ codes "T.end" ∷ codes "X" ∷ []); observes = (None ∷ Some (record { prop = 29; reaction = 5 }) ∷ None ∷ None ∷ None ∷ []); labels = (empty ∷ empty ∷ empty ∷ empty ∷ empty ∷ []); constraints = (record { from = 3; to = 2; most = negsuc 2; label = empty } ∷ record { from = 2; to = 3; most = pos 4; label = empty } ∷ record { from = 4; to = 1; most = negsuc 4; label = empty } ∷ record { from = 1; to = 4; most = pos 7; label = empty } ∷ record { from = 4; to = 3; most = pos 0; label = empty } ∷ record { from = 3; to = 4; most = pos 2; label = empty } ∷ record { from = 0; to = 3; most = pos 8; label = empty } ∷ record { from = 2; to = 1; most = pos 0; label = empty } ∷ record { from = 3; to = 2; most = negsuc 0; label = with_mark empty 29 No } ∷ record { from = 4; to = 1; most = pos 0; label = empty } ∷ record { from = 1; to = 4; most = pos 0; label = empty } ∷ []) })
unfolding parts_at unprinted_after words_after rest_read declared_after meant_after chars is_utf8 encode_utf8
many = refl

clock : plan (codes "start 22:00" ++ (10 ∷ []) ++ codes "deadline 6:00" ++ (10 ∷ []) ++ codes "step X" ++ (10 ∷ []) ++ codes "X by 5:30" ++ (10 ∷ []) ++ codes "X at 23:00..1:00" ++ (10 ∷ []) ++ codes "X 1:00.. after Z" ++ (10 ∷ [])) None ≡ Ok (record { deadline = 480; names = (codes "Z" ∷ codes "X" ∷ []); observes = (None ∷ None ∷ []); labels = (empty ∷ empty ∷ []); constraints = (record { from = 0; to = 1; most = pos 450; label = empty } ∷ record { from = 1; to = 0; most = negsuc 59; label = empty } ∷ record { from = 0; to = 1; most = pos 180; label = empty } ∷ record { from = 1; to = 0; most = negsuc 59; label = empty } ∷ []) })
unfolding parts_at unprinted_after words_after rest_read declared_after meant_after chars is_utf8 encode_utf8
clock = refl

pathway : plan (codes "# A patient comes with fever. Minutes from the arrival." ++ (10 ∷ []) ++ codes "deadline 360" ++ (10 ∷ []) ++ codes "step Sample observes infection as i after 60     # the laboratory takes up to 60" ++ (10 ∷ []) ++ codes "step Antibiotic if infection" ++ (10 ∷ []) ++ codes "step Review" ++ (10 ∷ []) ++ codes "step Discharge" ++ (10 ∷ []) ++ codes "Sample by 15" ++ (10 ∷ []) ++ codes "Antibiotic 65..90 after Sample if infection" ++ (10 ∷ []) ++ codes "Review 120.. after Antibiotic if infection" ++ (10 ∷ []) ++ codes "Review 80..120 after Sample if not infection" ++ (10 ∷ []) ++ codes "Discharge 10.. after Review" ++ (10 ∷ []) ++ codes "Discharge by 360" ++ (10 ∷ [])) None ≡ Ok (record { deadline = 360; names = (codes "Z" ∷ codes "Sample" ∷ codes "Antibiotic" ∷ codes "Review" ∷ codes "Discharge" ∷ []); observes = (None ∷ Some (record { prop = 34; reaction = 60 }) ∷ None ∷ None ∷ None ∷ []); labels = (empty ∷ empty ∷ with_mark empty 34 Yes ∷ empty ∷ empty ∷ []); constraints = (record { from = 0; to = 1; most = pos 15; label = empty } ∷ record { from = 2; to = 1; most = negsuc 64; label = with_mark empty 34 Yes } ∷ record { from = 1; to = 2; most = pos 90; label = with_mark empty 34 Yes } ∷ record { from = 3; to = 2; most = negsuc 119; label = with_mark empty 34 Yes } ∷ record { from = 3; to = 1; most = negsuc 79; label = with_mark empty 34 No } ∷ record { from = 1; to = 3; most = pos 120; label = with_mark empty 34 No } ∷ record { from = 4; to = 3; most = negsuc 9; label = empty } ∷ record { from = 0; to = 4; most = pos 360; label = empty } ∷ []) })
unfolding parts_at unprinted_after words_after rest_read declared_after meant_after chars is_utf8 encode_utf8
pathway = refl

night : plan (codes "start 22:00" ++ (10 ∷ []) ++ codes "deadline 10:00" ++ (10 ∷ []) ++ codes "task Dock 10..15" ++ (10 ∷ []) ++ codes "task Borescope 60..75 observes damage as d after 0:20" ++ (10 ∷ []) ++ codes "task Blend 45..60 if damage and not replaced" ++ (10 ∷ []) ++ codes "Borescope after Dock" ++ (10 ∷ []) ++ codes "Blend within 30 after result of damage" ++ (10 ∷ []) ++ codes "step R observes replaced as r" ++ (10 ∷ []) ++ codes "Dock by 06:00" ++ (10 ∷ [])) None ≡ Ok (record { deadline = 720; names = (codes "Z" ∷ codes "Dock" ∷ codes "Dock.end" ∷ codes "Borescope" ∷ codes "Borescope.end" ∷ codes "Blend" ∷ codes "Blend.end" ∷ codes "R" ∷ []); observes = (None ∷ None ∷ None ∷ None ∷ Some (record { prop = 29; reaction = 20 }) ∷ None ∷ None ∷ Some (record { prop = 43; reaction = 1 }) ∷ []); labels = (empty ∷ empty ∷ empty ∷ empty ∷ empty ∷ with_mark (with_mark empty 29 Yes) 43 No ∷ with_mark (with_mark empty 29 Yes) 43 No ∷ empty ∷ []); constraints = (record { from = 2; to = 1; most = negsuc 9; label = empty } ∷ record { from = 1; to = 2; most = pos 15; label = empty } ∷ record { from = 4; to = 3; most = negsuc 59; label = empty } ∷ record { from = 3; to = 4; most = pos 75; label = empty } ∷ record { from = 6; to = 5; most = negsuc 44; label = empty } ∷ record { from = 5; to = 6; most = pos 60; label = empty } ∷ record { from = 3; to = 2; most = pos 0; label = empty } ∷ record { from = 5; to = 4; most = negsuc 19; label = empty } ∷ record { from = 4; to = 5; most = pos 50; label = empty } ∷ record { from = 0; to = 2; most = pos 480; label = empty } ∷ []) })
unfolding parts_at unprinted_after words_after rest_read declared_after meant_after chars is_utf8 encode_utf8
night = refl

quotes : plan (codes "deadline 9" ++ (10 ∷ []) ++ codes "step \"Log book\"" ++ (10 ∷ []) ++ codes "\"Log book\" by 3 # to be \"done" ++ (10 ∷ [])) None ≡ Ok (record { deadline = 9; names = (codes "Z" ∷ codes "Log book" ∷ []); observes = (None ∷ None ∷ []); labels = (empty ∷ empty ∷ []); constraints = (record { from = 0; to = 1; most = pos 3; label = empty } ∷ []) })
unfolding parts_at unprinted_after words_after rest_read declared_after meant_after chars is_utf8 encode_utf8
quotes = refl

keyword_name : plan (codes "deadline 9" ++ (10 ∷ []) ++ codes "step \"at\"" ++ (10 ∷ []) ++ codes "\"at\" by 3" ++ (10 ∷ [])) None ≡ Ok (record { deadline = 9; names = (codes "Z" ∷ codes "at" ∷ []); observes = (None ∷ None ∷ []); labels = (empty ∷ empty ∷ []); constraints = (record { from = 0; to = 1; most = pos 3; label = empty } ∷ []) })
unfolding parts_at unprinted_after words_after rest_read declared_after meant_after chars is_utf8 encode_utf8
keyword_name = refl

origin_observes : plan (codes "deadline 9" ++ (10 ∷ []) ++ codes "step Z observes p after 3" ++ (10 ∷ []) ++ codes "step X" ++ (10 ∷ []) ++ codes "X after result of p if p" ++ (10 ∷ [])) None ≡ Ok (record { deadline = 9; names = (codes "Z" ∷ codes "X" ∷ []); observes = (Some (record { prop = 41; reaction = 3 }) ∷ None ∷ []); labels = (empty ∷ empty ∷ []); constraints = (record { from = 1; to = 0; most = negsuc 2; label = with_mark empty 41 Yes } ∷ []) })
unfolding parts_at unprinted_after words_after rest_read declared_after meant_after chars is_utf8 encode_utf8
origin_observes = refl

too_far : plan (codes "deadline 9" ++ (10 ∷ []) ++ codes "step X observes p" ++ (10 ∷ []) ++ codes "X 1000000000 after result of p" ++ (10 ∷ [])) None ≡ Err (out_of_range 3)
unfolding parts_at unprinted_after words_after rest_read declared_after meant_after chars is_utf8 encode_utf8
too_far = refl

clock_of_day : plan (codes "start 22:00" ++ (10 ∷ []) ++ codes "deadline 24:00" ++ (10 ∷ []) ++ codes "step X" ++ (10 ∷ []) ++ codes "X at -1:00..25:00" ++ (10 ∷ [])) None ≡ Ok (record { deadline = 1440; names = (codes "Z" ∷ codes "X" ∷ []); observes = (None ∷ None ∷ []); labels = (empty ∷ empty ∷ []); constraints = (record { from = 1; to = 0; most = pos 60; label = empty } ∷ record { from = 0; to = 1; most = pos 1500; label = empty } ∷ []) })
unfolding parts_at unprinted_after words_after rest_read declared_after meant_after chars is_utf8 encode_utf8
clock_of_day = refl

origin_twice : plan (codes "deadline 9" ++ (10 ∷ []) ++ codes "step Z" ++ (10 ∷ []) ++ codes "task Z 3" ++ (10 ∷ [])) None ≡ Err (stands_twice 3 (codes "Z"))
unfolding parts_at unprinted_after words_after rest_read declared_after meant_after chars is_utf8 encode_utf8
origin_twice = refl
