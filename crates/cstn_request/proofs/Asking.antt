-- Which files were asked for.
use Rattle.std.proofs.Common.{◌≡◌, ◌≤◌, ◌-◌, ℕ, zero, suc, Bool, true, false, List, [], ◌∷◌, ◌++◌, length, take, refl, ap, sym, ◌∙◌, subst, arith, append_assoc, inl, inr}
use Rattle.std.specs.Prelude.{◌&&◌, is_some, Option, None, Some, Result, Ok, Err}
use Rattle.std.specs.List.{list_all}
use Rattle.std.proofs.Math.Seq.{take-nil}
use Rattle.std.proofs.lemmas.List.{append-nil, take-append-le}
use Rattle.cstn_io.specs.Asked.{and_names}
use Rattle.cstn_request.specs.Asked.{AsksFileOnce, AskedFirst}
use Rattle.cstn_request.specs.Files.{AreThere}
use Rattle.cstn_request.specs.declared.reading.Unread.{Unread}
use Rattle.cstn_request.specs.declared.reading.Unread.TheVariants.{Told, ReadFault, Memory}
use Rattle.cstn_reply.specs.declared.output.Said.{Said as SaidText}

-- where all files are there, so are the first of them
all_of_first : (is_there : List ℕ → Bool) (names : List (List ℕ)) (n : ℕ) → list_all is_there names ≡ true → list_all is_there (take n names) ≡ true
all_of_first is_there [] n all = rw (take-nil n) refl
all_of_first is_there (name ∷ names) zero all = refl
all_of_first is_there (name ∷ names) (suc n) all = by_first (is_there name) (list_all is_there names) all (all_of_first is_there names n)
  where
    by_first : (here later : Bool) → (here && later) ≡ true → (later ≡ true → list_all is_there (take n names) ≡ true) → (here && list_all is_there (take n names)) ≡ true
    by_first true later all follows = follows all
    by_first false later all follows = absurd (cc)

pub first_there : (shelf : Option (List ℕ → Option (List ℕ))) (names : List (List ℕ)) (n : ℕ) → AreThere shelf names → AreThere shelf (take n names)
first_there shelf names n there = λ files e. all_of_first (λ name. is_some (files name)) names n (there files e)

-- no further name
pub and_none : (told : Option (List (List ℕ))) → told ≡ and_names told []
and_none None = refl
and_none (Some names) = ap (λ (xs : List (List ℕ)). Some xs) (sym (append-nil names))

-- further names, and then others
pub and_more : (before mid after : Option (List (List ℕ))) (names more : List (List ℕ)) → mid ≡ and_names before names → after ≡ and_names mid more → after ≡ and_names before (names ++ more)
and_more None mid after names more is later = rw (later, is) refl
and_more (Some xs) mid after names more is later = rw (later, is, append_assoc xs names more) refl

take_front : (names rest : List (List ℕ)) → take (length names) (names ++ rest) ≡ names
take_front [] rest = refl
take_front (name ∷ names) rest = ap (λ (xs : List (List ℕ)). name ∷ xs) (take_front names rest)

-- as many names as stand before one, and that one, are those names and that one
pub take_next : (names : List (List ℕ)) (name : List ℕ) (rest : List (List ℕ)) → take (suc (length names)) (names ++ name ∷ rest) ≡ names ++ name ∷ []
take_next [] name rest = refl
take_next (first ∷ names) name rest = ap (λ (xs : List (List ℕ)). first ∷ xs) (take_next names name rest)

pub one_less : (n : ℕ) → suc n - 1 ≡ n
one_less n = omega arith

module _ (shelf : Option (List ℕ → Option (List ℕ))) (before mid after : Option (List (List ℕ))) (names : List (List ℕ)) (is : mid ≡ and_names before names) (there : AreThere shelf names) where
  -- one more name was asked for, of files of which those before are there
  pub first_more : (name : List ℕ) (rest : List (List ℕ)) → after ≡ and_names mid (name ∷ []) → AskedFirst shelf before after (names ++ name ∷ rest)
  first_more name rest more = record {
    count = suc (length names);
    asked = and_more before mid after names (name ∷ []) is more ∙ ap (and_names before) (sym (take_next names name rest));
    earlier = subst (λ (n : ℕ). AreThere shelf (take n (names ++ name ∷ rest))) (sym (one_less (length names)))
        (subst (AreThere shelf) (sym (take_front names (name ∷ rest))) there);
  }

  pub first_more_some : (name : List ℕ) (rest : List (List ℕ)) (more : after ≡ and_names mid (name ∷ [])) → 1 ≤ (first_more name rest more).count
  unfolding first_more
  first_more_some name rest more = omega arith

  -- no further name was asked for
  pub first_none : (rest : List (List ℕ)) → after ≡ mid → AskedFirst shelf before after (names ++ rest)
  first_none rest same = record {
    count = length names;
    asked = same ∙ is ∙ ap (and_names before) (sym (take_front names rest));
    earlier = subst (AreThere shelf) (sym (take-append-le (length names - 1) names rest (omega arith))) (first_there shelf names (length names - 1) there);
  }

  -- one more file was to be read
  pub first_once : {T : Type 0} (name : List ℕ) (rest : List (List ℕ)) (r : Result T Unread) → AsksFileOnce name mid after r → AskedFirst shelf before after (names ++ name ∷ rest)
  first_once name rest (Ok x) asks = first_more name rest asks
  first_once name rest (Err (Told said)) asks = first_more name rest asks
  first_once name rest (Err ReadFault) asks = first_more name rest asks
  first_once name rest (Err Memory) (inl more) = first_more name rest more
  first_once name rest (Err Memory) (inr same) = first_none (name ∷ rest) same

-- a file was to be read before any other
pub only_once : {T : Type 0} (shelf : Option (List ℕ → Option (List ℕ))) (before after : Option (List (List ℕ))) (name : List ℕ) (rest : List (List ℕ)) (r : Result T Unread) → AreThere shelf [] → AsksFileOnce name before after r → AskedFirst shelf before after (name ∷ rest)
only_once shelf before after name rest r there asks = first_once shelf before before after [] (and_none before) there name rest r asks

-- of a file that is refused the name was asked for
pub once_told : (T : Type 0) (name : List ℕ) (before after : Option (List (List ℕ))) (x : Unread) (said : SaidText) → x ≡ Told said → AsksFileOnce {T = T} name before after (Err x) → after ≡ and_names before (name ∷ [])
once_told T name before after x said is asks = subst (λ (u : Unread). AsksFileOnce {T = T} name before after (Err u)) is asks

-- the first of equal names
pub first_names : (shelf : Option (List ℕ → Option (List ℕ))) (before after : Option (List (List ℕ))) (names others : List (List ℕ)) → names ≡ others → AskedFirst shelf before after names → AskedFirst shelf before after others
first_names shelf before after names others same is = subst (AskedFirst shelf before after) same is
