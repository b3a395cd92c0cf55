use Rattle.std.proofs.Common.{◌≡◌, true, false, arith}
use Rattle.std.proofs.lemmas.Bool.{both_ways}
use Rattle.cstn_check.proofs.Halves.{last_found}
use Rattle.cstn_check.proofs.search_laws.halving_finds_last_moments.Goals as goal

pub returns : goal.returns
returns c says goes s t right earlier low high short is =
    last_found says (λ u. goes u ≡ true) s.high (λ u upto e. right u true e) (λ u upto e went. both_ways (goes u) (right u false e) went) earlier 20 s t
    (record { low = low; high = high; upto = omega arith }) short is
